use Rattle.std.proofs.Common.{◌≡◌, ◌+◌, ◌-◌, ℕ, List, ◌++◌, length, take, drop, bit_or, sym, ap, ◌∙◌, arith}
use Rattle.std.specs.Simd.Lanes.{put_chunk, zip2}
use Rattle.std.proofs.lemmas.Simd.{put_chunk_is}
use Rattle.cb_pool.proofs.Rows.{take_within, united_length}
use Rattle.cb_pool.proofs.block.unite_with_earlier.Goals as goal

pub returns : goal.returns
returns c =
    let words = c.args.words.now in
    let at = c.args.at in
    let width = c.args.width in
    let later = c.args.later in
    let front = c.split_at_mut-front.result.0.now in
    let back = c.split_at_mut-front.result.1.now in
    let parts = c.split_at_mut-front.ensures in
    let fits = c.requires.within in
    let apart = c.requires.apart in
    let y : List ℕ = zip2 bit_or (take width (drop later words)) (take width (drop at words)) in
    let is : c.or_into.new.a ≡ y =
    c.or_into.ensures.union
    ∙ ap (λ (f : List ℕ). zip2 bit_or (take width back) (take (at + width - at) (drop at f))) parts.front
    ∙ ap (λ (a : List ℕ). zip2 bit_or (take width back) a) (take_within at width later words apart (omega arith))
    ∙ ap (λ (b : List ℕ). zip2 bit_or (take width b) (take width (drop at words))) parts.back in
    let long : length y ≡ width = united_length later at width words fits (omega arith) in
    ap (λ (l : List ℕ). front ++ (l ++ drop width back)) is
    ∙ ap (λ (f : List ℕ). f ++ (y ++ drop width back)) parts.front
    ∙ ap (λ (b : List ℕ). take later words ++ (y ++ drop width b)) parts.back
    ∙ ap (λ (n : ℕ). take later words ++ (y ++ drop n (drop later words))) (sym long)
    ∙ sym (put_chunk_is later words y (omega arith))
