use Rattle.std.proofs.Common.{◌≡◌, ◌+◌, ◌-◌, ℕ, List, ◌++◌, length, take, drop, bit_or, sym, ap, ◌∙◌, arith}
use Rattle.std.specs.Simd.Lanes.{put_chunk, zip2}
use Rattle.cb_pool.proofs.Rows.{mid_is_chunk, put_prefix, take_within, united_length}
use Rattle.cb_pool.proofs.block.unite_with_later.Goals as goal

pub returns : goal.returns
returns c =
    let words = c.args.words.now in
    let at = c.args.at in
    let width = c.args.width in
    let later = c.args.later in
    let front = c.split_at_mut-front.result.0.now in
    let back = c.split_at_mut-front.result.1.now in
    let parts = c.split_at_mut-front.ensures in
    let fits = c.requires.within in
    let apart = c.requires.apart in
    let y : List ℕ = zip2 bit_or (take width (drop at words)) (take width (drop later words)) in
    let is : c.or_into.new.a ≡ y =
    c.or_into.ensures.union
    ∙ ap (λ (f : List ℕ). zip2 bit_or (take (at + width - at) (drop at f)) (take width back)) parts.front
    ∙ ap (λ (a : List ℕ). zip2 bit_or a (take width back)) (take_within at width later words apart (omega arith))
    ∙ ap (λ (b : List ℕ). zip2 bit_or (take width (drop at words)) (take width b)) parts.back in
    let wide : length c.or_into.new.a ≡ width = ap length is ∙ united_length at later width words (omega arith) fits in
    let long = parts.front_len in
    ap (λ (l : List ℕ). l ++ back) (mid_is_chunk at width (at + width - at) front c.or_into.new.a (omega arith) wide (omega arith))
    ∙ sym (put_prefix at front back c.or_into.new.a (omega arith))
    ∙ ap (λ (w : List ℕ). put_chunk at w c.or_into.new.a) (sym parts.value)
    ∙ ap (put_chunk at words) is
