use Rattle.std.proofs.Common.{◌≡◌, bit_xor, bit_or, ap, ◌∙◌, sym, arith}
use Rattle.std.specs.Simd.Lanes.{chunk, fold_l, zip2}
use Rattle.std.proofs.lemmas.Bool.{eqb-true, eq-eqb}
use Rattle.cb_lanes.proofs.Lanes.{same_here, here_same}
use Rattle.cb_lanes.proofs.four.same_four.Goals as goal

pub returns : goal.returns
returns c =
    let a = c.args.a.now in
    let b = c.args.b.now in
    let at = c.args.at in
    let loaded : fold_l bit_or 0 (zip2 bit_xor c.load.result c.load-2.result) ≡ fold_l bit_or 0 (zip2 bit_xor (chunk at 4 a) (chunk at 4 b)) =
    ap (λ v. fold_l bit_or 0 (zip2 bit_xor v c.load-2.result)) c.load.ensures ∙ ap (λ w. fold_l bit_or 0 (zip2 bit_xor (chunk at 4 a) w)) c.load-2.ensures in (
      λ none. same_here a b at c.requires.first c.requires.second (λ k. let f = c.type_inv.a k in omega arith) (λ k. let f = c.type_inv.b k in omega arith) (sym loaded ∙ eqb-true _ 0 none),
      λ all. eq-eqb _ 0 (loaded ∙ here_same a b at c.requires.first c.requires.second all),
    )
