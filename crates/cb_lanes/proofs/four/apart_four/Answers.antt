use Rattle.std.proofs.Common.{◌≡◌, bit_and, bit_or, ap, ◌∙◌, sym}
use Rattle.std.specs.Simd.Lanes.{chunk, fold_l, zip2}
use Rattle.std.proofs.lemmas.Bool.{eqb-true, eq-eqb}
use Rattle.cb_lanes.proofs.Lanes.{none_here, here_none}
use Rattle.cb_lanes.proofs.four.apart_four.Goals as goal

pub returns : goal.returns
returns c =
    let a = c.args.a.now in
    let b = c.args.b.now in
    let at = c.args.at in
    let loaded : fold_l bit_or 0 (zip2 bit_and c.load.result c.load-2.result) ≡ fold_l bit_or 0 (zip2 bit_and (chunk at 4 a) (chunk at 4 b)) =
    ap (λ v. fold_l bit_or 0 (zip2 bit_and v c.load-2.result)) c.load.ensures ∙ ap (λ w. fold_l bit_or 0 (zip2 bit_and (chunk at 4 a) w)) c.load-2.ensures in (
      λ none. none_here bit_and a b at c.requires.first c.requires.second (sym loaded ∙ eqb-true _ 0 none),
      λ all. eq-eqb _ 0 (loaded ∙ here_none bit_and a b at c.requires.first c.requires.second all),
    )
