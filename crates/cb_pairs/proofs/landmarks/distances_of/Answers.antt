use Rattle.std.proofs.Common.{◌≡◌, ◌++◌, ◌∷◌, [], ℕ, List, Bool, length, map, take, sym, ap, ◌∙◌, arith}
use Rattle.std.proofs.lemmas.List.{take_all}
use Rattle.cb_model.proofs.Numbers.{all_at, take_more}
use Rattle.cb_coding.specs.Distance.{distance, all_columns}
use Rattle.cb_pairs.proofs.Lists.{map_push}
use Rattle.cb_pairs.proofs.landmarks.distances_of.Goals as goal

pub distance-requires : goal.distance-requires
distance-requires c = sym (all_at (λ row. length row ≡ length c.args.code.now) c.args.rows.now c.loop-place.place c.at.result.now c.at.ensures c.requires)

pub loop-place-preserved : goal.loop-place-preserved
loop-place-preserved c =
    let code = c.args.code.now in
    let rows = c.args.rows.now in
    let at = c.loop-place.place in
    let row = c.at.result.now in
    let from : List Bool → ℕ = distance (all_columns (length code)) code in
    c.in_ok-push.ensures.ok ∙ (ap (λ (ds : List ℕ). ds ++ c.distance.result ∷ []) c.loop-place.invariant
    ∙ (ap (λ (d : ℕ). map from (take at rows) ++ d ∷ []) c.distance.ensures
    ∙ (sym (map_push from (take at rows) row) ∙ ap (map from) (sym (take_more rows at row c.at.ensures)))))

pub returns : goal.returns
returns c =
    let done = c.loop-place-test.false in
    let end = c.len-place-end.ensures in
    c.loop-place.invariant ∙ ap (map (distance (all_columns (length c.args.code.now)) c.args.code.now)) (take_all c.loop-place.place c.args.rows.now (omega arith))
