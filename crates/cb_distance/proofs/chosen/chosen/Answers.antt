use Rattle.std.proofs.Common.{sym, ◌∙◌}
use Rattle.std.proofs.lemmas.List.Elements.{all_zip_more}
use Rattle.std.proofs.lemmas.Option.{slice_get_within, get_or_from_slice_get}
use Rattle.cb_distance.specs.Chosen.{IsOver}
use Rattle.cb_distance.proofs.chosen.chosen.Goals as goal

pub loop-place-preserved : goal.loop-place-preserved
loop-place-preserved c =
    let codes = c.args.codes.now in
    let i = c.loop-place.place in
    let code = c.row.result.now in
    let at = c.row.ensures in
    let old = c.loop-place.invariant in
    let within = slice_get_within codes.rows i code at in
    let is = sym (get_or_from_slice_get codes.rows i code code at) in (
      c.in_ok-push.ensures.width ∙ old.0,
      rw (c.in_ok-push.ensures.pushed, c.in_ok-of.ensures) (all_zip_more (IsOver c.args.columns.now) codes.rows c.loop-place.chosen.rows i code
          c.in_ok-code.code within is old.1 c.in_ok-code.ensures),
    )
