use Rattle.std.proofs.Common.{subst, sym, ap, ◌∙◌, ◌≡◌, arith, List, [], ◌∷◌, ◌++◌}
use Rattle.cb_model.specs.declared.wish.Wish.TheVariants.{Plain}
use Rattle.cb_coding.specs.declared.group.Group.{Group}
use Rattle.cb_log.specs.Basis.{AreWarnings, wanted}
use Rattle.cb_log.specs.declared.event.Event.{Event}
use Rattle.cb_decode.specs.Names.{HasName}
use Rattle.cb_session.proofs.Bases.{has_name, warned_good, warned_thin}
use Rattle.cb_session.proofs.basis.Ready.thin_warning.Goals.{in-Some+in_ok-thin+in_ok-push, in_default}
use Rattle.cb_session.proofs.basis.Ready.thin_warning.Goals as goal

pub thin-requires-clause-first : goal.thin-requires-clause-first
thin-requires-clause-first c =
    let (n, is) = c.requires in
    let pair = c.in-Some.pair in
    let close = c.in-Some.ensures.pair in
    let (below, within) = close.is_pair in
    subst (λ (gs : List Group). HasName gs pair.first) (sym c.coded_groups.ensures.groups)
    (has_name n c.args.self.now (wanted (Plain c.args.wanted)) is pair.first (omega arith))

pub thin-requires-clause-second : goal.thin-requires-clause-second
thin-requires-clause-second c =
    let (n, is) = c.requires in
    let pair = c.in-Some.pair in
    let close = c.in-Some.ensures.pair in
    let (below, within) = close.is_pair in
    subst (λ (gs : List Group). HasName gs pair.second) (sym c.coded_groups.ensures.groups)
    (has_name n c.args.self.now (wanted (Plain c.args.wanted)) is pair.second (omega arith))

pub returns : goal.returns
returns c = λ n mode basis has.
    let ready = c.args.self.now in
    let d = c.args.wanted in
    elim c.match-first_thin.branch [
      | in-Some+in_ok-thin+in_ok-push w ↦
          let reported = w.in_ok-thin.field-0 in
          let are : c.match-first_thin.events ≡ reported ∷ [] = w.events-is ∙ (w.in_ok-push.ensures.ok ∙ ap (λ (es : List Event). es ++ reported ∷ []) c.new-events.ensures) in
          let close = w.in-Some.ensures.pair in
          let names = rw w.coded_groups.ensures.groups at w.in_ok-thin.ensures in
          subst (AreWarnings basis (Plain d)) (sym are) (warned_thin n basis ready has d w.in-Some.pair reported close names)
      | in_default w ↦
          let are : c.match-first_thin.events ≡ [] = w.events-is ∙ c.new-events.ensures in
          let good = w.in_default.ensures.none in
          subst (AreWarnings basis (Plain d)) (sym are) (warned_good n basis ready has d good)
    ]
