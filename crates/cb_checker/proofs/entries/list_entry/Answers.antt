use Rattle.std.proofs.Common.{◌+◌, ◌-◌, sym, ap, subst, ◌∙◌, arith}
use Rattle.std.specs.Prelude.{Err}
use Rattle.std.specs.List.{All, Contains}
use Rattle.std.proofs.lemmas.Bool.{false≢true}
use Rattle.std.proofs.lemmas.List.Elements.{Contains-push}
use Rattle.cb_validity.specs.declared.verdict.Rejected.TheVariants.{Repeated}
use Rattle.cb_validity.specs.Checks.{Judges, Passes, entry_checks}
use Rattle.cb_topo.specs.Numbered.{topology_of}
use Rattle.cb_checker.specs.Listed.{IsPlaced, ArePlaced}
use Rattle.cb_checker.specs.Reasons.{AreStated}
use Rattle.cb_checker.specs.Spans.{asked}
use Rattle.cb_checker.proofs.Joined.{exit}
use Rattle.cb_checker.proofs.Entering.{placed_more, listed_more}
use Rattle.cb_checker.proofs.Stating.{stated_placed, listed_fails, new_passes, stated_upto, stated_more}
use Rattle.cb_checker.proofs.entries.list_entry.Goals as goal

pub returns-in_err-reason-clause-judges : goal.returns-in_err-reason-clause-judges
returns-in_err-reason-clause-judges c = λ n led whole root known.
    exit (Judges (topology_of n) whole (entry_checks (asked c.args.before root c.args.span.now) c.args.place)) c.from_residual.result c.in_err-reason.field-0.0
    c.from_residual.ensures.1 (c.in_err-reason.ensures.judges n whole root known)

pub returns-in_err-reason-clause-stated : goal.returns-in_err-reason-clause-stated
returns-in_err-reason-clause-stated c =
    stated_upto c.args.ids.now c.args.span.now c.args.place (c.args.place + 1) c.args.marks.now.reasons.items (omega arith) c.requires.stated

pub returns-in_default-clause-stated : goal.returns-in_default-clause-stated
returns-in_default-clause-stated c =
    subst (AreStated c.args.ids.now c.args.span.now (c.args.place + 1)) (sym c.in_default.ensures.items)
    (stated_upto c.args.ids.now c.args.span.now c.args.place (c.args.place + 1) c.args.marks.now.reasons.items (omega arith) c.requires.stated)

pub returns-then-get-clause-judges : goal.returns-then-get-clause-judges
returns-then-get-clause-judges c = λ n led whole root known.
    let span = c.args.span.now in
    let reason = c.in_ok-reason.reason in
    let at = c.in_ok-reason.ensures.place in
    let old = c.args.marks.now.reasons.items in
    let there = subst (λ xs. Contains xs reason) (sym c.in-Ok.ensures.items) (Contains-push old reason) in
    let placed = c.args.marks.now.placed.items in
    subst (λ k. Judges (topology_of n) whole (entry_checks (asked c.args.before root span) k) (Err (Repeated (c.args.before + reason.place + 1)))) at
    (listed_fails n c.args.ids.now whole known c.args.before root span reason c.in_ok-reason.ensures.stated (led reason there at) c.args.marks.now.listed placed
    (subst (λ k. ArePlaced c.args.ids.now span k placed) (sym at) c.requires.placed) c.requires.listed (sym c.get.ensures ∙ c.if-get.true))

pub returns-then-get-clause-stated : goal.returns-then-get-clause-stated
returns-then-get-clause-stated c =
    subst (AreStated c.args.ids.now c.args.span.now (c.args.place + 1)) (sym c.in-Ok.ensures.items)
    (stated_more c.args.ids.now c.args.span.now c.args.place c.args.marks.now.reasons.items c.in_ok-reason.reason c.requires.stated
    c.in_ok-reason.ensures.place c.in_ok-reason.ensures.stated)

pub returns-in_default-add-clause-stated : goal.returns-in_default-add-clause-stated
returns-in_default-add-clause-stated c =
    subst (AreStated c.args.ids.now c.args.span.now (c.args.place + 1)) (sym (ap (λ v. v.items) c.in_default-add.ensures.reasons ∙ c.in-Ok.ensures.items))
    (stated_more c.args.ids.now c.args.span.now c.args.place c.args.marks.now.reasons.items c.in_ok-reason.reason c.requires.stated
    c.in_ok-reason.ensures.place c.in_ok-reason.ensures.stated)

pub returns-clause-judges : goal.returns-clause-judges
returns-clause-judges c = λ n led whole root known.
    let span = c.args.span.now in
    let reason = c.in_ok-reason.reason in
    let at = c.in_ok-reason.ensures.place in
    let old = c.args.marks.now.reasons.items in
    let there = subst (λ xs. Contains xs reason) (sym (ap (λ v. v.items) c.in-Ok-add.ensures.reasons ∙ c.in-Ok.ensures.items)) (Contains-push old reason) in
    let placed = c.args.marks.now.placed.items in
    subst (λ k. All (Passes (topology_of n) whole) (entry_checks (asked c.args.before root span) k)) at
    (new_passes n c.args.ids.now whole known c.args.before root span reason c.in_ok-reason.ensures.stated (led reason there at) c.args.marks.now.listed placed
    (subst (λ k. ArePlaced c.args.ids.now span k placed) (sym at) c.requires.placed) c.requires.listed
    (λ has. false≢true (sym c.if-get.false ∙ (c.get.ensures ∙ has))))

pub returns-clause-stated : goal.returns-clause-stated
returns-clause-stated c =
    subst (AreStated c.args.ids.now c.args.span.now (c.args.place + 1)) (sym (ap (λ v. v.items) c.in-Ok-add.ensures.reasons ∙ c.in-Ok.ensures.items))
    (stated_more c.args.ids.now c.args.span.now c.args.place c.args.marks.now.reasons.items c.in_ok-reason.reason c.requires.stated
    c.in_ok-reason.ensures.place c.in_ok-reason.ensures.stated)

pub returns-clause-placed : goal.returns-clause-placed
returns-clause-placed c =
    let ids = c.args.ids.now in
    let span = c.args.span.now in
    let reason = c.in_ok-reason.reason in
    let here = subst (λ k. IsPlaced ids span k reason.to) c.in_ok-reason.ensures.place (stated_placed ids span reason c.in_ok-reason.ensures.stated) in
    subst (ArePlaced ids span (c.args.place + 1)) (sym c.in-Ok-add.ensures.placed)
    (placed_more ids span c.args.place c.args.marks.now.placed.items reason.to c.requires.placed here)

pub returns-clause-listed : goal.returns-clause-listed
returns-clause-listed c =
    let reason = c.in_ok-reason.reason in
    let marks = c.args.marks.now in
    let is = c.in_ok-reason.ensures.stated in
    let within = c.requires.below (is.entry.node - 1) reason.to is.to.is in
    listed_more marks.listed c.add.new.self.listed marks.placed.items reason.to c.add.new.self.placed.items c.requires.listed within
    c.in-Ok-add.ensures.placed c.in-Ok-add.ensures.listed
