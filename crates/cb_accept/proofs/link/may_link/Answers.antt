use Rattle.std.proofs.Common.{◌≡◌, ◌∙◌, subst, sym, Some, inl, inr}
use Rattle.std.specs.List.{slice_get}
use Rattle.cb_model.specs.declared.tables.Tables.{Tables}
use Rattle.cb_instances.specs.Net.{LinkAt}
use Rattle.cb_accept.proofs.Answered.{refuted}
use Rattle.cb_accept.proofs.Firsts.{wrong_kind, linked, occupied, link_allowed}
use Rattle.cb_accept.proofs.link.may_link.Goals as goal
use Rattle.cb_accept.proofs.link.may_link.Goals.{then-is_taken, else-is_taken}

pub returns-then-not-is_of_kind-clause-refused : goal.returns-then-not-is_of_kind-clause-refused
returns-then-not-is_of_kind-clause-refused c =
    let ends = c.in_ok-from.field-0 in
    let are = c.in_ok-from.ensures.found in
    let kind = c.is_of_kind.ensures c.args.b.now are.to in
    wrong_kind c.args.net.now c.of.ensures.typed c.of.ensures.whole c.args.a.now c.args.rel.now c.args.b.now ends are
    (λ fits. refuted c.is_of_kind.result c.if-not-is_of_kind.true (kind.1 fits))

pub returns-then-is_linked-clause-refused : goal.returns-then-is_linked-clause-refused
returns-then-is_linked-clause-refused c =
    let ends = c.in_ok-from.field-0 in
    let are = c.in_ok-from.ensures.found in
    let fits = (c.is_of_kind.ensures c.args.b.now are.to).0 c.if-not-is_of_kind.false in
    linked c.args.net.now c.of.ensures.typed c.of.ensures.whole c.args.a.now c.args.rel.now c.args.b.now ends are fits (c.is_linked.ensures.0 c.if-is_linked.true)

pub returns-then-is_taken-2-clause-refused : goal.returns-then-is_taken-2-clause-refused
returns-then-is_taken-2-clause-refused c =
    let net = c.args.net.now in
    let ends = c.in_ok-from.field-0 in
    let are = c.in_ok-from.ensures.found in
    let fits = (c.is_of_kind.ensures c.args.b.now are.to).0 c.if-not-is_of_kind.false in
    let absent = λ (link : LinkAt net ends.from ends.rel ends.to). refuted c.is_linked.result c.if-is_linked.false (c.is_linked.ensures.1 link) in
    let row = subst (λ (m : Tables). slice_get m.relations ends.rel.0 ≡ Some c.at.result.now) (c.tables.ensures.value ∙ c.model.ensures.value) c.at.ensures in
    occupied net c.of.ensures.typed c.of.ensures.whole c.args.a.now c.args.rel.now c.args.b.now ends are fits absent c.at.result.now row
    (elim c.if-is_taken.branch [
      | then-is_taken w ↦ inl ((c.is_taken.ensures c.args.a.now are.from).0 w.if-is_taken.true)
      | else-is_taken w ↦ inr ((w.is_taken-else-is_taken.ensures c.args.b.now are.to).0 (sym w.value-is ∙ c.if-is_taken-2.true))
    ])

pub returns-else-is_taken-2-clause-allowed : goal.returns-else-is_taken-2-clause-allowed
returns-else-is_taken-2-clause-allowed c =
    let net = c.args.net.now in
    let ends = c.in_ok-from.field-0 in
    let are = c.in_ok-from.ensures.found in
    let fits = (c.is_of_kind.ensures c.args.b.now are.to).0 c.if-not-is_of_kind.false in
    let absent = λ (link : LinkAt net ends.from ends.rel ends.to). refuted c.is_linked.result c.if-is_linked.false (c.is_linked.ensures.1 link) in
    let row = subst (λ (m : Tables). slice_get m.relations ends.rel.0 ≡ Some c.at.result.now) (c.tables.ensures.value ∙ c.model.ensures.value) c.at.ensures in
    elim c.if-is_taken.branch [
      | then-is_taken w ↦ absurd (refuted c.if-is_taken.value c.if-is_taken-2.false (w.value-is ∙ w.if-is_taken.true))
      | else-is_taken w ↦
          link_allowed net c.of.ensures.typed c.of.ensures.whole c.args.a.now c.args.rel.now c.args.b.now ends are fits absent c.at.result.now row
          (λ taken. refuted c.is_taken.result w.if-is_taken.false ((c.is_taken.ensures c.args.a.now are.from).1 taken))
          (λ taken. refuted c.if-is_taken.value c.if-is_taken-2.false (w.value-is ∙ (w.is_taken-else-is_taken.ensures c.args.b.now are.to).1 taken))
    ]
