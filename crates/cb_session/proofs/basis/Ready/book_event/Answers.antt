use Rattle.std.proofs.Common.{◌∙◌, ℕ, List, length, ap, subst}
use Rattle.cb_model.specs.declared.node.NamedGroup.{NamedGroup}
use Rattle.cb_nodes.specs.declared.id.NodeId.{NodeId}
use Rattle.cb_codes.proofs.Fitting.{length-named}
use Rattle.cb_coding.specs.Groups.{codes_of}
use Rattle.cb_session.specs.InUse.{HasRadiiOf, ReportsCapped}
use Rattle.cb_session.proofs.Bases.{plain_is_reported, capped_is_reported}
use Rattle.cb_session.proofs.basis.Ready.book_event.Goals as goal

pub returns-in-Plain : goal.returns-in-Plain
returns-in-Plain c = λ n mode basis has.
    let ready = c.args.self.now in
    let of = c.len-of.ensures ∙ ap (λ (columns : List NodeId). length columns) c.columns.ensures in
    let groups = c.len-groups.ensures ∙ (ap (λ (named : List NamedGroup). length named) c.groups.ensures ∙ length-named ready.matrix.groups) in
    plain_is_reported n basis ready has c.in-Plain.book c.plain_event.result c.in-Plain.is (rw (of, groups) at c.plain_event.ensures)

pub returns-in-Capped : goal.returns-in-Capped
returns-in-Capped c = λ n mode basis has.
    let ready = c.args.self.now in
    let is = c.requires.1.1 in
    let radii = subst (HasRadiiOf (length ready.matrix.columns) (codes_of ready.matrix.groups)) c.in-Capped.is is.radii in
    let of = c.len-of.ensures ∙ ap (λ (columns : List NodeId). length columns) c.columns.ensures in
    let groups = c.len-groups.ensures ∙ (ap (λ (named : List NamedGroup). length named) c.groups.ensures ∙ length-named ready.matrix.groups) in
    let reports = subst (λ (n : ℕ). ReportsCapped c.in-Capped.book (length ready.matrix.columns) n c.capped_event.result) groups
    (subst (λ (n : ℕ). ReportsCapped c.in-Capped.book n c.len-groups.result c.capped_event.result) of c.capped_event.ensures) in
    capped_is_reported n basis ready has c.in-Capped.book c.capped_event.result c.in-Capped.is radii reports
