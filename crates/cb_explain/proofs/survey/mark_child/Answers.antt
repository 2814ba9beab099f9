use Rattle.std.proofs.Common.{◌≡◌, ◌+◌, inl, inr, length, refl, ap, ◌∙◌, Some, arith}
use Rattle.std.proofs.lemmas.Option.{slice_get_read, slice_get_within}
use Rattle.cb_graph.specs.Edges.{number}
use Rattle.cb_explain.proofs.Leading.{no_child, other_parent, child_marked}
use Rattle.cb_explain.proofs.survey.mark_child.Goals as goal

pub at-requires : goal.at-requires
at-requires c =
    let nodes = c.args.listed.now.nodes.items in
    let positions = c.args.listed.now.positions.items in
    let node = c.args.node in
    let at = slice_get_read positions (length positions) node c.index.result.now refl c.requires.node c.index.ensures ∙ ap Some c.in-Some.is in
    let low = slice_get_within nodes c.in-Some.position (number node) (c.requires.table.only node c.in-Some.position at) in
    let within = c.requires.within in
    omega arith

pub index_mut-requires : goal.index_mut-requires
index_mut-requires c =
    let nodes = c.args.listed.now.nodes.items in
    let positions = c.args.listed.now.positions.items in
    let node = c.args.node in
    let at = slice_get_read positions (length positions) node c.index.result.now refl c.requires.node c.index.ensures ∙ ap Some c.in-Some.is in
    let low = slice_get_within nodes c.in-Some.position (number node) (c.requires.table.only node c.in-Some.position at) in
    let capacity = c.requires.led in
    omega (arith, c.args.led.now.ok.0)

pub returns-then-at-parent-clause-led : goal.returns-then-at-parent-clause-led
returns-then-at-parent-clause-led c =
    let nodes = c.args.listed.now.nodes.items in
    let positions = c.args.listed.now.positions.items in
    let node = c.args.node in
    let at = slice_get_read positions (length positions) node c.index.result.now refl c.requires.node c.index.ensures ∙ ap Some c.in-Some.is in
    let low = slice_get_within nodes c.in-Some.position (number node) (c.requires.table.only node c.in-Some.position at) in
    let capacity = c.requires.led in
    let same : c.at.result.now.parent ≡ c.args.parent + 1 = omega (arith, c.if-at-parent.true) in
    child_marked c.args.levels.now nodes c.args.parent positions c.requires.table node c.in-Some.position at c.at.result.now c.at.ensures same c.args.led.now.items (omega arith)

pub returns-else-at-parent-clause-led : goal.returns-else-at-parent-clause-led
returns-else-at-parent-clause-led c = λ position.
    let nodes = c.args.listed.now.nodes.items in
    let positions = c.args.listed.now.positions.items in
    let node = c.args.node in
    let at = slice_get_read positions (length positions) node c.index.result.now refl c.requires.node c.index.ensures ∙ ap Some c.in-Some.is in
    let other : c.at.result.now.parent ≡ c.args.parent + 1 → ⊥ = λ same. omega (arith, same, c.if-at-parent.false) in (
      λ has. inl has,
      λ either. elim either [
        | inl has ↦ has
        | inr child ↦ absurd (other_parent c.args.levels.now nodes c.args.parent positions c.requires.table node c.in-Some.position at c.at.result.now c.at.ensures other position child)
      ],
    )

pub returns-in_default-clause-led : goal.returns-in_default-clause-led
returns-in_default-clause-led c = λ position.
    let nodes = c.args.listed.now.nodes.items in
    let positions = c.args.listed.now.positions.items in
    let node = c.args.node in
    let at = slice_get_read positions (length positions) node c.index.result.now refl c.requires.node c.index.ensures ∙ ap Some c.in_default.is in (
      λ has. inl has,
      λ either. elim either [
        | inl has ↦ has
        | inr child ↦ absurd (no_child c.args.levels.now nodes c.args.parent positions c.requires.table node at position child)
      ],
    )
