use Rattle.std.proofs.Common.{◌≡◌, List, Option, Some, slice_get, sym, ap, subst, ◌∙◌}
use Rattle.cb_model.specs.declared.node.NodeName.{NodeName}
use Rattle.cb_model.proofs.Spread.{map_there}
use Rattle.cb_chains.specs.Names.{name_by_position}
use Rattle.cb_explain.proofs.Explaining.{stands_name}
use Rattle.cb_explain.proofs.explainer.Explainer.into_names.Goals as goal

pub returns : goal.returns
returns c = λ node name is.
    let made = c.in_ok-numbering.numbering in
    let numbered = c.in_ok-numbering.ensures.all node name is.marked is.at in
    subst (λ (names : List (Option NodeName)). slice_get names node ≡ Some (Some name)) (sym c.of.ensures)
    (map_there (name_by_position made.names) made.numbers.items node numbered.number numbered.is ∙ ap Some (stands_name made.names numbered.number name numbered.stands))
