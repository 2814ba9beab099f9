-- The lines of groups with chains, one group after the other.
use Rattle.std.proofs.Common.{◌≡◌, List, [], ◌∷◌, ◌++◌, length, get_or, refl, sym, ap, ◌∙◌, append_assoc, arith}
use Rattle.std.proofs.lemmas.List.{append-nil}
use Rattle.cb_model.specs.declared.node.NamedGroup.{NamedGroup}
use Rattle.cb_report.specs.ChainTexts.{explained_group, explained_groups}
use Rattle.cb_report.specs.Laws.{GroupsAreExplainedInOrder}

none_left : (groups : List NamedGroup) → explained_groups groups [] ≡ []
none_left [] = refl
none_left (group ∷ groups) = refl

pub explained_in_order : GroupsAreExplainedInOrder
explained_in_order [] chains next other lt = absurd (omega (arith, lt))
explained_in_order (group ∷ groups) [] next other lt =
    ap (λ rest. explained_group (group, next) ++ rest) (none_left groups) ∙ append-nil (explained_group (group, next))
explained_in_order (group ∷ groups) (own ∷ chains) next other lt =
    ap (λ rest. explained_group (group, own) ++ rest) (explained_in_order groups chains next other (omega (arith, lt)))
    ∙ sym (append_assoc (explained_group (group, own)) (explained_groups groups chains) (explained_group (get_or groups (length chains) other, next)))
