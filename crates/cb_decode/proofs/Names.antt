-- Each group of a topology is called by something.
use Rattle.std.proofs.Common.{◌≡◌, ◌≢◌, ℕ, zero, suc, ◌<◌, List, [], ◌∷◌, length, refl, sym, subst, arith, Some}
use Rattle.std.specs.Prelude.{slice_get}
use Rattle.std.specs.List.{Contains}
use Rattle.std.proofs.Common.{get_or}
use Rattle.std.proofs.lemmas.List.Elements.{Contains-get_or}
use Rattle.std.proofs.lemmas.Option.{slice_get-get_or}
use Rattle.cb_model.specs.declared.node.GroupName.TheVariants.{Quiet, Least}
use Rattle.cb_model.specs.declared.node.NodeName.{NodeName}
use Rattle.cb_coding.specs.declared.group.Group.{Group}
use Rattle.cb_coding.specs.declared.group.Problem.{Problem}
use Rattle.cb_coding.specs.Groups.{IsGroup, group_of, zeros}
use Rattle.cb_finding.specs.Matrix.{IsMatrix}
use Rattle.cb_network.specs.Topology.{Topology}
use Rattle.cb_decode.specs.Names.{HasName}

first_of : {X : Type 0} (xs : List X) → xs ≢ [] → (x : X) × (slice_get xs 0 ≡ Some x)
first_of [] some = absurd (some refl)
first_of (x ∷ xs) some = (x, refl)

named_in : (problems : List Problem) (quiet : Group) (others : List Group) → ((g : Group) → Contains others g → IsGroup problems g)
    → (i : ℕ) → i < length (quiet ∷ others) → HasName (quiet ∷ others) i
named_in problems quiet others each zero within = (Quiet, refl)
named_in problems quiet others each (suc i) within =
    let none : Group = record { code = []; members = [] } in
    let g = get_or others i none in
    let inside : i < length others = omega arith in
    let is = each g (Contains-get_or others i none inside) in
    let (node, first) = first_of g.members is.some in
    (Least node, (omega arith, g, slice_get-get_or others i none inside, first))

pub has_name : (t : Topology) (columns : List NodeName) (groups : List Group) → IsMatrix t columns groups → (i : ℕ) → i < length groups → HasName groups i
has_name t columns groups is i within =
    let are = is.groups_are in
    subst (λ (gs : List Group). HasName gs i) (sym are.quiet)
    (named_in is.problems (group_of is.problems (zeros (length columns))) are.others are.each i
    (subst (λ (gs : List Group). i < length gs) are.quiet within))
