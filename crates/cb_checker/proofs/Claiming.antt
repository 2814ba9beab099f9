-- Places of columns one by one, and groups that have problems.
use Rattle.std.proofs.Common.{◌≡◌, ◌≢◌, ℕ, zero, suc, ◌<◌, List, [], ◌∷◌, Bool, length, refl, ap, subst, Some, Option, None, IfSome, IfNone, arith}
use Rattle.std.specs.Prelude.{slice_get, Result, IfOk, false, true}
use Rattle.std.specs.Option.{IsSome}
use Rattle.std.specs.List.{Contains}
use Rattle.cb_model.proofs.Numbers.{contains_at}
use Rattle.cb_coding.specs.declared.group.Problem.{Problem}
use Rattle.cb_coding.specs.declared.group.Group.{Group}
use Rattle.cb_coding.specs.Groups.{AreGroups, codes_of}
use Rattle.cb_coding.specs.Needs.{need_of}
use Rattle.cb_coding.specs.Radii.{AreRadii}
use Rattle.cb_coding.specs.declared.book.Pair.{Pair}
use Rattle.cb_codes.specs.Codes.{Coded}
use Rattle.cb_codes.specs.Groups.{Grouped, named, named_of}
use Rattle.cb_distance.specs.Close.{IsFirstShortIfAny}
use Rattle.cb_model.specs.declared.node.NamedGroup.{NamedGroup}
use Rattle.cb_model.specs.declared.wish.Wish.{Wish}
use Rattle.cb_model.proofs.Spread.{map_at}
use Rattle.cb_nodes.specs.declared.id.NodeId.{NodeId}
use Rattle.cb_checker.specs.Claims.{HaveMembers}

some_long : {X : Type 0} (xs : List X) → xs ≢ [] → 0 < length xs
some_long [] not = absurd (not refl)
some_long (x ∷ xs) not = omega arith

-- each group after the quiet one has a problem
pub have_members : (width : ℕ) (problems : List Problem) (groups : List Group) → AreGroups width problems groups → HaveMembers groups
have_members width problems groups are = λ i g some at.
    let there = subst (λ gs. slice_get gs i ≡ Some g) are.quiet at in
    some_long g.members ((are.each g (later are.others _ i g some there)).some)
  where
    later : (others : List Group) (quiet : Group) (i : ℕ) (g : Group) → 0 < i → slice_get (quiet ∷ others) i ≡ Some g → Contains others g
    later others quiet zero g some at = absurd (omega arith)
    later others quiet (suc k) g some at = contains_at others k g at

-- no place so far has this node
abbrev pub IsNotBelow : List NodeId → NodeId → ℕ → Type 0
IsNotBelow all id to = (place : ℕ) → place < to → ¬ (slice_get all place ≡ Some id)

pub found_some : {X : Type 0} (P : X → Type 0) (found : Option X) (x : X) → found ≡ Some x → IfSome found P → P x
found_some P found x is some = subst (λ o. IfSome o P) is some

pub some_from : {X A : Type 0} (found : Option X) → IfNone found (¬ A) → A → IsSome found
some_from None none a = absurd (none a)
some_from (Some x) none a = refl

-- what holds of the codes that groups lend holds of the groups' codes
module _ (codes : Coded) (groups : Grouped) (wide : codes.width ≡ groups.width) (rows : codes.rows ≡ codes_of groups.groups) where
  at_codes : (P : ℕ → List (List Bool) → Type 0) → P codes.width codes.rows → P groups.width (codes_of groups.groups)
  at_codes P is = subst (λ xs. P groups.width xs) rows (subst (λ w. P w codes.rows) wide is)

  pub first_short_of_groups : {E : Type 0} (places : List ℕ) (wish : Wish) (result : Result (Option Pair) E)
      → IfOk result (IsFirstShortIfAny places codes.rows (need_of codes.width codes.rows wish))
      → IfOk result (IsFirstShortIfAny places (codes_of groups.groups) (need_of groups.width (codes_of groups.groups) wish))
  first_short_of_groups places wish result is = at_codes (λ w xs. IfOk result (IsFirstShortIfAny places xs (need_of w xs wish))) is

  pub radii_of_groups : {E : Type 0} (cap : ℕ) (result : Result (List ℕ) E) → IfOk result (AreRadii codes.width codes.rows cap)
      → IfOk result (AreRadii groups.width (codes_of groups.groups) cap)
  radii_of_groups cap result is = at_codes (λ w xs. IfOk result (AreRadii w xs cap)) is

-- the group at a place, by its members
pub group_named : (groups : List Group) (i : ℕ) (group : NamedGroup) → slice_get (named_of groups) i ≡ Some group
    → (g : Group) × (slice_get groups i ≡ Some g) × (g.members ≡ group.members)
group_named [] i group at = absurd (cc at)
group_named (quiet ∷ groups) zero group at = let is : named true quiet ≡ group = cc at in (quiet, refl, ap (λ (h : NamedGroup). h.members) is)
group_named (quiet ∷ groups) (suc i) group at =
    let there = map_at (named false) groups i group at in
    (there.0, there.1, ap (λ (h : NamedGroup). h.members) there.2)
