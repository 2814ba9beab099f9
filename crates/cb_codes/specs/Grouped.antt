-- Groups that problems are added to one by one.
use Rattle.std.specs.Prelude.{◌≡◌, ◌==◌, ◌⊎◌, ℕ, List, [], ◌∷◌, ◌++◌, length, Bool, Some, slice_get, slice_set}
use Rattle.std.specs.List.{AllZip}
use Rattle.cb_model.specs.declared.node.NodeName.{NodeName}
use Rattle.cb_model.specs.declared.node.NamedGroup.{NamedGroup}
use Rattle.cb_coding.specs.declared.group.Problem.{Problem}
use Rattle.cb_coding.specs.declared.group.Group.{Group}
use Rattle.cb_codes.specs.Groups.{groups_of, Fit}
use Rattle.cb_codes.specs.declared.grouping.Grouping.{Grouping}
use Rattle.cb_codes.specs.EachOnce.{HaveMarks}

-- a code with these problems
abbrev pub group : List Bool → List NodeName → Group
group code members = record { code = code; members = members }

-- the problem of this name and code
abbrev pub problem_of : NodeName → List Bool → Problem
problem_of name code = record { name = name; code = code }

-- the problem joins the group at a position, which has its code
pub record Joins (p : Problem) (old new : List Group) : Type 0 where
  pub place : ℕ
  pub joined : Group
  pub at : slice_get old place ≡ Some joined
  pub same : joined.code ≡ p.code
  pub new_is : new ≡ slice_set old place (group joined.code (joined.members ++ p.name ∷ []))

-- no group has the problem's code, and it opens one
pub record Opens (p : Problem) (old new : List Group) : Type 0 where
  pub none : (i : ℕ) (g : Group) → slice_get old i ≡ Some g → ¬ (g.code ≡ p.code)
  pub new_is : new ≡ old ++ group p.code (p.name ∷ []) ∷ []

-- a problem is added to the groups
abbrev pub AddsProblem : Problem → List Group → List Group → Type 0
AddsProblem p old new = Joins p old new ⊎ Opens p old new

-- a member joins the group at a position
pub record JoinsThere (place : ℕ) (member : NodeName) (old new : List NamedGroup) : Type 0 where
  pub joined : NamedGroup
  pub at : slice_get old place ≡ Some joined
  pub new_is : new ≡ slice_set old place (record { quiet = joined.quiet; members = joined.members ++ member ∷ [] })

-- it opens one after the last
pub record OpensLast (place : ℕ) (member : NodeName) (old new : List NamedGroup) : Type 0 where
  pub last : place ≡ length old
  pub new_is : new ≡ old ++ record { quiet = place == 0; members = member ∷ [] } ∷ []

abbrev pub TakesMember : ℕ → NodeName → List NamedGroup → List NamedGroup → Type 0
TakesMember place member old new = JoinsThere place member old new ⊎ OpensLast place member old new

-- the groups so far
abbrev pub groups_in : Grouping → List Group
groups_in grouping = groups_of grouping.codes.codes.rows grouping.named.items

-- the parts fit one another, and codes have that width
pub record FitsTogether (width : ℕ) (grouping : Grouping) : Type 0 where
  pub wide : grouping.codes.codes.width ≡ width
  pub marks : HaveMarks grouping.codes.codes.rows grouping.codes.firsts
  pub fit : Fit grouping.codes.codes.rows grouping.named.items

-- each of these problems, in order, has the position of its group
abbrev pub HoldsProblems : List Problem → Grouping → Type 0
HoldsProblems problems grouping = AllZip (λ place p. slice_get grouping.codes.codes.rows place ≡ Some p.code) grouping.places problems
