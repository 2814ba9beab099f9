-- Sets of instances, and what a row or a list gains.
use Rattle.std.specs.Prelude.{◌≡◌, ◌↔◌, ◌⊎◌, ℕ, Bool, List, length, Some, slice_get}
use Rattle.std.specs.List.{Contains}
use Rattle.cb_instances.specs.declared.id.InstanceId.{InstanceId}
use Rattle.cb_successors.specs.Rows.{Has, ones}

-- the list has each instance that the row has, once
pub record IsListed (list : List InstanceId) (row : List Bool) : Type 0 where
  pub each : (id : InstanceId) → Contains list id ↔ Has row id.0
  pub once : length list ≡ ones row

-- each item of the first list has the same position in the second
abbrev pub IsPrefix : {X : Type 0} → List X → List X → Type 0
IsPrefix {X} old new = (place : ℕ) (x : X) → slice_get old place ≡ Some x → slice_get new place ≡ Some x

-- what holds of a number now held before, or the relation P has it with some item of the list
abbrev pub AddsNumbersOf : {X : Type 0} → (ℕ → Type 0) → (ℕ → Type 0) → List X → (X → ℕ → Type 0) → Type 0
AddsNumbersOf {X} before now items P = (k : ℕ) → now k ↔ (before k ⊎ ((x : X) × Contains items x × P x k))

-- the row has what it had, and what is so for some item of the list
abbrev pub RowGains : {X : Type 0} → List Bool → List Bool → List X → (X → ℕ → Type 0) → Type 0
RowGains old new items P = AddsNumbersOf (Has old) (Has new) items P

-- the list of numbers has what it had, and what is so for some item of the other
abbrev pub AddsItems : {X : Type 0} → List ℕ → List ℕ → List X → (X → ℕ → Type 0) → Type 0
AddsItems old new items P = AddsNumbersOf (Contains old) (Contains new) items P

-- the instance has this number
abbrev pub IsNumber : InstanceId → ℕ → Type 0
IsNumber id k = id.0 ≡ k
