-- Parents can be followed in valid levels.
use Rattle.std.proofs.Common.{◌≡◌, ℕ, zero, suc, ◌-◌, ◌<◌, ◌≤◌, length, subst, sym, ap, ◌∙◌, arith, Some}
use Rattle.std.specs.Prelude.{slice_get}
use Rattle.std.proofs.lemmas.Option.{same_Some, slice_get_within}
use Rattle.cb_model.specs.declared.node.NodeName.{NodeName}
use Rattle.cb_network.specs.Topology.{Topology}
use Rattle.cb_validity.specs.Spans.{StandsFor}
use Rattle.cb_levels.specs.declared.levels.LevelEntry.{LevelEntry}
use Rattle.cb_levels.specs.declared.levels.Levels.{Levels}
use Rattle.cb_levels.specs.Valid.{AreLevelsOf, AreValidLevels}
use Rattle.cb_levels.specs.Trails.{CanBeFollowed}

-- a number that stands for a node is one of theirs
number_within : (levels : Levels) (number : ℕ) (node : NodeName) → StandsFor levels.nodes number node → (0 < number) × (number ≤ length levels.nodes)
number_within levels number node stands =
    let some = stands.counted in
    let low = slice_get_within levels.nodes (number - 1) node stands.is in
    (some, omega arith)

module _ (t : Topology) (root : NodeName) (levels : Levels) (are : AreLevelsOf t root levels) where
  numbers : (position : ℕ) (entry : LevelEntry) → slice_get levels.entries position ≡ Some entry → (0 < entry.node) × (entry.node ≤ length levels.nodes)
  numbers zero entry at =
      let begins = are.begins in
      let first = begins.first in
      let same : begins.entry ≡ entry = same_Some begins.entry entry (sym first.is ∙ at) in
      number_within levels entry.node root (subst (λ (e : LevelEntry). StandsFor levels.nodes e.node root) same first.names)
  numbers (suc k) entry at =
      let has = are.parents (suc k) entry (omega arith) at in
      number_within levels entry.node has.target has.to_is

  pub followed : CanBeFollowed levels
  followed =
      let begins = are.begins in
      let first = begins.first in
      record {
        some = slice_get_within levels.entries 0 begins.entry first.is;
        first = λ entry at. ap (λ (e : LevelEntry). e.parent) (same_Some entry begins.entry (sym at ∙ first.is)) ∙ begins.alone;
        later = λ position entry low at. let has = are.parents position entry low at in (has.counted, has.earlier);
        numbers = numbers;
      }

pub valid_can_be_followed : (t : Topology) (levels : Levels) → AreValidLevels t levels → CanBeFollowed levels
valid_can_be_followed t levels valid = followed t valid.0 levels valid.1
