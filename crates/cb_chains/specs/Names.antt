-- Names for the numbers of nodes.
use Rattle.std.specs.Prelude.{◌≡◌, ℕ, zero, suc, List, [], map, Option, None, Some, slice_get, slice_index_or}
use Rattle.std.specs.List.{flat_map}
use Rattle.cb_model.specs.declared.node.NodeName.{NodeName}

-- the name at a position, which counts from 1; none at 0
abbrev pub name_by_position : List NodeName → ℕ → Option NodeName
name_by_position names zero = None
name_by_position names (suc i) = slice_get names i

-- the number has a name
abbrev pub IsNamedNumber : List (Option NodeName) → ℕ → Type 0
IsNamedNumber names node = (name : NodeName) × (slice_get names node ≡ Some (Some name))

abbrev pub name_or_none : Option NodeName → NodeName
name_or_none None = record { event = []; instance = [] }
name_or_none (Some name) = name

-- the name of a number; the empty one where there is none
abbrev pub name_by_number : List (Option NodeName) → ℕ → NodeName
name_by_number names node = name_or_none (slice_index_or names node None)

-- the chains of several trees, one tree after the other, with the names of their nodes
abbrev pub named_chains : List (Option NodeName) → List (List (List ℕ)) → List (List NodeName)
named_chains names trees = map (map (name_by_number names)) (flat_map (λ tree. tree) trees)
