-- Nodes that rows have.
use Rattle.std.specs.Prelude.{◌≡◌, ℕ, Bool, true, false, List, slice_index_or, count_by}

-- the row has this node
abbrev pub Has : List Bool → ℕ → Type 0
Has row node = slice_index_or row node false ≡ true

-- how many nodes the row has
abbrev pub ones : List Bool → ℕ
ones row = count_by (λ has. has) row

-- the row has it, and the other row doesn't
abbrev pub IsLeft : List Bool → List Bool → ℕ → Type 0
IsLeft row other node = Has row node × (slice_index_or other node false ≡ false)

-- the row has each node of the other
abbrev pub HasAllOf : List Bool → List Bool → Type 0
HasAllOf row other = (node : ℕ) → Has other node → Has row node
