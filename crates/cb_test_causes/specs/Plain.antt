-- Links between sites that are named by one byte each, and what a place `feeds+` leads to over them.
use Rattle.std.specs.Prelude.{ℕ, List, Contains, true}
use Rattle.cb_network.specs.Causes.{Ahead}

-- one of the links leads from a to b
abbrev pub IsLink : List (ℕ × ℕ) → ℕ → ℕ → Type 0
IsLink links a b = Contains links (a, b)

-- any number of links lead from a to b
abbrev pub IsRun : List (ℕ × ℕ) → ℕ → ℕ → Type 0
IsRun links a b = Ahead (IsLink links) true a b

-- a place with the plus leads from a to b: any number of links, and then one
abbrev pub LeadsOn : List (ℕ × ℕ) → ℕ → ℕ → Type 0
LeadsOn links a b = (last : ℕ) × IsRun links a last × IsLink links last b
