-- Chains of edges.
use Rattle.std.specs.Prelude.{◌≡◌, ℕ, List, [], ◌∷◌}

-- there is an edge to the first of these nodes and from each to the next, and the last is `to`; without any, both are one
abbrev pub EdgeChain : (ℕ → ℕ → Type 0) → ℕ → List ℕ → ℕ → Type 0
EdgeChain edge from [] to = from ≡ to
EdgeChain edge from (next ∷ rest) to = edge from next × EdgeChain edge next rest to

-- a chain of zero or more edges leads from the one to the other
abbrev pub LeadsTo : (ℕ → ℕ → Type 0) → ℕ → ℕ → Type 0
LeadsTo edge from to = (rest : List ℕ) × EdgeChain edge from rest to
