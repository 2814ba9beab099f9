-- Chains of edges.
use Rattle.std.proofs.Common.{ℕ, List, [], ◌∷◌, Bool, refl, sym, subst}
use Rattle.cb_successors.specs.Rows.{Has}
use Rattle.cb_successors.specs.Graphs.{EdgeChain, LeadsTo}

-- one edge more
pub chain_more : (edge : ℕ → ℕ → Type 0) (from : ℕ) (rest : List ℕ) (to next : ℕ) → EdgeChain edge from rest to → edge to next → LeadsTo edge from next
chain_more edge from [] to next same e = (next ∷ [], (subst (λ node. edge node next) (sym same) e, refl))
chain_more edge from (node ∷ rest) to next chain e = let more = chain_more edge node rest to next chain.1 e in (node ∷ more.0, (chain.0, more.1))

-- one chain after another
pub chains_joined : (edge : ℕ → ℕ → Type 0) (from : ℕ) (rest : List ℕ) (middle to : ℕ) → EdgeChain edge from rest middle → LeadsTo edge middle to → LeadsTo edge from to
chains_joined edge from [] middle to same leads = subst (λ node. LeadsTo edge node to) (sym same) leads
chains_joined edge from (node ∷ rest) middle to chain leads =
    let more = chains_joined edge node rest middle to chain.1 leads in (node ∷ more.0, (chain.0, more.1))

-- a row that has the successors of its nodes has all that they lead to
pub closed_along : (edge : ℕ → ℕ → Type 0) (row : List Bool) → ((a b : ℕ) → Has row a → edge a b → Has row b)
    → (from : ℕ) (rest : List ℕ) (to : ℕ) → EdgeChain edge from rest to → Has row from → Has row to
closed_along edge row closed from [] to same has = subst (Has row) same has
closed_along edge row closed from (node ∷ rest) to chain has = closed_along edge row closed node rest to chain.1 (closed from node has chain.0)
