-- What `levels` gives, by the number of a problem.
use Rattle.std.proofs.Common.{◌≡◌, ℕ, List, ap, subst, inl, arith}
use Rattle.cb_text.specs.Names.{IsNodeText}
use Rattle.cb_text.proofs.Cuts.{node_read_once}
use Rattle.cb_model.specs.declared.node.NodeName.{NodeName}
use Rattle.cb_network.specs.Causes.{Causes}
use Rattle.cb_network.specs.Nodes.{IsNodeOf, IsProblem, IsCount}
use Rattle.cb_nodes.specs.declared.id.NodeId.{NodeId}
use Rattle.cb_validity.proofs.Canonicals.{problem_is_node}
use Rattle.cb_topo.specs.Numbered.{Numbered, topology_of}
use Rattle.cb_topo.proofs.Naming.{one_name}
use Rattle.cb_levels.specs.declared.levels.Levels.{Levels}
use Rattle.cb_levels.specs.Canonical.{AreCanonicalLevels}
use Rattle.cb_levels.specs.Text.{levels_text}
use Rattle.cb_explain.specs.Explained.{CountsCaused}
use Rattle.cb_explain.specs.Levelled.{AreLevelsAt}
use Rattle.cb_request.specs.NodeWords.{IsNodeWord}
use Rattle.cb_outcome.specs.Costs.{CountsNamed}
use Rattle.cb_outcome.specs.Jobs.{NamesNode, LevelsGives}
use Rattle.cb_outcome.specs.Outcome.{done}
use Rattle.cb_chain_commands.specs.Named.{IsProblemNamed, NamesNoProblem}

pub gives_levels : (n : Numbered) (word : List ℕ) (id : NodeId) (levels : Levels) (bytes : List ℕ) → IsProblemNamed n word id → AreLevelsAt n id levels
    → bytes ≡ levels_text levels → (whole : ℕ) → LevelsGives (topology_of n) word whole (done bytes whole)
gives_levels n word id levels bytes is at text whole = inl (record {
  problem = is.name;
  named = is.spelled;
  is = is.problem;
  levels = levels;
  canonical = subst (λ (p : NodeName). AreCanonicalLevels (topology_of n) p levels) (one_name n id at.problem is.name at.named is.named) at.canonical;
  of_format = at.of_format;
  gives = ap (λ (l : List ℕ). done l whole) text;
})

module _ (n : Numbered) (word : List ℕ) where
  pub no_word : (¬ IsNodeWord word) → NamesNoProblem (topology_of n) word
  no_word none = λ problem named is. none (problem.event, problem.instance, named)

  module _ (node : NodeName) (is_word : IsNodeText word node.event node.instance) where
    -- what the word names is the node
    is_named : (problem : NodeName) → NamesNode word problem → problem ≡ node
    is_named problem named =
        let same = node_read_once word problem.event problem.instance node.event node.instance named is_word in
        λ i. record { event = same.0 i; instance = same.1 i }

    pub no_node : (¬ IsNodeOf (topology_of n) node) → NamesNoProblem (topology_of n) word
    no_node none = λ problem named is.
        none (subst (IsNodeOf (topology_of n)) (is_named problem named) (problem_is_node (topology_of n) problem is))

    pub no_problem : (¬ IsProblem (topology_of n) node) → NamesNoProblem (topology_of n) word
    no_problem none = λ problem named is. none (subst (IsProblem (topology_of n)) (is_named problem named) is)

-- the steps of `levels`
pub counts_none : (n : Numbered) (word : List ℕ) (steps steps' : ℕ) → steps' ≡ steps → CountsNamed (topology_of n) word steps steps'
counts_none n word steps steps' same = record { most = λ problem named is count counted. omega (arith, same); none = λ not. same }

pub counts_named : (n : Numbered) (word : List ℕ) (id : NodeId) → IsProblemNamed n word id → (steps steps' : ℕ) → CountsCaused n id steps steps'
    → CountsNamed (topology_of n) word steps steps'
counts_named n word id is steps steps' counts = record {
  most = λ problem named there count counted.
      let same = is_named n word is.name is.spelled problem named in
      counts is.name count is.named (subst (λ (p : NodeName). IsCount (Causes (topology_of n) p) count) same counted);
  none = λ not. absurd (not is.name is.spelled is.problem);
}
