-- The nodes of a topology can be listed, and those of a kind counted.
use Rattle.std.proofs.Common.{◌≡◌, ◌<◌, ◌++◌, ℕ, List, [], ◌∷◌, length, subst, inl, inr}
use Rattle.std.specs.List.{Contains}
use Rattle.std.proofs.lemmas.List.Elements.{Contains-append_left, Contains-append_right}
use Rattle.cb_model.specs.declared.node.NodeName.{NodeName}
use Rattle.cb_model.specs.declared.tables.EventRow.{EventRow}
use Rattle.cb_model.proofs.Numbers.{contains_at}
use Rattle.cb_model.proofs.Rising.{contains_cases, contains_head, contains_tail, nothing_in_empty}
use Rattle.cb_network.specs.Edits.{node_name_of}
use Rattle.cb_network.specs.Nodes.{IsNodeOf, IsProblem, IsSymptomNode, IsColumn, AreColumns, AreProblems, IsCount, IsBeyond}
use Rattle.cb_network.specs.Regular.{IsRegular}
use Rattle.cb_network.specs.Topology.{Topology, IsMuted}
use Rattle.cb_network.specs.Words.{InstanceName}
use Rattle.cb_network.proofs.Counts.{of_nodes, of_problems, of_symptoms, nodes_are, problems_are, symptoms_are, decide_at, nodes_finite, problems_finite, symptoms_finite, count_of_rising, count_is_one}
use Rattle.cb_network.proofs.Decided.{Decision, decide_both, decide_same, decide_true}
use Rattle.cb_network.proofs.Kept.{live_of}
use Rattle.cb_change.proofs.Closure.{decide_not}
use Rattle.cb_existence.proofs.Found.{decide_less, live_names, is_among_live}
use Rattle.cb_existence.proofs.Gathered.{nodes_in_order}

-- each event at an instance
at_instance : InstanceName → List EventRow → List NodeName
at_instance a [] = []
at_instance a (row ∷ rows) = node_name_of row.name a ∷ at_instance a rows

is_at_instance : (a : InstanceName) (rows : List EventRow) (row : EventRow) → Contains rows row → Contains (at_instance a rows) (node_name_of row.name a)
unfolding at_instance
is_at_instance a [] row has = absurd (nothing_in_empty row has)
is_at_instance a (r ∷ rows) row has = elim (contains_cases r rows row has) [
  | inl same ↦ subst (λ (q : EventRow). Contains (node_name_of r.name a ∷ at_instance a rows) (node_name_of q.name a)) same (contains_head (node_name_of r.name a) (at_instance a rows))
  | inr later ↦ contains_tail (node_name_of r.name a) (at_instance a rows) (node_name_of row.name a) (is_at_instance a rows row later)
]

at_instances : List InstanceName → List EventRow → List NodeName
at_instances [] rows = []
at_instances (a ∷ names) rows = at_instance a rows ++ at_instances names rows

is_at_instances : (names : List InstanceName) (rows : List EventRow) (a : InstanceName) (row : EventRow) → Contains names a → Contains rows row
    → Contains (at_instances names rows) (node_name_of row.name a)
unfolding at_instances
is_at_instances [] rows a row has has_row = absurd (nothing_in_empty a has)
is_at_instances (b ∷ names) rows a row has has_row = elim (contains_cases b names a has) [
  | inl same ↦ Contains-append_left (at_instance b rows) (at_instances names rows) (node_name_of row.name a)
      (subst (λ (c : InstanceName). Contains (at_instance b rows) (node_name_of row.name c)) same (is_at_instance b rows row has_row))
  | inr later ↦ Contains-append_right (at_instance b rows) (at_instances names rows) (node_name_of row.name a) (is_at_instances names rows a row later has_row)
]

-- all nodes are among these
pub possible_nodes : Topology → List NodeName
possible_nodes t = at_instances (live_names t) t.model.events

pub is_possible : (t : Topology) (n : NodeName) → IsNodeOf t n → Contains (possible_nodes t) n
unfolding possible_nodes
is_possible t n (e, at) =
    let has = at.named.0 in
    let event = at.named.1 in
    let same : node_name_of has.row.name n.instance ≡ n = λ i. record { event = event i; instance = n.instance } in
    subst (Contains (at_instances (live_names t) t.model.events)) same
    (is_at_instances (live_names t) t.model.events n.instance has.row (is_among_live t n.instance (live_of t n.instance at.class at.of_class)) (contains_at t.model.events e.0 has.row has.is))

pub problem_is_node : (t : Topology) (n : NodeName) → IsProblem t n → IsNodeOf t n
problem_is_node t n x = (x.event, record { class = x.class; of_class = x.of_class; named = (x.problem.has, x.named) })

pub symptom_is_node : (t : Topology) (n : NodeName) → IsSymptomNode t n → IsNodeOf t n
symptom_is_node t n x = (x.event, record { class = x.class; of_class = x.of_class; named = (x.symptom.has, x.named) })

module _ (t : Topology) (regular : IsRegular t.model) where
  pub decide_is_node : (n : NodeName) → Decision (IsNodeOf t n)
  decide_is_node n = decide_same _ (IsNodeOf t n) (nodes_are t n).1 (nodes_are t n).0
      (decide_at (of_nodes t.model) (length t.model.events) (nodes_finite t.model regular) t n)

  pub decide_is_problem : (n : NodeName) → Decision (IsProblem t n)
  decide_is_problem n = decide_same _ (IsProblem t n) (problems_are t n).1 (problems_are t n).0
      (decide_at (of_problems t.model) (length t.model.events) (problems_finite t.model regular) t n)

  pub decide_is_symptom : (n : NodeName) → Decision (IsSymptomNode t n)
  decide_is_symptom n = decide_same _ (IsSymptomNode t n) (symptoms_are t n).1 (symptoms_are t n).0
      (decide_at (of_symptoms t.model) (length t.model.events) (symptoms_finite t.model regular) t n)

  decide_is_column : (n : NodeName) → Decision (IsColumn t n)
  decide_is_column n =
      decide_same (IsSymptomNode t n × (¬ IsMuted t n)) (IsColumn t n) (λ (symptom, heard). record { symptom = symptom; heard = heard }) (λ c. (c.symptom, c.heard))
      (decide_both _ _ (decide_is_symptom n) (decide_not _ (decide_true _)))

  pub columns_exist : (columns : List NodeName) × AreColumns t columns
  columns_exist = nodes_in_order (IsColumn t) decide_is_column (possible_nodes t) (λ n c. is_possible t n (symptom_is_node t n c.symptom))

  pub problems_exist : (names : List NodeName) × AreProblems t names
  problems_exist = nodes_in_order (IsProblem t) decide_is_problem (possible_nodes t) (λ n p. is_possible t n (problem_is_node t n p))

  -- nodes of a kind can be counted
  counted_by : (P : NodeName → Type 0) → ((n : NodeName) → Decision (P n)) → ((n : NodeName) → P n → IsNodeOf t n) → (k : ℕ) × IsCount P k
  counted_by P decide node =
      let (nodes, are) = nodes_in_order P decide (possible_nodes t) (λ n p. is_possible t n (node n p)) in
      (length nodes, count_of_rising P nodes are.rise (λ n. (are.each n, are.all n)))

  pub counts_exist : ((n : ℕ) × IsCount (IsNodeOf t) n) × ((n : ℕ) × IsCount (IsProblem t) n) × ((n : ℕ) × IsCount (IsSymptomNode t) n)
  counts_exist = (
    counted_by (IsNodeOf t) decide_is_node (λ n node. node),
    counted_by (IsProblem t) decide_is_problem (problem_is_node t),
    counted_by (IsSymptomNode t) decide_is_symptom (symptom_is_node t),
  )

  -- they are within a limit or beyond it
  pub decide_beyond : (P : NodeName → Type 0) → ((n : NodeName) → Decision (P n)) → ((n : NodeName) → P n → IsNodeOf t n) → (limit : ℕ) → Decision (IsBeyond P limit)
  decide_beyond P decide node limit =
      let (n, count) = counted_by P decide node in
      decide_same (limit < n) (IsBeyond P limit) (λ more. (n, count, more))
      (λ (k, other, more). subst (λ (j : ℕ). limit < j) (count_is_one P k n other count) more)
      (decide_less limit n)
