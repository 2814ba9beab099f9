-- How many problems there can be after an edit.
use Rattle.std.proofs.Common.{◌≡◌, ◌⊎◌, ℕ, ◌+◌, ◌≤◌, List, [], ◌∷◌, length, true, sym, subst, ◌∙◌, inl, inr, arith}
use Rattle.std.specs.Prelude.{map}
use Rattle.std.specs.FinSet as set
use Rattle.std.specs.List.{Contains}
use Rattle.std.proofs.lemmas.Bool.{cases_Bool}
use Rattle.cb_model.specs.declared.id.ClassId.{ClassId}
use Rattle.cb_model.specs.declared.id.EventId.{EventId}
use Rattle.cb_model.specs.declared.node.NodeName.{NodeName}
use Rattle.cb_model.specs.declared.tables.Tables.{Tables}
use Rattle.cb_model.specs.Classes.{HasEvent}
use Rattle.cb_model.specs.NodeOrder.{node_cmp}
use Rattle.cb_model.specs.Views.{AreEventsOf}
use Rattle.cb_model.proofs.Rising.{name_cmp_total, name_cmp_exact, node_cmp_total, node_cmp_exact, contains_cases, contains_head, contains_tail, nothing_in_empty}
use Rattle.cb_network.specs.Edits.{node_name_of, with_instance}
use Rattle.cb_network.specs.Nodes.{IsProblem, IsCount}
use Rattle.cb_network.specs.Topology.{Topology}
use Rattle.cb_network.proofs.Sets.{in_insert, len_of_part, got_insert}
use Rattle.cb_instances.specs.Net.{event_name}
use Rattle.cb_accept.proofs.Own.{event_is_listed}
use Rattle.cb_topo.proofs.Named.{event_name_is}
use Rattle.cb_cache.specs.Most.{HasAtMost}

-- a set with the names of a list too
record HasBoth (s : set.FinSet node_cmp) (names : List NodeName) : Type 0 where
  pub all : set.FinSet node_cmp
  pub old : (q : NodeName) → set.contains s q ≡ true → set.contains all q ≡ true
  pub listed : (q : NodeName) → Contains names q → set.contains all q ≡ true
  pub few : set.len all ≤ set.len s + length names

both : (s : set.FinSet node_cmp) (names : List NodeName) → HasBoth s names
both s [] = record { all = s; old = λ q h. h; listed = λ q has. absurd (nothing_in_empty q has); few = omega arith }
both s (x ∷ names) =
    let rest = both s names in
    let within = in_insert node_cmp_total node_cmp_exact rest.all x in
    record {
      all = set.insert rest.all x;
      old = λ q h. (within q).1 (inr (rest.old q h));
      listed = λ q has. elim (contains_cases x names q has) [
        | inl same ↦ (within q).1 (inl (sym same))
        | inr late ↦ (within q).1 (inr (rest.listed q late))
      ];
      few =
          let few = rest.few in
          let len = set.len-insert node_cmp_total rest.all x in
          elim (cases_Bool (set.contains rest.all x)) [
            | inl has ↦ let same = rw has at len in omega arith
            | inr off ↦ let more = rw off at len in omega arith
          ];
    }

-- where each problem was one or is listed, there are no more than there were and are listed
at_most : (t u : Topology) (m : ℕ) (names : List NodeName) → IsCount (IsProblem t) m → ((q : NodeName) → IsProblem u q → IsProblem t q ⊎ Contains names q)
    → HasAtMost u (m + length names)
at_most t u m names was came k is =
    let all = both was.nodes names in
    let less = len_of_part node_cmp_total node_cmp_exact is.nodes all.all (λ q h. elim (came q ((is.members q).0 h)) [
      | inl old ↦ all.old q ((was.members q).1 old)
      | inr new ↦ all.listed q new
    ]) in
    let few = all.few in
    let before = was.len in
    let after = is.len in
    omega arith

none_came : (t u : Topology) (m more : ℕ) → IsCount (IsProblem t) m → ((q : NodeName) → IsProblem u q → IsProblem t q) → HasAtMost u (m + more)
none_came t u m more was same k is = let few = at_most t u m [] was (λ q problem. inl (same q problem)) k is in omega arith

contains_map : (f : EventId → NodeName) (events : List EventId) (e : EventId) → Contains events e → Contains (map f events) (f e)
contains_map f [] e has = absurd (nothing_in_empty e has)
contains_map f (d ∷ events) e has = elim (contains_cases d events e has) [
  | inl same ↦ subst (λ (k : EventId). Contains (map f (d ∷ events)) (f k)) same (contains_head (f d) (map f events))
  | inr late ↦ contains_tail (f d) (map f events) (f e) (contains_map f events e late)
]

-- the name of an event of an instance
abbrev called : Tables → List ℕ → EventId → NodeName
called tables name e = node_name_of (event_name tables e) name

-- a problem of a further instance is one of its class's events
came_with : (t : Topology) (name : List ℕ) (c : ClassId) (events : List EventId) → AreEventsOf t.model c events → (q : NodeName) → IsProblem (with_instance t name c) q
    → IsProblem t q ⊎ Contains (map (called t.model name) events) q
came_with t name c events are q x = elim ((got_insert name_cmp_total name_cmp_exact t.instances name c q.instance x.class).0 x.of_class) [
  | inl (here, same) ↦
      let has = subst (λ (d : ClassId). HasEvent t.model d x.event) (sym same) x.problem.has in
      let event : event_name t.model x.event ≡ q.event = event_name_is t.model x.class x.event x.problem.has ∙ x.named in
      let is : called t.model name x.event ≡ q = (λ i. record { event = event i; instance = sym here i }) in
      inr (subst (Contains (map (called t.model name) events)) is
      (contains_map (called t.model name) events x.event (event_is_listed t.model c events are x.event has)))
  | inr (other, old) ↦ inl (record { class = x.class; of_class = old; event = x.event; problem = x.problem; named = x.named })
]
