-- The nodes of one instance, event by event.
use mir.Val.{bool_byte}
use Rattle.std.proofs.Common.{◌≡◌, ◌↔◌, ℕ, ◌+◌, ◌<◌, ◌≤◌, List, [], ◌∷◌, ◌++◌, length, map, take, get_or, cond, refl, sym, ap, subst, ◌∙◌, inl, inr, arith, Bool, true, false, IsTrue, Some}
use Rattle.std.specs.List.{Contains}
use Rattle.std.proofs.lemmas.List.{take_more, length-map, get_or-map}
use Rattle.std.proofs.lemmas.List.Elements.{Contains-append_left, Contains-push, Contains-push_cases, Contains-get_or}
use Rattle.std.proofs.lemmas.Option.{get_or_from_slice_get}
use Rattle.cb_model.specs.declared.id.ClassId.{ClassId}
use Rattle.cb_model.specs.declared.id.EventId.{EventId}
use Rattle.cb_model.specs.declared.node.NodeName.{NodeName}
use Rattle.cb_model.specs.declared.tables.Tables.{Tables}
use Rattle.cb_model.specs.declared.tables.EventRow.{EventRow}
use Rattle.cb_model.specs.Classes.{HasEvent, NamesEvent, IsProblemOf, IsSymptomOf}
use Rattle.cb_model.specs.Views.{AreEventsOf}
use Rattle.cb_model.specs.WellTyped.{WellTyped}
use Rattle.cb_model.proofs.Fill.{take_whole}
use Rattle.cb_model.proofs.Numbers.{take_contains}
use Rattle.cb_model.proofs.Rising.{nothing_in_empty, contains_cases, contains_head, contains_tail}
use Rattle.cb_network.specs.Edits.{node_name_of}
use Rattle.cb_network.specs.Nodes.{IsCount}
use Rattle.cb_network.proofs.Counts.{Kind, of_nodes, of_problems, of_symptoms, same_count}
use Rattle.cb_accept.proofs.Apart.{count_of_either, count_of_one, count_of_none}
use Rattle.cb_accept.proofs.Members.{one_event}

-- a node of this instance, whose event is one of these and of the kind
abbrev pub IsOwnAmong : Kind → ClassId → List ℕ → List EventId → NodeName → Type 0
IsOwnAmong M class name events n = (n.instance ≡ name) × ((e : EventId) × Contains events e × M class e n.event)

-- how many nodes an instance has by these events, whatever its name
abbrev pub Tallies : Kind → ClassId → List EventId → ℕ → Type 0
Tallies M class events k = (name : List ℕ) → IsCount (IsOwnAmong M class name events) k

-- a node of this instance, whose event is of the kind
abbrev pub IsOwn : Kind → ClassId → List ℕ → NodeName → Type 0
IsOwn M class name n = (n.instance ≡ name) × ((e : EventId) × M class e n.event)

module _ (M : Kind) (class : ClassId) where
  pub tally_none : Tallies M class [] 0
  tally_none name = count_of_none (IsOwnAmong M class name []) (λ n (here, (e, none, m)). nothing_in_empty e none)

  -- one more event, that counts where it is marked
  tally_more : (events : List EventId) (e : EventId) (event : List ℕ) (k : ℕ) (marked : Bool)
      → ((x : List ℕ) → M class e x ↔ (IsTrue marked × (x ≡ event)))
      → ((f : EventId) → Contains events f → M class f event → IsTrue marked → ⊥)
      → Tallies M class events k → Tallies M class (events ++ e ∷ []) (k + cond marked 1 0)
  tally_more events e event k true is fresh so_far = λ name.
      count_of_either (IsOwnAmong M class name events) (λ n. n ≡ node_name_of event name) (IsOwnAmong M class name (events ++ e ∷ [])) k 1
      (λ n. (
        λ (here, (f, among, m)). elim (Contains-push_cases events e f among) [
          | inl before ↦ inl (here, (f, before, m))
          | inr same ↦ let named = ((is n.event).0 (subst (λ g. M class g n.event) (sym same) m)).1 in inr (λ i. record { event = named i; instance = here i })
        ],
        λ h. elim h [
          | inl (here, (f, before, m)) ↦ (here, (f, Contains-append_left events (e ∷ []) f before, m))
          | inr same ↦ (
            ap (λ (p : NodeName). p.instance) same,
            (e, Contains-push events e, (is n.event).1 (refl, ap (λ (p : NodeName). p.event) same)),
          )
        ],
      ))
      (λ n (here, (f, before, m)) same. fresh f before (subst (M class f) (ap (λ (p : NodeName). p.event) same) m) refl)
      (so_far name) (count_of_one (node_name_of event name))
  tally_more events e event k false is fresh so_far = λ name.
      let same : k + 0 ≡ k = omega arith in
      subst (IsCount (IsOwnAmong M class name (events ++ e ∷ []))) (sym same)
      (same_count (IsOwnAmong M class name events) (IsOwnAmong M class name (events ++ e ∷ [])) (λ n. (
        λ (here, (f, before, m)). (here, (f, Contains-append_left events (e ∷ []) f before, m)),
        λ (here, (f, among, m)). elim (Contains-push_cases events e f among) [
          | inl before ↦ (here, (f, before, m))
          | inr same ↦ let no = ((is n.event).0 (subst (λ g. M class g n.event) (sym same) m)).0 in absurd (cc)
        ],
      )) k (so_far name))

  -- all events of the kind
  tally_all : (events : List EventId) (k : ℕ) → ((e : EventId) (x : List ℕ) → M class e x → Contains events e) → Tallies M class events k
      → (name : List ℕ) → IsCount (IsOwn M class name) k
  tally_all events k all so_far name = same_count (IsOwnAmong M class name events) (IsOwn M class name) (λ n. (
    λ (here, (e, among, m)). (here, (e, m)),
    λ (here, (e, m)). (here, (e, all e n.event m, m)),
  )) k (so_far name)

-- a truth value as a number
pub bit_of : (b : Bool) → bool_byte b ≡ cond b 1 0
bit_of true = refl
bit_of false = refl

pub bit_is_small : (b : Bool) → bool_byte b ≤ 1
bit_is_small true = omega arith
bit_is_small false = omega arith

-- the kind is of events that the class has, under their names
abbrev pub IsNamed : Tables → Kind → Type 0
IsNamed tables M = (c : ClassId) (e : EventId) (x : List ℕ) → M c e x → NamesEvent tables c x e

pub nodes_named : (tables : Tables) → IsNamed tables (of_nodes tables)
nodes_named tables = λ c e x m. m

pub problems_named : (tables : Tables) → IsNamed tables (of_problems tables)
problems_named tables = λ c e x (problem, named). (problem.has, named)

pub symptoms_named : (tables : Tables) → IsNamed tables (of_symptoms tables)
symptoms_named tables = λ c e x (symptom, named). (symptom.has, named)

module _ (tables : Tables) (class : ClassId) where
  in_numbers : (events : List EventId) (e : EventId) → Contains events e → Contains (map (λ (f : EventId). f.0) events) e.0
  in_numbers [] e none = absurd (nothing_in_empty e none)
  in_numbers (f ∷ events) e c = elim (contains_cases f events e c) [
    | inl same ↦ subst (λ (g : EventId). Contains (map (λ (h : EventId). h.0) (f ∷ events)) g.0) same (contains_head f.0 (map (λ (h : EventId). h.0) events))
    | inr late ↦ contains_tail f.0 (map (λ (h : EventId). h.0) events) e.0 (in_numbers events e late)
  ]

  of_numbers : (events : List EventId) (e : EventId) → Contains (map (λ (f : EventId). f.0) events) e.0 → Contains events e
  of_numbers [] e none = absurd (nothing_in_empty e.0 none)
  of_numbers (f ∷ events) e c = elim (contains_cases f.0 (map (λ (h : EventId). h.0) events) e.0 c) [
    | inl same ↦ subst (λ (n : ℕ). Contains (f ∷ events) (let g : EventId = record { 0 = n } in g)) same (contains_head f events)
    | inr late ↦ contains_tail f events e (of_numbers events e late)
  ]

  pub event_is_listed : (events : List EventId) → AreEventsOf tables class events → (e : EventId) → HasEvent tables class e → Contains events e
  event_is_listed events are e has = of_numbers events e ((are.exactly e.0).1 has)

  pub listed_is_event : (events : List EventId) → AreEventsOf tables class events → (e : EventId) → Contains events e → HasEvent tables class e
  listed_is_event events are e c = (are.exactly e.0).0 (in_numbers events e c)

  -- the event at a place does not stand before it
  not_before : (events : List EventId) → AreEventsOf tables class events → (i : ℕ) (d : EventId) → i < length events
      → Contains (take i events) (get_or events i d) → ⊥
  not_before events are i d within c =
      let (j, below, is) = take_contains events i (get_or events i d) c in
      let low : j < length events = omega arith in
      let first = get_or-map (λ (e : EventId). e.0) events j d d.0 low in
      let second = get_or-map (λ (e : EventId). e.0) events i d d.0 within in
      let size = length-map events (λ (e : EventId). e.0) in
      let rise = are.rising j i d.0 below (omega arith) in
      let same = ap (λ (e : EventId). e.0) (get_or_from_slice_get events j (get_or events i d) d is) in
      omega arith

  -- how many nodes, problems and symptom nodes an instance has by the first events
  pub record HasTallied (events : List EventId) (i problems symptoms : ℕ) : Type 0 where
    pub nodes : Tallies (of_nodes tables) class (take i events) i
    pub problems_are : Tallies (of_problems tables) class (take i events) problems
    pub symptoms_are : Tallies (of_symptoms tables) class (take i events) symptoms
    pub few_problems : problems ≤ i
    pub few_symptoms : symptoms ≤ i

  module _ (typed : WellTyped tables) (events : List EventId) (are : AreEventsOf tables class events) where
    one_name : (e : EventId) (a b : HasEvent tables class e) → a.row.name ≡ b.row.name
    one_name e a b =
        let rows : Some a.row ≡ Some b.row = sym a.is ∙ b.is in
        let row : a.row ≡ b.row = cc in
        ap (λ (r : EventRow). r.name) row

    -- the event at the next place, if it is marked
    next_tally : (M : Kind) → IsNamed tables M → (i : ℕ) (d : EventId) (k : ℕ) (marked : Bool) → i < length events
        → (IsTrue marked → (x : List ℕ) → NamesEvent tables class x (get_or events i d) → M class (get_or events i d) x)
        → ((x : List ℕ) → M class (get_or events i d) x → IsTrue marked) → Tallies M class (take i events) k
        → Tallies M class (take (i + 1) events) (k + cond marked 1 0)
    next_tally M named i d k marked within counts only so_far =
        let e = get_or events i d in
        let has = listed_is_event events are e (Contains-get_or events i d within) in
        subst (λ (es : List EventId). Tallies M class es (k + cond marked 1 0)) (sym (take_more events i d within))
        (tally_more M class (take i events) e has.row.name k marked
        (λ x. (
          λ m. let (own, at) = named class e x m in (only x m, sym at ∙ one_name e own has),
          λ (mark, at). counts mark x (has, sym at),
        ))
        (λ f before m mark.
        let same = one_event tables typed class has.row.name f e (named class f has.row.name m) (has, refl) in
        not_before events are i d within (subst (Contains (take i events)) same before))
        so_far)

    pub tallied_none : HasTallied events 0 0 0
    tallied_none = record {
      nodes = tally_none (of_nodes tables) class;
      problems_are = tally_none (of_problems tables) class;
      symptoms_are = tally_none (of_symptoms tables) class;
      few_problems = omega arith;
      few_symptoms = omega arith;
    }

    pub tallied_more : (i problems symptoms : ℕ) (d : EventId) (problem symptom : Bool) (one_problem one_symptom : ℕ) → i < length events
        → one_problem ≡ bool_byte problem → one_symptom ≡ bool_byte symptom
        → IsTrue problem ↔ IsProblemOf tables class (get_or events i d) → IsTrue symptom ↔ IsSymptomOf tables class (get_or events i d)
        → HasTallied events i problems symptoms → HasTallied events (i + 1) (problems + one_problem) (symptoms + one_symptom)
    tallied_more i problems symptoms d problem symptom one_problem one_symptom within problem_bit symptom_bit problem_is symptom_is so_far =
        let e = get_or events i d in
        let few_problems = so_far.few_problems in
        let few_symptoms = so_far.few_symptoms in
        let small_problem = bit_is_small problem in
        let small_symptom = bit_is_small symptom in
        record {
          nodes = next_tally (of_nodes tables) (nodes_named tables) i d i true within (λ mark x is. is) (λ x is. refl) so_far.nodes;
          problems_are = subst (λ one. Tallies (of_problems tables) class (take (i + 1) events) (problems + one)) (sym (problem_bit ∙ bit_of problem))
              (next_tally (of_problems tables) (problems_named tables) i d problems problem within
              (λ mark x (has, at). let is = problem_is.0 mark in (is, one_name e is.has has ∙ at)) (λ x (is, at). problem_is.1 is) so_far.problems_are);
          symptoms_are = subst (λ one. Tallies (of_symptoms tables) class (take (i + 1) events) (symptoms + one)) (sym (symptom_bit ∙ bit_of symptom))
              (next_tally (of_symptoms tables) (symptoms_named tables) i d symptoms symptom within
              (λ mark x (has, at). let is = symptom_is.0 mark in (is, one_name e is.has has ∙ at)) (λ x (is, at). symptom_is.1 is) so_far.symptoms_are);
          few_problems = omega arith;
          few_symptoms = omega arith;
        }

    pub own_nodes : (problems symptoms : ℕ) → HasTallied events (length events) problems symptoms → (name : List ℕ) → IsCount (IsOwn (of_nodes tables) class name) (length events)
    own_nodes problems symptoms all = tally_all (of_nodes tables) class events (length events) (λ e x (has, at). event_is_listed events are e has)
        (subst (λ (es : List EventId). Tallies (of_nodes tables) class es (length events)) (take_whole events (length events) (omega arith)) all.nodes)

    pub own_problems : (problems symptoms : ℕ) → HasTallied events (length events) problems symptoms → (name : List ℕ) → IsCount (IsOwn (of_problems tables) class name) problems
    own_problems problems symptoms all = tally_all (of_problems tables) class events problems (λ e x (is, at). event_is_listed events are e is.has)
        (subst (λ (es : List EventId). Tallies (of_problems tables) class es problems) (take_whole events (length events) (omega arith)) all.problems_are)

    pub own_symptoms : (problems symptoms : ℕ) → HasTallied events (length events) problems symptoms → (name : List ℕ) → IsCount (IsOwn (of_symptoms tables) class name) symptoms
    own_symptoms problems symptoms all = tally_all (of_symptoms tables) class events symptoms (λ e x (is, at). event_is_listed events are e is.has)
        (subst (λ (es : List EventId). Tallies (of_symptoms tables) class es symptoms) (take_whole events (length events) (omega arith)) all.symptoms_are)

    -- a class has few events
    pub few_events : length events ≤ 256
    few_events = typed.rules.few_events class events
        (λ i j d below within same.
        let first = get_or-map (λ (e : EventId). e.0) events i d d.0 (omega arith) in
        let second = get_or-map (λ (e : EventId). e.0) events j d d.0 within in
        let size = length-map events (λ (e : EventId). e.0) in
        let rise = are.rising i j d.0 below (omega arith) in
        let number = ap (λ (e : EventId). e.0) same in
        omega arith)
        (λ i d within. listed_is_event events are (get_or events i d) (Contains-get_or events i d within))
