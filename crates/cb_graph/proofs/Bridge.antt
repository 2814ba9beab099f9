-- Edges between numbers are what the rules of a class bring about.
use Rattle.std.proofs.Common.{◌≡◌, ◌↔◌, ◌⊎◌, inl, inr, ℕ, zero, suc, ◌<◌, ◌≤◌, Bool, true, List, [], ◌∷◌, ◌++◌, length, Some, None, slice_set, sym, ap, subst, ◌∙◌, arith}
use Rattle.std.specs.List.{AllZip, Contains}
use Rattle.std.proofs.lemmas.Bool.{cases_lt}
use Rattle.std.proofs.lemmas.List.Elements.{Contains-append_left, Contains-push, Contains-push_cases}
use Rattle.std.proofs.lemmas.Option.{slice_get_within, slice_get_past, get_or_from_slice_get}
use Rattle.cb_model.specs.declared.id.ClassId.{ClassId}
use Rattle.cb_model.specs.declared.id.EventId.{EventId}
use Rattle.cb_model.specs.declared.tables.Place.{Place}
use Rattle.cb_model.specs.declared.node.NodeName.{NodeName}
use Rattle.cb_model.specs.declared.rule.Rule.{Rule}
use Rattle.cb_model.specs.declared.tables.EventRow.{EventRow}
use Rattle.cb_model.specs.declared.tables.Tables.{Tables}
use Rattle.cb_model.specs.Classes.{IsA, ancestor, parent_in_row, HasEvent, HasRule, NamesEvent}
use Rattle.cb_model.specs.Views.{AreRulesOf, IsRuleAt, rule_of}
use Rattle.cb_model.specs.WellTyped.{IsClass, WellTyped}
use Rattle.cb_model.proofs.Climb.{stops}
use Rattle.cb_model.proofs.Rising.{contains_cases, contains_head, contains_tail, nothing_in_empty}
use Rattle.cb_network.specs.Topology.{Topology, HasClass}
use Rattle.cb_network.specs.Nodes.{IsEventAt}
use Rattle.cb_network.specs.Causes.{Edge}
use Rattle.cb_instances.specs.declared.id.InstanceId.{InstanceId}
use Rattle.cb_instances.specs.Net.{IsNamed, name_at, name_or, name_in_row, event_name}
use Rattle.cb_instances.proofs.Muting.{event_reported}
use Rattle.cb_nodes.specs.declared.id.NodeId.{NodeId}
use Rattle.cb_nodes.specs.declared.node.Node.{Node}
use Rattle.cb_nodes.specs.Table.{IsNode, node_of}
use Rattle.cb_successors.specs.Rows.{Has}
use Rattle.cb_topo.specs.Numbered.{Numbered, topology_of, IsNodeNamed, IsWhole}
use Rattle.cb_graph.specs.Edges.{EdgeAt, number}
use Rattle.cb_graph.specs.Instances.{AddsNumbersOf}
use Rattle.cb_graph.specs.Walks.{LeadsAt, IsWhereLeads, IsEventNumber, BringsAbout}
use Rattle.cb_graph.proofs.Listing.{set_gains}
use Rattle.cb_graph.proofs.Walking.{one_name, leads_are_leads}

-- pairs at one place
pub right_of : {X Y : Type 0} (R : X → Y → Type 0) (xs : List X) (ys : List Y) (y : Y) → AllZip R xs ys → Contains ys y → (x : X) × Contains xs x × R x y
right_of R [] [] y zip has = absurd (nothing_in_empty y has)
right_of R [] (b ∷ bs) y zip has = absurd zip
right_of R (a ∷ rest) [] y zip has = absurd zip
right_of R (a ∷ rest) (b ∷ bs) y zip has = elim (contains_cases b bs y has) [
  | inl same ↦ (a, contains_head a rest, subst (R a) same zip.0)
  | inr later ↦ let f = right_of R rest bs y zip.1 later in (f.0, contains_tail a rest f.0 f.1, f.2)
]

pub left_of : {X Y : Type 0} (R : X → Y → Type 0) (xs : List X) (ys : List Y) (x : X) → AllZip R xs ys → Contains xs x → (y : Y) × Contains ys y × R x y
left_of R [] [] x zip has = absurd (nothing_in_empty x has)
left_of R [] (b ∷ bs) x zip has = absurd zip
left_of R (a ∷ rest) [] x zip has = absurd zip
left_of R (a ∷ rest) (b ∷ bs) x zip has = elim (contains_cases a rest x has) [
  | inl same ↦ (b, contains_head b bs, subst (λ z. R z b) same zip.0)
  | inr later ↦ let f = left_of R rest bs x zip.1 later in (f.0, contains_tail b bs f.0 f.1, f.2)
]

-- an instance has one class
pub one_class : (t : Topology) (name : List ℕ) (c d : ClassId) → HasClass t name c → HasClass t name d → c ≡ d
one_class t name c d a b = let e : Some c ≡ Some d = sym a ∙ b in cc

-- a class with an ancestor in the tables is in them
pub class_of_heir : (t : Tables) (c b : ClassId) → IsA t c b → IsClass t b → IsClass t c
class_of_heir t c b is_a within = elim (cases_lt c.0 (length t.classes)) [
  | inl lt ↦ lt
  | inr le ↦ up is_a.0 le is_a.1
]
  where
    up : (m : ℕ) → length t.classes ≤ c.0 → ancestor t c m ≡ Some b → IsClass t c
    up zero le is = let same : b ≡ c = cc in subst (IsClass t) same within
    up (suc m) le is =
        let none : ancestor t c 1 ≡ None = ap parent_in_row (slice_get_past t.classes c.0 le) in
        let above = stops t c 1 (suc m) (omega arith) none in
        absurd (cc)

-- what has an event is a class of the tables
pub class_within : (t : Tables) → WellTyped t → (c : ClassId) (e : EventId) → HasEvent t c e → IsClass t c
class_within t typed c e has = class_of_heir t c has.row.class has.from_c of_row
  where
    of_row : IsClass t has.row.class
    of_row = subst (λ (row : EventRow). IsClass t row.class) (get_or_from_slice_get t.events e.0 has.row has.row has.is)
        (typed.places.events e.0 has.row (slice_get_within t.events e.0 has.row has.is))

-- a class has one event of a name
pub one_event : (t : Tables) → WellTyped t → (c : ClassId) (name : List ℕ) (e f : EventId) → NamesEvent t c name e → NamesEvent t c name f → e ≡ f
one_event t typed c name e f a b =
    event_reported t typed c e f a.0 b.0 (ap name_in_row a.0.is ∙ (a.1 ∙ (sym b.1 ∙ sym (ap name_in_row b.0.is))))

-- what a rule brings about is added
pub effects_gained : (n : Numbered) (i : InstanceId) (cause : EventId) (rule : Rule) → rule.cause ≡ cause → (path : List Place) → path ≡ rule.path → (here : List Bool) → IsWhereLeads n.net i path here
    → (members : List InstanceId) → ((id : InstanceId) → Contains members id ↔ Has here id.0) → (before now : ℕ → Type 0) → AddsNumbersOf before now members (IsEventNumber n rule.effect)
    → (k : ℕ) → now k ↔ (before k ⊎ BringsAbout n i cause rule k)
effects_gained n i cause rule caused path same here at members are before now gains k = (
  λ h. elim ((gains k).0 h) [
    | inl g ↦ inl g
    | inr g ↦ inr (record {
      caused = caused;
      at = g.0;
      leads = subst (λ p. LeadsAt n.net i p g.0) same ((at g.0.0).0 ((are g.0).0 g.1));
      is = g.2;
    })
  ],
  λ s. (gains k).1 (elim s [
    | inl g ↦ inl g
    | inr b ↦ inr (b.at, (are b.at).1 ((at b.at.0).1 (subst (λ p. LeadsAt n.net i p b.at) (sym same) b.leads)), b.is)
  ]),
)

module _ (n : Numbered) (whole : IsWhole n) where
  abbrev tables : Tables
  tables = n.net.topology.model

  pub one_at : (id : NodeId) (x y : Node) → IsNode n.nodes id x → IsNode n.nodes id y → x ≡ y
  one_at id x y a b = let e : Some x ≡ Some y = sym a ∙ b in cc

  -- a node has one number
  node_reported : (i j : NodeId) (x : Node) → IsNode n.nodes i x → IsNode n.nodes j x → i ≡ j
  node_reported i j x a b =
      let named = whole.node_named i x a in
      let same : named.1.node ≡ x = one_at i named.1.node x named.1.is a in
      whole.one i j named.0 named.1 (record {
        node = x;
        is = b;
        instance = subst (λ (z : Node). IsNamed n.net z.instance named.0.instance) same named.1.instance;
        event = subst (λ (z : Node). event_name tables z.event ≡ named.0.event) same named.1.event;
      })

  -- a row gains the number of the event at the instance
  pub number_gained : (row : List Bool) (id : NodeId) (i : InstanceId) (e : EventId) → IsNode n.nodes id (node_of i e) → id.0 < length row
      → (k : ℕ) → Has (slice_set row id.0 true) k ↔ (Has row k ⊎ IsEventNumber n e i k)
  number_gained row id i e is lt k =
      let s = set_gains row id.0 lt k in (
        λ h. elim (s.0 h) [ inl g ↦ inl g | inr same ↦ inr (subst (λ m. IsNode n.nodes (number m) (node_of i e)) same is) ],
        λ g. s.1 (elim g [ inl h ↦ inl h | inr there ↦ inr (ap (λ (z : NodeId). z.0) (node_reported id (number k) (node_of i e) is there)) ]),
      )

  -- a list with the number of the event at the instance after it
  pub number_listed : (list : List ℕ) (id : NodeId) (i : InstanceId) (e : EventId) → IsNode n.nodes id (node_of i e)
      → (k : ℕ) → Contains (list ++ id.0 ∷ []) k ↔ (Contains list k ⊎ IsEventNumber n e i k)
  number_listed list id i e is k = (
    λ h. elim (Contains-push_cases list id.0 k h) [
      | inl early ↦ inl early
      | inr same ↦ inr (subst (λ m. IsNode n.nodes (number m) (node_of i e)) same is)
    ],
    λ g. elim g [
      | inl h ↦ Contains-append_left list (id.0 ∷ []) k h
      | inr there ↦ subst (Contains (list ++ id.0 ∷ [])) (ap (λ (z : NodeId). z.0) (node_reported id (number k) (node_of i e) is there)) (Contains-push list id.0)
    ],
  )

  -- the event of a node, at its name
  pub event_at : (id : NodeId) (node : Node) (name : NodeName) → IsNode n.nodes id node → IsNamed n.net node.instance name.instance → event_name tables node.event ≡ name.event
      → IsEventAt (topology_of n) name node.event
  event_at id node name is named event =
      let had = whole.had id node is in
      let at : name_at n.net node.instance ≡ name.instance = ap name_or named in
      record {
        class = had.0;
        of_class = subst (λ a. HasClass (topology_of n) a had.0) at had.1;
        named = (had.2, sym (ap name_in_row had.2.is) ∙ event);
      }

  module _ (typed : WellTyped tables) (node : NodeId) (from : NodeName) (named : IsNodeNamed n node from) (c : ClassId) (of_class : HasClass (topology_of n) from.instance c) where
    here : NamesEvent tables c from.event named.node.event
    here =
        let at = event_at node named.node from named.is named.instance named.event in
        subst (λ d. NamesEvent tables d from.event named.node.event) (one_class (topology_of n) from.instance at.class c at.of_class of_class) at.named

    pub class_known : IsClass tables c
    class_known = class_within tables typed c named.node.event here.0

    module _ (rules : List Rule) (are : AreRulesOf tables c rules) where
      edge_to : (k : ℕ) (rule : Rule) → Contains rules rule → BringsAbout n named.node.instance named.node.event rule k → EdgeAt n node.0 k
      edge_to k rule has b =
          let place = right_of (IsRuleAt tables) are.0 rules rule are.2 has in
          let had : HasRule tables c place.0 = (are.1.exactly place.0).0 place.1 in
          let is = place.2 in
          let rows : Some is.0 ≡ Some had.row = sym is.1 ∙ had.is in
          let row : is.0 ≡ had.row = cc in
          let same : rule ≡ rule_of had.row = is.2 ∙ ap rule_of row in
          let to = whole.node_named (number k) (node_of b.at rule.effect) b.is in
          let to_node : to.1.node ≡ node_of b.at rule.effect = one_at (number k) to.1.node (node_of b.at rule.effect) to.1.is b.is in
          let to_named : IsNamed n.net b.at to.0.instance = subst (λ (z : Node). IsNamed n.net z.instance to.0.instance) to_node to.1.instance in
          let leads : LeadsAt n.net named.node.instance had.row.path b.at = subst (λ (z : Rule). LeadsAt n.net named.node.instance z.path b.at) same b.leads in
          record {
            from = from;
            to = to.0;
            from_is = named;
            to_is = to.1;
            edge = record {
              class = c;
              of_class = of_class;
              rule = place.0;
              has = had;
              cause = subst (NamesEvent tables c from.event) (sym b.caused ∙ ap (λ (z : Rule). z.cause) same) here;
              leads = (leads_are_leads n.net whole.net had.row.path named.node.instance b.at from.instance to.0.instance named.instance to_named).0 leads;
              effect = subst (IsEventAt (topology_of n) to.0) (ap (λ (z : Node). z.event) to_node ∙ ap (λ (z : Rule). z.effect) same)
                  (event_at (number k) to.1.node to.0 to.1.is to.1.instance to.1.event);
            };
          }

      edge_by : (k : ℕ) → EdgeAt n node.0 k → (rule : Rule) × Contains rules rule × BringsAbout n named.node.instance named.node.event rule k
      edge_by k at =
          let nodes : at.from_is.node ≡ named.node = one_at node at.from_is.node named.node at.from_is.is named.is in
          let named' : IsNamed n.net named.node.instance at.from.instance = subst (λ (z : Node). IsNamed n.net z.instance at.from.instance) nodes at.from_is.instance in
          let at_instance : at.from.instance ≡ from.instance = one_name n.net named.node.instance at.from.instance from.instance named' named.instance in
          let at_event : at.from.event ≡ from.event = sym at.from_is.event ∙ (ap (λ (z : Node). event_name tables z.event) nodes ∙ named.event) in
          let names : at.from ≡ from = λ i. record { event = at_event i; instance = at_instance i } in
          let edge : Edge (topology_of n) from at.to = subst (λ z. Edge (topology_of n) z at.to) names at.edge in
          let class : edge.class ≡ c = one_class (topology_of n) from.instance edge.class c edge.of_class of_class in
          let had : HasRule tables c edge.rule = subst (λ d. HasRule tables d edge.rule) class edge.has in
          let place = left_of (IsRuleAt tables) are.0 rules edge.rule are.2 ((are.1.exactly edge.rule).1 had) in
          let is = place.2 in
          let rows : Some is.0 ≡ Some edge.has.row = sym is.1 ∙ edge.has.is in
          let row : is.0 ≡ edge.has.row = cc in
          let same : place.0 ≡ rule_of edge.has.row = is.2 ∙ ap rule_of row in
          let cause : edge.has.row.cause ≡ named.node.event = one_event tables typed c from.event edge.has.row.cause named.node.event
          (subst (λ d. NamesEvent tables d from.event edge.has.row.cause) class edge.cause) here in
          let to = event_at (number k) at.to_is.node at.to at.to_is.is at.to_is.instance at.to_is.event in
          let to_class : to.class ≡ edge.effect.class = one_class (topology_of n) at.to.instance to.class edge.effect.class to.of_class edge.effect.of_class in
          let effect : at.to_is.node.event ≡ edge.has.row.effect = one_event tables typed edge.effect.class at.to.event at.to_is.node.event edge.has.row.effect
          (subst (λ d. NamesEvent tables d at.to.event at.to_is.node.event) to_class to.named) edge.effect.named in
          let leads : LeadsAt n.net named.node.instance edge.has.row.path at.to_is.node.instance =
          (leads_are_leads n.net whole.net edge.has.row.path named.node.instance at.to_is.node.instance from.instance at.to.instance named.instance at.to_is.instance).1 edge.leads in (
            place.0,
            place.1,
            record {
              caused = ap (λ (z : Rule). z.cause) same ∙ cause;
              at = at.to_is.node.instance;
              leads = subst (λ (z : Rule). LeadsAt n.net named.node.instance z.path at.to_is.node.instance) (sym same) leads;
              is = at.to_is.is ∙ ap (λ e. Some (node_of at.to_is.node.instance e)) (effect ∙ sym (ap (λ (z : Rule). z.effect) same));
            },
          )

      -- where what the rules bring about is added, the edges are
      pub edges_gained : (i : InstanceId) (e : EventId) → named.node.instance ≡ i → named.node.event ≡ e → (before now : ℕ → Type 0) → AddsNumbersOf before now rules (BringsAbout n i e)
          → (k : ℕ) → now k ↔ (before k ⊎ EdgeAt n node.0 k)
      edges_gained i e at_i at_e before now gains k =
          let to : BringsAbout n i e ≡ BringsAbout n named.node.instance named.node.event = λ j. BringsAbout n (sym at_i j) (sym at_e j) in
          let own : AddsNumbersOf before now rules (BringsAbout n named.node.instance named.node.event) = subst (λ P. AddsNumbersOf before now rules P) to gains in (
            λ h. elim ((own k).0 h) [ inl g ↦ inl g | inr g ↦ inr (edge_to k g.0 g.1 g.2) ],
            λ s. (own k).1 (elim s [ inl g ↦ inl g | inr at ↦ inr (edge_by k at) ]),
          )
