-- Whether all successors are listed, by numbers and by names.
use Rattle.std.proofs.Common.{◌≡◌, ◌≢◌, ◌⊎◌, ◌↔◌, inl, inr, ℕ, ◌+◌, ◌<◌, ◌≤◌, List, [], Bool, true, false, length, replicate, map, refl, sym, ap, subst, ◌∙◌, Option, None, Some, arith}
use Rattle.std.specs.Prelude.{Result, Ok, Err, IfOk, slice_get, slice_set, slice_index_or}
use Rattle.std.specs.List.{All}
use Rattle.std.specs.declared.cmp.Ordering.TheVariants.{Less, Equal, Greater}
use Rattle.std.specs.Ordering.{ordering_reverse}
use Rattle.std.proofs.lemmas.Bool.{false≢true, cases_eq, cases_lt}
use Rattle.std.proofs.lemmas.List.{get_or_past, get_or-set_same, get_or-set_other, length-set, length-replicate}
use Rattle.std.proofs.lemmas.Option.{same_Some, slice_get_within}
use Rattle.cb_model.specs.declared.node.NodeName.{NodeName}
use Rattle.cb_model.specs.NodeOrder.{node_cmp}
use Rattle.cb_model.proofs.Rising.{node_cmp_total, node_cmp_exact, node_strict}
use Rattle.cb_model.proofs.Numbers.{contains_at, place_in}
use Rattle.cb_network.specs.Causes.{Edge}
use Rattle.cb_network.specs.Nodes.{IsNodeOf}
use Rattle.cb_cert.specs.declared.certificate.Certificate.{Certificate}
use Rattle.cb_cert.specs.declared.certificate.Span.{Span}
use Rattle.cb_cert.specs.Format.{nodes_of}
use Rattle.cb_validity.specs.declared.verdict.Rejected.TheVariants.{NotClosed}
use Rattle.cb_validity.specs.Spans.{IsListedAt, ListsNode}
use Rattle.cb_validity.specs.Checks.{closed_check, places, Passes, Judges, IsLeastOutside}
use Rattle.cb_nodes.specs.declared.id.NodeId.{NodeId}
use Rattle.cb_successors.specs.Rows.{Has}
use Rattle.cb_topo.specs.Numbered.{Numbered, topology_of, IsLiveNode, IsNodeNamed}
use Rattle.cb_graph.specs.Edges.{EdgeAt, number}
use Rattle.cb_graph.proofs.Chains.{named_once}
use Rattle.cb_checker.specs.Known.{IsKnown}
use Rattle.cb_checker.specs.Listed.{ArePlaced, IsAmongPlaced, AreListed, AreMarked}
use Rattle.cb_checker.specs.declared.marks.SpanNodes.{SpanNodes}
use Rattle.cb_successors.proofs.Marks.{nothing, same_rows}
use Rattle.cb_checker.specs.Missing.{AreClosedTo, IsLeastName, IsLeastIfAny, IsMissing, IsUnlistedOf, IsLesser}
use Rattle.cb_checker.specs.Spans.{asked}
use Rattle.cb_checker.proofs.Joined.{fails_here, place_fails, place_passes}
use Rattle.cb_checker.proofs.Placing.{listed_by, placed_by, one_placed, placed_there}

-- an edge ends at a node
ends_at_node : (n : Numbered) (p q : NodeName) → Edge (topology_of n) p q → IsNodeOf (topology_of n) q
ends_at_node n p q edge = (edge.has.row.effect, edge.effect)

-- what isn't lacking is there
pub has_unless : (row : List Bool) (k : ℕ) → ¬ ¬ Has row k → Has row k
has_unless row k not_not = elim (slice_index_or row k false) as (λ b. slice_index_or row k false ≡ b → Has row k) [
  | true ↦ λ is. is
  | false ↦ λ is. absurd (not_not (λ has. false≢true (sym is ∙ has)))
] refl

-- what doesn't stand before a name, which doesn't stand after another, doesn't stand before the other
not_below : (least name other : NodeName) → node_cmp least name ≢ Less → node_cmp other least ≢ Less → node_cmp other name ≢ Less
not_below least name other not_less not_less' less =
    elim (node_cmp least other) as (λ o. node_cmp least other ≡ o → ⊥) [
      | Less ↦ λ is. not_less (node_cmp_total.trans least other name is less)
      | Equal ↦ λ is. not_less (subst (λ x. node_cmp x name ≡ Less) (sym (node_cmp_exact least other is)) less)
      | Greater ↦ λ is. not_less' (node_cmp_total.antisymm other least ∙ ap ordering_reverse is)
    ] refl

module _ (n : Numbered) (ids : List NodeId) (c : Certificate) (known : IsKnown n ids c) (before : ℕ) (root : Option NodeName) (span : Span)
    (placed : List NodeId) (are : ArePlaced ids span (length span.entries) placed) (listed : List Bool)
    (each : (k : ℕ) → Has listed k ↔ IsAmongPlaced placed k) where
  -- what is listed by its name is listed by its number
  has_listed : (x : NodeName) (k : ℕ) → IsNodeNamed n (number k) x → ListsNode (nodes_of c) span x → Has listed k
  has_listed x k named l =
      let p = placed_by n ids c known span l.0 x l.1 in
      let low = slice_get_within span.entries l.0 l.1.entry l.1.is in
      let there = placed_there ids span (length span.entries) placed are l.0 low in
      let one : there.0 ≡ p.0 = one_placed ids span l.0 there.0 p.0 there.2 p.1 in
      let two : p.0 ≡ number k = known.whole.one p.0 (number k) x p.2 named in
      (each k).1 (l.0, subst (λ (i : NodeId). slice_get placed l.0 ≡ Some i) (one ∙ two) there.1)

  -- and the other way round
  lists_listed : (x : NodeName) (k : ℕ) → IsNodeNamed n (number k) x → Has listed k → ListsNode (nodes_of c) span x
  lists_listed x k named has =
      let among = (each k).0 has in
      let p = listed_by n ids c known span among.0 (number k) (are.each among.0 (number k) among.1) in
      (among.0, subst (IsListedAt (nodes_of c) span among.0) (named_once n (number k) p.0 x p.2 named) p.1)

  pub listed_names : (x : NodeName) (k : ℕ) → IsNodeNamed n (number k) x → Has listed k ↔ ListsNode (nodes_of c) span x
  listed_names x k named = (lists_listed x k named, has_listed x k named)

  closed_here : (place : ℕ) (id : NodeId) → slice_get placed place ≡ Some id → ((k : ℕ) → ¬ IsMissing n id.0 listed k)
      → Passes (topology_of n) c (closed_check (asked before root span) place)
  closed_here place id at none = λ p q at_p edge.
      let there = placed_by n ids c known span place p at_p in
      let one : there.0 ≡ id = one_placed ids span place there.0 id there.1 (are.each place id at) in
      let to = known.whole.named q (ends_at_node n p q edge) in
      let led : EdgeAt n id.0 to.0.0 =
      record { from = p; to = q; from_is = subst (λ (i : NodeId). IsNodeNamed n i p) one there.2; to_is = to.1; edge = edge }
      in
      lists_listed q to.0.0 to.1 (has_unless listed to.0.0 (λ lacks. none to.0.0 (led, lacks)))

  pub all_closed : AreClosedTo n placed listed (length placed) → All (Passes (topology_of n) c) (map (closed_check (asked before root span)) (places span.entries))
  all_closed none =
      let size = are.count in
      place_passes (topology_of n) c (closed_check (asked before root span)) span.entries (λ k low.
      let there = placed_there ids span (length span.entries) placed are k low in
      closed_here k there.0 there.1 (none k there.0 (omega arith) there.1))

  pub not_closed : (place : ℕ) (id : NodeId) (name : NodeName) → slice_get placed place ≡ Some id → AreClosedTo n placed listed place
      → IsLeastName n (IsMissing n id.0 listed) name
      → Judges (topology_of n) c (map (closed_check (asked before root span)) (places span.entries)) (Err (NotClosed (before + place + 1) name))
  not_closed place id name at earlier least =
      let t = topology_of n in
      let size = are.count in
      let low : place < length span.entries = (let within = slice_get_within placed place id at in omega arith) in
      let first = listed_by n ids c known span place id (are.each place id at) in
      let led = least.is.0 in
      let from_is : led.from ≡ first.0 = named_once n id led.from first.0 led.from_is first.2 in
      let to_is : led.to ≡ name = named_once n (number least.node) led.to name led.to_is least.named in
      let edge : Edge t first.0 name = subst (λ x. Edge t x name) from_is (subst (λ y. Edge t led.from y) to_is led.edge) in
      let outside : ¬ ListsNode (nodes_of c) span name = λ l. least.is.1 (has_listed name least.node least.named l) in
      let least_name : (other : NodeName) → Edge t first.0 other → ¬ ListsNode (nodes_of c) span other → node_cmp other name ≢ Less =
      λ other to_other out.
      let to = known.whole.named other (ends_at_node n first.0 other to_other) in
      let led_other : EdgeAt n id.0 to.0.0 = record { from = first.0; to = other; from_is = first.2; to_is = to.1; edge = to_other } in
      least.least to.0.0 other (led_other, λ has. out (lists_listed other to.0.0 to.1 has)) to.1
      in
      let is : IsLeastOutside t (nodes_of c) span place name =
      record { node = first.0; is = first.1; edge = edge; outside = outside; least = least_name }
      in
      place_fails t c (closed_check (asked before root span)) span.entries place low (λ j less.
      let there = placed_there ids span (length span.entries) placed are j (omega arith) in
      closed_here j there.0 there.1 (earlier j there.0 less there.1))
      (NotClosed (before + place + 1) name)
      (fails_here t c (closed_check (asked before root span) place) [] (NotClosed (before + place + 1) name)
      (λ closed. outside (closed first.0 name first.1 edge)) (name, is, refl))

pub closed_more : (n : Numbered) (placed : List NodeId) (listed : List Bool) (to : ℕ) (id : NodeId) → AreClosedTo n placed listed to → slice_get placed to ≡ Some id
    → ((k : ℕ) → ¬ IsMissing n id.0 listed k) → AreClosedTo n placed listed (to + 1)
closed_more n placed listed to id old at here = λ place other low there. elim (cases_lt place to) [
  | inl less ↦ old place other less there
  | inr le ↦
      let last : place ≡ to = omega arith in
      let same : id ≡ other = same_Some id other (sym at ∙ subst (λ k. slice_get placed k ≡ Some other) last there) in
      subst (λ (x : NodeId). (k : ℕ) → ¬ IsMissing n x.0 listed k) same here
]

-- one node more may be the least
least_with : (n : Numbered) (P Q : ℕ → Type 0) (node : ℕ) (least : Option NodeName) (name lesser : NodeName) → IsLeastIfAny n P least
    → ((k : ℕ) → P k → Q k) → ((k : ℕ) → Q k → P k ⊎ (k ≡ node)) → Q node → IsNodeNamed n (number node) name → IsLesser least name lesser
    → IsLeastIfAny n Q (Some lesser)
least_with n P Q node None name lesser none keeps split here named same = record {
  node = node;
  is = here;
  named = subst (IsNodeNamed n (number node)) (sym same) named;
  least = λ k other is named_k. elim (split k is) [
    | inl had ↦ absurd (none k had)
    | inr last ↦ λ less.
        let one : other ≡ name = named_once n (number node) other name (subst (λ i. IsNodeNamed n (number i) other) last named_k) named in
        let again = subst (λ x. node_cmp x lesser ≡ Less) (one ∙ sym same) less in
        node_strict lesser lesser again again
  ];
}
least_with n P Q node (Some least) name lesser old keeps split here named either = elim either [
  | inl (same, less) ↦
      let kept : IsLeastIfAny n Q (Some least) = record {
        node = old.node;
        is = keeps old.node old.is;
        named = old.named;
        least = λ k other is named_k. elim (split k is) [
          | inl had ↦ old.least k other had named_k
          | inr last ↦ λ below.
              let one : other ≡ name = named_once n (number node) other name (subst (λ i. IsNodeNamed n (number i) other) last named_k) named in
              node_strict least name less (subst (λ x. node_cmp x least ≡ Less) one below)
        ];
      } in
      subst (λ x. IsLeastIfAny n Q (Some x)) (sym same) kept
  | inr (same, not_less) ↦
      let now : IsLeastIfAny n Q (Some name) = record {
        node = node;
        is = here;
        named = named;
        least = λ k other is named_k. elim (split k is) [
          | inl had ↦ λ less. not_below least name other not_less (old.least k other had named_k) less
          | inr last ↦ λ less.
              let one : other ≡ name = named_once n (number node) other name (subst (λ i. IsNodeNamed n (number i) other) last named_k) named in
              let again = subst (λ x. node_cmp x name ≡ Less) one less in
              node_strict name name again again
        ];
      } in
      subst (λ x. IsLeastIfAny n Q (Some x)) (sym same) now
]

-- what is so for the same nodes has the same least one
pub least_same : (n : Numbered) (P Q : ℕ → Type 0) → ((k : ℕ) → P k → Q k) → ((k : ℕ) → Q k → P k) → (least : Option NodeName) → IsLeastIfAny n P least → IsLeastIfAny n Q least
least_same n P Q to back None none = λ k is. none k (back k is)
least_same n P Q to back (Some name) old = record {
  node = old.node;
  is = to old.node old.is;
  named = old.named;
  least = λ k other is named_k. old.least k other (back k is) named_k;
}

-- one of the first nodes has this number, and it isn't listed
pub record IsUnlistedTo (nodes : List ℕ) (listed : List Bool) (to k : ℕ) : Type 0 where
  pub place : ℕ
  pub low : place < to
  pub at : slice_get nodes place ≡ Some k
  pub lacks : ¬ Has listed k

pub none_unlisted : (nodes : List ℕ) (listed : List Bool) (k : ℕ) → ¬ IsUnlistedTo nodes listed 0 k
none_unlisted nodes listed k is = let low = is.low in omega arith

module _ (nodes : List ℕ) (listed : List Bool) (to node : ℕ) (here : slice_get nodes to ≡ Some node) where
  unlisted_before : (k : ℕ) → IsUnlistedTo nodes listed to k → IsUnlistedTo nodes listed (to + 1) k
  unlisted_before k is = record { place = is.place; low = (let low = is.low in omega arith); at = is.at; lacks = is.lacks }

  unlisted_split : (k : ℕ) → IsUnlistedTo nodes listed (to + 1) k → IsUnlistedTo nodes listed to k ⊎ (k ≡ node)
  unlisted_split k is = elim (cases_lt is.place to) [
    | inl less ↦ inl (record { place = is.place; low = less; at = is.at; lacks = is.lacks })
    | inr high ↦
        let last : is.place ≡ to = (let low = is.low in omega arith) in
        inr (same_Some k node (sym is.at ∙ (ap (slice_get nodes) last ∙ here)))
  ]

  -- it is listed
  pub least_past : (n : Numbered) (least : Option NodeName) → Has listed node → IsLeastIfAny n (IsUnlistedTo nodes listed to) least
      → IsLeastIfAny n (IsUnlistedTo nodes listed (to + 1)) least
  least_past n least has old =
      least_same n (IsUnlistedTo nodes listed to) (IsUnlistedTo nodes listed (to + 1)) (λ k is. unlisted_before k is)
      (λ k is. elim (unlisted_split k is) [
        | inl had ↦ had
        | inr last ↦ absurd (is.lacks (subst (Has listed) (sym last) has))
      ]) least old

  -- it isn't
  pub least_more : (n : Numbered) (least : Option NodeName) (name lesser : NodeName) → (¬ Has listed node) → IsNodeNamed n (number node) name
      → IsLesser least name lesser → IsLeastIfAny n (IsUnlistedTo nodes listed to) least → IsLeastIfAny n (IsUnlistedTo nodes listed (to + 1)) (Some lesser)
  least_more n least name lesser lacks named is old =
      least_with n (IsUnlistedTo nodes listed to) (IsUnlistedTo nodes listed (to + 1)) node least name lesser old
      (λ k had. unlisted_before k had) (λ k had. unlisted_split k had)
      (record { place = to; low = omega arith; at = here; lacks = lacks }) named is

-- all nodes were looked at
pub least_all : (n : Numbered) (nodes : List ℕ) (listed : List Bool) (to : ℕ) (least : Option NodeName) → length nodes ≤ to
    → IsLeastIfAny n (IsUnlistedTo nodes listed to) least → IsLeastIfAny n (IsUnlistedOf nodes listed) least
least_all n nodes listed to least end old =
    least_same n (IsUnlistedTo nodes listed to) (IsUnlistedOf nodes listed) (λ k is. (contains_at nodes is.place k is.at, is.lacks))
    (λ k is.
    let there = place_in nodes k is.0 in
    let within = slice_get_within nodes there.0 k there.1 in
    record { place = there.0; low = omega arith; at = there.1; lacks = is.1 }) least old

-- what an edge leads to is a node
pub end_live : (n : Numbered) (from : ℕ) (k : ℕ) → EdgeAt n from k → IsLiveNode n (number k)
end_live n from k edge = (edge.to, edge.to_is)

pub has_below : (row : List Bool) (k : ℕ) → Has row k → k < length row
has_below row k has = elim (cases_lt k (length row)) [
  | inl lt ↦ lt
  | inr le ↦ absurd (false≢true (sym (get_or_past row k false le) ∙ has))
]

pub ok_weaker : {X E : Type 0} (P Q : X → Type 0) (result : Result X E) → ((x : X) → P x → Q x) → IfOk result P → IfOk result Q
ok_weaker P Q (Ok x) to is = to x is
ok_weaker P Q (Err e) to is = tt

pub least_moved : (m n : Numbered) (i : ℕ) (listed other : List Bool) (least : Option NodeName) → m ≡ n → listed ≡ other
    → IsLeastIfAny m (IsMissing m i listed) least → IsLeastIfAny n (IsMissing n i other) least
least_moved m n i listed other least same rows is =
    subst (λ row. IsLeastIfAny n (IsMissing n i row) least) rows (subst (λ (k : Numbered). IsLeastIfAny k (IsMissing k i listed) least) same is)

pub forgot_marked : (n : Numbered) (old new : SpanNodes) → AreMarked n old → new.placed.items ≡ [] → new.listed ≡ replicate (length old.listed) false
    → new.found ≡ old.found → AreMarked n new
forgot_marked n old new are none listed found = record {
  capacity = ap length listed ∙ (length-replicate (length old.listed) false ∙ are.capacity);
  spare = ap length found ∙ are.spare;
  each = λ k. (
    λ has. absurd (nothing (length old.listed) k (subst (λ row. Has row k) listed has)),
    λ among. absurd (let at = subst (λ ids. slice_get ids among.0 ≡ Some (number k)) none among.1 in cc),
  );
}

-- marks that are forgotten one by one

-- the row has only nodes that are placed from here on
pub record IsLeftFrom (placed : List NodeId) (wide from : ℕ) (row : List Bool) : Type 0 where
  pub width : length row ≡ wide
  pub left : (k : ℕ) → Has row k → (place : ℕ) × (from ≤ place) × (slice_get placed place ≡ Some (number k))

pub all_left : (placed : List NodeId) (row : List Bool) → AreListed row placed → IsLeftFrom placed (length row) 0 row
all_left placed row listed = record { width = refl; left = λ k has. (let among = (listed k).0 has in (among.0, omega arith, among.1)) }

pub less_left : (placed : List NodeId) (wide from : ℕ) (row : List Bool) (id : NodeId) → IsLeftFrom placed wide from row → slice_get placed from ≡ Some id → id.0 < wide
    → IsLeftFrom placed wide (from + 1) (slice_set row id.0 false)
less_left placed wide from row id old at low = record {
  width = length-set row id.0 false ∙ old.width;
  left = λ k has. elim (cases_eq k id.0) [
    | inl same ↦
        let within : id.0 < length row = (let e = old.width in omega arith) in
        let off = get_or-set_same row id.0 false false within in
        absurd (false≢true (sym off ∙ subst (Has (slice_set row id.0 false)) same has))
    | inr other ↦
        let had = old.left k (sym (get_or-set_other row id.0 k false false other) ∙ has) in
        elim (cases_eq had.0 from) [
          | inl here ↦
              let one : number k ≡ id = same_Some (number k) id (sym had.2 ∙ (ap (slice_get placed) here ∙ at)) in
              absurd (other (ap (λ (x : NodeId). x.0) one))
          | inr later ↦ (had.0, (let least = had.1 in omega (arith, later)), had.2)
        ]
  ];
}

pub none_left : (placed : List NodeId) (wide from : ℕ) (row : List Bool) → length placed ≤ from → IsLeftFrom placed wide from row → row ≡ replicate wide false
none_left placed wide from row end old =
    same_rows row (replicate wide false) (old.width ∙ sym (length-replicate wide false))
    (λ k has.
    let had = old.left k has in
    absurd (let within = slice_get_within placed had.0 (number k) had.2 in let least = had.1 in omega arith))
    (λ k has. absurd (nothing wide k has))
