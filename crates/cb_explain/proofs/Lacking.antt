-- Successors with which something is wrong, by numbers and by names.
use Rattle.std.proofs.Common.{◌≡◌, ◌↔◌, inl, inr, ℕ, ◌+◌, ◌<◌, ◌≤◌, List, [], ◌∷◌, ◌++◌, length, refl, sym, ap, subst, ◌∙◌, Option, None, Some, arith}
use Rattle.std.specs.Prelude.{slice_get}
use Rattle.std.specs.List.{All, Contains}
use Rattle.std.specs.declared.cmp.Ordering.TheVariants.{Less}
use Rattle.std.proofs.lemmas.Bool.{cases_lt}
use Rattle.std.proofs.lemmas.List.Elements.{All-nil, All-cons}
use Rattle.std.proofs.lemmas.Option.{same_Some, slice_get_within, get_or_from_slice_get}
use Rattle.cb_model.specs.declared.node.NodeName.{NodeName}
use Rattle.cb_model.specs.NodeOrder.{node_cmp}
use Rattle.cb_model.proofs.Rising.{node_strict}
use Rattle.cb_network.specs.Causes.{Edge}
use Rattle.cb_network.specs.Topology.{Topology}
use Rattle.cb_network.specs.Nodes.{IsNodeOf}
use Rattle.cb_nodes.specs.declared.id.NodeId.{NodeId}
use Rattle.cb_breadth.specs.declared.visit.Order.{Order}
use Rattle.cb_breadth.specs.Lists.{IsAmong}
use Rattle.cb_breadth.specs.Orders.{rank_at}
use Rattle.cb_topo.specs.Numbered.{Numbered, topology_of, IsNodeNamed}
use Rattle.cb_graph.specs.Edges.{EdgeAt, number}
use Rattle.cb_graph.proofs.Chains.{named_once}
use Rattle.cb_span.specs.Orders.{IsAtRank, IsOrderOf}
use Rattle.cb_levels.specs.declared.levels.LevelEntry.{LevelEntry}
use Rattle.cb_levels.specs.declared.levels.Levels.{Levels}
use Rattle.cb_levels.specs.declared.verdict.LevelFault.TheVariants.{NotClosed, NotShort}
use Rattle.cb_levels.specs.Listed.{IsEntryAt, ListsInLevels}
use Rattle.cb_levels.specs.Checks.{closed_check, short_check, checks_of_successors, IsTooFar, AreLevelsClosedAt, IsShortAt, PassesCheck, FailsFirstOf, IsLeastSuccessor}
use Rattle.cb_explain.specs.declared.listed.ListedNodes.{ListedNodes}
use Rattle.cb_explain.specs.declared.survey.WrongSuccessor.{WrongSuccessor}
use Rattle.cb_explain.specs.declared.survey.SuccessorFault.{SuccessorFault}
use Rattle.cb_explain.specs.declared.survey.SuccessorFault.TheVariants.{Unlisted, Far}
use Rattle.cb_explain.specs.Checking.{HavePositions, AreListedNodes}
use Rattle.cb_explain.specs.Surveyed.{IsFarAbove, IsWrongAt, IsLeastNumber, IsLeastIfSome, IsNoHigher, IsNotAfter, IsLeastWrong, IsLeastWrongIfAny, IsLeastWrongAmong, IsKnownOr, HasNoWrong, IsFirstWrongOf, IsFirstWrongIfAny, IsLower, wrong_fault}
use Rattle.cb_explain.proofs.Listing.{number_at, listed_by_name, listed_or_not, none_there, live_below}
use Rattle.cb_explain.proofs.Leading.{among_more, among_last, among_cases, contains_among}
use Rattle.cb_explain.proofs.Rejecting.{fails_here, fails_next}

-- the least of a list

module _ (ranks : List ℕ) (P : ℕ → Type 0) (xs : List ℕ) (x : ℕ) where
  abbrev Le : ℕ → ℕ → Type 0
  Le = IsNoHigher ranks

  pub least_kept : (least : Option ℕ) → IsLeastIfSome (λ k. IsAmong xs k × P k) Le least → ¬ P x → IsLeastIfSome (λ k. IsAmong (xs ++ (x ∷ [])) k × P k) Le least
  least_kept None none lacks = λ k is. elim (among_cases xs x k is.0) [
    | inl before ↦ none k (before, is.1)
    | inr last ↦ lacks (subst P (sym last) is.1)
  ]
  least_kept (Some l) old lacks = record {
    is = (among_more xs x l old.is.0, old.is.1);
    least = λ k is. elim (among_cases xs x k is.0) [
      | inl before ↦ old.least k (before, is.1)
      | inr last ↦ absurd (lacks (subst P (sym last) is.1))
    ];
  }

  pub least_more : (least : Option ℕ) (lower : ℕ) → IsLeastIfSome (λ k. IsAmong xs k × P k) Le least → P x → IsLower ranks least x lower
      → IsLeastNumber (λ k. IsAmong (xs ++ (x ∷ [])) k × P k) Le lower
  least_more None lower none here same = subst (IsLeastNumber (λ k. IsAmong (xs ++ (x ∷ [])) k × P k) Le) (sym same) (record {
    is = (among_last xs x, here);
    least = λ k is. elim (among_cases xs x k is.0) [
      | inl before ↦ absurd (none k (before, is.1))
      | inr last ↦ let e = ap (rank_at ranks) last in omega arith
    ];
  })
  least_more (Some l) lower old here either = elim either [
    | inl (same, low) ↦ subst (IsLeastNumber (λ k. IsAmong (xs ++ (x ∷ [])) k × P k) Le) (sym same) (record {
      is = (among_more xs x l old.is.0, old.is.1);
      least = λ k is. elim (among_cases xs x k is.0) [
        | inl before ↦ old.least k (before, is.1)
        | inr last ↦ let e = ap (rank_at ranks) last in omega arith
      ];
    })
    | inr (same, low) ↦ subst (IsLeastNumber (λ k. IsAmong (xs ++ (x ∷ [])) k × P k) Le) (sym same) (record {
      is = (among_last xs x, here);
      least = λ k is. elim (among_cases xs x k is.0) [
        | inl before ↦ let more = old.least k (before, is.1) in omega arith
        | inr last ↦ let e = ap (rank_at ranks) last in omega arith
      ];
    })
  ]

-- ranks are in the order of names
pub not_after : (n : Numbered) (order : Order) → IsOrderOf n order → (k other : ℕ) → IsNoHigher order.ranks.items k other → IsNotAfter n k other
not_after n order ord k other low x y named_x named_y less =
    let a = ord.all (number k) (x, named_x) in
    let b = ord.all (number other) (y, named_y) in
    let rank_a : rank_at order.ranks.items k ≡ a.0 = get_or_from_slice_get order.ranks.items k a.0 0 (ord.is.ranked a.0 k a.1).1 in
    let rank_b : rank_at order.ranks.items other ≡ b.0 = get_or_from_slice_get order.ranks.items other b.0 0 (ord.is.ranked b.0 other b.1).1 in
    let at_x : IsAtRank n order a.0 x = record { node = k; at = a.1; named = named_x } in
    let at_y : IsAtRank n order b.0 y = record { node = other; at = b.1; named = named_y } in
    elim (cases_lt a.0 b.0) [
      | inl below ↦ node_strict x y (ord.rise a.0 b.0 x y below at_x at_y) less
      | inr above ↦
          let same : a.0 ≡ b.0 = omega arith in
          let one : k ≡ other = same_Some k other (sym a.1 ∙ (ap (slice_get order.nodes.items) same ∙ b.1)) in
          let name : x ≡ y = named_once n (number other) x y (subst (λ i. IsNodeNamed n (number i) x) one named_x) named_y in
          let again = subst (λ z. node_cmp y z ≡ Less) name less in
          node_strict y y again again
    ]

-- the same lack for the same successors, and where the one order gives the other

module _ (E F : ℕ → Type 0) (Le Me : ℕ → ℕ → Type 0) (P : SuccessorFault → ℕ → Type 0) (to : (k : ℕ) → E k → F k) (back : (k : ℕ) → F k → E k)
    (more : (k j : ℕ) → Le k j → Me k j) where
  least_moved : (w : SuccessorFault) (k : ℕ) → IsLeastNumber (λ j. E j × P w j) Le k → IsLeastNumber (λ j. F j × P w j) Me k
  least_moved w k least = record { is = (to k least.is.0, least.is.1); least = λ j is. more k j (least.least j (back j is.0, is.1)) }

  pub lack_moved : (w : SuccessorFault) (k : ℕ) → IsLeastWrong E Le P w k → IsLeastWrong F Me P w k
  lack_moved Unlisted k least = least_moved Unlisted k least
  lack_moved Far k both = (λ j is. both.0 j (back j is.0, is.1), least_moved Far k both.1)

-- the first lack

module _ (n : Numbered) (levels : Levels) (nodes : List NodeId) where
  pub none_lack : IsFirstWrongIfAny n levels nodes 0 None
  none_lack = λ position low. absurd (omega arith)

  later_bound : (to : ℕ) (lack : WrongSuccessor) → IsFirstWrongOf n levels nodes to lack → IsFirstWrongOf n levels nodes (to + 1) lack
  later_bound to lack first = record {
    id = first.id;
    entry = first.entry;
    low = let low = first.low in omega arith;
    id_is = first.id_is;
    entry_is = first.entry_is;
    before = first.before;
    least = first.least;
  }

  module _ (order : Order) (ord : IsOrderOf n order) (successors : List ℕ) (to : ℕ) (id : NodeId) (id_is : slice_get nodes to ≡ Some id) (entry : LevelEntry)
      (entry_is : slice_get levels.entries to ≡ Some entry) (edges : (k : ℕ) → Contains successors k ↔ EdgeAt n id.0 k) where
    abbrev P : SuccessorFault → ℕ → Type 0
    P = IsWrongAt levels nodes entry.level

    among_edge : (k : ℕ) → IsAmong successors k → EdgeAt n id.0 k
    among_edge k among = (edges k).0 ((contains_among successors k).1 among)

    edge_among : (k : ℕ) → EdgeAt n id.0 k → IsAmong successors k
    edge_among k edge = (contains_among successors k).0 ((edges k).1 edge)

    no_lack_here : IsLeastWrongIfAny (IsAmong successors) (IsNoHigher order.ranks.items) P to None → HasNoWrong n levels nodes to
    no_lack_here none = λ i e w k at_i at_e edge wrong.
        let same : i ≡ id = same_Some i id (sym at_i ∙ id_is) in
        let one : e ≡ entry = same_Some e entry (sym at_e ∙ entry_is) in
        none w k (edge_among k (subst (λ (x : NodeId). EdgeAt n x.0 k) same edge), subst (λ (x : LevelEntry). IsWrongAt levels nodes x.level w k) one wrong)

    lack_now : (lack : Option WrongSuccessor) → IsFirstWrongIfAny n levels nodes to None → IsLeastWrongIfAny (IsAmong successors) (IsNoHigher order.ranks.items) P to lack
        → IsFirstWrongIfAny n levels nodes (to + 1) lack
    lack_now None before none = λ position low. elim (cases_lt position to) [
      | inl earlier ↦ before position earlier
      | inr late ↦
          let last : to ≡ position = omega arith in
          subst (HasNoWrong n levels nodes) last (no_lack_here none)
    ]
    lack_now (Some lack) before (same, is) = record {
      id = id;
      entry = entry;
      low = omega (arith, same);
      id_is = subst (λ k. slice_get nodes k ≡ Some id) (sym same) id_is;
      entry_is = subst (λ k. slice_get levels.entries k ≡ Some entry) (sym same) entry_is;
      before = λ position low. before position (omega (arith, same));
      least = lack_moved (IsAmong successors) (EdgeAt n id.0) (IsNoHigher order.ranks.items) (IsNotAfter n) P among_edge edge_among (not_after n order ord)
          lack.fault lack.successor is;
    }

    pub lack_more : (known lack : Option WrongSuccessor) → IsFirstWrongIfAny n levels nodes to known → IsKnownOr known (IsLeastWrongAmong order.ranks.items levels nodes successors to) lack
        → IsFirstWrongIfAny n levels nodes (to + 1) lack
    lack_more None lack before is = lack_now lack before (is entry entry_is)
    lack_more (Some known) lack first same = subst (IsFirstWrongIfAny n levels nodes (to + 1)) (sym same) (later_bound to known first)

-- from numbers to names, where all entries are listed

-- an edge ends at a node
ends_at_node : (n : Numbered) (p q : NodeName) → Edge (topology_of n) p q → IsNodeOf (topology_of n) q
ends_at_node n p q edge = (edge.has.row.effect, edge.effect)

module _ (n : Numbered) (levels : Levels) (listed : ListedNodes) (are : AreListedNodes n levels listed)
    (all : length levels.entries ≤ length listed.nodes.items) where
  abbrev nodes : List NodeId
  nodes = listed.nodes.items

  -- what is wrong with a successor, by its name
  abbrev IsWrongName : ℕ → SuccessorFault → NodeName → Type 0
  IsWrongName level Unlisted q = ¬ ListsInLevels levels q
  IsWrongName level Far q = IsTooFar levels level q

  within : (position : ℕ) (entry : LevelEntry) (q : NodeName) → IsEntryAt levels position entry q → position < length nodes
  within position entry q at = let low = slice_get_within levels.entries position entry at.is in omega arith

  entry_named : (k position : ℕ) (q : NodeName) → IsNodeNamed n (number k) q → slice_get nodes position ≡ Some (number k)
      → (entry : LevelEntry) × IsEntryAt levels position entry q
  entry_named k position q named at =
      let lists = are.each position (number k) at in
      let same : lists.node ≡ q = named_once n (number k) lists.node q lists.named named in
      (lists.entry, subst (IsEntryAt levels position lists.entry) same lists.is)

  position_named : (k position : ℕ) (entry : LevelEntry) (q : NodeName) → IsNodeNamed n (number k) q → IsEntryAt levels position entry q
      → slice_get nodes position ≡ Some (number k)
  position_named k position entry q named at = listed_by_name n levels listed are (number k) position entry q (within position entry q at) at named

  to_name : (level : ℕ) (w : SuccessorFault) (k : ℕ) (q : NodeName) → IsNodeNamed n (number k) q → IsWrongAt levels nodes level w k → IsWrongName level w q
  to_name level Unlisted k q named wrong = λ l. wrong l.0 (position_named k l.0 l.1 q named l.2)
  to_name level Far k q named far =
      let e = entry_named k far.position q named far.id_is in
      let same : e.0 ≡ far.entry = same_Some e.0 far.entry (sym e.1.is ∙ far.is) in
      (far.position, far.entry, subst (λ (x : LevelEntry). IsEntryAt levels far.position x q) same e.1, far.far)

  to_number : (level : ℕ) (w : SuccessorFault) (k : ℕ) (q : NodeName) → IsNodeNamed n (number k) q → IsWrongName level w q → IsWrongAt levels nodes level w k
  to_number level Unlisted k q named wrong = λ position at. let e = entry_named k position q named at in wrong (position, e.0, e.1)
  to_number level Far k q named (position, entry, at, far) = record {
    position = position;
    entry = entry;
    id_is = position_named k position entry q named at;
    is = at.is;
    far = far;
  }

  module _ (position : ℕ) (low : position < length nodes) where
    -- an edge between names is one between numbers
    edge_numbers : (entry : LevelEntry) (p q : NodeName) → IsEntryAt levels position entry p → Edge (topology_of n) p q
        → (id : NodeId) × (k : ℕ) × (slice_get nodes position ≡ Some id) × IsNodeNamed n (number k) q × EdgeAt n id.0 k
    edge_numbers entry p q at edge =
        let from = number_at n levels listed are position entry p low at in
        let to = are.whole.named q (ends_at_node n p q edge) in
        let led : EdgeAt n from.0.0 to.0.0 = record { from = p; to = q; from_is = from.2; to_is = to.1; edge = edge } in
        (from.0, to.0.0, from.1, to.1, led)

    is_closed : HasNoWrong n levels nodes position → AreLevelsClosedAt (topology_of n) levels position
    is_closed none entry p q at edge =
        let e = edge_numbers entry p q at edge in
        let id = e.0 in
        let k = e.1 in
        let named = e.3 in
        let capacity = are.capacity in
        let small = live_below n (number k) (q, named) in
        elim (listed_or_not listed.nodes.items listed.positions.items are.table k (omega arith)) [
          | inl there ↦ let l = entry_named k there.0 q named there.1 in (there.0, l.0, l.1)
          | inr missing ↦ absurd (none id entry Unlisted k e.2 at.is e.4 (none_there listed.nodes.items listed.positions.items are.table k missing))
        ]

    is_short : HasNoWrong n levels nodes position → IsShortAt (topology_of n) levels position
    is_short none entry p q at edge far =
        let e = edge_numbers entry p q at edge in
        none e.0 entry Far e.1 e.2 at.is e.4 (to_number entry.level Far e.1 q e.3 far)

    pub successors_pass : HasNoWrong n levels nodes position → All (PassesCheck (topology_of n) levels) (checks_of_successors position)
    successors_pass none =
        let P = PassesCheck (topology_of n) levels in
        All-cons P (closed_check position) (short_check position ∷ []) (is_closed none) (All-cons P (short_check position) [] (is_short none) (All-nil P))

    module _ (id : NodeId) (id_is : slice_get nodes position ≡ Some id) (entry : LevelEntry) (entry_is : slice_get levels.entries position ≡ Some entry) where
      abbrev t : Topology
      t = topology_of n

      -- the least number with which this is wrong is that of the least name
      least_name : (w : SuccessorFault) (k : ℕ) (q : NodeName) → IsNodeNamed n (number k) q
          → IsLeastNumber (λ j. EdgeAt n id.0 j × IsWrongAt levels nodes entry.level w j) (IsNotAfter n) k
          → IsLeastSuccessor t levels position (λ (e : LevelEntry) (x : NodeName). IsWrongName e.level w x) q
      least_name w k q named least =
          let lists = are.each position id id_is in
          let same : lists.entry ≡ entry = same_Some lists.entry entry (sym lists.is.is ∙ entry_is) in
          let at : IsEntryAt levels position entry lists.node = subst (λ (e : LevelEntry). IsEntryAt levels position e lists.node) same lists.is in
          let led = least.is.0 in
          let from_is : led.from ≡ lists.node = named_once n id led.from lists.node led.from_is lists.named in
          let to_is : led.to ≡ q = named_once n (number k) led.to q led.to_is named in
          record {
            entry = entry;
            node = lists.node;
            is = at;
            edge = subst (λ x. Edge t x q) from_is (subst (λ y. Edge t led.from y) to_is led.edge);
            such = to_name entry.level w k q named least.is.1;
            least = λ other edge such.
                let e = edge_numbers entry lists.node other at edge in
                let one : e.0 ≡ id = same_Some e.0 id (sym e.2 ∙ id_is) in
                let led_other = subst (λ (x : NodeId). EdgeAt n x.0 e.1) one e.4 in
                least.least e.1 (led_other, to_number entry.level w e.1 other e.3 such) q other named e.3;
          }

      pub lack_fails : (w : SuccessorFault) (k : ℕ) (q : NodeName) → IsNodeNamed n (number k) q
          → IsLeastWrong (EdgeAt n id.0) (IsNotAfter n) (IsWrongAt levels nodes entry.level) w k
          → FailsFirstOf t levels (checks_of_successors position) (wrong_fault w (position + 1) q)
      lack_fails Unlisted k q named least =
          let first = least_name Unlisted k q named least in
          fails_here t levels (closed_check position) (short_check position ∷ []) (NotClosed (position + 1) q)
          (λ closed. first.such (closed first.entry first.node q first.is first.edge)) (q, first, refl)
      lack_fails Far k q named (none, least) =
          let first = least_name Far k q named least in
          let closed : AreLevelsClosedAt t levels position = λ e p other at edge.
          let numbers = edge_numbers e p other at edge in
          let j = numbers.1 in
          let one : numbers.0 ≡ id = same_Some numbers.0 id (sym numbers.2 ∙ id_is) in
          let led = subst (λ (x : NodeId). EdgeAt n x.0 j) one numbers.4 in
          let capacity = are.capacity in
          let small = live_below n (number j) (other, numbers.3) in
          elim (listed_or_not listed.nodes.items listed.positions.items are.table j (omega arith)) [
            | inl there ↦ let l = entry_named j there.0 other numbers.3 there.1 in (there.0, l.0, l.1)
            | inr missing ↦ absurd (none j (led, none_there listed.nodes.items listed.positions.items are.table j missing))
          ]
          in
          fails_next t levels (closed_check position) (short_check position ∷ []) (NotShort (position + 1) q) closed
          (fails_here t levels (short_check position) [] (NotShort (position + 1) q)
          (λ short. short first.entry first.node q first.is first.edge first.such) (q, first, refl))

-- a node at a position is far above exactly if its entry is
pub far_is : (levels : Levels) (ids : List NodeId) (positions : List (Option ℕ)) → HavePositions ids positions → (level k position : ℕ)
    → slice_get positions k ≡ Some (Some position) → (entry : LevelEntry) → slice_get levels.entries position ≡ Some entry
    → (level + 1 < entry.level) ↔ IsFarAbove levels ids level k
far_is levels ids positions table level k position at entry entry_is = (
  λ far. record { position = position; entry = entry; id_is = table.only k position at; is = entry_is; far = far },
  λ far.
      let both : Some (Some far.position) ≡ Some (Some position) = sym (table.each far.position (number k) far.id_is) ∙ at in
      let same : far.position ≡ position = same_Some far.position position (same_Some (Some far.position) (Some position) both) in
      let one : far.entry ≡ entry = same_Some far.entry entry (sym far.is ∙ (ap (slice_get levels.entries) same ∙ entry_is)) in
      subst (λ (e : LevelEntry). level + 1 < e.level) one far.far,
)

-- nothing is wrong where neither is
pub no_wrong : (E : ℕ → Type 0) (P : SuccessorFault → ℕ → Type 0) → ((k : ℕ) → ¬ (E k × P Unlisted k)) → ((k : ℕ) → ¬ (E k × P Far k)) → (w : SuccessorFault) (k : ℕ) → ¬ (E k × P w k)
no_wrong E P listed near Unlisted k = listed k
no_wrong E P listed near Far k = near k
