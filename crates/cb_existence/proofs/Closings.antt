-- Windows have nodes, and at each position a list of windows closes.
use Rattle.std.proofs.Common.{◌≡◌, ◌<◌, ◌≤◌, ℕ, List, [], ◌∷◌, refl, sym, ap, subst, ◌∙◌, inl, inr, arith}
use Rattle.std.specs.List.{Contains, slice_get}
use Rattle.std.specs.Ordering.{nat_cmp, on}
use Rattle.cb_model.specs.declared.node.NodeName.{NodeName}
use Rattle.cb_model.specs.NodeOrder.{node_cmp}
use Rattle.cb_model.specs.Order.{name_cmp}
use Rattle.cb_model.proofs.Numbers.{contains_at}
use Rattle.cb_model.proofs.Rising.{node_cmp_total, node_cmp_exact, node_strict, name_cmp_exact, same_rising, then_ties, contains_cases, contains_head, nothing_in_empty}
use Rattle.cb_network.proofs.Decided.{Decision, decide_both, decide_same, decide_below, decide_number}
use Rattle.cb_change.proofs.Closure.{decide_any, decide_not}
use Rattle.cb_change.proofs.Deciding.{decide_name, decide_node}
use Rattle.cb_log.specs.declared.closed.Closed.{Closed}
use Rattle.cb_log.specs.declared.record.Body.{Body}
use Rattle.cb_log.specs.declared.record.Body.TheVariants.{Raise, Clear, Change, Tick}
use Rattle.cb_log.specs.declared.record.Record.{Record}
use Rattle.cb_log.specs.Closing.{AreClosing, ClosesAt, closed_cmp}
use Rattle.cb_log.specs.Records.{time_at, Raises, RaisesNode, ClearsNode}
use Rattle.cb_log.specs.Windows.{Window, WindowsFrom, IsWindow, IsRaised, AreWindowNodes}
use Rattle.cb_log.proofs.ClosingOne.{closed_total}
use Rattle.cb_log.proofs.Due.{decide_raise}
use Rattle.cb_log.proofs.Shapes.{windows_exist}
use Rattle.cb_log.proofs.WindowsOne.{windows_are_one, each_lies}
use Rattle.cb_existence.proofs.Found.{decide_less, decide_at_most, decide_got}
use Rattle.cb_existence.proofs.Gathered.{IsOrderOf, order_of_total, gather}

-- what a record says

decide_is_raise : (b : Body) (source : List ℕ) (node : NodeName) → Decision (b ≡ Raise source node)
decide_is_raise (Raise other n) source node =
    decide_same ((other ≡ source) × (n ≡ node)) (Raise other n ≡ Raise source node) (λ (e, f). λ i. Raise (e i) (f i))
    (λ e. (let f : other ≡ source = cc in f, let f : n ≡ node = cc in f)) (decide_both _ _ (decide_name other source) (decide_node n node))
decide_is_raise (Clear other n) source node = inr (λ e. absurd (cc))
decide_is_raise (Change edit) source node = inr (λ e. absurd (cc))
decide_is_raise Tick source node = inr (λ e. absurd (cc))

decide_is_clear : (b : Body) (source : List ℕ) (node : NodeName) → Decision (b ≡ Clear source node)
decide_is_clear (Clear other n) source node =
    decide_same ((other ≡ source) × (n ≡ node)) (Clear other n ≡ Clear source node) (λ (e, f). λ i. Clear (e i) (f i))
    (λ e. (let f : other ≡ source = cc in f, let f : n ≡ node = cc in f)) (decide_both _ _ (decide_name other source) (decide_node n node))
decide_is_clear (Raise other n) source node = inr (λ e. absurd (cc))
decide_is_clear (Change edit) source node = inr (λ e. absurd (cc))
decide_is_clear Tick source node = inr (λ e. absurd (cc))

one_node : (source : List ℕ) (m n : NodeName) → Raise source m ≡ Raise source n → m ≡ n
one_node source m n e = cc

-- the nodes of a window

module _ (records : List Record) (source : List ℕ) (x : Window) where
  decide_raised : (node : NodeName) → Decision (IsRaised records source x node)
  decide_raised node =
      decide_same
      ((place : ℕ) × (place < x.closes) × ((x.opens ≤ place) × (RaisesNode records source node place
      × (¬ ((later : ℕ) × (later < x.closes) × ((place < later) × ClearsNode records source node later))))))
      (IsRaised records source x node)
      (λ (place, before, (from, (raises, never))). record {
        place = place;
        from = from;
        before = before;
        raises = raises;
        stays = λ later after within clears. never (later, within, (after, clears));
      })
      (λ r. (r.place, r.before, (r.from, (r.raises, λ (later, within, (after, clears)). r.stays later after within clears))))
      (decide_below _ (λ place. decide_both _ _ (decide_at_most x.opens place) (decide_both _ _ (raise_at place)
      (decide_not _ (decide_below _ (λ later. decide_both _ _ (decide_less place later) (clear_at later)) x.closes)))) x.closes)
    where
      raise_at : (place : ℕ) → Decision (RaisesNode records source node place)
      raise_at place = decide_got (slice_get records place) (λ r. r.body ≡ Raise source node) (λ r. decide_is_raise r.body source node)

      clear_at : (place : ℕ) → Decision (ClearsNode records source node place)
      clear_at place = decide_got (slice_get records place) (λ r. r.body ≡ Clear source node) (λ r. decide_is_clear r.body source node)

  raised_by : (r : Record) → Decision ((node : NodeName) × (r.body ≡ Raise source node) × IsRaised records source x node)
  raised_by r = elim (decide_raise r source) [
    | inl (node, says) ↦ decide_same (IsRaised records source x node) _ (λ raised. (node, says, raised))
        (λ (other, also, raised). subst (IsRaised records source x) (one_node source other node (sym also ∙ says)) raised) (decide_raised node)
    | inr none ↦ inr (λ h. none (h.0, h.1))
  ]

  pub window_nodes : (nodes : List NodeName) × AreWindowNodes records source x nodes
  window_nodes =
      let gathered = gather node_cmp (IsRaised records source x) (order_of_total node_cmp _ node_cmp_total (λ m n p q. node_cmp_exact m n))
      (λ (r : Record) node. r.body ≡ Raise source node) (λ r m n e p f q. one_node source m n (sym e ∙ f)) raised_by records
      in (
        gathered.items,
        record {
          rise = gathered.rise;
          each = λ node. (
            λ has. ((gathered.each node).0 has).3,
            λ raised.
                let says = raised.raises in
                (gathered.each node).1 (says.0, contains_at records raised.place says.0 says.1, says.2, raised),
          );
        },
      )

-- at a position a source closes one window

module _ (records : List Record) (w : ℕ) (source : List ℕ) where
  one_closes : (start : ℕ) (xs : List Window) → WindowsFrom records w source start xs → (x y : Window) → Contains xs x → Contains xs y
      → x.closes ≡ y.closes → x ≡ y
  one_closes start [] a x y has_x has_y e = absurd (nothing_in_empty x has_x)
  one_closes start (z ∷ zs) a x y has_x has_y e = elim (contains_cases z zs x has_x) [
    | inl is_x ↦ elim (contains_cases z zs y has_y) [
      | inl is_y ↦ sym is_x ∙ is_y
      | inr late ↦ absurd (closes_later x y is_x late e)
    ]
    | inr late_x ↦ elim (contains_cases z zs y has_y) [
      | inl is_y ↦ absurd (closes_later y x is_y late_x (sym e))
      | inr late_y ↦ one_closes z.closes zs a.2 x y late_x late_y e
    ]
  ]
    where
      closes_later : (u v : Window) → z ≡ u → Contains zs v → u.closes ≡ v.closes → ⊥
      closes_later u v is late same =
          let there = each_lies records w source z.closes zs a.2 v late in
          let here : z.closes ≡ u.closes = ap (λ (k : Window). k.closes) is in
          let from = there.from in
          let longer = there.longer in
          absurd (omega arith)

  -- a window opens where its source raises a node
  opens_at_raise : (start : ℕ) (xs : List Window) → WindowsFrom records w source start xs → (x : Window) → Contains xs x → Raises records source x.opens
  opens_at_raise start [] a x has = absurd (nothing_in_empty x has)
  opens_at_raise start (z ∷ zs) a x has = elim (contains_cases z zs x has) [
    | inl is ↦ subst (λ (k : Window). Raises records source k.opens) is a.0.holds
    | inr late ↦ opens_at_raise z.closes zs a.2 x late
  ]

module _ (records : List Record) (w place : ℕ) where
  one_closed : (c d : Closed) → ClosesAt records w place c → ClosesAt records w place d → c.from ≡ d.from → c ≡ d
  one_closed c d x y same =
      let is_y : IsWindow records w c.from y.window = subst (λ (s : List ℕ). IsWindow records w s y.window) (sym same) y.is in
      let lists : x.is.0 ≡ is_y.0 = windows_are_one records w c.from 0 x.is.0 is_y.0 x.is.1 is_y.1 in
      let has : Contains x.is.0 y.window = subst (λ (ws : List Window). Contains ws y.window) (sym lists) is_y.2 in
      let window : x.window ≡ y.window = one_closes records w c.from 0 x.is.0 x.is.1 x.window y.window x.is.2 has (x.closes ∙ sym y.closes) in
      let opened : c.opened ≡ d.opened = x.opened ∙ (ap (λ (v : Window). time_at records v.opens) window ∙ sym y.opened) in
      let closed : c.closed ≡ d.closed = x.closed ∙ sym y.closed in
      let nodes_y : AreWindowNodes records c.from x.window d.nodes =
      subst (λ (v : Window). AreWindowNodes records c.from v d.nodes) (sym window) (subst (λ (s : List ℕ). AreWindowNodes records s y.window d.nodes) (sym same) y.nodes) in
      let nodes : c.nodes ≡ d.nodes = same_rising node_cmp node_strict c.nodes d.nodes x.nodes.rise nodes_y.rise
      (λ n h. (nodes_y.each n).1 ((x.nodes.each n).0 h)) (λ n h. (x.nodes.each n).1 ((nodes_y.each n).0 h)) in
      λ i. record { from = same i; opened = opened i; closed = closed i; nodes = nodes i }

  in_their_order : IsOrderOf closed_cmp (ClosesAt records w place)
  in_their_order = order_of_total closed_cmp _ closed_total (λ c d p q tie.
      one_closed c d p q (name_cmp_exact c.from d.from (then_ties (on (λ (k : Closed). k.opened) nat_cmp) (on (λ (k : Closed). k.from) name_cmp) c d tie).1))

  -- the record is a raise of the window's source
  abbrev IsByIts : Record → Closed → Type 0
  IsByIts r c = (node : NodeName) × (r.body ≡ Raise c.from node)

  closed_of_source : (source : List ℕ) → Decision ((c : Closed) × (c.from ≡ source) × ClosesAt records w place c)
  closed_of_source source =
      let windows = windows_exist records w source in
      decide_same ((x : Window) × Contains windows.0 x × (x.closes ≡ place)) _
      (λ (x, has, closes).
      let nodes = window_nodes records source x in (
        record { from = source; opened = time_at records x.opens; closed = time_at records place; nodes = nodes.0 },
        refl,
        record { window = x; is = (windows.0, windows.1, has); closes = closes; opened = refl; closed = refl; nodes = nodes.1 },
      ))
      (λ (c, own, closes).
      let is : IsWindow records w source closes.window = subst (λ (s : List ℕ). IsWindow records w s closes.window) own closes.is in
      let lists : is.0 ≡ windows.0 = windows_are_one records w source 0 is.0 windows.0 is.1 windows.1 in
      (closes.window, subst (λ (ws : List Window). Contains ws closes.window) lists is.2, closes.closes))
      (decide_any (λ (x : Window). x.closes ≡ place) (λ x. decide_number x.closes place) windows.0)

  closed_of_record : (r : Record) → Decision ((c : Closed) × IsByIts r c × ClosesAt records w place c)
  closed_of_record r = by_body r.body refl
    where
      by_body : (b : Body) → r.body ≡ b → Decision ((c : Closed) × IsByIts r c × ClosesAt records w place c)
      by_body (Raise source node) is =
          decide_same ((c : Closed) × (c.from ≡ source) × ClosesAt records w place c) _
          (λ (c, own, closes). (c, (node, is ∙ ap (λ (s : List ℕ). Raise s node) (sym own)), closes))
          (λ (c, (n, says), closes). (c, let e : Raise source node ≡ Raise c.from n = sym is ∙ says in cc, closes))
          (closed_of_source source)
      by_body (Clear source node) is = inr (λ (c, (n, says), closes). absurd (cc))
      by_body (Change edit) is = inr (λ (c, (n, says), closes). absurd (cc))
      by_body Tick is = inr (λ (c, (n, says), closes). absurd (cc))

  one_source : (r : Record) (c d : Closed) → IsByIts r c → ClosesAt records w place c → IsByIts r d → ClosesAt records w place d → c ≡ d
  one_source r c d (m, x) p (n, y) q =
      let e : Raise c.from m ≡ Raise d.from n = sym x ∙ y in
      one_closed c d p q (let f : c.from ≡ d.from = cc in f)

  pub closing_exists : (closing : List Closed) × AreClosing records w place closing
  closing_exists =
      let gathered = gather closed_cmp (ClosesAt records w place) in_their_order IsByIts one_source closed_of_record records in (
        gathered.items,
        record {
          rise = gathered.rise;
          each = λ c. (
            λ has. ((gathered.each c).0 has).3,
            λ closes.
                let raise = opens_at_raise records w c.from 0 closes.is.0 closes.is.1 closes.window closes.is.2 in
                let says = raise.1 in
                (gathered.each c).1 (says.0, contains_at records closes.window.opens says.0 says.1, (raise.0, says.2), closes),
          );
        },
      )

  -- so it is known whether one closes
  pub decide_closes : Decision ((c : Closed) × ClosesAt records w place c)
  decide_closes = by_list closing_exists.0 closing_exists.1
    where
      by_list : (closing : List Closed) → AreClosing records w place closing → Decision ((c : Closed) × ClosesAt records w place c)
      by_list [] are = inr (λ h. nothing_in_empty h.0 ((are.each h.0).1 h.1))
      by_list (c ∷ closing) are = inl (c, (are.each c).0 (contains_head c closing))
