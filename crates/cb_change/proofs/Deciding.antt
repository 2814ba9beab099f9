-- What a node causes, and whether an edit touches it, can be decided.
use Rattle.std.proofs.Common.{◌≡◌, ◌⊎◌, ◌<◌, ◌++◌, ℕ, zero, suc, List, [], ◌∷◌, true, Option, None, Some, length, slice_get, refl, sym, ap, subst, ◌∙◌, inl, inr, arith}
use Rattle.std.specs.FinMap as map
use Rattle.std.specs.FinSet as set
use Rattle.std.specs.List.{Contains, list_any}
use Rattle.std.specs.Ordering.{eq_by_cmp}
use Rattle.std.specs.Cmp.{IsTotalOrder}
use Rattle.std.specs.declared.cmp.Ordering.{Ordering}
use Rattle.std.proofs.lemmas.List.Elements.{Contains-append_left, Contains-append_right}
use Rattle.cb_model.specs.declared.id.ClassId.{ClassId}
use Rattle.cb_model.specs.declared.id.EventId.{EventId}
use Rattle.cb_model.specs.declared.id.RelId.{RelId}
use Rattle.cb_model.specs.declared.node.NodeName.{NodeName}
use Rattle.cb_model.specs.declared.tables.BlockRow.{BlockRow}
use Rattle.cb_model.specs.declared.tables.Place.{Place}
use Rattle.cb_model.specs.declared.tables.RuleRow.{RuleRow}
use Rattle.cb_model.specs.declared.tables.Tables.{Tables}
use Rattle.cb_model.specs.Classes.{ancestor, IsA, OnTheWay, HasRule, NamesEvent}
use Rattle.cb_model.proofs.Rising.{name_cmp_total, name_cmp_exact, node_cmp_total, node_cmp_exact, contains_head, contains_tail}
use Rattle.cb_network.specs.Causes.{Run, Ahead, Leads, Edge, Chain, Causes}
use Rattle.cb_network.specs.Nodes.{IsNodeOf, IsEventAt}
use Rattle.cb_network.specs.Regular.{IsRegular, depth_limit}
use Rattle.cb_network.specs.Topology.{Topology, HasClass, HasLink, IsLive, Link as TheLink}
use Rattle.cb_network.specs.Edits.{link_of}
use Rattle.cb_network.specs.Words.{InstanceName}
use Rattle.cb_network.proofs.Counts.{nodes_finite}
use Rattle.cb_network.proofs.Decided.{Decision, decide_number, decide_both, decide_same, decide_true, decide_below, same_class, decide_is_a}
use Rattle.cb_network.proofs.Sets.{link_cmp_total, link_cmp_exact, decide_key, or_cases, tied}
use Rattle.cb_change.specs.Touched.{IsLost, IsChanged, HasEither, MeetsChange, IsTouched}
use Rattle.cb_change.proofs.Closure.{decide_or, decide_not, decide_any, ahead_within, decide_ahead, decide_run}
use Rattle.cb_change.proofs.Kept.{ends_at_node}
use Rattle.cb_change.proofs.Steps.{one_class}

-- a member of a set is one of its items
module _ {K : Type 0} {R : K → K → Ordering} (total : IsTotalOrder R) (exact : set.IsAntisymmetric R) where
  any_contains : (q : K) (xs : List K) → list_any (eq_by_cmp R q) xs ≡ true → Contains xs q
  any_contains q [] e = absurd (cc)
  any_contains q (x ∷ xs) e = elim (or_cases (eq_by_cmp R q x) (list_any (eq_by_cmp R q) xs) e) [
    | inl here ↦ subst (Contains (x ∷ xs)) (sym (tied total exact q x here)) (contains_head x xs)
    | inr later ↦ contains_tail x xs q (any_contains q xs later)
  ]

  pub item_of : (s : set.FinSet R) (q : K) → set.contains s q ≡ true → Contains (set.items s) q
  item_of s q has = any_contains q (set.items s) (sym (set.contains-items s q) ∙ has)

pub decide_name : (a b : List ℕ) → Decision (a ≡ b)
decide_name = decide_key name_cmp_total name_cmp_exact

pub decide_node : (p q : NodeName) → Decision (p ≡ q)
decide_node = decide_key node_cmp_total node_cmp_exact

abbrev ends_of : List TheLink → List InstanceName
ends_of [] = []
ends_of (l ∷ ls) = l.to ∷ ends_of ls

ends_have : (ls : List TheLink) (l : TheLink) → Contains ls l → Contains (ends_of ls) l.to
ends_have [] l has = absurd (nothing l has)
  where
    nothing : (l : TheLink) → Contains [] l → ⊥
    nothing l (k, lt, e) = omega arith
ends_have (m ∷ ls) l (zero, lt, e) = subst (λ (x : TheLink). Contains (m.to ∷ ends_of ls) x.to) e (contains_head m.to (ends_of ls))
ends_have (m ∷ ls) l (suc k, lt, e) = contains_tail m.to (ends_of ls) l.to (ends_have ls l (k, (omega arith), e))

-- where links lead to
pub targets : Topology → List InstanceName
targets t = ends_of (set.items t.links)

pub is_target : (t : Topology) (a : InstanceName) (r : RelId) (b : InstanceName) → HasLink t a r b → Contains (targets t) b
unfolding targets
is_target t a r b link = ends_have (set.items t.links) (link_of a r b) (item_of link_cmp_total link_cmp_exact t.links (link_of a r b) link)

decide_link : (t : Topology) (a : InstanceName) (r : RelId) (b : InstanceName) → Decision (HasLink t a r b)
decide_link t a r b = decide_true (set.contains t.links (link_of a r b))

-- whether links by the places lead from one instance to another
decide_leads : (t : Topology) (path : List Place) (a b : InstanceName) → Decision (Leads t a path b)
decide_leads t path a b = by_path path a b
  where
    by_path : (path : List Place) (a b : InstanceName) → Decision (Leads t a path b)
    by_path [] a b = decide_name a b
    by_path (place ∷ rest) a b =
        let S : InstanceName → InstanceName → Type 0 = λ x y. HasLink t x place.rel y in
        let into : (x y : InstanceName) → S x y → Contains (targets t) y = λ x y link. is_target t x place.rel y link in
        let steps : (x y : InstanceName) → Decision (S x y) = λ x y. decide_link t x place.rel y in
        decide_same
        ((last : InstanceName) × Contains (a ∷ targets t) last × (Ahead S place.plus a last × ((next : InstanceName) × Contains (targets t) next × (S last next × Leads t next rest b))))
        (Leads t a (place ∷ rest) b)
        (λ (last, has, (ahead, (next, to, (link, leads)))). (last, ahead, next, link, leads))
        (λ (last, ahead, next, link, leads). (last, ahead_within S (targets t) into place.plus a last ahead, (ahead, (next, into last next link, (link, leads)))))
        (decide_any _ (λ last. decide_both _ _ (decide_ahead S (targets t) into decide_name steps place.plus a last)
        (decide_any _ (λ next. decide_both _ _ (steps last next) (by_path rest next b)) (targets t))) (a ∷ targets t))

-- whether a path meets a link that comes or goes
module _ (t u : Topology) where
  decide_lost : (v w : Topology) (a : InstanceName) (r : RelId) (b : InstanceName) → Decision (IsLost v w a r b)
  decide_lost v w a r b = decide_both _ _ (decide_link v a r b) (decide_not _ (decide_link w a r b))

  decide_meets : (path : List Place) (a : InstanceName) → Decision (MeetsChange t u a path)
  decide_meets [] a = inr (λ none. none)
  decide_meets (place ∷ rest) a =
      let S : InstanceName → InstanceName → Type 0 = λ x y. HasEither t u x place.rel y in
      let C : InstanceName → InstanceName → Type 0 = λ x y. IsChanged t u x place.rel y in
      let vs = targets t ++ targets u in
      let into : (x y : InstanceName) → S x y → Contains vs y = λ x y either. elim either [
        | inl link ↦ Contains-append_left (targets t) (targets u) y (is_target t x place.rel y link)
        | inr link ↦ Contains-append_right (targets t) (targets u) y (is_target u x place.rel y link)
      ] in
      let lost_into : (x y : InstanceName) → C x y → Contains vs y = λ x y changed. elim changed [
        | inl lost ↦ into x y (inl lost.0)
        | inr new ↦ into x y (inr new.0)
      ] in
      let steps : (x y : InstanceName) → Decision (S x y) = λ x y. decide_or _ _ (decide_link t x place.rel y) (decide_link u x place.rel y) in
      decide_same
      ((last : InstanceName) × Contains (a ∷ vs) last × (Ahead S place.plus a last
      × ((next : InstanceName) × Contains vs next × (C last next ⊎ (S last next × MeetsChange t u next rest)))))
      (MeetsChange t u a (place ∷ rest))
      (λ (last, has, (ahead, (next, to, meets))). (last, ahead, next, meets))
      (λ (last, ahead, next, meets). (
        last,
        ahead_within S vs into place.plus a last ahead,
        (ahead, (next, elim meets [ inl changed ↦ lost_into last next changed | inr further ↦ into last next further.0 ], meets)),
      ))
      (decide_any _ (λ last. decide_both _ _ (decide_ahead S vs into decide_name steps place.plus a last)
      (decide_any _ (λ next. decide_or _ _ (decide_or _ _ (decide_lost t u last place.rel next) (decide_lost u t last place.rel next))
      (decide_both _ _ (steps last next) (decide_meets rest next))) vs)) (a ∷ vs))

-- whether a class has a rule, and names an event
module _ (tables : Tables) (regular : IsRegular tables) where
  decide_class : (c d : ClassId) → Decision (c ≡ d)
  decide_class c d = decide_same (c.0 ≡ d.0) (c ≡ d) (same_class c d) (λ e. ap (λ (x : ClassId). x.0) e) (decide_number c.0 d.0)

  decide_above : (o : Option ClassId) (c : ClassId) → Decision (o ≡ Some c)
  decide_above None c = inr (λ e. cc)
  decide_above (Some d) c = decide_same (d ≡ c) (Some d ≡ Some c) (λ e. ap Some e) (λ e. cc) (decide_class d c)

  abbrev IsBlockedBy : ClassId → ClassId → ℕ → BlockRow → Type 0
  IsBlockedBy c d rule block = (block.rule ≡ rule)
      × ((n : ℕ) × (n < depth_limit) × ((ancestor tables c n ≡ Some d) × ((m : ℕ) × (m < suc n) × (ancestor tables c m ≡ Some block.class))))

  decide_blocked : (c d : ClassId) (rule : ℕ) → Decision (OnTheWay tables c d (λ b. Contains tables.blocks (record { class = b; rule = rule })))
  decide_blocked c d rule =
      decide_same ((block : BlockRow) × Contains tables.blocks block × IsBlockedBy c d rule block) _
      (λ (block, has, (same, (n, lt, (up, (m, below, is))))). (
        n,
        m,
        block.class,
        (omega arith),
        up,
        is,
        subst (λ (k : ℕ). Contains tables.blocks (record { class = block.class; rule = k })) same has,
      ))
      (λ (n, m, b, below, up, is, has). (record { class = b; rule = rule }, has, (refl, (n, regular.depth c d n up, (up, (m, (omega arith), is))))))
      (decide_any _ (λ block. decide_both _ _ (decide_number block.rule rule)
      (decide_below _ (λ n. decide_both _ _ (decide_above (ancestor tables c n) d) (decide_below _ (λ m. decide_above (ancestor tables c m) block.class) (suc n))) depth_limit))
      tables.blocks)

  one_rule_row : (rule : ℕ) (x y : RuleRow) → slice_get tables.rules rule ≡ Some x → slice_get tables.rules rule ≡ Some y → x ≡ y
  one_rule_row rule x y a b = let f = sym a ∙ b in cc

  decide_rule : (c : ClassId) (rule : ℕ) → Decision (HasRule tables c rule)
  decide_rule c rule = elim (slice_get tables.rules rule) as (λ o. slice_get tables.rules rule ≡ o → Decision (HasRule tables c rule)) [
    | None ↦ λ none. inr (λ has. let is = has.is in cc)
    | Some row ↦ λ is.
        decide_same (IsA tables c row.class × (¬ OnTheWay tables c row.class (λ b. Contains tables.blocks (record { class = b; rule = rule })))) (HasRule tables c rule)
        (λ (up, free). record { row = row; is = is; from_c = up; free = free })
        (λ has.
        let same = one_rule_row rule has.row row has.is is in (
          subst (λ (r : RuleRow). IsA tables c r.class) same has.from_c,
          subst (λ (r : RuleRow). ¬ OnTheWay tables c r.class (λ b. Contains tables.blocks (record { class = b; rule = rule }))) same has.free,
        ))
        (decide_both _ _ (decide_is_a tables regular c row.class) (decide_not _ (decide_blocked c row.class rule)))
  ] refl

  decide_event_named : (c : ClassId) (name : List ℕ) (e : EventId) → Decision (NamesEvent tables c name e)
  decide_event_named c name e =
      let finite = nodes_finite tables regular in
      elim (finite.decide c e) [
        | inl (x, named) ↦ decide_same (x ≡ name) (NamesEvent tables c name e) (λ same. subst (λ y. NamesEvent tables c y e) same named)
            (λ other. finite.once c e x name named other) (decide_name x name)
        | inr none ↦ inr (λ named. none (name, named))
      ]

  -- a rule of the class whose row is such that P
  abbrev pub HasRuleWith : ClassId → (RuleRow → Type 0) → Type 0
  HasRuleWith c P = (rule : ℕ) × (has : HasRule tables c rule) × P has.row

  rule_low : (rows : List RuleRow) (k : ℕ) (row : RuleRow) → slice_get rows k ≡ Some row → k < length rows
  rule_low [] k row e = absurd (cc)
  rule_low (r ∷ rows) zero row e = omega arith
  rule_low (r ∷ rows) (suc k) row e = let lt = rule_low rows k row e in omega arith

  decide_rule_with : (c : ClassId) (P : RuleRow → Type 0) → ((row : RuleRow) → Decision (P row)) → Decision (HasRuleWith c P)
  decide_rule_with c P decide =
      decide_same ((rule : ℕ) × (rule < length tables.rules) × ((has : HasRule tables c rule) × P has.row)) (HasRuleWith c P)
      (λ (rule, low, (has, p)). (rule, has, p))
      (λ (rule, has, p). (rule, rule_low tables.rules rule has.row has.is, (has, p)))
      (decide_below _ by_rule (length tables.rules))
    where
      by_rule : (rule : ℕ) → Decision ((has : HasRule tables c rule) × P has.row)
      by_rule rule = elim (decide_rule c rule) [
        | inl has ↦ decide_same (P has.row) _ (λ p. (has, p)) (λ (other, p). subst P (one_rule_row rule other.row has.row other.is has.is) p) (decide has.row)
        | inr none ↦ inr (λ h. none h.0)
      ]

module _ (t : Topology) (regular : IsRegular t.model) where
  -- what holds of the class of an instance, if it is live
  decide_of_class : (a : InstanceName) (P : ClassId → Type 0) → ((c : ClassId) → Decision (P c)) → Decision ((c : ClassId) × HasClass t a c × P c)
  decide_of_class a P decide = elim (map.get t.instances a) as (λ o. map.get t.instances a ≡ o → Decision ((c : ClassId) × HasClass t a c × P c)) [
    | None ↦ λ none. inr (λ h. let is = h.1 in cc)
    | Some c ↦ λ is. decide_same (P c) _ (λ p. (c, is, p)) (λ (d, other, p). subst P (one_class t a d c other is) p) (decide c)
  ] refl

  decide_event_at : (q : NodeName) (e : EventId) → Decision (IsEventAt t q e)
  decide_event_at q e =
      decide_same ((c : ClassId) × HasClass t q.instance c × NamesEvent t.model c q.event e) (IsEventAt t q e)
      (λ (c, is, named). record { class = c; of_class = is; named = named })
      (λ at. (at.class, at.of_class, at.named))
      (decide_of_class q.instance _ (λ c. decide_event_named t.model regular c q.event e))

  pub decide_edge : (p q : NodeName) → Decision (Edge t p q)
  decide_edge p q =
      decide_same
      ((c : ClassId) × HasClass t p.instance c × HasRuleWith t.model regular c (λ row. NamesEvent t.model c p.event row.cause × (Leads t p.instance row.path q.instance × IsEventAt t q row.effect)))
      (Edge t p q)
      (λ (c, is, (rule, has, (cause, (leads, effect)))). record { class = c; of_class = is; rule = rule; has = has; cause = cause; leads = leads; effect = effect })
      (λ edge. (edge.class, edge.of_class, (edge.rule, edge.has, (edge.cause, (edge.leads, edge.effect)))))
      (decide_of_class p.instance _ (λ c. decide_rule_with t.model regular c _ (λ row.
      decide_both _ _ (decide_event_named t.model regular c p.event row.cause)
      (decide_both _ _ (decide_leads t row.path p.instance q.instance) (decide_event_at q row.effect)))))

  -- whether one node causes another, where these are all nodes
  module _ (nodes : List NodeName) (are : (q : NodeName) → IsNodeOf t q → Contains nodes q) where
    run_of : (p : NodeName) (between : List NodeName) (s : NodeName) → Chain t p between s → Run (Edge t) p between s
    run_of p [] s same = same
    run_of p (q ∷ rest) s chain = (chain.0, run_of q rest s chain.1)

    chain_of : (p : NodeName) (between : List NodeName) (s : NodeName) → Run (Edge t) p between s → Chain t p between s
    chain_of p [] s same = same
    chain_of p (q ∷ rest) s run = (run.0, chain_of q rest s run.1)

    pub decide_causes : (p s : NodeName) → Decision (Causes t p s)
    decide_causes p s =
        decide_same ((xs : List NodeName) × Run (Edge t) p xs s) (Causes t p s) (λ (xs, run). (xs, chain_of p xs s run)) (λ (xs, chain). (xs, run_of p xs s chain))
        (decide_run (Edge t) nodes (λ x y edge. are y (ends_at_node t x y edge)) decide_node decide_edge p s)

  -- whether an edit touches a node
  pub decide_touched : (u : Topology) (n : NodeName) → Decision (IsTouched t u n)
  decide_touched u n =
      decide_same
      (IsLive u n.instance × ((c : ClassId) × HasClass t n.instance c × HasRuleWith t.model regular c (λ row. NamesEvent t.model c n.event row.cause × MeetsChange t u n.instance row.path)))
      (IsTouched t u n)
      (λ (stays, (c, is, (rule, has, (cause, meets)))). record { class = c; of_class = is; stays = stays; rule = rule; has = has; cause = cause; meets = meets })
      (λ touched. (touched.stays, (touched.class, touched.of_class, (touched.rule, touched.has, (touched.cause, touched.meets)))))
      (decide_both _ _ (decide_true (map.contains_key u.instances n.instance))
      (decide_of_class n.instance _ (λ c. decide_rule_with t.model regular c _ (λ row.
      decide_both _ _ (decide_event_named t.model regular c n.event row.cause) (decide_meets t u row.path n.instance)))))
