-- Slots show one topology, the one that is made of them.
use Rattle.std.proofs.Common.{◌≡◌, ◌↔◌, ℕ, zero, suc, ◌<◌, List, [], ◌∷◌, length, map, Bool, true, false, Option, Some, None, refl, sym, ap, subst, ◌∙◌, inl, inr, arith}
use Rattle.std.specs.List.{Contains, flat_map}
use Rattle.std.specs.FinMap as fin_map
use Rattle.std.specs.FinSet as set
use Rattle.std.proofs.lemmas.List.{get_or_default}
use Rattle.std.proofs.lemmas.List.Elements.{Contains-get_or}
use Rattle.cb_model.specs.declared.id.ClassId.{ClassId}
use Rattle.cb_model.specs.declared.id.EventId.{EventId}
use Rattle.cb_model.specs.declared.id.RelId.{RelId}
use Rattle.cb_model.specs.declared.node.NodeName.{NodeName}
use Rattle.cb_model.specs.declared.tables.Tables.{Tables}
use Rattle.cb_model.specs.Order.{name_cmp}
use Rattle.cb_model.specs.NodeOrder.{node_cmp}
use Rattle.cb_model.proofs.Rising.{contains_cases, contains_head, contains_tail, nothing_in_empty, name_cmp_total, name_cmp_exact, node_cmp_total, node_cmp_exact}
use Rattle.cb_network.specs.Topology.{Topology, Link, link_cmp}
use Rattle.cb_network.specs.Edits.{link_of, node_name_of}
use Rattle.cb_network.proofs.Sets.{link_cmp_total, link_cmp_exact}
use Rattle.cb_instances.specs.declared.id.InstanceId.{InstanceId}
use Rattle.cb_instances.specs.declared.instance.Instance.{Instance}
use Rattle.cb_instances.specs.declared.links.LinkRow.{LinkRow}
use Rattle.cb_instances.specs.Net.{slot, event_name}
use Rattle.cb_instances.specs.Rows.{find_row, row_of, items_of, OneRowEach}
use Rattle.cb_instances.specs.Slots.{Slots, At, NamedAt}
use Rattle.cb_instances.specs.Shown.{instance_entries, links_in, links_by, links_to, mutes_in, topology_of_slots, HoldsInstance, HoldsLink, HoldsMute, Shows}
use Rattle.cb_instances.proofs.Gathered.{from_flat, to_flat, only, in_set, in_map}
use Rattle.cb_instances.proofs.RowLemmas.{own_row, row_listed}

pub same_inside : {X : Type 0} (x y : X) → Some x ≡ Some y → x ≡ y
same_inside x y e = cc

-- what is at a number is one thing
pub one_at : (slots : Slots) (i : InstanceId) (x y : Instance) → At slots i x → At slots i y → x ≡ y
one_at slots i x y a b = same_inside x y (sym a ∙ b)

pub slot_within : {X : Type 0} (xs : List (Option X)) (i : ℕ) (x : X) → slot xs i ≡ Some x → i < length xs
slot_within [] i x e = absurd (cc)
slot_within (o ∷ xs) zero x e = omega arith
slot_within (o ∷ xs) (suc i) x e = let f = slot_within xs i x e in omega arith

in_slots : (slots : Slots) (i : InstanceId) (x : Instance) → At slots i x → Contains slots (Some x)
in_slots slots i x at = subst (Contains slots) at (Contains-get_or slots i.0 None (slot_within slots i.0 x at))

at_slot : (slots : Slots) (x : Instance) → Contains slots (Some x) → (i : InstanceId) × At slots i x
at_slot slots x has = (record { 0 = has.0 }, get_or_default slots has.0 None (Some x) has.1 ∙ has.2)

-- two instances of one name have one number
abbrev pub HaveOwnNames : Slots → Type 0
HaveOwnNames slots = (i j : InstanceId) (name : List ℕ) → NamedAt slots i name → NamedAt slots j name → i ≡ j

module _ (slots : Slots) (own_names : HaveOwnNames slots) where
  entry_at : (name : List ℕ) (c : ClassId) → Contains (flat_map instance_entries slots) (name, c) → HoldsInstance slots name c
  entry_at name c has = go (from_flat instance_entries slots (name, c) has)
    where
      go : (o : Option Instance) × Contains slots o × Contains (instance_entries o) (name, c) → HoldsInstance slots name c
      go (None, there, in_it) = absurd (nothing_in_empty _ in_it)
      go (Some x, there, in_it) =
          let at = at_slot slots x there in
          let e = only _ _ in_it in
          record { at = at.0; instance = x; is = at.1; named = ap (λ (p : List ℕ × ClassId). p.0) e; of_class = ap (λ (p : List ℕ × ClassId). p.1) e }

  holds_one : (name : List ℕ) (c d : ClassId) → HoldsInstance slots name c → HoldsInstance slots name d → c ≡ d
  holds_one name c d a b =
      let i = own_names a.at b.at name (a.instance, a.is, a.named) (b.instance, b.is, b.named) in
      let same = one_at slots b.at a.instance b.instance (subst (λ k. At slots k a.instance) i a.is) b.is in
      sym a.of_class ∙ (ap (λ (x : Instance). x.class) same ∙ b.of_class)

  pub shows_instances : (name : List ℕ) (c : ClassId)
      → (fin_map.get (fin_map.from_entries {R = name_cmp} (flat_map instance_entries slots)) name ≡ Some c) ↔ HoldsInstance slots name c
  shows_instances name c =
      let one : (q : List ℕ) (v w : ClassId) → Contains (flat_map instance_entries slots) (q, v) → Contains (flat_map instance_entries slots) (q, w) → v ≡ w = λ q v w a b. holds_one q v w (entry_at q v a) (entry_at q w b) in
      let is = in_map name_cmp_total name_cmp_exact (flat_map instance_entries slots) one name c in (
        λ h. entry_at name c (is.0 h),
        λ h.
            let e : (h.instance.name, h.instance.class) ≡ (name, c) = λ i. (h.named i, h.of_class i) in
            let listed : Contains (instance_entries (Some h.instance)) (name, c) = subst (Contains (instance_entries (Some h.instance))) e (contains_head _ []) in
            is.1 (to_flat instance_entries slots (Some h.instance) (name, c) (in_slots slots h.at h.instance h.is) listed),
      )

module _ (slots : Slots) (apart : (i : InstanceId) (x : Instance) → At slots i x → OneRowEach x.links.rows.items) where
  link_at : (l : Link) → Contains (flat_map (links_in slots) slots) l → HoldsLink slots l.from l.rel l.to
  link_at l has = go (from_flat (links_in slots) slots l has)
    where
      target : (i : InstanceId) (x : Instance) → At slots i x → (row : LinkRow) → Contains x.links.rows.items row → (j : InstanceId) → Contains row.to.items j
          → (o : Option Instance) → slot slots j.0 ≡ o → Contains (links_to x.name row.rel o) l → HoldsLink slots l.from l.rel l.to
      target i x at row of_x j in_row None is in_it = absurd (nothing_in_empty l in_it)
      target i x at row of_x j in_row (Some y) is in_it =
          let e = only _ _ in_it in
          let own : Some row ≡ find_row x.links.rows.items row.rel = sym (own_row x.links.rows.items row (apart i x at) of_x) in
          let listed : Contains (row_of x.links.rows.items row.rel) j = subst (λ o. Contains (items_of o) j) own in_row in
          record {
            from = i;
            to = j;
            from_is = (x, at, ap (λ (m : Link). m.from) e);
            to_is = (y, is, ap (λ (m : Link). m.to) e);
            lists = record { lister = x; is = at; listed = subst (λ r. Contains (row_of x.links.rows.items r) j) (ap (λ (m : Link). m.rel) e) listed };
          }

      go : (o : Option Instance) × Contains slots o × Contains (links_in slots o) l → HoldsLink slots l.from l.rel l.to
      go (None, there, in_it) = absurd (nothing_in_empty l in_it)
      go (Some x, there, in_it) =
          let at = at_slot slots x there in
          let row = from_flat (links_by slots x.name) x.links.rows.items l in_it in
          let to = from_flat (λ j. links_to x.name row.0.rel (slot slots j.0)) row.0.to.items l row.2 in
          target at.0 x at.1 row.0 row.1 to.0 to.1 (slot slots to.0.0) refl to.2

  link_in : (a : List ℕ) (r : RelId) (b : List ℕ) → HoldsLink slots a r b → Contains (flat_map (links_in slots) slots) (link_of a r b)
  link_in a r b h =
      let x = h.lists.lister in
      let same : h.from_is.0 ≡ x = one_at slots h.from h.from_is.0 x h.from_is.1 h.lists.is in
      let from : x.name ≡ a = ap (λ (z : Instance). z.name) (sym same) ∙ h.from_is.2 in
      go (find_row x.links.rows.items r) refl h.lists.listed
    where
      go : (o : Option LinkRow) → find_row h.lists.lister.links.rows.items r ≡ o → Contains (items_of o) h.to → Contains (flat_map (links_in slots) slots) (link_of a r b)
      go None is none = absurd (nothing_in_empty h.to none)
      go (Some row) is in_row =
          let x = h.lists.lister in
          let same : h.from_is.0 ≡ x = one_at slots h.from h.from_is.0 x h.from_is.1 h.lists.is in
          let from : x.name ≡ a = ap (λ (z : Instance). z.name) (sym same) ∙ h.from_is.2 in
          let at_row = row_listed x.links.rows.items r row is in
          let e : link_of x.name row.rel h.to_is.0.name ≡ link_of a r b = λ i. link_of (from i) (at_row.1 i) (h.to_is.2 i) in
          let there : Contains (links_to x.name row.rel (slot slots h.to.0)) (link_of x.name row.rel h.to_is.0.name) = subst (λ o. Contains (links_to x.name row.rel o) (link_of x.name row.rel h.to_is.0.name)) (sym h.to_is.1) (contains_head _ []) in
          let by_row = to_flat (λ j. links_to x.name row.rel (slot slots j.0)) row.to.items h.to _ in_row there in
          let by_instance = to_flat (links_by slots x.name) x.links.rows.items row _ at_row.0 by_row in
          subst (Contains (flat_map (links_in slots) slots)) e (to_flat (links_in slots) slots (Some x) _ (in_slots slots h.from x h.lists.is) by_instance)

  shows_links : (a : List ℕ) (r : RelId) (b : List ℕ)
      → (set.contains (set.from_list {R = link_cmp} (flat_map (links_in slots) slots)) (link_of a r b) ≡ true) ↔ HoldsLink slots a r b
  shows_links a r b =
      let is = in_set link_cmp_total link_cmp_exact (flat_map (links_in slots) slots) (link_of a r b) in
      (λ h. link_at (link_of a r b) (is.0 h), λ h. is.1 (link_in a r b h))

module _ (tables : Tables) (slots : Slots) where
  node_in : (name : List ℕ) (es : List EventId) (n : NodeName) → Contains (map (λ e. node_name_of (event_name tables e) name) es) n
      → (e : EventId) × Contains es e × (node_name_of (event_name tables e) name ≡ n)
  node_in name [] n has = absurd (nothing_in_empty n has)
  node_in name (e ∷ es) n has = elim (contains_cases _ _ n has) [
    | inl is ↦ (e, contains_head e es, is)
    | inr later ↦ let rest = node_in name es n later in (rest.0, contains_tail e es rest.0 rest.1, rest.2)
  ]

  in_nodes : (name : List ℕ) (es : List EventId) (e : EventId) → Contains es e → Contains (map (λ e. node_name_of (event_name tables e) name) es) (node_name_of (event_name tables e) name)
  in_nodes name [] e has = absurd (nothing_in_empty e has)
  in_nodes name (d ∷ es) e has = elim (contains_cases d es e has) [
    | inl is ↦ subst (λ z. Contains (map (λ e. node_name_of (event_name tables e) name) (d ∷ es)) (node_name_of (event_name tables z) name)) is (contains_head _ _)
    | inr later ↦ contains_tail _ _ _ (in_nodes name es e later)
  ]

  shows_mutes : (n : NodeName) → (set.contains (set.from_list {R = node_cmp} (flat_map (mutes_in tables) slots)) n ≡ true) ↔ HoldsMute tables slots n
  shows_mutes n =
      let is = in_set node_cmp_total node_cmp_exact (flat_map (mutes_in tables) slots) n in
      (λ h. go (from_flat (mutes_in tables) slots n (is.0 h)), λ h. is.1 (back h))
    where
      go : (o : Option Instance) × Contains slots o × Contains (mutes_in tables o) n → HoldsMute tables slots n
      go (None, there, in_it) = absurd (nothing_in_empty n in_it)
      go (Some x, there, in_it) =
          let at = at_slot slots x there in
          let e = node_in x.name x.muted.items n in_it in
          record { at = at.0; instance = x; event = e.0; is = at.1; named = ap (λ (m : NodeName). m.instance) e.2; muted = e.1; event_named = ap (λ (m : NodeName). m.event) e.2 }

      back : HoldsMute tables slots n → Contains (flat_map (mutes_in tables) slots) n
      back h =
          let e : node_name_of (event_name tables h.event) h.instance.name ≡ n = λ i. record { event = h.event_named i; instance = h.named i } in
          subst (Contains (flat_map (mutes_in tables) slots)) e
          (to_flat (mutes_in tables) slots (Some h.instance) _ (in_slots slots h.at h.instance h.is) (in_nodes h.instance.name h.instance.muted.items h.event h.muted))

pub shows_made : (tables : Tables) (slots : Slots) → HaveOwnNames slots → ((i : InstanceId) (x : Instance) → At slots i x → OneRowEach x.links.rows.items)
    → Shows slots (topology_of_slots tables slots)
shows_made tables slots own_names apart = record {
  instances = shows_instances slots own_names;
  links = shows_links slots apart;
  mutes = shows_mutes tables slots;
}

same_option : {X : Type 0} (a b : Option X) → ((x : X) → (a ≡ Some x) → (b ≡ Some x)) → ((x : X) → (b ≡ Some x) → (a ≡ Some x)) → a ≡ b
same_option None None to from = refl
same_option None (Some y) to from = from y refl
same_option (Some x) b to from = sym (to x refl)

same_bool : (a b : Bool) → (a ≡ true → b ≡ true) → (b ≡ true → a ≡ true) → a ≡ b
same_bool true b to from = sym (to refl)
same_bool false true to from = from refl
same_bool false false to from = refl

pub shown_once : (slots : Slots) (t u : Topology) → t.model ≡ u.model → Shows slots t → Shows slots u → t ≡ u
shown_once slots t u model a b =
    let instances : t.instances ≡ u.instances = fin_map.same_map name_cmp_total name_cmp_exact t.instances u.instances (λ name.
    same_option (fin_map.get t.instances name) (fin_map.get u.instances name) (λ c h. (b.instances name c).1 ((a.instances name c).0 h)) (λ c h. (a.instances name c).1 ((b.instances name c).0 h))) in
    let links : t.links ≡ u.links = set.same_set link_cmp_total link_cmp_exact t.links u.links (λ l.
    same_bool (set.contains t.links l) (set.contains u.links l) (λ h. (b.links l.from l.rel l.to).1 ((a.links l.from l.rel l.to).0 h)) (λ h. (a.links l.from l.rel l.to).1 ((b.links l.from l.rel l.to).0 h))) in
    let mutes : t.mutes ≡ u.mutes = set.same_set node_cmp_total node_cmp_exact t.mutes u.mutes (λ n.
    same_bool (set.contains t.mutes n) (set.contains u.mutes n)
    (λ h. (b.mutes n).1 (subst (λ m. HoldsMute m slots n) model ((a.mutes n).0 h)))
    (λ h. (a.mutes n).1 (subst (λ m. HoldsMute m slots n) (sym model) ((b.mutes n).0 h)))) in
    λ i. record { model = model i; instances = instances i; links = links i; mutes = mutes i }
