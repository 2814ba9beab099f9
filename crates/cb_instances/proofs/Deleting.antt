-- An instance less.
use Rattle.std.proofs.Common.{◌≡◌, ◌≢◌, ℕ, zero, suc, List, [], ◌∷◌, map, set, not, ◌||◌, Bool, true, false, Option, Some, None, refl, sym, ap, subst, ◌∙◌, inl, inr, arith, get_or-set_same, get_or-set_other}
use Rattle.std.specs.List.{Contains}
use Rattle.std.specs.Map.{KeepsOthers}
use Rattle.std.specs.Str.{bytes_eq}
use Rattle.std.specs.Global.{Global}
use Rattle.std.specs.declared.vec.Vec.{Vec}
use Rattle.std.proofs.lemmas.Bool.{cases_Bool}
use Rattle.std.proofs.lemmas.Slice.Eq.{bytes_eq-Decides}
use Rattle.cb_model.specs.declared.id.RelId.{RelId}
use Rattle.cb_model.specs.declared.tables.Tables.{Tables}
use Rattle.cb_model.proofs.Rising.{name_cmp_total, name_cmp_exact, node_cmp_total, node_cmp_exact}
use Rattle.cb_network.specs.Edits.{without_instance, same_name, link_of}
use Rattle.cb_network.specs.Topology.{Topology}
use Rattle.cb_network.proofs.Counts.{same_name_is, same_name_of}
use Rattle.cb_network.proofs.Sets.{link_cmp_total, link_cmp_exact, got_remove, in_retain}
use Rattle.cb_instances.specs.declared.id.InstanceId.{InstanceId}
use Rattle.cb_instances.specs.declared.instance.Instance.{Instance}
use Rattle.cb_instances.specs.declared.links.LinkRow.{LinkRow}
use Rattle.cb_instances.specs.Forgotten.{Sheds, ForgetsAll}
use Rattle.cb_instances.specs.Joined.{AllTidy}
use Rattle.cb_instances.specs.Net.{Net, slot, inverse_of, name_at, name_or, net_without}
use Rattle.cb_instances.specs.Places.{Entries, place_of}
use Rattle.cb_instances.specs.Rows.{find_row, items_of, row_of}
use Rattle.cb_instances.specs.Shown.{topology_of_slots, seen, name_in, Shows}
use Rattle.cb_instances.specs.Slots.{Head, head_of, Slots, At, NamedAt, ListsInstance}
use Rattle.cb_instances.specs.Sound.{IsNetOf, FitsMutes}
use Rattle.cb_instances.proofs.Creating.{shown_of}
use Rattle.cb_instances.proofs.Linking.{inverse_twice, same_names}
use Rattle.cb_instances.proofs.Placing.{own_names, at_seen, same_id, decide_id}
use Rattle.cb_instances.proofs.Rewiring.{same_head}
use Rattle.cb_instances.proofs.RowLemmas.{row_listed}
use Rattle.cb_instances.proofs.Showing.{one_at, shown_once, slot_within}

-- neither of two names is this one
neither : (name a b : List ℕ) → not (same_name name a || same_name name b) ≡ true → (a ≢ name) × (b ≢ name)
neither name a b e = elim (cases_Bool (same_name name a)) [
  | inl same ↦ let f : false ≡ true = rw same at e in absurd (cc)
  | inr other ↦ elim (cases_Bool (same_name name b)) [
    | inl same ↦ let f : false ≡ true = rw (other, same) at e in absurd (cc)
    | inr other' ↦ (
      λ is. let f = same_name_of name a (sym is) in absurd (cc),
      λ is. let f = same_name_of name b (sym is) in absurd (cc),
    )
  ]
]

both_differ : (name a b : List ℕ) → a ≢ name → b ≢ name → not (same_name name a || same_name name b) ≡ true
both_differ name a b ne ne' = elim (cases_Bool (same_name name a)) [
  | inl same ↦ absurd (ne (sym (same_name_is name a same)))
  | inr other ↦ elim (cases_Bool (same_name name b)) [
    | inl same ↦ absurd (ne' (sym (same_name_is name b same)))
    | inr other' ↦ rw (other, other') refl
  ]
]

one_differs : (name a : List ℕ) → not (same_name name a) ≡ true → a ≢ name
one_differs name a e is = let f = same_name_of name a (sym is) in let g : false ≡ true = rw f at e in cc

differs_one : (name a : List ℕ) → a ≢ name → not (same_name name a) ≡ true
differs_one name a ne = elim (cases_Bool (same_name name a)) [
  | inl same ↦ absurd (ne (sym (same_name_is name a same)))
  | inr other ↦ rw other refl
]

emptied_names : (slots : Slots) (i : ℕ) → map name_in (set slots i None) ≡ set (map name_in slots) i None
emptied_names [] i = refl
emptied_names (o ∷ slots) zero = refl
emptied_names (o ∷ slots) (suc i) = ap (λ ns. name_in o ∷ ns) (emptied_names slots i)

module _ (tables : Tables) (old new : Slots) (entries entries' : Entries) (capacity : ℕ) (id : InstanceId) (x : Instance) (at : At old id x)
    (sound : IsNetOf tables old entries capacity) (forgets : ForgetsAll tables (set old id.0 None) new id x.links.rows.items)
    (gone : place_of entries' x.name ≡ None) (kept : (q : List ℕ) → q ≢ x.name → place_of entries' q ≡ place_of entries q) where
  abbrev mid : Slots
  mid = set old id.0 None

  mid_none : slot mid id.0 ≡ None
  mid_none = get_or-set_same old id.0 None None (slot_within old id.0 x at)

  mid_other : (i : InstanceId) → i ≢ id → slot mid i.0 ≡ slot old i.0
  mid_other i ne = get_or-set_other old id.0 i.0 None None (λ e. ne (same_id i id e))

  -- what is there after the removal was there, at another number
  mid_was : (i : InstanceId) (y : Instance) → At mid i y → (i ≢ id) × At old i y
  mid_was i y is = elim (decide_id i id) [
    | inl e ↦ let f : None ≡ Some y = sym mid_none ∙ (ap (λ (k : InstanceId). slot mid k.0) (sym e) ∙ is) in absurd (cc)
    | inr ne ↦ (ne, sym (mid_other i ne) ∙ is)
  ]

  mid_tidy : AllTidy mid
  mid_tidy i y is = sound.tidy i y (mid_was i y is).1

  sheds : Sheds mid new id
  sheds = forgets.sheds mid_tidy

  was : (i : InstanceId) (y : Instance) → At new i y → (i ≢ id) × ((z : Instance) × At old i z × (head_of y ≡ head_of z))
  was i y is =
      let m = same_head mid new sheds.heads i y is in
      let o = mid_was i m.0 m.1 in
      (o.0, (m.0, o.1, m.2))

  still : (i : InstanceId) → i ≢ id → (z : Instance) → At old i z → (y : Instance) × At new i y × (head_of z ≡ head_of y)
  still i ne z is = same_head new mid (sym sheds.heads) i z (mid_other i ne ∙ is)

  named_was : (i : InstanceId) (name : List ℕ) → NamedAt new i name → (i ≢ id) × NamedAt old i name
  named_was i name (y, is, y_is) = let w = was i y is in (w.0, (w.1.0, w.1.1, ap (λ (h : Head). h.name) (sym w.1.2) ∙ y_is))

  named_still : (i : InstanceId) (name : List ℕ) → i ≢ id → NamedAt old i name → NamedAt new i name
  named_still i name ne (z, is, z_is) = let s = still i ne z is in (s.0, s.1, ap (λ (h : Head). h.name) (sym s.2) ∙ z_is)

  -- the number of the name that is gone is its own
  own_number : (i : InstanceId) → NamedAt old i x.name → i ≡ id
  own_number i named = own_names old entries sound.indexed i id x.name named (x, at, refl)

  other_name : (i : InstanceId) (name : List ℕ) → i ≢ id → NamedAt old i name → name ≢ x.name
  other_name i name ne named e = ne (own_number i (subst (NamedAt old i) e named))

  other_number : (i : InstanceId) (name : List ℕ) → name ≢ x.name → NamedAt old i name → i ≢ id
  other_number i name ne (y, is, y_is) e =
      let same = one_at old id y x (subst (λ k. At old k y) e is) at in
      ne (sym y_is ∙ ap (λ (z : Instance). z.name) same)

  lists_were : (i : InstanceId) (r : RelId) (j : InstanceId) → ListsInstance new i r j → (i ≢ id) × (j ≢ id) × ListsInstance old i r j
  lists_were i r j l =
      let m = sheds.fewer i r j l in
      let o = mid_was i m.lister m.is in
      let before : ListsInstance old i r j = record { lister = m.lister; is = o.1; listed = m.listed } in
      (o.0, not_it before, before)
    where
      not_it : ListsInstance old i r j → j ≢ id
      not_it before e =
          let turn = sound.both_ways i r j before in
          let mine : ListsInstance old id (inverse_of tables r) i = subst (λ k. ListsInstance old k (inverse_of tables r) i) e turn.1 in
          let same = one_at old id mine.lister x mine.is at in
          let has : Contains (row_of x.links.rows.items (inverse_of tables r)) i = subst (λ (z : Instance). Contains (row_of z.links.rows.items (inverse_of tables r)) i) same mine.listed in
          let twice = inverse_twice tables sound.typed r turn.0 in
          let here : ListsInstance new i r id = subst (λ k. ListsInstance new i r k) e l in
          in_row (find_row x.links.rows.items (inverse_of tables r)) refl has twice.1 here
        where
          in_row : (o : Option LinkRow) → find_row x.links.rows.items (inverse_of tables r) ≡ o → Contains (items_of o) i → inverse_of tables (inverse_of tables r) ≡ r → ListsInstance new i r id → ⊥
          in_row None is none twice here = none_in i none
            where
              none_in : (k : InstanceId) → Contains [] k → ⊥
              none_in k (n, lt, e) = omega arith
          in_row (Some row) is has twice here =
              let of_x = row_listed x.links.rows.items (inverse_of tables r) row is in
              let to_r : inverse_of tables row.rel ≡ r = ap (inverse_of tables) of_x.1 ∙ twice in
              forgets.gone mid_tidy row i of_x.0 has (subst (λ q. ListsInstance new i q id) (sym to_r) here)

  lists_stay : (i : InstanceId) (r : RelId) (j : InstanceId) → i ≢ id → j ≢ id → ListsInstance old i r j → ListsInstance new i r j
  lists_stay i r j ne ne' l = sheds.others i r j ne' (record { lister = l.lister; is = mid_other i ne ∙ l.is; listed = l.listed })

  pub deleted_sound : IsNetOf tables new entries' capacity
  deleted_sound = record {
    typed = sound.typed;
    indexed = record {
      listed = λ i y is.
          let w = was i y is in
          let name : y.name ≡ w.1.0.name = ap (λ (h : Head). h.name) w.1.2 in
          let other = other_name i w.1.0.name w.0 (w.1.0, w.1.1, refl) in
          ap (place_of entries') name ∙ (kept w.1.0.name other ∙ sound.indexed.listed i w.1.0 w.1.1);
      live = λ name i is.
          let other : name ≢ x.name = λ e. let none = ap (place_of entries') e ∙ gone in let f : None ≡ Some i.0 = sym none ∙ is in cc in
          let named = sound.indexed.live name i (sym (kept name other) ∙ is) in
          named_still i name (other_number i name other named) named;
    };
    below = λ i y is. let w = was i y is in sound.below i w.1.0 w.1.1;
    both_ways = λ i r j l.
        let w = lists_were i r j l in
        let turn = sound.both_ways i r j w.2 in
        (turn.0, lists_stay j (inverse_of tables r) i w.1 w.0 turn.1);
    tidy = sheds.tidy mid_tidy;
    mutes = λ i y is. let w = was i y is in subst (FitsMutes tables) (sym w.1.2) (sound.mutes i w.1.0 w.1.1);
  }

  pub deleted_shows : (t : Topology) → Shows old t → Shows new (without_instance t x.name)
  deleted_shows t shows = record {
    instances = λ name c.
        let is = got_remove name_cmp_total name_cmp_exact t.instances x.name name c in (
          λ h.
              let k = is.0 h in
              let g = (shows.instances name c).0 k.1 in
              let ne = other_number g.at name k.0 (g.instance, g.is, g.named) in
              let s = still g.at ne g.instance g.is in
              record { at = g.at; instance = s.0; is = s.1; named = ap (λ (h : Head). h.name) (sym s.2) ∙ g.named; of_class = ap (λ (h : Head). h.class) (sym s.2) ∙ g.of_class },
          λ g.
              let w = was g.at g.instance g.is in
              let named = ap (λ (h : Head). h.name) (sym w.1.2) ∙ g.named in
              is.1 (other_name g.at name w.0 (w.1.0, w.1.1, named), (shows.instances name c).1 (record { at = g.at; instance = w.1.0; is = w.1.1; named = named; of_class = ap (λ (h : Head). h.class) (sym w.1.2) ∙ g.of_class })),
        );
    links = λ a r b.
        let is = in_retain link_cmp_total link_cmp_exact t.links (λ l. not (same_name x.name l.from || same_name x.name l.to)) (link_of a r b) in (
          λ h.
              let k = is.0 h in
              let differ = neither x.name a b k.1 in
              let g = (shows.links a r b).0 k.0 in
              let ne = other_number g.from a differ.0 g.from_is in
              let ne' = other_number g.to b differ.1 g.to_is in
              record { from = g.from; to = g.to; from_is = named_still g.from a ne g.from_is; to_is = named_still g.to b ne' g.to_is; lists = lists_stay g.from r g.to ne ne' g.lists },
          λ g.
              let from = named_was g.from a g.from_is in
              let to = named_was g.to b g.to_is in
              let l = lists_were g.from r g.to g.lists in
              is.1 (
                (shows.links a r b).1 (record { from = g.from; to = g.to; from_is = from.1; to_is = to.1; lists = l.2 }),
                both_differ x.name a b (other_name g.from a from.0 from.1) (other_name g.to b to.0 to.1),
              ),
        );
    mutes = λ n.
        let is = in_retain node_cmp_total node_cmp_exact t.mutes (λ m. not (same_name x.name m.instance)) n in (
          λ h.
              let k = is.0 h in
              let differ = one_differs x.name n.instance k.1 in
              let g = (shows.mutes n).0 k.0 in
              let ne = other_number g.at n.instance differ (g.instance, g.is, g.named) in
              let s = still g.at ne g.instance g.is in
              record {
                at = g.at;
                instance = s.0;
                event = g.event;
                is = s.1;
                named = ap (λ (h : Head). h.name) (sym s.2) ∙ g.named;
                muted = subst (λ (h : Head). Contains h.muted.items g.event) s.2 g.muted;
                event_named = g.event_named;
              },
          λ g.
              let w = was g.at g.instance g.is in
              let named = ap (λ (h : Head). h.name) (sym w.1.2) ∙ g.named in
              is.1 (
                (shows.mutes n).1 (record {
                  at = g.at;
                  instance = w.1.0;
                  event = g.event;
                  is = w.1.1;
                  named = named;
                  muted = subst (λ (h : Head). Contains h.muted.items g.event) w.1.2 g.muted;
                  event_named = g.event_named;
                }),
                differs_one x.name n.instance (other_name g.at n.instance w.0 (w.1.0, w.1.1, named)),
              ),
        );
  }

  pub deleted_net : (next : ℕ) → seen tables new capacity id.0 ≡ net_without (seen tables old capacity next) id
  deleted_net next =
      let t : Topology = topology_of_slots tables old in
      let n : Net = seen tables old capacity next in
      let same : topology_of_slots tables new ≡ without_instance t x.name = shown_once new (topology_of_slots tables new) (without_instance t x.name) refl (shown_of tables new entries' capacity deleted_sound) (deleted_shows t (shown_of tables old entries capacity sound)) in
      let name : name_at n id ≡ x.name = ap name_or (at_seen old id x.name (x, at, refl)) in
      let topology : topology_of_slots tables new ≡ without_instance t (name_at n id) = same ∙ ap (without_instance t) (sym name) in
      let names : map name_in new ≡ set (map name_in old) id.0 None = same_names mid new sheds.heads ∙ emptied_names old id.0 in
      λ i. record { topology = topology i; names = names i; capacity = capacity; next = id.0 }

-- each name but one has the place that it had
pub other_places : (entries entries' : Entries) (name : List ℕ) (eq : Vec ℕ Global → Vec ℕ Global → Bool) → KeepsOthers eq (λ k. bytes_eq name k.items) entries entries'
    → ((a b : Vec ℕ Global) → eq a b ≡ bytes_eq a.items b.items) → (q : List ℕ) → q ≢ name → place_of entries' q ≡ place_of entries q
unfolding KeepsOthers
other_places entries entries' name eq keeps eq_is q ne = keeps (λ k. bytes_eq q k.items)
    (λ a b e. ap (λ n. bytes_eq n b.items) ((bytes_eq-Decides q a.items).0 e) ∙ sym (eq_is a b))
    (λ k e. elim (cases_Bool (bytes_eq q k.items)) [
      | inl same ↦ absurd (ne ((bytes_eq-Decides q k.items).0 same ∙ sym ((bytes_eq-Decides name k.items).0 e)))
      | inr other ↦ other
    ])
