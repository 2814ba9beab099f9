-- What slots show once links came or went.
use Rattle.std.proofs.Common.{◌≡◌, ◌≢◌, ◌↔◌, ℕ, List, [], ◌∷◌, map, Option, Some, None, refl, sym, ap, subst, ◌∙◌, inl, inr, arith}
use Rattle.std.specs.FinSet as set
use Rattle.std.specs.List.{Contains}
use Rattle.std.proofs.lemmas.Option.{slice_get_cases, slice_get_within}
use Rattle.cb_model.specs.declared.id.RelId.{RelId}
use Rattle.cb_model.specs.declared.tables.RelRow.{RelRow}
use Rattle.cb_model.specs.declared.tables.Tables.{Tables}
use Rattle.cb_model.specs.WellTyped.{WellTyped, IsRelation}
use Rattle.cb_network.specs.Topology.{Topology, Link, HasLink, link_cmp}
use Rattle.cb_network.specs.Edits.{with_link, without_link, link_of}
use Rattle.cb_network.proofs.Sets.{link_cmp_total, link_cmp_exact, in_insert, in_remove}
use Rattle.cb_instances.specs.declared.id.InstanceId.{InstanceId}
use Rattle.cb_instances.specs.declared.instance.Instance.{Instance}
use Rattle.cb_instances.specs.Joined.{head_in, SameHeads, SameLinks, JoinsInstances, PartsInstances, IsJoin, AllTidy}
use Rattle.cb_instances.specs.Net.{Net, inverse_of, inverse_in, name_at, name_or, linked, unlinked}
use Rattle.cb_instances.specs.Places.{Entries, place_of}
use Rattle.cb_instances.specs.Shown.{topology_of_slots, seen, name_in, Shows, HoldsLink}
use Rattle.cb_instances.specs.Slots.{Head, head_of, Slots, At, NamedAt, ListsInstance}
use Rattle.cb_instances.specs.Sound.{IsNetOf, StandBothWays, FitsMutes}
use Rattle.cb_instances.proofs.Creating.{shown_of}
use Rattle.cb_instances.proofs.Placing.{at_seen, own_names}
use Rattle.cb_instances.proofs.Rewiring.{same_head}
use Rattle.cb_instances.proofs.Showing.{one_at, shown_once}

-- the inverse of an inverse is the relation itself
pub inverse_twice : (tables : Tables) → WellTyped tables → (r : RelId) → IsRelation tables r
    → IsRelation tables (inverse_of tables r) × (inverse_of tables (inverse_of tables r) ≡ r)
inverse_twice tables typed r is_r = elim (slice_get_cases tables.relations r.0).1 [
  | inl found ↦
      let row : RelRow = found.0 in
      let back = typed.rules.inverses r row found.2 in
      let to : inverse_of tables r ≡ row.inverse = ap (inverse_in r) found.2 in
      let within : IsRelation tables row.inverse = slice_get_within tables.relations row.inverse.0 back.back back.is in
      let again : inverse_of tables row.inverse ≡ r = ap (inverse_in row.inverse) back.is ∙ back.again in
      (subst (λ s. IsRelation tables s) (sym to) within, ap (inverse_of tables) to ∙ again)
  | inr none ↦ let past = none.0 in absurd (omega arith)
]

name_of_head : Option Head → Option (List ℕ)
name_of_head None = None
name_of_head (Some h) = Some h.name

names_by_head : (slots : Slots) → map name_in slots ≡ map name_of_head (map head_in slots)
unfolding name_of_head
names_by_head [] = refl
names_by_head (None ∷ slots) = ap (λ ns. None ∷ ns) (names_by_head slots)
names_by_head (Some x ∷ slots) = ap (λ ns. Some x.name ∷ ns) (names_by_head slots)

pub same_names : (old new : Slots) → SameHeads old new → map name_in new ≡ map name_in old
same_names old new heads = names_by_head new ∙ (ap (map name_of_head) heads ∙ sym (names_by_head old))

module _ (old new : Slots) (heads : SameHeads old new) where
  was : (i : InstanceId) (y : Instance) → At new i y → (x : Instance) × At old i x × (head_of y ≡ head_of x)
  was = same_head old new heads

  is_still : (i : InstanceId) (x : Instance) → At old i x → (y : Instance) × At new i y × (head_of x ≡ head_of y)
  is_still = same_head new old (sym heads)

  pub named_before : (i : InstanceId) (name : List ℕ) → NamedAt new i name → NamedAt old i name
  named_before i name (y, at, is) = let x = was i y at in (x.0, x.1, ap (λ (h : Head). h.name) (sym x.2) ∙ is)

  pub named_after : (i : InstanceId) (name : List ℕ) → NamedAt old i name → NamedAt new i name
  named_after i name (x, at, is) = let y = is_still i x at in (y.0, y.1, ap (λ (h : Head). h.name) (sym y.2) ∙ is)

  pub relinked_sound : (tables : Tables) (entries : Entries) (capacity : ℕ) → IsNetOf tables old entries capacity → StandBothWays tables new → AllTidy new → IsNetOf tables new entries capacity
  relinked_sound tables entries capacity sound both tidy = record {
    typed = sound.typed;
    indexed = record {
      listed = λ i y at.
          let x = was i y at in
          subst (λ name. place_of entries name ≡ Some i.0) (ap (λ (h : Head). h.name) (sym x.2)) (sound.indexed.listed i x.0 x.1);
      live = λ name i is. named_after i name (sound.indexed.live name i is);
    };
    below = λ i y at. let x = was i y at in sound.below i x.0 x.1;
    both_ways = both;
    tidy = tidy;
    mutes = λ i y at. let x = was i y at in subst (FitsMutes tables) (sym x.2) (sound.mutes i x.0 x.1);
  }

  pub relinked_shows : (t : Topology) (links : set.FinSet link_cmp) → Shows old t
      → ((a : List ℕ) (r : RelId) (b : List ℕ) → HasLink (record t { links = links }) a r b ↔ HoldsLink new a r b) → Shows new (record t { links = links })
  relinked_shows t links shows holds = record {
    instances = λ name c. (
      λ h.
          let g = (shows.instances name c).0 h in
          let y = is_still g.at g.instance g.is in
          record { at = g.at; instance = y.0; is = y.1; named = ap (λ (h : Head). h.name) (sym y.2) ∙ g.named; of_class = ap (λ (h : Head). h.class) (sym y.2) ∙ g.of_class },
      λ g.
          let x = was g.at g.instance g.is in
          (shows.instances name c).1 (record { at = g.at; instance = x.0; is = x.1; named = ap (λ (h : Head). h.name) (sym x.2) ∙ g.named; of_class = ap (λ (h : Head). h.class) (sym x.2) ∙ g.of_class }),
    );
    links = holds;
    mutes = λ n. (
      λ h.
          let g = (shows.mutes n).0 h in
          let y = is_still g.at g.instance g.is in
          record {
            at = g.at;
            instance = y.0;
            event = g.event;
            is = y.1;
            named = ap (λ (h : Head). h.name) (sym y.2) ∙ g.named;
            muted = subst (λ (h : Head). Contains h.muted.items g.event) y.2 g.muted;
            event_named = g.event_named;
          },
      λ g.
          let x = was g.at g.instance g.is in
          (shows.mutes n).1 (record {
            at = g.at;
            instance = x.0;
            event = g.event;
            is = x.1;
            named = ap (λ (h : Head). h.name) (sym x.2) ∙ g.named;
            muted = subst (λ (h : Head). Contains h.muted.items g.event) x.2 g.muted;
            event_named = g.event_named;
          }),
    );
  }

  -- where the slots show the links of a changed topology, they show it
  pub relinked_net : (tables : Tables) (entries : Entries) (capacity next : ℕ) (links : set.FinSet link_cmp) → IsNetOf tables old entries capacity → IsNetOf tables new entries capacity
      → ((a : List ℕ) (r : RelId) (b : List ℕ) → HasLink (record (topology_of_slots tables old) { links = links }) a r b ↔ HoldsLink new a r b)
      → seen tables new capacity next ≡ record (seen tables old capacity next) { topology = record (topology_of_slots tables old) { links = links } }
  relinked_net tables entries capacity next links before after holds =
      let t : Topology = topology_of_slots tables old in
      let u : Topology = record t { links = links } in
      let same : topology_of_slots tables new ≡ u = shown_once new (topology_of_slots tables new) u refl (shown_of tables new entries capacity after) (relinked_shows t links (shown_of tables old entries capacity before) holds) in
      let names = same_names old new heads in
      λ i. record { topology = same i; names = names i; capacity = capacity; next = next }

pub same_sound : (old new : Slots) → SameLinks old new → (tables : Tables) (entries : Entries) (capacity : ℕ) → IsNetOf tables old entries capacity → IsNetOf tables new entries capacity
same_sound old new same tables entries capacity sound =
    relinked_sound old new same.heads tables entries capacity sound
    (λ i r j l. let back = sound.both_ways i r j ((same.lists i r j).0 l) in (back.0, (same.lists j (inverse_of tables r) i).1 back.1))
    (same.tidy sound.tidy)

pub same_net : (old new : Slots) → SameLinks old new → (tables : Tables) (entries : Entries) (capacity next : ℕ) → IsNetOf tables old entries capacity
    → seen tables new capacity next ≡ seen tables old capacity next
same_net old new same tables entries capacity next sound =
    relinked_net old new same.heads tables entries capacity next (topology_of_slots tables old).links sound (same_sound old new same tables entries capacity sound) (λ a r b.
    let is = (shown_of tables old entries capacity sound).links a r b in (
      λ h. let g = is.0 h in
          record { from = g.from; to = g.to; from_is = named_after old new same.heads g.from a g.from_is; to_is = named_after old new same.heads g.to b g.to_is; lists = (same.lists g.from r g.to).1 g.lists },
      λ g. is.1 (record { from = g.from; to = g.to; from_is = named_before old new same.heads g.from a g.from_is; to_is = named_before old new same.heads g.to b g.to_is; lists = (same.lists g.from r g.to).0 g.lists }),
    ))

-- the names of one number are one
one_name : (slots : Slots) (i k : InstanceId) (a b : List ℕ) → i ≡ k → NamedAt slots i a → NamedAt slots k b → a ≡ b
one_name slots i k a b e (x, at, x_is) (y, at_y, y_is) =
    let same = one_at slots k x y (subst (λ z. At slots z x) e at) at_y in
    sym x_is ∙ (ap (λ (z : Instance). z.name) same ∙ y_is)

module _ (tables : Tables) (old new : Slots) (entries : Entries) (capacity : ℕ) (from : InstanceId) (rel : RelId) (to : InstanceId) (back : RelId)
    (a b : List ℕ) (from_is : NamedAt old from a) (to_is : NamedAt old to b) (of_tables : IsRelation tables rel) (is : back ≡ inverse_of tables rel)
    (sound : IsNetOf tables old entries capacity) where
  abbrev t : Topology
  t = topology_of_slots tables old

  abbrev p : Link
  p = link_of a rel b

  abbrev q : Link
  q = link_of b back a

  inverse_back : inverse_of tables back ≡ rel
  inverse_back = ap (inverse_of tables) is ∙ (inverse_twice tables sound.typed rel of_tables).1

  back_of_tables : IsRelation tables back
  back_of_tables = subst (λ s. IsRelation tables s) (sym is) (inverse_twice tables sound.typed rel of_tables).0

  name_is : (next : ℕ) (i : InstanceId) (name : List ℕ) → NamedAt old i name → name_at (seen tables old capacity next) i ≡ name
  name_is next i name at = ap name_or (at_seen old i name at)

  module _ (joins : JoinsInstances old new from rel to back) where
    joined_both : StandBothWays tables new
    joined_both i r j l = elim ((joins.lists i r j).0 l) [
      | inl m ↦ let turn = sound.both_ways i r j m in (turn.0, (joins.lists j (inverse_of tables r) i).1 (inl turn.1))
      | inr n ↦ elim n [
        | inl m ↦ (
          subst (λ s. IsRelation tables s) (sym m.1) of_tables,
          (joins.lists j (inverse_of tables r) i).1 (inr (inr (m.2, ap (inverse_of tables) m.1 ∙ sym is, m.0))),
        )
        | inr m ↦ (
          subst (λ s. IsRelation tables s) (sym m.1) back_of_tables,
          (joins.lists j (inverse_of tables r) i).1 (inr (inl (m.2, ap (inverse_of tables) m.1 ∙ inverse_back, m.0))),
        )
      ]
    ]

    pub joined_sound : ¬ ListsInstance old from rel to → IsNetOf tables new entries capacity
    joined_sound none =
        let none_back : ¬ ListsInstance old to back from = λ l. none (subst (λ r. ListsInstance old from r to) inverse_back (sound.both_ways to back from l).1) in
        relinked_sound old new joins.heads tables entries capacity sound joined_both (joins.tidy none none_back sound.tidy)

    joined_holds : (x : List ℕ) (r : RelId) (y : List ℕ) → HasLink (with_link t a rel back b) x r y ↔ HoldsLink new x r y
    joined_holds x r y =
        let shows = (shown_of tables old entries capacity sound).links x r y in
        let one = in_insert link_cmp_total link_cmp_exact t.links p (link_of x r y) in
        let two = in_insert link_cmp_total link_cmp_exact (set.insert t.links p) q (link_of x r y) in
        let after = named_after old new joins.heads in
        let before = named_before old new joins.heads in (
          λ h. elim (two.0 h) [
            | inl e ↦ record {
              from = to;
              to = from;
              from_is = subst (NamedAt new to) (sym (ap (λ (l : Link). l.from) e)) (after to b to_is);
              to_is = subst (NamedAt new from) (sym (ap (λ (l : Link). l.to) e)) (after from a from_is);
              lists = (joins.lists to r from).1 (inr (inr (refl, ap (λ (l : Link). l.rel) e, refl)));
            }
            | inr h ↦ elim (one.0 h) [
              | inl e ↦ record {
                from = from;
                to = to;
                from_is = subst (NamedAt new from) (sym (ap (λ (l : Link). l.from) e)) (after from a from_is);
                to_is = subst (NamedAt new to) (sym (ap (λ (l : Link). l.to) e)) (after to b to_is);
                lists = (joins.lists from r to).1 (inr (inl (refl, ap (λ (l : Link). l.rel) e, refl)));
              }
              | inr h ↦ let g = shows.0 h in
                  record { from = g.from; to = g.to; from_is = after g.from x g.from_is; to_is = after g.to y g.to_is; lists = (joins.lists g.from r g.to).1 (inl g.lists) }
            ]
          ],
          λ g. elim ((joins.lists g.from r g.to).0 g.lists) [
            | inl l ↦ two.1 (inr (one.1 (inr (shows.1 (record { from = g.from; to = g.to; from_is = before g.from x g.from_is; to_is = before g.to y g.to_is; lists = l })))))
            | inr n ↦ elim n [
              | inl m ↦
                  let x_is = one_name old g.from from x a m.0 (before g.from x g.from_is) from_is in
                  let y_is = one_name old g.to to y b m.2 (before g.to y g.to_is) to_is in
                  two.1 (inr (one.1 (inl (λ i. link_of (x_is i) (m.1 i) (y_is i)))))
              | inr m ↦
                  let x_is = one_name old g.from to x b m.0 (before g.from x g.from_is) to_is in
                  let y_is = one_name old g.to from y a m.2 (before g.to y g.to_is) from_is in
                  two.1 (inl (λ i. link_of (x_is i) (m.1 i) (y_is i)))
            ]
          ],
        )

    pub joined_net : (next : ℕ) → ¬ ListsInstance old from rel to → seen tables new capacity next ≡ linked (seen tables old capacity next) from rel to
    joined_net next none =
        let net = relinked_net old new joins.heads tables entries capacity next (with_link t a rel back b).links sound (joined_sound none) joined_holds in
        let n : Net = seen tables old capacity next in
        net ∙ (λ i. record n { topology = with_link t (sym (name_is next from a from_is) i) rel (is i) (sym (name_is next to b to_is) i) })

  module _ (parts : PartsInstances old new from rel to back) where
    lists : (i : InstanceId) (r : RelId) (j : InstanceId) → ListsInstance new i r j ↔ (ListsInstance old i r j × ¬ IsJoin from rel to back i r j)
    lists = parts.lists sound.tidy

    parted_both : StandBothWays tables new
    parted_both i r j l =
        let m = (lists i r j).0 l in
        let turn = sound.both_ways i r j m.0 in
        let twice : inverse_of tables (inverse_of tables r) ≡ r = (inverse_twice tables sound.typed r turn.0).1 in
        let other : ¬ IsJoin from rel to back j (inverse_of tables r) i = λ s. elim s [
          | inl n ↦ m.1 (inr (n.2, sym twice ∙ (ap (inverse_of tables) n.1 ∙ sym is), n.0))
          | inr n ↦ m.1 (inl (n.2, sym twice ∙ (ap (inverse_of tables) n.1 ∙ inverse_back), n.0))
        ] in
        (turn.0, (lists j (inverse_of tables r) i).1 (turn.1, other))

    pub parted_sound : IsNetOf tables new entries capacity
    parted_sound = relinked_sound old new parts.heads tables entries capacity sound parted_both (parts.tidy sound.tidy)

    parted_holds : (x : List ℕ) (r : RelId) (y : List ℕ) → HasLink (without_link t a rel back b) x r y ↔ HoldsLink new x r y
    parted_holds x r y =
        let shows = (shown_of tables old entries capacity sound).links x r y in
        let one = in_remove link_cmp_total link_cmp_exact t.links p (link_of x r y) in
        let two = in_remove link_cmp_total link_cmp_exact (set.remove t.links p) q (link_of x r y) in
        let after = named_after old new parts.heads in
        let before = named_before old new parts.heads in (
          λ h.
              let k = two.0 h in
              let k' = one.0 k.1 in
              let g = shows.0 k'.1 in
              let other : ¬ IsJoin from rel to back g.from r g.to = λ s. elim s [
                | inl m ↦
                    let x_is = one_name old g.from from x a m.0 g.from_is from_is in
                    let y_is = one_name old g.to to y b m.2 g.to_is to_is in
                    k'.0 (λ i. link_of (x_is i) (m.1 i) (y_is i))
                | inr m ↦
                    let x_is = one_name old g.from to x b m.0 g.from_is to_is in
                    let y_is = one_name old g.to from y a m.2 g.to_is from_is in
                    k.0 (λ i. link_of (x_is i) (m.1 i) (y_is i))
              ] in
              record { from = g.from; to = g.to; from_is = after g.from x g.from_is; to_is = after g.to y g.to_is; lists = (lists g.from r g.to).1 (g.lists, other) },
          λ g.
              let l = (lists g.from r g.to).0 g.lists in
              let x_at = before g.from x g.from_is in
              let y_at = before g.to y g.to_is in
              let has = shows.1 (record { from = g.from; to = g.to; from_is = x_at; to_is = y_at; lists = l.0 }) in
              let same : (i k : InstanceId) (m n : List ℕ) → NamedAt old i m → NamedAt old k n → m ≡ n → i ≡ k = λ i k m n at_i at_k e. own_names old entries sound.indexed i k m at_i (subst (NamedAt old k) (sym e) at_k) in
              let not_p : link_of x r y ≢ p = λ e.
              l.1 (inl (same g.from from x a x_at from_is (ap (λ (m : Link). m.from) e), ap (λ (m : Link). m.rel) e, same g.to to y b y_at to_is (ap (λ (m : Link). m.to) e))) in
              let not_q : link_of x r y ≢ q = λ e.
              l.1 (inr (same g.from to x b x_at to_is (ap (λ (m : Link). m.from) e), ap (λ (m : Link). m.rel) e, same g.to from y a y_at from_is (ap (λ (m : Link). m.to) e))) in
              two.1 (not_q, one.1 (not_p, has)),
        )

    pub parted_net : (next : ℕ) → seen tables new capacity next ≡ unlinked (seen tables old capacity next) from rel to
    parted_net next =
        let net = relinked_net old new parts.heads tables entries capacity next (without_link t a rel back b).links sound parted_sound parted_holds in
        let n : Net = seen tables old capacity next in
        net ∙ (λ i. record n { topology = without_link t (sym (name_is next from a from_is) i) rel (is i) (sym (name_is next to b to_is) i) })
