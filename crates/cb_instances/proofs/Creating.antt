-- An instance more.
use Rattle.std.proofs.Common.{◌≡◌, ◌≢◌, ◌⊎◌, ℕ, ◌+◌, ◌≤◌, max, length, vec_capacity, List, [], cond, map, Some, None, refl, sym, ap, subst, ◌∙◌, inl, inr, arith}
use Rattle.std.specs.List.{Contains}
use Rattle.std.specs.Str.{bytes_eq}
use Rattle.cb_model.specs.Views.{AreEventsOf}
use Rattle.cb_model.specs.declared.id.ClassId.{ClassId}
use Rattle.cb_model.specs.declared.id.EventId.{EventId}
use Rattle.cb_model.specs.declared.id.RelId.{RelId}
use Rattle.cb_model.specs.declared.tables.Tables.{Tables}
use Rattle.cb_model.proofs.Rising.{nothing_in_empty, name_cmp_total, name_cmp_exact}
use Rattle.cb_network.specs.Edits.{with_instance}
use Rattle.cb_network.specs.Topology.{Topology, IsLive as IsLiveName}
use Rattle.cb_network.proofs.Kept.{live_of}
use Rattle.cb_network.proofs.Sets.{got_insert}
use Rattle.cb_instances.specs.declared.id.InstanceId.{InstanceId}
use Rattle.cb_instances.specs.declared.instance.Instance.{Instance}
use Rattle.cb_instances.specs.Net.{slot, SetsOnly, Once, inverse_of}
use Rattle.cb_instances.specs.Places.{Entries, IsIndexed, place_of}
use Rattle.cb_instances.specs.Rows.{row_of}
use Rattle.cb_instances.specs.Shown.{topology_of_slots, name_in, Shows}
use Rattle.cb_instances.specs.Slots.{head_of, Slots, At, ListsInstance}
use Rattle.cb_instances.specs.Sound.{IsNetOf, IsTidy, StandBothWays, FitsMutes}
use Rattle.cb_instances.proofs.Placing.{own_names, stays, either, indexed_more, named_only, same_id}
use Rattle.cb_instances.proofs.Showing.{one_at, shows_made, shown_once}

-- who is listed is there
pub listed_live : (tables : Tables) (slots : Slots) → StandBothWays tables slots → (i : InstanceId) (r : RelId) (j : InstanceId) → ListsInstance slots i r j → (y : Instance) × At slots j y
listed_live tables slots both i r j lists = let back = (both i r j lists).1 in (back.lister, back.is)

pub nothing_twice : {X : Type 0} (xs : List X) → xs ≡ [] → Once xs
nothing_twice xs e = subst Once (sym e) (λ i j d lt le. absurd (omega arith))

pub shown_of : (tables : Tables) (slots : Slots) (entries : Entries) (capacity : ℕ) → IsNetOf tables slots entries capacity → Shows slots (topology_of_slots tables slots)
shown_of tables slots entries capacity sound = shows_made tables slots (own_names slots entries sound.indexed) (λ i x at. (sound.tidy i x at).apart)

module _ (tables : Tables) (old new : Slots) (id : InstanceId) (x : Instance) (free : slot old id.0 ≡ None) (sets : SetsOnly old new id (Some x))
    (bare : x.links.rows.items ≡ []) (unmuted : x.muted.items ≡ []) (both : StandBothWays tables old)
    (fresh : (i : InstanceId) (y : Instance) → At old i y → y.name ≡ x.name → ⊥) (fits : FitsMutes tables (head_of x)) where
  keeps : (i : InstanceId) (y : Instance) → At old i y → At new i y
  keeps = stays old new id x free sets

  now : (i : InstanceId) (y : Instance) → At new i y → ((i ≡ id) × (y ≡ x)) ⊎ At old i y
  now = either old new id x free sets

  lists_nobody : (r : RelId) (j : InstanceId) (y : Instance) → y ≡ x → Contains (row_of y.links.rows.items r) j → ⊥
  lists_nobody r j y same has = nothing_in_empty j (subst (λ rows. Contains (row_of rows r) j) (ap (λ (z : Instance). z.links.rows.items) same ∙ bare) has)

  lists_more : (i : InstanceId) (r : RelId) (j : InstanceId) → ListsInstance old i r j → ListsInstance new i r j
  lists_more i r j l = record { lister = l.lister; is = keeps i l.lister l.is; listed = l.listed }

  listed_before : (i : InstanceId) (r : RelId) (j : InstanceId) → ListsInstance new i r j → ListsInstance old i r j
  listed_before i r j l = elim (now i l.lister l.is) [
    | inl e ↦ absurd (lists_nobody r j l.lister e.1 l.listed)
    | inr was ↦ record { lister = l.lister; is = was; listed = l.listed }
  ]

  both_ways : StandBothWays tables new
  both_ways i r j l = let back = both i r j (listed_before i r j l) in (back.0, lists_more j (inverse_of tables r) i back.1)

  tidy : ((i : InstanceId) (y : Instance) → At old i y → IsTidy y.links.rows.items) → (i : InstanceId) (y : Instance) → At new i y → IsTidy y.links.rows.items
  tidy was i y at = elim (now i y at) [
    | inl e ↦
        let none : [] ≡ y.links.rows.items = sym (ap (λ (z : Instance). z.links.rows.items) e.1 ∙ bare) in
        subst IsTidy none (record { apart = λ i j d lt le. absurd (omega arith); once = λ r. nothing_twice [] refl })
    | inr old_y ↦ was i y old_y
  ]

  pub created_sound : (entries entries' : Entries) (capacity capacity' : ℕ) → IsNetOf tables old entries capacity → IsIndexed new entries' → capacity' ≡ max capacity (id.0 + 1)
      → IsNetOf tables new entries' capacity'
  created_sound entries entries' capacity capacity' sound indexed above = record {
    typed = sound.typed;
    indexed = indexed;
    below = λ i y at. elim (now i y at) [
      | inl e ↦ let same : i.0 ≡ id.0 = ap (λ (k : InstanceId). k.0) e.0 in omega arith
      | inr was ↦ let lt = sound.below i y was in omega arith
    ];
    both_ways = both_ways;
    tidy = tidy sound.tidy;
    mutes = λ i y at. elim (now i y at) [
      | inl e ↦ subst (λ z. FitsMutes tables (head_of z)) (sym e.1) fits
      | inr was ↦ sound.mutes i y was
    ];
  }

  pub created_shows : (t : Topology) → Shows old t → Shows new (with_instance t x.name x.class)
  created_shows t shows = record {
    instances = λ name c.
        let was = shows.instances name c in
        let is = got_insert name_cmp_total name_cmp_exact t.instances x.name x.class name c in (
          λ h. elim (is.0 h) [
            | inl e ↦ record { at = id; instance = x; is = sets.this; named = sym e.0; of_class = e.1 }
            | inr k ↦ let g = was.0 k.1 in record { at = g.at; instance = g.instance; is = keeps g.at g.instance g.is; named = g.named; of_class = g.of_class }
          ],
          λ g. is.1 (elim (now g.at g.instance g.is) [
            | inl e ↦ inl (sym g.named ∙ ap (λ (z : Instance). z.name) e.1, ap (λ (z : Instance). z.class) (sym e.1) ∙ g.of_class)
            | inr old_y ↦ inr (λ e. fresh g.at g.instance old_y (g.named ∙ e), was.1 (record { at = g.at; instance = g.instance; is = old_y; named = g.named; of_class = g.of_class }))
          ]),
        );
    links = λ a r b.
        let was = shows.links a r b in (
          λ h.
              let g = was.0 h in
              record {
                from = g.from;
                to = g.to;
                from_is = (g.from_is.0, keeps g.from g.from_is.0 g.from_is.1, g.from_is.2);
                to_is = (g.to_is.0, keeps g.to g.to_is.0 g.to_is.1, g.to_is.2);
                lists = lists_more g.from r g.to g.lists;
              },
          λ g.
              let l = listed_before g.from r g.to g.lists in
              let from : l.lister ≡ g.from_is.0 = one_at new g.from l.lister g.from_is.0 (keeps g.from l.lister l.is) g.from_is.1 in
              let live = listed_live tables old both g.from r g.to l in
              let to : live.0 ≡ g.to_is.0 = one_at new g.to live.0 g.to_is.0 (keeps g.to live.0 live.1) g.to_is.1 in
              was.1 (record {
                from = g.from;
                to = g.to;
                from_is = (l.lister, l.is, ap (λ (z : Instance). z.name) from ∙ g.from_is.2);
                to_is = (live.0, live.1, ap (λ (z : Instance). z.name) to ∙ g.to_is.2);
                lists = l;
              }),
        );
    mutes = λ n.
        let was = shows.mutes n in (
          λ h. let g = was.0 h in record { at = g.at; instance = g.instance; event = g.event; is = keeps g.at g.instance g.is; named = g.named; muted = g.muted; event_named = g.event_named },
          λ g. was.1 (elim (now g.at g.instance g.is) [
            | inl e ↦ absurd (nothing_in_empty g.event (subst (λ es. Contains es g.event) (ap (λ (z : Instance). z.muted.items) e.1 ∙ unmuted) g.muted))
            | inr old_y ↦ record { at = g.at; instance = g.instance; event = g.event; is = old_y; named = g.named; muted = g.muted; event_named = g.event_named }
          ]),
        );
  }

  pub created_topology : (entries entries' : Entries) (capacity capacity' : ℕ) → IsNetOf tables old entries capacity → IsNetOf tables new entries' capacity'
      → topology_of_slots tables new ≡ with_instance (topology_of_slots tables old) x.name x.class
  created_topology entries entries' capacity capacity' before after =
      shown_once new (topology_of_slots tables new) (with_instance (topology_of_slots tables old) x.name x.class) refl
      (shown_of tables new entries' capacity' after)
      (created_shows (topology_of_slots tables old) (shown_of tables old entries capacity before))

-- what a new instance makes of the slots
pub record IsMade (tables : Tables) (old new : Slots) (entries entries' : Entries) (capacity capacity' : ℕ) (id : InstanceId) (name : List ℕ) (class : ClassId) : Type 0 where
  pub named : SetsOnly (map name_in old) (map name_in new) id (Some name)
  pub sound : IsNetOf tables new entries' capacity'
  pub topology : topology_of_slots tables new ≡ with_instance (topology_of_slots tables old) name class

-- a slot that was free is set, and its name is placed
pub made : (tables : Tables) (old mid new : Slots) (entries entries' : Entries) (capacity capacity' : ℕ) (id : InstanceId) (k : ℕ) (x : Instance) (name : List ℕ)
    → IsNetOf tables old entries capacity → mid ≡ old → slot mid id.0 ≡ None → k ≡ id.0 → slot new k ≡ Some x → ((j : ℕ) → j ≢ k → slot new j ≡ slot mid j)
    → x.name ≡ name → ¬ IsLiveName (topology_of_slots tables old) name
    → x.links.rows.items ≡ [] → x.muted.items ≡ [] → FitsMutes tables (head_of x)
    → ((q : List ℕ) → place_of entries' q ≡ cond (bytes_eq q name) (Some id.0) (place_of entries q))
    → capacity' ≡ max capacity (id.0 + 1) → IsMade tables old new entries entries' capacity capacity' id name x.class
made tables old mid new entries entries' capacity capacity' id k x name sound kept vacant key this others named absent bare unmuted fits finds above =
    let free : slot old id.0 ≡ None = subst (λ (s : Slots). slot s id.0 ≡ None) kept vacant in
    let sets : SetsOnly old new id (Some x) = record {
      this = subst (λ i. slot new i ≡ Some x) key this;
      others = λ j ne. others j.0 (λ e. ne (same_id j id (e ∙ key))) ∙ ap (λ (s : Slots). slot s j.0) kept;
    } in
    let fresh : (i : InstanceId) (y : Instance) → At old i y → y.name ≡ x.name → ⊥ = λ i y at e.
    absent (subst (λ n. IsLiveName (topology_of_slots tables old) n) (e ∙ named) (live_of (topology_of_slots tables old) y.name y.class (((shown_of tables old entries capacity sound).instances y.name y.class).1 (record { at = i; instance = y; is = at; named = refl; of_class = refl })))) in
    let indexed : IsIndexed new entries' = indexed_more old new id x free sets entries entries' sound.indexed fresh (λ q. finds q ∙ ap (λ n. cond (bytes_eq q n) (Some id.0) (place_of entries q)) (sym named)) in
    let after : IsNetOf tables new entries' capacity' = created_sound tables old new id x free sets bare unmuted sound.both_ways fresh fits entries entries' capacity capacity' sound indexed above in
    record {
      named = named_only old new id x name sets named;
      sound = after;
      topology = created_topology tables old new id x free sets bare unmuted sound.both_ways fresh fits entries entries' capacity capacity' sound after
          ∙ ap (λ n. with_instance (topology_of_slots tables old) n x.class) named;
    }

-- an instance at which nothing is muted
pub no_mutes : (tables : Tables) (x : Instance) (events : List EventId) → AreEventsOf tables x.class events → length events ≤ vec_capacity x.muted → x.muted.items ≡ []
    → FitsMutes tables (head_of x)
no_mutes tables x events are spare unmuted = record {
  events = events;
  are = are;
  spare = spare;
  of_class = λ e has. absurd (nothing_in_empty e (subst (λ es. Contains es e) unmuted has));
  once = nothing_twice x.muted.items unmuted;
}
