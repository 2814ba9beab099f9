-- What is read from a net.
use Rattle.std.proofs.Common.{◌≡◌, ◌↔◌, ℕ, List, map, Option, Some, None, IsSome, refl, sym, ap, subst, ◌∙◌}
use Rattle.std.specs.List.{Contains}
use Rattle.std.proofs.lemmas.Bool.{false≢true}
use Rattle.cb_model.specs.declared.id.RelId.{RelId}
use Rattle.cb_model.specs.declared.tables.Tables.{Tables}
use Rattle.cb_network.specs.Topology.{IsLive as IsLiveName, HasClass}
use Rattle.cb_network.proofs.Kept.{class_of, live_of}
use Rattle.cb_instances.specs.declared.id.InstanceId.{InstanceId}
use Rattle.cb_instances.specs.declared.instance.Instance.{Instance}
use Rattle.cb_instances.specs.Net.{Net, slot, IsLiveInstance, LinkAt, IsWholeNet, inverse_of}
use Rattle.cb_instances.specs.Places.{Entries, place_of}
use Rattle.cb_instances.specs.Rows.{row_of}
use Rattle.cb_instances.specs.Shown.{name_in, topology_of_slots, seen, Shows}
use Rattle.cb_instances.specs.Slots.{Slots, At, NamedAt, ListsInstance}
use Rattle.cb_instances.specs.Sound.{IsNetOf}
use Rattle.cb_instances.proofs.Creating.{listed_live, shown_of}
use Rattle.cb_model.specs.WellTyped.{IsRelation}
use Rattle.cb_instances.proofs.Linking.{inverse_twice}
use Rattle.cb_instances.proofs.Placing.{own_names, seen_at, at_seen}
use Rattle.cb_instances.proofs.Showing.{one_at}

pub occupied : (slots : Slots) (i : InstanceId) (name : List ℕ) → NamedAt slots i name → IsSome (slot slots i.0)
occupied slots i name (x, at, is) = subst IsSome (sym at) refl

-- a number has an instance just where a name is seen
pub seen_live : (slots : Slots) (i : InstanceId) → IsSome (slot slots i.0) ↔ ((name : List ℕ) × (slot (map name_in slots) i.0 ≡ Some name))
seen_live slots i = (go (slot slots i.0) refl, λ (name, is). occupied slots i name (seen_at slots i name is))
  where
    go : (o : Option Instance) → slot slots i.0 ≡ o → IsSome o → (name : List ℕ) × (slot (map name_in slots) i.0 ≡ Some name)
    go None at some = absurd (false≢true some)
    go (Some x) at some = (x.name, at_seen slots i x.name (x, at, refl))

-- a live number is that of an instance of some name
pub live_at : (tables : Tables) (slots : Slots) (capacity next : ℕ) (n : Net) → seen tables slots capacity next ≡ n → (i : InstanceId) → IsLiveInstance n i → (name : List ℕ) × NamedAt slots i name
live_at tables slots capacity next n is i live = (live.0, seen_at slots i live.0 (subst (λ (m : Net). slot m.names i.0 ≡ Some live.0) (sym is) live.1))

module _ (tables : Tables) (slots : Slots) (entries : Entries) (capacity : ℕ) (sound : IsNetOf tables slots entries capacity) where
  shown : Shows slots (topology_of_slots tables slots)
  shown = shown_of tables slots entries capacity sound

  -- a live name is that of an instance
  pub live_name : (name : List ℕ) → IsLiveName (topology_of_slots tables slots) name → (i : InstanceId) × NamedAt slots i name
  live_name name live =
      let class = class_of (topology_of_slots tables slots) name live in
      let h = (shown.instances name class.0).0 class.1 in
      (h.at, (h.instance, h.is, h.named))

  pub class_at : (i : InstanceId) (x : Instance) → At slots i x → HasClass (topology_of_slots tables slots) x.name x.class
  class_at i x at = (shown.instances x.name x.class).1 (record { at = i; instance = x; is = at; named = refl; of_class = refl })

  -- a name that has no place is not live
  pub not_placed : (name : List ℕ) → place_of entries name ≡ None → ¬ IsLiveName (topology_of_slots tables slots) name
  not_placed name none live =
      let at = live_name name live in
      let x = at.1 in
      let some : place_of entries name ≡ Some at.0.0 = subst (λ n. place_of entries n ≡ Some at.0.0) x.2 (sound.indexed.listed at.0 x.0 x.1) in
      absurd (cc)

  pub class_is : (i : InstanceId) (x : Instance) (name : List ℕ) → At slots i x → NamedAt slots i name → HasClass (topology_of_slots tables slots) name x.class
  class_is i x name at (y, at_y, is) =
      let same = one_at slots i x y at at_y in
      subst (λ n. HasClass (topology_of_slots tables slots) n x.class) (ap (λ (z : Instance). z.name) same ∙ is) (class_at i x at)

  -- the numbers in a list are those of the links
  pub row_is : (next : ℕ) (i : InstanceId) (r : RelId) (x : Instance) → At slots i x → (j : InstanceId) → Contains (row_of x.links.rows.items r) j ↔ LinkAt (seen tables slots capacity next) i r j
  row_is next i r x at j = (to, back)
    where
      to : Contains (row_of x.links.rows.items r) j → LinkAt (seen tables slots capacity next) i r j
      to has =
          let l : ListsInstance slots i r j = record { lister = x; is = at; listed = has } in
          let y = listed_live tables slots sound.both_ways i r j l in
          record {
            from = x.name;
            to = y.0.name;
            from_is = at_seen slots i x.name (x, at, refl);
            to_is = at_seen slots j y.0.name (y.0, y.1, refl);
            linked = (shown.links x.name r y.0.name).1 (record { from = i; to = j; from_is = (x, at, refl); to_is = (y.0, y.1, refl); lists = l });
          }

      back : LinkAt (seen tables slots capacity next) i r j → Contains (row_of x.links.rows.items r) j
      back l =
          let h = (shown.links l.from r l.to).0 l.linked in
          let from : h.from ≡ i = own_names slots entries sound.indexed h.from i l.from h.from_is (seen_at slots i l.from l.from_is) in
          let to : h.to ≡ j = own_names slots entries sound.indexed h.to j l.to h.to_is (seen_at slots j l.to l.to_is) in
          let same : h.lists.lister ≡ x = one_at slots i h.lists.lister x (subst (λ k. At slots k h.lists.lister) from h.lists.is) at in
          subst (λ k. Contains (row_of x.links.rows.items r) k) to (subst (λ (z : Instance). Contains (row_of z.links.rows.items r) h.to) same h.lists.listed)

  -- where no link leads, nothing is listed
  pub not_listed : (next : ℕ) (n : Net) → seen tables slots capacity next ≡ n → (i : InstanceId) (r : RelId) (j : InstanceId) → ¬ LinkAt n i r j → ¬ ListsInstance slots i r j
  not_listed next n is i r j none l = none (subst (λ m. LinkAt m i r j) is ((row_is next i r l.lister l.is j).0 l.listed))

  pub whole : (next : ℕ) → IsWholeNet (seen tables slots capacity next)
  whole next = record {
    one = λ i j name a b. own_names slots entries sound.indexed i j name (seen_at slots i name a) (seen_at slots j name b);
    named = λ name live. let at = live_name name live in (at.0, at_seen slots at.0 name at.1);
    live = λ i name is.
        let at = seen_at slots i name is in
        live_of (topology_of_slots tables slots) name at.0.class (class_is i at.0 name at.1 at);
    ends = λ a r b h.
        let g = (shown.links a r b).0 h in
        (g.from, g.to, at_seen slots g.from a g.from_is, at_seen slots g.to b g.to_is);
  }

  -- a link that is listed at its end stands
  pub listed_back : (next : ℕ) (i : InstanceId) (r s : RelId) (j : InstanceId) → IsRelation tables r → s ≡ inverse_of tables r → LinkAt (seen tables slots capacity next) j s i ↔ LinkAt (seen tables slots capacity next) i r j
  listed_back next i r s j of_tables is = (
    λ l. subst (λ q. LinkAt (seen tables slots capacity next) i q j) (ap (inverse_of tables) is ∙ (inverse_twice tables sound.typed r of_tables).1) (turn j s i l),
    λ l. subst (λ q. LinkAt (seen tables slots capacity next) j q i) (sym is) (turn i r j l),
  )
    where
      turn : (i : InstanceId) (r : RelId) (j : InstanceId) → LinkAt (seen tables slots capacity next) i r j → LinkAt (seen tables slots capacity next) j (inverse_of tables r) i
      turn i r j l =
          let x = seen_at slots i l.from l.from_is in
          let back = (sound.both_ways i r j (record { lister = x.0; is = x.1; listed = (row_is next i r x.0 x.1 j).1 l })).1 in
          (row_is next j (inverse_of tables r) back.lister back.is i).0 back.listed
