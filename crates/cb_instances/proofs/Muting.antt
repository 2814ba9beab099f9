-- Mutes that come and go.
use Rattle.std.proofs.Common.{◌≡◌, ◌≢◌, ◌↔◌, ◌⊎◌, ℕ, zero, suc, ◌+◌, ◌-◌, ◌<◌, ◌≤◌, List, [], ◌∷◌, ◌++◌, length, map, set, Some, None, refl, sym, ap, subst, ◌∙◌, inl, inr, arith, vec_capacity, get_or-set_same, get_or-set_other}
use Rattle.std.specs.FinSet as fin_set
use Rattle.std.specs.Global.{Global}
use Rattle.std.specs.List.{Contains, All}
use Rattle.std.specs.declared.vec.Vec.{Vec}
use Rattle.std.proofs.lemmas.Bool.{cases_order}
use Rattle.std.proofs.lemmas.List.{length-map, length-append}
use Rattle.std.proofs.lemmas.List.Elements.{Contains-append_left, Contains-push, Contains-push_cases, Contains-get_or}
use Rattle.cb_model.specs.Classes.{ancestor, parent_of_some, HasEvent}
use Rattle.cb_model.specs.declared.id.ClassId.{ClassId}
use Rattle.cb_model.specs.declared.id.EventId.{EventId}
use Rattle.cb_model.specs.declared.id.RelId.{RelId}
use Rattle.cb_model.specs.declared.node.NodeName.{NodeName}
use Rattle.cb_model.specs.declared.tables.Tables.{Tables}
use Rattle.cb_model.specs.NodeOrder.{node_cmp}
use Rattle.cb_model.specs.WellTyped.{WellTyped, Member, ClassDeclares}
use Rattle.cb_model.proofs.Numbers.{at_most_listed}
use Rattle.cb_model.proofs.Rising.{node_cmp_total, node_cmp_exact}
use Rattle.cb_network.specs.Edits.{node_name_of, with_mute, without_mute}
use Rattle.cb_network.specs.Topology.{Topology, IsMuted}
use Rattle.cb_network.proofs.Sets.{in_insert, in_remove}
use Rattle.cb_instances.specs.Items.{Gains, Loses}
use Rattle.cb_instances.specs.declared.id.InstanceId.{InstanceId}
use Rattle.cb_instances.specs.declared.instance.Instance.{Instance}
use Rattle.cb_instances.specs.declared.links.Links.{Links}
use Rattle.cb_instances.specs.Muted.{Remutes}
use Rattle.cb_instances.specs.Net.{Net, slot, event_name, name_in_row, name_at, name_or, node_at, muted, unmuted, HasEventAt, IsMutedAt, inverse_of, Once}
use Rattle.cb_instances.specs.Places.{Entries, place_of}
use Rattle.cb_instances.specs.Rows.{row_of}
use Rattle.cb_instances.specs.Shown.{topology_of_slots, seen, name_in, Shows, HoldsMute}
use Rattle.cb_instances.specs.Slots.{Slots, At, NamedAt, ListsInstance, head_of}
use Rattle.cb_instances.specs.Sound.{IsNetOf, IsTidy, FitsMutes}
use Rattle.cb_instances.proofs.Creating.{shown_of}
use Rattle.cb_instances.proofs.Placing.{own_names, at_seen, same_id, decide_id}
use Rattle.cb_instances.proofs.Rewiring.{once_more}
use Rattle.cb_instances.proofs.Showing.{one_at, shown_once, slot_within}

-- the ancestors of an ancestor
further : (t : Tables) (c a : ClassId) (k n m : ℕ) → k + n ≡ m → ancestor t c n ≡ Some a → ancestor t c m ≡ ancestor t a k
further t c a zero n m e is = let f : m ≡ n = omega arith in ap (ancestor t c) f ∙ is
further t c a (suc k) n zero e is = absurd (omega arith)
further t c a (suc k) n (suc m) e is = ap (parent_of_some t) (further t c a k n m (omega arith) is)

-- a class has one event of a name
pub event_reported : (t : Tables) → WellTyped t → (c : ClassId) (e f : EventId) → HasEvent t c e → HasEvent t c f → event_name t e ≡ event_name t f → e ≡ f
event_reported t typed c e f a b named =
    let row_a : event_name t e ≡ a.row.name = ap name_in_row a.is in
    let row_b : event_name t f ≡ b.row.name = ap name_in_row b.is in
    let name : b.row.name ≡ a.row.name = sym row_b ∙ (sym named ∙ row_a) in
    let one : ClassDeclares t a.row.class (Member.event e.0) a.row.name = (a.row, a.is, refl, refl) in
    let other : ClassDeclares t b.row.class (Member.event f.0) a.row.name = (b.row, b.is, refl, name) in
    let same : e.0 ≡ f.0 = elim (cases_order a.from_c.0 b.from_c.0) [
      | inl n ↦ number e.0 f.0 (typed.rules.member_names a.row.class b.row.class (Member.event e.0) (Member.event f.0) a.row.name (0, sym (further t c a.row.class 0 a.from_c.0 b.from_c.0 (omega arith) a.from_c.1) ∙ b.from_c.1) one other)
      | inr (inl below) ↦ number e.0 f.0 (typed.rules.member_names a.row.class b.row.class (Member.event e.0) (Member.event f.0) a.row.name (b.from_c.0 - a.from_c.0, sym (further t c a.row.class (b.from_c.0 - a.from_c.0) a.from_c.0 b.from_c.0 (omega arith) a.from_c.1) ∙ b.from_c.1) one other)
      | inr (inr above) ↦ sym (number f.0 e.0 (typed.rules.member_names b.row.class a.row.class (Member.event f.0) (Member.event e.0) a.row.name (a.from_c.0 - b.from_c.0, sym (further t c b.row.class (a.from_c.0 - b.from_c.0) b.from_c.0 a.from_c.0 (omega arith) b.from_c.1) ∙ a.from_c.1) other one))
    ] in
    λ i. record { 0 = same i }
  where
    number : (m n : ℕ) → Member.event m ≡ Member.event n → m ≡ n
    number m n e = cc

remuted_names : (slots : Slots) (i : ℕ) (x y : Instance) → slot slots i ≡ Some x → y.name ≡ x.name → map name_in (set slots i (Some y)) ≡ map name_in slots
remuted_names [] i x y at e = refl
remuted_names (o ∷ slots) zero x y at e = ap (λ n. n ∷ map name_in slots) (ap Some e ∙ ap name_in (sym at))
remuted_names (o ∷ slots) (suc i) x y at e = ap (λ ns. name_in o ∷ ns) (remuted_names slots i x y at e)

-- the muted events of one instance are written
pub remuted : (old : Slots) (id : InstanceId) (Step : List EventId → List EventId → Type 0) (x : Instance) (m : Vec EventId Global) → At old id x
    → vec_capacity m ≡ vec_capacity x.muted → Step x.muted.items m.items → Remutes old (set old id.0 (Some (record x { muted = m }))) id Step
remuted old id Step x m at capacity step =
    let y : Instance = record x { muted = m } in
    let now : At (set old id.0 (Some y)) id y = get_or-set_same old id.0 (Some y) None (slot_within old id.0 x at) in
    record {
      names = remuted_names old id.0 x y at refl;
      others = λ i ne. get_or-set_other old id.0 i.0 (Some y) None (λ e. ne (same_id i id e));
      this = λ z at_z.
          let same : x ≡ z = one_at old id x z at at_z in (
            m,
            subst (λ (w : Instance). At (set old id.0 (Some y)) id (record w { muted = m })) same now,
            subst (λ (w : Instance). vec_capacity m ≡ vec_capacity w.muted) same capacity,
            subst (λ (w : Instance). Step w.muted.items m.items) same step,
          );
    }

pub remuted_none : (old : Slots) (id : InstanceId) (Step : List EventId → List EventId → Type 0) → slot old id.0 ≡ None → Remutes old old id Step
remuted_none old id Step none = record {
  names = refl;
  others = λ i ne. refl;
  this = λ x is. let e : None ≡ Some x = sym none ∙ is in absurd (cc);
}

-- where an event of the class is not muted, there is capacity for it
pub capacity_to_mute : (t : Tables) (x : Instance) → FitsMutes t (head_of x) → (e : EventId) → HasEvent t x.class e → ¬ Contains x.muted.items e
    → length x.muted.items < vec_capacity x.muted
capacity_to_mute t x fits e has none =
    let listed : List ℕ = map (λ (d : EventId). d.0) fits.events in
    let more : List EventId = x.muted.items ++ e ∷ [] in
    let all : All (HasEvent t x.class) more = λ k d lt. of_class _ (Contains-get_or more k d lt) in
    let few : length listed ≤ length fits.events = omega (arith, length-map fits.events (λ (d : EventId). d.0)) in
    let count = at_most_listed (HasEvent t x.class) (length fits.events) listed (λ d h. (fits.are.exactly d.0).1 h) few more (once_more x.muted.items e fits.once none) all in
    let longer : length more ≡ length x.muted.items + 1 = length-append x.muted.items (e ∷ []) in
    let spare = fits.spare in
    omega arith
  where
    of_class : (d : EventId) → Contains (x.muted.items ++ e ∷ []) d → HasEvent t x.class d
    of_class d h = elim (Contains-push_cases x.muted.items e d h) [ inl was ↦ fits.of_class d was | inr is ↦ subst (HasEvent t x.class) is has ]

module _ (tables : Tables) (old new : Slots) (entries : Entries) (capacity : ℕ) (id : InstanceId) (x : Instance) (at : At old id x)
    (Step : List EventId → List EventId → Type 0) (w : Remutes old new id Step) (sound : IsNetOf tables old entries capacity) where
  abbrev m : Vec EventId Global
  m = (w.this x at).0

  abbrev y : Instance
  y = record x { muted = m }

  now_at : At new id y
  now_at = (w.this x at).1

  -- two instances are one but for their mutes
  abbrev Alike : Instance → Instance → Type 0
  Alike a b = (a.name ≡ b.name) × (a.class ≡ b.class) × (a.links ≡ b.links)

  was : (i : InstanceId) (z : Instance) → At new i z → (v : Instance) × At old i v × Alike z v
  was i z is = elim (decide_id i id) [
    | inl e ↦
        let same : y ≡ z = one_at new id y z now_at (subst (λ k. At new k z) e is) in
        (x, subst (λ k. At old k x) (sym e) at, subst (λ a. Alike a x) same (refl, refl, refl))
    | inr ne ↦ (z, sym (w.others i ne) ∙ is, (refl, refl, refl))
  ]

  still : (i : InstanceId) (v : Instance) → At old i v → (z : Instance) × At new i z × Alike z v
  still i v is = elim (decide_id i id) [
    | inl e ↦
        let same : x ≡ v = one_at old id x v at (subst (λ k. At old k v) e is) in
        (y, subst (λ k. At new k y) (sym e) now_at, subst (λ a. Alike y a) same (refl, refl, refl))
    | inr ne ↦ (v, w.others i ne ∙ is, (refl, refl, refl))
  ]

  named_was : (i : InstanceId) (name : List ℕ) → NamedAt new i name → NamedAt old i name
  named_was i name (z, is, z_is) = let v = was i z is in (v.0, v.1, sym v.2.0 ∙ z_is)

  named_still : (i : InstanceId) (name : List ℕ) → NamedAt old i name → NamedAt new i name
  named_still i name (v, is, v_is) = let z = still i v is in (z.0, z.1, z.2.0 ∙ v_is)

  lists_were : (i : InstanceId) (r : RelId) (j : InstanceId) → ListsInstance new i r j → ListsInstance old i r j
  lists_were i r j l =
      let v = was i l.lister l.is in
      record { lister = v.0; is = v.1; listed = subst (λ (k : Links). Contains (row_of k.rows.items r) j) v.2.2 l.listed }

  lists_stay : (i : InstanceId) (r : RelId) (j : InstanceId) → ListsInstance old i r j → ListsInstance new i r j
  lists_stay i r j l =
      let z = still i l.lister l.is in
      record { lister = z.0; is = z.1; listed = subst (λ (k : Links). Contains (row_of k.rows.items r) j) (sym z.2.2) l.listed }

  pub remuted_sound : FitsMutes tables (head_of y) → IsNetOf tables new entries capacity
  remuted_sound fits = record {
    typed = sound.typed;
    indexed = record {
      listed = λ i z is. let v = was i z is in ap (place_of entries) v.2.0 ∙ sound.indexed.listed i v.0 v.1;
      live = λ name i is. named_still i name (sound.indexed.live name i is);
    };
    below = λ i z is. let v = was i z is in sound.below i v.0 v.1;
    both_ways = λ i r j l. let turn = sound.both_ways i r j (lists_were i r j l) in (turn.0, lists_stay j (inverse_of tables r) i turn.1);
    tidy = λ i z is. let v = was i z is in subst (λ (k : Links). IsTidy k.rows.items) (sym v.2.2) (sound.tidy i v.0 v.1);
    mutes = λ i z is. elim (decide_id i id) [
      | inl e ↦ subst (λ a. FitsMutes tables (head_of a)) (one_at new id y z now_at (subst (λ k. At new k z) e is)) fits
      | inr ne ↦ sound.mutes i z (sym (w.others i ne) ∙ is)
    ];
  }

  remuted_shows : (t : Topology) (mutes : fin_set.FinSet node_cmp) → Shows old t
      → ((n : NodeName) → IsMuted (record t { mutes = mutes }) n ↔ HoldsMute t.model new n) → Shows new (record t { mutes = mutes })
  remuted_shows t mutes shows holds = record {
    instances = λ name c. (
      λ h.
          let g = (shows.instances name c).0 h in
          let z = still g.at g.instance g.is in
          record { at = g.at; instance = z.0; is = z.1; named = z.2.0 ∙ g.named; of_class = z.2.1 ∙ g.of_class },
      λ g.
          let v = was g.at g.instance g.is in
          (shows.instances name c).1 (record { at = g.at; instance = v.0; is = v.1; named = sym v.2.0 ∙ g.named; of_class = sym v.2.1 ∙ g.of_class }),
    );
    links = λ a r b. (
      λ h.
          let g = (shows.links a r b).0 h in
          record { from = g.from; to = g.to; from_is = named_still g.from a g.from_is; to_is = named_still g.to b g.to_is; lists = lists_stay g.from r g.to g.lists },
      λ g. (shows.links a r b).1 (record { from = g.from; to = g.to; from_is = named_was g.from a g.from_is; to_is = named_was g.to b g.to_is; lists = lists_were g.from r g.to g.lists }),
    );
    mutes = holds;
  }

  remuted_net : (next : ℕ) (mutes : fin_set.FinSet node_cmp) → FitsMutes tables (head_of y)
      → ((n : NodeName) → IsMuted (record (topology_of_slots tables old) { mutes = mutes }) n ↔ HoldsMute tables new n)
      → seen tables new capacity next ≡ record (seen tables old capacity next) { topology = record (topology_of_slots tables old) { mutes = mutes } }
  remuted_net next mutes fits holds =
      let t : Topology = topology_of_slots tables old in
      let u : Topology = record t { mutes = mutes } in
      let same : topology_of_slots tables new ≡ u = shown_once new (topology_of_slots tables new) u refl (shown_of tables new entries capacity (remuted_sound fits)) (remuted_shows t mutes (shown_of tables old entries capacity sound) holds) in
      λ i. record { topology = same i; names = w.names i; capacity = capacity; next = next }

  -- the node of an event at the instance
  abbrev node : EventId → NodeName
  node e = node_name_of (event_name tables e) x.name

  node_is : (next : ℕ) (e : EventId) → node_at (seen tables old capacity next) id e ≡ node e
  node_is next e = ap (node_name_of (event_name tables e)) (ap name_or (at_seen old id x.name (x, at, refl)))

  -- a mute is at this instance, or where nothing changed
  mute_now : (n : NodeName) → HoldsMute tables new n → ((e : EventId) × Contains m.items e × (node e ≡ n)) ⊎ ((h : HoldsMute tables old n) × (h.at ≢ id))
  mute_now n h = elim (decide_id h.at id) [
    | inl e ↦
        let same : y ≡ h.instance = one_at new id y h.instance now_at (subst (λ k. At new k h.instance) e h.is) in
        let name : x.name ≡ n.instance = ap (λ (z : Instance). z.name) same ∙ h.named in
        inl (h.event, subst (λ (z : Instance). Contains z.muted.items h.event) (sym same) h.muted, λ i. record { event = h.event_named i; instance = name i })
    | inr ne ↦ inr (record { at = h.at; instance = h.instance; event = h.event; is = sym (w.others h.at ne) ∙ h.is; named = h.named; muted = h.muted; event_named = h.event_named }, ne)
  ]

  mute_was : (n : NodeName) → HoldsMute tables old n → ((e : EventId) × Contains x.muted.items e × (node e ≡ n)) ⊎ ((h : HoldsMute tables new n) × (h.at ≢ id))
  mute_was n h = elim (decide_id h.at id) [
    | inl e ↦
        let same : x ≡ h.instance = one_at old id x h.instance at (subst (λ k. At old k h.instance) e h.is) in
        let name : x.name ≡ n.instance = ap (λ (z : Instance). z.name) same ∙ h.named in
        inl (h.event, subst (λ (z : Instance). Contains z.muted.items h.event) (sym same) h.muted, λ i. record { event = h.event_named i; instance = name i })
    | inr ne ↦ inr (record { at = h.at; instance = h.instance; event = h.event; is = w.others h.at ne ∙ h.is; named = h.named; muted = h.muted; event_named = h.event_named }, ne)
  ]

  here_now : (e : EventId) (n : NodeName) → Contains m.items e → node e ≡ n → HoldsMute tables new n
  here_now e n has is = record { at = id; instance = y; event = e; is = now_at; named = ap (λ (k : NodeName). k.instance) is; muted = has; event_named = ap (λ (k : NodeName). k.event) is }

  here_before : (e : EventId) (n : NodeName) → Contains x.muted.items e → node e ≡ n → HoldsMute tables old n
  here_before e n has is = record { at = id; instance = x; event = e; is = at; named = ap (λ (k : NodeName). k.instance) is; muted = has; event_named = ap (λ (k : NodeName). k.event) is }

  -- a node of another instance is another node
  elsewhere : (e : EventId) (n : NodeName) (h : HoldsMute tables old n) → h.at ≢ id → n ≢ node e
  elsewhere e n h ne is =
      let name : h.instance.name ≡ x.name = h.named ∙ ap (λ (k : NodeName). k.instance) is in
      ne (own_names old entries sound.indexed h.at id x.name (h.instance, h.is, name) (x, at, refl))

  kept_capacity : vec_capacity m ≡ vec_capacity x.muted
  kept_capacity = (w.this x at).2

  step : Step x.muted.items m.items
  step = (w.this x at).3

  -- an event is muted at the instance where its node is
  pub muted_here : (e : EventId) → HasEvent tables x.class e → Contains x.muted.items e ↔ IsMuted (topology_of_slots tables old) (node e)
  muted_here e has = (
    λ in_x. ((shown_of tables old entries capacity sound).mutes (node e)).1 (here_before e (node e) in_x refl),
    λ is. elim (mute_was (node e) (((shown_of tables old entries capacity sound).mutes (node e)).0 is)) [
      | inl found ↦
          let of_class = (sound.mutes id x at).of_class found.0 found.1 in
          let same = event_reported tables sound.typed x.class found.0 e of_class has (ap (λ (k : NodeName). k.event) found.2) in
          subst (Contains x.muted.items) same found.1
      | inr other ↦ absurd (elsewhere_old e other.0 other.1)
    ],
  )
    where
      elsewhere_old : (e : EventId) (h : HoldsMute tables new (node e)) → h.at ≢ id → ⊥
      elsewhere_old e h ne =
          let name = named_was h.at x.name (h.instance, h.is, h.named) in
          ne (own_names old entries sound.indexed h.at id x.name name (x, at, refl))

-- one event more
module _ (tables : Tables) (old new : Slots) (entries : Entries) (capacity : ℕ) (id : InstanceId) (x : Instance) (at : At old id x) (e : EventId)
    (has : HasEvent tables x.class e) (w : Remutes old new id (Gains e)) (sound : IsNetOf tables old entries capacity) where
  gain_fits : ¬ Contains x.muted.items e → FitsMutes tables (head_of (record x { muted = (w.this x at).0 }))
  gain_fits none =
      let fits = sound.mutes id x at in
      let t = w.this x at in
      record {
        events = fits.events;
        are = fits.are;
        spare = let r = fits.spare in let same = t.2 in omega arith;
        of_class = λ d in_m. elim (Contains-push_cases x.muted.items e d (subst (λ es. Contains es d) t.3 in_m)) [ inl in_x ↦ fits.of_class d in_x | inr is ↦ subst (HasEvent tables x.class) is has ];
        once = subst Once (sym t.3) (once_more x.muted.items e fits.once none);
      }

  gain_holds : (n : NodeName) → IsMuted (with_mute (topology_of_slots tables old) (node_name_of (event_name tables e) x.name)) n ↔ HoldsMute tables new n
  gain_holds n =
      let t = topology_of_slots tables old in
      let shows = (shown_of tables old entries capacity sound).mutes n in
      let is = in_insert node_cmp_total node_cmp_exact t.mutes (node_name_of (event_name tables e) x.name) n in
      let more = (w.this x at).3 in (
        λ h. elim (is.0 h) [
          | inl here ↦ here_now tables old new entries capacity id x at (Gains e) w sound e n (subst (λ es. Contains es e) (sym more) (Contains-push x.muted.items e)) (sym here)
          | inr before ↦ elim (mute_was tables old new entries capacity id x at (Gains e) w sound n (shows.0 before)) [
            | inl found ↦ here_now tables old new entries capacity id x at (Gains e) w sound found.0 n (subst (λ es. Contains es found.0) (sym more) (Contains-append_left x.muted.items (e ∷ []) found.0 found.1)) found.2
            | inr other ↦ other.0
          ]
        ],
        λ g. is.1 (elim (mute_now tables old new entries capacity id x at (Gains e) w sound n g) [
          | inl found ↦ elim (Contains-push_cases x.muted.items e found.0 (subst (λ es. Contains es found.0) more found.1)) [
            | inl in_x ↦ inr (shows.1 (here_before tables old new entries capacity id x at (Gains e) w sound found.0 n in_x found.2))
            | inr same ↦ inl (sym found.2 ∙ ap (λ d. node_name_of (event_name tables d) x.name) (sym same))
          ]
          | inr other ↦ inr (shows.1 other.0)
        ]),
      )

  pub gained_sound : ¬ Contains x.muted.items e → IsNetOf tables new entries capacity
  gained_sound none = remuted_sound tables old new entries capacity id x at (Gains e) w sound (gain_fits none)

  pub gained_net : (next : ℕ) → ¬ Contains x.muted.items e → seen tables new capacity next ≡ muted (seen tables old capacity next) id e
  gained_net next none =
      let n : Net = seen tables old capacity next in
      let t = topology_of_slots tables old in
      remuted_net tables old new entries capacity id x at (Gains e) w sound next (with_mute t (node_name_of (event_name tables e) x.name)).mutes (gain_fits none) gain_holds
      ∙ ap (λ k. record n { topology = with_mute t k }) (sym (node_is tables old new entries capacity id x at (Gains e) w sound next e))

-- one event less
module _ (tables : Tables) (old new : Slots) (entries : Entries) (capacity : ℕ) (id : InstanceId) (x : Instance) (at : At old id x) (e : EventId)
    (has : HasEvent tables x.class e) (w : Remutes old new id (Loses e)) (sound : IsNetOf tables old entries capacity) where
  loss_fits : FitsMutes tables (head_of (record x { muted = (w.this x at).0 }))
  loss_fits =
      let fits = sound.mutes id x at in
      let t = w.this x at in
      record {
        events = fits.events;
        are = fits.are;
        spare = let r = fits.spare in let same = t.2 in omega arith;
        of_class = λ d in_m. fits.of_class d ((t.3.others d (λ is. t.3.gone fits.once (subst (Contains t.0.items) is in_m))).0 in_m);
        once = t.3.once fits.once;
      }

  loss_holds : (n : NodeName) → IsMuted (without_mute (topology_of_slots tables old) (node_name_of (event_name tables e) x.name)) n ↔ HoldsMute tables new n
  loss_holds n =
      let t = topology_of_slots tables old in
      let fits = sound.mutes id x at in
      let shows = (shown_of tables old entries capacity sound).mutes n in
      let is = in_remove node_cmp_total node_cmp_exact t.mutes (node_name_of (event_name tables e) x.name) n in
      let loses = (w.this x at).3 in (
        λ h.
            let k = is.0 h in
            elim (mute_was tables old new entries capacity id x at (Loses e) w sound n (shows.0 k.1)) [
              | inl found ↦
                  let other : found.0 ≢ e = λ same. k.0 (sym found.2 ∙ ap (λ d. node_name_of (event_name tables d) x.name) same) in
                  here_now tables old new entries capacity id x at (Loses e) w sound found.0 n ((loses.others found.0 other).1 found.1) found.2
              | inr other ↦ other.0
            ],
        λ g. is.1 (elim (mute_now tables old new entries capacity id x at (Loses e) w sound n g) [
          | inl found ↦
              let other : found.0 ≢ e = λ same. loses.gone fits.once (subst (Contains (w.this x at).0.items) same found.1) in
              let in_x = (loses.others found.0 other).0 found.1 in
              let differs : n ≢ node_name_of (event_name tables e) x.name = λ same.
              other (event_reported tables sound.typed x.class found.0 e (fits.of_class found.0 in_x) has (ap (λ (k : NodeName). k.event) (found.2 ∙ same))) in
              (differs, shows.1 (here_before tables old new entries capacity id x at (Loses e) w sound found.0 n in_x found.2))
          | inr other ↦ (elsewhere tables old new entries capacity id x at (Loses e) w sound e n other.0 other.1, shows.1 other.0)
        ]),
      )

  pub lost_sound : IsNetOf tables new entries capacity
  lost_sound = remuted_sound tables old new entries capacity id x at (Loses e) w sound loss_fits

  pub lost_net : (next : ℕ) → seen tables new capacity next ≡ unmuted (seen tables old capacity next) id e
  lost_net next =
      let n : Net = seen tables old capacity next in
      let t = topology_of_slots tables old in
      remuted_net tables old new entries capacity id x at (Loses e) w sound next (without_mute t (node_name_of (event_name tables e) x.name)).mutes loss_fits loss_holds
      ∙ ap (λ k. record n { topology = without_mute t k }) (sym (node_is tables old new entries capacity id x at (Loses e) w sound next e))

-- nothing is muted anew
pub same_mutes : (slots : Slots) (id : InstanceId) → Remutes slots slots id (λ a b. b ≡ a)
same_mutes slots id = record { names = refl; others = λ i ne. refl; this = λ x is. (x.muted, is, refl, refl) }

module _ (tables : Tables) (slots : Slots) (entries : Entries) (capacity next : ℕ) (n : Net) (is : seen tables slots capacity next ≡ n) (id : InstanceId) (x : Instance) (at : At slots id x) (e : EventId)
    (sound : IsNetOf tables slots entries capacity) where
  -- the class of the instance has the event
  pub class_has : HasEventAt n id e → HasEvent tables x.class e
  class_has has =
      let h : HasEventAt (seen tables slots capacity next) id e = subst (λ (k : Net). HasEventAt k id e) (sym is) has in
      let name : name_at (seen tables slots capacity next) id ≡ x.name = ap name_or (at_seen slots id x.name (x, at, refl)) in
      let held = ((shown_of tables slots entries capacity sound).instances (name_at (seen tables slots capacity next) id) h.0).0 h.1 in
      let i = own_names slots entries sound.indexed held.at id x.name (held.instance, held.is, held.named ∙ name) (x, at, refl) in
      let same = one_at slots id held.instance x (subst (λ k. At slots k held.instance) i held.is) at in
      subst (λ c. HasEvent tables c e) (sym held.of_class ∙ ap (λ (z : Instance). z.class) same) h.2

  pub muted_at : HasEvent tables x.class e → Contains x.muted.items e ↔ IsMutedAt n id e
  muted_at has =
      let here = muted_here tables slots slots entries capacity id x at (λ a b. b ≡ a) (same_mutes slots id) sound e has in
      let node = node_is tables slots slots entries capacity id x at (λ a b. b ≡ a) (same_mutes slots id) sound next e in
      subst (λ (k : Net). Contains x.muted.items e ↔ IsMutedAt k id e) is (subst (λ k. Contains x.muted.items e ↔ IsMuted (topology_of_slots tables slots) k) (sym node) here)
