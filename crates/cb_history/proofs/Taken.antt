-- What takes an accepted edit back gives the topology before it.
use Rattle.std.proofs.Common.{◌≡◌, ◌≢◌, ◌↔◌, ℕ, List, [], ◌∷◌, ◌++◌, length, Bool, refl, sym, ap, subst, ◌∙◌, inl, inr, Ok, true, is_some}
use Rattle.std.specs.FinMap as map
use Rattle.std.specs.FinSet as set
use Rattle.std.specs.List.{Contains}
use Rattle.cb_text.specs.Names.{IsInstance}
use Rattle.cb_model.specs.declared.id.ClassId.{ClassId}
use Rattle.cb_model.specs.declared.id.RelId.{RelId}
use Rattle.cb_model.specs.declared.node.NodeName.{NodeName}
use Rattle.cb_model.proofs.Rising.{name_cmp_total, name_cmp_exact, node_cmp_total, node_cmp_exact, contains_cases, nothing_in_empty}
use Rattle.cb_network.specs.declared.edit.Edit.{Edit}
use Rattle.cb_network.specs.declared.edit.Edit.TheVariants.{Create, Delete, Link, Unlink, Mute, Unmute}
use Rattle.cb_network.specs.declared.edit.EditRefusal.{EditRefusal}
use Rattle.cb_network.specs.declared.edit.EditRefusal.TheVariants.{NoClass, Exists, NoInstance, NoRelation, WrongKind, Linked, Occupied, NotLinked, NoSymptom, AlreadyMuted, NotMuted, InstanceLimit, NodeLimit, ProblemLimit, SymptomLimit}
use Rattle.cb_network.specs.Topology.{Topology, Link as TheLink, IsLive, HasLink, IsMuted}
use Rattle.cb_network.specs.Nodes.{IsSymptomNode}
use Rattle.cb_network.specs.Sound.{Sound}
use Rattle.cb_network.specs.Regular.{IsRegular}
use Rattle.cb_network.specs.Edits.{with_instance, without_instance, with_link, without_link, with_mute, without_mute, link_of, node_name_of, NamesPair, IsRelationAt, Refuses, IsAfter}
use Rattle.cb_network.specs.Laws.{HasGoodName}
use Rattle.cb_network.proofs.Counts.{of_symptoms, symptoms_are, symptoms_finite, decide_at}
use Rattle.cb_network.proofs.Kept.{live_of}
use Rattle.cb_network.proofs.Links.{inverse_back}
use Rattle.cb_network.proofs.Sets.{link_cmp_total, link_cmp_exact, in_insert, in_remove, got_insert, decide_key}
use Rattle.cb_history.specs.Inverse.{AllMake, Rebuilds, Inverts, CreatesAgain, LinksAgain, MutesAgain}
use Rattle.cb_history.proofs.Same.{same_members, put_and_taken, taken_and_put, yes_or_no}
use Rattle.cb_history.proofs.Off.{off_created, same_without, without_absent}
use Rattle.cb_history.proofs.Parts.{one_relation, link_accepted, mute_accepted, bare, create_accepted}
use Rattle.cb_history.proofs.Relink.{relink, remute, links_after, mutes_after}
use Rattle.cb_history.proofs.Again.{Each, each_joined, each_of, live_is_deleted}

-- one edit alone
one_edit : (u t : Topology) (edit : Edit) → IsAfter u edit (Ok t) → AllMake u (edit ∷ []) t
one_edit u t edit after = (t, after, refl)

-- a Create is taken back by a Delete
created_back : (t : Topology) (name : List ℕ) (c : ClassId) → Sound t → ¬ IsLive t name → IsAfter (with_instance t name c) (Delete name) (Ok t)
created_back t name c sound dead =
    let u : Topology = with_instance t name c in
    let live : IsLive u name = ap is_some ((got_insert name_cmp_total name_cmp_exact t.instances name c name c).1 (inl (refl, refl))) in
    live_is_deleted u t name live (sym (same_without name u t (off_created name t c) ∙ without_absent name t sound dead))

module _ (t : Topology) (regular : IsRegular t.model) (sound : Sound t) where
  -- a Delete by what makes the instance again
  deleted_back : (name : List ℕ) (create : Edit) → CreatesAgain t name create → (edits : List Edit) → (b : Rebuilds t name edits)
      → AllMake (without_instance t name) (create ∷ (b.link_edits ++ b.mute_edits)) t
  deleted_back name (Delete n) again edits b = absurd again
  deleted_back name (Link x rel y) again edits b = absurd again
  deleted_back name (Unlink x rel y) again edits b = absurd again
  deleted_back name (Mute event n) again edits b = absurd again
  deleted_back name (Unmute event n) again edits b = absurd again
  deleted_back name (Create n class) (same, (c, of_c, named)) edits b =
      let u : Topology = without_instance t name in (
        bare t regular sound name class c of_c named,
        subst (λ z. IsAfter u (Create z class) (Ok (bare t regular sound name class c of_c named))) same (create_accepted t regular sound name class c of_c named),
        relink t regular sound u.links u.mutes b.links b.link_edits b.mute_edits t (links_after t regular sound name b.links b.are_links) b.link
            (remute t regular sound u.mutes b.nodes b.mute_edits (mutes_after t regular sound name b.nodes b.are_mutes) b.mute),
      )

  module _ (a rel b : List ℕ) (r s : RelId) (names : NamesPair t a rel r s) where
    -- a Link by an Unlink
    module _ (absent : ¬ HasLink t a r b) (live_a : IsLive t a) (live_b : IsLive t b) where
      abbrev linked : Topology
      linked = with_link t a r s b

      back_absent : ¬ HasLink t b s a
      back_absent has = absent (sound.both_ways b s r a has (inverse_back t.model regular r s names.inverse))

      here : HasLink linked a r b
      here = (in_insert link_cmp_total link_cmp_exact (set.insert t.links (link_of a r b)) (link_of b s a) (link_of a r b)).1
          (inr ((in_insert link_cmp_total link_cmp_exact t.links (link_of a r b) (link_of a r b)).1 (inl refl)))

      at_linked : IsRelationAt linked a rel r
      at_linked = record { class = names.at_a.class; of_class = names.at_a.of_class; named = names.at_a.named }

      unlink_not_refused : (why : EditRefusal) → ¬ Refuses linked (Unlink a rel b) why
      unlink_not_refused NoClass h = h
      unlink_not_refused Exists h = h
      unlink_not_refused NoInstance h = h (live_a, live_b)
      unlink_not_refused NoRelation h = h (r, at_linked)
      unlink_not_refused WrongKind h = h
      unlink_not_refused Linked h = h
      unlink_not_refused Occupied h = h
      unlink_not_refused NotLinked h = h (r, at_linked, here)
      unlink_not_refused NoSymptom h = h
      unlink_not_refused AlreadyMuted h = h
      unlink_not_refused NotMuted h = h
      unlink_not_refused InstanceLimit h = h
      unlink_not_refused NodeLimit h = h
      unlink_not_refused ProblemLimit h = h
      unlink_not_refused SymptomLimit h = h

      links_as_before : (without_link linked a r s b).links ≡ t.links
      links_as_before = same_members link_cmp_total link_cmp_exact _ _ (λ x.
          let outer' = in_remove link_cmp_total link_cmp_exact (set.remove linked.links (link_of a r b)) (link_of b s a) x in
          let inner' = in_remove link_cmp_total link_cmp_exact linked.links (link_of a r b) x in
          let outer = in_insert link_cmp_total link_cmp_exact (set.insert t.links (link_of a r b)) (link_of b s a) x in
          let inner = in_insert link_cmp_total link_cmp_exact t.links (link_of a r b) x in (
            λ h. let (not_back, h') = outer'.0 h in let (not_link, old) = inner'.0 h' in elim (outer.0 old) [
              | inl e ↦ absurd (not_back e)
              | inr old' ↦ elim (inner.0 old') [ inl e ↦ absurd (not_link e) | inr stood ↦ stood ]
            ],
            λ h. outer'.1 (
              λ e. back_absent (subst (λ z. set.contains t.links z ≡ true) e h),
              inner'.1 (λ e. absent (subst (λ z. set.contains t.links z ≡ true) e h), outer.1 (inr (inner.1 (inr h)))),
            ),
          ))

      linked_back : IsAfter linked (Unlink a rel b) (Ok t)
      linked_back = (
        unlink_not_refused,
        (r, s, record { at_a = at_linked; inverse = names.inverse }, ap (λ ls. record t { links = ls }) (sym links_as_before)),
      )

    -- an Unlink by a Link
    module _ (stood : HasLink t a r b) where
      abbrev unlinked : Topology
      unlinked = without_link t a r s b

      back_stood : HasLink t b s a
      back_stood = sound.both_ways a r s b stood names.inverse

      left : (x : TheLink) → (set.contains unlinked.links x ≡ true) ↔ ((x ≢ link_of b s a) × (x ≢ link_of a r b) × (set.contains t.links x ≡ true))
      left x =
          let outer = in_remove link_cmp_total link_cmp_exact (set.remove t.links (link_of a r b)) (link_of b s a) x in
          let inner = in_remove link_cmp_total link_cmp_exact t.links (link_of a r b) x in (
            λ h. let (not_back, h') = outer.0 h in let (not_link, old) = inner.0 h' in (not_back, not_link, old),
            λ (not_back, not_link, old). outer.1 (not_back, inner.1 (not_link, old)),
          )

      links_again : (with_link unlinked a r s b).links ≡ t.links
      links_again = same_members link_cmp_total link_cmp_exact _ _ (λ x.
          let outer = in_insert link_cmp_total link_cmp_exact (set.insert unlinked.links (link_of a r b)) (link_of b s a) x in
          let inner = in_insert link_cmp_total link_cmp_exact unlinked.links (link_of a r b) x in (
            λ h. elim (outer.0 h) [
              | inl e ↦ subst (λ z. set.contains t.links z ≡ true) (sym e) back_stood
              | inr h' ↦ elim (inner.0 h') [
                | inl e ↦ subst (λ z. set.contains t.links z ≡ true) (sym e) stood
                | inr old ↦ ((left x).0 old).2
              ]
            ],
            λ h. outer.1 (elim (decide_key link_cmp_total link_cmp_exact x (link_of b s a)) [
              | inl e ↦ inl e
              | inr not_back ↦ inr (inner.1 (elim (decide_key link_cmp_total link_cmp_exact x (link_of a r b)) [
                | inl e ↦ inl e
                | inr not_link ↦ inr ((left x).1 (not_back, not_link, h))
              ]))
            ]),
          ))

      unlinked_back : IsAfter unlinked (Link a rel b) (Ok t)
      unlinked_back =
          subst (λ z. IsAfter unlinked (Link a rel b) (Ok z)) (ap (λ ls. record t { links = ls }) links_again)
          (link_accepted t regular sound unlinked.links t.mutes (λ x q y h. ((left (link_of x q y)).0 h).2) a rel b r s names stood
          (λ h. ((left (link_of a r b)).0 h).1 refl) (λ h. ((left (link_of b s a)).0 h).0 refl))

  -- a Mute by an Unmute
  muted_back : (event name : List ℕ) → IsSymptomNode t (node_name_of event name) → ¬ IsMuted t (node_name_of event name)
      → IsAfter (with_mute t (node_name_of event name)) (Unmute event name) (Ok t)
  muted_back event name symptom unheard = (not_refused, ap (λ ms. record t { mutes = ms }) (sym (put_and_taken node_cmp_total node_cmp_exact t.mutes (node_name_of event name) unheard)))
    where
      not_refused : (why : EditRefusal) → ¬ Refuses (with_mute t (node_name_of event name)) (Unmute event name) why
      not_refused NoClass h = h
      not_refused Exists h = h
      not_refused NoInstance h = h (live_of (with_mute t (node_name_of event name)) name symptom.class symptom.of_class)
      not_refused NoRelation h = h
      not_refused WrongKind h = h
      not_refused Linked h = h
      not_refused Occupied h = h
      not_refused NotLinked h = h
      not_refused NoSymptom h = h (record { class = symptom.class; of_class = symptom.of_class; event = symptom.event; symptom = symptom.symptom; named = symptom.named })
      not_refused AlreadyMuted h = h
      not_refused NotMuted h = h ((in_insert node_cmp_total node_cmp_exact t.mutes (node_name_of event name) (node_name_of event name)).1 (inl refl))
      not_refused InstanceLimit h = h
      not_refused NodeLimit h = h
      not_refused ProblemLimit h = h
      not_refused SymptomLimit h = h

  -- an Unmute by a Mute
  unmuted_back : (event name : List ℕ) → IsMuted t (node_name_of event name) → IsAfter (without_mute t (node_name_of event name)) (Mute event name) (Ok t)
  unmuted_back event name muted =
      let n : NodeName = node_name_of event name in
      let u : Topology = without_mute t n in
      subst (λ ms. IsAfter u (Mute event name) (Ok (record t { mutes = ms }))) (taken_and_put node_cmp_total node_cmp_exact t.mutes n muted)
      (mute_accepted t regular sound t.links u.mutes event name muted (λ h. ((in_remove node_cmp_total node_cmp_exact t.mutes n n).0 h).0 refl))

-- what is not false of a truth value holds
twice : (b : Bool) → ¬ ¬ (b ≡ true) → b ≡ true
twice b h = elim (yes_or_no b) [ inl e ↦ e | inr ne ↦ absurd (h ne) ]

pub inverse_takes_back : (t u : Topology) (edit : Edit) (edits : List Edit) → IsRegular t.model → Sound t → IsAfter t edit (Ok u)
    → Inverts t edit edits → AllMake u edits t
inverse_takes_back t u (Create name class) edits regular sound (accepted, (c, named, is)) inverts =
    subst (λ es. AllMake u es t) (sym inverts) (one_edit u t (Delete name)
    (subst (λ z. IsAfter z (Delete name) (Ok t)) (sym is) (created_back t name c sound (λ live. accepted Exists live))))
inverse_takes_back t u (Delete name) edits regular sound (accepted, is) b =
    subst (λ es. AllMake u es t) (sym b.is) (subst (λ z. AllMake z (b.create ∷ (b.link_edits ++ b.mute_edits)) t) (sym is)
    (deleted_back t regular sound name b.create b.creates edits b))
inverse_takes_back t u (Link x rel y) edits regular sound (accepted, (r, s, names, is)) inverts =
    let live : (IsLive t x) × (IsLive t y) = (
      live_of t x names.at_a.class names.at_a.of_class,
      twice (map.contains_key t.instances y) (λ dead. accepted NoInstance (λ both. dead both.1)),
    ) in
    subst (λ es. AllMake u es t) (sym inverts) (one_edit u t (Unlink x rel y)
    (subst (λ z. IsAfter z (Unlink x rel y) (Ok t)) (sym is)
    (linked_back t regular sound x rel y r s names (λ has. accepted Linked (r, names.at_a, has)) live.0 live.1)))
inverse_takes_back t u (Unlink x rel y) edits regular sound (accepted, (r, s, names, is)) inverts =
    let stood : HasLink t x r y = twice (set.contains t.links (link_of x r y)) (λ gone. accepted NotLinked (λ (r', at_x, has).
    gone (subst (λ k. HasLink t x k y) (one_relation t regular x rel r' r at_x names.at_a) has))) in
    subst (λ es. AllMake u es t) (sym inverts) (one_edit u t (Link x rel y)
    (subst (λ z. IsAfter z (Link x rel y) (Ok t)) (sym is) (unlinked_back t regular sound x rel y r s names stood)))
inverse_takes_back t u (Mute event name) edits regular sound (accepted, is) inverts =
    subst (λ es. AllMake u es t) (sym inverts) (one_edit u t (Unmute event name)
    (subst (λ z. IsAfter z (Unmute event name) (Ok t)) (sym is) (muted_back t regular sound event name (symptom_of (node_name_of event name) (accepted NoSymptom)) (accepted AlreadyMuted))))
  where
    symptom_of : (n : NodeName) → ¬ ¬ IsSymptomNode t n → IsSymptomNode t n
    symptom_of n not_false = elim (decide_at (of_symptoms t.model) (length t.model.events) (symptoms_finite t.model regular) t n) [
      | inl at ↦ (symptoms_are t n).1 at
      | inr none ↦ absurd (not_false (λ s. none ((symptoms_are t n).0 s)))
    ]
inverse_takes_back t u (Unmute event name) edits regular sound (accepted, is) inverts =
    subst (λ es. AllMake u es t) (sym inverts) (one_edit u t (Mute event name)
    (subst (λ z. IsAfter z (Mute event name) (Ok t)) (sym is) (unmuted_back t regular sound event name
    (twice (set.contains t.mutes (node_name_of event name)) (λ gone. accepted NotMuted gone)))))

good_create : (t : Topology) (name : List ℕ) (edit : Edit) → Sound t → IsLive t name → CreatesAgain t name edit → HasGoodName edit
good_create t name (Create n class) sound live (same, _) = subst IsInstance same (sound.names name live)
good_create t name (Delete n) sound live again = tt
good_create t name (Link a rel b) sound live again = tt
good_create t name (Unlink a rel b) sound live again = tt
good_create t name (Mute event n) sound live again = tt
good_create t name (Unmute event n) sound live again = tt

good_link : (t : Topology) (l : TheLink) (edit : Edit) → LinksAgain t l edit → HasGoodName edit
good_link t l (Create n class) again = absurd again
good_link t l (Delete n) again = tt
good_link t l (Link a rel b) again = tt
good_link t l (Unlink a rel b) again = tt
good_link t l (Mute event n) again = tt
good_link t l (Unmute event n) again = tt

good_mute : (n : NodeName) (edit : Edit) → MutesAgain n edit → HasGoodName edit
good_mute n (Create m class) again = absurd again
good_mute n (Delete m) again = tt
good_mute n (Link a rel b) again = tt
good_mute n (Unlink a rel b) again = tt
good_mute n (Mute event m) again = tt
good_mute n (Unmute event m) again = tt

each_is : (P : Edit → Type 0) (edits : List Edit) → Each P edits → (one : Edit) → Contains edits one → P one
each_is P [] each one c = absurd (nothing_in_empty one c)
each_is P (edit ∷ edits) each one c = elim (contains_cases edit edits one c) [
  | inl e ↦ subst P e each.0
  | inr later ↦ each_is P edits each.1 one later
]

pub inverse_is_good_named : (t u : Topology) (edit : Edit) (edits : List Edit) → Sound t → IsAfter t edit (Ok u) → Inverts t edit edits
    → (one : Edit) → Contains edits one → HasGoodName one
inverse_is_good_named t u (Create name class) edits sound after inverts one c = each_is HasGoodName edits (subst (Each HasGoodName) (sym inverts) (tt, tt)) one c
inverse_is_good_named t u (Delete name) edits sound (accepted, is) b one c =
    let live : IsLive t name = twice (map.contains_key t.instances name) (λ dead. accepted NoInstance dead) in
    let all : Each HasGoodName (b.create ∷ (b.link_edits ++ b.mute_edits)) = (
      good_create t name b.create sound live b.creates,
      each_joined HasGoodName b.link_edits b.mute_edits
          (each_of (LinksAgain t) HasGoodName b.links b.link_edits (λ l e _ again. good_link t l e again) b.link)
          (each_of MutesAgain HasGoodName b.nodes b.mute_edits (λ n e _ again. good_mute n e again) b.mute),
    ) in
    each_is HasGoodName edits (subst (Each HasGoodName) (sym b.is) all) one c
inverse_is_good_named t u (Link x rel y) edits sound after inverts one c = each_is HasGoodName edits (subst (Each HasGoodName) (sym inverts) (tt, tt)) one c
inverse_is_good_named t u (Unlink x rel y) edits sound after inverts one c = each_is HasGoodName edits (subst (Each HasGoodName) (sym inverts) (tt, tt)) one c
inverse_is_good_named t u (Mute event name) edits sound after inverts one c = each_is HasGoodName edits (subst (Each HasGoodName) (sym inverts) (tt, tt)) one c
inverse_is_good_named t u (Unmute event name) edits sound after inverts one c = each_is HasGoodName edits (subst (Each HasGoodName) (sym inverts) (tt, tt)) one c
