-- Edits of a topology that has all instances of another, and some of its links and mutes.
use Rattle.std.proofs.Common.{◌≡◌, ◌⊎◌, ◌↔◌, ℕ, ◌<◌, List, refl, sym, ap, subst, ◌∙◌, inl, inr, arith, Some, Ok}
use Rattle.std.specs.List.{slice_get}
use Rattle.std.specs.FinMap as map
use Rattle.std.specs.FinSet as set
use Rattle.cb_model.specs.declared.id.ClassId.{ClassId}
use Rattle.cb_model.specs.declared.id.RelId.{RelId}
use Rattle.cb_model.specs.declared.node.NodeName.{NodeName}
use Rattle.cb_model.specs.declared.tables.RelRow.{RelRow}
use Rattle.cb_model.specs.NodeOrder.{node_cmp}
use Rattle.cb_model.specs.Classes.{NamesClass, NamesRelation, IsA}
use Rattle.cb_model.proofs.Rising.{name_cmp_total, name_cmp_exact}
use Rattle.cb_network.specs.declared.edit.Edit.TheVariants.{Create, Link, Mute}
use Rattle.cb_network.specs.declared.edit.EditRefusal.{EditRefusal}
use Rattle.cb_network.specs.declared.edit.EditRefusal.TheVariants.{NoClass, Exists, NoInstance, NoRelation, WrongKind, Linked, Occupied, NotLinked, NoSymptom, AlreadyMuted, NotMuted, InstanceLimit, NodeLimit, ProblemLimit, SymptomLimit}
use Rattle.cb_network.specs.Topology.{Topology, link_cmp, HasClass, HasLink, IsMuted}
use Rattle.cb_network.specs.Nodes.{IsNodeOf, IsProblem, IsSymptomNode, IsCountWithin, IsBeyond}
use Rattle.cb_network.specs.Sound.{Sound, FitsLink, IsInverse, IsToOne, instance_limit, node_limit, problem_limit, symptom_limit}
use Rattle.cb_network.specs.Regular.{IsRegular}
use Rattle.cb_network.specs.Edits.{with_instance, without_instance, with_link, with_mute, node_name_of, NamesPair, IsRelationAt, Changes, Refuses, IsAfter, IsOneUsedUp}
use Rattle.cb_network.proofs.Counts.{IsAt, Kind, of_nodes, of_problems, of_symptoms, nodes_are, problems_are, symptoms_are, same_beyond, turned, count_is_one}
use Rattle.cb_network.proofs.Kept.{class_of, live_of}
use Rattle.cb_network.proofs.Links.{one_inverse}
use Rattle.cb_network.proofs.Sets.{got_remove}
use Rattle.cb_history.proofs.Same.{put_back}

-- the topology with other links and mutes
abbrev pub part : Topology → set.FinSet link_cmp → set.FinSet node_cmp → Topology
part t links mutes = record t { links = links; mutes = mutes }

pub one_class : (t : Topology) (a : List ℕ) (c d : ClassId) → HasClass t a c → HasClass t a d → c ≡ d
one_class t a c d p q = let e : Some c ≡ Some d = sym p ∙ q in cc

module _ (t : Topology) (regular : IsRegular t.model) where
  -- an instance has one relation of a name, and that one inverse
  pub one_relation : (a name : List ℕ) (r r' : RelId) → IsRelationAt t a name r → IsRelationAt t a name r' → r ≡ r'
  one_relation a name r r' p q =
      let class : q.class ≡ p.class = one_class t a q.class p.class q.of_class p.of_class in
      regular.relations p.class name r r' p.named (subst (λ c. NamesRelation t.model c name r') class q.named)

  pub one_pair : (a name : List ℕ) (r s r' s' : RelId) → NamesPair t a name r s → NamesPair t a name r' s' → (r ≡ r') × (s ≡ s')
  one_pair a name r s r' s' p q =
      let same : r ≡ r' = one_relation a name r r' p.at_a q.at_a in
      (same, one_inverse t.model r' s s' (subst (λ k. IsInverse t.model k s) same p.inverse) q.inverse)

-- the relation of an instance in a part is that in the whole
pub relation_in : (t v : Topology) → v.model ≡ t.model → v.instances ≡ t.instances → (a name : List ℕ) (r : RelId) → IsRelationAt t a name r
    → IsRelationAt v a name r
relation_in t v model instances a name r p = record {
  class = p.class;
  of_class = subst (λ m. map.get m a ≡ Some p.class) (sym instances) p.of_class;
  named = subst (λ m. NamesRelation m p.class name r) (sym model) p.named;
}

module _ (t : Topology) (regular : IsRegular t.model) (sound : Sound t) (links : set.FinSet link_cmp) (mutes : set.FinSet node_cmp) where
  abbrev v : Topology
  v = part t links mutes

  from_part : (a name : List ℕ) (r : RelId) → IsRelationAt v a name r → IsRelationAt t a name r
  from_part a name r p = record { class = p.class; of_class = p.of_class; named = p.named }

  to_part : (a name : List ℕ) (r : RelId) → IsRelationAt t a name r → IsRelationAt v a name r
  to_part a name r p = record { class = p.class; of_class = p.of_class; named = p.named }

  module _ (sub : (x : List ℕ) (q : RelId) (y : List ℕ) → HasLink v x q y → HasLink t x q y)
      (a rel b : List ℕ) (r s : RelId) (names : NamesPair t a rel r s) (stood : HasLink t a r b)
      (gone : ¬ HasLink v a r b) (gone_back : ¬ HasLink v b s a) where
    fits : FitsLink t a r b
    fits = sound.fit a r b stood

    same_row : (x y : RelRow) → slice_get t.model.relations r.0 ≡ Some x → slice_get t.model.relations r.0 ≡ Some y → x ≡ y
    same_row x y p q = let e : Some x ≡ Some y = sym p ∙ q in cc

    -- the relation that the part has under the name
    the_relation : (r' : RelId) → IsRelationAt v a rel r' → r' ≡ r
    the_relation r' at_a = one_relation t regular a rel r' r (from_part a rel r' at_a) names.at_a

    right_kind : (r' : RelId) (at_a : IsRelationAt v a rel r') (class : ClassId) → HasClass v b class → IsA t.model class at_a.named.0.row.target
    right_kind r' at_a class b_is =
        let same = the_relation r' at_a in
        let row : fits.has.row ≡ at_a.named.0.row =
        same_row fits.has.row at_a.named.0.row fits.has.is (subst (λ (k : RelId). slice_get t.model.relations k.0 ≡ Some at_a.named.0.row) same at_a.named.0.is) in
        let here : fits.class_b ≡ class = one_class t b fits.class_b class fits.b_is b_is in
        subst (λ c. IsA t.model c at_a.named.0.row.target) here (subst (λ (x : RelRow). IsA t.model fits.class_b x.target) row fits.kind)

    free : (r' s' : RelId) → NamesPair v a rel r' s' → ¬ (IsOneUsedUp v a r' ⊎ IsOneUsedUp v b s')
    free r' s' pair taken =
        let one = one_pair t regular a rel r' s' r s (record { at_a = from_part a rel r' pair.at_a; inverse = pair.inverse }) names in
        elim taken [
          | inl (alone, (x, has)) ↦
              let has_r : HasLink v a r x = subst (λ k. HasLink v a k x) one.0 has in
              let same : x ≡ b = sound.alone a r x b (subst (λ k. IsToOne t.model k) one.0 alone) (sub a r x has_r) stood in
              gone (subst (λ z. HasLink v a r z) same has_r)
          | inr (alone, (x, has)) ↦
              let has_s : HasLink v b s x = subst (λ k. HasLink v b k x) one.1 has in
              let back : HasLink t b s a = sound.both_ways a r s b stood names.inverse in
              let same : x ≡ a = sound.alone b s x a (subst (λ k. IsToOne t.model k) one.1 alone) (sub b s x has_s) back in
              gone_back (subst (λ z. HasLink v b s z) same has_s)
        ]

    not_refused : (why : EditRefusal) → ¬ Refuses v (Link a rel b) why
    not_refused NoClass h = h
    not_refused Exists h = h
    not_refused NoInstance h = h (live_of v a fits.class_a fits.a_is, live_of v b fits.class_b fits.b_is)
    not_refused NoRelation h = h (r, to_part a rel r names.at_a)
    not_refused WrongKind h = h.other_kind (right_kind h.rel h.at_a h.class h.b_is)
    not_refused Linked (r', at_a, has) = gone (subst (λ k. HasLink v a k b) (the_relation r' at_a) has)
    not_refused Occupied h = free h.rel h.back h.names h.taken
    not_refused NotLinked h = h
    not_refused NoSymptom h = h
    not_refused AlreadyMuted h = h
    not_refused NotMuted h = h
    not_refused InstanceLimit h = h
    not_refused NodeLimit h = h
    not_refused ProblemLimit h = h
    not_refused SymptomLimit h = h

    -- a link of the whole that the part lacks may be made there
    pub link_accepted : IsAfter v (Link a rel b) (Ok (with_link v a r s b))
    link_accepted = (not_refused, (r, s, record { at_a = to_part a rel r names.at_a; inverse = names.inverse }, refl))

  module _ (event name : List ℕ) (muted : IsMuted t (node_name_of event name)) (unheard : ¬ IsMuted v (node_name_of event name)) where
    symptom : IsSymptomNode t (node_name_of event name)
    symptom = sound.mutes (node_name_of event name) muted

    mute_not_refused : (why : EditRefusal) → ¬ Refuses v (Mute event name) why
    mute_not_refused NoClass h = h
    mute_not_refused Exists h = h
    mute_not_refused NoInstance h = h (live_of v name symptom.class symptom.of_class)
    mute_not_refused NoRelation h = h
    mute_not_refused WrongKind h = h
    mute_not_refused Linked h = h
    mute_not_refused Occupied h = h
    mute_not_refused NotLinked h = h
    mute_not_refused NoSymptom h = h (record { class = symptom.class; of_class = symptom.of_class; event = symptom.event; symptom = symptom.symptom; named = symptom.named })
    mute_not_refused AlreadyMuted h = unheard h
    mute_not_refused NotMuted h = h
    mute_not_refused InstanceLimit h = h
    mute_not_refused NodeLimit h = h
    mute_not_refused ProblemLimit h = h
    mute_not_refused SymptomLimit h = h

    -- a node that is muted in the whole and not in the part may be muted there
    pub mute_accepted : IsAfter v (Mute event name) (Ok (with_mute v (node_name_of event name)))
    mute_accepted = (mute_not_refused, refl)

module _ (t : Topology) (regular : IsRegular t.model) (sound : Sound t) (name class : List ℕ) (c : ClassId) (of_c : HasClass t name c) (named : NamesClass t.model class c) where
  abbrev u : Topology
  u = without_instance t name

  -- the instance comes back without its links and mutes
  abbrev pub bare : Topology
  bare = part t u.links u.mutes

  pub bare_is : bare ≡ with_instance u name c
  bare_is =
      let instances = put_back name_cmp_total name_cmp_exact t.instances name c of_c in
      λ i. record { model = t.model; instances = sym instances i; links = u.links; mutes = u.mutes }

  made_is : (w : Topology) → Changes u (Create name class) w → w ≡ bare
  made_is w (d, named', is) =
      is ∙ (ap (with_instance u name) (regular.classes class d c named' named) ∙ sym bare_is)

  -- a kind of nodes isn't beyond a limit that it keeps in the whole
  not_beyond : (M : Kind) (P Q : NodeName → Type 0) → ((n : NodeName) → P n ↔ IsAt t M n) → ((n : NodeName) → Q n ↔ IsAt bare M n)
      → (limit : ℕ) → IsCountWithin P limit → ¬ IsBeyond Q limit
  not_beyond M P Q p_is q_is limit (m, count, few) beyond =
      let (n, count', many) = same_beyond (IsAt t M) P (turned P (IsAt t M) p_is) limit (same_beyond Q (IsAt bare M) q_is limit beyond) in
      let same = count_is_one P m n count count' in
      absurd (omega arith)

  create_not_refused : (why : EditRefusal) → ¬ Refuses u (Create name class) why
  create_not_refused NoClass h = h (c, named)
  create_not_refused Exists h =
      let (d, is) = class_of u name h in
      ((got_remove name_cmp_total name_cmp_exact t.instances name name d).0 is).0 refl
  create_not_refused NoInstance h = h
  create_not_refused NoRelation h = h
  create_not_refused WrongKind h = h
  create_not_refused Linked h = h
  create_not_refused Occupied h = h
  create_not_refused NotLinked h = h
  create_not_refused NoSymptom h = h
  create_not_refused AlreadyMuted h = h
  create_not_refused NotMuted h = h
  create_not_refused InstanceLimit (w, changes, many) =
      let here : instance_limit < map.len t.instances = subst (λ (x : Topology). instance_limit < map.len x.instances) (made_is w changes) many in
      let few = sound.few_instances in
      absurd (omega arith)
  create_not_refused NodeLimit (w, changes, many) =
      not_beyond (of_nodes t.model) (IsNodeOf t) (IsNodeOf bare) (nodes_are t) (nodes_are bare) node_limit sound.few_nodes
      (subst (λ (x : Topology). IsBeyond (IsNodeOf x) node_limit) (made_is w changes) many)
  create_not_refused ProblemLimit (w, changes, many) =
      not_beyond (of_problems t.model) (IsProblem t) (IsProblem bare) (problems_are t) (problems_are bare) problem_limit sound.few_problems
      (subst (λ (x : Topology). IsBeyond (IsProblem x) problem_limit) (made_is w changes) many)
  create_not_refused SymptomLimit (w, changes, many) =
      not_beyond (of_symptoms t.model) (IsSymptomNode t) (IsSymptomNode bare) (symptoms_are t) (symptoms_are bare) symptom_limit sound.few_symptoms
      (subst (λ (x : Topology). IsBeyond (IsSymptomNode x) symptom_limit) (made_is w changes) many)

  -- an instance that was deleted may be made again: the limits allowed it before
  pub create_accepted : IsAfter u (Create name class) (Ok bare)
  create_accepted = (create_not_refused, (c, named, bare_is))
