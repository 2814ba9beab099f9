-- Whether an edit is refused for a reason can be decided.
use Rattle.std.proofs.Common.{◌≡◌, ◌⊎◌, ℕ, List, false, Bool, true, Some, refl, sym, ap, subst, ◌∙◌, inl, inr}
use Rattle.std.specs.FinMap as map
use Rattle.std.specs.FinSet as set
use Rattle.std.specs.List.{Contains, slice_get}
use Rattle.cb_model.specs.declared.id.ClassId.{ClassId}
use Rattle.cb_model.specs.declared.id.RelId.{RelId}
use Rattle.cb_model.specs.declared.tables.ClassRow.{ClassRow}
use Rattle.cb_model.specs.declared.tables.RelRow.{RelRow}
use Rattle.cb_model.specs.declared.tables.Tables.{Tables}
use Rattle.cb_model.specs.Classes.{IsA, HasRelation, NamesClass}
use Rattle.cb_network.specs.declared.edit.Edit.{Edit}
use Rattle.cb_network.specs.declared.edit.Edit.TheVariants.{Create, Delete, Link, Unlink, Mute, Unmute}
use Rattle.cb_network.specs.declared.edit.EditRefusal.{EditRefusal}
use Rattle.cb_network.specs.declared.edit.EditRefusal.TheVariants.{NoClass, Exists, NoInstance, NoRelation, WrongKind, Linked, Occupied, NotLinked, NoSymptom, AlreadyMuted, NotMuted, InstanceLimit, NodeLimit, ProblemLimit, SymptomLimit}
use Rattle.cb_network.specs.Edits.{Refuses, ChangedIs, with_instance, node_name_of, link_of, IsRelationAt, NamesPair, HasRelationAt, HasNamedLink, IsWrongKind, IsOneUsedUp, IsOccupied}
use Rattle.cb_network.specs.Regular.{IsRegular}
use Rattle.cb_network.specs.Sound.{IsToOne, instance_limit, node_limit, problem_limit, symptom_limit}
use Rattle.cb_network.specs.Topology.{Topology, Link as TheLink, HasLink}
use Rattle.cb_network.specs.Words.{InstanceName, Word}
use Rattle.cb_network.proofs.Decided.{Decision, decide_both, decide_same, decide_true, decide_is_a}
use Rattle.cb_network.proofs.Sets.{link_cmp_total, link_cmp_exact}
use Rattle.cb_change.proofs.Closure.{decide_or, decide_not, decide_any}
use Rattle.cb_change.proofs.Deciding.{item_of, decide_name}
use Rattle.cb_change.proofs.Moved.{one_pair}
use Rattle.cb_change.proofs.Steps.{one_class}
use Rattle.cb_existence.proofs.Found.{decide_less, decide_got, decide_row, decide_live}
use Rattle.cb_existence.proofs.Listed.{decide_is_node, decide_is_problem, decide_is_symptom, problem_is_node, symptom_is_node, decide_beyond}

decide_false : (b : Bool) → Decision (b ≡ false)
decide_false true = inr (λ e. absurd (cc))
decide_false false = inl refl

pub decide_class_named : (tables : Tables) (name : Word) → Decision ((c : ClassId) × NamesClass tables name c)
decide_class_named tables name =
    decide_same ((k : ℕ) × (row : ClassRow) × (slice_get tables.classes k ≡ Some row) × (row.name ≡ name)) _
    (λ (k, row, is, named). (record { 0 = k }, (row, is, named))) (λ (c, (row, is, named)). (c.0, row, is, named))
    (decide_row tables.classes (λ row. row.name ≡ name) (λ row. decide_name row.name name))

-- a relation has an inverse
pub pair_at : (t : Topology) (a : InstanceName) (name : Word) (r : RelId) → IsRelationAt t a name r → (s : RelId) × NamesPair t a name r s
pair_at t a name r at = (at.named.0.row.inverse, record { at_a = at; inverse = (at.named.0.row, at.named.0.is, refl) })

same_target : (tables : Tables) (c d : ClassId) (r s : RelId) → r ≡ s → (x : HasRelation tables c r) (y : HasRelation tables d s) → x.row.target ≡ y.row.target
same_target tables c d r s same x y =
    let rows : Some x.row ≡ Some y.row = sym x.is ∙ (ap (λ (k : RelId). slice_get tables.relations k.0) same ∙ y.is) in
    let row : x.row ≡ y.row = cc in
    ap (λ (q : RelRow). q.target) row

module _ (t : Topology) (regular : IsRegular t.model) where
  decide_linked : (a : InstanceName) (r : RelId) (b : InstanceName) → Decision (HasLink t a r b)
  decide_linked a r b = decide_true (set.contains t.links (link_of a r b))

  -- an instance's class has one relation of a name
  one_relation : (a : InstanceName) (name : Word) (r s : RelId) → IsRelationAt t a name r → IsRelationAt t a name s → r ≡ s
  one_relation a name r s x y =
      let p = pair_at t a name r x in
      let q = pair_at t a name s y in
      (one_pair t regular a name r p.0 s q.0 p.1 q.1).0

  pub decide_relation : (a : InstanceName) (name : Word) → Decision (HasRelationAt t a name)
  decide_relation a name = elim (decide_live t a) [
    | inr dead ↦ inr (λ (r, at). dead (at.class, at.of_class))
    | inl (c, is) ↦
        decide_same ((k : ℕ) × (row : RelRow) × (slice_get t.model.relations k ≡ Some row) × (IsA t.model c row.class × (row.name ≡ name))) (HasRelationAt t a name)
        (λ (k, row, at, (up, named)). (record { 0 = k }, record { class = c; of_class = is; named = (record { row = row; is = at; from_c = up }, named) }))
        (λ (r, at).
        let has = at.named.0 in
        (r.0, has.row, has.is, (subst (λ (d : ClassId). IsA t.model d has.row.class) (one_class t a at.class c at.of_class is) has.from_c, at.named.1)))
        (decide_row t.model.relations _ (λ row. decide_both _ _ (decide_is_a t.model regular c row.class) (decide_name row.name name)))
  ]

  decide_wrong_kind : (a : InstanceName) (name : Word) (b : InstanceName) → Decision (IsWrongKind t a name b)
  decide_wrong_kind a name b = elim (decide_relation a name) [
    | inr none ↦ inr (λ x. none (x.rel, x.at_a))
    | inl (r, at) ↦ elim (decide_live t b) [
      | inr dead ↦ inr (λ x. dead (x.class, x.b_is))
      | inl (c, is) ↦
          decide_same (¬ IsA t.model c at.named.0.row.target) (IsWrongKind t a name b)
          (λ other. record { rel = r; at_a = at; class = c; b_is = is; other_kind = other })
          (λ x up.
          let target = same_target t.model at.class x.at_a.class r x.rel (one_relation a name r x.rel at x.at_a) at.named.0 x.at_a.named.0 in
          x.other_kind (subst (λ (d : ClassId). IsA t.model d x.at_a.named.0.row.target) (one_class t b c x.class is x.b_is)
          (subst (λ (d : ClassId). IsA t.model c d) target up)))
          (decide_not _ (decide_is_a t.model regular c at.named.0.row.target))
    ]
  ]

  decide_named_link : (a : InstanceName) (name : Word) (b : InstanceName) → Decision (HasNamedLink t a name b)
  decide_named_link a name b = elim (decide_relation a name) [
    | inr none ↦ inr (λ (r, at, link). none (r, at))
    | inl (r, at) ↦
        decide_same (HasLink t a r b) (HasNamedLink t a name b) (λ link. (r, at, link))
        (λ (s, also, link). subst (λ (k : RelId). HasLink t a k b) (one_relation a name s r also at) link) (decide_linked a r b)
  ]

  decide_used_up : (a : InstanceName) (r : RelId) → Decision (IsOneUsedUp t a r)
  decide_used_up a r =
      decide_both (IsToOne t.model r) ((b : InstanceName) × HasLink t a r b)
      (decide_got (slice_get t.model.relations r.0) (λ row. row.many ≡ false) (λ row. decide_false row.many))
      (decide_same ((l : TheLink) × Contains (set.items t.links) l × HasLink t a r l.to) _
      (λ (l, has, link). (l.to, link))
      (λ (b, link). (link_of a r b, item_of link_cmp_total link_cmp_exact t.links (link_of a r b) link, link))
      (decide_any _ (λ l. decide_linked a r l.to) (set.items t.links)))

  decide_occupied : (a : InstanceName) (name : Word) (b : InstanceName) → Decision (IsOccupied t a name b)
  decide_occupied a name b = elim (decide_relation a name) [
    | inr none ↦ inr (λ x. none (x.rel, x.names.at_a))
    | inl (r, at) ↦
        let (s, names) = pair_at t a name r at in
        decide_same (IsOneUsedUp t a r ⊎ IsOneUsedUp t b s) (IsOccupied t a name b)
        (λ taken. record { rel = r; back = s; names = names; taken = taken })
        (λ x.
        let same = one_pair t regular a name x.rel x.back r s x.names names in
        elim x.taken [
          | inl here ↦ inl (subst (λ (k : RelId). IsOneUsedUp t a k) same.0 here)
          | inr there ↦ inr (subst (λ (k : RelId). IsOneUsedUp t b k) same.1 there)
        ])
        (decide_or _ _ (decide_used_up a r) (decide_used_up b s))
  ]

  -- what a new instance makes is one topology, if there is the class
  decide_created : (name class : List ℕ) (P : Topology → Type 0) → ((c : ClassId) → Decision (P (with_instance t name c)))
      → Decision (ChangedIs t (Create name class) P)
  decide_created name class P decide = elim (decide_class_named t.model class) [
    | inr none ↦ inr (λ (u, (c, named, is), p). none (c, named))
    | inl (c, named) ↦
        decide_same (P (with_instance t name c)) (ChangedIs t (Create name class) P) (λ p. (with_instance t name c, (c, named, refl), p))
        (λ (u, (d, also, is), p). subst P (is ∙ ap (with_instance t name) (regular.classes class d c also named)) p) (decide c)
  ]

  pub decide_refuses : (edit : Edit) (why : EditRefusal) → Decision (Refuses t edit why)
  decide_refuses (Create name class) NoClass = decide_not _ (decide_class_named t.model class)
  decide_refuses (Create name class) Exists = decide_true (map.contains_key t.instances name)
  decide_refuses (Create name class) InstanceLimit = decide_created name class _ (λ c. decide_less instance_limit (map.len (with_instance t name c).instances))
  decide_refuses (Create name class) NodeLimit = decide_created name class _ (λ c.
      decide_beyond (with_instance t name c) regular _ (decide_is_node (with_instance t name c) regular) (λ n node. node) node_limit)
  decide_refuses (Create name class) ProblemLimit = decide_created name class _ (λ c.
      decide_beyond (with_instance t name c) regular _ (decide_is_problem (with_instance t name c) regular) (problem_is_node (with_instance t name c)) problem_limit)
  decide_refuses (Create name class) SymptomLimit = decide_created name class _ (λ c.
      decide_beyond (with_instance t name c) regular _ (decide_is_symptom (with_instance t name c) regular) (symptom_is_node (with_instance t name c)) symptom_limit)
  decide_refuses (Delete name) NoInstance = decide_not _ (decide_true (map.contains_key t.instances name))
  decide_refuses (Link a rel b) NoInstance =
      decide_not _ (decide_both _ _ (decide_true (map.contains_key t.instances a)) (decide_true (map.contains_key t.instances b)))
  decide_refuses (Link a rel b) NoRelation = decide_not _ (decide_relation a rel)
  decide_refuses (Link a rel b) WrongKind = decide_wrong_kind a rel b
  decide_refuses (Link a rel b) Linked = decide_named_link a rel b
  decide_refuses (Link a rel b) Occupied = decide_occupied a rel b
  decide_refuses (Unlink a rel b) NoInstance =
      decide_not _ (decide_both _ _ (decide_true (map.contains_key t.instances a)) (decide_true (map.contains_key t.instances b)))
  decide_refuses (Unlink a rel b) NoRelation = decide_not _ (decide_relation a rel)
  decide_refuses (Unlink a rel b) NotLinked = decide_not _ (decide_named_link a rel b)
  decide_refuses (Mute event name) NoInstance = decide_not _ (decide_true (map.contains_key t.instances name))
  decide_refuses (Mute event name) NoSymptom = decide_not _ (decide_is_symptom t regular (node_name_of event name))
  decide_refuses (Mute event name) AlreadyMuted = decide_true (set.contains t.mutes (node_name_of event name))
  decide_refuses (Unmute event name) NoInstance = decide_not _ (decide_true (map.contains_key t.instances name))
  decide_refuses (Unmute event name) NoSymptom = decide_not _ (decide_is_symptom t regular (node_name_of event name))
  decide_refuses (Unmute event name) NotMuted = decide_not _ (decide_true (set.contains t.mutes (node_name_of event name)))
  decide_refuses edit why = inr (λ none. none)
