-- Which refusals an edit may have, and which of them come first.
use Rattle.std.proofs.Common.{◌≡◌, ◌⊎◌, ℕ, ◌+◌, ◌<◌, ◌≤◌, List, refl, sym, ap, subst, ◌∙◌, inl, inr, arith, true, false, cond, Some, Result, Ok, Err, OnOk, IfErr}
use Rattle.std.specs.FinMap as map
use Rattle.std.proofs.lemmas.Bool.{cases_lt}
use Rattle.std.specs.List.{slice_get}
use Rattle.cb_model.specs.declared.id.ClassId.{ClassId}
use Rattle.cb_model.specs.declared.id.RelId.{RelId}
use Rattle.cb_model.specs.declared.node.NodeName.{NodeName}
use Rattle.cb_model.specs.declared.tables.RelRow.{RelRow}
use Rattle.cb_model.specs.Classes.{IsA, NamesClass, NamesRelation}
use Rattle.cb_model.specs.WellTyped.{WellTyped}
use Rattle.cb_model.proofs.Rising.{name_cmp_total}
use Rattle.cb_network.specs.declared.edit.Edit.{Edit}
use Rattle.cb_network.specs.declared.edit.Edit.TheVariants.{Create, Delete, Link, Unlink, Mute, Unmute}
use Rattle.cb_network.specs.declared.edit.EditRefusal.{EditRefusal}
use Rattle.cb_network.specs.declared.edit.EditRefusal.TheVariants.{NoClass, Exists, NoInstance, NoRelation, WrongKind, Linked, Occupied, NotLinked, NoSymptom, AlreadyMuted, NotMuted, InstanceLimit, NodeLimit, ProblemLimit, SymptomLimit}
use Rattle.cb_network.specs.Topology.{Topology, IsLive, HasLink, IsMuted}
use Rattle.cb_network.specs.Nodes.{IsNodeOf, IsProblem, IsSymptomNode, IsCount, IsBeyond}
use Rattle.cb_network.specs.Sound.{IsInverse, instance_limit, node_limit, problem_limit, symptom_limit}
use Rattle.cb_network.specs.Edits.{refusal_number, with_instance, node_name_of, IsRelationAt, HasRelationAt, HasNamedLink, IsWrongKind, IsOneUsedUp, IsOccupied, ChangedIs, Refuses, IsAccepted, IsRefused}
use Rattle.cb_network.proofs.Counts.{count_is_one}
use Rattle.cb_network.proofs.Kept.{class_of}
use Rattle.cb_network.proofs.Links.{one_inverse}
use Rattle.cb_instances.specs.Net.{Net, LinkAt, IsMutedAt, IsWholeNet}
use Rattle.cb_accept.specs.declared.counts.NodeCounts.{NodeCounts}
use Rattle.cb_accept.specs.declared.link.Ends.{Ends}
use Rattle.cb_accept.specs.declared.mute.Symptom.{Symptom}
use Rattle.cb_accept.specs.Counts.{AreCounts, AreWithin}
use Rattle.cb_accept.specs.Refusals.{IsFirstLimit, FitsTarget, AreEnds, NamesSymptom}
use Rattle.cb_accept.proofs.Changed.{one_class_of}
use Rattle.cb_accept.proofs.Looked.{one_name}
use Rattle.cb_accept.proofs.Members.{one_class, one_relation}

-- no refusal with a number below this holds
abbrev pub NoneBelow : Topology → Edit → ℕ → Type 0
NoneBelow t edit k = (other : EditRefusal) → refusal_number other < k → ¬ Refuses t edit other

-- what has not to be shown since it comes later
pub later : (P : Type 0) (m k : ℕ) → k ≤ m → m < k → P
later P m k few many = absurd (omega arith)

pub delete_allowed : (t : Topology) (name : List ℕ) → IsLive t name → IsAccepted t (Delete name)
delete_allowed t name live NoInstance dead = dead live
delete_allowed t name live why holds = holds

module _ (t : Topology) (a rel b : List ℕ) (k : ℕ) where
  pub link_below : (3 < k → IsLive t a × IsLive t b) → (4 < k → HasRelationAt t a rel) → (5 < k → ¬ IsWrongKind t a rel b)
      → (6 < k → ¬ HasNamedLink t a rel b) → (7 < k → ¬ IsOccupied t a rel b) → NoneBelow t (Link a rel b) k
  link_below live has kind linked taken NoInstance low dead = dead (live low)
  link_below live has kind linked taken NoRelation low none = none (has low)
  link_below live has kind linked taken WrongKind low holds = kind low holds
  link_below live has kind linked taken Linked low holds = linked low holds
  link_below live has kind linked taken Occupied low holds = taken low holds
  link_below live has kind linked taken why low holds = holds

  pub unlink_below : (3 < k → IsLive t a × IsLive t b) → (4 < k → HasRelationAt t a rel) → (8 < k → HasNamedLink t a rel b)
      → NoneBelow t (Unlink a rel b) k
  unlink_below live has linked NoInstance low dead = dead (live low)
  unlink_below live has linked NoRelation low none = none (has low)
  unlink_below live has linked NotLinked low none = none (linked low)
  unlink_below live has linked why low holds = holds

module _ (t : Topology) (event name : List ℕ) (k : ℕ) where
  pub mute_below : (3 < k → IsLive t name) → (9 < k → IsSymptomNode t (node_name_of event name)) → (10 < k → ¬ IsMuted t (node_name_of event name))
      → NoneBelow t (Mute event name) k
  mute_below live symptom heard NoInstance low dead = dead (live low)
  mute_below live symptom heard NoSymptom low none = none (symptom low)
  mute_below live symptom heard AlreadyMuted low holds = heard low holds
  mute_below live symptom heard why low holds = holds

  pub unmute_below : (3 < k → IsLive t name) → (9 < k → IsSymptomNode t (node_name_of event name)) → (11 < k → IsMuted t (node_name_of event name))
      → NoneBelow t (Unmute event name) k
  unmute_below live symptom muted NoInstance low dead = dead (live low)
  unmute_below live symptom muted NoSymptom low none = none (symptom low)
  unmute_below live symptom muted NotMuted low none = none (muted low)
  unmute_below live symptom muted why low holds = holds

-- limits

at_most : (k limit : ℕ) → ¬ (limit < k) → k ≤ limit
at_most k limit few = elim (cases_lt limit k) [ inl many ↦ absurd (few many) | inr low ↦ low ]

-- none below the last is none at all
few_refusals : (why : EditRefusal) → refusal_number why < 16
few_refusals NoClass = omega arith
few_refusals Exists = omega arith
few_refusals NoInstance = omega arith
few_refusals NoRelation = omega arith
few_refusals WrongKind = omega arith
few_refusals Linked = omega arith
few_refusals Occupied = omega arith
few_refusals NotLinked = omega arith
few_refusals NoSymptom = omega arith
few_refusals AlreadyMuted = omega arith
few_refusals NotMuted = omega arith
few_refusals InstanceLimit = omega arith
few_refusals NodeLimit = omega arith
few_refusals ProblemLimit = omega arith
few_refusals SymptomLimit = omega arith

pub accepted : (t : Topology) (edit : Edit) → NoneBelow t edit 16 → IsAccepted t edit
accepted t edit none why = none why (few_refusals why)

-- links

module _ (n : Net) (typed : WellTyped n.topology.model) (whole : IsWholeNet n) (a rel b : List ℕ) (ends : Ends) (are : AreEnds n a rel b ends) where
  both_live : IsLive n.topology a × IsLive n.topology b
  both_live = (whole.live ends.from a are.from, whole.live ends.to b are.to)

  -- a's class has no other relation of the name
  this_relation : (r : RelId) → IsRelationAt n.topology a rel r → r ≡ ends.rel
  this_relation r at =
      let class = one_class_of n.topology a at.class are.at_a.class at.of_class are.at_a.of_class in
      one_relation n.topology.model typed are.at_a.class rel r ends.rel (subst (λ c. NamesRelation n.topology.model c rel r) class at.named) are.at_a.named

  stands : LinkAt n ends.from ends.rel ends.to → HasNamedLink n.topology a rel b
  stands link =
      let at_a = subst (λ x. HasLink n.topology x ends.rel link.to) (one_name n ends.from link.from a link.from_is are.from) link.linked in
      (ends.rel, are.at_a, subst (λ x. HasLink n.topology a ends.rel x) (one_name n ends.to link.to b link.to_is are.to) at_a)

  stands_not : ¬ LinkAt n ends.from ends.rel ends.to → ¬ HasNamedLink n.topology a rel b
  stands_not absent (r, at, link) =
      absent (record { from = a; to = b; from_is = are.from; to_is = are.to; linked = subst (λ k. HasLink n.topology a k b) (this_relation r at) link })

  pub unlink_allowed : LinkAt n ends.from ends.rel ends.to → IsAccepted n.topology (Unlink a rel b)
  unlink_allowed link =
      accepted n.topology (Unlink a rel b) (unlink_below n.topology a rel b 16 (λ _. both_live) (λ _. (ends.rel, are.at_a)) (λ _. stands link))

  pub not_linked : ¬ LinkAt n ends.from ends.rel ends.to → IsRefused n.topology (Unlink a rel b) NotLinked
  not_linked absent = (
    stands_not absent,
    unlink_below n.topology a rel b 8 (λ _. both_live) (λ _. (ends.rel, are.at_a)) (later _ 8 8 (omega arith)),
  )

  fits_not_wrong : FitsTarget n.topology b ends.rel → ¬ IsWrongKind n.topology a rel b
  fits_not_wrong fits wrong =
      let r = this_relation wrong.rel wrong.at_a in
      let own = one_class_of n.topology b fits.class wrong.class fits.of_class wrong.b_is in
      let here = subst (λ (k : RelId). slice_get n.topology.model.relations k.0 ≡ Some wrong.at_a.named.0.row) r wrong.at_a.named.0.is in
      let row : fits.row ≡ wrong.at_a.named.0.row = cc (sym fits.is ∙ here) in
      wrong.other_kind (subst (λ c. IsA n.topology.model c wrong.at_a.named.0.row.target) own
      (subst (λ (x : RelRow). IsA n.topology.model fits.class x.target) row fits.kind))

  pub wrong_kind : ¬ FitsTarget n.topology b ends.rel → IsRefused n.topology (Link a rel b) WrongKind
  wrong_kind other =
      let (class, b_is) = class_of n.topology b both_live.1 in (
        record {
          rel = ends.rel;
          at_a = are.at_a;
          class = class;
          b_is = b_is;
          other_kind = λ kind. other (record { class = class; of_class = b_is; row = are.at_a.named.0.row; is = are.at_a.named.0.is; kind = kind });
        },
        link_below n.topology a rel b 5 (λ _. both_live) (λ _. (ends.rel, are.at_a)) (later _ 5 5 (omega arith)) (later _ 6 5 (omega arith))
            (later _ 7 5 (omega arith)),
      )

  module _ (fits : FitsTarget n.topology b ends.rel) where
    pub linked : LinkAt n ends.from ends.rel ends.to → IsRefused n.topology (Link a rel b) Linked
    linked link = (
      stands link,
      link_below n.topology a rel b 6 (λ _. both_live) (λ _. (ends.rel, are.at_a)) (λ _. fits_not_wrong fits) (later _ 6 6 (omega arith))
          (later _ 7 6 (omega arith)),
    )

    module _ (absent : ¬ LinkAt n ends.from ends.rel ends.to) (row : RelRow) (row_is : slice_get n.topology.model.relations ends.rel.0 ≡ Some row) where
      pub occupied : IsOneUsedUp n.topology a ends.rel ⊎ IsOneUsedUp n.topology b row.inverse → IsRefused n.topology (Link a rel b) Occupied
      occupied taken = (
        record { rel = ends.rel; back = row.inverse; names = record { at_a = are.at_a; inverse = (row, row_is, refl) }; taken = taken },
        link_below n.topology a rel b 7 (λ _. both_live) (λ _. (ends.rel, are.at_a)) (λ _. fits_not_wrong fits) (λ _. stands_not absent)
            (later _ 7 7 (omega arith)),
      )

      pub link_allowed : ¬ IsOneUsedUp n.topology a ends.rel → ¬ IsOneUsedUp n.topology b row.inverse → IsAccepted n.topology (Link a rel b)
      link_allowed free_a free_b =
          accepted n.topology (Link a rel b)
          (link_below n.topology a rel b 16 (λ _. both_live) (λ _. (ends.rel, are.at_a)) (λ _. fits_not_wrong fits) (λ _. stands_not absent)
          (λ _ occupied.
          let r = this_relation occupied.rel occupied.names.at_a in
          let inverse : IsInverse n.topology.model ends.rel occupied.back = subst (λ k. IsInverse n.topology.model k occupied.back) r occupied.names.inverse in
          let back = one_inverse n.topology.model ends.rel occupied.back row.inverse inverse (row, row_is, refl) in
          elim occupied.taken [
            | inl taken ↦ free_a (subst (IsOneUsedUp n.topology a) r taken)
            | inr taken ↦ free_b (subst (IsOneUsedUp n.topology b) back taken)
          ]))

-- new instances

module _ (t : Topology) (name class : List ℕ) (k : ℕ) where
  pub create_below : (1 < k → (c : ClassId) × NamesClass t.model class c) → (2 < k → ¬ IsLive t name)
      → (12 < k → ¬ Refuses t (Create name class) InstanceLimit) → (13 < k → ¬ Refuses t (Create name class) NodeLimit)
      → (14 < k → ¬ Refuses t (Create name class) ProblemLimit) → (15 < k → ¬ Refuses t (Create name class) SymptomLimit)
      → NoneBelow t (Create name class) k
  create_below has fresh instances nodes problems symptoms NoClass low none = none (has low)
  create_below has fresh instances nodes problems symptoms Exists low holds = fresh low holds
  create_below has fresh instances nodes problems symptoms InstanceLimit low holds = instances low holds
  create_below has fresh instances nodes problems symptoms NodeLimit low holds = nodes low holds
  create_below has fresh instances nodes problems symptoms ProblemLimit low holds = problems low holds
  create_below has fresh instances nodes problems symptoms SymptomLimit low holds = symptoms low holds
  create_below has fresh instances nodes problems symptoms why low holds = holds

module _ (t : Topology) (name class : List ℕ) where
  pub no_class : ((c : ClassId) → ¬ NamesClass t.model class c) → IsRefused t (Create name class) NoClass
  no_class none = (
    λ (c, named). none c named,
    create_below t name class 1 (later _ 1 1 (omega arith)) (later _ 2 1 (omega arith)) (later _ 12 1 (omega arith)) (later _ 13 1 (omega arith))
        (later _ 14 1 (omega arith)) (later _ 15 1 (omega arith)),
  )

  module _ (c : ClassId) (named : NamesClass t.model class c) where
    pub exists : IsLive t name → IsRefused t (Create name class) Exists
    exists live = (
      live,
      create_below t name class 2 (λ _. (c, named)) (later _ 2 2 (omega arith)) (later _ 12 2 (omega arith)) (later _ 13 2 (omega arith))
          (later _ 14 2 (omega arith)) (later _ 15 2 (omega arith)),
    )

    module _ (typed : WellTyped t.model) (fresh : ¬ IsLive t name) where
      -- what holds of the changed topology holds of that with the instance
      changed : (P : Topology → Type 0) → ChangedIs t (Create name class) P → P (with_instance t name c)
      changed P (u, (d, names, is), p) = subst P (is ∙ ap (with_instance t name) (one_class t.model typed class d c names named)) p

      made : (P : Topology → Type 0) → P (with_instance t name c) → ChangedIs t (Create name class) P
      made P p = (with_instance t name c, (c, named, refl), p)

      one_more : map.len (with_instance t name c).instances ≡ map.len t.instances + 1
      one_more = map.len-insert name_cmp_total t.instances name c ∙ ap (λ b. cond b (map.len t.instances) (map.len t.instances + 1)) absent
        where
          absent : map.contains_key t.instances name ≡ false
          absent = elim (map.contains_key t.instances name) as (λ b. map.contains_key t.instances name ≡ b → map.contains_key t.instances name ≡ false) [
            | true ↦ λ live. absurd (fresh live)
            | false ↦ λ e. e
          ] refl

      pub too_many_instances : instance_limit ≤ map.len t.instances → IsRefused t (Create name class) InstanceLimit
      too_many_instances full =
          let more = one_more in (
            made (λ u. instance_limit < map.len u.instances) (omega arith),
            create_below t name class 12 (λ _. (c, named)) (λ _. fresh) (later _ 12 12 (omega arith)) (later _ 13 12 (omega arith))
                (later _ 14 12 (omega arith)) (later _ 15 12 (omega arith)),
          )

      module _ (capacity : map.len t.instances < instance_limit) (new : NodeCounts) (are : AreCounts (with_instance t name c) new) where
        enough_instances : ¬ Refuses t (Create name class) InstanceLimit
        enough_instances many =
            let more = one_more in
            let beyond = changed (λ u. instance_limit < map.len u.instances) many in
            absurd (omega arith)

        -- a number within its limit is not beyond it
        not_beyond : (P : NodeName → Type 0) (k limit : ℕ) → IsCount P k → k ≤ limit → ¬ IsBeyond P limit
        not_beyond P k limit count few (m, count', many) = let same = count_is_one P k m count count' in absurd (omega arith)

        few_nodes : new.nodes ≤ node_limit → ¬ Refuses t (Create name class) NodeLimit
        few_nodes few many = not_beyond (IsNodeOf (with_instance t name c)) new.nodes node_limit are.nodes few (changed (λ u. IsBeyond (IsNodeOf u) node_limit) many)

        few_problems : new.problems ≤ problem_limit → ¬ Refuses t (Create name class) ProblemLimit
        few_problems few many =
            not_beyond (IsProblem (with_instance t name c)) new.problems problem_limit are.problems few (changed (λ u. IsBeyond (IsProblem u) problem_limit) many)

        few_symptoms : new.symptoms ≤ symptom_limit → ¬ Refuses t (Create name class) SymptomLimit
        few_symptoms few many =
            not_beyond (IsSymptomNode (with_instance t name c)) new.symptoms symptom_limit are.symptoms few
            (changed (λ u. IsBeyond (IsSymptomNode u) symptom_limit) many)

        pub create_allowed : AreWithin new → IsAccepted t (Create name class)
        create_allowed within =
            accepted t (Create name class)
            (create_below t name class 16 (λ _. (c, named)) (λ _. fresh) (λ _. enough_instances) (λ _. few_nodes within.nodes) (λ _. few_problems within.problems)
            (λ _. few_symptoms within.symptoms))

        pub beyond_limit : (why : EditRefusal) → IsFirstLimit new why → IsRefused t (Create name class) why
        beyond_limit NodeLimit is = (
          made (λ u. IsBeyond (IsNodeOf u) node_limit) (new.nodes, are.nodes, is.above),
          create_below t name class 13 (λ _. (c, named)) (λ _. fresh) (λ _. enough_instances) (later _ 13 13 (omega arith)) (later _ 14 13 (omega arith))
              (later _ 15 13 (omega arith)),
        )
        beyond_limit ProblemLimit is = (
          made (λ u. IsBeyond (IsProblem u) problem_limit) (new.problems, are.problems, is.above),
          create_below t name class 14 (λ _. (c, named)) (λ _. fresh) (λ _. enough_instances)
              (λ _. few_nodes (at_most new.nodes node_limit (is.first NodeLimit (omega arith)))) (later _ 14 14 (omega arith))
              (later _ 15 14 (omega arith)),
        )
        beyond_limit SymptomLimit is = (
          made (λ u. IsBeyond (IsSymptomNode u) symptom_limit) (new.symptoms, are.symptoms, is.above),
          create_below t name class 15 (λ _. (c, named)) (λ _. fresh) (λ _. enough_instances)
              (λ _. few_nodes (at_most new.nodes node_limit (is.first NodeLimit (omega arith))))
              (λ _. few_problems (at_most new.problems problem_limit (is.first ProblemLimit (omega arith))))
              (later _ 15 15 (omega arith)),
        )
        beyond_limit why is = absurd is.above

-- links that name no relation

module _ (t : Topology) (a rel b : List ℕ) (live_a : IsLive t a) (live_b : IsLive t b) (none : ¬ HasRelationAt t a rel) where
  pub no_relation_to_link : IsRefused t (Link a rel b) NoRelation
  no_relation_to_link = (
    none,
    link_below t a rel b 4 (λ _. (live_a, live_b)) (later _ 4 4 (omega arith)) (later _ 5 4 (omega arith)) (later _ 6 4 (omega arith))
        (later _ 7 4 (omega arith)),
  )

  pub no_relation_to_unlink : IsRefused t (Unlink a rel b) NoRelation
  no_relation_to_unlink = (none, unlink_below t a rel b 4 (λ _. (live_a, live_b)) (later _ 4 4 (omega arith)) (later _ 8 4 (omega arith)))

-- mutes

module _ (t : Topology) (event name : List ℕ) (live : IsLive t name) where
  pub no_symptom_to_mute : ¬ IsSymptomNode t (node_name_of event name) → IsRefused t (Mute event name) NoSymptom
  no_symptom_to_mute none = (none, mute_below t event name 9 (λ _. live) (later _ 9 9 (omega arith)) (later _ 10 9 (omega arith)))

  pub no_symptom_to_unmute : ¬ IsSymptomNode t (node_name_of event name) → IsRefused t (Unmute event name) NoSymptom
  no_symptom_to_unmute none = (none, unmute_below t event name 9 (λ _. live) (later _ 9 9 (omega arith)) (later _ 11 9 (omega arith)))

module _ (n : Net) (whole : IsWholeNet n) (event name : List ℕ) (s : Symptom) (are : NamesSymptom n event name s) where
  lives : IsLive n.topology name
  lives = whole.live s.id name are.named

  mutes : IsMutedAt n s.id s.event → IsMuted n.topology (node_name_of event name)
  mutes = subst (IsMuted n.topology) are.symptom.node

  hears : ¬ IsMutedAt n s.id s.event → ¬ IsMuted n.topology (node_name_of event name)
  hears heard is = heard (subst (IsMuted n.topology) (sym are.symptom.node) is)

  pub mute_allowed : ¬ IsMutedAt n s.id s.event → IsAccepted n.topology (Mute event name)
  mute_allowed heard =
      accepted n.topology (Mute event name) (mute_below n.topology event name 16 (λ _. lives) (λ _. are.symptom.symptom) (λ _. hears heard))

  pub already_muted : IsMutedAt n s.id s.event → IsRefused n.topology (Mute event name) AlreadyMuted
  already_muted is = (mutes is, mute_below n.topology event name 10 (λ _. lives) (λ _. are.symptom.symptom) (later _ 10 10 (omega arith)))

  pub unmute_allowed : IsMutedAt n s.id s.event → IsAccepted n.topology (Unmute event name)
  unmute_allowed is =
      accepted n.topology (Unmute event name) (unmute_below n.topology event name 16 (λ _. lives) (λ _. are.symptom.symptom) (λ _. mutes is))

  pub not_muted : ¬ IsMutedAt n s.id s.event → IsRefused n.topology (Unmute event name) NotMuted
  not_muted heard = (hears heard, unmute_below n.topology event name 11 (λ _. lives) (λ _. are.symptom.symptom) (later _ 11 11 (omega arith)))
