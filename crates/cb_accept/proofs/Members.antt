-- A class has one member of a name, and a name is that of one class.
use Rattle.std.proofs.Common.{◌≡◌, ℕ, ◌+◌, ◌-◌, ◌<◌, List, refl, sym, ap, ◌∙◌, inl, inr, arith}
use Rattle.std.proofs.lemmas.Bool.{cases_order}
use Rattle.std.proofs.lemmas.Option.{slice_get_within, get_or_from_slice_get}
use Rattle.cb_model.specs.declared.id.ClassId.{ClassId}
use Rattle.cb_model.specs.declared.id.EventId.{EventId}
use Rattle.cb_model.specs.declared.id.RelId.{RelId}
use Rattle.cb_model.specs.declared.tables.Tables.{Tables}
use Rattle.cb_model.specs.declared.tables.ClassRow.{ClassRow}
use Rattle.cb_model.specs.Classes.{IsA, NamesClass, NamesEvent, NamesRelation}
use Rattle.cb_model.specs.WellTyped.{WellTyped, Member, ClassDeclares}
use Rattle.cb_instances.specs.Net.{name_in_row}
use Rattle.cb_instances.proofs.Muting.{event_reported}
use Rattle.cb_model.proofs.Climb.{ancestor_add, class_is}

module _ (t : Tables) (typed : WellTyped t) where
  -- the higher of two ancestors is one of the lower
  higher : (c a b : ClassId) (up_a : IsA t c a) (up_b : IsA t c b) (k : ℕ) → up_b.0 ≡ k + up_a.0 → IsA t a b
  higher c a b up_a up_b k more = (k, sym (ancestor_add t c a up_a.0 k up_b.0 more up_a.1) ∙ up_b.1)

  one_member : (c a b : ClassId) (one other : Member) (name : List ℕ) → IsA t c a → IsA t c b → ClassDeclares t a one name → ClassDeclares t b other name
      → one ≡ other
  one_member c a b one other name up_a up_b here there = elim (cases_order up_a.0 up_b.0) [
    | inl same ↦ typed.rules.member_names a b one other name (higher c a b up_a up_b 0 (omega arith)) here there
    | inr (inl below) ↦ typed.rules.member_names a b one other name (higher c a b up_a up_b (up_b.0 - up_a.0) (omega arith)) here there
    | inr (inr above) ↦ sym (typed.rules.member_names b a other one name (higher c b a up_b up_a (up_a.0 - up_b.0) (omega arith)) there here)
  ]

  pub one_event : (c : ClassId) (name : List ℕ) (e f : EventId) → NamesEvent t c name e → NamesEvent t c name f → e ≡ f
  one_event c name e f (a, at_a) (b, at_b) = event_reported t typed c e f a b (ap name_in_row a.is ∙ (at_a ∙ (sym at_b ∙ ap name_in_row (sym b.is))))

  pub one_relation : (c : ClassId) (name : List ℕ) (r s : RelId) → NamesRelation t c name r → NamesRelation t c name s → r ≡ s
  one_relation c name r s (a, at_a) (b, at_b) =
      let same = number r.0 s.0 (one_member c a.row.class b.row.class (Member.relation r.0) (Member.relation s.0) name a.from_c b.from_c (a.row, a.is, refl, at_a) (b.row, b.is, refl, at_b)) in
      λ i. record { 0 = same i }
    where
      number : (m n : ℕ) → Member.relation m ≡ Member.relation n → m ≡ n
      number m n e = cc

  -- rows of one name do not stand at two places
  not_below : (c d : ClassId) (name : List ℕ) → NamesClass t name c → NamesClass t name d → c.0 < d.0 → ⊥
  not_below c d name (row, is, named) (row', is', named') below =
      let within = slice_get_within t.classes d.0 row' is' in
      let here = get_or_from_slice_get t.classes c.0 row row is in
      let there = get_or_from_slice_get t.classes d.0 row' row is' in
      typed.rules.class_names c.0 d.0 row below within
      (ap (λ (r : ClassRow). r.name) here ∙ (named ∙ (sym named' ∙ ap (λ (r : ClassRow). r.name) (sym there))))

  pub one_class : (name : List ℕ) (c d : ClassId) → NamesClass t name c → NamesClass t name d → c ≡ d
  one_class name c d named named' = elim (cases_order c.0 d.0) [
    | inl same ↦ class_is c d same
    | inr (inl below) ↦ absurd (not_below c d name named named' below)
    | inr (inr above) ↦ absurd (not_below d c name named' named above)
  ]
