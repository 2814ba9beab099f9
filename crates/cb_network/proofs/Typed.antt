-- The tables of a model are regular: names tell classes and relations apart, relations have one back, and lines of ancestors
-- are short.
use Rattle.std.proofs.Common.{◌≡◌, ℕ, suc, ◌-◌, ◌<◌, ◌≤◌, List, sym, ap, refl, ◌∙◌, inl, inr, arith, Some, None}
use Rattle.std.proofs.lemmas.Bool.{cases_lt, cases_order}
use Rattle.std.proofs.lemmas.Option.{slice_get_within, get_or_from_slice_get}
use Rattle.cb_model.specs.declared.id.ClassId.{ClassId}
use Rattle.cb_model.specs.declared.id.RelId.{RelId}
use Rattle.cb_model.specs.declared.tables.Tables.{Tables}
use Rattle.cb_model.specs.declared.tables.ClassRow.{ClassRow}
use Rattle.cb_model.specs.Classes.{ancestor, IsA, NamesClass, NamesRelation}
use Rattle.cb_model.specs.WellTyped.{WellTyped, Member, ClassDeclares}
use Rattle.cb_model.specs.declared.limits.TheConstants.{MOST_ANCESTORS}
use Rattle.cb_model.proofs.Climb.{class_is, ancestor_add, stops}
use Rattle.cb_network.specs.Regular.{IsRegular}

-- where nothing is that number of steps above, ancestors are fewer steps above
below : (tables : Tables) (c b : ClassId) (top n : ℕ) → ancestor tables c top ≡ None → ancestor tables c n ≡ Some b → n < top
below tables c b top n none is = elim (cases_lt n top) [
  | inl lt ↦ lt
  | inr le ↦ let past = stops tables c top n le none in absurd (cc)
]

module _ (tables : Tables) (typed : WellTyped tables) where
  -- rows of one name do not stand at two places
  not_below : (c d : ClassId) (name : List ℕ) → NamesClass tables name c → NamesClass tables name d → c.0 < d.0 → ⊥
  not_below c d name (row, is, named) (row', is', named') below =
      let within = slice_get_within tables.classes d.0 row' is' in
      let here = get_or_from_slice_get tables.classes c.0 row row is in
      let there = get_or_from_slice_get tables.classes d.0 row' row is' in
      typed.rules.class_names c.0 d.0 row below within
      (ap (λ (r : ClassRow). r.name) here ∙ (named ∙ (sym named' ∙ ap (λ (r : ClassRow). r.name) (sym there))))

  one_class_named : (name : List ℕ) (c d : ClassId) → NamesClass tables name c → NamesClass tables name d → c ≡ d
  one_class_named name c d named named' = elim (cases_order c.0 d.0) [
    | inl same ↦ class_is c d same
    | inr (inl below) ↦ absurd (not_below c d name named named' below)
    | inr (inr above) ↦ absurd (not_below d c name named' named above)
  ]

  -- of two ancestors the further one is an ancestor of the nearer
  further : (class c d : ClassId) (m n : ℕ) → m ≤ n → ancestor tables class m ≡ Some c → ancestor tables class n ≡ Some d → IsA tables c d
  further class c d m n le near far = (n - m, sym (ancestor_add tables class c m (n - m) n (omega arith) near) ∙ far)

  relation_is : (r s : RelId) → Member.relation r.0 ≡ Member.relation s.0 → r ≡ s
  relation_is r s e = let same : r.0 ≡ s.0 = cc in λ i. record { 0 = same i }

  one_relation_named : (class : ClassId) (name : List ℕ) (r s : RelId) → NamesRelation tables class name r → NamesRelation tables class name s → r ≡ s
  one_relation_named class name r s (a, named) (b, named') =
      let one : ClassDeclares tables a.row.class (Member.relation r.0) name = (a.row, a.is, refl, named) in
      let other : ClassDeclares tables b.row.class (Member.relation s.0) name = (b.row, b.is, refl, named') in
      elim (cases_lt b.from_c.0 a.from_c.0) [
        | inl lt ↦ sym (relation_is s r (typed.rules.member_names b.row.class a.row.class (Member.relation s.0) (Member.relation r.0) name
            (further class b.row.class a.row.class b.from_c.0 a.from_c.0 (omega arith) b.from_c.1 a.from_c.1) other one))
        | inr le ↦ relation_is r s (typed.rules.member_names a.row.class b.row.class (Member.relation r.0) (Member.relation s.0) name
            (further class a.row.class b.row.class a.from_c.0 b.from_c.0 le a.from_c.1 b.from_c.1) one other)
      ]

  pub typed_is_regular : IsRegular tables
  typed_is_regular = record {
    classes = one_class_named;
    relations = one_relation_named;
    inverses = λ r row is.
        let has = typed.rules.inverses r row is in
        record { back = has.back; is = has.is; class = has.from_target; target = has.to_class; inverse = has.again };
    depth = λ c b n is. below tables c b (suc MOST_ANCESTORS) n (typed.rules.depth c) is;
  }
