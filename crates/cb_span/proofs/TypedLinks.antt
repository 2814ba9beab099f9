-- The model of the tests keeps the type rules.
use Rattle.std.proofs.Common.{◌≡◌, ◌≢◌, ℕ, zero, suc, ◌<◌, ◌≤◌, true, false, cond, List, [], ◌∷◌, length, Option, Some, None, refl, sym, ap, subst, ◌∙◌, arith}
use Rattle.std.specs.Prelude.{slice_get, IsTrue, codes, IfSome}
use Rattle.std.specs.List.{All, AllPairs, list_any}
use Rattle.std.specs.Str.{bytes_eq}
use Rattle.std.proofs.lemmas.Bool.{false≢true}
use Rattle.std.proofs.lemmas.Cmp.{nat_list_eq_equiv}
use Rattle.std.proofs.lemmas.List.Elements.{All-cons, All-nil}
use Rattle.std.proofs.lemmas.List.Kept.{AllPairs-cons}
use Rattle.std.proofs.lemmas.Map.Views.{list_any-from_Contains}
use Rattle.std.proofs.lemmas.Option.{slice_get_within}
use Rattle.std.proofs.lemmas.Slice.Eq.{bytes_eq-Decides}
use Rattle.cb_text.specs.Names.{IsName, is_letter, is_name_byte, reserved_words}
use Rattle.cb_model.specs.declared.limits.TheConstants.{MOST_ANCESTORS, MOST_EVENTS, MOST_RELATIONS, MOST_RULES}
use Rattle.cb_model.specs.declared.id.ClassId.{ClassId}
use Rattle.cb_model.specs.declared.id.EventId.{EventId}
use Rattle.cb_model.specs.declared.id.RelId.{RelId}
use Rattle.cb_model.specs.declared.tables.ClassRow.{ClassRow}
use Rattle.cb_model.specs.declared.tables.EventRow.{EventRow}
use Rattle.cb_model.specs.declared.tables.RelRow.{RelRow}
use Rattle.cb_model.specs.declared.tables.RuleRow.{RuleRow}
use Rattle.cb_model.specs.declared.tables.BlockRow.{BlockRow}
use Rattle.cb_model.specs.declared.tables.HideRow.{HideRow}
use Rattle.cb_model.specs.Classes.{ancestor, parent_of, parent_of_some, HasEvent, HasRelation}
use Rattle.cb_model.specs.WellTyped.{IsClass, IsEvent, IsRelation, IsPlace, HasPlaces, HasNames, HasInverse, InheritsRule, ClassDeclares, Member, PathReaches, MayRepeat, KeepsTypeRules, WellTyped}
use Rattle.cb_model.specs.WellTyped as members
use Rattle.cb_model.proofs.Numbers.{at_most_numbered}
use Rattle.cb_span.specs.Links.{link, port_class, links, link_row, port_row, link_classes, link_events, ends, to_ends, link_relations, link_rules}

-- each item in turn is such that P
abbrev Each : {X : Type 0} → (X → Type 0) → List X → Type 0
Each P [] = Unit {0}
Each P (x ∷ xs) = P x × Each P xs

all_of : {X : Type 0} (P : X → Type 0) (xs : List X) → Each P xs → All P xs
all_of P [] each = All-nil P
all_of P (x ∷ xs) each = All-cons P x xs each.0 (all_of P xs each.1)

named : (b : ℕ) (bs : List ℕ) → is_letter b ≡ true → Each (λ c. is_name_byte c ≡ true) bs → length (b ∷ bs) ≤ 63 → list_any (bytes_eq (b ∷ bs)) reserved_words ≡ false → IsName (b ∷ bs)
named b bs first rest short free = record {
  run = (first, all_of (λ c. IsTrue (is_name_byte c)) bs rest);
  short = short;
  free = λ is. false≢true (sym free ∙ list_any-from_Contains nat_list_eq_equiv (b ∷ bs) reserved_words is);
}

have_places : HasPlaces links
have_places = record {
  classes = all_of (λ (row : ClassRow). IfSome row.parent (IsClass links)) link_classes (tt, (tt, tt));
  events = all_of (λ (row : EventRow). IsClass links row.class) link_events (omega arith, (omega arith, (omega arith, (omega arith, tt))));
  relations = all_of (λ (row : RelRow). IsClass links row.class × IsClass links row.target × IsRelation links row.inverse) link_relations
      ((omega arith, omega arith, omega arith), ((omega arith, omega arith, omega arith), tt));
  rules = all_of (λ (row : RuleRow). IsClass links row.class × IsEvent links row.cause × All (IsPlace links) row.path × IsEvent links row.effect) link_rules (
    (omega arith, omega arith, All-nil (IsPlace links), omega arith),
    (
      (omega arith, omega arith, all_of (IsPlace links) (to_ends ∷ []) (omega arith, tt), omega arith),
      ((omega arith, omega arith, All-nil (IsPlace links), omega arith), tt),
    ),
  );
  blocks = All-nil (λ (row : BlockRow). IsClass links row.class × (row.rule < length links.rules));
  hides = All-nil (λ (row : HideRow). IsClass links row.class × IsEvent links row.event);
}

have_names : HasNames links
have_names = record {
  classes = all_of (λ (row : ClassRow). IsName row.name) link_classes (named 76 (105 ∷ 110 ∷ 107 ∷ []) refl (refl, (refl, (refl, tt))) (omega arith) refl, (named 80 (111 ∷ 114 ∷ 116 ∷ []) refl (refl, (refl, (refl, tt))) (omega arith) refl, tt));
  events = all_of (λ (row : EventRow). IsName row.name) link_events (named 67 (117 ∷ 116 ∷ []) refl (refl, (refl, tt)) (omega arith) refl, (named 76 (111 ∷ 115 ∷ 115 ∷ []) refl (refl, (refl, (refl, tt))) (omega arith) refl, (named 70 (97 ∷ 105 ∷ 108 ∷ []) refl (refl, (refl, (refl, tt))) (omega arith) refl, (named 78 (111 ∷ 83 ∷ 105 ∷ 103 ∷ 110 ∷ 97 ∷ 108 ∷ []) refl (refl, (refl, (refl, (refl, (refl, (refl, (refl, tt))))))) (omega arith) refl, tt))));
  relations = all_of (λ (row : RelRow). IsName row.name) link_relations (named 101 (110 ∷ 100 ∷ 115 ∷ []) refl (refl, (refl, (refl, tt))) (omega arith) refl, (named 111 (110 ∷ []) refl (refl, tt) (omega arith) refl, tt));
  rules = all_of (λ (row : RuleRow). IsName row.name) link_rules (named 104 (101 ∷ 114 ∷ 101 ∷ []) refl (refl, (refl, (refl, tt))) (omega arith) refl, (named 102 (97 ∷ 114 ∷ []) refl (refl, (refl, tt)) (omega arith) refl, (named 100 (111 ∷ 119 ∷ 110 ∷ []) refl (refl, (refl, (refl, tt))) (omega arith) refl, tt)));
}

-- no class has a parent
no_parent_at : (k : ℕ) → parent_of links (record { 0 = k }) ≡ None
no_parent_at zero = refl
no_parent_at (suc zero) = refl
no_parent_at (suc (suc k)) = refl

no_parent : (o : Option ClassId) → parent_of_some links o ≡ None
no_parent None = refl
no_parent (Some c) = no_parent_at c.0

no_loop : (c : ClassId) (o : Option ClassId) → o ≡ None → o ≡ Some c → ⊥
no_loop c o none is = cc

-- the member of each name
decode : List ℕ → Member
decode name =
    cond (bytes_eq name (codes "Cut")) (members.event 0)
    (cond (bytes_eq name (codes "Loss")) (members.event 1)
    (cond (bytes_eq name (codes "Fail")) (members.event 2)
    (cond (bytes_eq name (codes "NoSignal")) (members.event 3)
    (cond (bytes_eq name (codes "ends")) (members.relation 0)
    (cond (bytes_eq name (codes "on")) (members.relation 1)
    (cond (bytes_eq name (codes "here")) (members.rule 0)
    (cond (bytes_eq name (codes "far")) (members.rule 1) (members.rule 2))))))))

same_some : {X : Type 0} (x y : X) → Some x ≡ Some y → x ≡ y
same_some x y is = cc

declared_once : (c : ClassId) (m : Member) (name : List ℕ) → ClassDeclares links c m name → decode name ≡ m
unfolding decode
declared_once c (members.event zero) name (row, is, of_c, called) = ap decode (sym called ∙ ap (λ (r : EventRow). r.name) (same_some _ _ (sym is)))
declared_once c (members.event (suc zero)) name (row, is, of_c, called) = ap decode (sym called ∙ ap (λ (r : EventRow). r.name) (same_some _ _ (sym is)))
declared_once c (members.event (suc (suc zero))) name (row, is, of_c, called) = ap decode (sym called ∙ ap (λ (r : EventRow). r.name) (same_some _ _ (sym is)))
declared_once c (members.event (suc (suc (suc zero)))) name (row, is, of_c, called) = ap decode (sym called ∙ ap (λ (r : EventRow). r.name) (same_some _ _ (sym is)))
declared_once c (members.event (suc (suc (suc (suc n))))) name (row, is, of_c, called) = absurd (cc is)
declared_once c (members.relation zero) name (row, is, of_c, called) = ap decode (sym called ∙ ap (λ (r : RelRow). r.name) (same_some _ _ (sym is)))
declared_once c (members.relation (suc zero)) name (row, is, of_c, called) = ap decode (sym called ∙ ap (λ (r : RelRow). r.name) (same_some _ _ (sym is)))
declared_once c (members.relation (suc (suc n))) name (row, is, of_c, called) = absurd (cc is)
declared_once c (members.rule zero) name (row, is, of_c, called) = ap decode (sym called ∙ ap (λ (r : RuleRow). r.name) (same_some _ _ (sym is)))
declared_once c (members.rule (suc zero)) name (row, is, of_c, called) = ap decode (sym called ∙ ap (λ (r : RuleRow). r.name) (same_some _ _ (sym is)))
declared_once c (members.rule (suc (suc zero))) name (row, is, of_c, called) = ap decode (sym called ∙ ap (λ (r : RuleRow). r.name) (same_some _ _ (sym is)))
declared_once c (members.rule (suc (suc (suc n)))) name (row, is, of_c, called) = absurd (cc is)

inverses_lead_back : (n : ℕ) (row : RelRow) → slice_get link_relations n ≡ Some row → HasInverse links (record { 0 = n }) row
inverses_lead_back zero row is = subst (HasInverse links (record { 0 = 0 })) (same_some _ _ is) (record { back = _; is = refl; from_target = refl; to_class = refl; again = refl })
inverses_lead_back (suc zero) row is = subst (HasInverse links (record { 0 = 1 })) (same_some _ _ is) (record { back = _; is = refl; from_target = refl; to_class = refl; again = refl })
inverses_lead_back (suc (suc n)) row is = absurd (cc is)

abbrev has_cut : HasEvent links link (record { 0 = 0 })
has_cut = record { row = _; is = refl; from_c = (0, refl) }

abbrev has_loss : HasEvent links link (record { 0 = 1 })
has_loss = record { row = _; is = refl; from_c = (0, refl) }

abbrev has_fail : HasEvent links port_class (record { 0 = 2 })
has_fail = record { row = _; is = refl; from_c = (0, refl) }

abbrev has_no_signal : HasEvent links port_class (record { 0 = 3 })
has_no_signal = record { row = _; is = refl; from_c = (0, refl) }

abbrev has_ends : HasRelation links link ends
has_ends = record { row = _; is = refl; from_c = (0, refl) }

differ : (one other : List ℕ) → bytes_eq one other ≡ false → one ≢ other
differ one other apart same = false≢true (sym apart ∙ (bytes_eq-Decides one other).1 same)

abbrev AreApart : ClassRow → ClassRow → Type 0
AreApart one other = one.name ≢ other.name

pairs_one : (row : ClassRow) → AllPairs AreApart (row ∷ [])
pairs_one row i j d below within = absurd (omega arith)

keep_rules : KeepsTypeRules links
keep_rules = record {
  class_names = AllPairs-cons AreApart link_row (port_row ∷ []) (all_of (AreApart link_row) (port_row ∷ []) (differ (codes "Link") (codes "Port") refl, tt))
      (pairs_one port_row);
  no_loop = λ c n is. no_loop c (ancestor links c (suc n)) (no_parent (ancestor links c n)) is;
  depth = λ c. no_parent (ancestor links c MOST_ANCESTORS);
  member_names = λ c d one other name is_a here there. sym (declared_once c one name here) ∙ declared_once d other name there;
  inverses = λ r row is. inverses_lead_back r.0 row is;
  causes = all_of (λ (row : RuleRow). HasEvent links row.class row.cause) link_rules (has_cut, (has_cut, (has_fail, tt)));
  effects = all_of (λ (row : RuleRow). (d : ClassId) × PathReaches links row.class row.path d × HasEvent links d row.effect) link_rules
      ((link, refl, has_loss), ((port_class, (has_ends, refl), has_no_signal), ((port_class, refl, has_no_signal), tt)));
  repeats = all_of (λ (row : RuleRow). All (MayRepeat links) row.path) link_rules
      (All-nil (MayRepeat links), (all_of (MayRepeat links) (to_ends ∷ []) (λ e. cc, tt), (All-nil (MayRepeat links), tt)));
  blocked = All-nil (λ (row : BlockRow). InheritsRule links row.class row.rule);
  hidden = All-nil (λ (row : HideRow). (has : HasEvent links row.class row.event) × (has.row.symptom ≡ true));
  few_classes = omega arith;
  few_events = λ c. at_most_numbered (λ (e : EventId). e.0) (λ a b same. ap (λ n. let e : EventId = record { 0 = n } in e) same) (HasEvent links c) MOST_EVENTS 4 (λ e has. slice_get_within link_events e.0 has.row has.is) (omega arith);
  few_relations = λ c. at_most_numbered (λ (r : RelId). r.0) (λ a b same. ap (λ n. let r : RelId = record { 0 = n } in r) same) (HasRelation links c) MOST_RELATIONS 2 (λ r has. slice_get_within link_relations r.0 has.row has.is) (omega arith);
  few_rules = λ c. at_most_numbered (λ (n : ℕ). n) (λ a b same. same) (InheritsRule links c) MOST_RULES 3 (λ n has. slice_get_within link_rules n has.0 has.1) (omega arith);
}

pub links_are_typed : WellTyped links
links_are_typed = record { places = have_places; names = have_names; rules = keep_rules }
