-- The model of the tests keeps the type rules.
use Rattle.std.proofs.Common.{◌≡◌, ℕ, zero, suc, ◌<◌, ◌≤◌, true, false, cond, List, [], ◌∷◌, length, Option, Some, None, refl, sym, ap, subst, ◌∙◌, arith}
use Rattle.std.specs.Prelude.{slice_get, IsTrue, codes, IfSome}
use Rattle.std.specs.List.{All, list_any}
use Rattle.std.specs.Str.{bytes_eq}
use Rattle.std.proofs.lemmas.Bool.{false≢true}
use Rattle.std.proofs.lemmas.Cmp.{nat_list_eq_equiv}
use Rattle.std.proofs.lemmas.List.Elements.{All-cons, All-nil}
use Rattle.std.proofs.lemmas.Map.Views.{list_any-from_Contains}
use Rattle.std.proofs.lemmas.Option.{slice_get_within}
use Rattle.cb_text.specs.Names.{IsName, is_letter, is_name_byte, reserved_words}
use Rattle.cb_model.specs.declared.limits.TheConstants.{MOST_ANCESTORS, MOST_EVENTS, MOST_RELATIONS, MOST_RULES}
use Rattle.cb_model.specs.declared.id.ClassId.{ClassId}
use Rattle.cb_model.specs.declared.id.EventId.{EventId}
use Rattle.cb_model.specs.declared.id.RelId.{RelId}
use Rattle.cb_model.specs.declared.tables.ClassRow.{ClassRow}
use Rattle.cb_model.specs.declared.tables.EventRow.{EventRow}
use Rattle.cb_model.specs.declared.tables.RelRow.{RelRow}
use Rattle.cb_model.specs.declared.tables.RuleRow.{RuleRow}
use Rattle.cb_model.specs.declared.tables.BlockRow.{BlockRow}
use Rattle.cb_model.specs.declared.tables.HideRow.{HideRow}
use Rattle.cb_model.specs.Classes.{ancestor, parent_of, parent_of_some, HasEvent, HasRelation}
use Rattle.cb_model.specs.WellTyped.{IsClass, IsEvent, IsRelation, IsPlace, HasPlaces, HasNames, HasInverse, InheritsRule, ClassDeclares, Member, PathReaches, MayRepeat, KeepsTypeRules, WellTyped}
use Rattle.cb_model.specs.WellTyped as members
use Rattle.cb_model.proofs.Numbers.{at_most_numbered}
use Rattle.cb_graph.specs.Pipes.{pipes, pipe_classes, pipe_events, pipe_relations, pipe_rules, next_step}

-- each item in turn is such that P
abbrev Each : {X : Type 0} → (X → Type 0) → List X → Type 0
Each P [] = Unit {0}
Each P (x ∷ xs) = P x × Each P xs

all_of : {X : Type 0} (P : X → Type 0) (xs : List X) → Each P xs → All P xs
all_of P [] each = All-nil P
all_of P (x ∷ xs) each = All-cons P x xs each.0 (all_of P xs each.1)

named : (b : ℕ) (bs : List ℕ) → is_letter b ≡ true → Each (λ c. is_name_byte c ≡ true) bs → length (b ∷ bs) ≤ 63 → list_any (bytes_eq (b ∷ bs)) reserved_words ≡ false → IsName (b ∷ bs)
named b bs first rest short free = record {
  run = (first, all_of (λ c. IsTrue (is_name_byte c)) bs rest);
  short = short;
  free = λ is. false≢true (sym free ∙ list_any-from_Contains nat_list_eq_equiv (b ∷ bs) reserved_words is);
}

abbrev pipe : ClassId
pipe = record { 0 = 0 }

have_places : HasPlaces pipes
have_places = record {
  classes = all_of (λ (row : ClassRow). IfSome row.parent (IsClass pipes)) pipe_classes (tt, tt);
  events = all_of (λ (row : EventRow). IsClass pipes row.class) pipe_events (omega arith, (omega arith, tt));
  relations = all_of (λ (row : RelRow). IsClass pipes row.class × IsClass pipes row.target × IsRelation pipes row.inverse) pipe_relations
      ((omega arith, omega arith, omega arith), ((omega arith, omega arith, omega arith), tt));
  rules = all_of (λ (row : RuleRow). IsClass pipes row.class × IsEvent pipes row.cause × All (IsPlace pipes) row.path × IsEvent pipes row.effect) pipe_rules (
    (omega arith, omega arith, all_of (IsPlace pipes) (next_step ∷ []) (omega arith, tt), omega arith),
    ((omega arith, omega arith, all_of (IsPlace pipes) (next_step ∷ next_step ∷ []) (omega arith, (omega arith, tt)), omega arith), tt),
  );
  blocks = All-nil (λ (row : BlockRow). IsClass pipes row.class × (row.rule < length pipes.rules));
  hides = All-nil (λ (row : HideRow). IsClass pipes row.class × IsEvent pipes row.event);
}

have_names : HasNames pipes
have_names = record {
  classes = all_of (λ (row : ClassRow). IsName row.name) pipe_classes (named 80 (105 ∷ 112 ∷ 101 ∷ []) refl (refl, (refl, (refl, tt))) (omega arith) refl, tt);
  events = all_of (λ (row : EventRow). IsName row.name) pipe_events (
    named 76 (101 ∷ 97 ∷ 107 ∷ []) refl (refl, (refl, (refl, tt))) (omega arith) refl,
    (named 68 (114 ∷ 121 ∷ []) refl (refl, (refl, tt)) (omega arith) refl, tt),
  );
  relations = all_of (λ (row : RelRow). IsName row.name) pipe_relations (
    named 110 (101 ∷ 120 ∷ 116 ∷ []) refl (refl, (refl, (refl, tt))) (omega arith) refl,
    (named 98 (97 ∷ 99 ∷ 107 ∷ []) refl (refl, (refl, (refl, tt))) (omega arith) refl, tt),
  );
  rules = all_of (λ (row : RuleRow). IsName row.name) pipe_rules (
    named 110 (101 ∷ 97 ∷ 114 ∷ []) refl (refl, (refl, (refl, tt))) (omega arith) refl,
    (named 102 (97 ∷ 114 ∷ []) refl (refl, (refl, tt)) (omega arith) refl, tt),
  );
}

-- no class has a parent
no_parent_at : (k : ℕ) → parent_of pipes (record { 0 = k }) ≡ None
no_parent_at zero = refl
no_parent_at (suc k) = refl

no_parent : (o : Option ClassId) → parent_of_some pipes o ≡ None
no_parent None = refl
no_parent (Some c) = no_parent_at c.0

no_loop : (c : ClassId) (o : Option ClassId) → o ≡ None → o ≡ Some c → ⊥
no_loop c o none is = cc

-- the member of each name
decode : List ℕ → Member
decode name =
    cond (bytes_eq name (codes "Leak")) (members.event 0)
    (cond (bytes_eq name (codes "Dry")) (members.event 1)
    (cond (bytes_eq name (codes "next")) (members.relation 0)
    (cond (bytes_eq name (codes "back")) (members.relation 1)
    (cond (bytes_eq name (codes "near")) (members.rule 0) (members.rule 1)))))

same_some : {X : Type 0} (x y : X) → Some x ≡ Some y → x ≡ y
same_some x y is = cc

declared_once : (c : ClassId) (m : Member) (name : List ℕ) → ClassDeclares pipes c m name → decode name ≡ m
unfolding decode
declared_once c (members.event zero) name (row, is, of_c, called) = ap decode (sym called ∙ ap (λ (r : EventRow). r.name) (same_some _ _ (sym is)))
declared_once c (members.event (suc zero)) name (row, is, of_c, called) = ap decode (sym called ∙ ap (λ (r : EventRow). r.name) (same_some _ _ (sym is)))
declared_once c (members.event (suc (suc n))) name (row, is, of_c, called) = absurd (cc is)
declared_once c (members.relation zero) name (row, is, of_c, called) = ap decode (sym called ∙ ap (λ (r : RelRow). r.name) (same_some _ _ (sym is)))
declared_once c (members.relation (suc zero)) name (row, is, of_c, called) = ap decode (sym called ∙ ap (λ (r : RelRow). r.name) (same_some _ _ (sym is)))
declared_once c (members.relation (suc (suc n))) name (row, is, of_c, called) = absurd (cc is)
declared_once c (members.rule zero) name (row, is, of_c, called) = ap decode (sym called ∙ ap (λ (r : RuleRow). r.name) (same_some _ _ (sym is)))
declared_once c (members.rule (suc zero)) name (row, is, of_c, called) = ap decode (sym called ∙ ap (λ (r : RuleRow). r.name) (same_some _ _ (sym is)))
declared_once c (members.rule (suc (suc n))) name (row, is, of_c, called) = absurd (cc is)

inverses_lead_back : (n : ℕ) (row : RelRow) → slice_get pipe_relations n ≡ Some row → HasInverse pipes (record { 0 = n }) row
inverses_lead_back zero row is = subst (HasInverse pipes (record { 0 = 0 })) (same_some _ _ is) (record { back = _; is = refl; from_target = refl; to_class = refl; again = refl })
inverses_lead_back (suc zero) row is = subst (HasInverse pipes (record { 0 = 1 })) (same_some _ _ is) (record { back = _; is = refl; from_target = refl; to_class = refl; again = refl })
inverses_lead_back (suc (suc n)) row is = absurd (cc is)

abbrev has_leak : HasEvent pipes pipe (record { 0 = 0 })
has_leak = record { row = _; is = refl; from_c = (0, refl) }

abbrev has_dry : HasEvent pipes pipe (record { 0 = 1 })
has_dry = record { row = _; is = refl; from_c = (0, refl) }

abbrev has_next : HasRelation pipes pipe next_step.rel
has_next = record { row = _; is = refl; from_c = (0, refl) }

keep_rules : KeepsTypeRules pipes
keep_rules = record {
  class_names = λ i j d below within. absurd (omega arith);
  no_loop = λ c n is. no_loop c (ancestor pipes c (suc n)) (no_parent (ancestor pipes c n)) is;
  depth = λ c. no_parent (ancestor pipes c MOST_ANCESTORS);
  member_names = λ c d one other name is_a here there. sym (declared_once c one name here) ∙ declared_once d other name there;
  inverses = λ r row is. inverses_lead_back r.0 row is;
  causes = all_of (λ (row : RuleRow). HasEvent pipes row.class row.cause) pipe_rules (has_leak, (has_leak, tt));
  effects = all_of (λ (row : RuleRow). (d : ClassId) × PathReaches pipes row.class row.path d × HasEvent pipes d row.effect) pipe_rules
      ((pipe, (has_next, refl), has_dry), ((pipe, (has_next, (has_next, refl)), has_dry), tt));
  repeats = all_of (λ (row : RuleRow). All (MayRepeat pipes) row.path) pipe_rules (
    all_of (MayRepeat pipes) (next_step ∷ []) (λ e. cc, tt),
    (all_of (MayRepeat pipes) (next_step ∷ next_step ∷ []) (λ e. cc, (λ e. cc, tt)), tt),
  );
  blocked = All-nil (λ (row : BlockRow). InheritsRule pipes row.class row.rule);
  hidden = All-nil (λ (row : HideRow). (has : HasEvent pipes row.class row.event) × (has.row.symptom ≡ true));
  few_classes = omega arith;
  few_events = λ c. at_most_numbered (λ (e : EventId). e.0) (λ a b same. ap (λ n. let e : EventId = record { 0 = n } in e) same) (HasEvent pipes c) MOST_EVENTS 2 (λ e has. slice_get_within pipe_events e.0 has.row has.is) (omega arith);
  few_relations = λ c. at_most_numbered (λ (r : RelId). r.0) (λ a b same. ap (λ n. let r : RelId = record { 0 = n } in r) same) (HasRelation pipes c) MOST_RELATIONS 2 (λ r has. slice_get_within pipe_relations r.0 has.row has.is) (omega arith);
  few_rules = λ c. at_most_numbered (λ (n : ℕ). n) (λ a b same. same) (InheritsRule pipes c) MOST_RULES 2 (λ n has. slice_get_within pipe_rules n has.0 has.1) (omega arith);
}

pub pipes_are_typed : WellTyped pipes
pipes_are_typed = record { places = have_places; names = have_names; rules = keep_rules }
