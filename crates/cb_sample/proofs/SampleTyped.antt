-- The model of the tests keeps the type rules.
use Rattle.std.proofs.Common.{◌≡◌, ◌≢◌, ℕ, zero, suc, ◌+◌, ◌<◌, ◌≤◌, true, false, cond, List, [], ◌∷◌, length, Option, Some, None, refl, sym, ap, subst, ◌∙◌, inl, inr, arith}
use Rattle.std.specs.Prelude.{slice_get, IsTrue, codes, IfSome}
use Rattle.std.specs.List.{All, AllPairs, list_any}
use Rattle.std.specs.Str.{bytes_eq}
use Rattle.std.proofs.lemmas.Bool.{false≢true, cases_lt}
use Rattle.std.proofs.lemmas.Cmp.{nat_list_eq_equiv}
use Rattle.std.proofs.lemmas.List.Elements.{All-cons, All-nil}
use Rattle.std.proofs.lemmas.List.Kept.{AllPairs-cons}
use Rattle.std.proofs.lemmas.Map.Views.{list_any-from_Contains}
use Rattle.std.proofs.lemmas.Option.{slice_get_within, slice_get_past}
use Rattle.std.proofs.lemmas.Slice.Eq.{bytes_eq-Decides}
use Rattle.cb_text.specs.Names.{IsName, is_letter, is_name_byte, reserved_words}
use Rattle.cb_model.specs.declared.limits.TheConstants.{MOST_ANCESTORS, MOST_EVENTS, MOST_RELATIONS, MOST_RULES}
use Rattle.cb_model.specs.declared.id.ClassId.{ClassId}
use Rattle.cb_model.specs.declared.id.EventId.{EventId}
use Rattle.cb_model.specs.declared.id.RelId.{RelId}
use Rattle.cb_model.specs.declared.tables.ClassRow.{ClassRow}
use Rattle.cb_model.specs.declared.tables.EventRow.{EventRow}
use Rattle.cb_model.specs.declared.tables.RelRow.{RelRow}
use Rattle.cb_model.specs.declared.tables.RuleRow.{RuleRow}
use Rattle.cb_model.specs.declared.tables.BlockRow.{BlockRow}
use Rattle.cb_model.specs.declared.tables.HideRow.{HideRow}
use Rattle.cb_model.specs.Classes.{ancestor, parent_of, parent_of_some, IsA, HasEvent, HasRelation}
use Rattle.cb_sample.specs.Sample.{sample, base, mid, low, port, sample_classes, sample_events, sample_relations, sample_rules}
use Rattle.cb_model.specs.WellTyped.{IsClass, IsEvent, IsRelation, IsPlace, HasPlaces, HasNames, HasInverse, InheritsRule, ClassDeclares, Member, PathReaches, MayRepeat, AtMost, KeepsTypeRules, WellTyped}
use Rattle.cb_model.specs.WellTyped as members
use Rattle.cb_model.proofs.Numbers.{at_most_numbered}

-- the bytes are bytes of names
abbrev Each : List ℕ → Type 0
Each [] = Unit
Each (b ∷ bs) = (is_name_byte b ≡ true) × Each bs

each_all : (bs : List ℕ) → Each bs → All (λ c. IsTrue (is_name_byte c)) bs
each_all [] each = All-nil (λ c. IsTrue (is_name_byte c))
each_all (b ∷ bs) each = All-cons (λ c. IsTrue (is_name_byte c)) b bs each.0 (each_all bs each.1)

named : (b : ℕ) (bs : List ℕ) → is_letter b ≡ true → Each bs → length (b ∷ bs) ≤ 63 → list_any (bytes_eq (b ∷ bs)) reserved_words ≡ false → IsName (b ∷ bs)
named b bs first rest short free = record {
  run = (first, each_all bs rest);
  short = short;
  free = λ is. false≢true (sym free ∙ list_any-from_Contains nat_list_eq_equiv (b ∷ bs) reserved_words is);
}

-- all of two, three and four
all_one : {X : Type 0} (P : X → Type 0) (x : X) → P x → All P (x ∷ [])
all_one P x p = All-cons P x [] p (All-nil P)

all_two : {X : Type 0} (P : X → Type 0) (x y : X) → P x → P y → All P (x ∷ y ∷ [])
all_two P x y p q = All-cons P x (y ∷ []) p (all_one P y q)

all_three : {X : Type 0} (P : X → Type 0) (x y z : X) → P x → P y → P z → All P (x ∷ y ∷ z ∷ [])
all_three P x y z p q r = All-cons P x (y ∷ z ∷ []) p (all_two P y z q r)

all_four : {X : Type 0} (P : X → Type 0) (x y z w : X) → P x → P y → P z → P w → All P (x ∷ y ∷ z ∷ w ∷ [])
all_four P x y z w p q r s = All-cons P x (y ∷ z ∷ w ∷ []) p (all_three P y z w q r s)

pairs_none : {X : Type 0} (R : X → X → Type 0) → AllPairs R []
pairs_none R i j d below within = absurd (omega arith)

differ : (one other : List ℕ) → bytes_eq one other ≡ false → one ≢ other
differ one other apart same = false≢true (sym apart ∙ (bytes_eq-Decides one other).1 same)

same_some : {X : Type 0} (x y : X) → Some x ≡ Some y → x ≡ y
same_some x y is = cc

have_places : HasPlaces sample
have_places = record {
  classes = all_four (λ (row : ClassRow). IfSome row.parent (IsClass sample)) _ _ _ _ tt (omega arith) (omega arith) tt;
  events = all_three (λ (row : EventRow). IsClass sample row.class) _ _ _ (omega arith) (omega arith) (omega arith);
  relations = all_two (λ (row : RelRow). IsClass sample row.class × IsClass sample row.target × IsRelation sample row.inverse) _ _
      (omega arith, omega arith, omega arith) (omega arith, omega arith, omega arith);
  rules = all_two (λ (row : RuleRow). IsClass sample row.class × IsEvent sample row.cause × All (IsPlace sample) row.path × IsEvent sample row.effect) _ _
      (omega arith, omega arith, All-nil (IsPlace sample), omega arith) (omega arith, omega arith, All-nil (IsPlace sample), omega arith);
  blocks = all_one (λ (row : BlockRow). IsClass sample row.class × (row.rule < length sample.rules)) _ (omega arith, omega arith);
  hides = all_one (λ (row : HideRow). IsClass sample row.class × IsEvent sample row.event) _ (omega arith, omega arith);
}

have_names : HasNames sample
have_names = record {
  classes = all_four (λ (row : ClassRow). IsName row.name) _ _ _ _
      (named 66 (97 ∷ 115 ∷ 101 ∷ []) refl (refl, (refl, (refl, tt))) (omega arith) refl)
      (named 77 (105 ∷ 100 ∷ []) refl (refl, (refl, tt)) (omega arith) refl)
      (named 76 (111 ∷ 119 ∷ []) refl (refl, (refl, tt)) (omega arith) refl)
      (named 80 (111 ∷ 114 ∷ 116 ∷ []) refl (refl, (refl, (refl, tt))) (omega arith) refl);
  events = all_three (λ (row : EventRow). IsName row.name) _ _ _ (named 80 [] refl tt (omega arith) refl) (named 83 [] refl tt (omega arith) refl) (named 84 [] refl tt (omega arith) refl);
  relations = all_two (λ (row : RelRow). IsName row.name) _ _
      (named 112 (111 ∷ 114 ∷ 116 ∷ 115 ∷ []) refl (refl, (refl, (refl, (refl, tt)))) (omega arith) refl)
      (named 111 (119 ∷ 110 ∷ 101 ∷ 114 ∷ []) refl (refl, (refl, (refl, (refl, tt)))) (omega arith) refl);
  rules = all_two (λ (row : RuleRow). IsName row.name) _ _ (named 115 [] refl tt (omega arith) refl) (named 116 [] refl tt (omega arith) refl);
}

-- a parent stands before the class
parent_below : (k : ℕ) (p : ClassId) → parent_of sample (record { 0 = k }) ≡ Some p → p.0 + 1 ≤ k
parent_below zero p is = absurd (cc is)
parent_below (suc zero) p is = let same : record { 0 = 0 } ≡ p = cc is in omega (arith, ap (λ (c : ClassId). c.0) same)
parent_below (suc (suc zero)) p is = let same : record { 0 = 1 } ≡ p = cc is in omega (arith, ap (λ (c : ClassId). c.0) same)
parent_below (suc (suc (suc zero))) p is = absurd (cc is)
parent_below (suc (suc (suc (suc k)))) p is = absurd (cc is)

-- so does each ancestor, by as many places as it is steps above
above_some : (n k : ℕ) (a : ClassId) (o : Option ClassId) → ((b : ClassId) → o ≡ Some b → b.0 + n ≤ k) → parent_of_some sample o ≡ Some a → a.0 + suc n ≤ k
above_some n k a None before is = absurd (cc is)
above_some n k a (Some b) before is = omega (arith, before b refl, parent_below b.0 a is)

ancestor_below : (c : ClassId) (n : ℕ) (a : ClassId) → ancestor sample c n ≡ Some a → a.0 + n ≤ c.0
ancestor_below c zero a is = let same : c ≡ a = cc is in omega (arith, ap (λ (c : ClassId). c.0) same)
ancestor_below c (suc n) a is = above_some n c.0 a (ancestor sample c n) (ancestor_below c n) is

-- only places of classes have parents
parent_within : (c a : ClassId) (n : ℕ) → ancestor sample c (suc n) ≡ Some a → c.0 < 4
parent_within c a zero is = elim (cases_lt c.0 4) [
  | inl early ↦ early
  | inr high ↦ let past = slice_get_past sample_classes c.0 high in absurd (cc)
]
parent_within c a (suc n) is = elim (ancestor sample c (suc n)) as (λ o. ancestor sample c (suc n) ≡ o → c.0 < 4) [
  | None ↦ λ none. absurd (cc (sym (ap (parent_of_some sample) none) ∙ is))
  | Some b ↦ λ some. parent_within c b n some
] refl

no_depth : (c : ClassId) (o : Option ClassId) → ancestor sample c (suc MOST_ANCESTORS) ≡ o → o ≡ None
no_depth c None is = refl
no_depth c (Some a) is =
    let within = parent_within c a MOST_ANCESTORS is in
    let below = ancestor_below c (suc MOST_ANCESTORS) a is in
    absurd (omega (arith, within, below))

-- the member of each name
decode : List ℕ → Member
decode name =
    cond (bytes_eq name (codes "P")) (members.event 0)
    (cond (bytes_eq name (codes "S")) (members.event 1)
    (cond (bytes_eq name (codes "T")) (members.event 2)
    (cond (bytes_eq name (codes "ports")) (members.relation 0)
    (cond (bytes_eq name (codes "owner")) (members.relation 1)
    (cond (bytes_eq name (codes "s")) (members.rule 0) (members.rule 1))))))

declared_once : (c : ClassId) (m : Member) (name : List ℕ) → ClassDeclares sample c m name → decode name ≡ m
unfolding decode
declared_once c (members.event zero) name (row, is, of_c, called) = ap decode (sym called ∙ ap (λ (r : EventRow). r.name) (same_some _ _ (sym is)))
declared_once c (members.event (suc zero)) name (row, is, of_c, called) = ap decode (sym called ∙ ap (λ (r : EventRow). r.name) (same_some _ _ (sym is)))
declared_once c (members.event (suc (suc zero))) name (row, is, of_c, called) = ap decode (sym called ∙ ap (λ (r : EventRow). r.name) (same_some _ _ (sym is)))
declared_once c (members.event (suc (suc (suc n)))) name (row, is, of_c, called) = absurd (cc is)
declared_once c (members.relation zero) name (row, is, of_c, called) = ap decode (sym called ∙ ap (λ (r : RelRow). r.name) (same_some _ _ (sym is)))
declared_once c (members.relation (suc zero)) name (row, is, of_c, called) = ap decode (sym called ∙ ap (λ (r : RelRow). r.name) (same_some _ _ (sym is)))
declared_once c (members.relation (suc (suc n))) name (row, is, of_c, called) = absurd (cc is)
declared_once c (members.rule zero) name (row, is, of_c, called) = ap decode (sym called ∙ ap (λ (r : RuleRow). r.name) (same_some _ _ (sym is)))
declared_once c (members.rule (suc zero)) name (row, is, of_c, called) = ap decode (sym called ∙ ap (λ (r : RuleRow). r.name) (same_some _ _ (sym is)))
declared_once c (members.rule (suc (suc n))) name (row, is, of_c, called) = absurd (cc is)

inverses_lead_back : (n : ℕ) (row : RelRow) → slice_get sample_relations n ≡ Some row → HasInverse sample (record { 0 = n }) row
inverses_lead_back zero row is = subst (HasInverse sample (record { 0 = 0 })) (same_some _ _ is) (record { back = _; is = refl; from_target = refl; to_class = refl; again = refl })
inverses_lead_back (suc zero) row is = subst (HasInverse sample (record { 0 = 1 })) (same_some _ _ is) (record { back = _; is = refl; from_target = refl; to_class = refl; again = refl })
inverses_lead_back (suc (suc n)) row is = absurd (cc is)

has_event : (e : EventId) (row : EventRow) → slice_get sample_events e.0 ≡ Some row → (c : ClassId) → IsA sample c row.class → HasEvent sample c e
has_event e row is c up = record { row = row; is = is; from_c = up }

abbrev AreApart : ClassRow → ClassRow → Type 0
AreApart one other = one.name ≢ other.name

keep_rules : KeepsTypeRules sample
keep_rules = record {
  class_names = AllPairs-cons AreApart base (mid ∷ low ∷ port ∷ [])
      (all_three (AreApart base) mid low port (differ (codes "Base") (codes "Mid") refl) (differ (codes "Base") (codes "Low") refl) (differ (codes "Base") (codes "Port") refl))
      (AllPairs-cons AreApart mid (low ∷ port ∷ []) (all_two (AreApart mid) low port (differ (codes "Mid") (codes "Low") refl) (differ (codes "Mid") (codes "Port") refl))
      (AllPairs-cons AreApart low (port ∷ []) (all_one (AreApart low) port (differ (codes "Low") (codes "Port") refl))
      (AllPairs-cons AreApart port [] (All-nil (AreApart port)) (pairs_none AreApart))));
  no_loop = λ c n is. absurd (omega (arith, ancestor_below c (suc n) c is));
  depth = λ c. no_depth c (ancestor sample c (suc MOST_ANCESTORS)) refl;
  member_names = λ c d one other name is_a here there. sym (declared_once c one name here) ∙ declared_once d other name there;
  inverses = λ r row is. inverses_lead_back r.0 row is;
  causes = all_two (λ (row : RuleRow). HasEvent sample row.class row.cause) _ _ (has_event (record { 0 = 0 }) _ refl (record { 0 = 0 }) (0, refl)) (has_event (record { 0 = 0 }) _ refl (record { 0 = 0 }) (0, refl));
  effects = all_two (λ (row : RuleRow). (d : ClassId) × PathReaches sample row.class row.path d × HasEvent sample d row.effect) _ _
      (record { 0 = 0 }, refl, has_event (record { 0 = 1 }) _ refl (record { 0 = 0 }) (0, refl)) (record { 0 = 0 }, refl, has_event (record { 0 = 2 }) _ refl (record { 0 = 0 }) (0, refl));
  repeats = all_two (λ (row : RuleRow). All (MayRepeat sample) row.path) _ _ (All-nil (MayRepeat sample)) (All-nil (MayRepeat sample));
  blocked = all_one (λ (row : BlockRow). InheritsRule sample row.class row.rule) _ (_, refl, (1, refl));
  hidden = all_one (λ (row : HideRow). (has : HasEvent sample row.class row.event) × (has.row.symptom ≡ true)) _ (record { row = _; is = refl; from_c = (2, refl) }, refl);
  few_classes = omega arith;
  few_events = λ c. at_most_numbered (λ (e : EventId). e.0) (λ a b same. ap (λ n. let e : EventId = record { 0 = n } in e) same) (HasEvent sample c) MOST_EVENTS 3 (λ e has. slice_get_within sample_events e.0 has.row has.is) (omega arith);
  few_relations = λ c. at_most_numbered (λ (r : RelId). r.0) (λ a b same. ap (λ n. let r : RelId = record { 0 = n } in r) same) (HasRelation sample c) MOST_RELATIONS 2 (λ r has. slice_get_within sample_relations r.0 has.row has.is) (omega arith);
  few_rules = λ c. at_most_numbered (λ (n : ℕ). n) (λ a b same. same) (InheritsRule sample c) MOST_RULES 2 (λ n has. slice_get_within sample_rules n has.0 has.1) (omega arith);
}

pub sample_is_typed : WellTyped sample
sample_is_typed = record { places = have_places; names = have_names; rules = keep_rules }

-- so do tables with the same rows
pub typed_as_sample : (classes : List ClassRow) (events : List EventRow) (relations : List RelRow) (rules : List RuleRow) (blocks : List BlockRow) (hides : List HideRow) →
    classes ≡ sample.classes → events ≡ sample.events → relations ≡ sample.relations → rules ≡ sample.rules → blocks ≡ sample.blocks → hides ≡ sample.hides →
    WellTyped (record { classes = classes; events = events; relations = relations; rules = rules; blocks = blocks; hides = hides })
typed_as_sample classes events relations rules blocks hides c e r u b h =
    subst (λ xs. WellTyped (record { classes = xs; events = events; relations = relations; rules = rules; blocks = blocks; hides = hides })) (sym c)
    (subst (λ xs. WellTyped (record { classes = sample.classes; events = xs; relations = relations; rules = rules; blocks = blocks; hides = hides })) (sym e)
    (subst (λ xs. WellTyped (record { classes = sample.classes; events = sample.events; relations = xs; rules = rules; blocks = blocks; hides = hides })) (sym r)
    (subst (λ xs. WellTyped (record { classes = sample.classes; events = sample.events; relations = sample.relations; rules = xs; blocks = blocks; hides = hides })) (sym u)
    (subst (λ xs. WellTyped (record { classes = sample.classes; events = sample.events; relations = sample.relations; rules = sample.rules; blocks = xs; hides = hides })) (sym b)
    (subst (λ xs. WellTyped (record { classes = sample.classes; events = sample.events; relations = sample.relations; rules = sample.rules; blocks = sample.blocks; hides = xs })) (sym h) sample_is_typed)))))
