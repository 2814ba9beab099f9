-- What an instance's class has, by its number and by its name.
use Rattle.std.proofs.Common.{◌≡◌, ◌↔◌, ℕ, zero, suc, ◌<◌, List, [], ◌∷◌, length, refl, sym, ap, subst, ◌∙◌, Bool, false, not, IsTrue, None, Some, arith}
use Rattle.std.specs.Bool.{◌==◌}
use Rattle.std.specs.List.{Contains, slice_get}
use Rattle.std.proofs.lemmas.Bool.{ne_eqb}
use Rattle.std.proofs.lemmas.Option.{slice_get_within}
use Rattle.cb_model.specs.declared.id.ClassId.{ClassId}
use Rattle.cb_model.specs.declared.id.EventId.{EventId}
use Rattle.cb_model.specs.declared.id.RelId.{RelId}
use Rattle.cb_model.specs.declared.tables.EventRow.{EventRow}
use Rattle.cb_model.specs.declared.tables.RelRow.{RelRow}
use Rattle.cb_model.specs.declared.tables.Tables.{Tables}
use Rattle.cb_model.specs.Classes.{IsA, ancestor, parent_of, parent_of_some, parent_in_row, HasEvent, HasRelation, NamesEvent, NamesRelation, IsSymptomOf}
use Rattle.cb_model.specs.WellTyped.{WellTyped, IsClass, IsRelation}
use Rattle.cb_model.proofs.Numbers.{all_at}
use Rattle.cb_model.proofs.Rising.{nothing_in_empty, contains_head}
use Rattle.cb_network.specs.Topology.{HasClass, HasLink}
use Rattle.cb_network.specs.Nodes.{IsSymptomNode}
use Rattle.cb_network.specs.Edits.{node_name_of, IsRelationAt, HasRelationAt, IsOneUsedUp}
use Rattle.cb_instances.specs.declared.id.InstanceId.{InstanceId}
use Rattle.cb_instances.specs.Net.{Net, IsNamed, LinkAt, IsWholeNet, name_at, name_or, name_in_row, event_name}
use Rattle.cb_accept.specs.Refusals.{IsClassAt, FitsTarget, IsSymptomAt}
use Rattle.cb_accept.proofs.Changed.{one_class_of}
use Rattle.cb_accept.proofs.Members.{one_event}

-- a class with an ancestor in the tables is in them
class_of_heir : (t : Tables) (c b : ClassId) (k : ℕ) → ancestor t c k ≡ Some b → IsClass t b → IsClass t c
class_of_heir t c b zero is within = let same : b ≡ c = cc in subst (IsClass t) same within
class_of_heir t c b (suc k) is within = elim (ancestor t c k) as (λ o. ancestor t c k ≡ o → parent_of_some t o ≡ Some b → IsClass t c) [
  | None ↦ λ _ none. absurd (cc)
  | Some d ↦ λ up parent. class_of_heir t c d k up (child d parent)
] refl is
  where
    child : (d : ClassId) → parent_of t d ≡ Some b → IsClass t d
    child d parent = elim (slice_get t.classes d.0) as (λ o. slice_get t.classes d.0 ≡ o → parent_in_row o ≡ Some b → IsClass t d) [
      | None ↦ λ _ none. absurd (cc)
      | Some row ↦ λ at _. slice_get_within t.classes d.0 row at
    ] refl parent

module _ (t : Tables) (typed : WellTyped t) where
  pub class_with_relation : (c : ClassId) (r : RelId) → HasRelation t c r → IsClass t c
  class_with_relation c r has =
      class_of_heir t c has.row.class has.from_c.0 has.from_c.1
      (all_at (λ (row : RelRow). IsClass t row.class × IsClass t row.target × IsRelation t row.inverse) t.relations r.0 has.row has.is typed.places.relations).0

  pub class_with_event : (c : ClassId) (e : EventId) → HasEvent t c e → IsClass t c
  class_with_event c e has =
      class_of_heir t c has.row.class has.from_c.0 has.from_c.1 (all_at (λ (row : EventRow). IsClass t row.class) t.events e.0 has.row has.is typed.places.events)

  pub target_is_class : (r : RelId) (row : RelRow) → slice_get t.relations r.0 ≡ Some row → IsClass t row.target
  target_is_class r row is = (all_at (λ (row : RelRow). IsClass t row.class × IsClass t row.target × IsRelation t row.inverse) t.relations r.0 row is typed.places.relations).1

  pub inverse_is_relation : (r : RelId) (row : RelRow) → slice_get t.relations r.0 ≡ Some row → IsRelation t row.inverse
  inverse_is_relation r row is = (all_at (λ (row : RelRow). IsClass t row.class × IsClass t row.target × IsRelation t row.inverse) t.relations r.0 row is typed.places.relations).2

  pub class_of_kind : (c : ClassId) (r : RelId) (row : RelRow) → slice_get t.relations r.0 ≡ Some row → IsA t c row.target → IsClass t c
  class_of_kind c r row is kind = class_of_heir t c row.target kind.0 kind.1 (target_is_class r row is)

module _ (n : Net) (id : InstanceId) where
  -- a number has one name
  pub one_name : (a b : List ℕ) → IsNamed n id a → IsNamed n id b → a ≡ b
  one_name a b at_a at_b =
      let e : Some a ≡ Some b = sym at_a ∙ at_b in
      cc

  pub name_is : (a : List ℕ) → IsNamed n id a → name_at n id ≡ a
  name_is a named = ap name_or named

  pub of_class : (class : ClassId) (a : List ℕ) → IsClassAt n id class → IsNamed n id a → HasClass n.topology a class
  of_class class a at named = subst (λ b. HasClass n.topology b class) (one_name at.name a at.named named) at.of_class

  pub one_class_at : (class : ClassId) (a : List ℕ) (c : ClassId) → IsClassAt n id class → IsNamed n id a → HasClass n.topology a c → c ≡ class
  one_class_at class a c at named is = one_class_of n.topology a c class is (of_class class a at named)

  module _ (tables : Tables) (same : tables ≡ n.topology.model) where
    pub relation_found : (class : ClassId) → IsClassAt n id class → (name : List ℕ) (rel : RelId) → NamesRelation tables class name rel → (a : List ℕ) → IsNamed n id a
        → IsRelationAt n.topology a name rel
    relation_found class at name rel names a named = record {
      class = class;
      of_class = of_class class a at named;
      named = subst (λ (m : Tables). NamesRelation m class name rel) same names;
    }

    pub no_relation : (class : ClassId) → IsClassAt n id class → (name : List ℕ) → ((rel : RelId) → ¬ NamesRelation tables class name rel) → (a : List ℕ) → IsNamed n id a
        → ¬ HasRelationAt n.topology a name
    no_relation class at name none a named (rel, has) =
        none rel (subst (λ (m : Tables). NamesRelation m class name rel) (sym same)
        (subst (λ c. NamesRelation n.topology.model c name rel) (one_class_at class a has.class at named has.of_class) has.named))

    pub event_within : (class : ClassId) (name : List ℕ) (e : EventId) → NamesEvent tables class name e → e.0 < length n.topology.model.events
    event_within class name e names =
        let (has, _) = subst (λ (m : Tables). NamesEvent m class name e) same names in
        slice_get_within n.topology.model.events e.0 has.row has.is

    pub symptom_found : (class : ClassId) → IsClassAt n id class → (name : List ℕ) (e : EventId) → NamesEvent tables class name e → IsSymptomOf n.topology.model class e
        → (a : List ℕ) → IsNamed n id a → IsSymptomAt n id name a e
    symptom_found class at name e names symptom a named =
        let (has, is) = subst (λ (m : Tables). NamesEvent m class name e) same names in
        let row : symptom.has.row ≡ has.row = cc (sym symptom.has.is ∙ has.is) in
        let here = of_class class a at named in
        let at_name = name_is a named in
        let at_event : event_name n.topology.model e ≡ name = ap name_in_row has.is ∙ is in
        record {
          symptom = record { class = class; of_class = here; event = e; symptom = symptom; named = ap (λ (r : EventRow). r.name) row ∙ is };
          has = (class, subst (λ b. HasClass n.topology b class) (sym at_name) here, has);
          node = λ i. node_name_of (at_event i) (at_name i);
        }

    pub no_event : (class : ClassId) → IsClassAt n id class → (name : List ℕ) → ((e : EventId) → ¬ NamesEvent tables class name e) → (a : List ℕ) → IsNamed n id a
        → ¬ IsSymptomNode n.topology (node_name_of name a)
    no_event class at name none a named s =
        none s.event (subst (λ (m : Tables). NamesEvent m class name s.event) (sym same)
        (subst (λ c. NamesEvent n.topology.model c name s.event) (one_class_at class a s.class at named s.of_class) (s.symptom.has, s.named)))

    pub no_symptom : WellTyped n.topology.model → (class : ClassId) → IsClassAt n id class → (name : List ℕ) (e : EventId) → NamesEvent tables class name e
        → ¬ IsSymptomOf n.topology.model class e → (a : List ℕ) → IsNamed n id a → ¬ IsSymptomNode n.topology (node_name_of name a)
    no_symptom typed class at name e names other a named s =
        let here = subst (λ (m : Tables). NamesEvent m class name e) same names in
        let own = one_class_at class a s.class at named s.of_class in
        let (symptom, is) = subst (λ c. (symptom : IsSymptomOf n.topology.model c s.event) × (symptom.has.row.name ≡ name)) own (s.symptom, s.named) in
        let event = one_event n.topology.model typed class name s.event e (symptom.has, is) here in
        other (subst (IsSymptomOf n.topology.model class) event symptom)

  -- a class that the model lacks has nothing
  module _ (typed : WellTyped n.topology.model) (lacks : (class : ClassId) → ¬ IsClassAt n id class) (a : List ℕ) (named : IsNamed n id a) where
    lacking : (c : ClassId) → HasClass n.topology a c → ¬ IsClass n.topology.model c
    lacking c is within = lacks c (record { name = a; named = named; of_class = is; within = within })

    pub lacks_relation : (name : List ℕ) → ¬ HasRelationAt n.topology a name
    lacks_relation name (rel, at) = lacking at.class at.of_class (class_with_relation n.topology.model typed at.class rel at.named.0)

    pub lacks_symptom : (name : List ℕ) → ¬ IsSymptomNode n.topology (node_name_of name a)
    lacks_symptom name s = lacking s.class s.of_class (class_with_event n.topology.model typed s.class s.event s.symptom.has)

    pub lacks_kind : (rel : RelId) → ¬ FitsTarget n.topology a rel
    lacks_kind rel fits = lacking fits.class fits.of_class (class_of_kind n.topology.model typed fits.class rel fits.row fits.is fits.kind)

  pub kind_is : (class : ClassId) → IsClassAt n id class → (rel : RelId) (row : RelRow) → slice_get n.topology.model.relations rel.0 ≡ Some row → (b : Bool)
      → IsTrue b ↔ IsA n.topology.model class row.target → (a : List ℕ) → IsNamed n id a → IsTrue b ↔ FitsTarget n.topology a rel
  kind_is class at rel row is b tells a named = (
    λ yes. record { class = class; of_class = of_class class a at named; row = row; is = is; kind = tells.0 yes },
    λ fits.
        let own = one_class_at class a fits.class at named fits.of_class in
        let one : fits.row ≡ row = cc (sym fits.is ∙ is) in
        let target = ap (λ (r : RelRow). r.target) one in
        tells.1 (subst (λ c. IsA n.topology.model c row.target) own (subst (IsA n.topology.model fits.class) target fits.kind)),
  )

  -- one link is enough where one is allowed
  pub taken_is : IsWholeNet n → (rel : RelId) (row : RelRow) → slice_get n.topology.model.relations rel.0 ≡ Some row → row.many ≡ false → (links : List InstanceId)
      → ((to : InstanceId) → Contains links to ↔ LinkAt n id rel to) → (b : Bool) → b ≡ (length links == 0) → (a : List ℕ) → IsNamed n id a
      → IsTrue (not b) ↔ IsOneUsedUp n.topology a rel
  taken_is whole rel row is one [] exactly b empty a named = (
    λ yes. let e = sym yes ∙ ap not empty in absurd (cc),
    λ (_, (to, link)).
        let (i, j, from_is, to_is) = whole.ends a rel to link in
        let same = whole.one i id a from_is named in
        absurd (nothing_in_empty j ((exactly j).1 (record { from = a; to = to; from_is = named; to_is = to_is; linked = link }))),
  )
  taken_is whole rel row is one (j ∷ links) exactly b empty a named = (
    λ yes.
        let at = (exactly j).0 (contains_head j links) in
        ((row, is, one), (at.to, subst (λ x. HasLink n.topology x rel at.to) (one_name at.from a at.from_is named) at.linked)),
    λ _. ap not (empty ∙ ne_eqb (length (j ∷ links)) 0 (λ (e : length (j ∷ links) ≡ 0). absurd (omega arith))),
  )
