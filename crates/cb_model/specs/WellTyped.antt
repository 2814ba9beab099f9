-- The rules that the tables of a model keep.
use Rattle.std.specs.Prelude.{◌≡◌, ◌≢◌, ℕ, suc, ◌<◌, ◌≤◌, List, [], ◌∷◌, length, Some, None, slice_get, IfSome, true}
use Rattle.std.specs.List.{All, AllPairs}
use Rattle.cb_text.specs.Names.{IsName}
use Rattle.cb_model.specs.Limits.{class_limit, ancestor_limit, event_limit, relation_limit, rule_limit}
use Rattle.cb_model.specs.declared.id.ClassId.{ClassId}
use Rattle.cb_model.specs.declared.id.EventId.{EventId}
use Rattle.cb_model.specs.declared.id.RelId.{RelId}
use Rattle.cb_model.specs.declared.tables.Tables.{Tables}
use Rattle.cb_model.specs.declared.tables.EventRow.{EventRow}
use Rattle.cb_model.specs.declared.tables.Place.{Place}
use Rattle.cb_model.specs.declared.tables.RelRow.{RelRow}
use Rattle.cb_model.specs.declared.tables.RuleRow.{RuleRow}
use Rattle.cb_model.specs.Classes.{ancestor, IsA, HasEvent, HasRelation}

-- the numbers that are positions of rows
abbrev pub IsClass : Tables → ClassId → Type 0
IsClass t c = c.0 < length t.classes

abbrev pub IsEvent : Tables → EventId → Type 0
IsEvent t e = e.0 < length t.events

abbrev pub IsRelation : Tables → RelId → Type 0
IsRelation t r = r.0 < length t.relations

-- the relation of the place of a path is a row's number
abbrev pub IsPlace : Tables → Place → Type 0
IsPlace t place = IsRelation t place.rel

-- every number in a row is the position of a row
pub record HasPlaces (t : Tables) : Type 0 where
  pub classes : All (λ row. IfSome row.parent (IsClass t)) t.classes
  pub events : All (λ row. IsClass t row.class) t.events
  pub relations : All (λ row. IsClass t row.class × IsClass t row.target × IsRelation t row.inverse) t.relations
  pub rules : All (λ row. IsClass t row.class × IsEvent t row.cause × All (IsPlace t) row.path × IsEvent t row.effect) t.rules
  pub blocks : All (λ row. IsClass t row.class × (row.rule < length t.rules)) t.blocks
  pub hides : All (λ row. IsClass t row.class × IsEvent t row.event) t.hides

-- every name in a row is a name
pub record HasNames (t : Tables) : Type 0 where
  pub classes : All (λ row. IsName row.name) t.classes
  pub events : All (λ row. IsName row.name) t.events
  pub relations : All (λ row. IsName row.name) t.relations
  pub rules : All (λ row. IsName row.name) t.rules

-- what a class declares under a name, by its table and its position there
pub data Member : Type 0 where
  event : ℕ → Member
  relation : ℕ → Member
  rule : ℕ → Member

-- the class itself declares the member under this name
abbrev pub ClassDeclares : Tables → ClassId → Member → List ℕ → Type 0
ClassDeclares t c (event n) name = (row : EventRow) × (slice_get t.events n ≡ Some row) × (row.class ≡ c) × (row.name ≡ name)
ClassDeclares t c (relation n) name = (row : RelRow) × (slice_get t.relations n ≡ Some row) × (row.class ≡ c) × (row.name ≡ name)
ClassDeclares t c (rule n) name = (row : RuleRow) × (slice_get t.rules n ≡ Some row) × (row.class ≡ c) × (row.name ≡ name)

-- c inherits or declares the rule, whether it is blocked or not
abbrev pub InheritsRule : Tables → ClassId → ℕ → Type 0
InheritsRule t c n = (row : RuleRow) × (slice_get t.rules n ≡ Some row) × IsA t c row.class

-- the path leads from instances of c to instances of d: the relation at each of its places is one that the class reached there has
abbrev pub PathReaches : Tables → ClassId → List Place → ClassId → Type 0
PathReaches t c [] d = c ≡ d
PathReaches t c (place ∷ rest) d = (has : HasRelation t c place.rel) × PathReaches t has.row.target rest d

-- the relation's target is the class that declares it, or a descendant of that class, so an instance that a link leads to has the relation too
abbrev pub LeadsOn : Tables → RelId → Type 0
LeadsOn t r = (row : RelRow) × (slice_get t.relations r.0 ≡ Some row) × IsA t row.target row.class

-- the relation of a place with the plus leads on
abbrev pub MayRepeat : Tables → Place → Type 0
MayRepeat t place = place.plus ≡ true → LeadsOn t place.rel

-- at most that many different things satisfy P
abbrev pub AtMost : {X : Type 0} → ℕ → (X → Type 0) → Type 0
AtMost {X} most P = (xs : List X) → AllPairs (λ x y. x ≢ y) xs → All P xs → length xs ≤ most

-- the relation's inverse is declared by its target and leads back
pub record HasInverse (t : Tables) (r : RelId) (row : RelRow) : Type 0 where
  pub back : RelRow
  pub is : slice_get t.relations row.inverse.0 ≡ Some back
  pub from_target : back.class ≡ row.target
  pub to_class : back.target ≡ row.class
  pub again : back.inverse ≡ r

-- the type rules, but for those on names that lead nowhere, since a row has positions where a text has names
pub record KeepsTypeRules (t : Tables) : Type 0 where
  -- no two classes have one name
  pub class_names : AllPairs (λ one other. one.name ≢ other.name) t.classes
  -- no class is its own ancestor
  pub no_loop : (c : ClassId) (n : ℕ) → ancestor t c (suc n) ≢ Some c
  -- each class has few ancestors
  pub depth : (c : ClassId) → ancestor t c (suc ancestor_limit) ≡ None
  -- in a class and its ancestors no name is declared twice
  pub member_names : (c d : ClassId) (one other : Member) (name : List ℕ) → IsA t c d → ClassDeclares t c one name → ClassDeclares t d other name → one ≡ other
  -- the inverse of each relation leads back to it
  pub inverses : (r : RelId) (row : RelRow) → slice_get t.relations r.0 ≡ Some row → HasInverse t r row
  -- the class of each rule has its cause
  pub causes : All (λ row. HasEvent t row.class row.cause) t.rules
  -- the path of each rule leads to a class that has its effect
  pub effects : All (λ row. (d : ClassId) × PathReaches t row.class row.path d × HasEvent t d row.effect) t.rules
  -- a link can follow a link at each place with the plus
  pub repeats : All (λ row. All (MayRepeat t) row.path) t.rules
  -- a class blocks only rules that it inherits or declares
  pub blocked : All (λ row. InheritsRule t row.class row.rule) t.blocks
  -- a class hides only events that it has, and that are marked symptom
  pub hidden : All (λ row. (has : HasEvent t row.class row.event) × (has.row.symptom ≡ true)) t.hides
  -- there are few classes
  pub few_classes : length t.classes ≤ class_limit
  -- each class has few events, few relations, and few rules with those that it blocks
  pub few_events : (c : ClassId) → AtMost event_limit (HasEvent t c)
  pub few_relations : (c : ClassId) → AtMost relation_limit (HasRelation t c)
  pub few_rules : (c : ClassId) → AtMost rule_limit (InheritsRule t c)

-- the tables are those of a model
pub record WellTyped (t : Tables) : Type 0 where
  pub places : HasPlaces t
  pub names : HasNames t
  pub rules : KeepsTypeRules t
