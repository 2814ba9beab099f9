-- What is found in a tree that keeps all type rules.
use Rattle.std.specs.Prelude.{◌≡◌, ℕ, List, Option, Some, slice_get, take}
use Rattle.cb_model.specs.declared.id.ClassId.{ClassId}
use Rattle.cb_grammar.specs.declared.tree.Token.{Token}
use Rattle.cb_grammar.specs.declared.tree.PlaceToken.{PlaceToken}
use Rattle.cb_grammar.specs.declared.tree.Tree.{Tree}
use Rattle.cb_grammar.specs.declared.tree.Member.{Member}
use Rattle.cb_grammar.specs.declared.tree.Member.TheVariants.{Relation}
use Rattle.cb_rules.specs.Classes.{IsClassNamed, MemberAt, HasSomeMember, IsEventNamed, IsRelationNamed, IsRuleNamed, LeadsAlong, declared}
use Rattle.cb_rules.specs.Rules.{Owns}
use Rattle.cb_rules.specs.Fault.{KeepsAll}
use Rattle.cb_check.specs.Stands.{declared_from, event_in, relation_in, rule_in}
use Rattle.cb_check.specs.Denotes.{DenotesRelation}
use Rattle.cb_check.specs.Numbers.{AreNumbers}

-- the tree keeps all rules, and its members have their numbers
pub record IsFinder (tree : Tree) (numbers : List (List ℕ)) : Type 0 where
  pub keeps : KeepsAll tree
  pub numbered : AreNumbers tree numbers

-- the class can't be without an event, a relation, a rule of this name
abbrev pub NeedsEvent : Tree → ℕ → List ℕ → Type 0
NeedsEvent tree k name = ¬ (¬ HasSomeMember tree k (IsEventNamed name))

abbrev pub NeedsRelation : Tree → ℕ → List ℕ → Type 0
NeedsRelation tree k name = ¬ (¬ HasSomeMember tree k (IsRelationNamed name))

abbrev pub NeedsRule : Tree → ℕ → List ℕ → Type 0
NeedsRule tree k name = ¬ (¬ HasSomeMember tree k (IsRuleNamed name))

-- the class itself can't be without a relation of this name
abbrev pub NeedsOwn : Tree → ℕ → List ℕ → Type 0
NeedsOwn tree k name = ¬ (¬ Owns tree k (IsRelationNamed name))

-- each class that a prefix of the path leads to can't be without the path's next relation
abbrev pub NeedsPath : Tree → ℕ → List PlaceToken → Type 0
NeedsPath tree k path = (m : ℕ) (step : PlaceToken) (j : ℕ) → slice_get path m ≡ Some step → LeadsAlong tree k (take m path) j → NeedsRelation tree j step.name.name

-- an event, a relation or a rule stands at position i of the class at position j
abbrev pub HasNumberedMember : Tree → ℕ → ℕ → Type 0
HasNumberedMember tree j i = (member : Member) × (token : Token) × MemberAt tree j i member × (declared member ≡ Some token)

-- if what stands there is of this kind, this is its number
abbrev pub IsMemberNumber : {Row : Type 0} → (ClassId → Member → Option Row) → Tree → ℕ → ℕ → ℕ → Type 0
IsMemberNumber {Row} kind tree j i number =
    (member : Member) (row : Row) → MemberAt tree j i member → kind (record { 0 = j }) member ≡ Some row → slice_get (declared_from kind 0 tree.classes) number ≡ Some row

pub record IsNumberAt (tree : Tree) (j i number : ℕ) : Type 0 where
  pub event : IsMemberNumber event_in tree j i number
  pub relation : IsMemberNumber relation_in tree j i number
  pub rule : IsMemberNumber rule_in tree j i number

-- the member is a relation, and its target is at position k
abbrev pub IsRelationInto : Tree → Member → ℕ → Type 0
IsRelationInto tree (Relation name target many inverse) k = IsClassNamed tree target.name k
IsRelationInto tree member k = ⊥

-- the relation of this name leads from the class at position k to that at position j
abbrev pub StepsTo : Tree → ℕ → List ℕ → ℕ → ℕ → Type 0
StepsTo tree k name r j = (step : DenotesRelation tree k name r) × IsClassNamed tree step.0.target j
