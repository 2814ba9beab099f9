-- The fifteen type rules: what each forbids, and the line that is blamed. Six are of a class, at position k of the text, and
-- nine of a member, at position i of that class. A rule is of interest only where those before it are kept.
use Rattle.std.specs.Prelude.{◌≡◌, ◌≢◌, ◌⊎◌, ℕ, suc, ◌<◌, List, length, take, Some, slice_get, true}
use Rattle.std.specs.List.{All, AllPairs}
use Rattle.cb_model.specs.Limits.{class_limit, ancestor_limit, event_limit, relation_limit, rule_limit}
use Rattle.cb_grammar.specs.declared.tree.Token.{Token}
use Rattle.cb_grammar.specs.declared.tree.PlaceToken.{PlaceToken}
use Rattle.cb_grammar.specs.declared.tree.Tree.{Tree}
use Rattle.cb_grammar.specs.declared.tree.ClassDecl.{ClassDecl}
use Rattle.cb_grammar.specs.declared.tree.Member.{Member}
use Rattle.cb_grammar.specs.declared.tree.Member.TheVariants.{Relation, Rule, Block, Hide}
use Rattle.cb_rules.specs.Classes.{ClassAt, IsClassNamed, IsAbove, MemberAt, HasAt, HasSomeMember, Declares, declared, IsEventMember, IsEventNamed, IsSymptomNamed, IsRelationMember, IsRelationNamed, IsRelationTo, IsRelationBack, IsRule, IsRuleNamed, LeadsAlong, IsNamedBefore, DeclaresBefore, Inherits, IsOnLoop}

-- an earlier class has the class's name
abbrev pub IsSecondClass : Tree → ℕ → ClassDecl → ℕ → Type 0
IsSecondClass tree k decl line = (line ≡ decl.name.line) × IsNamedBefore tree k decl.name.name

-- no class has this name
abbrev pub IsNoClass : Tree → List ℕ → Type 0
IsNoClass tree name = (k : ℕ) → ¬ IsClassNamed tree name k

-- no class has the name of the parent
abbrev pub HasNoParent : Tree → ℕ → ClassDecl → ℕ → Type 0
HasNoParent tree k decl line = (parent : Token) × (decl.parent ≡ Some parent) × (line ≡ parent.line) × IsNoClass tree parent.name

-- the class is its own ancestor
abbrev pub IsInLoop : Tree → ℕ → ClassDecl → ℕ → Type 0
IsInLoop tree k decl line = (line ≡ decl.name.line) × IsOnLoop tree k

-- the class has too many ancestors
abbrev pub IsTooDeep : Tree → ℕ → ClassDecl → ℕ → Type 0
IsTooDeep tree k decl line = (line ≡ decl.name.line) × ((j : ℕ) × IsAbove tree k (suc ancestor_limit) j)

-- the member's name is declared earlier in the class, or in an ancestor
abbrev pub IsSecondName : Tree → ℕ → ℕ → Member → ℕ → Type 0
IsSecondName tree k i member line = (name : Token) × (declared member ≡ Some name) × (line ≡ name.line)
    × (DeclaresBefore tree k i name.name ⊎ Inherits tree k name.name)

-- no class has the name of the relation's target
abbrev pub HasNoTarget : Tree → ℕ → ℕ → Member → ℕ → Type 0
HasNoTarget tree k i (Relation name target many inverse) line = (line ≡ target.line) × IsNoClass tree target.name
HasNoTarget tree k i member line = ⊥

-- the class at position k itself declares such a member
abbrev pub Owns : Tree → ℕ → (Member → Type 0) → Type 0
Owns tree k P = (i : ℕ) × (member : Member) × MemberAt tree k i member × P member

-- the target itself declares no relation of the inverse's name that leads to this class and has this relation as its
-- inverse, and this line is blamed
abbrev pub IsBadInverse : Tree → ℕ → Token → Token → Token → ℕ → Type 0
IsBadInverse tree k name target inverse line = (decl : ClassDecl) × (j : ℕ) × ClassAt tree k decl × IsClassNamed tree target.name j × (line ≡ inverse.line)
    × (¬ Owns tree j (IsRelationBack inverse.name decl.name.name name.name))

-- the relation's inverse doesn't lead back
abbrev pub HasBadInverse : Tree → ℕ → ℕ → Member → ℕ → Type 0
HasBadInverse tree k i (Relation name target many inverse) line = IsBadInverse tree k name target inverse line
HasBadInverse tree k i member line = ⊥

-- the rule's cause is no event of the class
abbrev pub HasNoCause : Tree → ℕ → ℕ → Member → ℕ → Type 0
HasNoCause tree k i (Rule name cause path effect) line = (line ≡ cause.line) × (¬ HasSomeMember tree k (IsEventNamed cause.name))
HasNoCause tree k i member line = ⊥

-- the path stops at a place whose name is no relation of the class that is reached there, and this line is blamed
abbrev pub StopsAt : Tree → ℕ → List PlaceToken → ℕ → Type 0
StopsAt tree k path line = (m : ℕ) × (step : PlaceToken) × (j : ℕ) × (slice_get path m ≡ Some step) × LeadsAlong tree k (take m path) j × (line ≡ step.name.line)
    × (¬ HasSomeMember tree j (IsRelationNamed step.name.name))

-- a place of the rule's path is no relation of the class that is reached there
abbrev pub HasNoRelation : Tree → ℕ → ℕ → Member → ℕ → Type 0
HasNoRelation tree k i (Rule name cause path effect) line = StopsAt tree k path line
HasNoRelation tree k i member line = ⊥

-- the effect is no event of the class that the path reaches, and this line is blamed
abbrev pub IsBadEffect : Tree → ℕ → List PlaceToken → Token → ℕ → Type 0
IsBadEffect tree k path effect line = (j : ℕ) × LeadsAlong tree k path j × (line ≡ effect.line) × (¬ HasSomeMember tree j (IsEventNamed effect.name))

-- the rule's effect is no event of the class that its path reaches
abbrev pub HasNoEffect : Tree → ℕ → ℕ → Member → ℕ → Type 0
HasNoEffect tree k i (Rule name cause path effect) line = IsBadEffect tree k path effect line
HasNoEffect tree k i member line = ⊥

-- the block names no rule of the class
abbrev pub BlocksNothing : Tree → ℕ → ℕ → Member → ℕ → Type 0
BlocksNothing tree k i (Block name) line = (line ≡ name.line) × (¬ HasSomeMember tree k (IsRuleNamed name.name))
BlocksNothing tree k i member line = ⊥

-- the hide names no event of the class that is marked symptom
abbrev pub HidesNothing : Tree → ℕ → ℕ → Member → ℕ → Type 0
HidesNothing tree k i (Hide name) line = (line ≡ name.line) × (¬ HasSomeMember tree k (IsSymptomNamed name.name))
HidesNothing tree k i member line = ⊥

-- the class is the first of too many
abbrev pub IsOneTooMany : Tree → ℕ → ClassDecl → ℕ → Type 0
IsOneTooMany tree k decl line = (k ≡ class_limit) × (line ≡ decl.name.line)

-- the class has more than `limit` members such that P: the list has different positions of such, by class and position in it
abbrev pub HasMoreThan : Tree → ℕ → ℕ → (Member → Type 0) → Type 0
HasMoreThan tree k most P = (places : List (ℕ × ℕ)) × AllPairs (λ one other. one ≢ other) places × All (λ place. HasAt tree k P place.0 place.1) places
    × (most < length places)

-- the class has too many events, relations or rules
abbrev pub HasTooMany : Tree → ℕ → ClassDecl → ℕ → Type 0
HasTooMany tree k decl line = (line ≡ decl.name.line)
    × (HasMoreThan tree k event_limit IsEventMember ⊎ HasMoreThan tree k relation_limit IsRelationMember ⊎ HasMoreThan tree k rule_limit IsRule)

-- the relation of this name that the class at position k has leads to the class that declares it, which stands at position `home`, or to a descendant of that class
abbrev pub LeadsHome : Tree → ℕ → List ℕ → Type 0
LeadsHome tree k name = (home : ℕ) × (i : ℕ) × (to : List ℕ) × (next : ℕ) × (n : ℕ) × HasAt tree k (Declares name) home i
    × HasSomeMember tree k (IsRelationTo name to) × IsClassNamed tree to next × IsAbove tree next n home

-- place m of the path has the plus, and its relation doesn't lead home
abbrev pub CannotRepeatAt : Tree → ℕ → List PlaceToken → ℕ → Type 0
CannotRepeatAt tree k path m = (step : PlaceToken) × (j : ℕ) × (slice_get path m ≡ Some step) × LeadsAlong tree k (take m path) j × (step.plus ≡ true)
    × (¬ LeadsHome tree j step.name.name)

-- the first such place of the path, and its line is blamed
abbrev pub CannotRepeat : Tree → ℕ → List PlaceToken → ℕ → Type 0
CannotRepeat tree k path line = (m : ℕ) × (step : PlaceToken) × (slice_get path m ≡ Some step) × (line ≡ step.name.line) × CannotRepeatAt tree k path m
    × ((earlier : ℕ) → earlier < m → ¬ CannotRepeatAt tree k path earlier)

-- a place of the rule's path with the plus can't repeat
abbrev pub HasNoRepeat : Tree → ℕ → ℕ → Member → ℕ → Type 0
HasNoRepeat tree k i (Rule name cause path effect) line = CannotRepeat tree k path line
HasNoRepeat tree k i member line = ⊥
