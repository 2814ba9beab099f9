-- The machine's table: the state after one token more.
use Rattle.std.specs.Prelude.{Bool, true, false, List, [], ◌∷◌, ◌++◌, Option, None, Some, if◌then◌else◌, nat_lt, length}
use Rattle.cb_grammar.specs.declared.tree.Token.{Token}
use Rattle.cb_grammar.specs.declared.tree.PlaceToken.{PlaceToken}
use Rattle.cb_grammar.specs.declared.tree.Member.TheVariants as members
use Rattle.cb_grammar.specs.declared.tree.ClassDecl.{ClassDecl}
use Rattle.cb_grammar.specs.declared.lexeme.Lexeme.{Lexeme}
use Rattle.cb_grammar.specs.declared.lexeme.Lexeme.TheVariants as lexemes
use Rattle.cb_grammar.specs.declared.place.EventPlace.{EventPlace}
use Rattle.cb_grammar.specs.declared.place.EventPlace.TheVariants as events
use Rattle.cb_grammar.specs.declared.place.RelationPlace.{RelationPlace}
use Rattle.cb_grammar.specs.declared.place.RelationPlace.TheVariants as relations
use Rattle.cb_grammar.specs.declared.place.RulePlace.{RulePlace}
use Rattle.cb_grammar.specs.declared.place.RulePlace.TheVariants as rules
use Rattle.cb_grammar.specs.declared.place.MemberSoFar.{MemberSoFar}
use Rattle.cb_grammar.specs.declared.place.MemberSoFar.TheVariants as places
use Rattle.cb_grammar.specs.declared.place.Grown.{Grown}
use Rattle.cb_grammar.specs.declared.place.Grown.TheVariants.{More, Whole, Wrong}
use Rattle.cb_grammar.specs.declared.machine.Part.{Part}
use Rattle.cb_grammar.specs.declared.machine.Part.TheVariants as parts
use Rattle.cb_grammar.specs.declared.machine.State.{State}

-- the state before any token
abbrev pub nothing_read : State
nothing_read = record { classes = []; part = parts.Between }

-- a member after its first token
abbrev pub begun : Lexeme → Grown
begun lexemes.Problem = More (places.Event events.Problem)
begun lexemes.Symptom = More (places.Event events.Symptom)
begun lexemes.Event = More (places.Event events.Event)
begun lexemes.Relation = More (places.Relation relations.Word)
begun lexemes.Rule = More (places.Rule rules.Word)
begun lexemes.Block = More places.Block
begun lexemes.Hide = More places.Hide
begun k = Wrong

-- an event after one token more
abbrev pub next_event : EventPlace → Lexeme → Grown
next_event events.Problem lexemes.Symptom = More (places.Event events.ProblemSymptom)
next_event events.Problem (lexemes.Name t) = More (places.Event (events.Named t true false))
next_event events.ProblemSymptom (lexemes.Name t) = More (places.Event (events.Named t true true))
next_event events.Symptom (lexemes.Name t) = More (places.Event (events.Named t false true))
next_event events.Event (lexemes.Name t) = More (places.Event (events.Named t false false))
next_event (events.Named n p s) lexemes.Semicolon = Whole (members.Event n p s)
next_event p k = Wrong

-- a relation after one token more
abbrev pub next_relation : RelationPlace → Lexeme → Grown
next_relation relations.Word (lexemes.Name t) = More (places.Relation (relations.Named t))
next_relation (relations.Named n) lexemes.To = More (places.Relation (relations.To n))
next_relation (relations.To n) (lexemes.Name t) = More (places.Relation (relations.Target n t))
next_relation (relations.Target n g) lexemes.One = More (places.Relation (relations.Count n g false))
next_relation (relations.Target n g) lexemes.Many = More (places.Relation (relations.Count n g true))
next_relation (relations.Count n g m) lexemes.Inverse = More (places.Relation (relations.Inverse n g m))
next_relation (relations.Inverse n g m) (lexemes.Name t) = More (places.Relation (relations.Whole n g m t))
next_relation (relations.Whole n g m i) lexemes.Semicolon = Whole (members.Relation n g m i)
next_relation p k = Wrong

-- a rule whose path has one place more
abbrev pub longer : Token → Token → List PlaceToken → Token → Bool → Grown
longer n c path e plus = More (places.Rule (rules.Dot n c (path ++ record { name = e; plus = plus } ∷ [])))

-- a rule after one token more; its path ends at 4 places
abbrev pub next_rule : RulePlace → Lexeme → Grown
next_rule rules.Word (lexemes.Name t) = More (places.Rule (rules.Named t))
next_rule (rules.Named n) lexemes.Colon = More (places.Rule (rules.Colon n))
next_rule (rules.Colon n) (lexemes.Name t) = More (places.Rule (rules.Cause n t))
next_rule (rules.Cause n c) lexemes.Arrow = More (places.Rule (rules.Arrow n c))
next_rule (rules.Arrow n c) (lexemes.Name t) = More (places.Rule (rules.Effect n c [] t))
next_rule (rules.Effect n c path e) lexemes.Semicolon = Whole (members.Rule n c path e)
next_rule (rules.Effect n c path e) lexemes.Dot = if nat_lt (length path) 4 then longer n c path e false else Wrong
next_rule (rules.Effect n c path e) lexemes.Plus = if nat_lt (length path) 4 then More (places.Rule (rules.Plus n c path e)) else Wrong
next_rule (rules.Plus n c path e) lexemes.Dot = longer n c path e true
next_rule (rules.Dot n c path) (lexemes.Name t) = More (places.Rule (rules.Effect n c path t))
next_rule p k = Wrong

-- a member after one token more
abbrev pub next : MemberSoFar → Lexeme → Grown
next places.Start k = begun k
next (places.Event p) k = next_event p k
next (places.Relation p) k = next_relation p k
next (places.Rule p) k = next_rule p k
next places.Block (lexemes.Name t) = More (places.BlockName t)
next (places.BlockName n) lexemes.Semicolon = Whole (members.Block n)
next places.Hide (lexemes.Name t) = More (places.HideName t)
next (places.HideName n) lexemes.Semicolon = Whole (members.Hide n)
next p k = Wrong

-- the body of a class begins
abbrev pub body_start : Token → Option Token → Part
body_start n p = parts.Inside (record { name = n; parent = p; members = [] }) places.Start

-- a class's head after one token more
abbrev pub next_head : Part → Lexeme → Option Part
next_head parts.Between lexemes.Class = Some parts.Word
next_head parts.Word (lexemes.Name t) = Some (parts.Named t)
next_head (parts.Named n) lexemes.Extends = Some (parts.Extends n)
next_head (parts.Named n) lexemes.Open = Some (body_start n None)
next_head (parts.Extends n) (lexemes.Name t) = Some (parts.Child n t)
next_head (parts.Child n p) lexemes.Open = Some (body_start n (Some p))
next_head part k = None

-- the state after a class's member has grown
abbrev pub after_grown : List ClassDecl → ClassDecl → Grown → Option State
after_grown cs c (More p) = Some (record { classes = cs; part = parts.Inside c p })
after_grown cs c (Whole m) = Some (record { classes = cs; part = parts.Inside (record { name = c.name; parent = c.parent; members = c.members ++ m ∷ [] }) places.Start })
after_grown cs c Wrong = None

-- the state inside a class after one token more
abbrev pub next_inside : List ClassDecl → ClassDecl → MemberSoFar → Lexeme → Option State
next_inside cs c places.Start lexemes.Close = Some (record { classes = cs ++ c ∷ []; part = parts.Between })
next_inside cs c p k = after_grown cs c (next p k)

-- the state with this part
abbrev pub with_part : List ClassDecl → Option Part → Option State
with_part cs None = None
with_part cs (Some part) = Some (record { classes = cs; part = part })

abbrev pub next_part : List ClassDecl → Part → Lexeme → Option State
next_part cs (parts.Inside c p) k = next_inside cs c p k
next_part cs part k = with_part cs (next_head part k)

-- the state after one token more; none where the token can't stand there
abbrev pub next_state : State → Lexeme → Option State
next_state s k = next_part s.classes s.part k
