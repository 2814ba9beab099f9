-- What a state has read.
use Rattle.std.specs.Prelude.{true, false, List, [], ◌∷◌, ◌++◌, length, ◌≤◌, ◌<◌}
use Rattle.std.specs.List.{flat_map, All}
use Rattle.cb_grammar.specs.declared.lexeme.Lexeme.{Lexeme}
use Rattle.cb_grammar.specs.declared.lexeme.Lexeme.TheVariants as lexemes
use Rattle.cb_grammar.specs.declared.place.EventPlace.{EventPlace}
use Rattle.cb_grammar.specs.declared.place.EventPlace.TheVariants as events
use Rattle.cb_grammar.specs.declared.place.RelationPlace.{RelationPlace}
use Rattle.cb_grammar.specs.declared.place.RelationPlace.TheVariants as relations
use Rattle.cb_grammar.specs.declared.place.RulePlace.{RulePlace}
use Rattle.cb_grammar.specs.declared.place.RulePlace.TheVariants as rules
use Rattle.cb_grammar.specs.declared.place.MemberSoFar.{MemberSoFar}
use Rattle.cb_grammar.specs.declared.place.MemberSoFar.TheVariants as places
use Rattle.cb_grammar.specs.declared.machine.Part.{Part}
use Rattle.cb_grammar.specs.declared.machine.Part.TheVariants as parts
use Rattle.cb_grammar.specs.declared.machine.State.{State}
use Rattle.cb_grammar.specs.Grammar.{step_tokens, member_tokens, class_tokens, parent_tokens, ClassFits}

-- the tokens read of an event
abbrev pub in_event : EventPlace → List Lexeme
in_event events.Problem = lexemes.Problem ∷ []
in_event events.ProblemSymptom = lexemes.Problem ∷ lexemes.Symptom ∷ []
in_event events.Symptom = lexemes.Symptom ∷ []
in_event events.Event = lexemes.Event ∷ []
in_event (events.Named n true true) = lexemes.Problem ∷ lexemes.Symptom ∷ lexemes.Name n ∷ []
in_event (events.Named n true false) = lexemes.Problem ∷ lexemes.Name n ∷ []
in_event (events.Named n false true) = lexemes.Symptom ∷ lexemes.Name n ∷ []
in_event (events.Named n false false) = lexemes.Event ∷ lexemes.Name n ∷ []

-- the tokens read of a relation
abbrev pub in_relation : RelationPlace → List Lexeme
in_relation relations.Word = lexemes.Relation ∷ []
in_relation (relations.Named n) = lexemes.Relation ∷ lexemes.Name n ∷ []
in_relation (relations.To n) = lexemes.Relation ∷ lexemes.Name n ∷ lexemes.To ∷ []
in_relation (relations.Target n g) = lexemes.Relation ∷ lexemes.Name n ∷ lexemes.To ∷ lexemes.Name g ∷ []
in_relation (relations.Count n g true) = lexemes.Relation ∷ lexemes.Name n ∷ lexemes.To ∷ lexemes.Name g ∷ lexemes.Many ∷ []
in_relation (relations.Count n g false) = lexemes.Relation ∷ lexemes.Name n ∷ lexemes.To ∷ lexemes.Name g ∷ lexemes.One ∷ []
in_relation (relations.Inverse n g true) = lexemes.Relation ∷ lexemes.Name n ∷ lexemes.To ∷ lexemes.Name g ∷ lexemes.Many ∷ lexemes.Inverse ∷ []
in_relation (relations.Inverse n g false) = lexemes.Relation ∷ lexemes.Name n ∷ lexemes.To ∷ lexemes.Name g ∷ lexemes.One ∷ lexemes.Inverse ∷ []
in_relation (relations.Whole n g true i) = lexemes.Relation ∷ lexemes.Name n ∷ lexemes.To ∷ lexemes.Name g ∷ lexemes.Many ∷ lexemes.Inverse ∷ lexemes.Name i ∷ []
in_relation (relations.Whole n g false i) = lexemes.Relation ∷ lexemes.Name n ∷ lexemes.To ∷ lexemes.Name g ∷ lexemes.One ∷ lexemes.Inverse ∷ lexemes.Name i ∷ []

-- the tokens read of a rule
abbrev pub in_rule : RulePlace → List Lexeme
in_rule rules.Word = lexemes.Rule ∷ []
in_rule (rules.Named n) = lexemes.Rule ∷ lexemes.Name n ∷ []
in_rule (rules.Colon n) = lexemes.Rule ∷ lexemes.Name n ∷ lexemes.Colon ∷ []
in_rule (rules.Cause n c) = lexemes.Rule ∷ lexemes.Name n ∷ lexemes.Colon ∷ lexemes.Name c ∷ []
in_rule (rules.Arrow n c) = lexemes.Rule ∷ lexemes.Name n ∷ lexemes.Colon ∷ lexemes.Name c ∷ lexemes.Arrow ∷ []
in_rule (rules.Effect n c path e) = lexemes.Rule ∷ lexemes.Name n ∷ lexemes.Colon ∷ lexemes.Name c ∷ lexemes.Arrow ∷ (flat_map step_tokens path ++ lexemes.Name e ∷ [])
in_rule (rules.Plus n c path e) = lexemes.Rule ∷ lexemes.Name n ∷ lexemes.Colon ∷ lexemes.Name c ∷ lexemes.Arrow ∷ (flat_map step_tokens path ++ lexemes.Name e ∷ lexemes.Plus ∷ [])
in_rule (rules.Dot n c path) = lexemes.Rule ∷ lexemes.Name n ∷ lexemes.Colon ∷ lexemes.Name c ∷ lexemes.Arrow ∷ flat_map step_tokens path

-- the tokens read of a member
abbrev pub in_place : MemberSoFar → List Lexeme
in_place places.Start = []
in_place (places.Event p) = in_event p
in_place (places.Relation p) = in_relation p
in_place (places.Rule p) = in_rule p
in_place places.Block = lexemes.Block ∷ []
in_place (places.BlockName n) = lexemes.Block ∷ lexemes.Name n ∷ []
in_place places.Hide = lexemes.Hide ∷ []
in_place (places.HideName n) = lexemes.Hide ∷ lexemes.Name n ∷ []

-- the tokens read of a class
abbrev pub in_part : Part → List Lexeme
in_part parts.Between = []
in_part parts.Word = lexemes.Class ∷ []
in_part (parts.Named n) = lexemes.Class ∷ lexemes.Name n ∷ []
in_part (parts.Extends n) = lexemes.Class ∷ lexemes.Name n ∷ lexemes.Extends ∷ []
in_part (parts.Child n p) = lexemes.Class ∷ lexemes.Name n ∷ lexemes.Extends ∷ lexemes.Name p ∷ []
in_part (parts.Inside c p) = lexemes.Class ∷ lexemes.Name c.name ∷ (parent_tokens c.parent ++ lexemes.Open ∷ (flat_map member_tokens c.members ++ in_place p))

-- all tokens read
abbrev pub so_far : State → List Lexeme
so_far s = flat_map class_tokens s.classes ++ in_part s.part

-- a path has at most 4 places; at a plus it has fewer, and after a dot at least one
abbrev pub RuleSound : RulePlace → Type 0
RuleSound (rules.Effect n c path e) = length path ≤ 4
RuleSound (rules.Plus n c path e) = length path < 4
RuleSound (rules.Dot n c path) = (0 < length path) × (length path ≤ 4)
RuleSound p = Unit {0}

-- so for the rule that is being read
abbrev pub PlaceSound : MemberSoFar → Type 0
PlaceSound (places.Rule p) = RuleSound p
PlaceSound p = Unit {0}

-- and in the class that is being read
abbrev pub PartSound : Part → Type 0
PartSound (parts.Inside c p) = ClassFits c × PlaceSound p
PartSound part = Unit {0}

-- all paths read have at most 4 places
pub record HasShortPaths (s : State) : Type 0 where
  pub classes : All ClassFits s.classes
  pub part : PartSound s.part
