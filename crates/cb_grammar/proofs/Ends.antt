-- What each state can go on to.
use Rattle.std.proofs.Common.{◌≡◌, refl, ap, sym, ◌∙◌, true, false, List, [], ◌∷◌, ◌++◌, append_assoc, append-nil, Option, None, Some, arith}
use Rattle.std.specs.List.{flat_map}
use Rattle.std.specs.Prelude.{length, ◌+◌}
use Rattle.std.proofs.lemmas.List.{length_push}
use Rattle.std.proofs.lemmas.List.Elements.{All-push}
use Rattle.std.proofs.lemmas.Grind.{flat_map-append}
use Rattle.cb_grammar.specs.declared.tree.Token.{Token}
use Rattle.cb_grammar.specs.declared.tree.PlaceToken.{PlaceToken}
use Rattle.cb_grammar.specs.declared.tree.Member.{Member}
use Rattle.cb_grammar.specs.declared.tree.Member.TheVariants as members
use Rattle.cb_grammar.specs.declared.tree.ClassDecl.{ClassDecl}
use Rattle.cb_grammar.specs.declared.lexeme.Lexeme.{Lexeme}
use Rattle.cb_grammar.specs.declared.lexeme.Lexeme.TheVariants as lexemes
use Rattle.cb_grammar.specs.declared.place.EventPlace.{EventPlace}
use Rattle.cb_grammar.specs.declared.place.EventPlace.TheVariants as events
use Rattle.cb_grammar.specs.declared.place.RelationPlace.{RelationPlace}
use Rattle.cb_grammar.specs.declared.place.RelationPlace.TheVariants as relations
use Rattle.cb_grammar.specs.declared.place.RulePlace.{RulePlace}
use Rattle.cb_grammar.specs.declared.place.RulePlace.TheVariants as rules
use Rattle.cb_grammar.specs.declared.place.MemberSoFar.{MemberSoFar}
use Rattle.cb_grammar.specs.declared.place.MemberSoFar.TheVariants as places
use Rattle.cb_grammar.specs.declared.machine.Part.{Part}
use Rattle.cb_grammar.specs.declared.machine.Part.TheVariants as parts
use Rattle.cb_grammar.specs.declared.machine.State.{State}
use Rattle.cb_grammar.specs.Grammar.{step_tokens, named_step, member_tokens, class_tokens, parent_tokens, PathFits, ClassFits, IsModelPrefix}
use Rattle.cb_grammar.specs.Read.{in_event, in_relation, in_rule, in_place, in_part, so_far, RuleSound, PlaceSound, PartSound, HasShortPaths}
use Rattle.cb_grammar.proofs.Grows.{rule_head, flat_longer, ends_path, none_fits}

abbrev any_name : Token
any_name = record { name = 97 ∷ []; line = 0; start = 0 }

-- a member that goes on from these tokens
abbrev GoesOn : List Lexeme → Type 0
GoesOn ks = (m : Member) × (more : List Lexeme) × PathFits m × (member_tokens m ≡ ks ++ more)

abbrev ends : List Lexeme
ends = lexemes.Semicolon ∷ []

abbrev name_ends : List Lexeme
name_ends = lexemes.Name any_name ∷ ends

event_goes_on : (p : EventPlace) → GoesOn (in_event p)
event_goes_on events.Problem = (members.Event any_name true false, name_ends, tt, refl)
event_goes_on events.ProblemSymptom = (members.Event any_name true true, name_ends, tt, refl)
event_goes_on events.Symptom = (members.Event any_name false true, name_ends, tt, refl)
event_goes_on events.Event = (members.Event any_name false false, name_ends, tt, refl)
event_goes_on (events.Named n true true) = (members.Event n true true, ends, tt, refl)
event_goes_on (events.Named n true false) = (members.Event n true false, ends, tt, refl)
event_goes_on (events.Named n false true) = (members.Event n false true, ends, tt, refl)
event_goes_on (events.Named n false false) = (members.Event n false false, ends, tt, refl)

relation_goes_on : (p : RelationPlace) → GoesOn (in_relation p)
relation_goes_on relations.Word =
    (members.Relation any_name any_name true any_name, lexemes.Name any_name ∷ lexemes.To ∷ lexemes.Name any_name ∷ lexemes.Many ∷ lexemes.Inverse ∷ name_ends, tt, refl)
relation_goes_on (relations.Named n) = (members.Relation n any_name true any_name, lexemes.To ∷ lexemes.Name any_name ∷ lexemes.Many ∷ lexemes.Inverse ∷ name_ends, tt, refl)
relation_goes_on (relations.To n) = (members.Relation n any_name true any_name, lexemes.Name any_name ∷ lexemes.Many ∷ lexemes.Inverse ∷ name_ends, tt, refl)
relation_goes_on (relations.Target n g) = (members.Relation n g true any_name, lexemes.Many ∷ lexemes.Inverse ∷ name_ends, tt, refl)
relation_goes_on (relations.Count n g true) = (members.Relation n g true any_name, lexemes.Inverse ∷ name_ends, tt, refl)
relation_goes_on (relations.Count n g false) = (members.Relation n g false any_name, lexemes.Inverse ∷ name_ends, tt, refl)
relation_goes_on (relations.Inverse n g true) = (members.Relation n g true any_name, name_ends, tt, refl)
relation_goes_on (relations.Inverse n g false) = (members.Relation n g false any_name, name_ends, tt, refl)
relation_goes_on (relations.Whole n g true i) = (members.Relation n g true i, ends, tt, refl)
relation_goes_on (relations.Whole n g false i) = (members.Relation n g false i, ends, tt, refl)

rule_goes_on : (p : RulePlace) → RuleSound p → GoesOn (in_rule p)
rule_goes_on rules.Word is = (members.Rule any_name any_name [] any_name, lexemes.Name any_name ∷ lexemes.Colon ∷ lexemes.Name any_name ∷ lexemes.Arrow ∷ name_ends, omega arith, refl)
rule_goes_on (rules.Named n) is = (members.Rule n any_name [] any_name, lexemes.Colon ∷ lexemes.Name any_name ∷ lexemes.Arrow ∷ name_ends, omega arith, refl)
rule_goes_on (rules.Colon n) is = (members.Rule n any_name [] any_name, lexemes.Name any_name ∷ lexemes.Arrow ∷ name_ends, omega arith, refl)
rule_goes_on (rules.Cause n c) is = (members.Rule n c [] any_name, lexemes.Arrow ∷ name_ends, omega arith, refl)
rule_goes_on (rules.Arrow n c) is = (members.Rule n c [] any_name, name_ends, omega arith, refl)
rule_goes_on (rules.Effect n c path e) is = (members.Rule n c path e, ends, is, ends_path n c path e)
rule_goes_on (rules.Plus n c path e) is =
    let p : PlaceToken = record { name = e; plus = true } in
    let long : length (path ++ p ∷ []) ≡ length path + 1 = length_push path p in (
      members.Rule n c (path ++ p ∷ []) any_name,
      lexemes.Dot ∷ name_ends,
      omega (arith, long, is),
      ap (rule_head n c) (ap (λ ks. ks ++ name_ends) (flat_longer path e true)
          ∙ append_assoc (flat_map step_tokens path) (lexemes.Name e ∷ lexemes.Plus ∷ lexemes.Dot ∷ []) name_ends
          ∙ sym (append_assoc (flat_map step_tokens path) (lexemes.Name e ∷ lexemes.Plus ∷ []) (lexemes.Dot ∷ name_ends))),
    )
rule_goes_on (rules.Dot n c path) is = (members.Rule n c path any_name, name_ends, is.1, refl)

place_goes_on : (p : MemberSoFar) → PlaceSound p → GoesOn (in_place p)
place_goes_on places.Start is = (members.Block any_name, lexemes.Block ∷ name_ends, tt, refl)
place_goes_on (places.Event p) is = event_goes_on p
place_goes_on (places.Relation p) is = relation_goes_on p
place_goes_on (places.Rule p) is = rule_goes_on p is
place_goes_on places.Block is = (members.Block any_name, name_ends, tt, refl)
place_goes_on (places.BlockName n) is = (members.Block n, ends, tt, refl)
place_goes_on places.Hide is = (members.Hide any_name, name_ends, tt, refl)
place_goes_on (places.HideName n) is = (members.Hide n, ends, tt, refl)

-- ms ++ (m ++ []) ++ close, where m is p ++ more
regroup_part : (ms m p more all : List Lexeme) → all ≡ ms ++ (m ++ []) → m ≡ p ++ more → all ++ lexemes.Close ∷ [] ≡ ms ++ p ++ (more ++ lexemes.Close ∷ [])
regroup_part ms m p more all whole split =
    rw (whole, split, append-nil (p ++ more), ← append_assoc ms p more) (append_assoc (ms ++ p) more (lexemes.Close ∷ []))

regroup : (cs c p more all : List Lexeme) → all ≡ cs ++ (c ++ []) → c ≡ p ++ more → all ≡ cs ++ p ++ more
regroup cs c p more all whole split = rw (whole, split, append-nil (p ++ more)) (sym (append_assoc cs p more))

abbrev new : Token → Option Token → ClassDecl
new n p = record { name = n; parent = p; members = [] }

-- a class that goes on from these tokens
abbrev ClassGoesOn : List Lexeme → Type 0
ClassGoesOn ks = (c : ClassDecl) × (more : List Lexeme) × ClassFits c × (class_tokens c ≡ ks ++ more)

body_goes_on : (c : ClassDecl) (p : MemberSoFar) → ClassFits c → GoesOn (in_place p) → ClassGoesOn (in_part (parts.Inside c p))
body_goes_on c p fits e = (
  record { name = c.name; parent = c.parent; members = c.members ++ e.0 ∷ [] },
  e.1 ++ lexemes.Close ∷ [],
  All-push PathFits c.members e.0 fits e.2,
  ap (λ l. lexemes.Class ∷ lexemes.Name c.name ∷ l)
      (ap (λ l. parent_tokens c.parent ++ lexemes.Open ∷ l)
      (regroup_part (flat_map member_tokens c.members) (member_tokens e.0) (in_place p) e.1 (flat_map member_tokens (c.members ++ e.0 ∷ [])) (flat_map-append member_tokens c.members (e.0 ∷ [])) e.3)
      ∙ sym (append_assoc (parent_tokens c.parent) (lexemes.Open ∷ (flat_map member_tokens c.members ++ in_place p)) (e.1 ++ lexemes.Close ∷ []))),
)

part_goes_on : (part : Part) → PartSound part → ClassGoesOn (in_part part)
part_goes_on parts.Between is = (new any_name None, class_tokens (new any_name None), none_fits (new any_name None) refl, refl)
part_goes_on parts.Word is = (new any_name None, lexemes.Name any_name ∷ lexemes.Open ∷ lexemes.Close ∷ [], none_fits (new any_name None) refl, refl)
part_goes_on (parts.Named n) is = (new n None, lexemes.Open ∷ lexemes.Close ∷ [], none_fits (new n None) refl, refl)
part_goes_on (parts.Extends n) is = (new n (Some any_name), lexemes.Name any_name ∷ lexemes.Open ∷ lexemes.Close ∷ [], none_fits (new n (Some any_name)) refl, refl)
part_goes_on (parts.Child n p) is = (new n (Some p), lexemes.Open ∷ lexemes.Close ∷ [], none_fits (new n (Some p)) refl, refl)
part_goes_on (parts.Inside c p) is = body_goes_on c p is.0 (place_goes_on p is.1)

-- some model begins with what a state has read
pub is_prefix : (s : State) → HasShortPaths s → IsModelPrefix (so_far s)
is_prefix s is =
    let e = part_goes_on s.part is.part in (
      e.1,
      (
        record { classes = s.classes ++ e.0 ∷ [] },
        record {
          fits = All-push ClassFits s.classes e.0 is.classes e.2;
          tokens = regroup (flat_map class_tokens s.classes) (class_tokens e.0) (in_part s.part) e.1 (flat_map class_tokens (s.classes ++ e.0 ∷ [])) (flat_map-append class_tokens s.classes (e.0 ∷ [])) e.3;
        },
      ),
    )
