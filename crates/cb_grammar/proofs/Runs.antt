-- Reading a tree's tokens gives the tree, and reading what a state has read leads to the state.
use Rattle.std.proofs.Common.{◌≡◌, refl, ap, sym, ◌∙◌, true, false, List, [], ◌∷◌, ◌++◌, append_assoc, append-nil, Option, None, Some, Bool, arith, suc}
use Rattle.std.specs.Prelude.{if◌then◌else◌, nat_lt, length, ◌+◌, ◌≤◌, ◌<◌}
use Rattle.std.proofs.lemmas.Bool.{lt-ltb}
use Rattle.std.proofs.lemmas.List.{length_push}
use Rattle.std.specs.List.{flat_map, All}
use Rattle.cb_grammar.specs.declared.tree.Token.{Token}
use Rattle.cb_grammar.specs.declared.tree.PlaceToken.{PlaceToken}
use Rattle.cb_grammar.specs.declared.tree.Member.{Member}
use Rattle.cb_grammar.specs.declared.tree.Member.TheVariants as members
use Rattle.cb_grammar.specs.declared.tree.ClassDecl.{ClassDecl}
use Rattle.cb_grammar.specs.declared.tree.Tree.{Tree}
use Rattle.cb_grammar.specs.declared.lexeme.Lexeme.{Lexeme}
use Rattle.cb_grammar.specs.declared.lexeme.Lexeme.TheVariants as lexemes
use Rattle.cb_grammar.specs.declared.place.EventPlace.{EventPlace}
use Rattle.cb_grammar.specs.declared.place.EventPlace.TheVariants as events
use Rattle.cb_grammar.specs.declared.place.RelationPlace.{RelationPlace}
use Rattle.cb_grammar.specs.declared.place.RelationPlace.TheVariants as relations
use Rattle.cb_grammar.specs.declared.place.RulePlace.{RulePlace}
use Rattle.cb_grammar.specs.declared.place.RulePlace.TheVariants as rules
use Rattle.cb_grammar.specs.declared.place.MemberSoFar.{MemberSoFar}
use Rattle.cb_grammar.specs.declared.place.MemberSoFar.TheVariants as places
use Rattle.cb_grammar.specs.declared.machine.Part.{Part}
use Rattle.cb_grammar.specs.declared.machine.Part.TheVariants as parts
use Rattle.cb_grammar.specs.declared.machine.State.{State}
use Rattle.cb_grammar.specs.Grammar.{step_tokens, named_step, member_tokens, class_tokens, parent_tokens, tree_tokens, PathFits, ClassFits, IsTreeOfTokens}
use Rattle.cb_grammar.specs.declared.place.Grown.{Grown}
use Rattle.cb_grammar.specs.declared.place.Grown.TheVariants.{More, Whole, Wrong}
use Rattle.cb_grammar.specs.Table.{next_state, after_grown, longer}
use Rattle.cb_grammar.proofs.Grows.{rule_head}
use Rattle.cb_grammar.specs.Read.{in_event, in_relation, in_rule, in_place, in_part, so_far, RuleSound, PlaceSound, PartSound, HasShortPaths}

abbrev pub then_step : Option State → Lexeme → Option State
then_step None k = None
then_step (Some s) k = next_state s k

-- the state after these tokens
abbrev pub run : Option State → List Lexeme → Option State
run o [] = o
run o (k ∷ ks) = run (then_step o k) ks

pub run-append : (xs ys : List Lexeme) (o : Option State) → run o (xs ++ ys) ≡ run (run o xs) ys
run-append [] ys o = refl
run-append (x ∷ xs) ys o = run-append xs ys (then_step o x)

pub run_none : (ks : List Lexeme) → run None ks ≡ None
run_none [] = refl
run_none (k ∷ ks) = run_none ks

-- the state inside a class
abbrev within : List ClassDecl → Token → Option Token → List Member → MemberSoFar → Option State
within cs n q ms p = Some (record { classes = cs; part = parts.Inside (record { name = n; parent = q; members = ms }) p })

-- the state inside a class whose member has grown
abbrev with_grown : List ClassDecl → Token → Option Token → List Member → Grown → Option State
with_grown cs n q ms g = after_grown cs (record { name = n; parent = q; members = ms }) g

-- the state between classes
abbrev pub between : List ClassDecl → Option State
between cs = Some (record { classes = cs; part = parts.Between })

abbrev pub start : Option State
start = between []

-- the place in a rule where the next name of its path or its effect is due
abbrev due : Token → Token → List PlaceToken → MemberSoFar
due t c [] = places.Rule (rules.Arrow t c)
due t c (p ∷ ps) = places.Rule (rules.Dot t c (p ∷ ps))

-- a name at such a place
due_name : (cs : List ClassDecl) (n : Token) (q : Option Token) (ms : List Member) (t c : Token) (path : List PlaceToken) (e : Token) (rest : List Lexeme) →
    run (within cs n q ms (due t c path)) (lexemes.Name e ∷ rest) ≡ run (within cs n q ms (places.Rule (rules.Effect t c path e))) rest
due_name cs n q ms t c [] e rest = refl
due_name cs n q ms t c (p ∷ ps) e rest = refl

due_longer : (t c : Token) (path : List PlaceToken) (p : PlaceToken) → places.Rule (rules.Dot t c (path ++ p ∷ [])) ≡ due t c (path ++ p ∷ [])
due_longer t c [] p = refl
due_longer t c (x ∷ xs) p = refl

fits_yet : (path : List PlaceToken) → length path < 4 → nat_lt (length path) 4 ≡ true
fits_yet path few = lt-ltb (length path) 4 few

-- the tokens of a place
step_runs : (cs : List ClassDecl) (n : Token) (q : Option Token) (ms : List Member) (t c : Token) (path : List PlaceToken) (e : Token) (plus : Bool) (rest : List Lexeme) → length path < 4 →
    run (within cs n q ms (due t c path)) (named_step e plus ++ rest) ≡ run (within cs n q ms (due t c (path ++ record { name = e; plus = plus } ∷ []))) rest
step_runs cs n q ms t c path e true rest few =
    due_name cs n q ms t c path e (lexemes.Plus ∷ lexemes.Dot ∷ rest)
    ∙ ap (λ b. run (with_grown cs n q ms (if b then More (places.Rule (rules.Plus t c path e)) else Wrong)) (lexemes.Dot ∷ rest)) (fits_yet path few)
    ∙ ap (λ place. run (within cs n q ms place) rest) (due_longer t c path (record { name = e; plus = true }))
step_runs cs n q ms t c path e false rest few =
    due_name cs n q ms t c path e (lexemes.Dot ∷ rest)
    ∙ ap (λ b. run (with_grown cs n q ms (if b then longer t c path e false else Wrong)) rest) (fits_yet path few)
    ∙ ap (λ place. run (within cs n q ms place) rest) (due_longer t c path (record { name = e; plus = false }))

-- the tokens of the places that are left of a path
steps_run : (cs : List ClassDecl) (n : Token) (q : Option Token) (ms : List Member) (t c : Token) (more path : List PlaceToken) (rest : List Lexeme) → length path + length more ≤ 4 →
    run (within cs n q ms (due t c path)) (flat_map step_tokens more ++ rest) ≡ run (within cs n q ms (due t c (path ++ more))) rest
steps_run cs n q ms t c [] path rest fits = rw append-nil refl
steps_run cs n q ms t c (p ∷ more) path rest fits =
    let long : length (path ++ p ∷ []) ≡ length path + 1 = length_push path p in
    rw (append_assoc (step_tokens p) (flat_map step_tokens more) rest)
    (step_runs cs n q ms t c path p.name p.plus (flat_map step_tokens more ++ rest) (omega (arith, fits))
    ∙ steps_run cs n q ms t c more (path ++ p ∷ []) rest (omega (arith, fits, long))
    ∙ ap (λ l. run (within cs n q ms (due t c l)) rest) (append_assoc path (p ∷ []) more))

-- what is read of a rule with its path
path_reads : (cs : List ClassDecl) (n : Token) (q : Option Token) (ms : List Member) (t c : Token) (path : List PlaceToken) (rest : List Lexeme) → length path ≤ 4 →
    run (within cs n q ms places.Start) (rule_head t c (flat_map step_tokens path ++ rest)) ≡ run (within cs n q ms (due t c path)) rest
path_reads cs n q ms t c path rest fits = steps_run cs n q ms t c path [] rest (omega (arith, fits))

-- a member's tokens add the member
rule_runs : (cs : List ClassDecl) (n : Token) (q : Option Token) (ms : List Member) (t c : Token) (path : List PlaceToken) (e : Token) (rest : List Lexeme) → length path ≤ 4 →
    run (within cs n q ms places.Start) (member_tokens (members.Rule t c path e) ++ rest) ≡ run (within cs n q (ms ++ members.Rule t c path e ∷ []) places.Start) rest
rule_runs cs n q ms t c path e rest fits =
    ap (λ ks. run (within cs n q ms places.Start) (rule_head t c ks)) (append_assoc (flat_map step_tokens path) (lexemes.Name e ∷ lexemes.Semicolon ∷ []) rest)
    ∙ path_reads cs n q ms t c path (lexemes.Name e ∷ lexemes.Semicolon ∷ rest) fits
    ∙ due_name cs n q ms t c path e (lexemes.Semicolon ∷ rest)

member_runs : (cs : List ClassDecl) (n : Token) (q : Option Token) (ms : List Member) (m : Member) (rest : List Lexeme) → PathFits m →
    run (within cs n q ms places.Start) (member_tokens m ++ rest) ≡ run (within cs n q (ms ++ m ∷ []) places.Start) rest
member_runs cs n q ms (members.Event t true true) rest fits = refl
member_runs cs n q ms (members.Event t true false) rest fits = refl
member_runs cs n q ms (members.Event t false true) rest fits = refl
member_runs cs n q ms (members.Event t false false) rest fits = refl
member_runs cs n q ms (members.Relation t g true i) rest fits = refl
member_runs cs n q ms (members.Relation t g false i) rest fits = refl
member_runs cs n q ms (members.Block t) rest fits = refl
member_runs cs n q ms (members.Hide t) rest fits = refl
member_runs cs n q ms (members.Rule t c path e) rest fits = rule_runs cs n q ms t c path e rest fits

first_of_all : {A : Type 0} (P : A → Type 0) (x : A) (xs : List A) → All P (x ∷ xs) → P x
first_of_all P x xs all = all 0 x (omega arith)

rest_of_all : {A : Type 0} (P : A → Type 0) (x : A) (xs : List A) → All P (x ∷ xs) → All P xs
rest_of_all P x xs all k d low = all (suc k) d (omega (arith, low))

members_run : (cs : List ClassDecl) (n : Token) (q : Option Token) (more ms : List Member) (rest : List Lexeme) → All PathFits more →
    run (within cs n q ms places.Start) (flat_map member_tokens more ++ rest) ≡ run (within cs n q (ms ++ more) places.Start) rest
members_run cs n q [] ms rest fits = rw append-nil refl
members_run cs n q (m ∷ more) ms rest fits =
    rw (append_assoc (member_tokens m) (flat_map member_tokens more) rest) (member_runs cs n q ms m (flat_map member_tokens more ++ rest) (first_of_all PathFits m more fits)
    ∙ members_run cs n q more (ms ++ m ∷ []) rest (rest_of_all PathFits m more fits) ∙ ap (λ l. run (within cs n q l places.Start) rest) (append_assoc ms (m ∷ []) more))

-- a class's head
head_runs : (cs : List ClassDecl) (n : Token) (q : Option Token) (rest : List Lexeme) →
    run (between cs) (lexemes.Class ∷ lexemes.Name n ∷ (parent_tokens q ++ lexemes.Open ∷ rest)) ≡ run (within cs n q [] places.Start) rest
head_runs cs n None rest = refl
head_runs cs n (Some p) rest = refl

class_runs : (cs : List ClassDecl) (c : ClassDecl) (rest : List Lexeme) → ClassFits c → run (between cs) (class_tokens c ++ rest) ≡ run (between (cs ++ c ∷ [])) rest
class_runs cs c rest fits =
    rw (append_assoc (parent_tokens c.parent) (lexemes.Open ∷ (flat_map member_tokens c.members ++ lexemes.Close ∷ [])) rest, append_assoc (flat_map member_tokens c.members) (lexemes.Close ∷ []) rest)
    (head_runs cs c.name c.parent (flat_map member_tokens c.members ++ lexemes.Close ∷ rest) ∙ members_run cs c.name c.parent c.members [] (lexemes.Close ∷ rest) fits)

classes_run : (more cs : List ClassDecl) (rest : List Lexeme) → All ClassFits more → run (between cs) (flat_map class_tokens more ++ rest) ≡ run (between (cs ++ more)) rest
classes_run [] cs rest fits = rw append-nil refl
classes_run (c ∷ more) cs rest fits =
    rw (append_assoc (class_tokens c) (flat_map class_tokens more) rest) (class_runs cs c (flat_map class_tokens more ++ rest) (first_of_all ClassFits c more fits)
    ∙ classes_run more (cs ++ c ∷ []) rest (rest_of_all ClassFits c more fits) ∙ ap (λ l. run (between l) rest) (append_assoc cs (c ∷ []) more))

-- a tree's tokens give the tree
pub tree_runs : (tree : Tree) (ks : List Lexeme) → IsTreeOfTokens tree ks → run start ks ≡ between tree.classes
tree_runs tree ks is = ap (run start) (sym is.tokens) ∙ rw (← append-nil (tree_tokens tree)) (classes_run tree.classes [] [] is.fits)

-- what a place has read leads to the place
path_runs : (cs : List ClassDecl) (n : Token) (q : Option Token) (ms : List Member) (t c : Token) (path : List PlaceToken) (e : Token) → length path ≤ 4 →
    run (within cs n q ms places.Start) (in_rule (rules.Effect t c path e)) ≡ within cs n q ms (places.Rule (rules.Effect t c path e))
path_runs cs n q ms t c path e fits = path_reads cs n q ms t c path (lexemes.Name e ∷ []) fits ∙ due_name cs n q ms t c path e []

plus_runs : (cs : List ClassDecl) (n : Token) (q : Option Token) (ms : List Member) (t c : Token) (path : List PlaceToken) (e : Token) → length path < 4 →
    run (within cs n q ms places.Start) (in_rule (rules.Plus t c path e)) ≡ within cs n q ms (places.Rule (rules.Plus t c path e))
plus_runs cs n q ms t c path e few =
    path_reads cs n q ms t c path (lexemes.Name e ∷ lexemes.Plus ∷ []) (omega (arith, few))
    ∙ due_name cs n q ms t c path e (lexemes.Plus ∷ [])
    ∙ ap (λ b. with_grown cs n q ms (if b then More (places.Rule (rules.Plus t c path e)) else Wrong)) (fits_yet path few)

dot_runs : (cs : List ClassDecl) (n : Token) (q : Option Token) (ms : List Member) (t c : Token) (path : List PlaceToken) → 0 < length path → length path ≤ 4 →
    run (within cs n q ms places.Start) (in_rule (rules.Dot t c path)) ≡ within cs n q ms (places.Rule (rules.Dot t c path))
dot_runs cs n q ms t c [] some fits = absurd (omega (arith, some))
dot_runs cs n q ms t c (p ∷ ps) some fits =
    ap (λ ks. run (within cs n q ms places.Start) (rule_head t c ks)) (sym (append-nil (flat_map step_tokens (p ∷ ps))))
    ∙ path_reads cs n q ms t c (p ∷ ps) [] fits

event_place_runs : (cs : List ClassDecl) (n : Token) (q : Option Token) (ms : List Member) (p : EventPlace) → run (within cs n q ms places.Start) (in_event p) ≡ within cs n q ms (places.Event p)
event_place_runs cs n q ms events.Problem = refl
event_place_runs cs n q ms events.ProblemSymptom = refl
event_place_runs cs n q ms events.Symptom = refl
event_place_runs cs n q ms events.Event = refl
event_place_runs cs n q ms (events.Named t true true) = refl
event_place_runs cs n q ms (events.Named t true false) = refl
event_place_runs cs n q ms (events.Named t false true) = refl
event_place_runs cs n q ms (events.Named t false false) = refl

relation_place_runs : (cs : List ClassDecl) (n : Token) (q : Option Token) (ms : List Member) (p : RelationPlace) →
    run (within cs n q ms places.Start) (in_relation p) ≡ within cs n q ms (places.Relation p)
relation_place_runs cs n q ms relations.Word = refl
relation_place_runs cs n q ms (relations.Named t) = refl
relation_place_runs cs n q ms (relations.To t) = refl
relation_place_runs cs n q ms (relations.Target t g) = refl
relation_place_runs cs n q ms (relations.Count t g true) = refl
relation_place_runs cs n q ms (relations.Count t g false) = refl
relation_place_runs cs n q ms (relations.Inverse t g true) = refl
relation_place_runs cs n q ms (relations.Inverse t g false) = refl
relation_place_runs cs n q ms (relations.Whole t g true i) = refl
relation_place_runs cs n q ms (relations.Whole t g false i) = refl

rule_place_runs : (cs : List ClassDecl) (n : Token) (q : Option Token) (ms : List Member) (p : RulePlace) → RuleSound p →
    run (within cs n q ms places.Start) (in_rule p) ≡ within cs n q ms (places.Rule p)
rule_place_runs cs n q ms rules.Word is = refl
rule_place_runs cs n q ms (rules.Named t) is = refl
rule_place_runs cs n q ms (rules.Colon t) is = refl
rule_place_runs cs n q ms (rules.Cause t c) is = refl
rule_place_runs cs n q ms (rules.Arrow t c) is = refl
rule_place_runs cs n q ms (rules.Effect t c path e) is = path_runs cs n q ms t c path e is
rule_place_runs cs n q ms (rules.Plus t c path e) is = plus_runs cs n q ms t c path e is
rule_place_runs cs n q ms (rules.Dot t c path) is = dot_runs cs n q ms t c path is.0 is.1

place_runs : (cs : List ClassDecl) (n : Token) (q : Option Token) (ms : List Member) (p : MemberSoFar) → PlaceSound p → run (within cs n q ms places.Start) (in_place p) ≡ within cs n q ms p
place_runs cs n q ms places.Start is = refl
place_runs cs n q ms (places.Event p) is = event_place_runs cs n q ms p
place_runs cs n q ms (places.Relation p) is = relation_place_runs cs n q ms p
place_runs cs n q ms (places.Rule p) is = rule_place_runs cs n q ms p is
place_runs cs n q ms places.Block is = refl
place_runs cs n q ms (places.BlockName t) is = refl
place_runs cs n q ms places.Hide is = refl
place_runs cs n q ms (places.HideName t) is = refl

part_runs : (cs : List ClassDecl) (part : Part) → PartSound part → run (between cs) (in_part part) ≡ Some (record { classes = cs; part = part })
part_runs cs parts.Between is = refl
part_runs cs parts.Word is = refl
part_runs cs (parts.Named t) is = refl
part_runs cs (parts.Extends t) is = refl
part_runs cs (parts.Child t p) is = refl
part_runs cs (parts.Inside c p) is =
    head_runs cs c.name c.parent (flat_map member_tokens c.members ++ in_place p) ∙ members_run cs c.name c.parent c.members [] (in_place p) is.0 ∙ place_runs cs c.name c.parent c.members p is.1

-- what a state has read leads to the state
pub reaches : (s : State) → HasShortPaths s → run start (so_far s) ≡ Some s
reaches s is = classes_run s.classes [] (in_part s.part) is.classes ∙ part_runs s.classes s.part is.part
