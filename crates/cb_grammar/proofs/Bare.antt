-- The machine does not look at where names stand.
use Rattle.std.proofs.Common.{◌≡◌, refl, ap, sym, ◌∙◌, subst, List, [], ◌∷◌, ◌++◌, Bool, true, false, Option, None, Some, append-nil, append_assoc, map, arith}
use Rattle.std.specs.Prelude.{if◌then◌else◌, nat_lt, length, IfSome}
use Rattle.std.proofs.lemmas.List.{map-append, length-map}
use Rattle.cb_grammar.specs.declared.tree.Token.{Token}
use Rattle.cb_grammar.specs.declared.tree.PlaceToken.{PlaceToken}
use Rattle.cb_grammar.specs.declared.tree.ClassDecl.{ClassDecl}
use Rattle.cb_grammar.specs.declared.tree.Tree.{Tree}
use Rattle.cb_grammar.specs.declared.lexeme.Lexeme.{Lexeme}
use Rattle.cb_grammar.specs.declared.lexeme.Lexeme.TheVariants as lexemes
use Rattle.cb_grammar.specs.declared.place.EventPlace.{EventPlace}
use Rattle.cb_grammar.specs.declared.place.EventPlace.TheVariants as events
use Rattle.cb_grammar.specs.declared.place.RelationPlace.{RelationPlace}
use Rattle.cb_grammar.specs.declared.place.RelationPlace.TheVariants as relations
use Rattle.cb_grammar.specs.declared.place.RulePlace.{RulePlace}
use Rattle.cb_grammar.specs.declared.place.RulePlace.TheVariants as rules
use Rattle.cb_grammar.specs.declared.place.MemberSoFar.{MemberSoFar}
use Rattle.cb_grammar.specs.declared.place.MemberSoFar.TheVariants as places
use Rattle.cb_grammar.specs.declared.place.Grown.{Grown}
use Rattle.cb_grammar.specs.declared.place.Grown.TheVariants.{More, Whole, Wrong}
use Rattle.cb_grammar.specs.declared.machine.Part.{Part}
use Rattle.cb_grammar.specs.declared.machine.Part.TheVariants as parts
use Rattle.cb_grammar.specs.declared.machine.State.{State}
use Rattle.cb_grammar.specs.Bare.{bare, bare_name, bare_step, bare_parent, bare_member, bare_class, bare_tree}
use Rattle.cb_grammar.proofs.Prefix.{classes_of, tree_of}
use Rattle.cb_grammar.specs.Grammar.{tree_tokens, IsTreeOfTokens, PathsFit}
use Rattle.cb_grammar.specs.Table.{begun, next_event, next_relation, next_rule, next, next_head, next_inside, next_part, next_state, after_grown, with_part, longer}
use Rattle.cb_grammar.specs.Read.{so_far, HasShortPaths}
use Rattle.cb_grammar.proofs.Grows.{Grows, grows, stays_sound}
use Rattle.cb_grammar.proofs.Runs.{run, then_step, run_none, start, between, tree_runs}

abbrev bare_event : EventPlace → EventPlace
bare_event (events.Named n p s) = events.Named (bare_name n) p s
bare_event p = p

abbrev bare_relation : RelationPlace → RelationPlace
bare_relation relations.Word = relations.Word
bare_relation (relations.Named n) = relations.Named (bare_name n)
bare_relation (relations.To n) = relations.To (bare_name n)
bare_relation (relations.Target n g) = relations.Target (bare_name n) (bare_name g)
bare_relation (relations.Count n g m) = relations.Count (bare_name n) (bare_name g) m
bare_relation (relations.Inverse n g m) = relations.Inverse (bare_name n) (bare_name g) m
bare_relation (relations.Whole n g m i) = relations.Whole (bare_name n) (bare_name g) m (bare_name i)

abbrev bare_rule : RulePlace → RulePlace
bare_rule rules.Word = rules.Word
bare_rule (rules.Named n) = rules.Named (bare_name n)
bare_rule (rules.Colon n) = rules.Colon (bare_name n)
bare_rule (rules.Cause n c) = rules.Cause (bare_name n) (bare_name c)
bare_rule (rules.Arrow n c) = rules.Arrow (bare_name n) (bare_name c)
bare_rule (rules.Effect n c path e) = rules.Effect (bare_name n) (bare_name c) (map bare_step path) (bare_name e)
bare_rule (rules.Plus n c path e) = rules.Plus (bare_name n) (bare_name c) (map bare_step path) (bare_name e)
bare_rule (rules.Dot n c path) = rules.Dot (bare_name n) (bare_name c) (map bare_step path)

abbrev bare_place : MemberSoFar → MemberSoFar
bare_place places.Start = places.Start
bare_place (places.Event p) = places.Event (bare_event p)
bare_place (places.Relation p) = places.Relation (bare_relation p)
bare_place (places.Rule p) = places.Rule (bare_rule p)
bare_place places.Block = places.Block
bare_place (places.BlockName n) = places.BlockName (bare_name n)
bare_place places.Hide = places.Hide
bare_place (places.HideName n) = places.HideName (bare_name n)

abbrev bare_part : Part → Part
bare_part parts.Between = parts.Between
bare_part parts.Word = parts.Word
bare_part (parts.Named n) = parts.Named (bare_name n)
bare_part (parts.Extends n) = parts.Extends (bare_name n)
bare_part (parts.Child n p) = parts.Child (bare_name n) (bare_name p)
bare_part (parts.Inside c p) = parts.Inside (bare_class c) (bare_place p)

abbrev bare_state : State → State
bare_state s = record { classes = map bare_class s.classes; part = bare_part s.part }

abbrev bare_option : Option State → Option State
bare_option None = None
bare_option (Some s) = Some (bare_state s)

abbrev bare_head : Option Part → Option Part
bare_head None = None
bare_head (Some part) = Some (bare_part part)

abbrev bare_grown : Grown → Grown
bare_grown (More p) = More (bare_place p)
bare_grown (Whole m) = Whole (bare_member m)
bare_grown Wrong = Wrong

bare_begun : (k : Lexeme) → begun (bare k) ≡ bare_grown (begun k)
bare_begun lexemes.Problem = refl
bare_begun lexemes.Symptom = refl
bare_begun lexemes.Event = refl
bare_begun lexemes.Relation = refl
bare_begun lexemes.Rule = refl
bare_begun lexemes.Block = refl
bare_begun lexemes.Hide = refl
bare_begun k = refl

bare_next_event : (p : EventPlace) (k : Lexeme) → next_event (bare_event p) (bare k) ≡ bare_grown (next_event p k)
bare_next_event events.Problem lexemes.Symptom = refl
bare_next_event events.Problem (lexemes.Name t) = refl
bare_next_event events.ProblemSymptom (lexemes.Name t) = refl
bare_next_event events.Symptom (lexemes.Name t) = refl
bare_next_event events.Event (lexemes.Name t) = refl
bare_next_event (events.Named n p s) lexemes.Semicolon = refl
bare_next_event p k = refl

bare_next_relation : (p : RelationPlace) (k : Lexeme) → next_relation (bare_relation p) (bare k) ≡ bare_grown (next_relation p k)
bare_next_relation relations.Word (lexemes.Name t) = refl
bare_next_relation (relations.Named n) lexemes.To = refl
bare_next_relation (relations.To n) (lexemes.Name t) = refl
bare_next_relation (relations.Target n g) lexemes.One = refl
bare_next_relation (relations.Target n g) lexemes.Many = refl
bare_next_relation (relations.Count n g m) lexemes.Inverse = refl
bare_next_relation (relations.Inverse n g m) (lexemes.Name t) = refl
bare_next_relation (relations.Whole n g m i) lexemes.Semicolon = refl
bare_next_relation p k = refl

bare_longer : (n c : Token) (path : List PlaceToken) (e : Token) (plus : Bool) →
    longer (bare_name n) (bare_name c) (map bare_step path) (bare_name e) plus ≡ bare_grown (longer n c path e plus)
bare_longer n c path e plus = ap (λ l. More (places.Rule (rules.Dot (bare_name n) (bare_name c) l))) (sym (map-append bare_step path (record { name = e; plus = plus } ∷ [])))

bare_dot : (n c : Token) (path : List PlaceToken) (e : Token) (b : Bool) →
    (if b then longer (bare_name n) (bare_name c) (map bare_step path) (bare_name e) false else Wrong) ≡ bare_grown (if b then longer n c path e false else Wrong)
bare_dot n c path e true = bare_longer n c path e false
bare_dot n c path e false = refl

bare_plus : (n c : Token) (path : List PlaceToken) (e : Token) (b : Bool) →
    (if b then More (places.Rule (rules.Plus (bare_name n) (bare_name c) (map bare_step path) (bare_name e))) else Wrong) ≡ bare_grown (if b then More (places.Rule (rules.Plus n c path e)) else Wrong)
bare_plus n c path e true = refl
bare_plus n c path e false = refl

bare_next_rule : (p : RulePlace) (k : Lexeme) → next_rule (bare_rule p) (bare k) ≡ bare_grown (next_rule p k)
bare_next_rule rules.Word (lexemes.Name t) = refl
bare_next_rule (rules.Named n) lexemes.Colon = refl
bare_next_rule (rules.Colon n) (lexemes.Name t) = refl
bare_next_rule (rules.Cause n c) lexemes.Arrow = refl
bare_next_rule (rules.Arrow n c) (lexemes.Name t) = refl
bare_next_rule (rules.Effect n c path e) lexemes.Semicolon = refl
bare_next_rule (rules.Effect n c path e) lexemes.Dot =
    ap (λ l. if nat_lt l 4 then longer (bare_name n) (bare_name c) (map bare_step path) (bare_name e) false else Wrong) (length-map path bare_step) ∙ bare_dot n c path e (nat_lt (length path) 4)
bare_next_rule (rules.Effect n c path e) lexemes.Plus =
    ap (λ l. if nat_lt l 4 then More (places.Rule (rules.Plus (bare_name n) (bare_name c) (map bare_step path) (bare_name e))) else Wrong) (length-map path bare_step) ∙ bare_plus n c path e (nat_lt (length path) 4)
bare_next_rule (rules.Plus n c path e) lexemes.Dot = bare_longer n c path e true
bare_next_rule (rules.Dot n c path) (lexemes.Name t) = refl
bare_next_rule p k = refl

bare_next : (p : MemberSoFar) (k : Lexeme) → next (bare_place p) (bare k) ≡ bare_grown (next p k)
bare_next places.Start k = bare_begun k
bare_next (places.Event p) k = bare_next_event p k
bare_next (places.Relation p) k = bare_next_relation p k
bare_next (places.Rule p) k = bare_next_rule p k
bare_next places.Block (lexemes.Name t) = refl
bare_next (places.BlockName n) lexemes.Semicolon = refl
bare_next places.Hide (lexemes.Name t) = refl
bare_next (places.HideName n) lexemes.Semicolon = refl
bare_next p k = refl

bare_after : (cs : List ClassDecl) (c : ClassDecl) (g : Grown) → after_grown (map bare_class cs) (bare_class c) (bare_grown g) ≡ bare_option (after_grown cs c g)
bare_after cs c (More p) = refl
bare_after cs c (Whole m) =
    ap (λ ms. Some (record { classes = map bare_class cs; part = parts.Inside (record { name = bare_name c.name; parent = bare_parent c.parent; members = ms }) places.Start })) (sym (map-append bare_member c.members (m ∷ [])))
bare_after cs c Wrong = refl

bare_inside : (cs : List ClassDecl) (c : ClassDecl) (p : MemberSoFar) (k : Lexeme) → next_inside (map bare_class cs) (bare_class c) (bare_place p) (bare k) ≡ bare_option (next_inside cs c p k)
bare_inside cs c places.Start lexemes.Close = ap (λ l. Some (record { classes = l; part = parts.Between })) (sym (map-append bare_class cs (c ∷ [])))
bare_inside cs c p k = ap (after_grown (map bare_class cs) (bare_class c)) (bare_next p k) ∙ bare_after cs c (next p k)

bare_next_head : (part : Part) (k : Lexeme) → next_head (bare_part part) (bare k) ≡ bare_head (next_head part k)
bare_next_head parts.Between lexemes.Class = refl
bare_next_head parts.Word (lexemes.Name t) = refl
bare_next_head (parts.Named n) lexemes.Extends = refl
bare_next_head (parts.Named n) lexemes.Open = refl
bare_next_head (parts.Extends n) (lexemes.Name t) = refl
bare_next_head (parts.Child n p) lexemes.Open = refl
bare_next_head part k = refl

bare_with : (cs : List ClassDecl) (o : Option Part) → with_part (map bare_class cs) (bare_head o) ≡ bare_option (with_part cs o)
bare_with cs None = refl
bare_with cs (Some part) = refl

bare_next_part : (cs : List ClassDecl) (part : Part) (k : Lexeme) → next_part (map bare_class cs) (bare_part part) (bare k) ≡ bare_option (next_part cs part k)
bare_next_part cs (parts.Inside c p) k = bare_inside cs c p k
bare_next_part cs parts.Between k = ap (with_part (map bare_class cs)) (bare_next_head parts.Between k) ∙ bare_with cs (next_head parts.Between k)
bare_next_part cs parts.Word k = ap (with_part (map bare_class cs)) (bare_next_head parts.Word k) ∙ bare_with cs (next_head parts.Word k)
bare_next_part cs (parts.Named n) k = ap (with_part (map bare_class cs)) (bare_next_head (parts.Named n) k) ∙ bare_with cs (next_head (parts.Named n) k)
bare_next_part cs (parts.Extends n) k = ap (with_part (map bare_class cs)) (bare_next_head (parts.Extends n) k) ∙ bare_with cs (next_head (parts.Extends n) k)
bare_next_part cs (parts.Child n p) k = ap (with_part (map bare_class cs)) (bare_next_head (parts.Child n p) k) ∙ bare_with cs (next_head (parts.Child n p) k)

bare_then : (o : Option State) (k : Lexeme) → then_step (bare_option o) (bare k) ≡ bare_option (then_step o k)
bare_then None k = refl
bare_then (Some s) k = bare_next_part s.classes s.part k

bare_run : (ks : List Lexeme) (o : Option State) → run (bare_option o) (map bare ks) ≡ bare_option (run o ks)
bare_run [] o = refl
bare_run (k ∷ ks) o = ap (λ x. run x (map bare ks)) (bare_then o k) ∙ bare_run ks (then_step o k)

-- what the machine reads is what it is given, and stays sound
abbrev ReadsAll : Option State → List Lexeme → Type 0
ReadsAll None ks = Unit {0}
ReadsAll (Some s) ks = (so_far s ≡ ks) × HasShortPaths s

step_reads : (o : Option State) (ks : List Lexeme) → Grows o ks → IfSome o HasShortPaths → ReadsAll o ks
step_reads None ks g s = tt
step_reads (Some x) ks g s = (g, s)

run_goes : (k : Lexeme) (ks before : List Lexeme) (o : Option State) → ((s : State) → HasShortPaths s → ReadsAll (run (Some s) ks) (so_far s ++ ks)) → ReadsAll o (before ++ k ∷ []) → ReadsAll (run o ks) (before ++ k ∷ ks)
run_goes k ks before None more one = subst (λ o. ReadsAll o (before ++ k ∷ ks)) (sym (run_none ks)) tt
run_goes k ks before (Some s) more one = subst (λ l. ReadsAll (run (Some s) ks) l) (ap (λ l. l ++ ks) one.0 ∙ append_assoc before (k ∷ []) ks) (more s one.1)

run_reads : (ks : List Lexeme) (s : State) → HasShortPaths s → ReadsAll (run (Some s) ks) (so_far s ++ ks)
run_reads [] s is = (sym (append-nil (so_far s)), is)
run_reads (k ∷ ks) s is = run_goes k ks (so_far s) (next_state s k) (run_reads ks) (step_reads (next_state s k) (so_far s ++ k ∷ []) (grows s k) (stays_sound s k is))

abbrev Ends : Part → Type 0
Ends parts.Between = Unit {0}
Ends part = ⊥

abbrev EndsOption : Option State → Type 0
EndsOption None = ⊥
EndsOption (Some s) = Ends s.part

part_done : (cs : List ClassDecl) (part : Part) (ks : List Lexeme) → Ends (bare_part part) → so_far (record { classes = cs; part = part }) ≡ ks → HasShortPaths (record { classes = cs; part = part }) →
    IsTreeOfTokens (tree_of cs) ks
part_done cs parts.Between ks ends is sound = record { fits = sound.classes; tokens = sym (append-nil (tree_tokens (tree_of cs))) ∙ is }
part_done cs part ks ends is sound = absurd ends

-- these are the tokens of a tree with these classes but for their places
abbrev IsBareTree : List Lexeme → List ClassDecl → Type 0
IsBareTree ks cs = (again : Tree) × IsTreeOfTokens again ks × (bare_tree again ≡ bare_tree (tree_of cs))

done : (o : Option State) (ks : List Lexeme) (cs : List ClassDecl) → bare_option o ≡ bare_option (between cs) → ReadsAll o ks → IsBareTree ks cs
done None ks cs same is = absurd (subst EndsOption (sym same) tt)
done (Some s) ks cs same is = (tree_of s.classes, part_done s.classes s.part ks (subst EndsOption (sym same) tt) is.0 is.1, ap (λ o. tree_of (classes_of o)) same)

pub same_but_places : (ks : List Lexeme) (tree : Tree) → PathsFit tree → map bare ks ≡ map bare (tree_tokens tree) → (again : Tree) × IsTreeOfTokens again ks × (bare_tree again ≡ bare_tree tree)
same_but_places ks tree fits same =
    let whole : IsTreeOfTokens tree (tree_tokens tree) = record { fits = fits; tokens = refl } in
    let there : bare_option (run start ks) ≡ bare_option (between tree.classes) =
    sym (bare_run ks start) ∙ ap (run start) same ∙ bare_run (tree_tokens tree) start ∙ ap bare_option (tree_runs tree (tree_tokens tree) whole) in
    done (run start ks) ks tree.classes there (run_reads ks (record { classes = []; part = parts.Between }) (record { classes = λ k d low. absurd (omega arith); part = tt }))
