-- A step adds its token to those read, and keeps paths of at most 4 places.
use Rattle.std.proofs.Common.{◌≡◌, refl, ap, sym, ◌∙◌, true, false, List, [], ◌∷◌, ◌++◌, append_assoc, append-nil, Option, None, Some, Bool, arith, ltb-true}
use Rattle.std.specs.Prelude.{IfSome, if◌then◌else◌, nat_lt, length, ◌+◌, ◌<◌}
use Rattle.std.specs.List.{flat_map, All}
use Rattle.std.proofs.lemmas.List.{length_push}
use Rattle.std.proofs.lemmas.List.Elements.{All-push}
use Rattle.std.proofs.lemmas.Grind.{flat_map-append, common_steps}
use Rattle.cb_grammar.specs.declared.tree.Token.{Token}
use Rattle.cb_grammar.specs.declared.tree.PlaceToken.{PlaceToken}
use Rattle.cb_grammar.specs.declared.tree.Member.TheVariants as members
use Rattle.cb_grammar.specs.declared.tree.ClassDecl.{ClassDecl}
use Rattle.cb_grammar.specs.declared.lexeme.Lexeme.{Lexeme}
use Rattle.cb_grammar.specs.declared.lexeme.Lexeme.TheVariants as lexemes
use Rattle.cb_grammar.specs.declared.place.EventPlace.{EventPlace}
use Rattle.cb_grammar.specs.declared.place.EventPlace.TheVariants as events
use Rattle.cb_grammar.specs.declared.place.RelationPlace.{RelationPlace}
use Rattle.cb_grammar.specs.declared.place.RelationPlace.TheVariants as relations
use Rattle.cb_grammar.specs.declared.place.RulePlace.{RulePlace}
use Rattle.cb_grammar.specs.declared.place.RulePlace.TheVariants as rules
use Rattle.cb_grammar.specs.declared.place.MemberSoFar.{MemberSoFar}
use Rattle.cb_grammar.specs.declared.place.MemberSoFar.TheVariants as places
use Rattle.cb_grammar.specs.declared.place.Grown.{Grown}
use Rattle.cb_grammar.specs.declared.place.Grown.TheVariants.{More, Whole, Wrong}
use Rattle.cb_grammar.specs.declared.machine.Part.{Part}
use Rattle.cb_grammar.specs.declared.machine.Part.TheVariants as parts
use Rattle.cb_grammar.specs.declared.machine.State.{State}
use Rattle.cb_grammar.specs.Grammar.{step_tokens, named_step, member_tokens, class_tokens, parent_tokens, PathFits, ClassFits}
use Rattle.cb_grammar.specs.Table.{begun, next_event, next_relation, next_rule, next, next_head, next_inside, next_part, next_state, after_grown, with_part, longer}
use Rattle.cb_grammar.specs.Read.{in_event, in_relation, in_rule, in_place, in_part, so_far, RuleSound, PlaceSound, PartSound, HasShortPaths}

-- the tokens of what a member became
abbrev pub Reported : Grown → List Lexeme → Type 0
Reported (More p) ks = in_place p ≡ ks
Reported (Whole m) ks = member_tokens m ≡ ks
Reported Wrong ks = Unit {0}

grows_event : (p : EventPlace) (k : Lexeme) → Reported (next_event p k) (in_event p ++ k ∷ [])
grows_event events.Problem lexemes.Symptom = refl
grows_event events.Problem (lexemes.Name t) = refl
grows_event events.ProblemSymptom (lexemes.Name t) = refl
grows_event events.Symptom (lexemes.Name t) = refl
grows_event events.Event (lexemes.Name t) = refl
grows_event (events.Named n true true) lexemes.Semicolon = refl
grows_event (events.Named n true false) lexemes.Semicolon = refl
grows_event (events.Named n false true) lexemes.Semicolon = refl
grows_event (events.Named n false false) lexemes.Semicolon = refl
grows_event p k = tt

grows_relation : (p : RelationPlace) (k : Lexeme) → Reported (next_relation p k) (in_relation p ++ k ∷ [])
grows_relation relations.Word (lexemes.Name t) = refl
grows_relation (relations.Named n) lexemes.To = refl
grows_relation (relations.To n) (lexemes.Name t) = refl
grows_relation (relations.Target n g) lexemes.One = refl
grows_relation (relations.Target n g) lexemes.Many = refl
grows_relation (relations.Count n g true) lexemes.Inverse = refl
grows_relation (relations.Count n g false) lexemes.Inverse = refl
grows_relation (relations.Inverse n g true) (lexemes.Name t) = refl
grows_relation (relations.Inverse n g false) (lexemes.Name t) = refl
grows_relation (relations.Whole n g true i) lexemes.Semicolon = refl
grows_relation (relations.Whole n g false i) lexemes.Semicolon = refl
grows_relation p k = tt

-- the tokens of a rule up to its path
abbrev pub rule_head : Token → Token → List Lexeme → List Lexeme
rule_head n c ks = lexemes.Rule ∷ lexemes.Name n ∷ lexemes.Colon ∷ lexemes.Name c ∷ lexemes.Arrow ∷ ks

-- the tokens of a path with one place more
pub flat_longer : (path : List PlaceToken) (e : Token) (plus : Bool) → flat_map step_tokens (path ++ record { name = e; plus = plus } ∷ []) ≡ flat_map step_tokens path ++ named_step e plus
flat_longer path e true = flat_map-append step_tokens path (record { name = e; plus = true } ∷ [])
flat_longer path e false = flat_map-append step_tokens path (record { name = e; plus = false } ∷ [])

grows_dot : (n c : Token) (path : List PlaceToken) (e : Token) (b : Bool) → Reported (if b then longer n c path e false else Wrong) (in_rule (rules.Effect n c path e) ++ lexemes.Dot ∷ [])
grows_dot n c path e true = ap (rule_head n c) (flat_longer path e false ∙ sym (append_assoc (flat_map step_tokens path) (lexemes.Name e ∷ []) (lexemes.Dot ∷ [])))
grows_dot n c path e false = tt

grows_plus : (n c : Token) (path : List PlaceToken) (e : Token) (b : Bool) → Reported (if b then More (places.Rule (rules.Plus n c path e)) else Wrong) (in_rule (rules.Effect n c path e) ++ lexemes.Plus ∷ [])
grows_plus n c path e true = ap (rule_head n c) (sym (append_assoc (flat_map step_tokens path) (lexemes.Name e ∷ []) (lexemes.Plus ∷ [])))
grows_plus n c path e false = tt

pub ends_path : (n c : Token) (path : List PlaceToken) (e : Token) → member_tokens (members.Rule n c path e) ≡ in_rule (rules.Effect n c path e) ++ lexemes.Semicolon ∷ []
ends_path n c path e = ap (rule_head n c) (sym (append_assoc (flat_map step_tokens path) (lexemes.Name e ∷ []) (lexemes.Semicolon ∷ [])))

grows_rule : (p : RulePlace) (k : Lexeme) → Reported (next_rule p k) (in_rule p ++ k ∷ [])
grows_rule rules.Word (lexemes.Name t) = refl
grows_rule (rules.Named n) lexemes.Colon = refl
grows_rule (rules.Colon n) (lexemes.Name t) = refl
grows_rule (rules.Cause n c) lexemes.Arrow = refl
grows_rule (rules.Arrow n c) (lexemes.Name t) = refl
grows_rule (rules.Effect n c path e) lexemes.Semicolon = ends_path n c path e
grows_rule (rules.Effect n c path e) lexemes.Dot = grows_dot n c path e (nat_lt (length path) 4)
grows_rule (rules.Effect n c path e) lexemes.Plus = grows_plus n c path e (nat_lt (length path) 4)
grows_rule (rules.Plus n c path e) lexemes.Dot =
    ap (rule_head n c) (flat_longer path e true ∙ sym (append_assoc (flat_map step_tokens path) (lexemes.Name e ∷ lexemes.Plus ∷ []) (lexemes.Dot ∷ [])))
grows_rule (rules.Dot n c path) (lexemes.Name t) = refl
grows_rule p k = tt

grows_begun : (k : Lexeme) → Reported (begun k) (k ∷ [])
grows_begun lexemes.Problem = refl
grows_begun lexemes.Symptom = refl
grows_begun lexemes.Event = refl
grows_begun lexemes.Relation = refl
grows_begun lexemes.Rule = refl
grows_begun lexemes.Block = refl
grows_begun lexemes.Hide = refl
grows_begun k = tt

grows_place : (p : MemberSoFar) (k : Lexeme) → Reported (next p k) (in_place p ++ k ∷ [])
grows_place places.Start k = grows_begun k
grows_place (places.Event p) k = grows_event p k
grows_place (places.Relation p) k = grows_relation p k
grows_place (places.Rule p) k = grows_rule p k
grows_place places.Block (lexemes.Name t) = refl
grows_place (places.BlockName n) lexemes.Semicolon = refl
grows_place places.Hide (lexemes.Name t) = refl
grows_place (places.HideName n) lexemes.Semicolon = refl
grows_place p k = tt

-- the tokens of what a state became
abbrev pub Grows : Option State → List Lexeme → Type 0
Grows o ks = IfSome o (λ s. so_far s ≡ ks)

grows_after : (cs : List ClassDecl) (c : ClassDecl) (ks : List Lexeme) (k : Lexeme) (g : Grown) → Reported g (ks ++ k ∷ []) →
    Grows (after_grown cs c g) ((flat_map class_tokens cs ++ (lexemes.Class ∷ lexemes.Name c.name ∷ (parent_tokens c.parent ++ lexemes.Open ∷ (flat_map member_tokens c.members ++ ks)))) ++ k ∷ [])
grows_after cs c ks k (More p) t = rw t (grind (arith, common_steps))
grows_after cs c ks k (Whole m) t = grind (arith, common_steps, t, flat_map-append)
grows_after cs c ks k Wrong t = tt

closes : (cs : List ClassDecl) (c : ClassDecl) → flat_map class_tokens (cs ++ c ∷ []) ++ [] ≡ flat_map class_tokens cs ++ in_part (parts.Inside c places.Start) ++ lexemes.Close ∷ []
closes cs c =
    rw (append-nil (flat_map class_tokens (cs ++ c ∷ [])), flat_map-append class_tokens cs (c ∷ []), append-nil (class_tokens c), append-nil (flat_map member_tokens c.members))
    (ap (λ l. flat_map class_tokens cs ++ (lexemes.Class ∷ lexemes.Name c.name ∷ l)) (sym (append_assoc (parent_tokens c.parent) (lexemes.Open ∷ flat_map member_tokens c.members) (lexemes.Close ∷ [])))
    ∙ sym (append_assoc (flat_map class_tokens cs) (lexemes.Class ∷ lexemes.Name c.name ∷ (parent_tokens c.parent ++ lexemes.Open ∷ flat_map member_tokens c.members)) (lexemes.Close ∷ [])))

grows_inside : (cs : List ClassDecl) (c : ClassDecl) (p : MemberSoFar) (k : Lexeme) → Grows (next_inside cs c p k) (flat_map class_tokens cs ++ in_part (parts.Inside c p) ++ k ∷ [])
grows_inside cs c places.Start lexemes.Close = closes cs c
grows_inside cs c p k = grows_after cs c (in_place p) k (next p k) (grows_place p k)

-- the tokens of what a head became
abbrev pub GrowsHead : Option Part → List Lexeme → Type 0
GrowsHead o ks = IfSome o (λ part. in_part part ≡ ks)

grows_head : (part : Part) (k : Lexeme) → GrowsHead (next_head part k) (in_part part ++ k ∷ [])
grows_head parts.Between lexemes.Class = refl
grows_head parts.Word (lexemes.Name t) = refl
grows_head (parts.Named n) lexemes.Extends = refl
grows_head (parts.Named n) lexemes.Open = refl
grows_head (parts.Extends n) (lexemes.Name t) = refl
grows_head (parts.Child n p) lexemes.Open = refl
grows_head part k = tt

grows_with : (cs : List ClassDecl) (ks : List Lexeme) (k : Lexeme) (o : Option Part) → GrowsHead o (ks ++ k ∷ []) → Grows (with_part cs o) (flat_map class_tokens cs ++ ks ++ k ∷ [])
grows_with cs ks k None is = tt
grows_with cs ks k (Some part) is = ap (λ l. flat_map class_tokens cs ++ l) is ∙ sym (append_assoc (flat_map class_tokens cs) ks (k ∷ []))

grows_part : (cs : List ClassDecl) (part : Part) (k : Lexeme) → Grows (next_part cs part k) (flat_map class_tokens cs ++ in_part part ++ k ∷ [])
grows_part cs (parts.Inside c p) k = grows_inside cs c p k
grows_part cs parts.Between k = grows_with cs [] k (next_head parts.Between k) (grows_head parts.Between k)
grows_part cs parts.Word k = grows_with cs (in_part parts.Word) k (next_head parts.Word k) (grows_head parts.Word k)
grows_part cs (parts.Named n) k = grows_with cs (in_part (parts.Named n)) k (next_head (parts.Named n) k) (grows_head (parts.Named n) k)
grows_part cs (parts.Extends n) k = grows_with cs (in_part (parts.Extends n)) k (next_head (parts.Extends n) k) (grows_head (parts.Extends n) k)
grows_part cs (parts.Child n p) k = grows_with cs (in_part (parts.Child n p)) k (next_head (parts.Child n p) k) (grows_head (parts.Child n p) k)

-- a step that succeeds adds its token
pub grows : (s : State) (k : Lexeme) → Grows (next_state s k) (so_far s ++ k ∷ [])
grows s k = grows_part s.classes s.part k

-- paths keep at most 4 places
abbrev GrownSound : Grown → Type 0
GrownSound (More p) = PlaceSound p
GrownSound (Whole m) = PathFits m
GrownSound Wrong = Unit {0}

sound_longer : (n c : Token) (path : List PlaceToken) (e : Token) (plus : Bool) → length path < 4 → GrownSound (longer n c path e plus)
sound_longer n c path e plus few =
    let p : PlaceToken = record { name = e; plus = plus } in
    let long : length (path ++ p ∷ []) ≡ length path + 1 = length_push path p in (omega (arith, long), omega (arith, long, few))

sound_dot : (n c : Token) (path : List PlaceToken) (e : Token) (b : Bool) → nat_lt (length path) 4 ≡ b → GrownSound (if b then longer n c path e false else Wrong)
sound_dot n c path e true is = sound_longer n c path e false (ltb-true (length path) 4 is)
sound_dot n c path e false is = tt

sound_plus : (n c : Token) (path : List PlaceToken) (e : Token) (b : Bool) → nat_lt (length path) 4 ≡ b → GrownSound (if b then More (places.Rule (rules.Plus n c path e)) else Wrong)
sound_plus n c path e true is = ltb-true (length path) 4 is
sound_plus n c path e false is = tt

sound_rule : (p : RulePlace) (k : Lexeme) → RuleSound p → GrownSound (next_rule p k)
sound_rule rules.Word (lexemes.Name t) h = tt
sound_rule (rules.Named n) lexemes.Colon h = tt
sound_rule (rules.Colon n) (lexemes.Name t) h = tt
sound_rule (rules.Cause n c) lexemes.Arrow h = tt
sound_rule (rules.Arrow n c) (lexemes.Name t) h = omega arith
sound_rule (rules.Effect n c path e) lexemes.Semicolon h = h
sound_rule (rules.Effect n c path e) lexemes.Dot h = sound_dot n c path e (nat_lt (length path) 4) refl
sound_rule (rules.Effect n c path e) lexemes.Plus h = sound_plus n c path e (nat_lt (length path) 4) refl
sound_rule (rules.Plus n c path e) lexemes.Dot h = sound_longer n c path e true h
sound_rule (rules.Dot n c path) (lexemes.Name t) h = h.1
sound_rule p k h = tt

sound_event : (p : EventPlace) (k : Lexeme) → GrownSound (next_event p k)
sound_event events.Problem lexemes.Symptom = tt
sound_event events.Problem (lexemes.Name t) = tt
sound_event events.ProblemSymptom (lexemes.Name t) = tt
sound_event events.Symptom (lexemes.Name t) = tt
sound_event events.Event (lexemes.Name t) = tt
sound_event (events.Named n p s) lexemes.Semicolon = tt
sound_event p k = tt

sound_relation : (p : RelationPlace) (k : Lexeme) → GrownSound (next_relation p k)
sound_relation relations.Word (lexemes.Name t) = tt
sound_relation (relations.Named n) lexemes.To = tt
sound_relation (relations.To n) (lexemes.Name t) = tt
sound_relation (relations.Target n g) lexemes.One = tt
sound_relation (relations.Target n g) lexemes.Many = tt
sound_relation (relations.Count n g m) lexemes.Inverse = tt
sound_relation (relations.Inverse n g m) (lexemes.Name t) = tt
sound_relation (relations.Whole n g m i) lexemes.Semicolon = tt
sound_relation p k = tt

sound_begun : (k : Lexeme) → GrownSound (begun k)
sound_begun lexemes.Problem = tt
sound_begun lexemes.Symptom = tt
sound_begun lexemes.Event = tt
sound_begun lexemes.Relation = tt
sound_begun lexemes.Rule = tt
sound_begun lexemes.Block = tt
sound_begun lexemes.Hide = tt
sound_begun k = tt

sound_next : (p : MemberSoFar) (k : Lexeme) → PlaceSound p → GrownSound (next p k)
sound_next places.Start k h = sound_begun k
sound_next (places.Event p) k h = sound_event p k
sound_next (places.Relation p) k h = sound_relation p k
sound_next (places.Rule p) k h = sound_rule p k h
sound_next places.Block (lexemes.Name t) h = tt
sound_next (places.BlockName n) lexemes.Semicolon h = tt
sound_next places.Hide (lexemes.Name t) h = tt
sound_next (places.HideName n) lexemes.Semicolon h = tt
sound_next p k h = tt

sound_after : (cs : List ClassDecl) (c : ClassDecl) (g : Grown) → All ClassFits cs → ClassFits c → GrownSound g → IfSome (after_grown cs c g) HasShortPaths
sound_after cs c (More p) all class fits = record { classes = all; part = (class, fits) }
sound_after cs c (Whole m) all class fits = record { classes = all; part = (All-push PathFits c.members m class fits, tt) }
sound_after cs c Wrong all class fits = tt

sound_inside : (cs : List ClassDecl) (c : ClassDecl) (p : MemberSoFar) (k : Lexeme) → All ClassFits cs → ClassFits c → PlaceSound p → IfSome (next_inside cs c p k) HasShortPaths
sound_inside cs c places.Start lexemes.Close all class fits = record { classes = All-push ClassFits cs c all class; part = tt }
sound_inside cs c p k all class fits = sound_after cs c (next p k) all class (sound_next p k fits)

-- a class without members fits
pub none_fits : (c : ClassDecl) → c.members ≡ [] → ClassFits c
none_fits c is k d low = absurd (omega (arith, low, ap length is))

sound_head : (part : Part) (k : Lexeme) → IfSome (next_head part k) PartSound
sound_head parts.Between lexemes.Class = tt
sound_head parts.Word (lexemes.Name t) = tt
sound_head (parts.Named n) lexemes.Extends = tt
sound_head (parts.Named n) lexemes.Open = (none_fits (record { name = n; parent = None; members = [] }) refl, tt)
sound_head (parts.Extends n) (lexemes.Name t) = tt
sound_head (parts.Child n p) lexemes.Open = (none_fits (record { name = n; parent = Some p; members = [] }) refl, tt)
sound_head part k = tt

sound_with : (cs : List ClassDecl) (o : Option Part) → All ClassFits cs → IfSome o PartSound → IfSome (with_part cs o) HasShortPaths
sound_with cs None all is = tt
sound_with cs (Some part) all is = record { classes = all; part = is }

sound_part : (cs : List ClassDecl) (part : Part) (k : Lexeme) → All ClassFits cs → PartSound part → IfSome (next_part cs part k) HasShortPaths
sound_part cs (parts.Inside c p) k all is = sound_inside cs c p k all is.0 is.1
sound_part cs parts.Between k all is = sound_with cs (next_head parts.Between k) all (sound_head parts.Between k)
sound_part cs parts.Word k all is = sound_with cs (next_head parts.Word k) all (sound_head parts.Word k)
sound_part cs (parts.Named n) k all is = sound_with cs (next_head (parts.Named n) k) all (sound_head (parts.Named n) k)
sound_part cs (parts.Extends n) k all is = sound_with cs (next_head (parts.Extends n) k) all (sound_head (parts.Extends n) k)
sound_part cs (parts.Child n p) k all is = sound_with cs (next_head (parts.Child n p) k) all (sound_head (parts.Child n p) k)

-- a step keeps paths of at most 4 places
pub stays_sound : (s : State) (k : Lexeme) → HasShortPaths s → IfSome (next_state s k) HasShortPaths
stays_sound s k is = sound_part s.classes s.part k is.classes is.part
