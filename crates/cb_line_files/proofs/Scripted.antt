-- The edits and undos of the lines of a script, as far as it is read.
use Rattle.std.proofs.Common.{◌≡◌, ◌∙◌, ◌↔◌, ◌+◌, ℕ, suc, List, [], ◌∷◌, ◌++◌, length, refl, sym, ap, subst, inl, inr, arith}
use Rattle.std.specs.List.{All}
use Rattle.std.proofs.lemmas.List.{append_assoc, append-nil}
use Rattle.std.proofs.lemmas.List.Elements.{All-nil, All-cons, All-append}
use Rattle.std.specs.Prelude.{codes, Err, IsErrOf}
use Rattle.cb_text.specs.Words.{words_of, IsPassedOver}
use Rattle.cb_text.specs.Lines.{HasShortLines, IsLineOf}
use Rattle.cb_edits.specs.Spelled.{SpellsEdit}
use Rattle.cb_edits.specs.declared.stop.EditText.{EditText}
use Rattle.cb_edits.specs.declared.stop.EditText.TheVariants as text
use Rattle.cb_network.specs.declared.edit.Edit.{Edit}
use Rattle.cb_history.specs.declared.moves.Move.{Move}
use Rattle.cb_history.specs.declared.moves.Move.TheVariants.{Make, Undo}
use Rattle.cb_history.specs.declared.script.ScriptLine.{ScriptLine}
use Rattle.cb_line_files.specs.declared.script.ScriptStop.{ScriptStop}
use Rattle.cb_line_files.specs.declared.script.ScriptStop.TheVariants as stop
use Rattle.cb_line_files.specs.Scripts.{SpellsMove, IsScriptLine, ScriptLineGives, ScriptGives, HasGoodMove, HaveGoodNames, IsFirstBadLine, StopsScript}
use Rattle.cb_line_files.proofs.Made.{good_name}
use Rattle.cb_line_files.specs.Steps.{AddsMove, StopsMove, StopsScriptLine, move_stop}

-- ---- one line

-- the words of a line that is no undo, nor an edit, are no move
pub no_move_stops : (number : ℕ) (line : List ℕ) (why : EditText) → ¬ (words_of line ≡ codes "undo" ∷ [])
    → (IsErrOf {T = Edit} (Err why) text.BadWords → (edit : Edit) → ¬ SpellsEdit line edit) → StopsMove number line (move_stop number why)
no_move_stops number line text.BadWords not_undo none = (refl, by_case)
  where
    by_case : (move : Move) → ¬ SpellsMove line move
    by_case (Make edit) spells = none refl edit spells
    by_case Undo spells = not_undo spells
no_move_stops number line text.NoMemory not_undo none = tt

-- a line without a move that isn't ignored is bad
pub bad_line_stops : (number : ℕ) (line : List ℕ) (why : ScriptStop) → ¬ IsPassedOver line → StopsMove number line why → StopsScriptLine number line why
bad_line_stops number line (stop.LongLine other) not_passed stops = absurd stops
bad_line_stops number line (stop.BadWords other) not_passed (same, none) = (same, by_case)
  where
    by_case : IsScriptLine line → ⊥
    by_case (inl passed) = not_passed passed
    by_case (inr (move, spells)) = none move spells
bad_line_stops number line stop.NoMemory not_passed stops = tt

-- an ignored line adds nothing
pub passed_adds_none : (number : ℕ) (line : List ℕ) (script : List ScriptLine) → IsPassedOver line → AddsMove number line script script
passed_adds_none number line script passed = ([], inl (passed, refl), sym (append-nil script))

-- and any other its move
pub move_is_added : (number : ℕ) (line : List ℕ) (move : Move) (old new : List ScriptLine) → SpellsMove line move
    → new ≡ old ++ record { line = number; what = move } ∷ [] → AddsMove number line old new
move_is_added number line move old new spells is = (record { line = number; what = move } ∷ [], inr (move, spells, refl), is)

-- ---- lines in order

-- one line more
pub gives_more : (passed : ℕ) (before : List (List ℕ)) (line : List ℕ) (number : ℕ) (old new : List ScriptLine) → number ≡ passed + (length before + 1)
    → ScriptGives passed before old → AddsMove number line old new → ScriptGives passed (before ++ line ∷ []) new
gives_more passed [] line number old new number_is gives (given, here, is) =
    let count : number ≡ suc passed = omega (arith, number_is) in
    let all : new ≡ given ++ [] = is ∙ (ap (λ (xs : List ScriptLine). xs ++ given) gives ∙ sym (append-nil given)) in
    (given, [], subst (λ (n : ℕ). ScriptLineGives n line given) count here, refl, all)
gives_more passed (first_line ∷ before) line number old new number_is (first, later, gives, rest, old_is) (given, here, is) =
    let count : number ≡ suc passed + (length before + 1) = omega (arith, number_is) in
    let all : new ≡ first ++ (later ++ given) = is ∙ (ap (λ (xs : List ScriptLine). xs ++ given) old_is ∙ append_assoc first later given) in
    (first, later ++ given, gives, gives_more (suc passed) before line number later (later ++ given) count rest (given, here, refl), all)

-- lines that give moves are good
pub given_are_good : (passed : ℕ) (lines : List (List ℕ)) (script : List ScriptLine) → ScriptGives passed lines script → All IsScriptLine lines
given_are_good passed [] script gives = All-nil IsScriptLine
given_are_good passed (line ∷ lines) script (first, later, here, rest, is) =
    All-cons IsScriptLine line lines (good here) (given_are_good (suc passed) lines later rest)
  where
    good : ScriptLineGives (suc passed) line first → IsScriptLine line
    good (inl (ignored, none)) = inl ignored
    good (inr (move, spells, one)) = inr (move, spells)

-- the stop of the line of this number is one of the script
pub script_stops_at : (text : List ℕ) (number : ℕ) (before : List (List ℕ)) (line : List ℕ) (script : List ScriptLine) (why : ScriptStop)
    → HasShortLines text → IsLineOf text number before line → ScriptGives 0 before script → StopsScriptLine number line why → StopsScript text why
script_stops_at text number before line script (stop.LongLine other) short is gives bad = absurd bad
script_stops_at text number before line script (stop.BadWords other) short is gives (same, bad) =
    subst (λ (n : ℕ). IsFirstBadLine text n) (sym same)
    (record { short = short; before = before; line = line; is = is; good = given_are_good 0 before script gives; bad = bad })
script_stops_at text number before line script stop.NoMemory short is gives bad = tt

-- moves that lines give have good names
good_move : (line : List ℕ) (move : Move) → SpellsMove line move → HasGoodMove move
good_move line (Make edit) spells = good_name edit spells.names
good_move line Undo spells = tt

pub given_have_good_names : (passed : ℕ) (lines : List (List ℕ)) (script : List ScriptLine) → ScriptGives passed lines script → HaveGoodNames script
given_have_good_names passed [] script gives = subst HaveGoodNames (sym gives) (All-nil (λ line. HasGoodMove line.what))
given_have_good_names passed (line ∷ lines) script (first, later, here, rest, is) =
    subst HaveGoodNames (sym is) (All-append (λ l. HasGoodMove l.what) first later (good here) (given_have_good_names (suc passed) lines later rest))
  where
    good : ScriptLineGives (suc passed) line first → HaveGoodNames first
    good (inl (ignored, none)) = subst HaveGoodNames (sym none) (All-nil (λ l. HasGoodMove l.what))
    good (inr (move, spells, one)) =
        subst HaveGoodNames (sym one) (All-cons (λ (l : ScriptLine). HasGoodMove l.what) (record { line = suc passed; what = move }) [] (good_move line move spells) (All-nil (λ l. HasGoodMove l.what)))
