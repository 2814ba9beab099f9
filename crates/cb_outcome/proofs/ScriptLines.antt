-- A text is one script at most, or has one first bad line.
use Rattle.std.proofs.Common.{◌≡◌, ◌∙◌, ℕ, suc, List, [], ◌∷◌, ◌++◌, refl, sym, ap, subst, inl, inr, arith}
use Rattle.std.specs.Prelude.{codes}
use Rattle.std.specs.List.{All}
use Rattle.std.proofs.lemmas.List.Elements.{All-nil, All-cons}
use Rattle.cb_text.specs.Words.{words_of, IsPassedOver}
use Rattle.cb_text.specs.Lines.{lines_of}
use Rattle.cb_edits.proofs.Decoded.{spelled_once}
use Rattle.cb_edits.specs.Spelled.{SpellsEdit}
use Rattle.cb_network.specs.declared.edit.Edit.{Edit}
use Rattle.cb_network.specs.declared.edit.Edit.TheVariants.{Create, Delete, Link, Unlink, Mute, Unmute}
use Rattle.cb_history.specs.declared.moves.Move.{Move}
use Rattle.cb_history.specs.declared.moves.Move.TheVariants.{Make, Undo}
use Rattle.cb_history.specs.declared.script.ScriptLine.{ScriptLine}
use Rattle.cb_line_files.specs.Scripts.{SpellsMove, IsScriptLine, ScriptLineGives, ScriptGives, ReadsScript, IsFirstBadLine}
use Rattle.cb_line_files.proofs.Scripted.{given_are_good}
use Rattle.cb_outcome.proofs.FirstLines.{of_all, one_first, not_passed, passed_is_no_edit}

-- an edit has more than one word
undo_is_no_edit : (line : List ℕ) (edit : Edit) → words_of line ≡ codes "undo" ∷ [] → ¬ SpellsEdit line edit
undo_is_no_edit line (Create name class) undo spells = let e = sym undo ∙ spells.says in cc
undo_is_no_edit line (Delete name) undo spells = let e = sym undo ∙ spells.says in cc
undo_is_no_edit line (Link a rel b) undo spells = let e = sym undo ∙ spells.says in cc
undo_is_no_edit line (Unlink a rel b) undo spells = let e = sym undo ∙ spells.says in cc
undo_is_no_edit line (Mute event name) undo spells = let e = sym undo ∙ spells.says in cc
undo_is_no_edit line (Unmute event name) undo spells = let e = sym undo ∙ spells.says in cc

-- a line spells one move at most
move_is_one : (line : List ℕ) (a b : Move) → SpellsMove line a → SpellsMove line b → a ≡ b
move_is_one line (Make edit) (Make other) p q = ap (λ e. Make e) (spelled_once (words_of line) edit other p q)
move_is_one line (Make edit) Undo p q = absurd (undo_is_no_edit line edit q p)
move_is_one line Undo (Make other) p q = absurd (undo_is_no_edit line other p q)
move_is_one line Undo Undo p q = refl

-- and none where it is ignored
passed_is_no_move : (line : List ℕ) (move : Move) → IsPassedOver line → ¬ SpellsMove line move
passed_is_no_move line (Make edit) passed spells = passed_is_no_edit line edit passed spells
passed_is_no_move line Undo passed spells = not_passed line _ _ 117 spells refl (λ e. omega arith) passed

given_is_one : (number : ℕ) (line : List ℕ) (a b : List ScriptLine) → ScriptLineGives number line a → ScriptLineGives number line b → a ≡ b
given_is_one number line a b (inl (ignored, none)) (inl (_, none')) = none ∙ sym none'
given_is_one number line a b (inl (ignored, none)) (inr (move, spells, _)) = absurd (passed_is_no_move line move ignored spells)
given_is_one number line a b (inr (move, spells, _)) (inl (ignored, none)) = absurd (passed_is_no_move line move ignored spells)
given_is_one number line a b (inr (move, spells, is)) (inr (other, spells', is')) =
    is ∙ (ap (λ (m : Move). record { line = number; what = m } ∷ []) (move_is_one line move other spells spells') ∙ sym is')

gives_one : (passed : ℕ) (lines : List (List ℕ)) (a b : List ScriptLine) → ScriptGives passed lines a → ScriptGives passed lines b → a ≡ b
gives_one passed [] a b p q = p ∙ sym q
gives_one passed (line ∷ lines) a b (first, later, here, rest, is) (first', later', here', rest', is') =
    let one = given_is_one (suc passed) line first first' here here' in
    let others = gives_one (suc passed) lines later later' rest rest' in
    is ∙ ((λ i. one i ++ others i) ∙ sym is')

-- a text is one script
pub script_is_one : (text : List ℕ) (a b : List ScriptLine) → ReadsScript text a → ReadsScript text b → a ≡ b
script_is_one text a b p q = gives_one 0 (lines_of text) a b p.gives q.gives

-- its first bad line is one
pub bad_script_line_is_one : (text : List ℕ) (m n : ℕ) → IsFirstBadLine text m → IsFirstBadLine text n → m ≡ n
bad_script_line_is_one text m n a b =
    let same = one_first IsScriptLine a.before b.before a.line b.line a.is.after b.is.after (sym a.is.lines ∙ b.is.lines) a.good a.bad b.good b.bad in
    let m_is = a.is.number_is in
    let n_is = b.is.number_is in
    omega (arith, same, m_is, n_is)

-- and there is none where it is a script
pub bad_or_script : (text : List ℕ) (n : ℕ) (script : List ScriptLine) → IsFirstBadLine text n → ReadsScript text script → ⊥
bad_or_script text n script a reads =
    a.bad (of_all IsScriptLine (lines_of text) a.before a.line a.is.after a.is.lines (given_are_good 0 (lines_of text) script reads.gives))
