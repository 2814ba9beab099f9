-- Scripts report one thing, and do what their edits and undos do.
use Rattle.std.proofs.Common.{◌≡◌, ◌++◌, ℕ, List, [], ◌∷◌, map, sym, ap, subst, ◌∙◌}
use Rattle.std.specs.List.{Contains}
use Rattle.cb_network.specs.Topology.{Topology}
use Rattle.cb_network.specs.Regular.{IsRegular}
use Rattle.cb_network.proofs.Accepted.{after_is_one}
use Rattle.cb_history.specs.declared.moves.Move.{Move}
use Rattle.cb_history.specs.declared.moves.Move.TheVariants.{Make, Undo}
use Rattle.cb_history.specs.declared.script.ScriptLine.{ScriptLine}
use Rattle.cb_history.specs.declared.script.LineReport.{LineReport}
use Rattle.cb_history.specs.Histories.{History, edited_by, IsAfterMoves}
use Rattle.cb_history.specs.Scripts.{report_of_edit, RunsLine, Rewinds}
use Rattle.cb_history.proofs.Moved.{AllOf, Regular, regular_result, undone_all}

-- one thing is reported, and one history is left
pub record IsOnePair (a b : List LineReport) (x y : History) : Type 0 where
  pub reports : a ≡ b
  pub history : x ≡ y

one_move : (depth : ℕ) (h : History) (line : ℕ) (move : Move) (a b : List LineReport) (x y : History) → AllOf Regular h → RunsLine depth h line move a x → RunsLine depth h line move b y
    → IsOnePair a b x y
one_move depth h line (Make edit) a b x y all (result, after, reports, next) (result', after', reports', next') =
    let same : result ≡ result' = after_is_one h.now edit result result' all.now after after' in
    record { reports = reports ∙ (ap (report_of_edit line) same ∙ sym reports'); history = next ∙ (ap (edited_by depth h) same ∙ sym next') }
one_move depth h line Undo a b x y all (reports, next) (reports', next') = record { reports = reports ∙ sym reports'; history = next ∙ sym next' }

moved_all : (depth : ℕ) (h : History) (line : ℕ) (move : Move) (reports : List LineReport) (x : History) → AllOf Regular h → RunsLine depth h line move reports x → AllOf Regular x
moved_all depth h line (Make edit) reports x all (result, after, _, next) = subst (AllOf Regular) (sym next) (regular_result depth h edit result all after)
moved_all depth h line Undo reports x all (_, next) = subst (AllOf Regular) (sym next) (undone_all Regular h.now h.before all.now all.before)

one_rewound : (depth : ℕ) (h : History) (lines : List ScriptLine) (a b : List LineReport) (x y : History) → AllOf Regular h → Rewinds depth h lines a x → Rewinds depth h lines b y
    → IsOnePair a b x y
one_rewound depth h [] a b x y all (reports, last) (reports', last') = record { reports = reports ∙ sym reports'; history = sym last ∙ last' }
one_rewound depth h (line ∷ lines) a b x y all (first, later, next, moves, reports, rest) (first', later', next', moves', reports', rest') =
    let one = one_move depth h line.line line.what first first' next next' all moves moves' in
    let others = one_rewound depth next lines later later' x y (moved_all depth h line.line line.what first next all moves) rest
    (subst (λ z. Rewinds depth z lines later' y) (sym one.history) rest') in
    record { reports = reports ∙ (ap (λ z. z ++ later) one.reports ∙ (ap (λ z. first' ++ z) others.reports ∙ sym reports')); history = others.history }

pub rewind_is_one : (depth : ℕ) (h : History) (lines : List ScriptLine) (a b : List LineReport) (x y : History) → IsRegular h.now.model
    → ((t : Topology) → Contains h.before t → IsRegular t.model) → Rewinds depth h lines a x → Rewinds depth h lines b y → (a ≡ b) × (x ≡ y)
rewind_is_one depth h lines a b x y regular before p q =
    let one = one_rewound depth h lines a b x y (record { now = regular; before = before }) p q in
    (one.reports, one.history)

pub rewind_moves : (depth : ℕ) (h : History) (lines : List ScriptLine) (reports : List LineReport) (last : History) → Rewinds depth h lines reports last
    → IsAfterMoves depth h (map (λ l. l.what) lines) last
rewind_moves depth h [] reports last (_, same) = same
rewind_moves depth h (line ∷ lines) reports last (first, later, next, moves, _, rest) =
    by_move line.line line.what moves (rewind_moves depth next lines later last rest)
  where
    by_move : (number : ℕ) (move : Move) → RunsLine depth h number move first next → IsAfterMoves depth next (map (λ (l : ScriptLine). l.what) lines) last
        → IsAfterMoves depth h (move ∷ map (λ (l : ScriptLine). l.what) lines) last
    by_move number (Make edit) (result, after, _, is) then =
        (result, after, subst (λ z. IsAfterMoves depth z (map (λ (l : ScriptLine). l.what) lines) last) is then)
    by_move number Undo (_, is) then = subst (λ z. IsAfterMoves depth z (map (λ (l : ScriptLine). l.what) lines) last) is then
