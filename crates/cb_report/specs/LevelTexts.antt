-- What is reported of levels: that they are accepted, and what is wrong with them.
use Rattle.std.specs.Prelude.{ℕ, List, ◌++◌, codes, decimal}
use Rattle.cb_levels.specs.declared.verdict.Proved.{Proved}
use Rattle.cb_report.specs.declared.level_fault.FailedLevelCheck.{FailedLevelCheck}
use Rattle.cb_report.specs.declared.level_fault.FailedLevelCheck.TheVariants as checks
use Rattle.cb_report.specs.declared.level_fault.LevelTextError.{LevelTextError}
use Rattle.cb_report.specs.declared.level_fault.LevelTextError.TheVariants as errors
use Rattle.cb_report.specs.Lines.{counted, spaced_text, successor_text}

-- what `prove` prints
abbrev pub proved_text : Proved → List ℕ
proved_text p =
    codes "accepted levels" ++ spaced_text p.root ++ codes " reached " ++ decimal p.reached ++ codes " deepest " ++ decimal p.deepest ++ codes "\n"

-- the text isn't one of levels
abbrev pub level_error_text : LevelTextError → List ℕ
level_error_text errors.BadHeader = codes "error 5 levels bad-header\n"
level_error_text (errors.BadLine line) = counted (codes "error 5 levels bad-line line ") line
level_error_text errors.Truncated = codes "error 5 levels truncated\n"
level_error_text (errors.Extra line) = counted (codes "error 5 levels extra line ") line

-- the levels are not valid
abbrev pub failed_level_text : FailedLevelCheck → List ℕ
failed_level_text (checks.BadNode place) = counted (codes "error 5 levels bad-node place ") place
failed_level_text (checks.BadRoot entry) = counted (codes "error 5 levels bad-root entry ") entry
failed_level_text (checks.BadParent entry) = counted (codes "error 5 levels bad-parent entry ") entry
failed_level_text (checks.NoEdge entry) = counted (codes "error 5 levels no-edge entry ") entry
failed_level_text (checks.Repeated entry) = counted (codes "error 5 levels repeated entry ") entry
failed_level_text (checks.BadLevel entry) = counted (codes "error 5 levels bad-level entry ") entry
failed_level_text (checks.NotClosed entry successor) = successor_text (codes "error 5 levels not-closed entry ") entry successor
failed_level_text (checks.NotShort entry successor) = successor_text (codes "error 5 levels not-short entry ") entry successor
