-- What `rewind` prints.
use Rattle.std.specs.Prelude.{ℕ, List, ◌++◌, codes, Option}
use Rattle.std.specs.List.{flat_map}
use Rattle.cb_model.specs.declared.node.NodeName.{NodeName}
use Rattle.cb_coding.specs.declared.book.Pair.{Pair}
use Rattle.cb_coding.specs.declared.group.Group.{Group}
use Rattle.cb_history.specs.declared.script.LineReport.{LineReport}
use Rattle.cb_history.specs.declared.script.LineReport.TheVariants.{Refused, Nothing}
use Rattle.cb_report.specs.FaultWords.{refusal_word}
use Rattle.cb_report.specs.Lines.{at_line}
use Rattle.cb_report.specs.MatrixText.{matrix_text}

-- a refused edit, as `correlate` prints it, or that there was nothing to take back
abbrev pub report_text : LineReport → List ℕ
report_text (Refused line why) = codes "refused " ++ at_line line (refusal_word why)
report_text (Nothing line) = codes "refused " ++ at_line line (codes "nothing")

-- what is reported, in order, and the matrix after it
abbrev pub rewound_text : List LineReport → List NodeName → List Group → Option Pair → List ℕ
rewound_text reports columns groups least = flat_map report_text reports ++ matrix_text columns groups least
