-- The faults of a run by what readers and the checker report. Out of memory is one fault, whoever reports it.
use Rattle.cb_cert.specs.declared.fault.CertText.{CertText}
use Rattle.cb_cert.specs.declared.fault.CertText.TheVariants as texts
use Rattle.cb_check.specs.declared.fault.TypeFault.{TypeFault}
use Rattle.cb_check.specs.declared.fault.TypeFault.TheVariants as types
use Rattle.cb_levels.specs.declared.fault.LevelText.{LevelText}
use Rattle.cb_levels.specs.declared.fault.LevelText.TheVariants as level_texts
use Rattle.cb_levels.specs.declared.verdict.LevelFault.{LevelFault}
use Rattle.cb_levels.specs.declared.verdict.LevelFault.TheVariants as level_faults
use Rattle.cb_syntax.specs.declared.fault.SyntaxFault.{SyntaxFault}
use Rattle.cb_syntax.specs.declared.fault.SyntaxFault.TheVariants as syntax
use Rattle.cb_validity.specs.declared.verdict.Rejected.{Rejected}
use Rattle.cb_validity.specs.declared.verdict.Rejected.TheVariants as rejected
use Rattle.cb_report.specs.declared.certificate_fault.FailedCheck.TheVariants as checks
use Rattle.cb_report.specs.declared.certificate_fault.FormatError.TheVariants as formats
use Rattle.cb_report.specs.declared.fault.Fault.{Fault}
use Rattle.cb_report.specs.declared.fault.Fault.TheVariants.{Syntax, Kind, CertBad, CertRejected, FailedLevel, Memory}
use Rattle.cb_report.specs.declared.fault.Fault.TheVariants as faults
use Rattle.cb_report.specs.declared.level_fault.FailedLevelCheck.TheVariants as level_checks
use Rattle.cb_report.specs.declared.level_fault.LevelTextError.TheVariants as level_errors
use Rattle.cb_report.specs.declared.syntax_error.SyntaxError.TheVariants as errors

-- of the tokens of a model
abbrev pub fault_of_syntax : SyntaxFault → Fault
fault_of_syntax (syntax.BadByte line) = Syntax (errors.BadByte line)
fault_of_syntax (syntax.Unexpected line column) = Syntax (errors.Unexpected line column)
fault_of_syntax (syntax.LongName line) = Syntax (errors.LongName line)
fault_of_syntax syntax.Unfinished = Syntax errors.Unfinished
fault_of_syntax syntax.NoMemory = Memory

-- of its type rules
abbrev pub fault_of_types : TypeFault → Fault
fault_of_types (types.Broken broken) = Kind broken
fault_of_types types.NoMemory = Memory

-- of the text of a certificate
abbrev pub fault_of_text : CertText → Fault
fault_of_text texts.BadHeader = CertBad formats.BadHeader
fault_of_text (texts.BadLine line) = CertBad (formats.BadLine line)
fault_of_text texts.Truncated = CertBad formats.Truncated
fault_of_text (texts.Extra line) = CertBad (formats.Extra line)
fault_of_text (texts.TooManyEntries line) = CertBad (formats.TooManyEntries line)
fault_of_text texts.NoMemory = Memory

-- of a certificate that is checked
abbrev pub fault_of_rejected : Rejected → Fault
fault_of_rejected (rejected.BadNode place) = CertRejected (checks.BadNode place)
fault_of_rejected (rejected.BadColumn place) = CertRejected (checks.BadColumn place)
fault_of_rejected (rejected.NoSpan problem) = CertRejected (checks.NoSpan problem)
fault_of_rejected (rejected.ExtraSpan place) = CertRejected (checks.ExtraSpan place)
fault_of_rejected (rejected.BadRoot entry) = CertRejected (checks.BadRoot entry)
fault_of_rejected (rejected.BadParent entry) = CertRejected (checks.BadParent entry)
fault_of_rejected (rejected.NoEdge entry) = CertRejected (checks.NoEdge entry)
fault_of_rejected (rejected.Repeated entry) = CertRejected (checks.Repeated entry)
fault_of_rejected (rejected.NotClosed entry successor) = CertRejected (checks.NotClosed entry successor)
fault_of_rejected (rejected.TooClose first second distance) = CertRejected (checks.TooClose first second distance)
fault_of_rejected (rejected.NotThin distance) = CertRejected (checks.NotThin distance)
fault_of_rejected (rejected.BadRadius place) = CertRejected (checks.BadRadius place)
fault_of_rejected rejected.NoMemory = Memory

-- of the text of levels
abbrev pub fault_of_level_text : LevelText → Fault
fault_of_level_text level_texts.BadHeader = faults.LevelText level_errors.BadHeader
fault_of_level_text (level_texts.BadLine line) = faults.LevelText (level_errors.BadLine line)
fault_of_level_text level_texts.Truncated = faults.LevelText level_errors.Truncated
fault_of_level_text (level_texts.Extra line) = faults.LevelText (level_errors.Extra line)
fault_of_level_text level_texts.NoMemory = Memory

-- of levels that are checked
abbrev pub fault_of_levels : LevelFault → Fault
fault_of_levels (level_faults.BadNode place) = FailedLevel (level_checks.BadNode place)
fault_of_levels (level_faults.BadRoot entry) = FailedLevel (level_checks.BadRoot entry)
fault_of_levels (level_faults.BadParent entry) = FailedLevel (level_checks.BadParent entry)
fault_of_levels (level_faults.NoEdge entry) = FailedLevel (level_checks.NoEdge entry)
fault_of_levels (level_faults.Repeated entry) = FailedLevel (level_checks.Repeated entry)
fault_of_levels (level_faults.BadLevel entry) = FailedLevel (level_checks.BadLevel entry)
fault_of_levels (level_faults.NotClosed entry successor) = FailedLevel (level_checks.NotClosed entry successor)
fault_of_levels (level_faults.NotShort entry successor) = FailedLevel (level_checks.NotShort entry successor)
fault_of_levels level_faults.NoMemory = Memory
