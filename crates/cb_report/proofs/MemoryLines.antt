-- The line of a fault that is out of memory, case by case.
use Rattle.std.proofs.Common.{refl}
use Rattle.cb_report.specs.declared.fault.Fault.TheVariants as faults
use Rattle.cb_report.specs.Laws.{MemoryHasOneLine}

pub memory_has_one_line : MemoryHasOneLine
memory_has_one_line faults.Usage is = absurd (cc)
memory_has_one_line (faults.Syntax error) is = absurd (cc)
memory_has_one_line (faults.Kind broken) is = absurd (cc)
memory_has_one_line (faults.Edit line why) is = absurd (cc)
memory_has_one_line (faults.EditWords line) is = absurd (cc)
memory_has_one_line (faults.SymptomLine line) is = absurd (cc)
memory_has_one_line (faults.ScriptWords line) is = absurd (cc)
memory_has_one_line (faults.CertBad error) is = absurd (cc)
memory_has_one_line (faults.CertRejected check) is = absurd (cc)
memory_has_one_line faults.NotBook is = absurd (cc)
memory_has_one_line (faults.LevelText error) is = absurd (cc)
memory_has_one_line (faults.FailedLevel check) is = absurd (cc)
memory_has_one_line (faults.Distance wanted first second distance) is = absurd (cc)
memory_has_one_line (faults.LimitBytes name) is = absurd (cc)
memory_has_one_line (faults.LimitLine name line) is = absurd (cc)
memory_has_one_line faults.LimitEntries is = absurd (cc)
memory_has_one_line (faults.ReadFault name) is = absurd (cc)
memory_has_one_line faults.WriteFault is = absurd (cc)
memory_has_one_line faults.Memory is = refl
memory_has_one_line (faults.NoProblem node) is = absurd (cc)
memory_has_one_line (faults.Groups groups) is = absurd (cc)
