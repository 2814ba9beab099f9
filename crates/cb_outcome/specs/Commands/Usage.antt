-- No command: the words ask for nothing.
use Rattle.std.specs.Prelude.{◌≡◌, []}
use Rattle.cb_report.specs.declared.fault.Fault.TheVariants as faults
use Rattle.cb_outcome.specs.Command.{Command, refuses}

-- it refuses the words
abbrev pub usage : Command
usage = record {
  files = [];
  task = refuses faults.Usage;
  range = Unit {0};
  counts = λ files after old new. new ≡ old;
}
