use Rattle.std.proofs.Common.{take}
use Rattle.std.specs.List.{AllZip}
use Rattle.cb_outcome.specs.Fits.{NamesGuess}
use Rattle.cb_network_commands.proofs.fitting.lines_of.Given as goal

abbrev pub invariant-loop-at : goal.invariant-loop-at
invariant-loop-at l = AllZip (NamesGuess l.groups.groups) (take l.at l.guesses) l.lines
