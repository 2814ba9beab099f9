use Rattle.cb_compact.specs.Nth.{IsNthOne}
use Rattle.cb_compact.proofs.apart.nth_one.Given as goal

abbrev pub invariant-loop-found : goal.invariant-loop-found
invariant-loop-found l = IsNthOne l.word l.found l.place
