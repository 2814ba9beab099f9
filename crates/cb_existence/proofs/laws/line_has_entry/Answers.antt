use Rattle.cb_existence.proofs.LineEntries.{line_comes}
use Rattle.cb_existence.proofs.laws.line_has_entry.Goals as goal

pub returns : goal.returns
returns c = line_comes
