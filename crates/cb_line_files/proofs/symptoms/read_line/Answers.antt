use Rattle.std.proofs.Common.{inr, rules}
use Rattle.cb_line_files.specs.Symptoms.{SpellsNode}
use Rattle.cb_line_files.proofs.Listed.{spelled_is_added}
use Rattle.cb_line_files.proofs.symptoms.read_line.Goals as goal

-- the line spells the node that is added
spells : (c : goal.In_ok-add) → SpellsNode c.args.line.now c.in_ok-of.field-0
spells c = search rules

pub returns-clause-good : goal.returns-clause-good
returns-clause-good c = inr (_, spells c)

pub returns-clause-added : goal.returns-clause-added
returns-clause-added c = spelled_is_added c.args.line.now _ _ _ (spells c) c.in_ok-add.ensures
