use Rattle.cb_cert.proofs.Cutting.{no_node, no_parent}
use Rattle.cb_cert.proofs.words.two_numbers.Goals as goal

pub returns-in_default-short_number-clause-none : goal.returns-in_default-short_number-clause-none
returns-in_default-short_number-clause-none c = no_node c.args.bytes.now c.in-Some.at c.in-Some.ensures c.in_default-short_number.ensures.none

pub returns-in_default-short_number-2-clause-none : goal.returns-in_default-short_number-2-clause-none
returns-in_default-short_number-2-clause-none c = no_parent c.args.bytes.now c.in-Some.at c.in-Some.ensures c.in_default-short_number-2.ensures.none
