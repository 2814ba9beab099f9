use Rattle.std.proofs.Common.{Some}
use Rattle.cb_successors.proofs.Sought.{left_found, all_found}
use Rattle.cb_cache.proofs.search.next_left.Goals as goal

pub returns-in-Some-clause-left : goal.returns-in-Some-clause-left
returns-in-Some-clause-left c = left_found c.args.found.now c.args.done.now c.requires c.args.from (Some c.in-Some.node) c.in-Some.ensures.next

pub returns-in-None-clause-left : goal.returns-in-None-clause-left
returns-in-None-clause-left c = left_found c.args.found.now c.args.done.now c.requires 0 c.next_not_in-in-None.result c.next_not_in-in-None.ensures.next

pub returns-in-None-clause-none : goal.returns-in-None-clause-none
returns-in-None-clause-none c = all_found c.args.found.now c.args.done.now c.requires 0 c.next_not_in-in-None.result c.next_not_in-in-None.ensures.none
