use Rattle.cb_gen.proofs.ShortLines.{written_is_short}
use Rattle.cb_gen.proofs.topology.topology_text.Goals as goal

pub returns-clause-short : goal.returns-clause-short
returns-clause-short c =
    written_is_short c.args.sites c.from.result c.from-2.result c.new-out.result.items c.push_all_created.new.out.items c.push_all_linked.new.out.items
    c.requires.some c.requires.few c.from.ensures c.from-2.ensures c.new-out.ensures.items c.in_ok-push_all_created.ensures
    c.in_ok-push_all_linked.ensures
