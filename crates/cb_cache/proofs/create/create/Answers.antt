use Rattle.std.proofs.Common.{subst}
use Rattle.cb_topo.specs.Numbered.{Numbered}
use Rattle.cb_cache.specs.Created.{IsCapacityWith}
use Rattle.cb_cache.proofs.Creating.{kept_spared}
use Rattle.cb_cache.proofs.create.create.Goals as goal

pub returns-in_err-further-clause-kept : goal.returns-in_err-further-clause-kept
returns-in_err-further-clause-kept g c = kept_spared c.args.graph.now c.args.store.now.rows c.further_for.new.rows c.args.store.now.agenda c.further_for.ensures.rows c.requires.kept

pub create_in-requires-clause-kept : goal.create_in-requires-clause-kept
create_in-requires-clause-kept g c = kept_spared c.args.graph.now c.args.store.now.rows c.further_for.new.rows c.args.store.now.agenda c.further_for.ensures.rows c.requires.kept

pub create_in-requires-clause-further : goal.create_in-requires-clause-further
create_in-requires-clause-further g c =
    subst (λ (n : Numbered). IsCapacityWith n c.args.accepted.now.edit.now c.further_for.new.rows c.in_ok-further.further) c.topology.ensures c.in_ok-further.ensures.further
