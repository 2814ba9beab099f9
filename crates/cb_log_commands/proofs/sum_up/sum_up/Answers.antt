use Rattle.std.proofs.Common.{subst, ℕ}
use Rattle.cb_gen.proofs.Going.{on_ok_more}
use Rattle.cb_log.specs.Basis.{Mode}
use Rattle.cb_cache.specs.Cached.{Cached}
use Rattle.cb_topo.specs.Numbered.{topology_of}
use Rattle.cb_outcome.specs.Grown.{CountsNetwork, SumsUpLog}
use Rattle.cb_log_commands.proofs.Summing.{none_summed, all_summed}
use Rattle.cb_log_commands.proofs.sum_up.sum_up.Goals as goal

pub returns-clause-sums : goal.returns-clause-sums
returns-clause-sums g c =
    let old = c.args.session.now in
    let session = c.take_lines.new.session in
    let new = c.count_network.new.summary in
    on_ok_more c.count_network.result _ _ (λ sizes opening regular stands counted none.
    let has = c.in_ok-take_lines.ensures.takes opening regular (none_summed opening old c.args.summary.now stands counted none) in
    let sums = all_summed opening c.args.log.now session c.take_lines.new.summary c.count_all.new.summary new has c.in_ok-events.events
    (λ entries is. c.in_ok-events.ensures.gives opening entries regular is) c.in_ok-count_all.ensures.counts c.count_all.ensures.alone.records
    c.count_network.ensures.keeps (subst (λ (x : Cached). CountsNetwork (topology_of x.graph) new) c.cache.ensures sizes) in
    subst (λ (m : Mode). SumsUpLog opening m old.windows.length c.args.log.now new) c.take_lines.ensures.mode
    (subst (λ (w : ℕ). SumsUpLog opening session.mode w c.args.log.now new) c.take_lines.ensures.length sums)) c.count_network.ensures.counts
