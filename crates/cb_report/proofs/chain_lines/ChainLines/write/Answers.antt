use Rattle.std.proofs.Common.{◌++◌, List, ℕ, map, ap, ◌∙◌}
use Rattle.cb_chains.specs.Names.{named_chains}
use Rattle.cb_report.specs.ChainTexts.{explained_groups}
use Rattle.cb_report.proofs.Gathers.{two_finish}
use Rattle.cb_report.proofs.chain_lines.ChainLines.write.Goals as goal

pub returns-clause-all : goal.returns-clause-all
returns-clause-all g c = (two_finish c.finish.result (g.O.Sink.tells c.args.out.now) (g.O.Sink.tells c.put.new.out) (g.O.Sink.tells c.put_groups.new.out)
    (g.O.Sink.tells c.finish.new.out) c.self.inside.gathering c.put.new.self c.put_groups.new.gathering c.finish.new.self _ _ c.args.self c.put.ensures
    c.put_groups.ensures c.finish.ensures.written (ap (λ (l : List ℕ). l ++ explained_groups c.self.inside.groups (map (named_chains c.self.inside.names) c.self.inside.trees)) c.deref.ensures.value ∙ c.self.view_is) c.self.invariant.2 c.self.invariant.3 c.finish.ensures.none c.finish.ensures.failed).all

pub returns-clause-prefix : goal.returns-clause-prefix
returns-clause-prefix g c = (two_finish c.finish.result (g.O.Sink.tells c.args.out.now) (g.O.Sink.tells c.put.new.out) (g.O.Sink.tells c.put_groups.new.out)
    (g.O.Sink.tells c.finish.new.out) c.self.inside.gathering c.put.new.self c.put_groups.new.gathering c.finish.new.self _ _ c.args.self c.put.ensures
    c.put_groups.ensures c.finish.ensures.written (ap (λ (l : List ℕ). l ++ explained_groups c.self.inside.groups (map (named_chains c.self.inside.names) c.self.inside.trees)) c.deref.ensures.value ∙ c.self.view_is) c.self.invariant.2 c.self.invariant.3 c.finish.ensures.none c.finish.ensures.failed).prefix

pub returns-clause-counts : goal.returns-clause-counts
returns-clause-counts g c = (two_finish c.finish.result (g.O.Sink.tells c.args.out.now) (g.O.Sink.tells c.put.new.out) (g.O.Sink.tells c.put_groups.new.out)
    (g.O.Sink.tells c.finish.new.out) c.self.inside.gathering c.put.new.self c.put_groups.new.gathering c.finish.new.self _ _ c.args.self c.put.ensures
    c.put_groups.ensures c.finish.ensures.written (ap (λ (l : List ℕ). l ++ explained_groups c.self.inside.groups (map (named_chains c.self.inside.names) c.self.inside.trees)) c.deref.ensures.value ∙ c.self.view_is) c.self.invariant.2 c.self.invariant.3 c.finish.ensures.none c.finish.ensures.failed).counts
