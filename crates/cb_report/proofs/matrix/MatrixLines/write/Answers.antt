use Rattle.cb_report.proofs.Gathers.{three_finish}
use Rattle.cb_report.proofs.matrix.MatrixLines.write.Goals as goal

pub returns-clause-all : goal.returns-clause-all
returns-clause-all g c = (three_finish c.finish.result (g.O.Sink.tells c.args.out.now) (g.O.Sink.tells c.put_columns.new.out) (g.O.Sink.tells c.put_groups.new.out)
    (g.O.Sink.tells c.put_least.new.out) (g.O.Sink.tells c.finish.new.out) c.self.inside.gathering c.put_columns.new.gathering c.put_groups.new.gathering
    c.put_least.new.gathering c.finish.new.self _ _ _ c.args.self c.put_columns.ensures c.put_groups.ensures.text c.put_least.ensures c.finish.ensures.written
    c.self.view_is c.self.invariant.1 c.self.invariant.2 c.finish.ensures.none c.finish.ensures.failed).all

pub returns-clause-prefix : goal.returns-clause-prefix
returns-clause-prefix g c = (three_finish c.finish.result (g.O.Sink.tells c.args.out.now) (g.O.Sink.tells c.put_columns.new.out) (g.O.Sink.tells c.put_groups.new.out)
    (g.O.Sink.tells c.put_least.new.out) (g.O.Sink.tells c.finish.new.out) c.self.inside.gathering c.put_columns.new.gathering c.put_groups.new.gathering
    c.put_least.new.gathering c.finish.new.self _ _ _ c.args.self c.put_columns.ensures c.put_groups.ensures.text c.put_least.ensures c.finish.ensures.written
    c.self.view_is c.self.invariant.1 c.self.invariant.2 c.finish.ensures.none c.finish.ensures.failed).prefix

pub returns-clause-counts : goal.returns-clause-counts
returns-clause-counts g c = (three_finish c.finish.result (g.O.Sink.tells c.args.out.now) (g.O.Sink.tells c.put_columns.new.out) (g.O.Sink.tells c.put_groups.new.out)
    (g.O.Sink.tells c.put_least.new.out) (g.O.Sink.tells c.finish.new.out) c.self.inside.gathering c.put_columns.new.gathering c.put_groups.new.gathering
    c.put_least.new.gathering c.finish.new.self _ _ _ c.args.self c.put_columns.ensures c.put_groups.ensures.text c.put_least.ensures c.finish.ensures.written
    c.self.view_is c.self.invariant.1 c.self.invariant.2 c.finish.ensures.none c.finish.ensures.failed).counts
