use Rattle.cb_bits.proofs.Grown.{grown_holds, grown_values}
use Rattle.cb_bits.proofs.row.Row.grow.Goals as goal

pub invariant_of-self-2 : goal.invariant_of-self-2
invariant_of-self-2 c =
    grown_holds c.self.inside.words.items c.resize.new.self.items c.self.inside.len c.args.n c.div_ceil.result c.self.inside.words.len c.args.self.now
    c.self.view_is c.self.invariant c.requires c.ranges.n.fits c.div_ceil.ensures c.self.inside.words.ok.0 c.in_ok-resize.ensures.items

pub returns-clause-ok : goal.returns-clause-ok
returns-clause-ok c =
    grown_values c.self.inside.words.items c.resize.new.self.items c.self.inside.len c.args.n c.div_ceil.result c.self.inside.words.len c.args.self.now
    c.self.view_is c.self.invariant c.requires c.ranges.n.fits c.div_ceil.ensures c.self.inside.words.ok.0 c.in_ok-resize.ensures.items
