use Rattle.std.proofs.Common.{◌+◌, sym, subst, arith}
use Rattle.cb_levels.specs.Steps.{ReadsEntries}
use Rattle.cb_levels.proofs.Expecting.{exit}
use Rattle.cb_levels.proofs.Repeating.{EntriesSoFar, no_count_of_entries, entries_more, no_entry, entries_all}
use Rattle.cb_levels.proofs.reader.LevelReader.entries.Goals as goal

pub returns-in_err-count : goal.returns-in_err-count
returns-in_err-count c =
    exit (ReadsEntries c.args.nodes c.args.self.now c.count.new.self) c.from_residual.result _ c.from_residual.ensures.1
    (no_count_of_entries c.args.nodes c.args.self.now _ c.in_err-count.ensures)

pub returns-in_err-entry : goal.returns-in_err-entry
returns-in_err-entry c =
    exit (ReadsEntries c.args.nodes c.args.self.now c.entry.new.self) c.from_residual-in_err-entry.result _ c.from_residual-in_err-entry.ensures.1
    (no_entry c.args.nodes c.args.self.now c.loop.self c.in_ok-count.count c.loop.counter c.loop.entries c.loop.invariant (omega arith) _ c.in_err-entry.ensures)

pub loop-preserved : goal.loop-preserved
loop-preserved c =
    let count = c.in_ok-count.count in
    let grown = entries_more c.args.nodes c.args.self.now c.loop.self count c.loop.counter c.loop.entries c.loop.invariant c.entry.new.self c.in_ok-entry.field-0 c.in_ok-entry.ensures in
    subst (λ ys. EntriesSoFar c.args.nodes c.args.self.now c.entry.new.self count (c.loop.counter + 1) ys) (sym c.in_ok-push.ensures.ok) grown

pub returns : goal.returns
returns c text nodes same read =
    entries_all c.args.nodes c.args.self.now c.loop.self c.in_ok-count.count c.loop.counter c.loop.entries c.loop.invariant (omega arith) text nodes same read
