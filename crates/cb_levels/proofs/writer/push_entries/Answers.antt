use Rattle.std.proofs.Common.{length, arith}
use Rattle.cb_levels.specs.declared.line.LevelLine.TheVariants as line
use Rattle.cb_levels.proofs.Adding.{item_step}
use Rattle.cb_levels.proofs.writer.push_entries.Goals as goal

pub loop-entry-preserved : goal.loop-entry-preserved
loop-entry-preserved c =
    item_step line.Entry c.args.entries.now c.args.out.now.items c.loop-entry.out.items _ (line.Entries (length c.args.entries.now)) c.loop-entry.entry-index
    (record { node = 0; level = 0; parent = 0 }) (omega arith) c.loop-entry.invariant c.in_ok-push_entry.ensures
