use Rattle.std.proofs.Common.{sym}
use Rattle.std.proofs.lemmas.Result.{on_ok_weaker}
use Rattle.cb_io.proofs.Pairs.{at_place, look_up-absent}
use Rattle.cb_io.proofs.Memory.{extended, added}
use Rattle.cb_io.proofs.mem_files.MemFiles.add.Goals as goal

pub returns-in-Some-clause-ok : goal.returns-in-Some-clause-ok
returns-in-Some-clause-ok c =
    let at = at_place c.index_mut-entry.result.now
    (rw c.deref.ensures.value at (sym c.in-Some.ensures)) c.index_mut-entry.ensures.value in
    rw (← c.self.view_is)
    (on_ok_weaker c.extend.result (extended _ at c.extend.new.self c.args.bytes.now) c.extend.ensures.ok)

pub returns-in_ok-push-in-None-clause-ok : goal.returns-in_ok-push-in-None-clause-ok
returns-in_ok-push-in-None-clause-ok c =
    let absent = look_up-absent c.self.inside.entries.items c.args.name.now
    (rw c.deref.ensures.value at (sym c.in-None.ensures)) in
    rw (← c.self.view_is, c.in_ok-push-in-None.ensures.items, c.in_ok-entry-in-None.ensures)
    (added _ c.args.name.now c.args.bytes.now absent)
