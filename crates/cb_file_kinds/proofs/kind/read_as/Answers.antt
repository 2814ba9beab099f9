use Rattle.std.proofs.Common.{ap, Err}
use Rattle.cb_io.specs.declared.whole.ReadStop.{ReadStop}
use Rattle.cb_file_kinds.proofs.Chain.{if_err_more}
use Rattle.cb_file_kinds.proofs.Judging.{stops_reading, unread_stops}
use Rattle.cb_file_kinds.proofs.kind.read_as.Goals as goal

pub returns-in-Ok-clause-stops : goal.returns-in-Ok-clause-stops
returns-in-Ok-clause-stops g c =
    let old = g.F.Files.tells c.args.files.now in
    let new = g.F.Files.tells c.read_whole.new.files in
    let read = rw c.as_str.ensures at c.in-Ok.ensures.all in
    if_err_more c.judge.result _ _ (λ fault stops. stops_reading g.K.FileKind.role c.args.name (g.K.FileKind.before c.args.kind) old new c.in-Ok.text.items fault read stops)
    (rw c.deref.ensures.value at c.judge.ensures.stops)

pub returns-clause-stops : goal.returns-clause-stops
returns-clause-stops g c =
    let old = g.F.Files.tells c.args.files.now in
    let new = g.F.Files.tells c.read_whole.new.files in
    rw c.unread.ensures
    (unread_stops g.K.FileKind.role c.args.name (g.K.FileKind.before c.args.kind) c.most_bytes.result c.most_bytes.ensures old new c.in-Err.stop
    (λ is. rw c.as_str.ensures at (c.in-Err.ensures.too_much (ap (λ (e : ReadStop). Err e) is)))
    (λ is. rw c.as_str.ensures at (c.in-Err.ensures.failed (ap (λ (e : ReadStop). Err e) is))))
