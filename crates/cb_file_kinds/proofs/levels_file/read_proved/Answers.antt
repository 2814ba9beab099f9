use Rattle.std.proofs.Common.{◌≡◌, refl, ap, Err}
use Rattle.cb_io.specs.declared.whole.ReadStop.{ReadStop}
use Rattle.cb_outcome.specs.Judged.{Known, network}
use Rattle.cb_outcome.specs.Roles.{Role}
use Rattle.cb_topo.specs.Numbered.{topology_of}
use Rattle.cb_file_kinds.proofs.Chain.{if_err_more, if_ok_more}
use Rattle.cb_file_kinds.proofs.Counted.{unread_entries, read_entries}
use Rattle.cb_file_kinds.proofs.Judging.{stops_reading, unread_stops}
use Rattle.cb_file_kinds.proofs.levels_file.read_proved.Goals as goal

pub returns-in-Ok-clause-value : goal.returns-in-Ok-clause-value
returns-in-Ok-clause-value g c =
    let read = rw c.as_str.ensures at c.in-Ok.ensures.all in
    if_ok_more c.judge.result _ _ (λ value says. record { text = c.in-Ok.text.items; read = read; says = says }) (rw c.deref.ensures.value at c.judge.ensures.says)

pub returns-in-Ok-clause-stops : goal.returns-in-Ok-clause-stops
returns-in-Ok-clause-stops g c =
    let old = g.F.Files.tells c.args.files.now in
    let new = g.F.Files.tells c.read_whole.new.files in
    let read = rw c.as_str.ensures at c.in-Ok.ensures.all in
    if_err_more c.judge.result _ _ (λ fault stops.
    stops_reading Role.levels c.args.name (λ (known : Known). known ≡ network (topology_of c.args.topology)) old new c.in-Ok.text.items fault read stops)
    (rw c.deref.ensures.value at c.judge.ensures.stops)

pub returns-in-Ok-clause-steps : goal.returns-in-Ok-clause-steps
returns-in-Ok-clause-steps g c =
    let old = g.F.Files.tells c.args.files.now in
    let new = g.F.Files.tells c.read_whole.new.files in
    let read = rw c.as_str.ensures at c.in-Ok.ensures.all in
    read_entries old new c.args.name c.in-Ok.text.items read c.args.steps.now c.judge.new.steps (rw c.deref.ensures.value at c.judge.ensures.steps)

pub returns-in-Err-clause-stops : goal.returns-in-Err-clause-stops
returns-in-Err-clause-stops g c =
    let old = g.F.Files.tells c.args.files.now in
    let new = g.F.Files.tells c.read_whole.new.files in
    rw c.unread.ensures
    (unread_stops Role.levels c.args.name (λ (known : Known). known ≡ network (topology_of c.args.topology)) _ refl old new c.in-Err.stop
    (λ is. rw c.as_str.ensures at (c.in-Err.ensures.too_much (ap (λ (e : ReadStop). Err e) is)))
    (λ is. rw c.as_str.ensures at (c.in-Err.ensures.failed (ap (λ (e : ReadStop). Err e) is))))

pub returns-in-Err-clause-steps : goal.returns-in-Err-clause-steps
returns-in-Err-clause-steps g c = unread_entries (g.F.Files.tells c.args.files.now) c.args.name c.args.steps.now
