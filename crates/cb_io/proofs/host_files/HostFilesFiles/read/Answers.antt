use Rattle.std.proofs.Common.{◌∙◌}
use Rattle.std.proofs.lemmas.Result.{IfErr-at_err}
use Rattle.cb_io.specs.Host.{host_report}
use Rattle.cb_io.proofs.Pairs.{at_place}
use Rattle.cb_io.proofs.Host.{NoCountFalls-set, ReadFailed-set, SameFaults-on_ok, OneMoreFault-set}
use Rattle.cb_io.proofs.host_files.HostFilesFiles.read.Goals as goal

pub returns-in-Ok-clause-counts : goal.returns-in-Ok-clause-counts
returns-in-Ok-clause-counts g c = λ name.
    let at = at_place c.index_mut-opened.result.now c.in-Ok.ensures.place c.index_mut-opened.ensures.value in
    rw (← c.self.view_is, ← c.in-Ok.ensures.faults name)
    (NoCountFalls-set at c.read.new.self c.read.ensures.name c.read.ensures.later name)

pub returns-in-Ok-clause-failed : goal.returns-in-Ok-clause-failed
returns-in-Ok-clause-failed g c = λ failed.
    let at = at_place c.index_mut-opened.result.now c.in-Ok.ensures.place c.index_mut-opened.ensures.value in
    rw (← c.self.view_is, ← c.in-Ok.ensures.faults c.args.name.now)
    (ReadFailed-set at c.read.new.self c.read.ensures.name (IfErr-at_err _ failed c.read.ensures.err).1)

pub returns-in-Ok-clause-err : goal.returns-in-Ok-clause-err
returns-in-Ok-clause-err g c = λ failed.
    let at = at_place c.index_mut-opened.result.now c.in-Ok.ensures.place c.index_mut-opened.ensures.value in
    let more = OneMoreFault-set at c.read.new.self c.read.ensures.name (IfErr-at_err _ failed c.read.ensures.err).1 in
    rw (← c.self.view_is) (rw (c.in-Ok.ensures.faults c.args.name.now) at more.0, λ other ne. more.1 other ne ∙ c.in-Ok.ensures.faults other)

pub returns-in-Ok-clause-ok : goal.returns-in-Ok-clause-ok
returns-in-Ok-clause-ok g c =
    let at = at_place c.index_mut-opened.result.now c.in-Ok.ensures.place c.index_mut-opened.ensures.value in
    rw (← c.self.view_is)
    (SameFaults-on_ok at c.read.new.self c.read.ensures.name c.read.result (host_report c.self.inside.opened.items) c.read.ensures.ok c.in-Ok.ensures.faults)
