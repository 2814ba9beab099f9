use Rattle.cb_io.proofs.Failures.{end_for_failure, absent_name}
use Rattle.cb_io.proofs.never.NeverFilesFiles.read.Goals as goal

pub returns-clause-bytes : goal.returns-clause-bytes
returns-clause-bytes c =
    rw (c.unwrap_or.ensures, ← c.self.view_is)
    (end_for_failure c.self.inside.files c.read.new.self c.args.name.now c.read.new.buf c.read.result c.read.ensures.bytes
    (λ failed. absent_name c.self.inside.files c.args.name.now c.self.invariant (c.read.ensures.fails.0 failed)))
