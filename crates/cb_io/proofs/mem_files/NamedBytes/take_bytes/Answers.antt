use Rattle.std.proofs.Common.{arith, length-drop}
use Rattle.std.proofs.lemmas.List.{take_rest}
use Rattle.cb_io.proofs.Memory.{copied_prefix}
use Rattle.cb_io.proofs.mem_files.NamedBytes.take_bytes.Goals as goal

pub returns-clause-given : goal.returns-clause-given
returns-clause-given c =
    rw (← c.self.view_is)
    (copied_prefix c.self.inside.bytes.items c.copy_from_slice.new.self _ c.self.inside.at c.min-count.result
    (rw (take_rest, c.deref.ensures.value) at c.copy_from_slice.ensures.after)
    (grind (arith, length-drop, take_rest, c.min.ensures, c.min-count.ensures)))
