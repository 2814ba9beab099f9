use Rattle.std.proofs.Common.{arith}
use Rattle.std.specs.Prelude.{slice_range}
use Rattle.cb_io.proofs.HandLemmas.{part_length, refilled}
use Rattle.cb_io.proofs.hand.Hand.refill.Goals as goal

pub returns-clause-bytes : goal.returns-clause-bytes
returns-clause-bytes g c =
    let inside = c.self.inside in
    let items = inside.buffer.items in
    let now = c.read_beyond.new.buffer in
    let read = c.in_ok-count.ensures in
    let capacity = rw (← c.self.view_is) at c.requires in
    rw (← c.self.view_is) (refilled items now.items (slice_range items inside.text_from inside.text_to) inside.kept_from inside.kept_to c.in_ok-count.count _ _
    (g.F.Files.tells c.args.files.now) (g.F.Files.tells c.read_beyond.new.files) c.args.name.now (omega (arith, inside.buffer.ok.0)) c.self.invariant.1
    _ c.copy_within.ensures.items read.prefix (omega (arith, read.within, now.ok.0)) (omega (arith, capacity, part_length items inside.buffer.len inside.kept_from inside.kept_to (omega (arith, inside.buffer.ok.0)) c.self.invariant.1, read.size, c.copy_within.ensures.len, now.ok.0)) read.few read.bytes.0 read.bytes.1)
