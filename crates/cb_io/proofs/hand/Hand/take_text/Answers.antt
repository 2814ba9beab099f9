use Rattle.std.proofs.Common.{arith}
use Rattle.std.specs.Prelude.{slice_range}
use Rattle.cb_io.proofs.HandLemmas.{given}
use Rattle.cb_io.proofs.hand.Hand.take_text.Goals as goal

pub returns : goal.returns
returns c =
    let inside = c.self.inside in
    let items = inside.buffer.items in
    rw (← c.self.view_is) (given items (slice_range items inside.text_from inside.text_to) inside.kept_from inside.kept_to c.args.line c.args.beyond _
    (omega (arith, inside.buffer.ok.0)) c.self.invariant.1 (rw (← c.self.view_is) at c.requires.text) (rw (← c.self.view_is) at c.requires.kept))
