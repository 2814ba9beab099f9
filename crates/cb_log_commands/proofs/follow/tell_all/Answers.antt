use Rattle.std.proofs.Common.{◌∙◌}
use Rattle.cb_log_commands.proofs.Counted.{goes_further_on, counts_further_on}
use Rattle.cb_log_commands.proofs.follow.tell_all.Goals as goal

pub loop-preserved : goal.loop-preserved
loop-preserved g c =
    let (reads_log, name, going, counted) = c.loop.invariant in
    let files = g.F.Files.tells c.tell_next.new.files in
    let out = g.O.Sink.tells c.tell_next.new.out in
    let b = c.in_ok-tell_next.field-0 in (
      c.in_ok-tell_next.ensures.goes_on,
      c.tell_next.ensures.same.name ∙ name,
      λ watch now before first.
          goes_further_on watch now before c.tell_next.new.reader files out c.tell_next.new.session b c.if-not-branch.true
          (c.in_ok-tell_next.ensures.tells watch now before (going watch now before first)),
      λ watch now before start first has.
          counts_further_on watch now c.tell_next.new.reader start c.tell_next.new.steps b c.if-not-branch.true
          (c.in_ok-tell_next.ensures.counts watch now before start (going watch now before first) (counted watch now before start first has)),
    )
