use Rattle.cb_validity.specs.Checks.{Judges, span_checks}
use Rattle.cb_topo.specs.Numbered.{topology_of}
use Rattle.cb_checker.specs.Known.{verdict_of}
use Rattle.cb_checker.specs.Spans.{asked}
use Rattle.cb_checker.proofs.Joined.{exit}
use Rattle.cb_checker.proofs.pair.read_span.Goals as goal

pub returns-in_err-check_span-clause-judges : goal.returns-in_err-check_span-clause-judges
returns-in_err-check_span-clause-judges g c = λ whole name known named.
    exit (λ r. Judges (topology_of c.args.graph.now) whole (span_checks (asked c.args.before name c.args.span.now)) (verdict_of r)) c.from_residual.result
    c.in_err-check_span.field-0.0 c.from_residual.ensures.1 (c.in_err-check_span.ensures.judges whole name known named)

pub returns-clause-code : goal.returns-clause-code
returns-clause-code g c = record {
  listed = c.check_span.new.marks.listed;
  lists = record {
    placed = c.check_span.new.marks.placed.items;
    are = c.in_ok-check_span.ensures.placed;
    each = c.in_ok-check_span.ensures.marked.each;
  };
  coded = c.in-Ok.ensures;
}
