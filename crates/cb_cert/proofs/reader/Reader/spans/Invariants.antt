use Rattle.std.proofs.Common.{◌∷◌}
use Rattle.std.specs.List.{flat_map}
use Rattle.cb_cert.specs.declared.line.CertificateLine.TheVariants as line
use Rattle.cb_cert.specs.Ahead.{at_spans, at_span}
use Rattle.cb_cert.specs.Lines.{span_lines}
use Rattle.cb_cert.specs.Steps.{HasRead}
use Rattle.cb_cert.proofs.Loops.{Looped}
use Rattle.cb_cert.proofs.reader.Reader.spans.Given as goal

abbrev pub invariant-loop : goal.invariant-loop
invariant-loop l =
    Looped (λ text before ahead. HasRead text l.fn.self before l.fn.nodes (at_spans ∷ ahead)) (λ xs. line.Spans l.count ∷ flat_map span_lines xs) at_span l.fn.nodes l.count l.counter l.self l.spans
