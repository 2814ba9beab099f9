use Rattle.std.proofs.Common.{◌≡◌, ◌+◌, ◌++◌, ◌∷◌, ℕ, List, length, sym, subst, arith}
use Rattle.std.specs.List.{flat_map}
use Rattle.cb_cert.specs.declared.line.CertificateLine.{CertificateLine}
use Rattle.cb_cert.specs.declared.line.CertificateLine.TheVariants as line
use Rattle.cb_cert.specs.Ahead.{TextPlace, at_spans, at_span}
use Rattle.cb_cert.specs.Format.{IsBetween, column_limit}
use Rattle.cb_cert.specs.Lines.{all_span_lines, span_lines}
use Rattle.cb_cert.specs.Steps.{HasRead, ReadsOrFails}
use Rattle.cb_cert.proofs.Loops.{Looped, exit, looped_at, looped_more, looped_all, one_span_more}
use Rattle.cb_cert.proofs.Moved.{took_not}
use Rattle.cb_cert.proofs.Stands as stand
use Rattle.cb_cert.proofs.reader.Reader.spans.Goals as goal

pub returns-in_err-count : goal.returns-in_err-count
returns-in_err-count c text before ahead read =
    exit (ReadsOrFails text c.number.new.self before ahead all_span_lines (λ xs. c.args.nodes)) c.from_residual.result _ c.from_residual.ensures.1
    (took_not c.args.nodes at_spans line.Spans (IsBetween 0 column_limit) (stand.spans c.args.nodes) text c.args.self.now before ahead read _ c.in_err-count.ensures)

pub returns-in_err-span : goal.returns-in_err-span
returns-in_err-span c text before ahead read =
    let count = c.in_ok-count.count in
    let given : List ℕ → List CertificateLine → List TextPlace → Type 0 = λ text before ahead. HasRead text c.args.self.now before c.args.nodes (at_spans ∷ ahead) in
    let lines : List _ → List CertificateLine = λ xs. line.Spans count ∷ flat_map span_lines xs in
    exit (ReadsOrFails text c.span.new.self before ahead all_span_lines (λ xs. c.args.nodes)) c.from_residual-in_err-span.result _ c.from_residual-in_err-span.ensures.1
    (c.in_err-span.ensures text _ _ (looped_at given lines at_span c.args.nodes count c.loop.counter c.loop.self c.loop.spans c.loop.invariant (omega arith) text before ahead read))

pub loop-preserved : goal.loop-preserved
loop-preserved c =
    let count = c.in_ok-count.count in
    let given : List ℕ → List CertificateLine → List TextPlace → Type 0 = λ text before ahead. HasRead text c.args.self.now before c.args.nodes (at_spans ∷ ahead) in
    let lines : List _ → List CertificateLine = λ xs. line.Spans count ∷ flat_map span_lines xs in
    let x = c.in_ok-span.field-0 in
    let grown = looped_more given lines at_span c.args.nodes count c.loop.counter c.loop.self c.loop.spans c.loop.invariant (omega arith) c.span.new.self x (span_lines c.in_ok-span.field-0)
    (λ text before ahead read. c.in_ok-span.ensures text before ahead read) (one_span_more (line.Spans count) c.loop.spans x)
    in
    let all = subst (λ ys. Looped given lines at_span c.args.nodes count (c.loop.counter + 1) c.span.new.self ys) (sym c.in_ok-push.ensures.ok) grown in
    all

pub returns : goal.returns
returns c text before ahead read =
    let count = c.in_ok-count.count in
    let given : List ℕ → List CertificateLine → List TextPlace → Type 0 = λ text before ahead. HasRead text c.args.self.now before c.args.nodes (at_spans ∷ ahead) in
    let lines : List _ → List CertificateLine = λ xs. line.Spans count ∷ flat_map span_lines xs in
    let all = looped_all given lines at_span c.args.nodes count c.loop.counter c.loop.self c.loop.spans c.loop.invariant (omega arith) text before ahead read in
    let many : length c.loop.spans ≡ count = omega (arith, c.loop.invariant.many) in
    subst (λ k. HasRead text c.loop.self (before ++ line.Spans k ∷ flat_map span_lines c.loop.spans) c.args.nodes ahead) (sym many) all
