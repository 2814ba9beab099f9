use Rattle.std.proofs.Common.{◌≡◌, ◌+◌, ◌++◌, ◌∷◌, [], ℕ, List, length, map, replicate, sym, subst, arith}
use Rattle.cb_cert.specs.declared.line.CertificateLine.{CertificateLine}
use Rattle.cb_cert.specs.declared.line.CertificateLine.TheVariants as line
use Rattle.cb_cert.specs.Ahead.{TextPlace, at_entry}
use Rattle.cb_cert.specs.Format.{IsEntry}
use Rattle.cb_cert.specs.Lines.{span_lines}
use Rattle.cb_cert.specs.Steps.{HasRead, ReadsOrFails}
use Rattle.cb_cert.proofs.Loops.{Looped, exit, looped_at, looped_more, looped_all, one_more}
use Rattle.cb_cert.proofs.Moved.{took, took_not}
use Rattle.cb_cert.proofs.Stands as stand
use Rattle.cb_cert.proofs.reader.Reader.entries.Goals as goal

pub returns-in_err-entry : goal.returns-in_err-entry
returns-in_err-entry c text before ahead read =
    let count = c.args.count in
    let given : List ℕ → List CertificateLine → List TextPlace → Type 0 = λ text before ahead. HasRead text c.args.self.now (before ++ line.Span count ∷ []) c.args.nodes (replicate count at_entry ++ ahead) in
    let lines : List _ → List CertificateLine = λ xs. line.Span count ∷ map line.Entry xs in
    exit (ReadsOrFails text c.entry.new.self before ahead span_lines (λ xs. c.args.nodes)) c.from_residual.result _ c.from_residual.ensures.1
    (took_not c.args.nodes at_entry line.Entry (IsEntry c.args.nodes) (stand.entry c.args.nodes) text c.loop.self _ _
    (looped_at given lines at_entry c.args.nodes count c.loop.counter c.loop.self c.loop.entries c.loop.invariant (omega arith) text before ahead read) _ c.in_err-entry.ensures)

pub loop-preserved : goal.loop-preserved
loop-preserved c =
    let count = c.args.count in
    let given : List ℕ → List CertificateLine → List TextPlace → Type 0 = λ text before ahead. HasRead text c.args.self.now (before ++ line.Span count ∷ []) c.args.nodes (replicate count at_entry ++ ahead) in
    let lines : List _ → List CertificateLine = λ xs. line.Span count ∷ map line.Entry xs in
    let x = c.in_ok-entry.field-0 in
    let grown = looped_more given lines at_entry c.args.nodes count c.loop.counter c.loop.self c.loop.entries c.loop.invariant (omega arith) c.entry.new.self x (line.Entry x ∷ [])
    (λ text before ahead read. took c.args.nodes at_entry line.Entry (IsEntry c.args.nodes) (stand.entry c.args.nodes) text c.loop.self c.entry.new.self before ahead read x c.in_ok-entry.ensures) (one_more line.Entry (line.Span count) c.loop.entries x)
    in
    let all = subst (λ ys. Looped given lines at_entry c.args.nodes count (c.loop.counter + 1) c.entry.new.self ys) (sym c.in_ok-push.ensures.ok) grown in
    all

pub returns : goal.returns
returns c text before ahead read =
    let count = c.args.count in
    let given : List ℕ → List CertificateLine → List TextPlace → Type 0 = λ text before ahead. HasRead text c.args.self.now (before ++ line.Span count ∷ []) c.args.nodes (replicate count at_entry ++ ahead) in
    let lines : List _ → List CertificateLine = λ xs. line.Span count ∷ map line.Entry xs in
    let all = looped_all given lines at_entry c.args.nodes count c.loop.counter c.loop.self c.loop.entries c.loop.invariant (omega arith) text before ahead read in
    let many : length c.loop.entries ≡ count = omega (arith, c.loop.invariant.many) in
    subst (λ k. HasRead text c.loop.self (before ++ line.Span k ∷ map line.Entry c.loop.entries) c.args.nodes ahead) (sym many) all
