use Rattle.std.proofs.Common.{◌≡◌, ◌+◌, ◌++◌, ◌∷◌, [], ℕ, List, length, map, sym, subst, arith}
use Rattle.cb_cert.specs.declared.line.CertificateLine.{CertificateLine}
use Rattle.cb_cert.specs.declared.line.CertificateLine.TheVariants as line
use Rattle.cb_cert.specs.Ahead.{TextPlace, at_columns, at_column}
use Rattle.cb_cert.specs.Format.{IsBetween, column_limit}
use Rattle.cb_cert.specs.Lines.{column_lines}
use Rattle.cb_cert.specs.Steps.{HasRead, ReadsOrFails}
use Rattle.cb_cert.proofs.Loops.{Looped, exit, looped_at, looped_more, looped_all, one_more}
use Rattle.cb_cert.proofs.Moved.{took, took_not}
use Rattle.cb_cert.proofs.Stands as stand
use Rattle.cb_cert.proofs.reader.Reader.columns.Goals as goal

pub returns-in_err-count : goal.returns-in_err-count
returns-in_err-count c text before ahead read =
    exit (ReadsOrFails text c.number.new.self before ahead column_lines (λ xs. c.args.nodes)) c.from_residual.result _ c.from_residual.ensures.1
    (took_not c.args.nodes at_columns line.Columns (IsBetween 0 column_limit) (stand.columns c.args.nodes) text c.args.self.now before ahead read _ c.in_err-count.ensures)

pub returns-in_err-number : goal.returns-in_err-number
returns-in_err-number c text before ahead read =
    let count = c.in_ok-count.count in
    let given : List ℕ → List CertificateLine → List TextPlace → Type 0 = λ text before ahead. HasRead text c.args.self.now before c.args.nodes (at_columns ∷ ahead) in
    let lines : List _ → List CertificateLine = λ xs. line.Columns count ∷ map line.Column xs in
    exit (ReadsOrFails text c.number-in-loop.new.self before ahead column_lines (λ xs. c.args.nodes)) c.from_residual-in_err-number.result _ c.from_residual-in_err-number.ensures.1
    (took_not c.args.nodes at_column line.Column (IsBetween 1 c.args.nodes) (stand.column c.args.nodes) text c.loop.self _ _
    (looped_at given lines at_column c.args.nodes count c.loop.counter c.loop.self c.loop.columns c.loop.invariant (omega arith) text before ahead read) _ c.in_err-number.ensures)

pub loop-preserved : goal.loop-preserved
loop-preserved c =
    let count = c.in_ok-count.count in
    let given : List ℕ → List CertificateLine → List TextPlace → Type 0 = λ text before ahead. HasRead text c.args.self.now before c.args.nodes (at_columns ∷ ahead) in
    let lines : List _ → List CertificateLine = λ xs. line.Columns count ∷ map line.Column xs in
    let x = c.in_ok-number.field-0 in
    let grown = looped_more given lines at_column c.args.nodes count c.loop.counter c.loop.self c.loop.columns c.loop.invariant (omega arith) c.number-in-loop.new.self x (line.Column x ∷ [])
    (λ text before ahead read. took c.args.nodes at_column line.Column (IsBetween 1 c.args.nodes) (stand.column c.args.nodes) text c.loop.self c.number-in-loop.new.self before ahead read x c.in_ok-number.ensures) (one_more line.Column (line.Columns count) c.loop.columns x)
    in
    let all = subst (λ ys. Looped given lines at_column c.args.nodes count (c.loop.counter + 1) c.number-in-loop.new.self ys) (sym c.in_ok-push.ensures.ok) grown in
    all

pub returns : goal.returns
returns c text before ahead read =
    let count = c.in_ok-count.count in
    let given : List ℕ → List CertificateLine → List TextPlace → Type 0 = λ text before ahead. HasRead text c.args.self.now before c.args.nodes (at_columns ∷ ahead) in
    let lines : List _ → List CertificateLine = λ xs. line.Columns count ∷ map line.Column xs in
    let all = looped_all given lines at_column c.args.nodes count c.loop.counter c.loop.self c.loop.columns c.loop.invariant (omega arith) text before ahead read in
    let many : length c.loop.columns ≡ count = omega (arith, c.loop.invariant.many) in
    subst (λ k. HasRead text c.loop.self (before ++ line.Columns k ∷ map line.Column c.loop.columns) c.args.nodes ahead) (sym many) all
