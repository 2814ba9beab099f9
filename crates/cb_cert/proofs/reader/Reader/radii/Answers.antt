use Rattle.std.proofs.Common.{◌≡◌, ◌+◌, ◌++◌, ◌∷◌, [], ℕ, List, length, map, sym, subst, arith}
use Rattle.cb_cert.specs.declared.line.CertificateLine.{CertificateLine}
use Rattle.cb_cert.specs.declared.line.CertificateLine.TheVariants as line
use Rattle.cb_cert.specs.Ahead.{TextPlace, at_radii, at_radius}
use Rattle.cb_cert.specs.Format.{IsBetween, radii_limit, greatest_radius}
use Rattle.cb_cert.specs.Lines.{radius_lines}
use Rattle.cb_cert.specs.Steps.{HasRead, ReadsOrFails}
use Rattle.cb_cert.proofs.Loops.{Looped, exit, looped_at, looped_more, looped_all, one_more}
use Rattle.cb_cert.proofs.Moved.{took, took_not}
use Rattle.cb_cert.proofs.Stands as stand
use Rattle.cb_cert.proofs.reader.Reader.radii.Goals as goal

pub returns-in_err-count : goal.returns-in_err-count
returns-in_err-count c nodes text before ahead read =
    exit (ReadsOrFails text c.number.new.self before ahead radius_lines (λ xs. nodes)) c.from_residual.result _ c.from_residual.ensures.1
    (took_not nodes at_radii line.Radii (IsBetween 1 radii_limit) (stand.radii nodes) text c.args.self.now before ahead read _ c.in_err-count.ensures)

pub returns-in_err-number : goal.returns-in_err-number
returns-in_err-number c nodes text before ahead read =
    let count = c.in_ok-count.count in
    let given : List ℕ → List CertificateLine → List TextPlace → Type 0 = λ text before ahead. HasRead text c.args.self.now before nodes (at_radii ∷ ahead) in
    let lines : List _ → List CertificateLine = λ xs. line.Radii count ∷ map line.Radius xs in
    exit (ReadsOrFails text c.number-in-loop.new.self before ahead radius_lines (λ xs. nodes)) c.from_residual-in_err-number.result _ c.from_residual-in_err-number.ensures.1
    (took_not nodes at_radius line.Radius (IsBetween 0 greatest_radius) (stand.radius nodes) text c.loop.self _ _
    (looped_at given lines at_radius nodes count c.loop.counter c.loop.self c.loop.radii (c.loop.invariant nodes) (omega arith) text before ahead read) _ c.in_err-number.ensures)

pub loop-preserved : goal.loop-preserved
loop-preserved c nodes =
    let count = c.in_ok-count.count in
    let given : List ℕ → List CertificateLine → List TextPlace → Type 0 = λ text before ahead. HasRead text c.args.self.now before nodes (at_radii ∷ ahead) in
    let lines : List _ → List CertificateLine = λ xs. line.Radii count ∷ map line.Radius xs in
    let x = c.in_ok-number.field-0 in
    let grown = looped_more given lines at_radius nodes count c.loop.counter c.loop.self c.loop.radii (c.loop.invariant nodes) (omega arith) c.number-in-loop.new.self x (line.Radius x ∷ [])
    (λ text before ahead read. took nodes at_radius line.Radius (IsBetween 0 greatest_radius) (stand.radius nodes) text c.loop.self c.number-in-loop.new.self before ahead read x c.in_ok-number.ensures) (one_more line.Radius (line.Radii count) c.loop.radii x)
    in
    let all = subst (λ ys. Looped given lines at_radius nodes count (c.loop.counter + 1) c.number-in-loop.new.self ys) (sym c.in_ok-push.ensures.ok) grown in
    all

pub returns : goal.returns
returns c nodes text before ahead read =
    let count = c.in_ok-count.count in
    let given : List ℕ → List CertificateLine → List TextPlace → Type 0 = λ text before ahead. HasRead text c.args.self.now before nodes (at_radii ∷ ahead) in
    let lines : List _ → List CertificateLine = λ xs. line.Radii count ∷ map line.Radius xs in
    let all = looped_all given lines at_radius nodes count c.loop.counter c.loop.self c.loop.radii (c.loop.invariant nodes) (omega arith) text before ahead read in
    let many : length c.loop.radii ≡ count = omega (arith, (c.loop.invariant nodes).many) in
    subst (λ k. HasRead text c.loop.self (before ++ line.Radii k ∷ map line.Radius c.loop.radii) nodes ahead) (sym many) all
