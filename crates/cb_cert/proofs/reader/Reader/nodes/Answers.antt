use Rattle.std.proofs.Common.{◌≡◌, ◌+◌, ◌++◌, ◌∷◌, [], ℕ, List, length, map, sym, subst, arith}
use Rattle.cb_cert.specs.declared.line.CertificateLine.{CertificateLine}
use Rattle.cb_cert.specs.declared.line.CertificateLine.TheVariants as line
use Rattle.cb_cert.specs.Ahead.{TextPlace, at_nodes, at_node}
use Rattle.cb_cert.specs.Format.{IsBetween, HasValidNames, certificate_node_limit}
use Rattle.cb_cert.specs.Lines.{node_lines}
use Rattle.cb_cert.specs.Steps.{HasRead, ReadsOrFails}
use Rattle.cb_cert.proofs.Loops.{Looped, exit, looped_at, looped_more, looped_all, one_more}
use Rattle.cb_cert.proofs.Moved.{took, took_not}
use Rattle.cb_cert.proofs.Stands as stand
use Rattle.cb_cert.proofs.reader.Reader.nodes.Goals as goal

pub returns-in_err-count-clause-lines : goal.returns-in_err-count-clause-lines
returns-in_err-count-clause-lines c text before ahead read =
    exit (ReadsOrFails text c.number.new.self before ahead node_lines length) c.from_residual.result _ c.from_residual.ensures.1
    (took_not 0 at_nodes line.Nodes (IsBetween 0 certificate_node_limit) (stand.nodes 0) text c.args.self.now before ahead read _ c.in_err-count.ensures)

pub returns-in_err-node-clause-lines : goal.returns-in_err-node-clause-lines
returns-in_err-node-clause-lines c text before ahead read =
    let count = c.in_ok-count.count in
    let given : List ℕ → List CertificateLine → List TextPlace → Type 0 = λ text before ahead. HasRead text c.args.self.now before 0 (at_nodes ∷ ahead) in
    let lines : List _ → List CertificateLine = λ xs. line.Nodes count ∷ map line.Node xs in
    exit (ReadsOrFails text c.node.new.self before ahead node_lines length) c.from_residual-in_err-node.result _ c.from_residual-in_err-node.ensures.1
    (took_not count at_node line.Node HasValidNames (stand.one_node count) text c.loop.self _ _
    (looped_at given lines at_node count count c.loop.counter c.loop.self c.loop.nodes c.loop.invariant.0 (omega arith) text before ahead read) _ c.in_err-node.ensures)

pub loop-preserved : goal.loop-preserved
loop-preserved c =
    let count = c.in_ok-count.count in
    let given : List ℕ → List CertificateLine → List TextPlace → Type 0 = λ text before ahead. HasRead text c.args.self.now before 0 (at_nodes ∷ ahead) in
    let lines : List _ → List CertificateLine = λ xs. line.Nodes count ∷ map line.Node xs in
    let x = c.in_ok-node.field-0 in
    let grown = looped_more given lines at_node count count c.loop.counter c.loop.self c.loop.nodes c.loop.invariant.0 (omega arith) c.node.new.self x (line.Node x ∷ [])
    (λ text before ahead read. took count at_node line.Node HasValidNames (stand.one_node count) text c.loop.self c.node.new.self before ahead read x c.in_ok-node.ensures) (one_more line.Node (line.Nodes count) c.loop.nodes x)
    in
    let all = subst (λ ys. Looped given lines at_node count count (c.loop.counter + 1) c.node.new.self ys) (sym c.in_ok-push.ensures.ok) grown in
    (all, c.loop.invariant.1)

pub returns-clause-lines : goal.returns-clause-lines
returns-clause-lines c text before ahead read =
    let count = c.in_ok-count.count in
    let given : List ℕ → List CertificateLine → List TextPlace → Type 0 = λ text before ahead. HasRead text c.args.self.now before 0 (at_nodes ∷ ahead) in
    let lines : List _ → List CertificateLine = λ xs. line.Nodes count ∷ map line.Node xs in
    let all = looped_all given lines at_node count count c.loop.counter c.loop.self c.loop.nodes c.loop.invariant.0 (omega arith) text before ahead read in
    let many : length c.loop.nodes ≡ count = omega (arith, c.loop.invariant.0.many) in
    subst (λ k. HasRead text c.loop.self (before ++ line.Nodes k ∷ map line.Node c.loop.nodes) k ahead) (sym many) all
