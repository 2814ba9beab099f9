use Rattle.std.proofs.Common.{◌∷◌, ◌≤◌, map}
use Rattle.cb_cert.specs.declared.line.CertificateLine.TheVariants as line
use Rattle.cb_cert.specs.Ahead.{at_nodes, at_node}
use Rattle.cb_cert.specs.Format.{certificate_node_limit}
use Rattle.cb_cert.specs.Steps.{HasRead}
use Rattle.cb_cert.proofs.Loops.{Looped}
use Rattle.cb_cert.proofs.reader.Reader.nodes.Given as goal

abbrev pub invariant-loop : goal.invariant-loop
invariant-loop l =
    Looped (λ text before ahead. HasRead text l.fn.self before 0 (at_nodes ∷ ahead)) (λ xs. line.Nodes l.count ∷ map line.Node xs) at_node l.count l.count l.counter l.self l.nodes × (l.count ≤ certificate_node_limit)
