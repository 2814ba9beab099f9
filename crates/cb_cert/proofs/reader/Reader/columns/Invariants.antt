use Rattle.std.proofs.Common.{◌∷◌, map}
use Rattle.cb_cert.specs.declared.line.CertificateLine.TheVariants as line
use Rattle.cb_cert.specs.Ahead.{at_columns, at_column}
use Rattle.cb_cert.specs.Steps.{HasRead}
use Rattle.cb_cert.proofs.Loops.{Looped}
use Rattle.cb_cert.proofs.reader.Reader.columns.Given as goal

abbrev pub invariant-loop : goal.invariant-loop
invariant-loop l =
    Looped (λ text before ahead. HasRead text l.fn.self before l.fn.nodes (at_columns ∷ ahead)) (λ xs. line.Columns l.count ∷ map line.Column xs) at_column l.fn.nodes l.count l.counter l.self l.columns
