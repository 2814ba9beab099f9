use Rattle.std.proofs.Common.{◌≡◌, ◌∷◌, [], length, sym, subst, inr, ◌⊎◌}
use Rattle.std.specs.Prelude.{IfErr}
use Rattle.cb_cert.specs.declared.fault.CertText.TheVariants.{NoMemory}
use Rattle.cb_cert.specs.declared.line.CertificateLine.TheVariants as line
use Rattle.cb_cert.specs.Ahead.{at_end}
use Rattle.cb_cert.specs.Format.{nodes_of}
use Rattle.cb_cert.specs.Lines.{claim_lines}
use Rattle.cb_cert.specs.Prefixes.{IsFault}
use Rattle.cb_cert.specs.Steps.{HasRead}
use Rattle.cb_cert.proofs.Loops.{exit}
use Rattle.cb_cert.proofs.reading.read.Goals as goal

pub returns-in_err-certificate-clause-fault : goal.returns-in_err-certificate-clause-fault
returns-in_err-certificate-clause-fault c =
    exit (λ r. IfErr r (λ why. (why ≡ NoMemory) ⊎ IsFault c.args.text.now why)) c.from_residual-in_err-certificate.result _ c.from_residual-in_err-certificate.ensures.1
    (c.in_err-certificate.ensures.lines c.args.text.now (line.Header c.in_ok-reader.reader.version ∷ []) (at_end ∷ []) c.in_ok-reader.ensures.reader)

pub returns-in_err-finish-clause-fault : goal.returns-in_err-finish-clause-fault
returns-in_err-finish-clause-fault c =
    let text = c.args.text.now in
    let certificate = c.in_ok-certificate.certificate in
    let read = c.in_ok-certificate.ensures.lines text (line.Header c.in_ok-reader.reader.version ∷ []) (at_end ∷ []) c.in_ok-reader.ensures.reader in
    let whole = subst (λ version. HasRead text c.claim.new.self (line.Header version ∷ claim_lines certificate) (length (nodes_of certificate)) (at_end ∷ []))
    (sym c.in_ok-certificate.ensures.version) read
    in
    exit (λ r. IfErr r (λ why. (why ≡ NoMemory) ⊎ IsFault text why)) c.from_residual-in_err-finish.result _ c.from_residual-in_err-finish.ensures.1
    (inr (c.in_err-finish.ensures text certificate _ whole))

pub returns-clause-certificate : goal.returns-clause-certificate
returns-clause-certificate c =
    let text = c.args.text.now in
    let certificate = c.in_ok-certificate.certificate in
    let read = c.in_ok-certificate.ensures.lines text (line.Header c.in_ok-reader.reader.version ∷ []) (at_end ∷ []) c.in_ok-reader.ensures.reader in
    let whole = subst (λ version. HasRead text c.claim.new.self (line.Header version ∷ claim_lines certificate) (length (nodes_of certificate)) (at_end ∷ []))
    (sym c.in_ok-certificate.ensures.version) read
    in
    c.in_ok-finish.ensures text certificate _ whole
