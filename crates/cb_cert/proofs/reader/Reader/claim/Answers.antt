use Rattle.std.proofs.Common.{◌∷◌, subst}
use Rattle.cb_cert.specs.Ahead.{at_kind}
use Rattle.cb_cert.specs.Steps.{HasRead}
use Rattle.cb_cert.proofs.reader.Reader.claim.Goals as goal

pub returns-in-First-clause-lines : goal.returns-in-First-clause-lines
returns-in-First-clause-lines c text before ahead read =
    c.first_claim.ensures.lines text before ahead (subst (λ version. HasRead text c.args.self.now before 0 (at_kind version ∷ ahead)) c.in-First.is read)

pub returns-in-Second-clause-lines : goal.returns-in-Second-clause-lines
returns-in-Second-clause-lines c text before ahead read =
    c.second_claim.ensures.lines text before ahead (subst (λ version. HasRead text c.args.self.now before 0 (at_kind version ∷ ahead)) c.in-Second.is read)
