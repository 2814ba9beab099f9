use Rattle.std.proofs.Common.{codes, arith, refl, sym, subst}
use Rattle.std.specs.Prelude.{Err}
use Rattle.cb_cert.specs.Format.{IsBetween, certificate_node_limit}
use Rattle.cb_cert.specs.Steps.{CountsSpan}
use Rattle.cb_cert.proofs.Cutting.{other_number}
use Rattle.cb_cert.proofs.reader.Reader.span_of.Goals as goal

pub returns-then-not-is_between : goal.returns-then-not-is_between
returns-then-not-is_between c =
    let k = c.in-Some.length in
    let out : ¬ IsBetween 1 certificate_node_limit k = λ within. let is = c.is_between.ensures.1 within in let not = c.if-not-is_between.true in cc in
    subst (λ why. CountsSpan c.args.line.now c.args.self.now c.args.self.now (Err why)) (sym c.bad-then-not-is_between.ensures)
    (refl, λ n is. other_number (codes "span ") c.args.line.now k 1 certificate_node_limit (omega arith) (omega arith) c.in-Some.ensures.some out n is.length_is is.is)
