use Rattle.std.proofs.Common.{◌<◌, length, sym, ◌∙◌, inl, inr, arith}
use Rattle.std.proofs.lemmas.Bool.{cases_lt, eq-eqb, eqb-true, false≢true}
use Rattle.std.proofs.lemmas.Option.{IfSome_then}
use Rattle.cb_text.proofs.Digits.{written, digits_of, small_of, some_bytes, unpadded, none_then}
use Rattle.cb_text.proofs.decimal.decimal_of.Goals as goal

pub returns-then-is_empty-clause-none : goal.returns-then-is_empty-clause-none
returns-then-is_empty-clause-none c = λ n is.
    let some = some_bytes c.args.bytes.now n is in
    let none = eqb-true (length c.args.bytes.now) 0 (sym c.is_empty.ensures ∙ c.if-is_empty.true) in
    omega (arith, some, none)

pub returns-then-is_padded-clause-none : goal.returns-then-is_padded-clause-none
returns-then-is_padded-clause-none c = λ n is. unpadded c.args.bytes.now n is (c.is_padded.ensures.0 c.if-is_padded.true)

pub returns-clause-number : goal.returns-clause-number
returns-clause-number c =
    let bytes = c.args.bytes.now in
    let some : 0 < length bytes = elim (cases_lt 0 (length bytes)) [
      | inl some ↦ some
      | inr none ↦ absurd (false≢true (sym c.if-is_empty.false ∙ (c.is_empty.ensures ∙ eq-eqb (length bytes) 0 (omega arith))))
    ] in
    IfSome_then c.read_digits.result c.read_digits.ensures.number
    (λ n is. written bytes n some (λ padded. false≢true (sym c.if-is_padded.false ∙ c.is_padded.ensures.1 padded)) is)

pub returns-clause-none : goal.returns-clause-none
returns-clause-none c =
    none_then c.read_digits.result (λ none n is. none (digits_of c.args.bytes.now n is) (small_of c.args.bytes.now n is)) c.read_digits.ensures.none
