use Rattle.std.proofs.Common.{◌≡◌, ℕ, sym, ◌∙◌, arith, List}
use Rattle.std.proofs.lemmas.Fmt.{decimal_injective}
use Rattle.cb_text.specs.Decimals.{IsDecimal}
use Rattle.cb_request.proofs.NumberWords.{number_is_read, no_number_is_read}
use Rattle.cb_request.proofs.numbers.number_in.Goals as goal

-- a word is the decimal of one number
one_number : (word : List ℕ) (m n : ℕ) → IsDecimal word m → IsDecimal word n → m ≡ n
one_number word m n a b = decimal_injective m n a.small b.small (sym a.written ∙ b.written)

pub returns-in-Some : goal.returns-in-Some
returns-in-Some c =
    let is = rw c.as_bytes.ensures.value at c.in-Some.ensures.number in
    sym ((number_is_read c.args.least c.args.most c.args.word.now c.in-Some.number c.ranges.most.fits).1 (is, c.if-least-number.true, c.if-number-most.true))

pub returns-in_default : goal.returns-in_default
returns-in_default c =
    let is = rw c.as_bytes.ensures.value at c.in-Some.ensures.number in
    no_number_is_read c.args.least c.args.most c.args.word.now c.ranges.most.fits (λ n d low high.
    let same = one_number c.args.word.now n c.in-Some.number d is in
    let above = c.if-number-most.false in omega (arith, same, above, high))

pub returns-in_default-2 : goal.returns-in_default-2
returns-in_default-2 c =
    let is = rw c.as_bytes.ensures.value at c.in-Some.ensures.number in
    no_number_is_read c.args.least c.args.most c.args.word.now c.ranges.most.fits (λ n d low high.
    let same = one_number c.args.word.now n c.in-Some.number d is in
    let below = c.if-least-number.false in omega (arith, same, below, low))
