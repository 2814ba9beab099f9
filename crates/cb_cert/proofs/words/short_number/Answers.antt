use Rattle.cb_cert.proofs.Cutting.{too_great}
use Rattle.cb_cert.proofs.words.short_number.Goals as goal

pub returns-else-number-lt4294967296-clause-none : goal.returns-else-number-lt4294967296-clause-none
returns-else-number-lt4294967296-clause-none c =
    let is = c.in-Some.ensures.number in
    too_great c.args.bytes.now c.in-Some.number is.small is.written c.if-number-lt4294967296.false
