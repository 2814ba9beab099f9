use Rattle.cb_cert.proofs.Cutting.{no_number}
use Rattle.cb_cert.proofs.words.number_after.Goals as goal

pub returns-in-None-short_number-clause-none : goal.returns-in-None-short_number-clause-none
returns-in-None-short_number-clause-none c = no_number c.args.bytes.now c.args.word.now c.in-Some.rest.now c.in-Some.ensures.some c.in-None-short_number.ensures.none
