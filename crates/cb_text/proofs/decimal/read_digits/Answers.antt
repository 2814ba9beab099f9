use Rattle.cb_text.proofs.Digits.{read_none, read_stops, read_more, all_read}
use Rattle.cb_text.proofs.decimal.read_digits.Goals as goal

pub loop-byte-init : goal.loop-byte-init
loop-byte-init c = read_none c.args.bytes.now

pub returns-in_default-clause-none : goal.returns-in_default-clause-none
returns-in_default-clause-none c = read_stops c.args.bytes.now c.loop-byte.byte-index c.loop-byte.number c.loop-byte-test.true c.loop-byte.invariant c.in_default.ensures

pub loop-byte-preserved : goal.loop-byte-preserved
loop-byte-preserved c = read_more c.args.bytes.now c.loop-byte.byte-index c.loop-byte.number c.loop-byte-test.true c.loop-byte.invariant c.in-Some.more c.in-Some.ensures

pub returns-clause-number : goal.returns-clause-number
returns-clause-number c = all_read c.args.bytes.now c.loop-byte.byte-index c.loop-byte.number c.loop-byte-test.false c.loop-byte.invariant
