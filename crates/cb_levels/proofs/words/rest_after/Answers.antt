use Rattle.std.proofs.Common.{arith}
use Rattle.std.specs.Cmp.Lexicographic.{same_text, other_text}
use Rattle.cb_cert.proofs.Cutting.{word_and_rest, no_rest_other}
use Rattle.cb_levels.proofs.words.rest_after.Goals as goal

pub returns-then-eq-clause-some : goal.returns-then-eq-clause-some
returns-then-eq-clause-some c = word_and_rest c.args.bytes.now c.args.word.now (omega arith) (same_text _ _ c.if-eq.ensures)

pub returns-else-eq-clause-none : goal.returns-else-eq-clause-none
returns-else-eq-clause-none c = no_rest_other c.args.bytes.now c.args.word.now (other_text _ _ c.if-eq.ensures)
