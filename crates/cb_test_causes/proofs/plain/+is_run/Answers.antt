use Rattle.std.proofs.Common.{inl, inr}
use Rattle.std.proofs.lemmas.Bool.{iff_false}
use Rattle.cb_test_causes.proofs.Feeding.{run_in_nothing, split_with, split_without}
use Rattle.cb_test_causes.proofs.plain.+is_run.Goals as goal

pub returns-in_default : goal.returns-in_default
returns-in_default t c = run_in_nothing c.args.links.now c.in_default.len_below c.args.from c.args.to

pub returns-then-is_run : goal.returns-then-is_run
returns-then-is_run t c =
    (λ _. split_with c.args.links.now c.in-len1-up.len_at_least c.args.from c.args.to (inl (c.is_run.ensures.0 c.if-is_run.true)), λ _. c.if-is_run.true)

pub returns-then-is_run-2 : goal.returns-then-is_run-2
returns-then-is_run-2 t c = (
  λ is. split_with c.args.links.now c.in-len1-up.len_at_least c.args.from c.args.to (inr (c.is_run-else-is_run.ensures.0 c.if-is_run-2.true, c.is_run-then-is_run-2.ensures.0 is)),
  λ run. elim (split_without c.args.links.now c.in-len1-up.len_at_least c.args.from c.args.to run) [
    | inl early ↦ absurd (iff_false c.is_run.ensures c.if-is_run.false early)
    | inr both ↦ c.is_run-then-is_run-2.ensures.1 both.1
  ],
)

pub returns-else-is_run-2 : goal.returns-else-is_run-2
returns-else-is_run-2 t c = (
  λ is. absurd (iff_false c.is_run-else-is_run.ensures c.if-is_run-2.false (c.is_run-else-is_run.ensures.0 is)),
  λ run. elim (split_without c.args.links.now c.in-len1-up.len_at_least c.args.from c.args.to run) [
    | inl early ↦ absurd (iff_false c.is_run.ensures c.if-is_run.false early)
    | inr both ↦ c.is_run-else-is_run.ensures.1 both.0
  ],
)
