use Rattle.std.proofs.Common.{◌≡◌, ℕ, ◌<◌, get_or}
use Rattle.cb_test_causes.specs.Plain.{IsRun}
use Rattle.cb_test_causes.proofs.plain.leads_on.Given as goal

-- none of the links so far is the last one
abbrev pub invariant-loop-last : goal.invariant-loop-last
invariant-loop-last l = (k : ℕ) (d : ℕ × ℕ) → k < l.last-index → IsRun l.links l.from (get_or l.links k d).0 → (get_or l.links k d).1 ≡ l.to → ⊥
