use Rattle.std.proofs.Common.{◌≡◌, ◌↔◌, ◌⊎◌, ℕ, length, take}
use Rattle.cb_successors.specs.Rows.{Has}
use Rattle.cb_explain.specs.Surveyed.{IsChildAmong}
use Rattle.cb_explain.proofs.survey.mark_children.Given as goal

abbrev pub invariant-loop-position : goal.invariant-loop-position
invariant-loop-position l = record {
  capacity : length l.led.items ≡ length l.initial.led.items;
  led : (i : ℕ) → Has l.led.items i ↔ (Has l.initial.led.items i ⊎ IsChildAmong l.levels l.listed.nodes.items l.parent (take l.position l.successors) i);
}
