use Rattle.std.proofs.Common.{◌≡◌, ◌↔◌, ◌≤◌, ◌+◌, ℕ, length}
use Rattle.cb_successors.specs.Rows.{Has}
use Rattle.cb_explain.specs.Surveyed.{IsLedBefore, IsFirstWrongIfAny}
use Rattle.cb_explain.proofs.survey.ask_all.Given as goal

abbrev pub invariant-loop-position : goal.invariant-loop-position
invariant-loop-position g l = record {
  same : l.graph ≡ l.initial.graph;
  asked : l.steps ≤ l.initial.steps + l.position;
  capacity : length l.led.items ≡ length l.listed.nodes.items;
  led : (i : ℕ) → Has l.led.items i ↔ IsLedBefore l.initial.graph l.levels l.listed.nodes.items l.position i;
  wrong : IsFirstWrongIfAny l.initial.graph l.levels l.listed.nodes.items l.position l.wrong;
}
