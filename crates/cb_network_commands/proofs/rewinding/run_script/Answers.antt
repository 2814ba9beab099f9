use Rattle.std.proofs.Common.{◌≡◌, ◌∙◌, ◌+◌, ℕ, List, [], ◌∷◌, ◌++◌, refl, sym, ap, subst, take, rules}
use Rattle.std.proofs.lemmas.List.{take_more}
use Rattle.std.proofs.lemmas.List.Elements.{All-get_or}
use Rattle.cb_history.specs.declared.script.ScriptLine.{ScriptLine}
use Rattle.cb_line_files.specs.Scripts.{HasGoodMove}
use Rattle.cb_topo.specs.Numbered.{topology_of}
use Rattle.cb_network_commands.specs.Rewinding.{RunsOn}
use Rattle.cb_network_commands.proofs.Moving.{runs_none, runs_more}
use Rattle.cb_network_commands.proofs.rewinding.run_script.Goals as goal

pub loop-line-init : goal.loop-line-init
loop-line-init g c =
    let old = c.args.history.now in
    let empty : c.new-reports.result.items ≡ [] = search rules in
    record {
      depth = refl;
      steps = refl;
      runs = λ h stands. subst (λ (text : List ℕ). RunsOn old.depth h [] [] text (topology_of old.network) old.records) (sym empty) (runs_none old.depth h [] (topology_of old.network) old.records stands);
    }

pub run_line-requires : goal.run_line-requires
run_line-requires g c =
    subst (λ (l : ScriptLine). HasGoodMove l.what) (sym c.line-item.is)
    (All-get_or (λ (l : ScriptLine). HasGoodMove l.what) c.args.script.now c.loop-line.line-index _ c.loop-line-test.true c.requires)

pub loop-line-preserved : goal.loop-line-preserved
loop-line-preserved g c =
    let script = c.args.script.now in
    let i = c.loop-line.line-index in
    let line = c.line-item.result in
    let depth = c.args.history.now.depth in
    let same = c.loop-line.invariant.depth in
    let done : take i script ++ line ∷ [] ≡ take (i + 1) script =
    ap (λ (l : ScriptLine). take i script ++ l ∷ []) c.line-item.is ∙ sym (take_more script i _ c.loop-line-test.true) in
    record {
      depth = c.in_ok-run_line.ensures.depth ∙ same;
      steps = c.in_ok-run_line.ensures.steps ∙ c.loop-line.invariant.steps;
      runs = λ h stands.
          let ran = c.loop-line.invariant.runs h stands in
          let next = subst (λ (d : ℕ). RunsOn d ran.last (line ∷ []) c.loop-line.reports.items c.run_line.new.reports.items (topology_of c.run_line.new.history.network) c.run_line.new.history.records) same
          (c.in_ok-run_line.ensures.runs ran.last ran.stands) in
          subst (λ (lines : List ScriptLine). RunsOn depth h lines [] c.run_line.new.reports.items (topology_of c.run_line.new.history.network) c.run_line.new.history.records) done
          (runs_more depth h (take i script) (line ∷ []) [] c.loop-line.reports.items c.run_line.new.reports.items (topology_of c.loop-line.history.network) (topology_of c.run_line.new.history.network)
          c.loop-line.history.records c.run_line.new.history.records ran next);
    }
