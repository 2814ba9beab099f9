-- How many steps `rewind` counts, by what its files say.
use Rattle.std.proofs.Common.{◌≡◌, ◌∙◌, ◌≤◌, ◌+◌, ℕ, List, map, sym, ap, subst, arith}
use Rattle.cb_change.specs.Costs.{IsOpenCost}
use Rattle.cb_history.specs.Histories.{History, new_history}
use Rattle.cb_history.specs.declared.script.ScriptLine.{ScriptLine}
use Rattle.cb_history.proofs.Moved.{moves_are_one}
use Rattle.cb_history.proofs.Rewound.{rewind_moves}
use Rattle.cb_io.specs.Outside.{FilesReport}
use Rattle.cb_model.proofs.Rising.{nothing_in_empty}
use Rattle.cb_network.specs.Regular.{IsRegular}
use Rattle.cb_network.specs.Topology.{Topology}
use Rattle.cb_outcome.specs.Contents.{Reads, files_from}
use Rattle.cb_outcome.specs.Costs.{IsRewindCost, CountsRewind}
use Rattle.cb_outcome.specs.Judged.{nothing, scripted, PassFrom}
use Rattle.cb_outcome.specs.Reading.{WhereReported}
use Rattle.cb_file_kinds.proofs.Chain.{if_some, of_all}
use Rattle.cb_file_kinds.proofs.Searched.{pass_is_one}
use Rattle.cb_network_commands.specs.Rewinding.{IsRewound}

-- the topology that is searched is the one that the script leaves
pub counts_last : (t u : Topology) (script : List ScriptLine) (depth : ℕ) (text : List ℕ) (steps mid steps' : ℕ) → IsRegular t.model
    → IsRewound depth (new_history t) script text u → mid ≡ steps → ((cost : ℕ) → IsOpenCost u cost → steps' ≤ mid + cost)
    → (cost : ℕ) → IsRewindCost t script depth cost → steps' ≤ steps + cost
counts_last t u script depth text steps mid steps' regular made none few cost is =
    let same : is.last ≡ made.last = moves_are_one depth (new_history t) (map (λ (line : ScriptLine). line.what) script) is.last made.last regular
    (λ v no. absurd (nothing_in_empty v no)) is.leads (rewind_moves depth (new_history t) script made.reports made.last made.rewinds) in
    let here : u ≡ is.last.now = made.now ∙ ap (λ (h : History). h.now) (sym same) in
    let searched = few cost (subst (λ (v : Topology). IsOpenCost v cost) (sym here) is.searched) in
    omega (arith, none, searched)

same_scripted : (t u : Topology) (script other : List ScriptLine) → scripted t script ≡ scripted u other → (t ≡ u) × (script ≡ other)
same_scripted t u script other e = (cc, cc)

module _ (reads : Reads) (files : FilesReport) (depth : ℕ) where
  -- no step is counted
  pub rewind_none : (steps steps' : ℕ) → steps' ≡ steps → WhereReported files (λ left. CountsRewind left reads depth steps steps')
  rewind_none steps steps' same =
      of_all files.left _ (λ left. record { most = λ t script passed cost is. omega (arith, same); none = λ not. same })

  -- the last topology was searched
  pub rewind_counts : (t : Topology) (script : List ScriptLine) (steps steps' : ℕ)
      → WhereReported files (λ left. PassFrom nothing (files_from left reads) (scripted t script))
      → ((cost : ℕ) → IsRewindCost t script depth cost → steps' ≤ steps + cost) → WhereReported files (λ left. CountsRewind left reads depth steps steps')
  rewind_counts t script steps steps' passed few = if_some files.left _ _ (λ left here. record {
    most = λ u other there cost is.
        let (topology, lines) = same_scripted u t other script (pass_is_one nothing (files_from left reads) (scripted u other) (scripted t script) tt there here) in
        few cost (subst (λ (v : Topology). IsRewindCost v script depth cost) topology (subst (λ (ls : List ScriptLine). IsRewindCost u ls depth cost) lines is));
    none = λ not. absurd (not t script here);
  }) passed
