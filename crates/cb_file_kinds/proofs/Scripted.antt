-- What judging the text of a script shows.
use Rattle.std.proofs.Common.{◌≡◌, ◌≤◌, ℕ, List, length, refl, sym, subst, inl, inr}
use Rattle.cb_network.specs.Topology.{Topology}
use Rattle.cb_history.specs.declared.script.ScriptLine.{ScriptLine}
use Rattle.cb_line_files.specs.declared.script.ScriptStop.{ScriptStop}
use Rattle.cb_line_files.specs.declared.script.ScriptStop.TheVariants as script
use Rattle.cb_line_files.specs.Scripts.{ReadsScript, HaveGoodNames, StopsScript}
use Rattle.cb_outcome.specs.Roles.{Role, byte_limit}
use Rattle.cb_report.specs.declared.fault.Fault.TheVariants as faults
use Rattle.cb_outcome.specs.Judged.{Known, network, scripted, Says, RefusesFile}
use Rattle.cb_file_kinds.specs.Kinds.{file_in_role, SaysAfter, StopsJudging}
use Rattle.cb_file_kinds.specs.Faults.{fault_of_script}

module _ (name text : List ℕ) (short : length text ≤ byte_limit Role.script) (t : Topology) where
  abbrev Network : Known → Type 0
  Network known = known ≡ network t

  pub script_says : (moves : List ScriptLine) → ReadsScript text moves → HaveGoodNames moves
      → SaysAfter Network (λ known. (known ≡ scripted t moves) × HaveGoodNames moves) (file_in_role Role.script name text)
  script_says moves reads good known is =
      let says : Says (network t) (file_in_role Role.script name text) (scripted t moves) = record {
        short = record { bytes = short; lines = λ limited. reads.short };
        means = (moves, reads, refl);
      } in
      (scripted t moves, (refl, good), subst (λ (k : Known). Says k (file_in_role Role.script name text) (scripted t moves)) (sym is) says)

  pub script_stops : (stop : ScriptStop) → StopsScript text stop → StopsJudging Network (file_in_role Role.script name text) (fault_of_script name stop)
  script_stops (script.LongLine line) first = inr (λ known is.
      subst (λ (k : Known). RefusesFile k (file_in_role Role.script name text) (faults.LimitLine name line)) (sym is)
      (inr (inl (record { bytes = short; limited = tt; line = line; first = first; is = refl }))))
  script_stops (script.BadWords line) first = inr (λ known is.
      subst (λ (k : Known). RefusesFile k (file_in_role Role.script name text) (faults.ScriptWords line)) (sym is)
      (inr (inr (record { short = record { bytes = short; lines = λ limited. first.short }; has = first }))))
  script_stops script.NoMemory first = inl refl
