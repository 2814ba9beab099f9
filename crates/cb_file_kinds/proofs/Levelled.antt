-- What judging the text of levels shows.
use Rattle.std.proofs.Common.{◌≡◌, ◌⊎◌, ◌≤◌, ℕ, List, length, refl, sym, subst, inl, inr}
use Rattle.cb_text.specs.Lines.{HasShortLines, IsFirstLong}
use Rattle.cb_model.specs.declared.node.NodeName.{NodeName}
use Rattle.cb_network.specs.Topology.{Topology}
use Rattle.cb_levels.specs.declared.fault.LevelText.{LevelText}
use Rattle.cb_levels.specs.declared.fault.LevelText.TheVariants as texts
use Rattle.cb_levels.specs.declared.levels.Levels.{Levels}
use Rattle.cb_levels.specs.declared.verdict.LevelFault.{LevelFault}
use Rattle.cb_levels.specs.declared.verdict.LevelFault.TheVariants as level_faults
use Rattle.cb_levels.specs.declared.verdict.Proved.{Proved}
use Rattle.cb_levels.specs.Checks.{TellsLevelFault, ShowsReach}
use Rattle.cb_levels.specs.Faults.{IsLevelFault}
use Rattle.cb_levels.specs.Format.{SpellsLevels}
use Rattle.cb_levels.specs.Valid.{AreLevelsOf, AreValidLevels}
use Rattle.cb_outcome.specs.Roles.{Role, byte_limit}
use Rattle.cb_outcome.proofs.ChainsOne.{root_is_one}
use Rattle.cb_report.specs.declared.fault.Fault.{Fault}
use Rattle.cb_report.specs.declared.fault.Fault.TheVariants as faults
use Rattle.cb_report.specs.FaultSources.{fault_of_level_text, fault_of_levels}
use Rattle.cb_outcome.specs.Judged.{File, Known, network, levelled, Says, IsLevelRejection, AreLevelsFaulty, RefusesFile}
use Rattle.cb_file_kinds.specs.Kinds.{file_in_role, IsWant, SaysAfter, StopsJudging, AreProved}

-- why levels are rejected, as a fault
pub level_rejection : (t : Topology) (levels : Levels) (why : LevelFault) → TellsLevelFault t levels why
    → IsWant (fault_of_levels why) ⊎ IsLevelRejection t levels (fault_of_levels why)
level_rejection t levels level_faults.NoMemory tells = inl refl
level_rejection t levels (level_faults.BadNode place) tells = inr (record { why = level_faults.BadNode place; fails = tells; is = refl })
level_rejection t levels (level_faults.BadRoot entry) tells = inr (record { why = level_faults.BadRoot entry; fails = tells; is = refl })
level_rejection t levels (level_faults.BadParent entry) tells = inr (record { why = level_faults.BadParent entry; fails = tells; is = refl })
level_rejection t levels (level_faults.NoEdge entry) tells = inr (record { why = level_faults.NoEdge entry; fails = tells; is = refl })
level_rejection t levels (level_faults.Repeated entry) tells = inr (record { why = level_faults.Repeated entry; fails = tells; is = refl })
level_rejection t levels (level_faults.BadLevel entry) tells = inr (record { why = level_faults.BadLevel entry; fails = tells; is = refl })
level_rejection t levels (level_faults.NotClosed entry successor) tells =
    inr (record { why = level_faults.NotClosed entry successor; fails = tells; is = refl })
level_rejection t levels (level_faults.NotShort entry successor) tells =
    inr (record { why = level_faults.NotShort entry successor; fails = tells; is = refl })

-- valid levels are those of the root that they show
pub proved_of : (t : Topology) (levels : Levels) (proved : Proved) → AreValidLevels t levels → ShowsReach t levels proved → AreProved t levels proved
proved_of t levels proved (root, valid) shows = record {
  valid = subst (λ (p : NodeName). AreLevelsOf t p levels) (root_is_one t levels root proved.root valid.begins shows.root) valid;
  shows = shows;
}

-- levels, after a topology
module _ (name text : List ℕ) (short : length text ≤ byte_limit Role.levels) (t : Topology) where
  abbrev Network : Known → Type 0
  Network known = known ≡ network t

  abbrev TextFile : File
  TextFile = file_in_role Role.levels name text

  refuses : (fault : Fault) → RefusesFile (network t) TextFile fault → StopsJudging Network TextFile fault
  refuses fault r = inr (λ known is. subst (λ (k : Known). RefusesFile k TextFile fault) (sym is) r)

  pub levels_long : (line : ℕ) → IsFirstLong text line → StopsJudging Network TextFile (faults.LimitLine name line)
  levels_long line first = refuses (faults.LimitLine name line) (inr (inl (record { bytes = short; limited = tt; line = line; first = first; is = refl })))

  module _ (lines : HasShortLines text) where
    faulty : (fault : Fault) → AreLevelsFaulty t text fault → StopsJudging Network TextFile fault
    faulty fault has = refuses fault (inr (inr (record { short = record { bytes = short; lines = λ limited. lines }; has = has })))

    pub levels_bad : (why : LevelText) → (why ≡ texts.NoMemory) ⊎ IsLevelFault text why → StopsJudging Network TextFile (fault_of_level_text why)
    levels_bad why (inl want) = inl (rw want refl)
    levels_bad why (inr is) = faulty (fault_of_level_text why) (inl (record { why = why; has = is; is = refl }))

    pub levels_refused : (levels : Levels) → SpellsLevels text levels → (fault : Fault) → IsWant fault ⊎ IsLevelRejection t levels fault
        → StopsJudging Network TextFile fault
    levels_refused levels spelled fault (inl want) = inl want
    levels_refused levels spelled fault (inr r) = faulty fault (inr (levels, spelled, r))

    pub levels_say : (levels : Levels) (proved : Proved) → SpellsLevels text levels → AreProved t levels proved → (After : Known → Type 0) → After (levelled t levels)
        → SaysAfter Network After TextFile
    levels_say levels proved spelled is After after known before =
        let says : Says (network t) TextFile (levelled t levels) = record {
          short = record { bytes = short; lines = λ limited. lines };
          means = (levels, record { spelled = spelled; valid = (proved.root, is.valid) }, refl);
        } in
        (levelled t levels, after, subst (λ (k : Known). Says k TextFile (levelled t levels)) (sym before) says)
