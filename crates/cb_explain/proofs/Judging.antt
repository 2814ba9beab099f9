-- What the checks of levels come to.
use Rattle.std.proofs.Common.{◌≡◌, inl, inr, ℕ, ◌+◌, ◌<◌, ◌≤◌, max, List, [], ◌∷◌, length, get_or, refl, sym, ap, subst, ◌∙◌, None, Some, arith}
use Rattle.std.specs.Prelude.{slice_get}
use Rattle.std.specs.List.{All}
use Rattle.std.proofs.lemmas.List.Elements.{All-nil, All-cons}
use Rattle.std.proofs.lemmas.Bool.{cases_lt}
use Rattle.std.proofs.lemmas.Option.{same_Some, slice_get_within, slice_get-get_or}
use Rattle.cb_network.specs.Topology.{Topology}
use Rattle.cb_nodes.specs.declared.id.NodeId.{NodeId}
use Rattle.cb_topo.specs.Numbered.{Numbered, topology_of}
use Rattle.cb_levels.specs.declared.levels.LevelEntry.{LevelEntry}
use Rattle.cb_levels.specs.declared.levels.Levels.{Levels}
use Rattle.cb_levels.specs.declared.verdict.LevelFault.{LevelFault}
use Rattle.cb_levels.specs.Valid.{AreValidLevels}
use Rattle.cb_levels.specs.declared.verdict.LevelFault.TheVariants as why
use Rattle.cb_levels.specs.Checks.{parent_check, edge_check, new_check, level_check, checks_of_entry, LevelEntryIs, IsParentEarlier, HasEdgeFromParent, PassesCheck, FailsFirstOf, IsRejectedFor, TellsLevelFault}
use Rattle.cb_explain.specs.declared.listed.ListedNodes.{ListedNodes}
use Rattle.cb_explain.specs.declared.entries.EntryFault.{EntryFault}
use Rattle.cb_explain.specs.declared.entries.EntryFault.TheVariants as fault
use Rattle.cb_explain.specs.declared.survey.WrongSuccessor.{WrongSuccessor}
use Rattle.cb_explain.specs.declared.survey.Survey.{Survey}
use Rattle.cb_explain.specs.Checking.{AreGoodNodes, IsRootNumber, AreListedNodes, HaveParents, HasEntryFault, FaultOf, IsDeepest, AreMarkedLed, IsFirstNotLed}
use Rattle.cb_explain.specs.Surveyed.{IsLedBefore, IsFirstWrongOf, IsFirstWrongIfAny, IsSurvey, ReportsWrong, wrong_fault}
use Rattle.cb_explain.proofs.Listing.{first_listed}
use Rattle.cb_explain.proofs.Leading.{edge_of_led, led_of_edge}
use Rattle.cb_explain.proofs.Lacking.{successors_pass, lack_fails}
use Rattle.cb_explain.proofs.Rejecting.{fails_here, fails_next, entry_fails, successors_fail, all_pass}

-- what levels are rejected for is reported
pub rejected_tells : (t : Topology) (levels : Levels) (reported : LevelFault) → IsRejectedFor t levels reported → TellsLevelFault t levels reported
rejected_tells t levels (why.BadNode a) is = is
rejected_tells t levels (why.BadRoot a) is = is
rejected_tells t levels (why.BadParent a) is = is
rejected_tells t levels (why.NoEdge a) is = is
rejected_tells t levels (why.Repeated a) is = is
rejected_tells t levels (why.BadLevel a) is = is
rejected_tells t levels (why.NotClosed a b) is = is
rejected_tells t levels (why.NotShort a b) is = is
rejected_tells t levels why.NoMemory is = tt

-- an entry that isn't listed, with its fault
module _ (n : Numbered) (levels : Levels) (position : ℕ) where
  abbrev t : Topology
  t = topology_of n

  no_edge_fails : LevelEntryIs levels position (IsParentEarlier position) → ¬ LevelEntryIs levels position (HasEdgeFromParent t levels)
      → FailsFirstOf t levels (checks_of_entry position) (why.NoEdge (position + 1))
  no_edge_fails parent none =
      fails_next t levels (parent_check position) (edge_check position ∷ new_check position ∷ level_check position ∷ []) (why.NoEdge (position + 1)) parent
      (fails_here t levels (edge_check position) (new_check position ∷ level_check position ∷ []) (why.NoEdge (position + 1)) none refl)

  pub fault_fails : (wrong : EntryFault) (reported : LevelFault) → HasEntryFault n levels position wrong → FaultOf t levels position wrong reported
      → FailsFirstOf t levels (checks_of_entry position) reported
  fault_fails fault.Parent reported is same =
      subst (FailsFirstOf t levels (checks_of_entry position)) (sym same)
      (fails_here t levels (parent_check position) (edge_check position ∷ new_check position ∷ level_check position ∷ []) (why.BadParent (position + 1)) is refl)
  fault_fails fault.Node reported is same =
      subst (FailsFirstOf t levels (checks_of_entry position)) (sym same)
      (no_edge_fails is.0 (λ e. let has = e.2 in is.1 e.0 has.target (record { is = e.1; names = has.to_is })))
  fault_fails (fault.Repeated id) reported is either = elim either [
    | inl (edge, same) ↦
        subst (FailsFirstOf t levels (checks_of_entry position)) (sym same)
        (fails_next t levels (parent_check position) (edge_check position ∷ new_check position ∷ level_check position ∷ []) (why.Repeated (position + 1)) is.0
        (fails_next t levels (edge_check position) (new_check position ∷ level_check position ∷ []) (why.Repeated (position + 1)) edge
        (fails_here t levels (new_check position) (level_check position ∷ []) (why.Repeated (position + 1)) is.2 refl)))
    | inr (none, same) ↦ subst (FailsFirstOf t levels (checks_of_entry position)) (sym same) (no_edge_fails is.0 none)
  ]
  fault_fails (fault.Level id) reported is either = elim either [
    | inl (edge, same) ↦
        subst (FailsFirstOf t levels (checks_of_entry position)) (sym same)
        (fails_next t levels (parent_check position) (edge_check position ∷ new_check position ∷ level_check position ∷ []) (why.BadLevel (position + 1)) is.0
        (fails_next t levels (edge_check position) (new_check position ∷ level_check position ∷ []) (why.BadLevel (position + 1)) edge
        (fails_next t levels (new_check position) (level_check position ∷ []) (why.BadLevel (position + 1)) is.2
        (fails_here t levels (level_check position) [] (why.BadLevel (position + 1)) is.3 refl))))
    | inr (none, same) ↦ subst (FailsFirstOf t levels (checks_of_entry position)) (sym same) (no_edge_fails is.0 none)
  ]

-- entries that are listed
module _ (n : Numbered) (levels : Levels) (listed : ListedNodes) (are : AreListedNodes n levels listed)
    (have : HaveParents levels (length listed.nodes.items)) (position : ℕ) (later : 0 < position) (low : position < length listed.nodes.items) where
  pub entry_passes : IsLedBefore n levels listed.nodes.items (length listed.nodes.items) position → All (PassesCheck (topology_of n) levels) (checks_of_entry position)
  entry_passes led =
      let P = PassesCheck (topology_of n) levels in
      let both = have position later low in
      let edge = edge_of_led n levels listed are (length listed.nodes.items) position led in
      let new = first_listed n levels listed are position low in
      All-cons P (parent_check position) (edge_check position ∷ new_check position ∷ level_check position ∷ []) both.0
      (All-cons P (edge_check position) (new_check position ∷ level_check position ∷ []) edge
      (All-cons P (new_check position) (level_check position ∷ []) new (All-cons P (level_check position) [] both.1 (All-nil P))))

  pub not_led_fails : ¬ IsLedBefore n levels listed.nodes.items (length listed.nodes.items) position
      → FailsFirstOf (topology_of n) levels (checks_of_entry position) (why.NoEdge (position + 1))
  not_led_fails none =
      let absent : NodeId = record { 0 = 0 } in
      let to = slice_get-get_or listed.nodes.items position absent low in
      let both = have position later low in
      no_edge_fails n levels position both.0
      (λ edge. none (led_of_edge n levels listed are position (get_or listed.nodes.items position absent) to both.0 edge))

-- what is reported, by what was found
module _ (n : Numbered) (levels : Levels) (listed : ListedNodes) (are : AreListedNodes n levels listed) (have : HaveParents levels (length listed.nodes.items))
    (good : AreGoodNodes (topology_of n) levels.nodes (length levels.nodes)) (id : NodeId) (root : IsRootNumber n levels id) (survey : Survey)
    (found : IsSurvey n levels listed.nodes.items survey) where
  abbrev nodes : List NodeId
  nodes = listed.nodes.items

  passes_to : (to : ℕ) → to ≤ length nodes → AreMarkedLed survey.led.items to → (j : ℕ) → 0 < j → j < to → All (PassesCheck (topology_of n) levels) (checks_of_entry j)
  passes_to to within led j later low =
      entry_passes n levels listed are have j later (omega arith) ((found.led j).0 (led j later low))

  pub unled_rejected : (position : ℕ) → IsFirstNotLed survey.led.items position → IsRejectedFor (topology_of n) levels (why.NoEdge (position + 1))
  unled_rejected position first =
      let capacity = found.capacity in
      let within = are.within in
      let below = first.within in
      let low : position < length nodes = omega arith in
      entry_fails (topology_of n) levels good root.root root.begins position first.later (omega arith) (passes_to position (omega arith) first.before)
      (why.NoEdge (position + 1))
      (not_led_fails n levels listed are have position first.later low (λ led. first.lacks ((found.led position).1 led)))

  module _ (led : AreMarkedLed survey.led.items (length survey.led.items)) where
    all_pass_to : (j : ℕ) → 0 < j → j < length nodes → All (PassesCheck (topology_of n) levels) (checks_of_entry j)
    all_pass_to = let capacity = found.capacity in passes_to (length nodes) (omega arith) (subst (AreMarkedLed survey.led.items) capacity led)

    pub fault_rejected : 0 < length nodes → (wrong : EntryFault) → (length nodes < length levels.entries) × HasEntryFault n levels (length nodes) wrong
        → (reported : LevelFault) → FaultOf (topology_of n) levels (length nodes) wrong reported → IsRejectedFor (topology_of n) levels reported
    fault_rejected some wrong is reported told =
        entry_fails (topology_of n) levels good root.root root.begins (length nodes) some is.0 all_pass_to reported
        (fault_fails n levels (length nodes) wrong reported is.1 told)

    module _ (all : length levels.entries ≤ length nodes) where
      entries_pass : (j : ℕ) → 0 < j → j < length levels.entries → All (PassesCheck (topology_of n) levels) (checks_of_entry j)
      entries_pass j later low = all_pass_to j later (omega arith)

      pub lack_rejected : (lack : WrongSuccessor) → IsFirstWrongOf n levels nodes (length nodes) lack → (reported : LevelFault) → ReportsWrong n lack reported
          → IsRejectedFor (topology_of n) levels reported
      lack_rejected lack first reported told =
          let within = are.within in
          let low = first.low in
          subst (IsRejectedFor (topology_of n) levels) (sym told.is)
          (successors_fail (topology_of n) levels good root.root root.begins entries_pass lack.position (omega arith)
          (λ j less. successors_pass n levels listed are all j (omega arith) (first.before j less))
          (wrong_fault lack.fault (lack.position + 1) told.successor)
          (lack_fails n levels listed are all lack.position low first.id first.id_is first.entry first.entry_is lack.fault lack.successor told.successor told.named first.least))

      pub none_rejected : IsFirstWrongIfAny n levels nodes (length nodes) None → AreValidLevels (topology_of n) levels
      none_rejected none =
          all_pass (topology_of n) levels good root.root root.begins entries_pass
          (λ j low. successors_pass n levels listed are all j (omega arith) (none j (omega arith)))

-- the greatest level

-- so deep are the first entries
pub record IsDeepestTo (levels : Levels) (to deepest : ℕ) : Type 0 where
  pub start : to ≡ 0 → deepest ≡ 0
  pub most : (position : ℕ) (entry : LevelEntry) → position < to → slice_get levels.entries position ≡ Some entry → entry.level ≤ deepest
  pub attained : 0 < to → (position : ℕ) × (entry : LevelEntry) × (slice_get levels.entries position ≡ Some entry) × (entry.level ≡ deepest)

pub none_deep : (levels : Levels) → IsDeepestTo levels 0 0
none_deep levels = record { start = λ none. refl; most = λ position entry low at. absurd (omega arith); attained = λ some. absurd (omega arith) }

pub deepest_more : (levels : Levels) (to old new : ℕ) (entry : LevelEntry) → IsDeepestTo levels to old → slice_get levels.entries to ≡ Some entry
    → new ≡ max entry.level old → IsDeepestTo levels (to + 1) new
deepest_more levels to old new entry before at same = record {
  start = λ none. absurd (omega arith);
  most = λ position other low there. elim (cases_lt position to) [
    | inl earlier ↦ let most = before.most position other earlier there in omega arith
    | inr late ↦
        let last : position ≡ to = omega arith in
        let one : other ≡ entry = same_Some other entry (sym there ∙ (ap (slice_get levels.entries) last ∙ at)) in
        let e = ap (λ (x : LevelEntry). x.level) one in
        omega arith
  ];
  attained = λ some. elim (cases_lt entry.level old) [
    | inl less ↦ elim (cases_lt 0 to) [
      | inl more ↦ let there = before.attained more in (there.0, there.1, there.2, omega (arith, there.3))
      | inr first ↦ absurd (let e = before.start (omega arith) in omega arith)
    ]
    | inr high ↦ (to, entry, at, omega arith)
  ];
}

pub all_deep : (levels : Levels) (to deepest : ℕ) → length levels.entries ≤ to → 0 < length levels.entries → IsDeepestTo levels to deepest → IsDeepest levels deepest
all_deep levels to deepest end some are =
    let there = are.attained (omega arith) in
    record {
      position = there.0;
      entry = there.1;
      is = there.2;
      level = there.3;
      most = λ position entry at. are.most position entry (let low = slice_get_within levels.entries position entry at in omega arith) at;
    }
