-- Entries after the first one, by what they state.
use Rattle.std.proofs.Common.{◌≡◌, inl, inr, ℕ, ◌+◌, ◌-◌, ◌<◌, ◌≤◌, List, Bool, [], ◌∷◌, ◌++◌, length, sym, subst, Option, arith}
use Rattle.std.specs.Prelude.{Ok, Err}
use Rattle.std.specs.List.{All, Contains}
use Rattle.std.proofs.lemmas.Bool.{cases_lt}
use Rattle.std.proofs.lemmas.List.Elements.{Contains-push_cases}
use Rattle.cb_model.specs.declared.node.NodeName.{NodeName}
use Rattle.cb_cert.specs.declared.certificate.Certificate.{Certificate}
use Rattle.cb_cert.specs.declared.certificate.Span.{Span}
use Rattle.cb_validity.specs.declared.verdict.Rejected.TheVariants.{NoEdge, Repeated}
use Rattle.cb_validity.specs.Checks.{Passes, Judges, entry_checks}
use Rattle.cb_nodes.specs.declared.id.NodeId.{NodeId}
use Rattle.cb_successors.specs.Rows.{Has}
use Rattle.cb_topo.specs.Numbered.{Numbered, topology_of}
use Rattle.cb_checker.specs.declared.reasons.Reason.{Reason}
use Rattle.cb_checker.specs.Known.{AreLive, IsKnown}
use Rattle.cb_checker.specs.Listed.{IsPlaced, ArePlaced, AreListed}
use Rattle.cb_checker.specs.Reasons.{IsStated, AreStated, AreLiveEdges, IsLed, IsLedAt, JudgesEntryIfLed, JudgesIfUnled}
use Rattle.cb_checker.specs.Spans.{asked}
use Rattle.cb_checker.proofs.Joined.{range_fails}
use Rattle.cb_checker.proofs.Naming.{live_at}
use Rattle.cb_checker.proofs.Placing.{live_placed}
use Rattle.cb_checker.proofs.Entering.{not_led, repeated, good_entry}

-- the node of an entry that states something is placed there
pub stated_placed : (ids : List NodeId) (span : Span) (reason : Reason) → IsStated ids span reason → IsPlaced ids span reason.place reason.to
stated_placed ids span reason is = record { entry = is.entry; is = is.is; at = is.to }

-- the checks of an entry that states something
module _ (n : Numbered) (ids : List NodeId) (c : Certificate) (known : IsKnown n ids c) (before : ℕ) (root : Option NodeName) (span : Span)
    (reason : Reason) (is : IsStated ids span reason) where
  pub unled_fails : ¬ IsLed n reason → Judges (topology_of n) c (entry_checks (asked before root span) reason.place) (Err (NoEdge (before + reason.place + 1)))
  unled_fails = not_led n ids c known before root span reason.place is.entry is.is is.earlier.0 is.earlier.1 reason.from is.from reason.to is.to

  module _ (led : IsLed n reason) (listed : List Bool) (placed : List NodeId) (are : ArePlaced ids span reason.place placed) (each : AreListed listed placed) where
    pub listed_fails : Has listed reason.to.0 → Judges (topology_of n) c (entry_checks (asked before root span) reason.place) (Err (Repeated (before + reason.place + 1)))
    listed_fails = repeated n ids c known before root span reason.place is.entry is.is is.earlier.0 is.earlier.1 reason.from is.from reason.to is.to led
        listed placed are each

    pub new_passes : ¬ Has listed reason.to.0 → All (Passes (topology_of n) c) (entry_checks (asked before root span) reason.place)
    new_passes = good_entry n ids c known before root span reason.place is.entry is.is is.earlier.0 is.earlier.1 reason.from is.from reason.to is.to led
        listed placed are each

pub none_stated : (ids : List NodeId) (span : Span) (to : ℕ) → AreStated ids span to []
none_stated ids span to = λ reason in'. absurd (let low = in'.1 in omega arith)

pub stated_upto : (ids : List NodeId) (span : Span) (to more : ℕ) (reasons : List Reason) → to ≤ more → AreStated ids span to reasons → AreStated ids span more reasons
stated_upto ids span to more reasons within are = λ reason in'. (let low = (are reason in').0 in omega arith, (are reason in').1)

pub stated_more : (ids : List NodeId) (span : Span) (place : ℕ) (reasons : List Reason) (reason : Reason) → AreStated ids span place reasons → reason.place ≡ place
    → IsStated ids span reason → AreStated ids span (place + 1) (reasons ++ (reason ∷ []))
stated_more ids span place reasons reason are at is = λ other in'. elim (Contains-push_cases reasons reason other in') [
  | inl before ↦ (let low = (are other before).0 in omega arith, (are other before).1)
  | inr same ↦
      let here : (reason.place < place + 1) × IsStated ids span reason = (omega arith, is) in
      subst (λ (r : Reason). (r.place < place + 1) × IsStated ids span r) same here
]

-- what is stated of live nodes
pub stated_live : (n : Numbered) (ids : List NodeId) (span : Span) (to : ℕ) (reasons : List Reason) → AreLive n ids → AreStated ids span to reasons → AreLiveEdges n reasons
stated_live n ids span to reasons live are = λ reason in'.
    let is = (are reason in').1 in
    (live_placed n ids live span (is.entry.parent - 1) reason.from is.from, live_at n ids live is.entry.node reason.to is.to)

-- the entries after the first one, below a place, pass their checks where their edges are there
abbrev pub PassIfLed : List NodeId → ℕ → Span → List Reason → ℕ → Type 0
PassIfLed ids before span reasons to = (n : Numbered) (c : Certificate) (root : Option NodeName) → IsKnown n ids c → (j : ℕ) → 1 ≤ j → j < to → IsLedAt n reasons j
    → All (Passes (topology_of n) c) (entry_checks (asked before root span) j)

pub kept_pass : (ids : List NodeId) (before : ℕ) (span : Span) (old new : List Reason) (to : ℕ) → ((reason : Reason) → Contains old reason → Contains new reason)
    → PassIfLed ids before span old to → PassIfLed ids before span new to
kept_pass ids before span old new to keeps pass = λ n c root known j least low led.
    pass n c root known j least low (λ reason in' at. led reason (keeps reason in') at)

pub pass_more : (ids : List NodeId) (before : ℕ) (span : Span) (reasons : List Reason) (to : ℕ) → PassIfLed ids before span reasons to
    → JudgesEntryIfLed ids before span to reasons (Ok tt) → PassIfLed ids before span reasons (to + 1)
pass_more ids before span reasons to pass here = λ n c root known j least low led. elim (cases_lt j to) [
  | inl less ↦ pass n c root known j least less led
  | inr le ↦
      let same : j ≡ to = omega arith in
      subst (λ k. All (Passes (topology_of n) c) (entry_checks (asked before root span) k)) (sym same)
      (here n (subst (IsLedAt n reasons) same led) c root known)
]

-- the first of them whose edge isn't there is the first that fails
pub unled_reported : (ids : List NodeId) (before : ℕ) (span : Span) (reasons : List Reason) (to upto : ℕ) → AreStated ids span to reasons
    → PassIfLed ids before span reasons upto → to ≤ upto + 1 → to ≤ length span.entries → JudgesIfUnled ids before span reasons
unled_reported ids before span reasons to upto are pass within most = λ n place first c root known.
    let reason = first.reason in
    let is = (are reason first.is).1 in
    let low = (are reason first.is).0 in
    let at = first.at in
    let some = is.earlier.0 in
    let earlier = is.earlier.1 in
    let checks = entry_checks (asked before root span) in
    range_fails (topology_of n) c checks 1 (length span.entries - 1) place (omega arith) (omega arith)
    (λ j least less. pass n c root known j least (omega arith)
    (λ other in' there. first.before other in' (omega arith)))
    (NoEdge (before + place + 1))
    (subst (λ k. Judges (topology_of n) c (checks k) (Err (NoEdge (before + k + 1)))) at (unled_fails n ids c known before root span reason is first.lacks))
