-- Within the radius one group alone explains a window.
use Rattle.std.proofs.Common.{◌≡◌, ℕ, ◌<◌, ◌≤◌, [], ◌∷◌, length, sym, subst, inl, inr, IsTrue}
use Rattle.cb_model.specs.declared.wish.Wish.{Wish}
use Rattle.cb_model.specs.declared.wish.Wish.TheVariants.{Plain, Cap}
use Rattle.cb_coding.specs.Answers.{from_word}
use Rattle.cb_coding.specs.Books.{IsMetFor}
use Rattle.cb_coding.specs.Distance.{all_columns}
use Rattle.cb_coding.specs.Groups.{codes_of}
use Rattle.cb_coding.specs.Needs.{need_of}
use Rattle.cb_coding.specs.Pairs.{Good}
use Rattle.cb_coding.specs.Used.{IsRadius, AsksSomething}
use Rattle.cb_coding.proofs.BookLaws.{choice_is_good}
use Rattle.cb_coding.proofs.GroupLaws.{least_is_positive, one_is_good}
use Rattle.cb_finding.specs.Finding.{named_groups, word_of}
use Rattle.cb_network.specs.Topology.{Topology}
use Rattle.cb_finding.proofs.InUse.{finding_names_alone}
use Rattle.cb_finding.proofs.Nearest.{coded_are_wide}
use Rattle.cb_log.specs.declared.closed.Closed.{Closed}
use Rattle.cb_log.specs.declared.event.Event.{Event}
use Rattle.cb_log.specs.Basis.{Mode, wanted, Basis, IsDiagnosis}
use Rattle.cb_log.specs.Whole.{KeepsApart}
use Rattle.cb_log.proofs.Announcing.{good_or_close}
use Rattle.cb_log.proofs.ThinEvents.{close_is_not_good}

-- the groups of a topology differ
differ : (network : Topology) (mode : Mode) (basis : Basis network mode) → Good (codes_of basis.groups) (all_columns (length basis.columns)) 1
differ network mode basis =
    let matrix = basis.matrix in
    one_is_good (length basis.columns) matrix.problems basis.groups (coded_are_wide network basis.columns matrix.problems matrix.problems_are) matrix.groups_are

-- the number of the wish that is met isn't 0
met_asks : (network : Topology) (mode : Mode) (basis : Basis network mode) (wish used : Wish) → AsksSomething wish
    → IsMetFor (length basis.columns) (codes_of basis.groups) wish used → AsksSomething used
met_asks network mode basis (Cap cap) used some met = subst AsksSomething (sym met) some
met_asks network mode basis (Plain d) used some met =
    let columns = all_columns (length basis.columns) in
    let codes = codes_of basis.groups in
    elim (good_or_close columns codes d) [
      | inl good ↦ subst AsksSomething (sym (met.0 good)) some
      | inr (pair, close) ↦
          let least = met.1 (close_is_not_good columns codes d pair close) in
          let matrix = basis.matrix in
          subst AsksSomething (sym least.2)
          (least_is_positive (length basis.columns) matrix.problems basis.groups (coded_are_wide network basis.columns matrix.problems matrix.problems_are) matrix.groups_are least.0 least.1)
    ]

pub wanted_keeps_apart : (network : Topology) (wish : Wish) (basis : Basis network (wanted wish)) → AsksSomething wish → KeepsApart basis
wanted_keeps_apart network wish basis some =
    let width = length basis.columns in
    let codes = codes_of basis.groups in
    record {
      good = choice_is_good width codes (need_of width codes basis.used) basis.kept basis.in_use.choice;
      some = met_asks network (wanted wish) basis wish basis.used some basis.in_use.met;
    }

pub named_alone : (network : Topology) (mode : Mode) (basis : Basis network mode) (c : Closed) (event : Event) (d : IsDiagnosis basis c event) (i r : ℕ)
    → KeepsApart basis → i < length basis.groups → IsRadius (length basis.columns) (codes_of basis.groups) basis.used i r
    → from_word basis.kept (codes_of basis.groups) (word_of basis.columns c.nodes) i ≤ r
    → (d.finding.groups ≡ named_groups basis.groups (i ∷ [])) × IsTrue d.finding.sure
named_alone network mode basis c event d i r apart lt own near =
    finding_names_alone basis.columns basis.groups basis.kept basis.used c.nodes apart.good (differ network mode basis) apart.some i r d.finding lt own near d.found
