-- Codebooks by which logs are followed keep the groups of a topology apart.
use Rattle.std.proofs.Common.{◌≡◌, ◌∙◌, ℕ, List, length, sym, subst}
use Rattle.cb_model.specs.declared.node.NodeName.{NodeName}
use Rattle.cb_model.specs.declared.wish.Wish.{Wish}
use Rattle.cb_model.specs.declared.wish.Wish.TheVariants.{Plain, Cap}
use Rattle.cb_coding.specs.declared.group.Group.{Group}
use Rattle.cb_coding.specs.Groups.{codes_of}
use Rattle.cb_coding.specs.Needs.{need_of}
use Rattle.cb_coding.specs.Pairs.{GoodFor}
use Rattle.cb_coding.specs.Used.{AsksSomething}
use Rattle.cb_network.specs.Topology.{Topology}
use Rattle.cb_network.proofs.One.{columns_are_one}
use Rattle.cb_finding.proofs.One.{matrix_is_one}
use Rattle.cb_cert.specs.declared.certificate.Certificate.{Certificate}
use Rattle.cb_cert.specs.declared.certificate.Certificate.TheVariants.{Book as BookClaim, Capped as CapClaim, Thin as ThinClaim}
use Rattle.cb_cert.specs.declared.certificate.Span.{Span}
use Rattle.cb_cert.specs.Format.{IsCertificate}
use Rattle.cb_validity.specs.Reading.{ArePlaces}
use Rattle.cb_validity.specs.Valid.{IsValid, IsValidBook}
use Rattle.cb_validity.proofs.Firsts.{places_found_once}
use Rattle.cb_validity.proofs.Formats.{format_is_checkable}
use Rattle.cb_validity.proofs.Matrices.{spans_make_matrix}
use Rattle.cb_log.specs.declared.record.Record.{Record}
use Rattle.cb_log.specs.Basis.{Mode, wanted, fixed, Basis}
use Rattle.cb_log.specs.Events.{IsNetwork}
use Rattle.cb_log.specs.Whole.{KeepsApart}
use Rattle.cb_log.proofs.Alone.{wanted_keeps_apart}
use Rattle.cb_outcome.specs.Roles.{Wanted, Role}
use Rattle.cb_outcome.specs.Judged.{Known, nothing, parsed, network, raised, certified, levelled, scripted, Means}
use Rattle.cb_outcome.specs.LogJobs.{States, StatesColumns}

-- over any codebook by which a log is followed the groups are far enough apart
abbrev pub AllApart : Topology → Mode → Type 0
AllApart t mode = (records : List Record) (network : Topology) → IsNetwork t mode records network → (basis : Basis network mode) → KeepsApart basis

-- so they are over those for a wish
pub wanted_apart : (t : Topology) (mode : Mode) (wish : Wish) → mode ≡ wanted wish → AsksSomething wish → AllApart t mode
wanted_apart t mode wish is some = subst (AllApart t) (sym is) (λ records network now basis. wanted_keeps_apart network wish basis some)

-- and over a fixed one, where they are so by it
pub fixed_apart : (t : Topology) (mode : Mode) (kept : List ℕ) (used : Wish) → mode ≡ fixed kept used
    → ((basis : Basis t (fixed kept used)) → KeepsApart basis) → AllApart t mode
fixed_apart t mode kept used is apart =
    subst (AllApart t) (sym is) (λ records network same. subst (λ (u : Topology). (basis : Basis u (fixed kept used)) → KeepsApart basis) (sym same) apart)

-- over the columns that a certificate states the groups are as far apart as it says
module _ (t : Topology) (wish : Wish) (nodes : List NodeName) (numbers kept : List ℕ) (used : Wish) (spans : List Span)
    (valid : IsValidBook t wish nodes numbers spans) (stated : StatesColumns t nodes numbers kept) (meets : used ≡ wish) (some : AsksSomething wish) where
  abbrev IsGoodOver : List NodeName → List Group → List ℕ → Wish → Type 0
  IsGoodOver columns groups places u = GoodFor (codes_of groups) places (need_of (length columns) (codes_of groups) u)

  pub stated_keeps_apart : (basis : Basis t (fixed kept used)) → KeepsApart basis
  stated_keeps_apart basis =
      let apart = valid.apart in
      let made = (spans_make_matrix t nodes spans apart.columns apart.groups valid.spans_are).0 apart.made in
      let same = matrix_is_one t apart.columns basis.columns apart.groups basis.groups made basis.matrix in
      let columns = columns_are_one t apart.columns stated.columns apart.made.columns_are stated.columns_are in
      let over : ArePlaces nodes stated.columns numbers apart.places =
      subst (λ (cs : List NodeName). ArePlaces nodes cs numbers apart.places) columns apart.places_are in
      let there = places_found_once nodes stated.columns stated.columns_are.rise numbers apart.places kept over stated.places in
      let by_columns : IsGoodOver basis.columns apart.groups apart.places wish = subst (λ (cs : List NodeName). IsGoodOver cs apart.groups apart.places wish) same.0 apart.good in
      let by_groups : IsGoodOver basis.columns basis.groups apart.places wish = subst (λ (gs : List Group). IsGoodOver basis.columns gs apart.places wish) same.1 by_columns in
      let over_kept : IsGoodOver basis.columns basis.groups basis.kept wish =
      subst (λ (ps : List ℕ). IsGoodOver basis.columns basis.groups ps wish) (there ∙ sym basis.in_use.0) by_groups in
      let is : basis.used ≡ wish = basis.in_use.1 ∙ meets in
      record {
        good = subst (λ (u : Wish). IsGoodOver basis.columns basis.groups basis.kept u) (sym is) over_kept;
        some = subst AsksSomething (sym is) some;
      }

pub given_keeps_apart : (t : Topology) (c : Certificate) (kept : List ℕ) (used : Wish) → IsValid t c → IsCertificate c → States t c kept used
    → (basis : Basis t (fixed kept used)) → KeepsApart basis
given_keeps_apart t (ThinClaim close distance nodes first second) kept used valid of_format states basis = absurd states
given_keeps_apart t (BookClaim distance nodes numbers spans) kept used valid of_format (stated, meets) basis =
    let some = (format_is_checkable (BookClaim distance nodes numbers spans) of_format).0 in
    stated_keeps_apart t (Plain distance) nodes numbers kept used spans valid stated meets some basis
given_keeps_apart t (CapClaim cap nodes numbers radii spans) kept used valid of_format (stated, meets) basis =
    let some = (format_is_checkable (CapClaim cap nodes numbers radii spans) of_format).0 in
    stated_keeps_apart t (Cap cap) nodes numbers kept used spans valid.book stated meets some basis

-- a certificate that is known from the file of a codebook is valid and of the format
pub known_is_valid : (known : Known) (text : List ℕ) (next : Known) (t : Topology) (c : Certificate) → Means (Role.certificate Wanted.book) known text next → next ≡ certified t c
    → IsValid t c × IsCertificate c
known_is_valid nothing text next t c means e = absurd means
known_is_valid (parsed tree) text next t c means e = absurd means
known_is_valid (raised u nodes) text next t c means e = absurd means
known_is_valid (certified u d) text next t c means e = absurd means
known_is_valid (levelled u ls) text next t c means e = absurd means
known_is_valid (scripted u script) text next t c means e = absurd means
known_is_valid (network u) text next t c (d, is, kind, next_is) e =
    let same : u ≡ t = cc in
    let one : d ≡ c = cc in
    (subst (λ (x : Topology). IsValid x c) same (subst (IsValid u) one is.valid), subst IsCertificate one is.spelled.is)
