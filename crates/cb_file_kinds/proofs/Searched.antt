-- What the files of a network say is one, and what it costs to search from its problems.
use Rattle.std.proofs.Common.{◌≡◌, ◌∙◌, ◌≤◌, ◌+◌, ℕ, List, [], ◌∷◌, sym, subst, arith}
use Rattle.cb_change.specs.Costs.{IsOpenCost}
use Rattle.cb_io.specs.Outside.{FilesReport}
use Rattle.cb_network.specs.Topology.{Topology}
use Rattle.cb_outcome.specs.Contents.{Reads, files_before}
use Rattle.cb_outcome.specs.Judged.{File, Known, nothing, network, PassFrom}
use Rattle.cb_outcome.specs.Reading.{WhereReported}
use Rattle.cb_outcome.specs.Costs.{CountsSearch}
use Rattle.cb_outcome.proofs.Once.{IsSound, says_sound, says_one}
use Rattle.cb_file_kinds.proofs.Chain.{if_some, of_all}

pub same_network : (u v : Topology) → network u ≡ network v → u ≡ v
same_network u v e = cc

-- files pass in one way
pub pass_is_one : (known : Known) (files : List File) (a b : Known) → IsSound known → PassFrom known files a → PassFrom known files b → a ≡ b
pass_is_one known [] a b sound p q = sym p ∙ q
pass_is_one known (file ∷ files) a b sound (next, says, pass) (other, says', pass') =
    let same : other ≡ next = says_one known sound file other next says' says in
    pass_is_one next files a b (says_sound known file next sound says) pass (subst (λ (k : Known). PassFrom k files b) same pass')

module _ (reads : Reads) (files : FilesReport) where
  -- no step is counted
  pub search_none : (steps steps' : ℕ) → steps' ≡ steps → WhereReported files (λ left. CountsSearch left reads steps steps')
  search_none steps steps' same = of_all files.left _ (λ left. record { most = λ t passed searched is. omega (arith, same); none = λ not. same })

  -- the topology was searched
  pub search_counts : (t : Topology) (steps steps' : ℕ) → WhereReported files (λ left. PassFrom nothing (files_before 2 left reads) (network t))
      → ((cost : ℕ) → IsOpenCost t cost → steps' ≤ steps + cost) → WhereReported files (λ left. CountsSearch left reads steps steps')
  search_counts t steps steps' passed opened = if_some files.left _ _ (λ left here. record {
    most = λ u there searched is.
        let same : network u ≡ network t = pass_is_one nothing (files_before 2 left reads) (network u) (network t) tt there here in
        opened searched (subst (λ (v : Topology). IsOpenCost v searched) (same_network u t same) is);
    none = λ not. absurd (not t here);
  }) passed
