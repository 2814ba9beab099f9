-- How many steps the commands on chains of causes count, by what their files say.
use Rattle.std.proofs.Common.{◌≡◌, ◌≤◌, ◌+◌, ℕ, List, [], ◌∷◌, length, refl, ap, subst, arith, Ok}
use Rattle.std.specs.Prelude.{IfSome}
use Rattle.cb_io.specs.Outside.{FilesReport, contents, left_of, ReadsAll}
use Rattle.cb_model.specs.declared.node.NodeName.{NodeName}
use Rattle.cb_network.specs.Topology.{Topology}
use Rattle.cb_levels.specs.declared.levels.Levels.{Levels}
use Rattle.cb_levels.specs.Format.{SpellsLevels}
use Rattle.cb_levels.proofs.OneReading.{level_reading_is_one}
use Rattle.cb_outcome.specs.Roles.{Role}
use Rattle.cb_outcome.specs.Commands.Prove.{prove_reads}
use Rattle.cb_outcome.specs.Contents.{Reads, files_before, files_from}
use Rattle.cb_outcome.specs.Costs.{IsExplainCost, CountsExplain, CountsNamed, CountsLevels, CountsEntries, CountsProve}
use Rattle.cb_outcome.specs.Judged.{File, nothing, network, raised, PassFrom}
use Rattle.cb_outcome.specs.Reading.{WhereReported}
use Rattle.cb_file_kinds.specs.Ending.{Passed, network_files}
use Rattle.cb_file_kinds.specs.Kinds.{file_in_role}
use Rattle.cb_file_kinds.proofs.Chain.{if_some, if_some2, of_all}
use Rattle.cb_file_kinds.proofs.Judging.{text_of_read}
use Rattle.cb_file_kinds.proofs.Searched.{same_network, pass_is_one}

-- ---- the entries of a text

one_text : (text : List ℕ) (a b : Levels) → SpellsLevels text a → SpellsLevels text b → length a.entries ≡ length b.entries
one_text text a b p q =
    let same = level_reading_is_one text (Ok a) (Ok b) p q in
    let levels : a ≡ b = cc in
    ap (λ (l : Levels). length l.entries) levels

pub no_entries_counted : (text : List ℕ) (steps steps' : ℕ) → steps' ≡ steps → CountsEntries text steps steps'
no_entries_counted text steps steps' same = record { most = λ levels spelled. omega (arith, same); none = λ not. same }

pub entries_counted : (text : List ℕ) (levels : Levels) → SpellsLevels text levels → (steps steps' : ℕ) → steps' ≤ steps + length levels.entries
    → CountsEntries text steps steps'
entries_counted text levels spelled steps steps' few = record {
  most = λ other there. let same = one_text text levels other spelled there in omega (arith, few, same);
  none = λ not. absurd (not levels spelled);
}

-- a text that wasn't read, and one that was
pub unread_entries : (old : FilesReport) (name : List ℕ) (steps : ℕ) → IfSome (left_of old name) (λ text. CountsEntries text steps steps)
unread_entries old name steps = of_all (left_of old name) _ (λ text. no_entries_counted text steps steps refl)

pub read_entries : (old new : FilesReport) (name text : List ℕ) → ReadsAll old new name text → (steps steps' : ℕ) → CountsEntries text steps steps'
    → IfSome (left_of old name) (λ left. CountsEntries left steps steps')
read_entries old new name text read steps steps' counts =
    if_some (left_of old name) _ _ (λ left same. subst (λ (l : List ℕ). CountsEntries l steps steps') same counts) (text_of_read old new name text read)

-- ---- `prove`

module _ (model topology levels : List ℕ) (files : FilesReport) where
  -- no step is counted
  pub prove_none : (steps : ℕ) → WhereReported files (λ left. CountsProve left (prove_reads model topology levels) steps steps)
  prove_none steps =
      of_all files.left _ (λ left. record { most = λ file at. no_entries_counted file.text steps steps refl; none = λ not. refl })

  -- the levels were checked
  pub prove_counts : (t : Topology) (now : FilesReport) (steps steps' : ℕ) → Passed (network_files model topology) (network t) files now
      → IfSome (left_of now levels) (λ text. CountsEntries text steps steps')
      → WhereReported files (λ left. CountsProve left (prove_reads model topology levels) steps steps')
  prove_counts t now steps steps' passed counts =
      if_some2 files.left _ _ _ (λ left said known. record {
        most = λ file at.
            let is = known levels in
            let here = rw is at counts in
            let same : file_in_role Role.levels levels (contents left (model ∷ topology ∷ []) levels) ≡ file = cc in
            subst (λ (f : File). CountsEntries f.text steps steps') same here;
        none = λ not. absurd (not t said);
      }) passed.said passed.read

-- ---- `levels` and `explain`

same_raised : (t u : Topology) (nodes others : List NodeName) → raised t nodes ≡ raised u others → (t ≡ u) × (nodes ≡ others)
same_raised t u nodes others e = (cc, cc)

module _ (reads : Reads) (files : FilesReport) where
  pub levels_none : (word : List ℕ) (steps steps' : ℕ) → steps' ≡ steps → WhereReported files (λ left. CountsLevels left reads word steps steps')
  levels_none word steps steps' same = of_all files.left _ (λ left. record {
    most = λ t passed. record { most = λ problem named is count counted. omega (arith, same); none = λ not. same };
    none = λ not. same;
  })

  pub levels_counts : (word : List ℕ) (t : Topology) (steps steps' : ℕ) → WhereReported files (λ left. PassFrom nothing (files_before 2 left reads) (network t))
      → CountsNamed t word steps steps' → WhereReported files (λ left. CountsLevels left reads word steps steps')
  levels_counts word t steps steps' passed counts = if_some files.left _ _ (λ left here. record {
    most = λ u there.
        let same : network t ≡ network u = pass_is_one nothing (files_before 2 left reads) (network t) (network u) tt here there in
        subst (λ (v : Topology). CountsNamed v word steps steps') (same_network t u same) counts;
    none = λ not. absurd (not t here);
  }) passed

  pub explain_none : (steps steps' : ℕ) → steps' ≡ steps → WhereReported files (λ left. CountsExplain left reads steps steps')
  explain_none steps steps' same =
      of_all files.left _ (λ left. record { most = λ t nodes passed cost is. omega (arith, same); none = λ not. same })

  pub explain_counts : (t : Topology) (nodes : List NodeName) (steps steps' : ℕ)
      → WhereReported files (λ left. PassFrom nothing (files_from left reads) (raised t nodes))
      → ((cost : ℕ) → IsExplainCost t nodes cost → steps' ≤ steps + cost) → WhereReported files (λ left. CountsExplain left reads steps steps')
  explain_counts t nodes steps steps' passed few = if_some files.left _ _ (λ left here. record {
    most = λ u others there cost is.
        let (topology, listed) = same_raised u t others nodes (pass_is_one nothing (files_from left reads) (raised u others) (raised t nodes) tt there here) in
        few cost (subst (λ (v : Topology). IsExplainCost v nodes cost) topology (subst (λ (ns : List NodeName). IsExplainCost u ns cost) listed is));
    none = λ not. absurd (not t nodes here);
  }) passed
