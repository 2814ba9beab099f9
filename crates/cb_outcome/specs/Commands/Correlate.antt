-- The command `correlate`: the events of a log, by codebooks for a wanted distance or for a cap.
use Rattle.std.specs.Prelude.{ℕ, List, [], ◌∷◌}
use Rattle.cb_model.specs.declared.wish.Wish.{Wish}
use Rattle.cb_outcome.specs.Roles.{Role}
use Rattle.cb_outcome.specs.Command.{IsWithin, IsWishWithin, Command, follows}
use Rattle.cb_outcome.specs.Judged.{Known, network}
use Rattle.cb_outcome.specs.LogJobs.{Watch, IsWantedWatch}
use Rattle.cb_outcome.specs.Contents.{Reads}
use Rattle.cb_outcome.specs.Costs.{CountsCorrelate}
use Rattle.cb_outcome.specs.Reading.{WhereReported}

-- after a topology, by codebooks for the wish
abbrev pub CorrelateWatches : Wish → ℕ → Known → Watch → Type 0
CorrelateWatches wish window (network t) watch = IsWantedWatch t wish window watch
CorrelateWatches wish window known watch = ⊥

-- its two judged files, and the log
abbrev pub correlate_reads : List ℕ → List ℕ → List ℕ → Reads
correlate_reads model topology log = record { judged = (Role.model, model) ∷ (Role.topology, topology) ∷ []; logs = log ∷ [] }

-- the whole command; no more steps are counted than the search of the topology costs, and then the edits of the log
abbrev pub correlate : List ℕ → List ℕ → List ℕ → Wish → ℕ → Command
correlate model topology log wish window = record {
  files = (correlate_reads model topology log).judged;
  task = follows log (CorrelateWatches wish window);
  range = IsWishWithin 1 9999 wish × IsWithin 1 1000000000000 window;
  counts = λ files after old new. WhereReported files (λ left. CountsCorrelate left (correlate_reads model topology log) log after old new);
}
