-- Where nothing fails, the run answers the outcome, or memory ran out.
use Rattle.std.proofs.Common.{refl, inl, inr}
use Rattle.cb_validity.proofs.Canonicals.{contains_from_get}
use Rattle.cb_report.specs.declared.status.Status.{Status}
use Rattle.cb_report.specs.declared.status.Status.TheVariants as statuses
use Rattle.cb_outcome.specs.Clauses.{AnswersOutcome, Blames, IsComplete}
use Rattle.cb_outcome.specs.Seen.{Seen}
use Rattle.cb_outcome.specs.Command.{Command, file_words}

pub complete : (c : Command) (status : Status) (s : Seen) → AnswersOutcome c status s → Blames c status s → IsComplete c status s
complete c statuses.ReadFault s answers blames reads writes =
    absurd (reads blames.name (contains_from_get (file_words c) blames.place blames.name blames.is) blames.failed)
complete c statuses.WriteFault s answers blames reads writes = absurd (writes blames.failed)
complete c statuses.Memory s answers blames reads writes = inl refl
complete c status s answers blames reads writes = inr answers
