use Rattle.std.proofs.Common.{◌≡◌, ℕ, ◌≤◌, length}
use Rattle.json.specs.Json.{members, value}
use Rattle.serde_json.specs.Data.{Members}
use Rattle.serde_json.specs.Read.{of_members, converted}
use Rattle.cb_alarm.specs.Plain.{HasFields, next_members}
use Rattle.cb_alarm.proofs.fields.members.Given as goal

abbrev pub invariant-members : goal.invariant-members
invariant-members l =
    (n : ℕ) × (old : Members) × (length l.reader ≤ n)
    × (next_members l.initial.reader ≡ converted (λ ms. of_members ms old) (members (value 126) n l.reader))
    × HasFields old l.fields

abbrev pub decreases-members : goal.decreases-members
decreases-members l = length l.reader
