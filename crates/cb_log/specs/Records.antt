-- Records in the order of the log, with positions from 0 on, and the time that they come to.
use Rattle.std.specs.Prelude.{◌≡◌, ◌≢◌, ℕ, suc, max, List, [], ◌∷◌, take, Some, slice_get}
use Rattle.cb_model.specs.declared.node.NodeName.{NodeName}
use Rattle.cb_log.specs.declared.record.Record.{Record}
use Rattle.cb_log.specs.declared.record.Body.TheVariants.{Raise, Clear}

-- the log time after these records: the greatest of their times, and 0 at first
abbrev pub log_time : List Record → ℕ
log_time [] = 0
log_time (r ∷ records) = max r.at (log_time records)

-- the log time at the record of this position; after the last record it stays
abbrev pub time_at : List Record → ℕ → ℕ
time_at records place = log_time (take (suc place) records)

-- the record at this position is such that P
abbrev pub RecordAt : List Record → ℕ → (Record → Type 0) → Type 0
RecordAt records place P = (r : Record) × (slice_get records place ≡ Some r) × P r

-- the source raises the node at this position
abbrev pub RaisesNode : List Record → List ℕ → NodeName → ℕ → Type 0
RaisesNode records source node place = RecordAt records place (λ r. r.body ≡ Raise source node)

-- the source clears the node at this position
abbrev pub ClearsNode : List Record → List ℕ → NodeName → ℕ → Type 0
ClearsNode records source node place = RecordAt records place (λ r. r.body ≡ Clear source node)

-- the record is no raise and no clear of the source
abbrev pub IsNotBy : List ℕ → Record → Type 0
IsNotBy source r = (node : NodeName) → (r.body ≢ Raise source node) × (r.body ≢ Clear source node)

-- the record is no raise and no clear at all: it is an edit or a tick
abbrev pub IsByNone : Record → Type 0
IsByNone r = (source : List ℕ) → IsNotBy source r

-- the source raises some node at this position
abbrev pub Raises : List Record → List ℕ → ℕ → Type 0
Raises records source place = (node : NodeName) × RaisesNode records source node place
