-- What files and sinks report of themselves, and what a call changes of it. `old` is reported before the call, `new` after it.
use Rattle.std.specs.Prelude.{◌≡◌, ◌≢◌, ℕ, ◌+◌, ◌-◌, ◌^◌, ◌≤◌, ◌<◌, min, List, [], take, length, Option, None, Some, unwrap_or, Result, IfSome, if◌then◌else◌, ⊤}
use Rattle.std.specs.Option.{option_map}
use Rattle.std.specs.List.{list_any}
use Rattle.std.specs.Str.{bytes_eq}
use Rattle.std.specs.Io.KnownBytes.{Keeps, Consumes, Appends, ReadConsumes, WriteAppends}
use Rattle.cb_io.specs.Pairs.{look_up}

-- files: the names with the bytes left of each, where that is reported, and how often reads of each name have failed
pub record FilesReport : Type 0 where
  pub left : Option (List (List ℕ × List ℕ))
  pub faults : List ℕ → ℕ

-- a sink: the bytes taken, where that is reported, and how often writes have failed
pub record SinkReport : Type 0 where
  pub taken : Option (List ℕ)
  pub faults : ℕ

-- a count after one more, which stays at the last value of a u64
abbrev pub next_count : ℕ → ℕ
next_count count = min (count + 1) (2 ^ 64 - 1)

-- a count rose, or stands at the last value of a u64
abbrev pub Rose : ℕ → ℕ → Type 0
Rose before after = next_count before ≤ after

-- the bytes left of a name: none where the name isn't among the pairs
abbrev pub bytes_left_of : List (List ℕ × List ℕ) → List ℕ → List ℕ
bytes_left_of left name = unwrap_or (look_up left name) []

-- the bytes left of a name, where that is reported
abbrev pub left_of : FilesReport → List ℕ → Option (List ℕ)
left_of report name = option_map (λ left. bytes_left_of left name) report.left

-- a read moved a prefix of what was left of the name to the start of buf, no byte only at the end, and none with an error
abbrev pub ReadsBytes : {E : Type 0} → FilesReport → FilesReport → List ℕ → Result ℕ E → List ℕ → Type 0
ReadsBytes old new name result buf = ReadConsumes (left_of old name) (left_of new name) result buf

-- all known bytes were taken
abbrev pub TakesAll : Option (List ℕ) → Option (List ℕ) → List ℕ → Type 0
TakesAll None new all = ⊤
TakesAll (Some left) new all = (all ≡ left) × (new ≡ Some [])

-- all that was left of the name came, and nothing is left
abbrev pub ReadsAll : FilesReport → FilesReport → List ℕ → List ℕ → Type 0
ReadsAll old new name all = TakesAll (left_of old name) (left_of new name) all

-- a prefix of what was left of the name came
abbrev pub ReadsPrefix : FilesReport → FilesReport → List ℕ → Type 0
ReadsPrefix old new name = (prefix : List ℕ) × Consumes (left_of old name) (left_of new name) prefix

-- a prefix of what was left of the name was read, of at most that many bytes
abbrev pub ReadsNoMoreThan : FilesReport → FilesReport → List ℕ → ℕ → Type 0
ReadsNoMoreThan old new name most = (prefix : List ℕ) × (length prefix ≤ most) × Consumes (left_of old name) (left_of new name) prefix

-- more than that many bytes of the name were read
abbrev pub ReadsMoreThan : FilesReport → FilesReport → List ℕ → ℕ → Type 0
ReadsMoreThan old new name most = (prefix : List ℕ) × (most < length prefix) × Consumes (left_of old name) (left_of new name) prefix

-- of every other name there is left what there was
abbrev pub KeepsOthers : FilesReport → FilesReport → List ℕ → Type 0
KeepsOthers old new name = (other : List ℕ) → other ≢ name → Keeps (left_of old other) (left_of new other)

-- no count of failed reads falls
abbrev pub NoCountFalls : FilesReport → FilesReport → Type 0
NoCountFalls old new = (name : List ℕ) → old.faults name ≤ new.faults name

-- a read of the name failed
abbrev pub ReadFailed : FilesReport → FilesReport → List ℕ → Type 0
ReadFailed old new name = Rose (old.faults name) (new.faults name)

-- no name has more failed reads, and none fewer
abbrev pub SameFaults : FilesReport → FilesReport → Type 0
SameFaults old new = (name : List ℕ) → new.faults name ≡ old.faults name

-- the name has one failed read more, or stands at the last count, and every other name as many as before
abbrev pub OneMoreFault : FilesReport → FilesReport → List ℕ → Type 0
OneMoreFault old new name = (new.faults name ≡ next_count (old.faults name)) × ((other : List ℕ) → other ≢ name → new.faults other ≡ old.faults other)

-- what a name gives that is read after these: the bytes left of it, and none where it is one of them
abbrev pub contents : List (List ℕ × List ℕ) → List (List ℕ) → List ℕ → List ℕ
contents left earlier name = if list_any (λ other. bytes_eq other name) earlier then [] else bytes_left_of left name

-- these names were read whole, one after the other, and of every other name there is left what there was
abbrev pub ReadsEach : FilesReport → FilesReport → List (List ℕ) → Type 0
ReadsEach old new names = IfSome old.left (λ left. (name : List ℕ) → left_of new name ≡ Some (contents left names name))

-- a write took a prefix of these bytes, and nothing with an error
abbrev pub Writes : {E : Type 0} → SinkReport → SinkReport → Result ℕ E → List ℕ → Type 0
Writes old new result bytes = WriteAppends old.taken new.taken result bytes

-- all these bytes were taken, after those taken before
abbrev pub WritesAll : SinkReport → SinkReport → List ℕ → Type 0
WritesAll old new bytes = Appends old.taken new.taken bytes

-- a prefix of these bytes was taken
abbrev pub WritesPrefix : SinkReport → SinkReport → List ℕ → Type 0
WritesPrefix old new bytes = (n : ℕ) × (n ≤ length bytes) × Appends old.taken new.taken (take n bytes)

-- a write failed
abbrev pub WriteFailed : SinkReport → SinkReport → Type 0
WriteFailed old new = Rose old.faults new.faults
