-- What files and a sink in memory stand for.
use Rattle.std.specs.Prelude.{ℕ, ◌++◌, ◌-◌, ◌^◌, List, [], ◌∷◌, Contains, drop, length, map, Option, Some, None, unwrap_or}
use Rattle.cb_io.specs.Pairs.{look_up, put}
use Rattle.cb_io.specs.Outside.{FilesReport, SinkReport, next_count}

-- a file: the bytes left, and how often reads of it have failed
pub record FileState : Type 0 where
  pub left : List ℕ
  pub faults : ℕ

-- the calls so far, and the numbers of those that are to fail
pub record CallsState : Type 0 where
  pub made : ℕ
  pub failing : List ℕ

-- files: those that were added, beside their names; the failed reads of other names; the greatest answer of a read
pub record FilesState : Type 0 where
  pub files : List (List ℕ × FileState)
  pub unknown : ℕ
  pub piece : ℕ
  pub calls : CallsState

-- a sink: the bytes taken; the capacity; the greatest answer of a write; the failed writes
pub record SinkState : Type 0 where
  pub bytes : List ℕ
  pub capacity : ℕ
  pub piece : ℕ
  pub calls : CallsState
  pub faults : ℕ

-- the calls after one more
abbrev pub next_call : CallsState → CallsState
next_call calls = record calls { made = next_count calls.made }

-- the calls, where one more is to fail
abbrev pub with_failing : CallsState → ℕ → CallsState
with_failing calls call = record calls { failing = calls.failing ++ call ∷ [] }

-- the next call is to fail
abbrev pub IsNextFailing : CallsState → Type 0
IsNextFailing calls = Contains calls.failing (next_count calls.made)

-- no call yet, and none that is to fail
abbrev pub no_calls : CallsState
no_calls = record { made = 0; failing = [] }

-- files to which none was added, and which give as many bytes as the buffer holds
abbrev pub no_files : FilesState
no_files = record { files = []; unknown = 0; piece = 2 ^ 64 - 1; calls = no_calls }

-- the file of a name; one that wasn't added has no bytes, and the faults of all such names
abbrev pub file_of : FilesState → List ℕ → FileState
file_of state name = unwrap_or (look_up state.files name) (record { left = []; faults = state.unknown })

-- the files with this one beside the name
abbrev pub with_file : FilesState → List ℕ → FileState → FilesState
with_file state name file = record state { files = put state.files name file }

-- the files with these bytes after those left of the name
abbrev pub with_bytes : FilesState → List ℕ → List ℕ → FilesState
with_bytes state name bytes =
    let file = file_of state name in with_file state name (record file { left = file.left ++ bytes })

-- the files after one more call
abbrev pub after_call : FilesState → FilesState
after_call state = record state { calls = next_call state.calls }

-- the files after a call that moved n bytes of the name
abbrev pub after_read : FilesState → List ℕ → ℕ → FilesState
after_read state name n =
    let file = file_of state name in with_file (after_call state) name (record file { left = drop n file.left })

-- the files after a failed call: one more fault of the name, or of all names that weren't added
abbrev pub after_fault_at : FilesState → List ℕ → Option FileState → FilesState
after_fault_at state name None = record (after_call state) { unknown = next_count state.unknown }
after_fault_at state name (Some file) = with_file (after_call state) name (record file { faults = next_count file.faults })

-- the files after a failed read of the name, whether it was added or not
abbrev pub after_fault : FilesState → List ℕ → FilesState
after_fault state name = after_fault_at state name (look_up state.files name)

-- what files in memory tell: all that is left, and the faults of each name
abbrev pub files_report : FilesState → FilesReport
files_report state = record {
  left = Some (map (λ pair. (pair.0, pair.1.left)) state.files);
  faults = λ name. (file_of state name).faults;
}

-- a sink of that capacity, which has taken nothing, and takes as many bytes as fit
abbrev pub new_sink : ℕ → SinkState
new_sink capacity = record { bytes = []; capacity = capacity; piece = 2 ^ 64 - 1; calls = no_calls; faults = 0 }

-- how many bytes still fit
abbrev pub capacity_left : SinkState → ℕ
capacity_left sink = sink.capacity - length sink.bytes

-- the sink after a call that took these bytes
abbrev pub after_write : SinkState → List ℕ → SinkState
after_write sink bytes = record sink { bytes = sink.bytes ++ bytes; calls = next_call sink.calls }

-- the sink after a failed call
abbrev pub after_refused_write : SinkState → SinkState
after_refused_write sink = record sink { calls = next_call sink.calls; faults = next_count sink.faults }

-- what a sink in memory tells: all that was taken, and the faults
abbrev pub sink_report : SinkState → SinkReport
sink_report sink = record { taken = Some sink.bytes; faults = sink.faults }
