-- What calls on files in memory leave.
use Rattle.std.proofs.Common.{◌≡◌, ◌≢◌, ℕ, ◌+◌, ◌≤◌, ◌<◌, List, [], ◌∷◌, ◌++◌, length, Bool, true, false, map, take, drop, refl, sym, ◌∙◌, ap, arith, min, set, length-take}
use Rattle.std.proofs.lemmas.List.{take_at}
use Rattle.std.proofs.Math.Seq.{drop-drop, drop-nil}
use Rattle.std.proofs.lemmas.List.{take-append-drop}
use Rattle.std.specs.Prelude.{None, Some, Ok, unwrap_or}
use Rattle.std.specs.declared.option.Option.{Option}
use Rattle.std.specs.Option.{option_map}
use Rattle.std.specs.Io.KnownBytes.{Keeps}
use Rattle.std.specs.Str.{bytes_eq}
use Rattle.std.proofs.lemmas.Slice.Eq.{bytes_eq-Decides}
use Rattle.cb_io.specs.declared.outside.FileStop.{FileStop}
use Rattle.cb_io.specs.Pairs.{look_up}
use Rattle.cb_io.specs.Outside.{left_of, next_count, ReadsBytes, KeepsOthers, NoCountFalls, ReadFailed}
use Rattle.cb_io.specs.Memory.{FileState, FilesState, file_of, with_file, with_bytes, after_call, after_read, after_fault_at, after_fault, files_report}
use Rattle.cb_io.proofs.Pairs.{AtPlace, look_up-put, look_up-put_other, look_up-map, look_up-at, set-put, append-put}

bytes_of : (found : Option FileState) (unknown : ℕ)
    → unwrap_or (option_map (λ file. file.left) found) [] ≡ (unwrap_or found (record { left = []; faults = unknown })).left
bytes_of None unknown = refl
bytes_of (Some file) unknown = refl

-- the bytes that are reported as left of a name are those of its file
pub bytes-report : (state : FilesState) (name : List ℕ)
    → unwrap_or (look_up (map (λ pair. (pair.0, pair.1.left)) state.files) name) [] ≡ (file_of state name).left
bytes-report state name =
    ap (λ found. unwrap_or found []) (look_up-map (λ file. file.left) state.files name) ∙ bytes_of
    (look_up state.files name) state.unknown

pub file_of-with : (state : FilesState) (name : List ℕ) (file : FileState)
    → file_of (with_file state name file) name ≡ file
file_of-with state name file =
    ap (λ found. unwrap_or found (record { left = []; faults = state.unknown })) (look_up-put state.files name file)

pub file_of-with_other : (state : FilesState) (name other : List ℕ) (file : FileState) → other ≢ name
    → file_of (with_file state name file) other ≡ file_of state other
file_of-with_other state name other file ne =
    ap (λ found. unwrap_or found (record { left = []; faults = state.unknown }))
    (look_up-put_other state.files name other file ne)

count_at : (state : FilesState) (name : List ℕ) (file : FileState) → (file_of state name).faults ≤ file.faults
    → (other : List ℕ) (b : Bool) → bytes_eq other name ≡ b
    → (file_of state other).faults ≤ (file_of (with_file (after_call state) name file) other).faults
count_at state name file grown other true e =
    let same : other ≡ name = (bytes_eq-Decides other name).0 e in
    rw (same, file_of-with (after_call state) name file) grown
count_at state name file grown other false e =
    let ne : other ≢ name = λ s. cc (sym e ∙ (bytes_eq-Decides other name).1 s) in
    rw (file_of-with_other (after_call state) name other file ne) (omega arith)

left-after : (state : FilesState) (name : List ℕ) (n : ℕ)
    → unwrap_or (look_up (map (λ pair. (pair.0, pair.1.left)) (after_read state name n).files) name) [] ≡ drop n (file_of state name).left
left-after state name n =
    bytes-report (after_read state name n) name
    ∙ ap (λ f. f.left) (file_of-with (after_call state) name
    (record (file_of state name) { left = drop n (file_of state name).left }))

-- another file of a name leaves the others
pub KeepsOthers-with : (state : FilesState) (name : List ℕ) (file : FileState)
    → KeepsOthers (files_report state) (files_report (with_file (after_call state) name file)) name
KeepsOthers-with state name file = λ other ne.
    bytes-report (with_file (after_call state) name file) other
    ∙ ap (λ f. f.left) (file_of-with_other (after_call state) name other file ne)
    ∙ sym (bytes-report state other)

-- a file that lost no fault lowers no count
pub NoCountFalls-with : (state : FilesState) (name : List ℕ) (file : FileState)
    → (file_of state name).faults ≤ file.faults
    → NoCountFalls (files_report state) (files_report (with_file (after_call state) name file))
NoCountFalls-with state name file grown = λ other. count_at state name file grown other (bytes_eq other name) refl

-- the prefix of a file was moved
pub Reads-after : (state : FilesState) (name buf : List ℕ) (n : ℕ)
    → (file_of state name).left ≡ take n buf ++ drop n (file_of state name).left
    → (n ≡ 0 → 0 < length buf → (file_of state name).left ≡ [])
    → ReadsBytes {E = FileStop} (files_report state) (files_report (after_read state name n)) name (Ok n) buf
Reads-after state name buf n moved end = (
  bytes-report state name ∙ moved ∙ ap (λ l. take n buf ++ l) (sym (left-after state name n)),
  λ zero capacity. left-after state name n ∙ ap (drop n) (end zero capacity) ∙ drop-nil n,
)

-- bytes that are copied from a place on, and the rest
pub copied_prefix : (bytes copied tail : List ℕ) (at n : ℕ) → copied ≡ take n (drop at bytes)
    → n ≤ length (drop at bytes) → drop at bytes ≡ take n (copied ++ tail) ++ drop (at + n) bytes
copied_prefix bytes copied tail at n e h =
    let len : length copied ≡ n = rw e (rw length-take (omega arith)) in
    rw (take_at copied tail n len, e, ← drop-drop n at bytes) (sym (take-append-drop n (drop at bytes)))

module _ (state : FilesState) {name : List ℕ} {place : ℕ} {entry : List ℕ × FileState}
    (at : AtPlace state.files name place entry) where
  file_of-found : file_of state name ≡ entry.1
  file_of-found = ap (λ found. unwrap_or found (record { left = []; faults = state.unknown })) (look_up-at at)

  pub with_file-found : (y : List ℕ × FileState) → y.0 ≡ entry.0
      → record state { files = set state.files place y } ≡ with_file state name y.1
  with_file-found y same =
      ap (λ files. record state { files = files }) (set-put at y same)

  -- more bytes after those left
  pub extended : (y : List ℕ × FileState) (bytes : List ℕ)
      → y ≡ (entry.0, record entry.1 { left = entry.1.left ++ bytes })
      → record state { files = set state.files place y } ≡ with_bytes state name bytes
  extended y bytes e =
      with_file-found y (ap (λ (pair : List ℕ × FileState). pair.0) e)
      ∙ ap (λ (pair : List ℕ × FileState). with_file state name pair.1) e
      ∙ ap (λ (file : FileState). with_file state name (record file { left = file.left ++ bytes }))
      (sym file_of-found)

  -- fewer bytes left
  pub given : (y : List ℕ × FileState) (n : ℕ) → y ≡ (entry.0, record entry.1 { left = drop n entry.1.left })
      → record (after_call state) { files = set state.files place y } ≡ after_read state name n
  given y n e =
      ap after_call (with_file-found y (ap (λ (pair : List ℕ × FileState). pair.0) e))
      ∙ ap (λ (pair : List ℕ × FileState). with_file (after_call state) name pair.1) e
      ∙ ap (λ (file : FileState). with_file (after_call state) name (record file { left = drop n file.left }))
      (sym file_of-found)

  -- one more fault
  pub blamed : (y : List ℕ × FileState) → y ≡ (entry.0, record entry.1 { faults = next_count entry.1.faults })
      → record (after_call state) { files = set state.files place y } ≡ after_fault state name
  blamed y e =
      ap after_call (with_file-found y (ap (λ (pair : List ℕ × FileState). pair.0) e))
      ∙ ap (λ (pair : List ℕ × FileState). with_file (after_call state) name pair.1) e
      ∙ ap (after_fault_at state name) (sym (look_up-at at))

-- one more fault of all names that weren't added
pub blamed-unknown : (state : FilesState) (name : List ℕ) → look_up state.files name ≡ None
    → record (after_call state) { unknown = next_count state.unknown } ≡ after_fault state name
blamed-unknown state name absent = ap (after_fault_at state name) (sym absent)

-- a new name
pub added : (state : FilesState) (name bytes : List ℕ) → look_up state.files name ≡ None
    → record state { files = state.files ++ (name, record { left = bytes; faults = state.unknown }) ∷ [] } ≡ with_bytes state name bytes
added state name bytes absent =
    ap (λ files. record state { files = files }) (append-put state.files name _ absent)
    ∙ ap (λ found. let file = unwrap_or found (record { left = []; faults = state.unknown }) in with_file state name
    (record file { left = file.left ++ bytes })) (sym absent)

-- ---- what a failed call leaves

fault_known : (state : FilesState) (name other : List ℕ) (file : FileState) (b : Bool)
    → look_up state.files name ≡ Some file → bytes_eq other name ≡ b
    → ((file_of (after_fault_at state name (Some file)) other).left ≡ (file_of state other).left)
fault_known state name other file true found e =
    let same : other ≡ name = (bytes_eq-Decides other name).0 e in
    rw (same, file_of-with (after_call state) name (record file { faults = next_count file.faults }), found) refl
fault_known state name other file false found e =
    let ne : other ≢ name = λ s. cc (sym e ∙ (bytes_eq-Decides other name).1 s) in
    ap (λ f. f.left) (file_of-with_other (after_call state) name other
    (record file { faults = next_count file.faults }) ne)

no_bytes : (found : Option FileState) (u v : ℕ)
    → (unwrap_or found (record { left = []; faults = u })).left ≡ (unwrap_or found (record { left = []; faults = v })).left
no_bytes None u v = refl
no_bytes (Some file) u v = refl

fault_left : (state : FilesState) (name other : List ℕ) (found : Option FileState) → look_up state.files name ≡ found
    → (file_of (after_fault_at state name found) other).left ≡ (file_of state other).left
fault_left state name other None e = no_bytes (look_up state.files other) (next_count state.unknown) state.unknown
fault_left state name other (Some file) e = fault_known state name other file (bytes_eq other name) e refl

-- the bytes left of each name stay
pub Keeps-after_fault : (state : FilesState) (name other : List ℕ)
    → Keeps (left_of (files_report state) other) (left_of (files_report (after_fault state name)) other)
Keeps-after_fault state name other =
    bytes-report (after_fault state name) other ∙ fault_left state name other (look_up state.files name) refl ∙ sym
    (bytes-report state other)

fault_rose : (state : FilesState) (name : List ℕ) (found : Option FileState) → look_up state.files name ≡ found
    → (file_of (after_fault_at state name found) name).faults ≡ next_count (file_of state name).faults
fault_rose state name None e = rw e refl
fault_rose state name (Some file) e =
    ap (λ f. f.faults) (file_of-with (after_call state) name (record file { faults = next_count file.faults }))
    ∙ rw e refl

-- the name has one more fault
pub faults-after_fault : (state : FilesState) (name : List ℕ)
    → (file_of (after_fault state name) name).faults ≡ next_count (file_of state name).faults
faults-after_fault state name = fault_rose state name (look_up state.files name) refl

pub ReadFailed-after_fault : (state : FilesState) (name : List ℕ)
    → ReadFailed (files_report state) (files_report (after_fault state name)) name
ReadFailed-after_fault state name = omega (arith, faults-after_fault state name)

-- and no other name has fewer
pub NoCountFalls-after_fault : (state : FilesState) (name : List ℕ) (file : FileState)
    → look_up state.files name ≡ Some file → file.faults ≤ next_count file.faults
    → NoCountFalls (files_report state) (files_report (after_fault state name))
NoCountFalls-after_fault state name file found grown =
    rw found (NoCountFalls-with state name (record file { faults = next_count file.faults }) (rw found grown))

-- no byte is moved only where none was left
pub moved_none : (left : List ℕ) (n piece capacity : ℕ) → n ≡ min (min (length left) piece) capacity → 0 < piece → 0 < capacity
    → n ≡ 0 → left ≡ []
moved_none [] n piece capacity e p r zero = refl
moved_none (b ∷ bs) n piece capacity e p r zero = absurd (omega arith)
