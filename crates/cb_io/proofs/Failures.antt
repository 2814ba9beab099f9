-- What a read shows that takes a failed one for the end.
use Rattle.std.proofs.Common.{◌≡◌, ℕ, List, [], refl, sym, ◌∙◌, Result, Ok, Err, inl, inr, arith}
use Rattle.std.specs.Prelude.{◌⊎◌, None, Some, Option, IsErr, IsNone}
use Rattle.std.specs.Result.{result_unwrap_or}
use Rattle.cb_io.specs.declared.outside.FileStop.{FileStop}
use Rattle.cb_io.specs.Pairs.{look_up}
use Rattle.cb_io.specs.Outside.{ReadsBytes}
use Rattle.cb_io.specs.Memory.{FileState, FilesState, IsNextFailing, file_of, files_report}
use Rattle.cb_io.specs.Never.{never_reported}
use Rattle.cb_io.proofs.Memory.{bytes-report}

-- where a read fails of a name without bytes, no byte came and none is left
pub end_for_failure : (old new : FilesState) (name buf : List ℕ) (r : Result ℕ FileStop) → ReadsBytes (files_report old) (files_report new) name r buf
    → (IsErr r → look_up old.files name ≡ None) → ReadsBytes {E = FileStop} (never_reported old) (never_reported new) name (Ok (result_unwrap_or r 0)) buf
end_for_failure old new name buf (Ok n) read absent = read
end_for_failure old new name buf (Err stop) kept absent =
    let none : (file_of old name).left ≡ [] = rw (absent refl) refl in
    let empty = bytes-report old name ∙ none in
    (sym kept, λ zero capacity. kept ∙ empty)

-- where no call is to fail, a read fails of a name that wasn't added
pub absent_name : (state : FilesState) (name : List ℕ) → state.calls.failing ≡ [] → IsNextFailing state.calls ⊎ IsNone (look_up state.files name)
    → look_up state.files name ≡ None
absent_name state name none (inl due) = let never = rw none at due in absurd (omega (arith, never.1))
absent_name state name none (inr absent) = by_value (look_up state.files name) absent
  where
    by_value : (found : Option FileState) → IsNone found → found ≡ None
    by_value None e = refl
    by_value (Some file) e = cc
