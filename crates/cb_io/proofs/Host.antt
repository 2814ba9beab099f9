-- The faults of the machine's files after a change.
use Rattle.std.proofs.Common.{◌≡◌, ◌≢◌, ℕ, ◌≤◌, List, [], ◌∷◌, ◌++◌, set, refl, sym, ◌∙◌, ap, arith, Bool, true, false}
use Rattle.std.proofs.lemmas.Slice.Eq.{bytes_eq-Decides}
use Rattle.std.proofs.lemmas.Result.{IfOk-weaker}
use Rattle.std.specs.Prelude.{None, unwrap_or, Result, OnOk}
use Rattle.std.specs.Str.{bytes_eq}
use Rattle.cb_io.specs.Pairs.{look_up, put}
use Rattle.cb_io.specs.Outside.{FilesReport, next_count, NoCountFalls, ReadFailed, SameFaults, OneMoreFault}
use Rattle.cb_io.specs.Host.{host_report}
use Rattle.cb_io.proofs.Pairs.{AtPlace, look_up-put, look_up-put_other, look_up-at, set-put, append-put}

count_beside : (opened : List (List ℕ × ℕ)) (name other : List ℕ) (faults : ℕ) (b : Bool) → bytes_eq other name ≡ b
    → unwrap_or (look_up opened name) 0 ≤ faults
    → unwrap_or (look_up opened other) 0 ≤ unwrap_or (look_up (put opened name faults) other) 0
count_beside opened name other faults true e grown =
    let same : other ≡ name = (bytes_eq-Decides other name).0 e in
    rw (same, look_up-put opened name faults) grown
count_beside opened name other faults false e grown =
    let ne : other ≢ name = λ s. cc (sym e ∙ (bytes_eq-Decides other name).1 s) in
    rw (look_up-put_other opened name other faults ne) (omega arith)

kept_beside : (opened : List (List ℕ × ℕ)) (name other : List ℕ) (b : Bool) → bytes_eq other name ≡ b
    → look_up opened name ≡ None
    → unwrap_or (look_up (put opened name 0) other) 0 ≡ unwrap_or (look_up opened other) 0
kept_beside opened name other true e absent =
    let same : other ≡ name = (bytes_eq-Decides other name).0 e in
    rw (same, look_up-put opened name 0, absent) refl
kept_beside opened name other false e absent =
    let ne : other ≢ name = λ s. cc (sym e ∙ (bytes_eq-Decides other name).1 s) in
    rw (look_up-put_other opened name other 0 ne) refl

faults_beside : (opened : List (List ℕ × ℕ)) (name other : List ℕ) (faults : ℕ) (b : Bool) → bytes_eq other name ≡ b
    → faults ≡ unwrap_or (look_up opened name) 0
    → unwrap_or (look_up (put opened name faults) other) 0 ≡ unwrap_or (look_up opened other) 0
faults_beside opened name other faults true e is =
    let same : other ≡ name = (bytes_eq-Decides other name).0 e in
    rw (same, look_up-put opened name faults) is
faults_beside opened name other faults false e is =
    let ne : other ≢ name = λ s. cc (sym e ∙ (bytes_eq-Decides other name).1 s) in
    rw (look_up-put_other opened name other faults ne) refl

-- a new name has no faults, as before
pub faults-new : (opened : List (List ℕ × ℕ)) (name other : List ℕ) → look_up opened name ≡ None
    → (host_report (opened ++ (name, 0) ∷ [])).faults other ≡ (host_report opened).faults other
faults-new opened name other absent =
    ap (λ l. unwrap_or (look_up l other) 0) (append-put opened name 0 absent) ∙ kept_beside opened name other
    (bytes_eq other name) refl absent

module _ {opened : List (List ℕ × ℕ)} {name : List ℕ} {place : ℕ} {old : List ℕ × ℕ} (at : AtPlace opened name place old)
    (new : List ℕ × ℕ) (same : new.0 ≡ old.0) where
  -- where the count of a name doesn't fall, none does
  pub NoCountFalls-set : old.1 ≤ new.1 → NoCountFalls (host_report opened) (host_report (set opened place new))
  NoCountFalls-set grown = λ other.
      rw (set-put at new same)
      (count_beside opened name other new.1 (bytes_eq other name) refl (rw (look_up-at at) grown))

  -- where the count of a name rises, a read of it has failed
  pub ReadFailed-set : new.1 ≡ next_count old.1
      → ReadFailed (host_report opened) (host_report (set opened place new)) name
  ReadFailed-set rose =
      rw (set-put at new same, look_up-put opened name new.1, look_up-at at, rose) (omega arith)

  -- where the count of a name stays, each does
  pub SameFaults-set : new ≡ old → SameFaults (host_report opened) (host_report (set opened place new))
  SameFaults-set kept = λ other.
      rw (set-put at new same)
      (faults_beside opened name other new.1 (bytes_eq other name) refl (rw (look_up-at at) (ap (λ (o : List ℕ × ℕ). o.1) kept)))

  -- where the count of a name is the next one, every other name's stays
  pub OneMoreFault-set : new.1 ≡ next_count old.1
      → OneMoreFault (host_report opened) (host_report (set opened place new)) name
  OneMoreFault-set rose = (
    rw (set-put at new same, look_up-put opened name new.1, look_up-at at) rose,
    λ other ne. rw (set-put at new same, look_up-put_other opened name other new.1 ne) refl,
  )

  -- and what had the same counts before
  pub SameFaults-on_ok : {T E : Type 0} (r : Result T E) (before : FilesReport) → OnOk r (new ≡ old)
      → SameFaults before (host_report opened) → OnOk r (SameFaults before (host_report (set opened place new)))
  SameFaults-on_ok r before kept same =
      IfOk-weaker r (λ _. new ≡ old) (λ _. SameFaults before (host_report (set opened place new)))
      (λ _ e name. SameFaults-set e name ∙ same name) kept
