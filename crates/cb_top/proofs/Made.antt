-- From files that passed and a job to an outcome.
use Rattle.std.proofs.Common.{◌≡◌, ◌+◌, ℕ, suc, List, [], ◌∷◌, ◌++◌, length, refl, sym, ap, ◌∙◌, subst, inl, inr, arith}
use Rattle.cb_io.specs.Outside.{contents}
use Rattle.cb_outcome.specs.Roles.{Role}
use Rattle.cb_report.specs.declared.fault.Fault.{Fault}
use Rattle.cb_outcome.specs.Outcome.{Outcome, refused}
use Rattle.cb_outcome.specs.Judged.{File, Known, RefusesFile, Job, Gives, PassFrom}
use Rattle.cb_outcome.specs.Contents.{Left, with_texts}
use Rattle.cb_file_kinds.specs.Kinds.{file_in_role}
use Rattle.cb_file_kinds.specs.Ending.{names}

-- where all files say something, the outcome is the job's
pub gives_job : (job : Job) (files : List File) (known last : Known) (whole : ℕ) (outcome : Outcome) → PassFrom known files last
    → ((w : ℕ) → w ≡ whole + length files → job last w outcome) → Gives job known whole files outcome
gives_job job [] known last whole outcome same job_is =
    subst (λ (k : Known). job k whole outcome) (sym same) (job_is whole (omega arith))
gives_job job (file ∷ files) known last whole outcome (next, says, all) job_is =
    inr (next, says, gives_job job files next last (suc whole) outcome all (λ w e. job_is w (omega (arith, e))))

append_nil : {X : Type 0} (xs : List X) → xs ++ [] ≡ xs
append_nil [] = refl
append_nil {X} (x ∷ xs) = ap (λ (ys : List X). x ∷ ys) (append_nil xs)

-- a file that is refused after others that say something decides the outcome
pub gives_refused : (job : Job) (left : Left) (before : List (List ℕ)) (earlier : List (Role × List ℕ)) (file : Role × List ℕ) (later : List (Role × List ℕ))
    (known last : Known) (whole : ℕ) (text : List ℕ) (fault : Fault) → PassFrom known (with_texts left before earlier) last
    → text ≡ contents left (before ++ names earlier) file.1 → RefusesFile last (file_in_role file.0 file.1 text) fault
    → Gives job known whole (with_texts left before (earlier ++ file ∷ later)) (refused fault (whole + length earlier))
gives_refused job left before [] file later known last whole text fault same is refuses =
    let text_is : text ≡ contents left before file.1 = is ∙ ap (λ (ns : List (List ℕ)). contents left ns file.1) (append_nil before) in
    let here : RefusesFile known (file_in_role file.0 file.1 (contents left before file.1)) fault =
    subst (λ (t : List ℕ). RefusesFile known (file_in_role file.0 file.1 t) fault) text_is (subst (λ (k : Known). RefusesFile k (file_in_role file.0 file.1 text) fault) (sym same) refuses) in
    inl (fault, here, ap (refused fault) (omega arith))
gives_refused job left before (first ∷ earlier) file later known last whole text fault (next, says, all) is refuses =
    let moved : before ++ first.1 ∷ names earlier ≡ (before ++ first.1 ∷ []) ++ names earlier = assoc before first.1 (names earlier) in
    let rest = gives_refused job left (before ++ first.1 ∷ []) earlier file later next last (suc whole) text fault all
    (is ∙ ap (λ (ns : List (List ℕ)). contents left ns file.1) moved) refuses in
    inr (next, says, subst (λ (n : ℕ). Gives job next (suc whole) (with_texts left (before ++ first.1 ∷ []) (earlier ++ file ∷ later)) (refused fault n)) (omega arith) rest)
  where
    assoc : (xs : List (List ℕ)) (y : List ℕ) (zs : List (List ℕ)) → xs ++ y ∷ zs ≡ (xs ++ y ∷ []) ++ zs
    assoc [] y zs = refl
    assoc (x ∷ xs) y zs = ap (λ (ys : List (List ℕ)). x ∷ ys) (assoc xs y zs)
