-- Outcomes go by the bytes of the file words alone.
use Rattle.std.proofs.Common.{◌≡◌, ℕ, suc, List, [], ◌∷◌, ◌++◌, refl, sym, ap, subst, inl, inr}
use Rattle.std.specs.Prelude.{map, if◌then◌else◌}
use Rattle.std.specs.List.{Contains, list_any}
use Rattle.std.specs.Str.{bytes_eq}
use Rattle.std.proofs.lemmas.List.Elements.{Contains-append_left, Contains-append_right}
use Rattle.cb_model.proofs.Rising.{contains_head, contains_tail}
use Rattle.cb_io.specs.Outside.{bytes_left_of, contents}
use Rattle.cb_outcome.specs.Roles.{Role}
use Rattle.cb_outcome.specs.Outcome.{Outcome}
use Rattle.cb_outcome.specs.Judged.{File, Known, nothing, Job, Gives}
use Rattle.cb_outcome.specs.Contents.{Left, with_texts, files_from, log_from}
use Rattle.cb_outcome.specs.LogJobs.{LogTells}
use Rattle.cb_outcome.specs.Command.{Command, Task, makes, follows, refuses, logs_in, reads_of, file_words, TaskGives, JobGives}
use Rattle.cb_outcome.specs.Asked.{command_for}
use Rattle.cb_outcome.specs.Answer.{IsOutcome}
use Rattle.cb_outcome.specs.Laws.{HaveSameBytes, OutcomeGoesByBytes}

abbrev names : List (Role × List ℕ) → List (List ℕ)
names files = map (λ file. file.1) files

module _ (left left' : Left) where
  contents_same : (earlier : List (List ℕ)) (name : List ℕ) → bytes_left_of left' name ≡ bytes_left_of left name → contents left' earlier name ≡ contents left earlier name
  contents_same earlier name e = ap (λ (bytes : List ℕ). if list_any (λ other. bytes_eq other name) earlier then [] else bytes) e

  texts_same : (earlier : List (List ℕ)) (files : List (Role × List ℕ)) → HaveSameBytes (names files) left left'
      → with_texts left' earlier files ≡ with_texts left earlier files
  texts_same earlier [] same = refl
  texts_same earlier (file ∷ files) same =
      let here = contents_same earlier file.1 (same file.1 (contains_head file.1 (names files))) in
      let rest = texts_same (earlier ++ file.1 ∷ []) files (λ name is. same name (contains_tail file.1 (names files) name is)) in
      λ i. record { role = file.0; name = file.1; text = here i } ∷ rest i

-- where one job gives what the other gives, so do files before them
gives_over : (job other : Job) → ((known : Known) (whole : ℕ) (a : Outcome) → job known whole a → other known whole a) → (files : List File) (known : Known) (whole : ℕ)
    (a : Outcome) → Gives job known whole files a → Gives other known whole files a
gives_over job other over [] known whole a p = over known whole a p
gives_over job other over (file ∷ files) known whole a (inl p) = inl p
gives_over job other over (file ∷ files) known whole a (inr (next, says, p)) = inr (next, says, gives_over job other over files next (suc whole) a p)

-- a task looks at nothing but its log
task_over : (log other : List ℕ → List ℕ) (task : Task) → ((name : List ℕ) → Contains (logs_in task) name → other name ≡ log name) → (known : Known) (whole : ℕ)
    (a : Outcome) → TaskGives log task known whole a → TaskGives other task known whole a
task_over log other (makes making) same known whole a p = p
task_over log other (follows name watches) same known whole a (watch, is, p) =
    (watch, is, subst (λ (bytes : List ℕ). LogTells watch name bytes whole a) (sym (same name (contains_head name []))) p)
task_over log other (refuses fault) same known whole a p = p

goes : (c : Command) (left left' : Left) (a : Outcome) → HaveSameBytes (file_words c) left left' → IsOutcome c left a → IsOutcome c left' a
goes c left left' a same is =
    let texts = texts_same left left' [] c.files (λ name has. same name (Contains-append_left (names c.files) (logs_in c.task) name has)) in
    subst (λ (files : List File). Gives (JobGives left' c) nothing 0 files a) (sym texts)
    (gives_over (JobGives left c) (JobGives left' c)
    (task_over (λ name. log_from left (reads_of c) name) (λ name. log_from left' (reads_of c) name) c.task
    (λ name has. contents_same left left' (names c.files) name (same name (Contains-append_right (names c.files) (logs_in c.task) name has))))
    (files_from left (reads_of c)) nothing 0 a is)

pub outcome_goes_by_bytes : OutcomeGoesByBytes
outcome_goes_by_bytes asked left left' a same is = goes (command_for asked) left left' a same is
