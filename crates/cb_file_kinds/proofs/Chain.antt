-- Files that are read one after the other.
use Rattle.std.proofs.Common.{◌≡◌, ◌∙◌, ◌⊎◌, ◌≤◌, ℕ, List, [], ◌∷◌, ◌++◌, append_assoc, refl, sym, ap, subst, inl, inr, take, length, slice_get, arith, Result, Ok, Err}
use Rattle.std.specs.Prelude.{Option, None, Some, IfSome, IfErr, IfOk, map, unwrap_or}
use Rattle.std.specs.Io.KnownBytes.{Consumes}
use Rattle.std.specs.Result.{IsErrAnd}
use Rattle.std.proofs.lemmas.List.{length-map}
use Rattle.cb_io.specs.Outside.{FilesReport, contents, left_of, ReadsAll, ReadsEach, ReadsPrefix, KeepsOthers}
use Rattle.cb_io.proofs.Reported.{NoCountFalls-trans, ReadFailed-after, ReadsEach-nil, ReadsEach-next, ReadsEach-gives, ReadsEach-others}
use Rattle.cb_outcome.specs.Roles.{Role}
use Rattle.cb_report.specs.declared.fault.Fault.{Fault}
use Rattle.cb_outcome.specs.Judged.{Known, nothing, Says, PassFrom}
use Rattle.cb_outcome.specs.Contents.{Left, Reads, names_of, with_texts}
use Rattle.cb_outcome.specs.Command.{Command, reads_of, JobGives}
use Rattle.cb_outcome.specs.Reading.{WhereReported, LeavesRest, ReadsTo}
use Rattle.cb_file_kinds.specs.Kinds.{file_in_role, IsWant, ReadsOnly, StopsReading}
use Rattle.cb_file_kinds.specs.Ending.{names, Passed, MakesOutput, WantsMemory, FileStops}

-- ---- facts where they are reported

pub if_some : {X : Type 0} (o : Option X) (P Q : X → Type 0) → ((x : X) → P x → Q x) → IfSome o P → IfSome o Q
if_some None P Q f h = tt
if_some (Some x) P Q f h = f x h

pub if_some2 : {X : Type 0} (o : Option X) (P Q R : X → Type 0) → ((x : X) → P x → Q x → R x) → IfSome o P → IfSome o Q → IfSome o R
if_some2 None P Q R f p q = tt
if_some2 (Some x) P Q R f p q = f x p q

pub of_all : {X : Type 0} (o : Option X) (P : X → Type 0) → ((x : X) → P x) → IfSome o P
of_all None P f = tt
of_all (Some x) P f = f x

pub if_ok_more : {V E : Type 0} (result : Result V E) (P Q : V → Type 0) → ((x : V) → P x → Q x) → IfOk result P → IfOk result Q
if_ok_more (Ok x) P Q f h = f x h
if_ok_more (Err e) P Q f h = tt

pub if_err_more : {V E : Type 0} (result : Result V E) (P Q : E → Type 0) → ((e : E) → P e → Q e) → IfErr result P → IfErr result Q
if_err_more (Ok x) P Q f h = tt
if_err_more (Err e) P Q f h = f e h

-- an error that is this one
pub err_is : {V E : Type 0} (result : Result V E) (fault : E) → IsErrAnd result (λ x. x ≡ fault) → result ≡ Err fault
err_is (Ok value) fault h = absurd h
err_is (Err x) fault h = ap (λ e. Err e) h

-- ---- lists

pub map_append : {X Y : Type 0} (f : X → Y) (xs ys : List X) → map f (xs ++ ys) ≡ map f xs ++ map f ys
map_append f [] ys = refl
map_append {X} {Y} f (x ∷ xs) ys = ap (λ (zs : List Y). f x ∷ zs) (map_append f xs ys)

append_nil : {X : Type 0} (xs : List X) → xs ++ [] ≡ xs
append_nil [] = refl
append_nil {X} (x ∷ xs) = ap (λ (ys : List X). x ∷ ys) (append_nil xs)

pub take_prefix : {X : Type 0} (prefix rest : List X) → take (length prefix) (prefix ++ rest) ≡ prefix
take_prefix [] rest = refl
take_prefix {X} (x ∷ xs) rest = ap (λ (ys : List X). x ∷ ys) (take_prefix xs rest)

pub take_whole : {X : Type 0} (xs : List X) → take (length xs) xs ≡ xs
take_whole [] = refl
take_whole {X} (x ∷ xs) = ap (λ (ys : List X). x ∷ ys) (take_whole xs)

pub at_prefix : {X : Type 0} (prefix rest : List X) (x : X) → slice_get (prefix ++ x ∷ rest) (length prefix) ≡ Some x
at_prefix [] rest x = refl
at_prefix (y ∷ ys) rest x = at_prefix ys rest x

past_end : {X : Type 0} (xs : List X) (x : X) → slice_get xs (length xs) ≡ Some x → ⊥
past_end [] x e = cc
past_end (y ∷ ys) x e = past_end ys x e

prefix_within : {X : Type 0} (prefix rest : List X) → length prefix ≤ length (prefix ++ rest)
prefix_within [] rest = omega arith
prefix_within (x ∷ xs) rest = let h = prefix_within xs rest in omega (arith, h)

-- ---- how far files were read

pub leaves_rest : (a b : Option (List ℕ)) (bytes prefix : List ℕ) → a ≡ Some bytes → Consumes a b prefix → LeavesRest bytes b
leaves_rest None b bytes prefix e came = cc
leaves_rest (Some xs) None bytes prefix e came = absurd came
leaves_rest (Some xs) (Some ys) bytes prefix e came =
    let f : Option (List ℕ) → List ℕ = λ o. unwrap_or o [] in
    let same : xs ≡ bytes = ap f e in
    (prefix, ys, sym same ∙ came, refl)

left_whole : (bytes : List ℕ) (b : Option (List ℕ)) → b ≡ Some bytes → LeavesRest bytes b
left_whole bytes b e = ([], bytes, refl, e)

same_some : {X : Type 0} (x y : X) → Some x ≡ Some y → x ≡ y
same_some x y e = cc

module _ (old new : FilesReport) where
  -- these names were read whole, and no other
  pub reads_all : (all : List (List ℕ)) → ReadsEach old new all → ReadsTo (length all) all old new
  reads_all all each = record {
    within = omega arith;
    next = λ name is. absurd (past_end all name is);
    others = λ name not. if_some old.left _ _ (λ left known. subst (λ (ns : List (List ℕ)). left_of new name ≡ Some (contents left ns name)) (sym (take_whole all)) (known name)) each;
  }

  -- nothing was read
  pub reads_none : (all : List (List ℕ)) → new ≡ old → ReadsTo 0 all old new
  reads_none all same = record {
    within = omega arith;
    next = λ name is. if_some old.left _ _ (λ left known. left_whole (contents left [] name) (left_of new name) (known name)) each;
    others = λ name not. if_some old.left _ _ (λ left known. known name) each;
  }
    where
      each : ReadsEach old new []
      each = subst (λ (reported : FilesReport). ReadsEach old reported []) (sym same) (ReadsEach-nil old)

module _ (old now new : FilesReport) (prefix rest : List (List ℕ)) (name : List ℕ) (all : List (List ℕ)) (all_is : all ≡ prefix ++ name ∷ rest) where
  -- these names were read whole, then a prefix of the next one, and no other
  pub reads_prefix : ReadsEach old now prefix → KeepsOthers now new name → ReadsPrefix now new name → ReadsTo (length prefix) all old new
  reads_prefix each others (bytes, came) = record {
    within = rw all_is (prefix_within prefix (name ∷ rest));
    next = λ other is.
        let same : name ≡ other = same_some name other (sym (at_prefix prefix rest name) ∙ subst (λ (ns : List (List ℕ)). slice_get ns (length prefix) ≡ Some other) all_is is) in
        if_some old.left _ _ (λ left known. subst (λ (ns : List (List ℕ)). LeavesRest (contents left ns other) (left_of new other)) (sym taken)
        (subst (λ (n : List ℕ). LeavesRest (contents left prefix n) (left_of new n)) same
        (leaves_rest (left_of now name) (left_of new name) (contents left prefix name) bytes (known name) came))) each;
    others = λ other not.
        if_some old.left _ _ (λ left known. subst (λ (ns : List (List ℕ)). left_of new other ≡ Some (contents left ns other)) (sym taken) (known other
        (λ same. not (subst (λ (n : List ℕ). slice_get all (length prefix) ≡ Some n) (sym same) here)))) (ReadsEach-others old now new prefix name each others);
  }
    where
      taken : take (length prefix) all ≡ prefix
      taken = ap (take (length prefix)) all_is ∙ take_prefix prefix (name ∷ rest)

      here : slice_get all (length prefix) ≡ Some name
      here = ap (λ (ns : List (List ℕ)). slice_get ns (length prefix)) all_is ∙ at_prefix prefix rest name

-- ---- what files say

-- one more file says something
all_say_next : (left : Left) (before : List (List ℕ)) (files : List (Role × List ℕ)) (role : Role) (name : List ℕ) (known mid next : Known)
    → PassFrom known (with_texts left before files) mid → Says mid (file_in_role role name (contents left (before ++ names files) name)) next
    → PassFrom known (with_texts left before (files ++ (role, name) ∷ [])) next
all_say_next left before [] role name known mid next same says =
    let says_here = subst (λ (ns : List (List ℕ)). Says mid (file_in_role role name (contents left ns name)) next) (append_nil before) says in
    (next, subst (λ (k : Known). Says k (file_in_role role name (contents left before name)) next) (sym same) says_here, refl)
all_say_next left before (file ∷ files) role name known mid next (first, said, all) says =
    let moved : before ++ file.1 ∷ names files ≡ (before ++ file.1 ∷ []) ++ names files = sym (append_assoc before (file.1 ∷ []) (names files)) in (
      first,
      said,
      all_say_next left (before ++ file.1 ∷ []) files role name first mid next all
          (subst (λ (ns : List (List ℕ)). Says mid (file_in_role role name (contents left ns name)) next) moved says),
    )

pub passed_none : (old : FilesReport) → Passed [] nothing old old
passed_none old = record { said = of_all old.left _ (λ left. refl); read = ReadsEach-nil old; counts = λ name. omega arith }

-- a text that is what is left of a name is its contents after these
text_there : (old now : FilesReport) (before : List (List ℕ)) (name text : List ℕ) → ReadsEach old now before → IfSome (left_of now name) (λ left. text ≡ left)
    → WhereReported old (λ left. text ≡ contents left before name)
text_there old now before name text each reported =
    if_some old.left _ _ (λ left known. let is = known name in let h = rw is at reported in h) each

module _ (earlier : List (Role × List ℕ)) (role : Role) (name : List ℕ) (known : Known) (old now new : FilesReport) (passed : Passed earlier known old now) (only : ReadsOnly name now new) where
  -- the next file was read and has passed too
  pub passed_next : (text : List ℕ) (next : Known) → ReadsAll now new name text → Says known (file_in_role role name text) next
      → Passed (earlier ++ (role, name) ∷ []) next old new
  passed_next text next read says = record {
    said = if_some2 old.left _ _ _ (λ left all is. all_say_next left [] earlier role name nothing known next all
        (subst (λ (t : List ℕ). Says known (file_in_role role name t) next) is says)) passed.said (ReadsEach-gives old now new (names earlier) name text passed.read read);
    read = subst (ReadsEach old new) (sym (map_append (λ (file : Role × List ℕ). file.1) earlier ((role, name) ∷ [])))
        (ReadsEach-next old now new (names earlier) name text passed.read only.others read);
    counts = NoCountFalls-trans old now new passed.counts only.counts;
  }

  module _ (reads : Reads) (later : List (Role × List ℕ)) (files_are : reads.judged ≡ earlier ++ (role, name) ∷ later) where
    names_are : names_of reads ≡ names earlier ++ name ∷ (names later ++ reads.logs)
    names_are =
        let first : names (reads.judged) ≡ names earlier ++ name ∷ names later =
        ap names files_are ∙ map_append (λ (file : Role × List ℕ). file.1) earlier ((role, name) ∷ later) in
        ap (λ (ns : List (List ℕ)). ns ++ reads.logs) first ∙ append_assoc (names earlier) (name ∷ names later) (reads.logs)

    read_there : ReadsTo (length earlier) (names_of reads) old new
    read_there =
        subst (λ (n : ℕ). ReadsTo n (names_of reads) old new) (length-map earlier (λ (file : Role × List ℕ). file.1))
        (reads_prefix old now new (names earlier) (names later ++ reads.logs) name (names_of reads) names_are passed.read only.others only.prefix)

    -- or stops the run
    pub stops_there : (Before : Known → Type 0) (fault : Fault) → Before known → StopsReading role name Before now new fault
        → WantsMemory reads old new fault ⊎ FileStops reads old new fault
    stops_there Before fault before (inl want) = inl (record { is = want; whole = length earlier; read = read_there })
    stops_there Before fault before (inr (inl fails)) = inr (record {
      earlier = earlier;
      file = (role, name);
      later = later;
      files_are = files_are;
      known = known;
      passed = passed.said;
      read = read_there;
      why = inl (record { is = fails.is; failed = ReadFailed-after old now new name passed.counts fails.failed });
    })
    stops_there Before fault before (inr (inr is)) = inr (record {
      earlier = earlier;
      file = (role, name);
      later = later;
      files_are = files_are;
      known = known;
      passed = passed.said;
      read = read_there;
      why = inr (record { text = is.text; text_is = text_there old now (names earlier) name is.text passed.read is.text_is; refuses = is.refuses known before });
    })

-- ---- the job after all files

module _ (c : Command) (files : List (Role × List ℕ)) (known : Known) (old new : FilesReport) (passed : Passed files known old new)
    (files_are : c.files ≡ files) (no_log : (reads_of c).logs ≡ []) where
  names_are_all : names files ≡ names_of (reads_of c)
  names_are_all =
      let all : names (c.files) ++ (reads_of c).logs ≡ names files ++ [] = λ i. names (files_are i) ++ no_log i in
      sym (append_nil (names files)) ∙ sym all

  -- what it gives
  pub makes : (bytes : List ℕ) (fault : Option Fault)
      → ((left : Left) (whole : ℕ) → JobGives left c known whole (record { out = bytes; fault = fault; whole = whole }))
      → MakesOutput c old new bytes fault
  makes bytes fault gives = record {
    known = known;
    said = subst (λ (fs : List (Role × List ℕ)). WhereReported old (λ left. PassFrom nothing (with_texts left [] fs) known)) (sym files_are) passed.said;
    gives = gives;
    read = subst (ReadsEach old new) names_are_all passed.read;
    alone = no_log;
  }

  -- or it wants memory
  pub wants : (fault : Fault) → IsWant fault → WantsMemory (reads_of c) old new fault
  wants fault want = record {
    is = want;
    whole = length (names_of (reads_of c));
    read = reads_all old new (names_of (reads_of c)) (subst (ReadsEach old new) names_are_all passed.read);
  }
