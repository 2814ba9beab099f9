-- What a command leaves whose output is made before it is written. `old` is reported before its files are read, `new` after that.
use Rattle.std.specs.Prelude.{◌≡◌, ◌⊎◌, ℕ, List, [], ◌∷◌, ◌++◌, length, map, Option, None, Some, Result, Ok, Err}
use Rattle.cb_io.specs.Outside.{FilesReport, SinkReport, contents, ReadsEach, NoCountFalls, WritesAll, WritesPrefix, WriteFailed}
use Rattle.cb_outcome.specs.Roles.{Role}
use Rattle.cb_report.specs.declared.fault.Fault.{Fault}
use Rattle.cb_report.specs.declared.fault.Fault.TheVariants as faults
use Rattle.cb_report.specs.Text.{bytes_of_text}
use Rattle.cb_outcome.specs.Outcome.{Outcome}
use Rattle.cb_outcome.specs.Judged.{Known, nothing, RefusesFile, PassFrom}
use Rattle.cb_outcome.specs.Contents.{Left, Reads, names_of, with_texts, files_from}
use Rattle.cb_outcome.specs.Command.{Command, reads_of, JobGives}
use Rattle.cb_outcome.specs.Reading.{WhereReported, ReadsTo}
use Rattle.cb_file_kinds.specs.declared.output.Output.{Output}
use Rattle.cb_file_kinds.specs.Kinds.{file_in_role, IsWant, FailsToRead}

-- the names of these files
abbrev pub names : List (Role × List ℕ) → List (List ℕ)
names files = map (λ file. file.1) files

-- files up to a position were read and have passed: this is known from them
pub record Passed (earlier : List (Role × List ℕ)) (known : Known) (old now : FilesReport) : Type 0 where
  pub said : WhereReported old (λ left. PassFrom nothing (with_texts left [] earlier) known)
  pub read : ReadsEach old now (names earlier)
  pub counts : NoCountFalls old now

-- the files that tell a network: its model and its topology
abbrev pub network_files : List ℕ → List ℕ → List (Role × List ℕ)
network_files model topology = (Role.model, model) ∷ (Role.topology, topology) ∷ []

-- All files pass, after which the job gives these bytes, with this fault, if there is one; all were read, and no log follows them.
pub record MakesOutput (c : Command) (old new : FilesReport) (bytes : List ℕ) (fault : Option Fault) : Type 0 where
  pub known : Known
  pub said : WhereReported old (λ left. PassFrom nothing (files_from left (reads_of c)) known)
  pub gives : (left : Left) (whole : ℕ) → JobGives left c known whole (record { out = bytes; fault = fault; whole = whole })
  pub read : ReadsEach old new (names_of (reads_of c))
  pub alone : (reads_of c).logs ≡ []

-- memory ran out, the files being read so far
pub record WantsMemory (reads : Reads) (old new : FilesReport) (fault : Fault) : Type 0 where
  pub is : IsWant fault
  pub whole : ℕ
  pub read : ReadsTo whole (names_of reads) old new

-- what a file after others gives is refused for this
pub record IsRefusedThere (earlier : List (Role × List ℕ)) (file : Role × List ℕ) (known : Known) (old : FilesReport) (fault : Fault) : Type 0 where
  pub text : List ℕ
  pub text_is : WhereReported old (λ left. text ≡ contents left (names earlier) file.1)
  pub refuses : RefusesFile known (file_in_role file.0 file.1 text) fault

-- a file stops the run: those before it say something, and a read of it failed or it is refused
pub record FileStops (reads : Reads) (old new : FilesReport) (fault : Fault) : Type 0 where
  pub earlier : List (Role × List ℕ)
  pub file : Role × List ℕ
  pub later : List (Role × List ℕ)
  pub files_are : reads.judged ≡ earlier ++ file ∷ later
  pub known : Known
  pub passed : WhereReported old (λ left. PassFrom nothing (with_texts left [] earlier) known)
  pub read : ReadsTo (length earlier) (names_of reads) old new
  pub why : FailsToRead file.1 old new fault ⊎ IsRefusedThere earlier file known old fault

-- what is read begins with these files, and the run ends with the fault
abbrev pub RunEndsWith : List (Role × List ℕ) → FilesReport → FilesReport → Fault → Type 0
RunEndsWith files old new fault = (reads : Reads) (later : List (Role × List ℕ)) → reads.judged ≡ files ++ later
    → WantsMemory reads old new fault ⊎ FileStops reads old new fault

-- the outcome of an output, once the files were read
abbrev pub outcome_of : Output → ℕ → Outcome
outcome_of output whole = record { out = bytes_of_text output.text; fault = output.fault; whole = whole }

-- what results from a command
abbrev pub Comes : Command → FilesReport → FilesReport → Result Output Fault → Type 0
Comes c old new (Ok output) = MakesOutput c old new (bytes_of_text output.text) output.fault
Comes c old new (Err fault) = WantsMemory (reads_of c) old new fault ⊎ FileStops (reads_of c) old new fault

-- what is wrong, where something is
abbrev pub wrong : Result (Unit {0}) Fault → Option Fault
wrong (Ok done) = None
wrong (Err fault) = Some fault

-- all bytes were written, and this is wrong, if something is
pub record IsDelivered (bytes : List ℕ) (fault end : Option Fault) (out out' : SinkReport) : Type 0 where
  pub written : WritesAll out out' bytes
  pub end_is : end ≡ fault

-- a write failed
pub record IsCutOff (bytes : List ℕ) (end : Option Fault) (out out' : SinkReport) : Type 0 where
  pub prefix : WritesPrefix out out' bytes
  pub failed : WriteFailed out out'
  pub end_is : end ≡ Some faults.WriteFault

-- how that is written which a command has made: its output, or none where there is a fault and no output
abbrev pub Delivers : Result Output Fault → Option Fault → SinkReport → SinkReport → Type 0
Delivers (Ok output) end out out' = IsDelivered (bytes_of_text output.text) output.fault end out out' ⊎ IsCutOff (bytes_of_text output.text) end out out'
Delivers (Err fault) end out out' = IsDelivered [] (Some fault) end out out'
