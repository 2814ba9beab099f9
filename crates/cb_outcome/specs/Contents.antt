-- What a command reads, and what its files give, by the bytes left of each name.
use Rattle.std.specs.Prelude.{ℕ, List, [], ◌∷◌, ◌++◌, map, take}
use Rattle.std.specs.List.{Contains}
use Rattle.cb_io.specs.Outside.{contents}
use Rattle.cb_outcome.specs.Roles.{Role}
use Rattle.cb_outcome.specs.Judged.{File, Known, nothing, PassFrom}

-- what is read: the files that are judged, each by its role and its name, in the order in which they are read, and the log after them, if
-- there is one
pub record Reads : Type 0 where
  pub judged : List (Role × List ℕ)
  pub logs : List (List ℕ)

-- the names of all files, in the order in which they are read
abbrev pub names_of : Reads → List (List ℕ)
names_of reads = map (λ file. file.1) reads.judged ++ reads.logs

-- a text of this role is judged
abbrev pub HasRole : Reads → Role → Type 0
HasRole reads role = Contains (map (λ file. file.0) reads.judged) role

-- the pairs of a name with its bytes, as files tell them
abbrev pub Left : Type 0
Left = List (List ℕ × List ℕ)

-- the files with the bytes that each gives, where those of these names are read before them
abbrev pub with_texts : Left → List (List ℕ) → List (Role × List ℕ) → List File
with_texts left earlier [] = []
with_texts left earlier (file ∷ files) =
    record { role = file.0; name = file.1; text = contents left earlier file.1 } ∷ with_texts left (earlier ++ file.1 ∷ []) files

-- the judged files
abbrev pub files_from : Left → Reads → List File
files_from left reads = with_texts left [] reads.judged

-- those of them that stand before a position
abbrev pub files_before : ℕ → Left → Reads → List File
files_before place left reads = with_texts left [] (take place reads.judged)

-- what a log of this name gives, after the judged files
abbrev pub log_from : Left → Reads → List ℕ → List ℕ
log_from left reads name = contents left (map (λ file. file.1) reads.judged) name

-- these files pass, one after the other
abbrev pub Pass : List File → Type 0
Pass files = (known : Known) × PassFrom nothing files known
