-- Reading on, one line after the other.
use Rattle.std.proofs.Common.{◌≡◌, ◌≢◌, ℕ, ◌+◌, ◌-◌, ◌^◌, ◌<◌, min, List, [], ◌∷◌, ◌++◌, length, map, codes, refl, sym, ap, subst, ◌∙◌, arith, inl, inr}
use Rattle.std.specs.Prelude.{Result, Ok, Err}
use Rattle.std.specs.Fmt.{decimal}
use Rattle.std.specs.List.{All}
use Rattle.std.specs.Result.{IsErrAnd}
use Rattle.std.proofs.lemmas.List.{append_assoc, append-nil, map-append, length-append, length-map}
use Rattle.cb_text.specs.Lines.{lines_of}
use Rattle.cb_model.specs.declared.node.NodeName.{NodeName}
use Rattle.cb_cert.specs.Format.{HasValidNames}
use Rattle.cb_levels.specs.declared.fault.LevelText.{LevelText}
use Rattle.cb_levels.specs.declared.fault.LevelText.TheVariants as fault
use Rattle.cb_levels.specs.declared.levels.LevelEntry.{LevelEntry}
use Rattle.cb_levels.specs.declared.levels.Levels.{Levels}
use Rattle.cb_levels.specs.declared.line.LevelLine.{LevelLine}
use Rattle.cb_levels.specs.declared.line.LevelLine.TheVariants as line
use Rattle.cb_levels.specs.declared.reader.LevelReader.{LevelReader}
use Rattle.cb_levels.specs.Text.{entry_part, level_lines, level_line_text}
use Rattle.cb_levels.specs.Format.{IsLevelCount, IsLevelEntry, IsLevels, SpellsLevels}
use Rattle.cb_levels.specs.Faults.{AreFirstLines, AreAllLines, IsLevelFault}
use Rattle.cb_levels.specs.Steps.{node_prefix, entry_prefix, HasReadLines, ReadsLine, MissesLine, StopsFor, AreLevelsRead}
use Rattle.cb_levels.proofs.Prefixes.{fewer, begins_header, begins_nodes, begins_entries, only_nodes, only_node, only_entries, only_entry, only_end, not_all, header_goes, nodes_go, entries_go}

-- an error that is passed on is the one that came
pub exit : {X : Type 0} (P : Result X LevelText → Type 0) (result : Result X LevelText) (err : LevelText) → IsErrAnd result (λ x. x ≡ err) → P (Err err) → P result
exit P (Ok x) err is p = absurd is
exit P (Err y) err is p = subst (λ e. P (Err e)) (sym is) p

-- a line that was read and is wrong
pub is_bad : (old new : LevelReader) (met : List ℕ) (Wrong : List ℕ → Type 0) → ReadsLine old new met → Wrong met → (why : LevelText)
    → why ≡ fault.BadLine new.number → MissesLine old Wrong why
is_bad old new met Wrong reads wrong why e =
    subst (MissesLine old Wrong) (sym e)
    (record { met = met; after = new.lines; lines_are = reads.lines_are; number_is = reads.number_is; wrong = wrong })

-- no line is left
pub is_short : (old : LevelReader) (Wrong : List ℕ → Type 0) (why : LevelText) → (why ≡ fault.Truncated) × (old.lines ≡ []) → MissesLine old Wrong why
is_short old Wrong why none = subst (MissesLine old Wrong) (sym none.0) none.1

-- the number of the line after those that were read
pub next_number : (text : List ℕ) (reader : LevelReader) (before : List LevelLine) (met : List ℕ) (after : List (List ℕ)) (k : ℕ)
    → HasReadLines text reader before → reader.lines ≡ met ∷ after → k ≡ min (reader.number + 1) (2 ^ 64 - 1) → k ≡ length before + 1
next_number text reader before met after k read lines number =
    let all : length (lines_of text) ≡ length (map level_line_text before) + length reader.lines =
    ap length read.lines_are ∙ length-append (map level_line_text before) reader.lines
    in
    let some : length reader.lines ≡ length after + 1 = omega (arith, ap length lines) in
    omega (arith, all, some, length-map before level_line_text, read.small, read.number_is, number)

-- one line more was read
pub took : (text : List ℕ) (old new : LevelReader) (before : List LevelLine) (l : LevelLine) → HasReadLines text old before → ReadsLine old new (level_line_text l)
    → HasReadLines text new (before ++ l ∷ [])
took text old new before l read reads =
    let number = next_number text old before (level_line_text l) new.lines new.number read reads.lines_are reads.number_is in
    record {
      lines_are = read.lines_are
          ∙ (ap (λ (ts : List (List ℕ)). map level_line_text before ++ ts) reads.lines_are
          ∙ sym (ap (λ (ts : List (List ℕ)). ts ++ new.lines) (map-append level_line_text before (l ∷ []))
          ∙ append_assoc (map level_line_text before) (level_line_text l ∷ []) new.lines));
      number_is = omega (arith, number, length-append before (l ∷ []));
      small = read.small;
    }

-- after some lines exactly those of one form may come
pub record Expects {X : Type 0} (before : List LevelLine) (form : X → List ℕ) (P : X → Type 0) : Type 0 where
  pub some : before ≢ []
  pub first : AreFirstLines before
  pub open_ended : ¬ AreAllLines before
  pub only : (l : LevelLine) → AreFirstLines (before ++ l ∷ []) → (x : X) × P x × (level_line_text l ≡ form x)

-- why the next line isn't read is why the text is none of levels
pub missed : {X : Type 0} (before : List LevelLine) (form : X → List ℕ) (P : X → Type 0) → Expects before form P
    → (text : List ℕ) (reader : LevelReader) → HasReadLines text reader before
    → (why : LevelText) → MissesLine reader (λ met. (x : X) → P x → met ≢ form x) why → StopsFor text why
missed before form P expects text reader read fault.BadHeader miss = absurd miss
missed before form P expects text reader read (fault.BadLine k) miss = inr (record {
  before = before;
  line = miss.met;
  met = record {
    after = miss.after;
    lines = read.lines_are ∙ ap (λ (ts : List (List ℕ)). map level_line_text before ++ ts) miss.lines_are;
    number_is = next_number text reader before miss.met miss.after k read miss.lines_are miss.number_is;
  };
  later = expects.some;
  first = expects.first;
  open_ended = expects.open_ended;
  none = λ l is f. let x = expects.only l f in miss.wrong x.0 x.1 (is ∙ x.2);
})
missed before form P expects text reader read fault.Truncated miss = inr (record {
  before = before;
  lines = read.lines_are ∙ (ap (λ (ts : List (List ℕ)). map level_line_text before ++ ts) miss ∙ append-nil (map level_line_text before));
  first = expects.first;
  open_ended = expects.open_ended;
})
missed before form P expects text reader read (fault.Extra k) miss = absurd miss
missed before form P expects text reader read fault.NoMemory miss = inl refl

-- ---- what may come, step by step

pub count_of_nodes : Expects (line.Header ∷ []) (λ n. codes "nodes " ++ decimal n) IsLevelCount
count_of_nodes = record {
  some = λ e. cc;
  first = begins_header;
  open_ended = not_all (line.Header ∷ []) header_goes;
  only = λ l f. let x = only_nodes l f in (x.0, x.1, ap level_line_text x.2);
}

pub next_node : (n : ℕ) (xs : List NodeName) → IsLevelCount n → length xs < n → All HasValidNames xs → Expects (node_prefix n xs) (λ x. level_line_text (line.Node x)) HasValidNames
next_node n xs counted low good = record {
  some = λ e. cc;
  first = begins_nodes n xs counted (omega arith) good;
  open_ended = not_all (node_prefix n xs) (nodes_go n xs);
  only = λ l f. let x = only_node n xs l low f in (x.0, x.1, ap level_line_text x.2);
}

pub count_of_entries : (nodes : List NodeName) → IsLevelCount (length nodes) → All HasValidNames nodes
    → Expects (node_prefix (length nodes) nodes) (λ n. codes "entries " ++ decimal n) IsLevelCount
count_of_entries nodes counted good = record {
  some = λ e. cc;
  first = begins_nodes (length nodes) nodes counted (omega arith) good;
  open_ended = not_all (node_prefix (length nodes) nodes) (nodes_go (length nodes) nodes);
  only = λ l f. let x = only_entries nodes l f in (x.0, x.1, ap level_line_text x.2);
}

pub next_entry : (nodes : List NodeName) (n : ℕ) (xs : List LevelEntry) → IsLevelCount (length nodes) → All HasValidNames nodes → IsLevelCount n → length xs < n
    → All (IsLevelEntry (length nodes)) xs → Expects (entry_prefix nodes n xs) (λ e. level_line_text (line.Entry e)) (IsLevelEntry (length nodes))
next_entry nodes n xs counted_nodes names counted low good = record {
  some = λ e. cc;
  first = begins_entries nodes n xs counted_nodes names counted (omega arith) good;
  open_ended = not_all (entry_prefix nodes n xs) (entries_go nodes n xs);
  only = λ l f. let x = only_entry nodes n xs l low f in (x.0, x.1, ap level_line_text x.2);
}

abbrev pub Always : Unit {0} → Type 0
Always u = Unit {0}

pub last_line : (levels : Levels) → IsLevels levels → Expects (entry_prefix levels.nodes (length levels.entries) levels.entries) (λ (u : Unit {0}). codes "end") Always
last_line levels is =
    let before = entry_prefix levels.nodes (length levels.entries) levels.entries in
    record {
      some = λ e. cc;
      first = begins_entries levels.nodes (length levels.entries) levels.entries is.nodes is.names is.entries (omega arith) is.each;
      open_ended = not_all before (entries_go levels.nodes (length levels.entries) levels.entries);
      only = λ l f. (tt, tt, ap level_line_text (only_end levels.nodes levels.entries l f));
    }

-- ---- the beginning

-- a text without lines
pub empty : (text : List ℕ) → lines_of text ≡ [] → IsLevelFault text fault.Truncated
empty text none = record {
  before = [];
  lines = none;
  first = fewer [] (line.Header ∷ []) begins_header;
  open_ended = λ whole. let e = whole.2 in cc;
}

-- the header was read
pub begun : (text : List ℕ) (reader : LevelReader) → lines_of text ≡ level_line_text line.Header ∷ reader.lines → reader.number ≡ 1
    → length (lines_of text) < 2 ^ 64 → HasReadLines text reader (line.Header ∷ [])
begun text reader lines number small = record { lines_are = lines; number_is = number; small = small }

-- ---- the end

-- the last line was read too
module _ (text : List ℕ) (levels : Levels) (old : LevelReader) (read : AreLevelsRead text old levels) where
  abbrev before : List LevelLine
  before = entry_prefix levels.nodes (length levels.entries) levels.entries

  all_lines : before ++ line.End ∷ [] ≡ level_lines levels
  all_lines = append_assoc (node_prefix (length levels.nodes) levels.nodes) (entry_part levels.entries) (line.End ∷ [])

  -- a fault that isn't out of memory
  sure : (why : LevelText) → why ≢ fault.NoMemory → StopsFor text why → IsLevelFault text why
  sure why other (inl none) = absurd (other none)
  sure why other (inr is) = is

  -- the last line is missing
  pub no_end : old.lines ≡ [] → IsLevelFault text fault.Truncated
  no_end none = sure fault.Truncated (λ e. cc) (missed before (λ (u : Unit {0}). codes "end") Always (last_line levels read.is) text old read.read fault.Truncated none)

  -- another line is there
  pub other_end : (new : LevelReader) (met : List ℕ) → ReadsLine old new met → met ≢ codes "end" → IsLevelFault text (fault.BadLine new.number)
  other_end new met reads other =
      sure (fault.BadLine new.number) (λ e. cc)
      (missed before (λ (u : Unit {0}). codes "end") Always (last_line levels read.is) text old read.read (fault.BadLine new.number)
      (record { met = met; after = new.lines; lines_are = reads.lines_are; number_is = reads.number_is; wrong = λ u p. other }))

  module _ (new : LevelReader) (met : List ℕ) (reads : ReadsLine old new met) (is : met ≡ codes "end") where
    ended : HasReadLines text new (level_lines levels)
    ended = subst (HasReadLines text new) all_lines (took text old new before line.End read.read (subst (ReadsLine old new) is reads))

    -- nothing follows
    pub spelt : new.lines ≡ [] → SpellsLevels text levels
    spelt none = record {
      is = read.is;
      lines = ended.lines_are ∙ (ap (λ (ts : List (List ℕ)). map level_line_text (level_lines levels) ++ ts) none ∙ append-nil (map level_line_text (level_lines levels)));
    }

    -- something follows
    pub further : (next : List ℕ) (after : List (List ℕ)) (k : ℕ) → new.lines ≡ next ∷ after → k ≡ min (new.number + 1) (2 ^ 64 - 1)
        → IsLevelFault text (fault.Extra k)
    further next after k e number = record {
      before = level_lines levels;
      line = next;
      met = record {
        after = after;
        lines = ended.lines_are ∙ ap (λ (ts : List (List ℕ)). map level_line_text (level_lines levels) ++ ts) e;
        number_is = next_number text new (level_lines levels) next after k ended e number;
      };
      whole = (levels, read.is, refl);
    }
