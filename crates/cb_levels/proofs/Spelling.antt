-- The text of levels has their lines, and is short.
use Rattle.std.proofs.Common.{◌≡◌, ◌≢◌, ℕ, ◌+◌, ◌*◌, ◌^◌, ◌%◌, ◌<◌, ◌≤◌, List, [], ◌∷◌, ◌++◌, length, map, codes, refl, sym, ap, subst, ◌∙◌, arith, Bool, true, false, IsTrue, nat_eq, if◌then◌else◌, inl, inr}
use Rattle.std.specs.Fmt.{decimal}
use Rattle.std.specs.List.{All, flat_map, slice_split, onto_first}
use Rattle.std.proofs.lemmas.Bool.{cases_Bool, false_from_ne_true, eqb-true}
use Rattle.std.proofs.lemmas.Fmt.{decimal_by_steps, length-decimal-le}
use Rattle.std.proofs.lemmas.List.{append_assoc, length-append, length-map}
use Rattle.std.proofs.lemmas.List.Splits.{slice_split_at}
use Rattle.std.proofs.lemmas.List.Elements.{All-nil, All-cons, All-head, All-tail, All-append, All-map, All-weaker}
use Rattle.cb_text.specs.Names.{is_name_byte, is_instance_byte, is_letter, IsRun}
use Rattle.cb_text.specs.Lines.{lines_of, lines_of_parts, line_limit, HasShortLines}
use Rattle.cb_text.proofs.Cuts.{Lacks}
use Rattle.cb_model.specs.declared.node.NodeName.{NodeName}
use Rattle.cb_cert.specs.Format.{HasValidNames, certificate_node_limit}
use Rattle.cb_levels.specs.declared.levels.LevelEntry.{LevelEntry}
use Rattle.cb_levels.specs.declared.levels.Levels.{Levels}
use Rattle.cb_levels.specs.declared.line.LevelLine.{LevelLine}
use Rattle.cb_levels.specs.declared.line.LevelLine.TheVariants as line
use Rattle.cb_levels.specs.Checks.{HasSmallNumbers}
use Rattle.cb_levels.specs.Text.{node_part, entry_part, level_lines, level_line_text, ended_line, levels_text}
use Rattle.cb_levels.specs.Format.{IsLevelEntry, IsLevels, SpellsLevels}

-- there is always a first part
parts_cons : (text : List ℕ) → (part : List ℕ) × (parts : List (List ℕ)) × (slice_split (λ b. nat_eq b 10) text ≡ part ∷ parts)
parts_cons [] = ([], [], refl)
parts_cons (b ∷ bs) = elim (cases_Bool (nat_eq b 10)) [
  | inl lf ↦ ([], slice_split (λ c. nat_eq c 10) bs, rw lf refl)
  | inr other ↦ let rest = parts_cons bs in (b ∷ rest.0, rest.1, rw other (ap (onto_first b) rest.2))
]

-- a line that ends at a LF, and the lines after it
first_line : (line rest : List ℕ) → Lacks 10 line → lines_of (line ++ 10 ∷ rest) ≡ line ∷ lines_of rest
first_line line rest lacks =
    let later = parts_cons rest in
    let both = slice_split_at (λ b. nat_eq b 10) line 10 rest lacks refl in
    ap lines_of_parts (both ∙ ap (λ (ps : List (List ℕ)). line ∷ ps) later.2) ∙ ap (λ (ps : List (List ℕ)). line ∷ lines_of_parts ps) (sym later.2)

-- a line of the format: its bytes are no LF, and few
pub record IsGoodLine (l : LevelLine) : Type 0 where
  pub lacks : Lacks 10 (level_line_text l)
  pub short : length (level_line_text l) ≤ 132

-- lines that are ended one after another are the lines of the result
lines_of-ended : (ls : List LevelLine) → All IsGoodLine ls → lines_of (flat_map ended_line ls) ≡ map level_line_text ls
lines_of-ended [] all = refl
lines_of-ended (l ∷ ls) all =
    let whole : flat_map ended_line (l ∷ ls) ≡ level_line_text l ++ 10 ∷ flat_map ended_line ls = append_assoc (level_line_text l) (codes "\n") (flat_map ended_line ls) in
    let rest = lines_of-ended ls (All-tail IsGoodLine l ls all) in
    let here = All-head IsGoodLine l ls all in
    ap lines_of whole ∙ (first_line (level_line_text l) (flat_map ended_line ls) here.lacks ∙ ap (λ (ts : List (List ℕ)). level_line_text l ∷ ts) rest)

-- and have few bytes
bytes_few : (ls : List LevelLine) → All IsGoodLine ls → length (flat_map ended_line ls) ≤ 133 * length ls
bytes_few [] all = omega arith
bytes_few (l ∷ ls) all =
    let here = All-head IsGoodLine l ls all in
    let short = here.short in
    let rest = bytes_few ls (All-tail IsGoodLine l ls all) in
    let ended = length-append (level_line_text l) (codes "\n") in
    let whole = length-append (ended_line l) (flat_map ended_line ls) in
    omega arith

lines_short : (ls : List LevelLine) → All IsGoodLine ls → All (λ (text : List ℕ). length text ≤ line_limit) (map level_line_text ls)
lines_short ls all =
    All-map (λ (text : List ℕ). length text ≤ line_limit) level_line_text ls
    (All-weaker IsGoodLine (λ l. length (level_line_text l) ≤ line_limit) (λ l good. let short = good.short in omega arith) ls all)

-- ---- bytes that are no LF

differs : (b : ℕ) → b ≢ 10 → nat_eq b 10 ≡ false
differs b other = false_from_ne_true _ (λ is. other (eqb-true b 10 is))

one_lacks : (b : ℕ) → b ≢ 10 → Lacks 10 (b ∷ [])
one_lacks b other = All-cons (λ c. nat_eq c 10 ≡ false) b [] (differs b other) (All-nil (λ c. nat_eq c 10 ≡ false))

both : (xs ys : List ℕ) → Lacks 10 xs → Lacks 10 ys → Lacks 10 (xs ++ ys)
both xs ys a b = All-append (λ c. nat_eq c 10 ≡ false) xs ys a b

decimal_lacks : (n : ℕ) → n < 2 ^ 64 → Lacks 10 (decimal n)
decimal_lacks n small =
    let one : (m : ℕ) → m < 10 → Lacks 10 ((48 + m) ∷ []) = λ m low. one_lacks (48 + m) (λ e. omega arith) in
    let more : (m : ℕ) (ds : List ℕ) → 10 ≤ m → Lacks 10 ds → Lacks 10 (ds ++ ((48 + m % 10) ∷ [])) = λ m ds low lacks.
    both ds ((48 + m % 10) ∷ []) lacks (one_lacks (48 + m % 10) (λ e. omega arith))
    in
    decimal_by_steps (λ m ds. Lacks 10 ds) one more n small

bytes_lack : (test : ℕ → Bool) → test 10 ≡ false → (bytes : List ℕ) → All (λ b. IsTrue (test b)) bytes → Lacks 10 bytes
bytes_lack test refuses bytes all =
    All-weaker (λ b. IsTrue (test b)) (λ b. nat_eq b 10 ≡ false)
    (λ b passes. differs b (λ e. let at : test 10 ≡ true = subst (λ x. IsTrue (test x)) e passes in cc)) bytes all

run_lacks : (bytes : List ℕ) → IsRun bytes → Lacks 10 bytes
run_lacks [] run = absurd run
run_lacks (b ∷ bytes) run =
    All-cons (λ c. nat_eq c 10 ≡ false) b bytes (differs b (λ e. let at : is_letter 10 ≡ true = subst (λ x. IsTrue (is_letter x)) e run.0 in absurd (cc)))
    (bytes_lack is_name_byte refl bytes run.1)

-- what is written out has no LF
abbrev has_none : List ℕ → Bool
has_none [] = true
has_none (b ∷ bytes) = if nat_eq b 10 then false else has_none bytes

lacks_by : (bytes : List ℕ) → has_none bytes ≡ true → Lacks 10 bytes
lacks_by [] e = All-nil (λ c. nat_eq c 10 ≡ false)
lacks_by (b ∷ bytes) e = elim (cases_Bool (nat_eq b 10)) [
  | inl lf ↦ let none : false ≡ true = rw lf at e in absurd (cc)
  | inr other ↦
      let rest : has_none bytes ≡ true = rw other at e in
      All-cons (λ c. nat_eq c 10 ≡ false) b bytes other (lacks_by bytes rest)
]

-- ---- lines of the format

good_header : IsGoodLine line.Header
good_header = record { lacks = lacks_by (codes "codebook levels 1") refl; short = omega arith }

good_end : IsGoodLine line.End
good_end = record { lacks = lacks_by (codes "end") refl; short = omega arith }

-- a word and a number
counted : (word : List ℕ) (n : ℕ) → n ≤ certificate_node_limit → length (word ++ decimal n) ≤ length word + 5
counted word n few =
    let digits = length-decimal-le 5 n (omega arith) (omega arith) (omega arith) in
    let whole = length-append word (decimal n) in
    omega arith

good_nodes : (n : ℕ) → n ≤ certificate_node_limit → IsGoodLine (line.Nodes n)
good_nodes n few = record {
  lacks = both (codes "nodes ") (decimal n) (lacks_by (codes "nodes ") refl) (decimal_lacks n (omega arith));
  short = let long = counted (codes "nodes ") n few in omega arith;
}

good_entries : (n : ℕ) → n ≤ certificate_node_limit → IsGoodLine (line.Entries n)
good_entries n few = record {
  lacks = both (codes "entries ") (decimal n) (lacks_by (codes "entries ") refl) (decimal_lacks n (omega arith));
  short = let long = counted (codes "entries ") n few in omega arith;
}

good_node : (n : NodeName) → HasValidNames n → IsGoodLine (line.Node n)
good_node n is =
    let word = codes "node " in
    let event = is.0 in
    let instance = is.1 in
    let one = length-append word n.event in
    let two = length-append (word ++ n.event) (codes "@") in
    let three = length-append (word ++ n.event ++ codes "@") n.instance in
    let event_short = event.short in
    let instance_short = instance.short in
    record {
      lacks = both (word ++ n.event ++ codes "@") n.instance
          (both (word ++ n.event) (codes "@") (both word n.event (lacks_by word refl) (run_lacks n.event event.run)) (lacks_by (codes "@") refl))
          (bytes_lack is_instance_byte refl n.instance instance.bytes_are);
      short = omega arith;
    }

good_entry : (n : ℕ) → n ≤ certificate_node_limit → (e : LevelEntry) → IsLevelEntry n e → IsGoodLine (line.Entry e)
good_entry n few e is =
    let word = codes "entry " in
    let gap = codes " " in
    let node = (is.node).1 in
    let level = is.level in
    let parent = is.parent in
    let prefix = word ++ decimal e.node ++ gap in
    let middle = prefix ++ decimal e.level ++ gap in
    let a = length-decimal-le 5 e.node (omega arith) (omega arith) (omega arith) in
    let b = length-decimal-le 5 e.level (omega arith) (omega arith) (omega arith) in
    let c = length-decimal-le 5 e.parent (omega arith) (omega arith) (omega arith) in
    let one = length-append word (decimal e.node) in
    let two = length-append (word ++ decimal e.node) gap in
    let three = length-append prefix (decimal e.level) in
    let four = length-append (prefix ++ decimal e.level) gap in
    let five = length-append middle (decimal e.parent) in
    let space = lacks_by gap refl in
    record {
      lacks = both middle (decimal e.parent)
          (both (prefix ++ decimal e.level) gap
          (both prefix (decimal e.level)
          (both (word ++ decimal e.node) gap (both word (decimal e.node) (lacks_by word refl) (decimal_lacks e.node (omega arith))) space)
          (decimal_lacks e.level (omega arith))) space)
          (decimal_lacks e.parent (omega arith));
      short = omega arith;
    }

all_good : (levels : Levels) → IsLevels levels → All IsGoodLine (level_lines levels)
all_good levels is =
    let few = (is.nodes).1 in
    let many = (is.entries).1 in
    let end = All-cons IsGoodLine line.End [] good_end (All-nil IsGoodLine) in
    let each = All-map IsGoodLine line.Entry levels.entries
    (All-weaker (IsLevelEntry (length levels.nodes)) (λ e. IsGoodLine (line.Entry e)) (good_entry (length levels.nodes) few) levels.entries is.each)
    in
    let entries = All-cons IsGoodLine (line.Entries (length levels.entries)) (map line.Entry levels.entries) (good_entries (length levels.entries) many) each in
    let names = All-map IsGoodLine line.Node levels.nodes (All-weaker HasValidNames (λ n. IsGoodLine (line.Node n)) good_node levels.nodes is.names) in
    let nodes = All-cons IsGoodLine (line.Nodes (length levels.nodes)) (map line.Node levels.nodes) (good_nodes (length levels.nodes) few) names in
    All-cons IsGoodLine line.Header (node_part levels.nodes ++ (entry_part levels.entries ++ line.End ∷ [])) good_header
    (All-append IsGoodLine (node_part levels.nodes) (entry_part levels.entries ++ line.End ∷ []) nodes
    (All-append IsGoodLine (entry_part levels.entries) (line.End ∷ []) entries end))

-- ---- the whole text

pub level_text_spells : (levels : Levels) → IsLevels levels → SpellsLevels (levels_text levels) levels
level_text_spells levels is = record { is = is; lines = lines_of-ended (level_lines levels) (all_good levels is) }

how_many : (levels : Levels) → length (level_lines levels) ≡ length levels.nodes + length levels.entries + 4
how_many levels =
    let one = length-append (node_part levels.nodes) (entry_part levels.entries ++ line.End ∷ []) in
    let two = length-append (entry_part levels.entries) (line.End ∷ []) in
    let nodes = length-map levels.nodes line.Node in
    let entries = length-map levels.entries line.Entry in
    omega arith

pub levels_text_is_short : (levels : Levels) → IsLevels levels → length (levels_text levels) ≤ 33554432
levels_text_is_short levels is =
    let bytes = bytes_few (level_lines levels) (all_good levels is) in
    let lines = how_many levels in
    let nodes = (is.nodes).1 in
    let entries = (is.entries).1 in
    omega arith

pub spelled_levels_are_short : (text : List ℕ) (levels : Levels) → SpellsLevels text levels → HasShortLines text
spelled_levels_are_short text levels spells =
    subst (All (λ (line : List ℕ). length line ≤ line_limit)) (sym spells.lines) (lines_short (level_lines levels) (all_good levels spells.is))

pub format_is_small : (levels : Levels) → IsLevels levels → HasSmallNumbers levels
format_is_small levels is =
    let nodes = (is.nodes).1 in
    let entries = (is.entries).1 in
    record { nodes = omega arith; entries = omega arith }
