-- A line is known by its text.
use Rattle.std.proofs.Common.{◌≡◌, ℕ, ◌^◌, ◌<◌, ◌≤◌, List, [], ◌∷◌, ◌++◌, length, map, get_or, codes, refl, sym, ap, subst, ◌∙◌, arith, true, false, nat_eq, rules}
use Rattle.std.specs.Fmt.{decimal}
use Rattle.std.specs.List.{All}
use Rattle.std.proofs.lemmas.Fmt.{decimal_injective}
use Rattle.std.proofs.lemmas.List.{append_assoc, append_cancel_left}
use Rattle.std.proofs.lemmas.List.Elements.{All-nil, All-cons, All-append, All-map, All-weaker}
use Rattle.cb_text.specs.Names.{IsRun}
use Rattle.cb_model.specs.declared.node.NodeName.{NodeName}
use Rattle.cb_cert.specs.declared.line.CertificateLine.TheVariants as cert
use Rattle.cb_cert.specs.Format.{HasValidNames, certificate_node_limit}
use Rattle.cb_cert.proofs.LineTexts.{cut_once, digits_lack_space, line_text_one as cert_line_one}
use Rattle.cb_levels.specs.declared.levels.LevelEntry.{LevelEntry}
use Rattle.cb_levels.specs.declared.levels.Levels.{Levels}
use Rattle.cb_levels.specs.declared.line.LevelLine.{LevelLine}
use Rattle.cb_levels.specs.declared.line.LevelLine.TheVariants as line
use Rattle.cb_levels.specs.Text.{node_part, entry_part, level_lines, level_line_text}
use Rattle.cb_levels.specs.Format.{IsLevelEntry, IsLevels}
use Rattle.cb_levels.specs.Numbers.{level_numbers_text}

-- the numbers of an entry have at most 64 bits
pub record IsSmallEntry (e : LevelEntry) : Type 0 where
  pub node : e.node < 2 ^ 64
  pub level : e.level < 2 ^ 64
  pub parent : e.parent < 2 ^ 64

-- the numbers of a line have at most 64 bits, and the event of a node is a name
abbrev pub IsSmallLine : LevelLine → Type 0
IsSmallLine (line.Nodes n) = n < 2 ^ 64
IsSmallLine (line.Node n) = IsRun n.event
IsSmallLine (line.Entries n) = n < 2 ^ 64
IsSmallLine (line.Entry e) = IsSmallEntry e
IsSmallLine l = Unit {0}

pub entry_is_small : (n : ℕ) → n ≤ certificate_node_limit → (e : LevelEntry) → IsLevelEntry n e → IsSmallEntry e
entry_is_small n few e is =
    let within = (is.node).1 in
    let level = is.level in
    let parent = is.parent in
    record { node = omega arith; level = omega arith; parent = omega arith }

-- all lines of levels of the format are small
pub all_small : (levels : Levels) → IsLevels levels → All IsSmallLine (level_lines levels)
all_small levels is =
    let few = (is.nodes).1 in
    let many = (is.entries).1 in
    let end = All-cons IsSmallLine line.End [] tt (All-nil IsSmallLine) in
    let each = All-map IsSmallLine line.Entry levels.entries
    (All-weaker (IsLevelEntry (length levels.nodes)) (λ e. IsSmallLine (line.Entry e)) (λ e good. entry_is_small (length levels.nodes) few e good) levels.entries is.each)
    in
    let entries = All-cons IsSmallLine (line.Entries (length levels.entries)) (map line.Entry levels.entries) (omega arith) each in
    let names = All-map IsSmallLine line.Node levels.nodes (All-weaker HasValidNames (λ n. IsSmallLine (line.Node n)) (λ n good. good.0.run) levels.nodes is.names) in
    let nodes = All-cons IsSmallLine (line.Nodes (length levels.nodes)) (map line.Node levels.nodes) (omega arith) names in
    All-cons IsSmallLine line.Header (node_part levels.nodes ++ (entry_part levels.entries ++ line.End ∷ [])) tt
    (All-append IsSmallLine (node_part levels.nodes) (entry_part levels.entries ++ line.End ∷ []) nodes
    (All-append IsSmallLine (entry_part levels.entries) (line.End ∷ []) entries end))

-- the line of an entry is a word and three numbers
pub entry_text : (e : LevelEntry) → level_line_text (line.Entry e) ≡ codes "entry " ++ level_numbers_text e
entry_text e =
    let word = codes "entry " in
    let gap = codes " " in
    let node = decimal e.node in
    let level = decimal e.level in
    let parent = decimal e.parent in
    append_assoc (word ++ node ++ gap ++ level) gap parent
    ∙ (append_assoc (word ++ node ++ gap) level (gap ++ parent)
    ∙ (append_assoc (word ++ node) gap (level ++ (gap ++ parent)) ∙ append_assoc word node (gap ++ (level ++ (gap ++ parent)))))

pub numbers_one : (x y : LevelEntry) → IsSmallEntry x → IsSmallEntry y → level_numbers_text x ≡ level_numbers_text y → x ≡ y
numbers_one x y small_x small_y e =
    let first = cut_once 32 (decimal x.node) (decimal x.level ++ 32 ∷ decimal x.parent) (decimal y.node) (decimal y.level ++ 32 ∷ decimal y.parent)
    (digits_lack_space x.node small_x.node) (digits_lack_space y.node small_y.node) e
    in
    let second = cut_once 32 (decimal x.level) (decimal x.parent) (decimal y.level) (decimal y.parent)
    (digits_lack_space x.level small_x.level) (digits_lack_space y.level small_y.level) first.1
    in
    let node = decimal_injective x.node y.node small_x.node small_y.node first.0 in
    let level = decimal_injective x.level y.level small_x.level small_y.level second.0 in
    let parent = decimal_injective x.parent y.parent small_x.parent small_y.parent second.1 in
    λ i. record { node = node i; level = level i; parent = parent i }

pub entry_text_one : (x y : LevelEntry) → IsSmallEntry x → IsSmallEntry y → level_line_text (line.Entry x) ≡ level_line_text (line.Entry y) → x ≡ y
entry_text_one x y small_x small_y e =
    numbers_one x y small_x small_y (append_cancel_left (codes "entry ") (level_numbers_text x) (level_numbers_text y) (sym (entry_text x) ∙ (e ∙ entry_text y)))

-- texts that differ in a byte
clash : (k : ℕ) (xs ys : List ℕ) → nat_eq (get_or xs k 0) (get_or ys k 0) ≡ false → xs ≡ ys → ⊥
clash k xs ys differ same =
    let itself : nat_eq (get_or ys k 0) (get_or ys k 0) ≡ true = search rules in
    let at : nat_eq (get_or ys k 0) (get_or ys k 0) ≡ false = subst (λ (zs : List ℕ). nat_eq (get_or zs k 0) (get_or ys k 0) ≡ false) same differ in
    cc

-- a number after a word
numbers : (word : List ℕ) (m n : ℕ) → m < 2 ^ 64 → n < 2 ^ 64 → word ++ decimal m ≡ word ++ decimal n → m ≡ n
numbers word m n small_m small_n e = decimal_injective m n small_m small_n (append_cancel_left word (decimal m) (decimal n) e)

same_node : (m n : NodeName) → IsRun m.event → IsRun n.event → level_line_text (line.Node m) ≡ level_line_text (line.Node n) → m ≡ n
same_node m n run_m run_n e = let same = cert_line_one (cert.Node m) (cert.Node n) run_m run_n e in cc

-- lines of one text are one
pub line_text_one : (l m : LevelLine) → IsSmallLine l → IsSmallLine m → level_line_text l ≡ level_line_text m → l ≡ m
line_text_one line.Header line.Header s u e = refl
line_text_one line.Header (line.Nodes n') s u e = absurd (clash 0 (level_line_text line.Header) (level_line_text (line.Nodes n')) refl e)
line_text_one line.Header (line.Node n') s u e = absurd (clash 0 (level_line_text line.Header) (level_line_text (line.Node n')) refl e)
line_text_one line.Header (line.Entries n') s u e = absurd (clash 0 (level_line_text line.Header) (level_line_text (line.Entries n')) refl e)
line_text_one line.Header (line.Entry e') s u e = absurd (clash 0 (level_line_text line.Header) (level_line_text (line.Entry e')) refl e)
line_text_one line.Header line.End s u e = absurd (clash 0 (level_line_text line.Header) (level_line_text line.End) refl e)
line_text_one (line.Nodes n) line.Header s u e = absurd (clash 0 (level_line_text (line.Nodes n)) (level_line_text line.Header) refl e)
line_text_one (line.Nodes n) (line.Nodes n') s u e = ap line.Nodes (numbers (codes "nodes ") n n' s u e)
line_text_one (line.Nodes n) (line.Node n') s u e = absurd (clash 4 (level_line_text (line.Nodes n)) (level_line_text (line.Node n')) refl e)
line_text_one (line.Nodes n) (line.Entries n') s u e = absurd (clash 0 (level_line_text (line.Nodes n)) (level_line_text (line.Entries n')) refl e)
line_text_one (line.Nodes n) (line.Entry e') s u e = absurd (clash 0 (level_line_text (line.Nodes n)) (level_line_text (line.Entry e')) refl e)
line_text_one (line.Nodes n) line.End s u e = absurd (clash 0 (level_line_text (line.Nodes n)) (level_line_text line.End) refl e)
line_text_one (line.Node n) line.Header s u e = absurd (clash 0 (level_line_text (line.Node n)) (level_line_text line.Header) refl e)
line_text_one (line.Node n) (line.Nodes n') s u e = absurd (clash 4 (level_line_text (line.Node n)) (level_line_text (line.Nodes n')) refl e)
line_text_one (line.Node n) (line.Node n') s u e = ap line.Node (same_node n n' s u e)
line_text_one (line.Node n) (line.Entries n') s u e = absurd (clash 0 (level_line_text (line.Node n)) (level_line_text (line.Entries n')) refl e)
line_text_one (line.Node n) (line.Entry e') s u e = absurd (clash 0 (level_line_text (line.Node n)) (level_line_text (line.Entry e')) refl e)
line_text_one (line.Node n) line.End s u e = absurd (clash 0 (level_line_text (line.Node n)) (level_line_text line.End) refl e)
line_text_one (line.Entries n) line.Header s u e = absurd (clash 0 (level_line_text (line.Entries n)) (level_line_text line.Header) refl e)
line_text_one (line.Entries n) (line.Nodes n') s u e = absurd (clash 0 (level_line_text (line.Entries n)) (level_line_text (line.Nodes n')) refl e)
line_text_one (line.Entries n) (line.Node n') s u e = absurd (clash 0 (level_line_text (line.Entries n)) (level_line_text (line.Node n')) refl e)
line_text_one (line.Entries n) (line.Entries n') s u e = ap line.Entries (numbers (codes "entries ") n n' s u e)
line_text_one (line.Entries n) (line.Entry e') s u e = absurd (clash 4 (level_line_text (line.Entries n)) (level_line_text (line.Entry e')) refl e)
line_text_one (line.Entries n) line.End s u e = absurd (clash 2 (level_line_text (line.Entries n)) (level_line_text line.End) refl e)
line_text_one (line.Entry x) line.Header s u e = absurd (clash 0 (level_line_text (line.Entry x)) (level_line_text line.Header) refl e)
line_text_one (line.Entry x) (line.Nodes n') s u e = absurd (clash 0 (level_line_text (line.Entry x)) (level_line_text (line.Nodes n')) refl e)
line_text_one (line.Entry x) (line.Node n') s u e = absurd (clash 0 (level_line_text (line.Entry x)) (level_line_text (line.Node n')) refl e)
line_text_one (line.Entry x) (line.Entries n') s u e = absurd (clash 4 (level_line_text (line.Entry x)) (level_line_text (line.Entries n')) refl e)
line_text_one (line.Entry x) (line.Entry y) s u e = ap line.Entry (entry_text_one x y s u e)
line_text_one (line.Entry x) line.End s u e = absurd (clash 2 (level_line_text (line.Entry x)) (level_line_text line.End) refl e)
line_text_one line.End line.Header s u e = absurd (clash 0 (level_line_text line.End) (level_line_text line.Header) refl e)
line_text_one line.End (line.Nodes n') s u e = absurd (clash 0 (level_line_text line.End) (level_line_text (line.Nodes n')) refl e)
line_text_one line.End (line.Node n') s u e = absurd (clash 0 (level_line_text line.End) (level_line_text (line.Node n')) refl e)
line_text_one line.End (line.Entries n') s u e = absurd (clash 2 (level_line_text line.End) (level_line_text (line.Entries n')) refl e)
line_text_one line.End (line.Entry y) s u e = absurd (clash 2 (level_line_text line.End) (level_line_text (line.Entry y)) refl e)
line_text_one line.End line.End s u e = refl
