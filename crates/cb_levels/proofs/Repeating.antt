-- Nodes and entries that are read one after the other.
use Rattle.std.proofs.Common.{◌≡◌, ◌≢◌, ℕ, ◌+◌, ◌<◌, List, [], ◌∷◌, ◌++◌, length, map, codes, refl, sym, ap, subst, ◌∙◌, arith}
use Rattle.std.specs.Fmt.{decimal}
use Rattle.std.specs.List.{All}
use Rattle.std.proofs.lemmas.List.{append_assoc, map-append, length-append}
use Rattle.std.proofs.lemmas.List.Elements.{All-nil, All-push}
use Rattle.cb_model.specs.declared.node.NodeName.{NodeName}
use Rattle.cb_cert.specs.Format.{HasValidNames}
use Rattle.cb_levels.specs.declared.fault.LevelText.{LevelText}
use Rattle.cb_levels.specs.declared.levels.LevelEntry.{LevelEntry}
use Rattle.cb_levels.specs.declared.line.LevelLine.{LevelLine}
use Rattle.cb_levels.specs.declared.line.LevelLine.TheVariants as line
use Rattle.cb_levels.specs.declared.reader.LevelReader.{LevelReader}
use Rattle.cb_levels.specs.Text.{level_line_text}
use Rattle.cb_levels.specs.Format.{IsLevelCount, IsLevelEntry}
use Rattle.cb_levels.specs.Steps.{node_prefix, entry_prefix, HasReadLines, ReadsLine, MissesLine, StopsFor, AreNodesRead, AreLevelsRead}
use Rattle.cb_levels.proofs.Expecting.{took, missed, count_of_nodes, next_node, count_of_entries, next_entry}

-- ---- nodes

-- the first i nodes are read
pub record NodesSoFar (old now : LevelReader) (count i : ℕ) (xs : List NodeName) : Type 0 where
  pub counted : IsLevelCount count
  pub many : length xs ≡ i
  pub good : All HasValidNames xs
  pub read : (text : List ℕ) → HasReadLines text old (line.Header ∷ []) → HasReadLines text now (node_prefix count xs)

pub nodes_none : (old now : LevelReader) (count : ℕ) → ReadsLine old now (codes "nodes " ++ decimal count) × IsLevelCount count → NodesSoFar old now count 0 []
nodes_none old now count takes = record {
  counted = takes.1;
  many = refl;
  good = All-nil HasValidNames;
  read = λ text read. took text old now (line.Header ∷ []) (line.Nodes count) read takes.0;
}

pub no_count_of_nodes : (old : LevelReader) (why : LevelText) → MissesLine old (λ met. (n : ℕ) → IsLevelCount n → met ≢ codes "nodes " ++ decimal n) why
    → (text : List ℕ) → HasReadLines text old (line.Header ∷ []) → StopsFor text why
no_count_of_nodes old why miss text read = missed (line.Header ∷ []) (λ n. codes "nodes " ++ decimal n) IsLevelCount count_of_nodes text old read why miss

module _ (old now : LevelReader) (count i : ℕ) (xs : List NodeName) (so_far : NodesSoFar old now count i xs) where
  pub nodes_more : (new : LevelReader) (x : NodeName) → ReadsLine now new (level_line_text (line.Node x)) × HasValidNames x → NodesSoFar old new count (i + 1) (xs ++ x ∷ [])
  nodes_more new x takes = record {
    counted = so_far.counted;
    many = omega (arith, so_far.many, length-append xs (x ∷ []));
    good = All-push HasValidNames xs x so_far.good takes.1;
    read = λ text read.
        subst (λ ls. HasReadLines text new (line.Header ∷ line.Nodes count ∷ ls)) (sym (map-append line.Node xs (x ∷ [])))
        (took text now new (node_prefix count xs) (line.Node x) (so_far.read text read) takes.0);
  }

  pub no_node : i < count → (why : LevelText) → MissesLine now (λ met. (x : NodeName) → HasValidNames x → met ≢ level_line_text (line.Node x)) why
      → (text : List ℕ) → HasReadLines text old (line.Header ∷ []) → StopsFor text why
  no_node low why miss text read =
      missed (node_prefix count xs) (λ x. level_line_text (line.Node x)) HasValidNames (next_node count xs so_far.counted (omega (arith, so_far.many)) so_far.good) text now
      (so_far.read text read) why miss

  pub nodes_all : i ≡ count → (text : List ℕ) → HasReadLines text old (line.Header ∷ []) → AreNodesRead text now xs
  nodes_all all text read =
      let same : count ≡ length xs = omega (arith, so_far.many) in
      record {
        count = subst IsLevelCount same so_far.counted;
        names = so_far.good;
        read = subst (λ k. HasReadLines text now (node_prefix k xs)) same (so_far.read text read);
      }

-- ---- entries

-- the first i entries are read, among m nodes
pub record EntriesSoFar (m : ℕ) (old now : LevelReader) (count i : ℕ) (xs : List LevelEntry) : Type 0 where
  pub counted : IsLevelCount count
  pub many : length xs ≡ i
  pub good : All (IsLevelEntry m) xs
  pub read : (text : List ℕ) (nodes : List NodeName) → length nodes ≡ m → AreNodesRead text old nodes → HasReadLines text now (entry_prefix nodes count xs)

pub entries_none : (m : ℕ) (old now : LevelReader) (count : ℕ) → ReadsLine old now (codes "entries " ++ decimal count) × IsLevelCount count
    → EntriesSoFar m old now count 0 []
entries_none m old now count takes = record {
  counted = takes.1;
  many = refl;
  good = All-nil (IsLevelEntry m);
  read = λ text nodes same read. took text old now (node_prefix (length nodes) nodes) (line.Entries count) read.read takes.0;
}

pub no_count_of_entries : (m : ℕ) (old : LevelReader) (why : LevelText)
    → MissesLine old (λ met. (n : ℕ) → IsLevelCount n → met ≢ codes "entries " ++ decimal n) why
    → (text : List ℕ) (nodes : List NodeName) → length nodes ≡ m → AreNodesRead text old nodes → StopsFor text why
no_count_of_entries m old why miss text nodes same read =
    missed (node_prefix (length nodes) nodes) (λ n. codes "entries " ++ decimal n) IsLevelCount (count_of_entries nodes read.count read.names) text old read.read why miss

module _ (m : ℕ) (old now : LevelReader) (count i : ℕ) (xs : List LevelEntry) (so_far : EntriesSoFar m old now count i xs) where
  pub entries_more : (new : LevelReader) (x : LevelEntry) → ReadsLine now new (level_line_text (line.Entry x)) × IsLevelEntry m x
      → EntriesSoFar m old new count (i + 1) (xs ++ x ∷ [])
  entries_more new x takes = record {
    counted = so_far.counted;
    many = omega (arith, so_far.many, length-append xs (x ∷ []));
    good = All-push (IsLevelEntry m) xs x so_far.good takes.1;
    read = λ text nodes same read.
        let prefix = node_prefix (length nodes) nodes in
        let lines : entry_prefix nodes count xs ++ line.Entry x ∷ [] ≡ entry_prefix nodes count (xs ++ x ∷ []) =
        append_assoc prefix (line.Entries count ∷ map line.Entry xs) (line.Entry x ∷ [])
        ∙ ap (λ (ls : List LevelLine). prefix ++ line.Entries count ∷ ls) (sym (map-append line.Entry xs (x ∷ [])))
        in
        subst (HasReadLines text new) lines (took text now new (entry_prefix nodes count xs) (line.Entry x) (so_far.read text nodes same read) takes.0);
  }

  pub no_entry : i < count → (why : LevelText) → MissesLine now (λ met. (x : LevelEntry) → IsLevelEntry m x → met ≢ level_line_text (line.Entry x)) why
      → (text : List ℕ) (nodes : List NodeName) → length nodes ≡ m → AreNodesRead text old nodes → StopsFor text why
  no_entry low why miss text nodes same read =
      let good = subst (λ k. All (IsLevelEntry k) xs) (sym same) so_far.good in
      let missing = subst (λ k. MissesLine now (λ met. (x : LevelEntry) → IsLevelEntry k x → met ≢ level_line_text (line.Entry x)) why) (sym same) miss in
      missed (entry_prefix nodes count xs) (λ x. level_line_text (line.Entry x)) (IsLevelEntry (length nodes))
      (next_entry nodes count xs read.count read.names so_far.counted (omega (arith, so_far.many)) good) text now (so_far.read text nodes same read) why missing

  pub entries_all : i ≡ count → (text : List ℕ) (nodes : List NodeName) → length nodes ≡ m → AreNodesRead text old nodes
      → AreLevelsRead text now (record { nodes = nodes; entries = xs })
  entries_all all text nodes same read =
      let count_is : count ≡ length xs = omega (arith, so_far.many) in
      record {
        is = record {
          nodes = read.count;
          names = read.names;
          entries = subst IsLevelCount count_is so_far.counted;
          each = subst (λ k. All (IsLevelEntry k) xs) (sym same) so_far.good;
        };
        read = subst (λ k. HasReadLines text now (entry_prefix nodes k xs)) count_is (so_far.read text nodes same read);
      }
