-- What levels of the format begin with, and which line may follow.
use Rattle.std.proofs.Common.{◌≡◌, ◌≢◌, ℕ, zero, suc, ◌-◌, ◌<◌, ◌≤◌, List, [], ◌∷◌, ◌++◌, length, map, replicate, refl, sym, ap, subst, ◌∙◌, arith, Some, false}
use Rattle.std.specs.Prelude.{slice_get, IsTrue}
use Rattle.std.specs.List.{All, list_any}
use Rattle.std.specs.Str.{bytes_eq}
use Rattle.std.proofs.lemmas.Bool.{false≢true}
use Rattle.std.proofs.lemmas.Cmp.{nat_list_eq_equiv}
use Rattle.std.proofs.lemmas.List.{append_assoc, append-nil, map-append, length-append}
use Rattle.std.proofs.lemmas.List.Elements.{All-nil, All-cons, All-head, All-tail, All-append}
use Rattle.std.proofs.lemmas.Map.Views.{list_any-from_Contains}
use Rattle.std.proofs.lemmas.Option.{slice_get_within, get_or_from_slice_get}
use Rattle.cb_text.specs.Names.{IsName, IsInstance, is_name_byte, is_instance_byte, reserved_words}
use Rattle.cb_model.specs.declared.node.NodeName.{NodeName}
use Rattle.cb_cert.specs.Format.{HasValidNames}
use Rattle.cb_validity.proofs.Passing.{all_right}
use Rattle.cb_levels.specs.declared.levels.LevelEntry.{LevelEntry}
use Rattle.cb_levels.specs.declared.line.LevelLine.{LevelLine}
use Rattle.cb_levels.specs.declared.line.LevelLine.TheVariants as line
use Rattle.cb_levels.specs.Text.{node_part, entry_part, level_lines}
use Rattle.cb_levels.specs.Format.{IsLevelCount, IsLevelEntry}
use Rattle.cb_levels.specs.Faults.{AreFirstLines, AreAllLines}
use Rattle.cb_levels.specs.Steps.{node_prefix, entry_prefix}
use Rattle.cb_levels.proofs.Known.{heads, cut, cut_nodes, goes_on}

-- ---- some nodes and entries

one_letter_is_name : IsName (97 ∷ [])
one_letter_is_name = record {
  run = (refl, All-nil (λ c. IsTrue (is_name_byte c)));
  short = omega arith;
  free =
      let other : list_any (bytes_eq (97 ∷ [])) reserved_words ≡ false = refl in
      λ is. false≢true (sym other ∙ list_any-from_Contains nat_list_eq_equiv (97 ∷ []) reserved_words is);
}

one_letter_is_instance : IsInstance (97 ∷ [])
one_letter_is_instance = record {
  some = λ none. cc;
  short = omega arith;
  bytes_are = All-cons (λ b. IsTrue (is_instance_byte b)) 97 [] refl (All-nil (λ b. IsTrue (is_instance_byte b)));
}

abbrev any_node : NodeName
any_node = record { event = 97 ∷ []; instance = 97 ∷ [] }

any_node_is : HasValidNames any_node
any_node_is = (one_letter_is_name, one_letter_is_instance)

abbrev any_entry : LevelEntry
any_entry = record { node = 1; level = 0; parent = 0 }

any_entry_is : (nodes : ℕ) → IsLevelCount nodes → IsLevelEntry nodes any_entry
any_entry_is nodes count = let some = count.0 in record { node = (omega arith, omega arith); level = omega arith; parent = omega arith }

repeated : {X : Type 0} (P : X → Type 0) (n : ℕ) (x : X) → P x → All P (replicate n x)
repeated P zero x p = All-nil P
repeated P (suc n) x p = All-cons P x (replicate n x) p (repeated P n x p)

repeated_length : {X : Type 0} (n : ℕ) (x : X) → length (replicate n x) ≡ n
repeated_length zero x = refl
repeated_length (suc n) x = let rest = repeated_length n x in omega arith

-- what holds of all items holds of the one at a position
all_at : {X : Type 0} (P : X → Type 0) (xs : List X) → All P xs → (k : ℕ) (x : X) → slice_get xs k ≡ Some x → P x
all_at P xs all k x at = subst P (get_or_from_slice_get xs k x x at) (all k x (slice_get_within xs k x at))

-- ---- what levels begin with

-- fewer lines, too, are first lines
pub fewer : (xs ys : List LevelLine) → AreFirstLines (xs ++ ys) → AreFirstLines xs
fewer xs ys f = record { of = f.of; is = f.is; more = ys ++ f.more; are = f.are ∙ append_assoc xs ys f.more }

pub whole_is_first : (lines : List LevelLine) → AreAllLines lines → AreFirstLines lines
whole_is_first lines whole = record { of = whole.0; is = whole.1; more = []; are = sym whole.2 ∙ sym (append-nil lines) }

pub begins_nodes : (n : ℕ) (xs : List NodeName) → IsLevelCount n → length xs ≤ n → All HasValidNames xs → AreFirstLines (node_prefix n xs)
begins_nodes n xs counted low good =
    let rest = replicate (n - length xs) any_node in
    let nodes = xs ++ rest in
    let tail = entry_part (any_entry ∷ []) ++ line.End ∷ [] in
    let count : length nodes ≡ n = let a = length-append xs rest in let b = repeated_length (n - length xs) any_node in omega arith in
    let counted_nodes : IsLevelCount (length nodes) = subst IsLevelCount (sym count) counted in
    let names : map line.Node nodes ++ tail ≡ map line.Node xs ++ (map line.Node rest ++ tail) =
    ap (λ (ls : List LevelLine). ls ++ tail) (map-append line.Node xs rest) ∙ append_assoc (map line.Node xs) (map line.Node rest) tail
    in
    record {
      of = record { nodes = nodes; entries = any_entry ∷ [] };
      is = record {
        nodes = counted_nodes;
        names = All-append HasValidNames xs rest good (repeated HasValidNames (n - length xs) any_node any_node_is);
        entries = (omega arith, omega arith);
        each = All-cons (IsLevelEntry (length nodes)) any_entry [] (any_entry_is (length nodes) counted_nodes) (All-nil (IsLevelEntry (length nodes)));
      };
      more = map line.Node rest ++ tail;
      are = ap (λ k. line.Header ∷ line.Nodes k ∷ (map line.Node nodes ++ tail)) count ∙ ap (λ (ls : List LevelLine). line.Header ∷ line.Nodes n ∷ ls) names;
    }

pub begins_header : AreFirstLines (line.Header ∷ [])
begins_header = fewer (line.Header ∷ []) (line.Nodes 1 ∷ []) (begins_nodes 1 [] (omega arith, omega arith) (omega arith) (All-nil HasValidNames))

pub begins_entries : (nodes : List NodeName) (n : ℕ) (xs : List LevelEntry) → IsLevelCount (length nodes) → All HasValidNames nodes → IsLevelCount n → length xs ≤ n
    → All (IsLevelEntry (length nodes)) xs → AreFirstLines (entry_prefix nodes n xs)
begins_entries nodes n xs counted_nodes names counted low good =
    let E = IsLevelEntry (length nodes) in
    let rest = replicate (n - length xs) any_entry in
    let entries = xs ++ rest in
    let end = line.End ∷ [] in
    let count : length entries ≡ n = let a = length-append xs rest in let b = repeated_length (n - length xs) any_entry in omega arith in
    let each : map line.Entry entries ++ end ≡ map line.Entry xs ++ (map line.Entry rest ++ end) =
    ap (λ (ls : List LevelLine). ls ++ end) (map-append line.Entry xs rest) ∙ append_assoc (map line.Entry xs) (map line.Entry rest) end
    in
    let tail : entry_part entries ++ end ≡ (line.Entries n ∷ map line.Entry xs) ++ (map line.Entry rest ++ end) =
    ap (λ k. line.Entries k ∷ (map line.Entry entries ++ end)) count ∙ ap (λ (ls : List LevelLine). line.Entries n ∷ ls) each
    in
    record {
      of = record { nodes = nodes; entries = entries };
      is = record {
        nodes = counted_nodes;
        names = names;
        entries = subst IsLevelCount (sym count) counted;
        each = All-append E xs rest good (repeated E (n - length xs) any_entry (any_entry_is (length nodes) counted_nodes));
      };
      more = map line.Entry rest ++ end;
      are = ap (λ (ls : List LevelLine). node_prefix (length nodes) nodes ++ ls) tail
          ∙ sym (append_assoc (node_prefix (length nodes) nodes) (line.Entries n ∷ map line.Entry xs) (map line.Entry rest ++ end));
    }

-- ---- which line may follow

-- the item after the first ones
next_item : {X : Type 0} (f : X → LevelLine) (ys xs : List X) (rest : List LevelLine) (l : LevelLine) (more : List LevelLine)
    → map f ys ++ rest ≡ map f xs ++ l ∷ more → length xs < length ys → (y : X) × (slice_get ys (length xs) ≡ Some y) × (l ≡ f y)
next_item f [] xs rest l more e low = absurd (omega arith)
next_item f (y ∷ ys) [] rest l more e low = (y, refl, sym (heads (f y) l (map f ys ++ rest) more e).0)
next_item f (y ∷ ys) (x ∷ xs) rest l more e low =
    next_item f ys xs rest l more (heads (f y) (f x) (map f ys ++ rest) (map f xs ++ l ∷ more) e).1 (omega arith)

pub only_nodes : (l : LevelLine) → AreFirstLines (line.Header ∷ l ∷ []) → (n : ℕ) × IsLevelCount n × (l ≡ line.Nodes n)
only_nodes l f =
    let nodes = (f.of).nodes in
    let tail = entry_part (f.of).entries ++ line.End ∷ [] in
    let body = heads line.Header line.Header (node_part nodes ++ tail) (l ∷ f.more) f.are in
    let first = heads (line.Nodes (length nodes)) l (map line.Node nodes ++ tail) f.more body.1 in
    (length nodes, (f.is).nodes, sym first.0)

-- what follows the header and n nodes
after_nodes : (n : ℕ) (xs : List NodeName) (l : LevelLine) → (f : AreFirstLines (node_prefix n xs ++ l ∷ []))
    → (length (f.of).nodes ≡ n) × (map line.Node (f.of).nodes ++ (entry_part (f.of).entries ++ line.End ∷ []) ≡ map line.Node xs ++ l ∷ f.more)
after_nodes n xs l f =
    let nodes = (f.of).nodes in
    let tail = entry_part (f.of).entries ++ line.End ∷ [] in
    let mine = (map line.Node xs ++ l ∷ []) ++ f.more in
    let body = heads line.Header line.Header (node_part nodes ++ tail) (line.Nodes n ∷ mine) f.are in
    let first = heads (line.Nodes (length nodes)) (line.Nodes n) (map line.Node nodes ++ tail) mine body.1 in
    let count = first.0 in
    (cc, first.1 ∙ append_assoc (map line.Node xs) (l ∷ []) f.more)

pub only_node : (n : ℕ) (xs : List NodeName) (l : LevelLine) → length xs < n → AreFirstLines (node_prefix n xs ++ l ∷ []) → (x : NodeName) × HasValidNames x × (l ≡ line.Node x)
only_node n xs l low f =
    let nodes = (f.of).nodes in
    let after = after_nodes n xs l f in
    let count = after.0 in
    let next = next_item line.Node nodes xs (entry_part (f.of).entries ++ line.End ∷ []) l f.more after.1 (omega arith) in
    (next.0, all_at HasValidNames nodes (f.is).names (length xs) next.0 next.1, next.2)

pub only_entries : (xs : List NodeName) (l : LevelLine) → AreFirstLines (node_prefix (length xs) xs ++ l ∷ []) → (n : ℕ) × IsLevelCount n × (l ≡ line.Entries n)
only_entries xs l f =
    let entries = (f.of).entries in
    let after = after_nodes (length xs) xs l f in
    let parts = cut line.Node (λ x y same. cc) (f.of).nodes xs (entry_part entries ++ line.End ∷ []) (l ∷ f.more) after.0 after.1 in
    let first = heads (line.Entries (length entries)) l (map line.Entry entries ++ line.End ∷ []) f.more parts.1 in
    (length entries, (f.is).entries, sym first.0)

-- what follows the nodes and n entries
after_entries : (nodes : List NodeName) (n : ℕ) (xs : List LevelEntry) (l : LevelLine) → (f : AreFirstLines (entry_prefix nodes n xs ++ l ∷ []))
    → ((f.of).nodes ≡ nodes) × (length (f.of).entries ≡ n) × (map line.Entry (f.of).entries ++ line.End ∷ [] ≡ map line.Entry xs ++ l ∷ f.more)
after_entries nodes n xs l f =
    let entries = (f.of).entries in
    let end = line.End ∷ [] in
    let prefix = node_prefix (length nodes) nodes in
    let mine = line.Entries n ∷ map line.Entry xs in
    let tail = entry_part entries ++ end in
    let regroup : (entry_prefix nodes n xs ++ l ∷ []) ++ f.more ≡ prefix ++ (mine ++ l ∷ f.more) =
    append_assoc (entry_prefix nodes n xs) (l ∷ []) f.more ∙ append_assoc prefix mine (l ∷ f.more)
    in
    let body = heads line.Header line.Header (node_part (f.of).nodes ++ tail) (node_part nodes ++ (mine ++ l ∷ f.more)) (f.are ∙ regroup) in
    let parts = cut_nodes (f.of).nodes nodes tail (mine ++ l ∷ f.more) body.1 in
    let first = heads (line.Entries (length entries)) (line.Entries n) (map line.Entry entries ++ end) (map line.Entry xs ++ l ∷ f.more) parts.1 in
    let count = first.0 in
    (parts.0, cc, first.1)

pub only_entry : (nodes : List NodeName) (n : ℕ) (xs : List LevelEntry) (l : LevelLine) → length xs < n → AreFirstLines (entry_prefix nodes n xs ++ l ∷ [])
    → (e : LevelEntry) × IsLevelEntry (length nodes) e × (l ≡ line.Entry e)
only_entry nodes n xs l low f =
    let entries = (f.of).entries in
    let after = after_entries nodes n xs l f in
    let count = after.1 in
    let next = next_item line.Entry entries xs (line.End ∷ []) l f.more after.2 (omega arith) in
    let good = all_at (IsLevelEntry (length (f.of).nodes)) entries (f.is).each (length xs) next.0 next.1 in
    (next.0, subst (λ (ns : List NodeName). IsLevelEntry (length ns) next.0) after.0 good, next.2)

pub only_end : (nodes : List NodeName) (xs : List LevelEntry) (l : LevelLine) → AreFirstLines (entry_prefix nodes (length xs) xs ++ l ∷ []) → l ≡ line.End
only_end nodes xs l f =
    let after = after_entries nodes (length xs) xs l f in
    let parts = cut line.Entry (λ x y same. cc) (f.of).entries xs (line.End ∷ []) (l ∷ f.more) after.1 after.2 in
    sym (heads line.End l [] f.more parts.1).0

-- ---- where more lines are to come

abbrev Goes : LevelLine → Type 0
Goes l = l ≢ line.End

-- without the last line these aren't all
pub not_all : (before : List LevelLine) → All Goes before → ¬ AreAllLines before
not_all before goes (levels, is, e) =
    let end = line.End ∷ [] in
    let all = subst (All Goes) e goes in
    let body = All-tail Goes line.Header (node_part levels.nodes ++ (entry_part levels.entries ++ end)) all in
    let tail = all_right Goes (node_part levels.nodes) (entry_part levels.entries ++ end) body in
    All-head Goes line.End [] (all_right Goes (entry_part levels.entries) end tail) refl

each_goes : {X : Type 0} (f : X → LevelLine) → ((x : X) → Goes (f x)) → (xs : List X) → All Goes (map f xs)
each_goes f never [] = All-nil Goes
each_goes f never (x ∷ xs) = All-cons Goes (f x) (map f xs) (never x) (each_goes f never xs)

pub header_goes : All Goes (line.Header ∷ [])
header_goes = All-cons Goes line.Header [] (λ e. cc) (All-nil Goes)

pub nodes_go : (n : ℕ) (xs : List NodeName) → All Goes (node_prefix n xs)
nodes_go n xs =
    All-cons Goes line.Header (line.Nodes n ∷ map line.Node xs) (λ e. cc)
    (All-cons Goes (line.Nodes n) (map line.Node xs) (λ e. cc) (each_goes line.Node (λ x e. cc) xs))

pub entries_go : (nodes : List NodeName) (n : ℕ) (xs : List LevelEntry) → All Goes (entry_prefix nodes n xs)
entries_go nodes n xs =
    All-append Goes (node_prefix (length nodes) nodes) (line.Entries n ∷ map line.Entry xs) (nodes_go (length nodes) nodes)
    (All-cons Goes (line.Entries n) (map line.Entry xs) (λ e. cc) (each_goes line.Entry (λ x e. cc) xs))

-- nothing follows all lines
pub whole_ends : (lines : List LevelLine) → AreAllLines lines → (l : LevelLine) → ¬ AreFirstLines (lines ++ l ∷ [])
whole_ends lines (levels, is, e) l f =
    let longer : level_lines f.of ≡ level_lines levels ++ l ∷ f.more =
    f.are ∙ (append_assoc lines (l ∷ []) f.more ∙ ap (λ (ls : List LevelLine). ls ++ l ∷ f.more) e)
    in
    let none = (goes_on f.of levels (l ∷ f.more) longer).1 in
    cc
