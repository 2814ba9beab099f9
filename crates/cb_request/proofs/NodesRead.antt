-- A node word is read as its own bytes.
use Rattle.std.proofs.Common.{◌≡◌, ◌≤◌, ℕ, List, [], ◌∷◌, ◌++◌, Bool, true, false, ◌&&◌, nat_eq, get_or, length, codes, refl, sym, ap, ◌∙◌, subst, Some, inl, inr, arith, rules, IsTrue}
use Rattle.std.specs.Bool.{Decides}
use Rattle.std.specs.List.{All, Contains, join_with_byte, list_all, list_any, slice_split}
use Rattle.std.specs.Prelude.{◌==◌, nat_le, not, Option, None, IsSome, T, if◌then◌else◌}
use Rattle.std.specs.Str.{bytes_eq}
use Rattle.std.proofs.lemmas.Bool.{cases_eq, false≢true}
use Rattle.std.proofs.lemmas.Bool.Decides.{Decides-and, Decides-not}
use Rattle.std.proofs.lemmas.Cmp.{nat_list_eq_equiv}
use Rattle.std.proofs.lemmas.List.{append_assoc}
use Rattle.std.proofs.lemmas.List.Splits.{join_with_byte-slice_split, slice_split_at, slice_split_none}
use Rattle.std.proofs.lemmas.List.Sums.{AllPass-from_list_all, list_all-from_AllPass}
use Rattle.std.proofs.lemmas.Map.Views.{Contains-from_any, list_any-from_Contains}
use Rattle.std.proofs.lemmas.Slice.Eq.{bytes_eq-Decides}
use Rattle.cb_text.specs.Names.{IsInstance, IsName, IsNodeText, IsRun, is_instance_byte, is_letter, is_name_byte, name_limit, reserved_words}
use Rattle.cb_text.proofs.Cuts.{Lacks, name_lacks_at}
use Rattle.cb_request.specs.Laws.{NodeIsRead}
use Rattle.cb_request.specs.NodeWords.{IsNodeWord, are_node_names, is_event_name, is_instance_name, is_run, node_in}
use Rattle.cb_request.proofs.NumberWords.{le_of, of_le}

-- ---- names

all_decides : (p : ℕ → Bool) (bytes : List ℕ) → Decides (list_all p bytes) (All (λ b. IsTrue (p b)) bytes)
all_decides p bytes = (AllPass-from_list_all p bytes, list_all-from_AllPass p bytes)

le_decides : (a b : ℕ) → Decides (nat_le a b) (a ≤ b)
le_decides a b = (le_of a b, of_le a b)

run_decides : (bytes : List ℕ) → Decides (is_run bytes) (IsRun bytes)
run_decides [] = (λ is. false≢true is, λ no. absurd no)
run_decides (b ∷ bs) = Decides-and (is_letter b) (list_all is_name_byte bs) (λ is. is, λ is. is) (all_decides is_name_byte bs)

reserved_decides : (bytes : List ℕ) → Decides (list_any (bytes_eq bytes) reserved_words) (Contains reserved_words bytes)
reserved_decides bytes =
    (λ is. Contains-from_any (λ x y. (bytes_eq-Decides x y).0) bytes reserved_words is, λ has. list_any-from_Contains nat_list_eq_equiv bytes reserved_words has)

event_decides : (bytes : List ℕ) → Decides (is_event_name bytes) (IsName bytes)
event_decides bytes =
    let free = Decides-not (list_any (bytes_eq bytes) reserved_words) (reserved_decides bytes) in
    let later = Decides-and (nat_le (length bytes) name_limit) (not (list_any (bytes_eq bytes) reserved_words)) (le_decides (length bytes) name_limit) free in
    let whole = Decides-and (is_run bytes) (nat_le (length bytes) name_limit && not (list_any (bytes_eq bytes) reserved_words)) (run_decides bytes) later in (
      λ is. let parts = whole.0 is in record { run = parts.0; short = parts.1.0; free = parts.1.1 },
      λ name. whole.1 (name.run, (name.short, name.free)),
    )

some_bytes : (bytes : List ℕ) → 1 ≤ length bytes → bytes ≡ [] → ⊥
some_bytes bytes some none = let e = ap length none in omega (arith, some, e)

not_none : (bytes : List ℕ) → (bytes ≡ [] → ⊥) → 1 ≤ length bytes
not_none [] some = absurd (some refl)
not_none (b ∷ bs) some = omega arith

instance_decides : (bytes : List ℕ) → Decides (is_instance_name bytes) (IsInstance bytes)
instance_decides bytes =
    let later = Decides-and (nat_le (length bytes) name_limit) (list_all is_instance_byte bytes) (le_decides (length bytes) name_limit) (all_decides is_instance_byte bytes) in
    let whole = Decides-and (nat_le 1 (length bytes)) (nat_le (length bytes) name_limit && list_all is_instance_byte bytes) (le_decides 1 (length bytes)) later in (
      λ is. let parts = whole.0 is in record { some = some_bytes bytes parts.0; short = parts.1.0; bytes_are = parts.1.1 },
      λ name. whole.1 (not_none bytes name.some, (name.short, name.bytes_are)),
    )

both_decide : (event instance : List ℕ) → Decides (is_event_name event && is_instance_name instance) (IsName event × IsInstance instance)
both_decide event instance = Decides-and (is_event_name event) (is_instance_name instance) (event_decides event) (instance_decides instance)

-- ---- around `@`

instance_lacks_at : (bytes : List ℕ) → All (λ b. IsTrue (is_instance_byte b)) bytes → Lacks 64 bytes
instance_lacks_at bytes are k d low = byte_is_no_at (get_or bytes k d) (are k d low)
  where
    byte_is_no_at : (b : ℕ) → IsTrue (is_instance_byte b) → nat_eq b 64 ≡ false
    byte_is_no_at b is = elim (cases_eq b 64) [
      | inl at ↦ absurd (false≢true (subst (λ c. is_instance_byte c ≡ true) at is))
      | inr other ↦ search rules
    ]

node_is_split : (word event instance : List ℕ) → IsNodeText word event instance → slice_split (λ b. b == 64) word ≡ event ∷ instance ∷ []
node_is_split word event instance node =
    let cut : word ≡ event ++ 64 ∷ instance = node.written ∙ append_assoc event (codes "@") instance in
    ap (slice_split (λ b. b == 64)) cut
    ∙ (slice_split_at (λ b. b == 64) event 64 instance (name_lacks_at event node.event_is.run) refl
    ∙ ap (λ (parts : List (List ℕ)). event ∷ parts) (slice_split_none (λ b. b == 64) instance (instance_lacks_at instance node.instance_is.bytes_are)))

split_is_node : (word : List ℕ) (parts : List (List ℕ)) → join_with_byte 64 parts ≡ word → are_node_names parts ≡ true → IsNodeWord word
split_is_node word [] joined is = absurd (false≢true is)
split_is_node word (event ∷ []) joined is = absurd (false≢true is)
split_is_node word (event ∷ instance ∷ []) joined is =
    let names = (both_decide event instance).0 is in
    (event, instance, record { written = sym joined ∙ sym (append_assoc event (codes "@") instance); event_is = names.0; instance_is = names.1 })
split_is_node word (event ∷ instance ∷ more ∷ parts) joined is = absurd (false≢true is)

abbrev is_node : List ℕ → Bool
is_node word = are_node_names (slice_split (λ b. b == 64) word)

node_decides : (word : List ℕ) → Decides (is_node word) (IsNodeWord word)
node_decides word = (
  λ is. split_is_node word (slice_split (λ b. b == 64) word) (join_with_byte-slice_split 64 word) is,
  λ (event, instance, node). ap are_node_names (node_is_split word event instance node) ∙ (both_decide event instance).1 (node.event_is, node.instance_is),
)

-- ---- the word

read : (word node : List ℕ) (b : Bool) → is_node word ≡ b → (if b then Some word else None) ≡ Some node → IsNodeWord word × (word ≡ node)
read word node true e h = ((node_decides word).0 e, search (h))
read word node false e h = absurd (subst T (sym (subst (λ (o : Option (List ℕ)). IsSome o) (sym h) refl)) tt)

pub node_is_read : NodeIsRead
node_is_read word node = (
  λ h. read word node (is_node word) refl h,
  λ (is, same). rw ((node_decides word).1 is) (ap (λ (w : List ℕ). Some w) same),
)

-- a word that is no node's text is read as none
pub no_node_is_read : (word : List ℕ) → ¬ IsNodeWord word → None ≡ node_in word
no_node_is_read word none = by_case (node_in word) refl
  where
    by_case : (o : Option (List ℕ)) → node_in word ≡ o → None ≡ o
    by_case None e = refl
    by_case (Some n) e = absurd (none ((node_is_read word n).0 e).0)
