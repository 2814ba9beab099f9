-- A list that is cut at a byte which its prefix lacks.
use Rattle.std.proofs.Common.{◌≡◌, ℕ, ◌+◌, ◌<◌, length, take, drop, true, false, nat_eq, get_or, List, [], ◌∷◌, ◌++◌, ap, sym, subst, refl, ◌∙◌, inl, inr, arith, rules, IsTrue, Some, codes}
use Rattle.std.specs.List.{All, slice_split}
use Rattle.std.proofs.lemmas.Bool.{cases_eq, false≢true, eqb-true, false_from_ne_true}
use Rattle.std.proofs.lemmas.List.{append_cancel_left, append_assoc, take-append-drop, drop_more, length-take, get_or-take, get_or_default}
use Rattle.std.proofs.lemmas.List.Elements.{All-cons}
use Rattle.std.proofs.lemmas.List.Splits.{slice_split_at}
use Rattle.memchr.specs.Find.{IsFirstByte, is_byte}
use Rattle.cb_text.specs.Names.{is_letter, is_name_byte, IsRun, IsNodeText, NodesAreReadOnce}

-- no byte is the cut
abbrev pub Lacks : ℕ → List ℕ → Type 0
Lacks cut bytes = All (λ b. nat_eq b cut ≡ false) bytes

module _ (cut : ℕ) (prefix back other_prefix other_back : List ℕ) (lacks : Lacks cut prefix) (other_lacks : Lacks cut other_prefix)
    (same : prefix ++ cut ∷ back ≡ other_prefix ++ cut ∷ other_back) where
  prefixes_are_one : prefix ≡ other_prefix
  prefixes_are_one =
      let here = slice_split_at (λ b. nat_eq b cut) prefix cut back lacks (search rules) in
      let there = slice_split_at (λ b. nat_eq b cut) other_prefix cut other_back other_lacks (search rules) in
      let both = sym here ∙ (ap (slice_split (λ b. nat_eq b cut)) same ∙ there) in
      cc both

  -- both parts are determined
  cut_once : (prefix ≡ other_prefix) × (back ≡ other_back)
  cut_once =
      let tails = append_cancel_left prefix (cut ∷ back) (cut ∷ other_back) (same ∙ ap (λ (f : List ℕ). f ++ cut ∷ other_back) (sym prefixes_are_one)) in
      (prefixes_are_one, cc tails)

-- `@` is no byte of a name
byte_is_no_at : (b : ℕ) → IsTrue (is_name_byte b) → nat_eq b 64 ≡ false
byte_is_no_at b is = elim (cases_eq b 64) [
  | inl at ↦ absurd (false≢true (subst (λ c. is_name_byte c ≡ true) at is))
  | inr other ↦ search rules
]

letter_is_name_byte : (b : ℕ) → IsTrue (is_letter b) → IsTrue (is_name_byte b)
letter_is_name_byte b letter = rw letter refl

-- nor stands it in a name
pub name_lacks_at : (bytes : List ℕ) → IsRun bytes → Lacks 64 bytes
name_lacks_at [] run = absurd run
name_lacks_at (b ∷ bs) run =
    All-cons (λ c. nat_eq c 64 ≡ false) b bs (byte_is_no_at b (letter_is_name_byte b run.0)) (λ k d low. byte_is_no_at (get_or bs k d) (run.1 k d low))

-- a node is its event, `@` and its instance
node_is_cut : (bytes event instance : List ℕ) → IsNodeText bytes event instance → bytes ≡ event ++ 64 ∷ instance
node_is_cut bytes event instance node = node.written ∙ append_assoc event (codes "@") instance

-- so a node's bytes have one event and one instance
pub node_read_once : NodesAreReadOnce
node_read_once bytes event instance other_event other_instance node other =
    cut_once 64 event instance other_event other_instance (name_lacks_at event node.event_is.run)
    (name_lacks_at other_event other.event_is.run) (sym (node_is_cut bytes event instance node) ∙ node_is_cut bytes other_event other_instance other)

-- a node's event ends at the first `@`, and its instance begins after it
pub node_parts_are : (bytes event instance : List ℕ) (at : ℕ) → IsFirstByte (is_byte 64) bytes (Some at) → IsNodeText bytes event instance →
    (event ≡ take at bytes) × (instance ≡ drop (at + 1) bytes)
node_parts_are bytes event instance at first node =
    let low : at < length bytes = first.0.high in
    let lacks : Lacks 64 (take at bytes) = λ k d inside.
    let below : k < at = omega (arith, inside, length-take at bytes) in
    let here : get_or (take at bytes) k d ≡ get_or bytes k 0 = get_or-take at bytes k d below ∙ get_or_default bytes k d 0 (omega arith) in
    ap (λ b. nat_eq b 64) here ∙ false_from_ne_true _ (first.0.before k (omega arith) below) in
    let rest : drop at bytes ≡ 64 ∷ drop (at + 1) bytes = drop_more bytes at 0 low ∙ ap (λ b. b ∷ drop (at + 1) bytes) (eqb-true (get_or bytes at 0) 64 first.1) in
    let whole : bytes ≡ take at bytes ++ 64 ∷ drop (at + 1) bytes = sym (take-append-drop at bytes) ∙ ap (λ (l : List ℕ). take at bytes ++ l) rest in
    cut_once 64 event instance (take at bytes) (drop (at + 1) bytes) (name_lacks_at event node.event_is.run) lacks (sym (node_is_cut bytes event instance node) ∙ whole)
