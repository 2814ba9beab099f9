-- Words at the start.
use Rattle.std.proofs.Common.{◌≡◌, ◌≢◌, ℕ, ◌<◌, ◌≤◌, ◌^◌, ◌+◌, ◌-◌, List, ◌∷◌, ◌++◌, length, take, drop, get_or, suc, codes, nat_eq, Some, None, refl, sym, ap, subst, ◌∙◌, arith}
use Rattle.std.specs.Fmt.{decimal}
use Rattle.std.proofs.lemmas.Bool.{eqb-true, eq-eqb, false_from_ne_true}
use Rattle.memchr.specs.Find.{IsFirstByte, is_byte}
use Rattle.cb_text.proofs.Cuts.{Lacks}
use Rattle.cb_cert.specs.declared.certificate.Entry.{Entry}
use Rattle.cb_cert.specs.declared.line.CertificateLine.TheVariants as line
use Rattle.cb_cert.specs.Lines.{line_text}
use Rattle.cb_cert.specs.LineForms.{IsShortEntry, IsNoPair, IsNoEntry, numbers_text}
use Rattle.cb_cert.specs.Format.{IsBetween, IsEntry}
use Rattle.cb_cert.proofs.LineTexts.{cut_once, digits_lack_space, same_entry}
use Rattle.std.proofs.lemmas.List.{append_assoc, take_at, take_rest, drop_more, length-take, get_or-take, get_or_default, get_or_at, take-append-drop, length-append, append_cancel_left}
use Rattle.std.proofs.lemmas.Fmt.{decimal_injective}

-- what does not begin with the word has no rest after it
pub no_rest_short : (bytes word : List ℕ) → length bytes < length word → (rest : List ℕ) → bytes ≢ word ++ rest
no_rest_short bytes word short rest e = let l = ap length e in let m = length-append word rest in omega arith

pub no_rest_other : (bytes word : List ℕ) → take (length word) bytes ≢ word → (rest : List ℕ) → bytes ≢ word ++ rest
no_rest_other bytes word other rest e = other (ap (take (length word)) e ∙ take_at word rest (length word) refl)

pub too_great : (bytes : List ℕ) (m : ℕ) → m < 2 ^ 64 → bytes ≡ decimal m → 4294967296 ≤ m → (n : ℕ) → n < 2 ^ 32 → bytes ≢ decimal n
too_great bytes m small is great n low e = let same = decimal_injective m n small (omega arith) (sym is ∙ e) in omega arith

pub no_number : (bytes word rest : List ℕ) → bytes ≡ word ++ rest → ((n : ℕ) → n < 2 ^ 32 → rest ≢ decimal n) → (n : ℕ) → n < 2 ^ 32 → bytes ≢ word ++ decimal n
no_number bytes word rest is none n low e = none n low (append_cancel_left word rest (decimal n) (sym is ∙ e))

pub word_and_rest : (bytes word : List ℕ) → length word ≤ length bytes → take (length word) bytes ≡ word
    → bytes ≡ word ++ take (length bytes - length word) (drop (length word) bytes)
word_and_rest bytes word long is =
    sym (take-append-drop (length word) bytes)
    ∙ (ap (λ (f : List ℕ). f ++ drop (length word) bytes) is ∙ ap (λ (r : List ℕ). word ++ r) (sym (take_rest bytes (length word))))

-- bytes are cut at the first space
pub cut_at_space : (bytes : List ℕ) (at : ℕ) → IsFirstByte (is_byte 32) bytes (Some at) → bytes ≡ take at bytes ++ 32 ∷ drop (at + 1) bytes
cut_at_space bytes at first =
    let low : at < length bytes = first.0.high in
    let rest : drop at bytes ≡ 32 ∷ drop (at + 1) bytes = drop_more bytes at 0 low ∙ ap (λ b. b ∷ drop (at + 1) bytes) (eqb-true (get_or bytes at 0) 32 first.1) in
    sym (take-append-drop at bytes) ∙ ap (λ (l : List ℕ). take at bytes ++ l) rest

pub prefix_lacks_space : (bytes : List ℕ) (at : ℕ) → IsFirstByte (is_byte 32) bytes (Some at) → Lacks 32 (take at bytes)
prefix_lacks_space bytes at first k d inside =
    let low : at < length bytes = first.0.high in
    let below : k < at = omega (arith, inside, length-take at bytes) in
    let here : get_or (take at bytes) k d ≡ get_or bytes k 0 = get_or-take at bytes k d below ∙ get_or_default bytes k d 0 (omega arith) in
    ap (λ b. nat_eq b 32) here ∙ false_from_ne_true _ (first.0.before k (omega arith) below)

-- an entry's numbers stand before and after the first space
pub pair_parts : (bytes : List ℕ) (at : ℕ) (e : Entry) → IsFirstByte (is_byte 32) bytes (Some at) → IsShortEntry e → bytes ≡ numbers_text e
    → (take at bytes ≡ decimal e.node) × (drop (at + 1) bytes ≡ decimal e.parent)
pair_parts bytes at e first short is =
    let node = short.0 in
    let joined : take at bytes ++ 32 ∷ drop (at + 1) bytes ≡ decimal e.node ++ 32 ∷ decimal e.parent =
    sym (cut_at_space bytes at first) ∙ (is ∙ append_assoc (decimal e.node) (codes " ") (decimal e.parent))
    in
    cut_once 32 (take at bytes) (drop (at + 1) bytes) (decimal e.node) (decimal e.parent) (prefix_lacks_space bytes at first)
    (digits_lack_space e.node (omega arith)) joined

pub no_space : (bytes : List ℕ) → IsFirstByte (is_byte 32) bytes None → IsNoPair bytes
no_space bytes none e short is =
    let whole : bytes ≡ decimal e.node ++ 32 ∷ decimal e.parent = is ∙ append_assoc (decimal e.node) (codes " ") (decimal e.parent) in
    let k = length (decimal e.node) in
    let at : get_or bytes k 0 ≡ 32 = ap (λ (bs : List ℕ). get_or bs k 0) whole ∙ get_or_at (decimal e.node) 32 (decimal e.parent) 0 k refl in
    let long : length bytes ≡ k + suc (length (decimal e.parent)) = ap length whole ∙ length-append (decimal e.node) (32 ∷ decimal e.parent) in
    none k (omega arith) (omega arith) (eq-eqb (get_or bytes k 0) 32 at)

pub is_pair : (bytes : List ℕ) (at : ℕ) (e : Entry) → IsFirstByte (is_byte 32) bytes (Some at) → take at bytes ≡ decimal e.node
    → take (length bytes - (at + 1)) (drop (at + 1) bytes) ≡ decimal e.parent → bytes ≡ numbers_text e
is_pair bytes at e first node parent =
    cut_at_space bytes at first
    ∙ (ap (λ (f : List ℕ). f ++ 32 ∷ drop (at + 1) bytes) node
    ∙ (ap (λ (r : List ℕ). decimal e.node ++ 32 ∷ r) (sym (take_rest bytes (at + 1)) ∙ parent) ∙ sym (append_assoc (decimal e.node) (codes " ") (decimal e.parent))))

pub no_node : (bytes : List ℕ) (at : ℕ) → IsFirstByte (is_byte 32) bytes (Some at) → ((n : ℕ) → n < 2 ^ 32 → take at bytes ≢ decimal n) → IsNoPair bytes
no_node bytes at first none e short is = none e.node short.0 (pair_parts bytes at e first short is).0

pub no_parent : (bytes : List ℕ) (at : ℕ) → IsFirstByte (is_byte 32) bytes (Some at)
    → ((n : ℕ) → n < 2 ^ 32 → take (length bytes - (at + 1)) (drop (at + 1) bytes) ≢ decimal n) → IsNoPair bytes
no_parent bytes at first none e short is = none e.parent short.1 (take_rest bytes (at + 1) ∙ (pair_parts bytes at e first short is).1)

pub no_entry : (bytes rest : List ℕ) → bytes ≡ codes "entry " ++ rest → IsNoPair rest → IsNoEntry bytes
no_entry bytes rest is none e short same =
    let back = append_assoc (codes "entry " ++ decimal e.node) (codes " ") (decimal e.parent) ∙ append_assoc (codes "entry ") (decimal e.node) (32 ∷ decimal e.parent) in
    let joined = append_cancel_left (codes "entry ") rest (decimal e.node ++ 32 ∷ decimal e.parent) (sym is ∙ (same ∙ back)) in
    none e short (joined ∙ sym (append_assoc (decimal e.node) (codes " ") (decimal e.parent)))

pub entry_beyond : (bytes rest : List ℕ) (e : Entry) → bytes ≡ codes "entry " ++ rest → rest ≡ numbers_text e → bytes ≡ line_text (line.Entry e)
entry_beyond bytes rest e is numbers =
    let back = append_assoc (codes "entry " ++ decimal e.node) (codes " ") (decimal e.parent) ∙ append_assoc (codes "entry ") (decimal e.node) (32 ∷ decimal e.parent) in
    is ∙ (ap (λ (r : List ℕ). codes "entry " ++ r) (numbers ∙ append_assoc (decimal e.node) (codes " ") (decimal e.parent)) ∙ sym back)

-- after the word there is a number, and it is out of range
pub other_number : (word met : List ℕ) (k least most : ℕ) → k < 2 ^ 32 → most < 2 ^ 32 → met ≡ word ++ decimal k → ¬ IsBetween least most k
    → (x : ℕ) → IsBetween least most x → met ≢ word ++ decimal x
other_number word met k least most small_k small_most is out x within e =
    let below = within.1 in
    out (subst (IsBetween least most) (decimal_injective x k (omega arith) (omega arith) (append_cancel_left word (decimal x) (decimal k) (sym e ∙ is))) within)

-- the line is that of an entry, whose numbers are out of range
pub other_entry : (met : List ℕ) (k : Entry) (nodes : ℕ) → IsShortEntry k → nodes < 2 ^ 32 → met ≡ line_text (line.Entry k) → ¬ IsEntry nodes k
    → (x : Entry) → IsEntry nodes x → met ≢ line_text (line.Entry x)
other_entry met k nodes short small is out x within e =
    let node = within.0.1 in
    let parent = within.1 in
    let low_node = short.0 in
    let low_parent = short.1 in
    out (subst (IsEntry nodes) (same_entry x k ((omega arith), (omega arith)) ((omega arith), (omega arith)) (sym e ∙ is)) within)

-- the numbers of an entry are short
pub entry_is_short : (nodes : ℕ) → nodes < 2 ^ 32 → (x : Entry) → IsEntry nodes x → IsShortEntry x
entry_is_short nodes small x within = let node = within.0.1 in let parent = within.1 in ((omega arith), (omega arith))
