-- The lines of the topology are short.
use Rattle.std.proofs.Common.{◌≡◌, ◌≢◌, ℕ, zero, suc, ◌+◌, ◌^◌, ◌%◌, ◌<◌, ◌≤◌, List, [], ◌∷◌, ◌++◌, length, codes, refl, sym, ap, subst, ◌∙◌, append_assoc, arith, Bool, true, false, nat_eq, if◌then◌else◌, inl, inr}
use Rattle.std.specs.Fmt.{decimal}
use Rattle.std.specs.List.{All, slice_split, onto_first}
use Rattle.std.proofs.Math.Nat.{mod-lt}
use Rattle.std.proofs.lemmas.Bool.{cases_Bool, false_from_ne_true, eqb-true}
use Rattle.std.proofs.lemmas.Fmt.{decimal_by_steps, length-decimal-le}
use Rattle.std.proofs.lemmas.List.{append-nil, length-append}
use Rattle.std.proofs.lemmas.List.Splits.{slice_split_at}
use Rattle.std.proofs.lemmas.List.Elements.{All-nil, All-cons, All-append}
use Rattle.cb_text.specs.Lines.{lines_of, lines_of_parts, IsShort, HasShortLines}
use Rattle.cb_text.proofs.Cuts.{Lacks}
use Rattle.cb_gen.specs.Topology.{create_line, link_line, created, linked_with, ring_links, of_sites, topology_text}

-- there is always a first part
parts_cons : (text : List ℕ) → (part : List ℕ) × (parts : List (List ℕ)) × (slice_split (λ b. nat_eq b 10) text ≡ part ∷ parts)
parts_cons [] = ([], [], refl)
parts_cons (b ∷ bs) = elim (cases_Bool (nat_eq b 10)) [
  | inl lf ↦ ([], slice_split (λ c. nat_eq c 10) bs, rw lf refl)
  | inr other ↦ let rest = parts_cons bs in (b ∷ rest.0, rest.1, rw other (ap (onto_first b) rest.2))
]

-- a line that ends at a LF, and the lines after it
lines_of-prefix : (line rest : List ℕ) → Lacks 10 line → lines_of (line ++ 10 ∷ rest) ≡ line ∷ lines_of rest
lines_of-prefix line rest lacks =
    let later = parts_cons rest in
    let both = slice_split_at (λ b. nat_eq b 10) line 10 rest lacks refl in
    ap lines_of_parts (both ∙ ap (λ (ps : List (List ℕ)). line ∷ ps) later.2) ∙ ap (λ (ps : List (List ℕ)). line ∷ lines_of_parts ps) (sym later.2)

-- ---- bytes without LF

one_lacks : (b : ℕ) → b ≢ 10 → Lacks 10 (b ∷ [])
one_lacks b other = All-cons (λ c. nat_eq c 10 ≡ false) b [] (false_from_ne_true _ (λ is. other (eqb-true b 10 is))) (All-nil (λ c. nat_eq c 10 ≡ false))

both_lack : (xs ys : List ℕ) → Lacks 10 xs → Lacks 10 ys → Lacks 10 (xs ++ ys)
both_lack xs ys a b = All-append (λ c. nat_eq c 10 ≡ false) xs ys a b

decimal_lacks : (n : ℕ) → n < 2 ^ 64 → Lacks 10 (decimal n)
decimal_lacks n small =
    let one : (m : ℕ) → m < 10 → Lacks 10 ((48 + m) ∷ []) = λ m low. one_lacks (48 + m) (λ e. omega arith) in
    let more : (m : ℕ) (ds : List ℕ) → 10 ≤ m → Lacks 10 ds → Lacks 10 (ds ++ ((48 + m % 10) ∷ [])) = λ m ds low lacks.
    both_lack ds ((48 + m % 10) ∷ []) lacks (one_lacks (48 + m % 10) (λ e. omega arith))
    in
    decimal_by_steps (λ m ds. Lacks 10 ds) one more n small

-- what is written out has no LF
abbrev has_none : List ℕ → Bool
has_none [] = true
has_none (b ∷ bytes) = if nat_eq b 10 then false else has_none bytes

lacks_by : (bytes : List ℕ) → has_none bytes ≡ true → Lacks 10 bytes
lacks_by [] e = All-nil (λ c. nat_eq c 10 ≡ false)
lacks_by (b ∷ bytes) e = elim (cases_Bool (nat_eq b 10)) [
  | inl lf ↦ let none : false ≡ true = rw lf at e in absurd (cc)
  | inr other ↦
      let rest : has_none bytes ≡ true = rw other at e in
      All-cons (λ c. nat_eq c 10 ≡ false) b bytes other (lacks_by bytes rest)
]

-- ---- parts of a line

-- the bytes have no LF, and there are at most n
record IsPart (most : ℕ) (bytes : List ℕ) : Type 0 where
  lacks : Lacks 10 bytes
  few : length bytes ≤ most

word : (bytes : List ℕ) → has_none bytes ≡ true → IsPart (length bytes) bytes
word bytes none = record { lacks = lacks_by bytes none; few = omega arith }

-- a site has at most 20 digits
digits : (site : ℕ) → site < 2 ^ 64 → IsPart 20 (decimal site)
digits site small = record { lacks = decimal_lacks site small; few = length-decimal-le 20 site (omega arith) (omega (arith, small)) small }

both : (m n : ℕ) (xs ys : List ℕ) → IsPart m xs → IsPart n ys → IsPart (m + n) (xs ++ ys)
both m n xs ys first second = record {
  lacks = both_lack xs ys first.lacks second.lacks;
  few = omega (arith, first.few, second.few, length-append xs ys);
}

-- ---- texts of lines

-- whatever short lines follow the text, with it they are short lines
abbrev KeepsShort : List ℕ → Type 0
KeepsShort text = (rest : List ℕ) → HasShortLines rest → HasShortLines (text ++ rest)

keeps_none : KeepsShort []
keeps_none rest short = short

keeps_both : (xs ys : List ℕ) → KeepsShort xs → KeepsShort ys → KeepsShort (xs ++ ys)
keeps_both xs ys first second rest short = subst HasShortLines (sym (append_assoc xs ys rest)) (first (ys ++ rest) (second rest short))

keeps_four : (a b c d : List ℕ) → KeepsShort a → KeepsShort b → KeepsShort c → KeepsShort d → KeepsShort (a ++ b ++ c ++ d)
keeps_four a b c d first second third fourth =
    keeps_both (a ++ b ++ c) d (keeps_both (a ++ b) c (keeps_both a b first second) third) fourth

keeps_line : (most : ℕ) (line : List ℕ) → IsPart most line → most ≤ 4096 → KeepsShort (line ++ codes "\n")
keeps_line most line is low rest short =
    let first : lines_of (line ++ codes "\n" ++ rest) ≡ line ∷ lines_of rest =
    ap lines_of (append_assoc line (codes "\n") rest) ∙ lines_of-prefix line rest is.lacks in
    subst (All IsShort) (sym first) (All-cons IsShort line (lines_of rest) (omega (arith, is.few, low)) short)

-- ---- the lines of the topology

create_keeps : (letter : List ℕ) (site : ℕ) (class : List ℕ) → site < 2 ^ 64 → IsPart 8 letter → IsPart 8 class → KeepsShort (create_line letter site class)
create_keeps letter site class small short_letter short_class =
    let name = both 8 20 letter (decimal site) short_letter (digits site small) in
    let prefix = both 7 28 (codes "create ") (letter ++ decimal site) (word (codes "create ") refl) name in
    let spaced = both 35 1 (codes "create " ++ (letter ++ decimal site)) (codes " ") prefix (word (codes " ") refl) in
    keeps_line 44 (codes "create " ++ (letter ++ decimal site) ++ codes " " ++ class)
    (both 36 8 (codes "create " ++ (letter ++ decimal site) ++ codes " ") class spaced short_class) (omega arith)

link_keeps : (letter : List ℕ) (site : ℕ) (to : List ℕ) (other : ℕ) → site < 2 ^ 64 → other < 2 ^ 64 → IsPart 8 letter → IsPart 8 to
    → KeepsShort (link_line letter site to other)
link_keeps letter site to other small other_small short_letter short_to =
    let from = both 8 20 letter (decimal site) short_letter (digits site small) in
    let after = both 8 20 to (decimal other) short_to (digits other other_small) in
    let prefix = both 5 28 (codes "link ") (letter ++ decimal site) (word (codes "link ") refl) from in
    keeps_line 61 (codes "link " ++ (letter ++ decimal site) ++ (to ++ decimal other))
    (both 33 28 (codes "link " ++ (letter ++ decimal site)) (to ++ decimal other) prefix after) (omega arith)

-- a word of at most eight bytes
short_word : (bytes : List ℕ) → has_none bytes ≡ true → length bytes ≤ 8 → IsPart 8 bytes
short_word bytes none low = record { lacks = lacks_by bytes none; few = low }

created_keeps : (i : ℕ) → i < 2 ^ 64 → KeepsShort (created i)
created_keeps i small =
    let create = λ (letter class : List ℕ) (l : IsPart 8 letter) (c : IsPart 8 class). create_keeps letter i class small l c in
    let port = short_word (codes "Port") refl (omega arith) in
    keeps_four (create_line (codes "b") i (codes "Box")) (create_line (codes "p") i (codes "Port")) (create_line (codes "q") i (codes "Port"))
    (create_line (codes "l") i (codes "Line"))
    (create (codes "b") (codes "Box") (short_word (codes "b") refl (omega arith)) (short_word (codes "Box") refl (omega arith)))
    (create (codes "p") (codes "Port") (short_word (codes "p") refl (omega arith)) port)
    (create (codes "q") (codes "Port") (short_word (codes "q") refl (omega arith)) port)
    (create (codes "l") (codes "Line") (short_word (codes "l") refl (omega arith)) (short_word (codes "Line") refl (omega arith)))

linked_keeps : (i j : ℕ) → i < 2 ^ 64 → j < 2 ^ 64 → KeepsShort (linked_with i j)
linked_keeps i j small other_small =
    let box = short_word (codes "b") refl (omega arith) in
    let line = short_word (codes "l") refl (omega arith) in
    keeps_four (link_line (codes "b") i (codes " ports p") i) (link_line (codes "b") i (codes " ports q") i) (link_line (codes "l") i (codes " ends p") i)
    (link_line (codes "l") i (codes " ends q") j)
    (link_keeps (codes "b") i (codes " ports p") i small small box (short_word (codes " ports p") refl (omega arith)))
    (link_keeps (codes "b") i (codes " ports q") i small small box (short_word (codes " ports q") refl (omega arith)))
    (link_keeps (codes "l") i (codes " ends p") i small small line (short_word (codes " ends p") refl (omega arith)))
    (link_keeps (codes "l") i (codes " ends q") j small other_small line (short_word (codes " ends q") refl (omega arith)))

sites_keep : (text : ℕ → List ℕ) (n : ℕ) → ((i : ℕ) → i < n → KeepsShort (text i)) → KeepsShort (of_sites text n)
sites_keep text zero each = keeps_none
sites_keep text (suc n) each =
    keeps_both (of_sites text n) (text n) (sites_keep text n (λ i low. each i (omega arith))) (each n (omega arith))

topology_is_short : (sites : ℕ) → 1 ≤ sites → sites ≤ 256 → HasShortLines (topology_text sites)
topology_is_short sites some few =
    let creates = sites_keep created sites (λ i low. created_keeps i (omega arith)) in
    let links = sites_keep (ring_links sites) sites (λ i low.
    let next = mod-lt (i + 1) {m = sites} (omega arith) in linked_keeps i ((i + 1) % sites) (omega arith) (omega arith)) in
    let whole = keeps_both (of_sites created sites) (of_sites (ring_links sites) sites) creates links [] (All-nil IsShort) in
    subst HasShortLines (append-nil (topology_text sites)) whole

-- the text as it is written: first all instances, and then all links
pub written_is_short : (sites one two : ℕ) (start middle whole : List ℕ) → 1 ≤ sites → sites ≤ 256 → one ≡ sites → two ≡ sites → start ≡ []
    → middle ≡ start ++ of_sites created one → whole ≡ middle ++ of_sites (ring_links two) two → HasShortLines whole
written_is_short sites one two start middle whole some few one_is two_is empty first second =
    let instances : middle ≡ of_sites created sites =
    first ∙ (ap (λ (xs : List ℕ). xs ++ of_sites created one) empty ∙ ap (λ (n : ℕ). of_sites created n) one_is) in
    let all : whole ≡ topology_text sites =
    second ∙ (ap (λ (xs : List ℕ). xs ++ of_sites (ring_links two) two) instances ∙ ap (λ (n : ℕ). of_sites created sites ++ of_sites (ring_links n) n) two_is) in
    subst HasShortLines (sym all) (topology_is_short sites some few)
