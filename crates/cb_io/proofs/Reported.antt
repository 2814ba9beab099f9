-- What follows of several calls on the same files or the same sink, one after the other.
use Rattle.std.proofs.Common.{◌≡◌, ◌≢◌, ℕ, ◌+◌, ◌||◌, Bool, true, false, List, [], ◌∷◌, ◌++◌, length, take, drop, refl, sym, ◌∙◌, ap, subst, arith, length-append, append-nil}
use Rattle.std.proofs.Math.Seq.{take-add, take-append-add}
use Rattle.std.proofs.lemmas.List.{take-append-le}
use Rattle.std.proofs.KnownBytes.{Appends-trans, Consumes-trans, Keeps-trans}
use Rattle.std.specs.Prelude.{None, Some, IfSome, unwrap_or}
use Rattle.std.specs.declared.option.Option.{Option}
use Rattle.std.specs.Io.KnownBytes.{Keeps, Consumes, Appends, IsAtEnd}
use Rattle.std.specs.Option.{option_map}
use Rattle.std.specs.List.{list_any}
use Rattle.std.specs.Str.{bytes_eq}
use Rattle.std.proofs.Math.Bool.{or-true}
use Rattle.std.proofs.lemmas.Slice.Eq.{bytes_eq-Decides}
use Rattle.cb_io.specs.Outside.{FilesReport, SinkReport, bytes_left_of, contents, left_of, TakesAll, ReadsAll, ReadsEach, KeepsOthers, NoCountFalls, ReadFailed, WritesAll, WritesPrefix}

-- ---- counts

pub NoCountFalls-trans : (a b c : FilesReport) → NoCountFalls a b → NoCountFalls b c → NoCountFalls a c
NoCountFalls-trans a b c first second = λ name. omega (arith, first name, second name)

-- a read that failed after others
pub ReadFailed-after : (a b c : FilesReport) (name : List ℕ) → NoCountFalls a b → ReadFailed b c name
    → ReadFailed a c name
ReadFailed-after a b c name first second = omega (arith, first name, second)

-- ---- what is left

-- two reads of one name
pub KeepsOthers-trans : (a b c : FilesReport) (name : List ℕ) → KeepsOthers a b name → KeepsOthers b c name
    → KeepsOthers a c name
KeepsOthers-trans a b c name first second =
    λ other ne. Keeps-trans (left_of a other) (left_of b other) (left_of c other) (first other ne) (second other ne)

-- what was consumed up to the end is all
pub TakesAll-at_end : (a b : Option (List ℕ)) (all : List ℕ) → Consumes a b all → IsAtEnd b → TakesAll a b all
TakesAll-at_end None b all consumed end = tt
TakesAll-at_end (Some left) None all consumed end = absurd consumed
TakesAll-at_end (Some left) (Some rest) all consumed end =
    (sym (consumed ∙ ap (λ l. all ++ l) end ∙ append-nil all), ap (λ l. Some l) end)

-- these bytes of the name came so far, and nothing else changed
pub record HasRead (old new : FilesReport) (name bytes : List ℕ) : Type 0 where
  pub came : Consumes (left_of old name) (left_of new name) bytes
  pub others : KeepsOthers old new name
  pub counts : NoCountFalls old new

-- more bytes came
pub HasRead-more : {a b : FilesReport} (c : FilesReport) {name bytes : List ℕ} (more : List ℕ) → HasRead a b name bytes
    → Consumes (left_of b name) (left_of c name) more → KeepsOthers b c name → NoCountFalls b c
    → HasRead a c name (bytes ++ more)
HasRead-more {a} {b} c {name} {bytes} more first came' others' counts' = record {
  came = Consumes-trans (left_of a name) (left_of b name) (left_of c name) bytes more first.came came';
  others = KeepsOthers-trans a b c name first.others others';
  counts = NoCountFalls-trans a b c first.counts counts';
}

-- the end came
pub HasRead-end : {a b : FilesReport} (c : FilesReport) {name bytes : List ℕ} (more : List ℕ) → HasRead a b name bytes
    → Consumes (left_of b name) (left_of c name) more → more ≡ [] → IsAtEnd (left_of c name)
    → ReadsAll a c name bytes
HasRead-end {a} {b} c {name} {bytes} more first came' none end =
    TakesAll-at_end (left_of a name) (left_of c name) bytes
    (rw append-nil at (rw none at
    (Consumes-trans (left_of a name) (left_of b name) (left_of c name) bytes more first.came came'))) end

-- ---- several names, one after the other

any-true : (name : List ℕ) (names : List (List ℕ)) (last : List ℕ) → bytes_eq last name ≡ true
    → list_any (λ other. bytes_eq other name) (names ++ last ∷ []) ≡ true
any-true name [] last same = rw same refl
any-true name (first ∷ names) last same = rw (any-true name names last same) (or-true (bytes_eq first name))

any-false : (name : List ℕ) (names : List (List ℕ)) (last : List ℕ) → bytes_eq last name ≡ false
    → list_any (λ other. bytes_eq other name) (names ++ last ∷ []) ≡ list_any (λ other. bytes_eq other name) names
any-false name [] last other = rw other refl
any-false name (first ∷ names) last other = ap (λ b. bytes_eq first name || b) (any-false name names last other)

kept : (a b : Option (List ℕ)) (bytes : List ℕ) → a ≡ Some bytes → Keeps a b → b ≡ Some bytes
kept None b bytes e k = cc
kept (Some xs) None bytes e k = absurd k
kept (Some xs) (Some ys) bytes e k = ap (λ l. Some l) k ∙ e

emptied : (a b : Option (List ℕ)) (bytes all : List ℕ) → a ≡ Some bytes → TakesAll a b all → b ≡ Some []
emptied None b bytes all e t = cc
emptied (Some xs) b bytes all e t = t.1

whole : (a b : Option (List ℕ)) (bytes all : List ℕ) → a ≡ Some bytes → TakesAll a b all → all ≡ bytes
whole None b bytes all e t = cc
whole (Some xs) b bytes all e t = t.0 ∙ (let f : Option (List ℕ) → List ℕ = λ o. unwrap_or o [] in ap f e)

if_reported : {P Q : List (List ℕ × List ℕ) → Type 0} (report : Option (List (List ℕ × List ℕ))) → IfSome report P
    → ((left : List (List ℕ × List ℕ)) → P left → Q left) → IfSome report Q
if_reported None known next = tt
if_reported (Some left) known next = next left known

each_none : (report : Option (List (List ℕ × List ℕ)))
    → IfSome report (λ left. (name : List ℕ) → option_map (λ pairs. bytes_left_of pairs name) report ≡ Some (bytes_left_of left name))
each_none None = tt
each_none (Some left) = λ name. refl

pub ReadsEach-nil : (a : FilesReport) → ReadsEach a a []
ReadsEach-nil a = each_none a.left

next-at : (left : List (List ℕ × List ℕ)) (names : List (List ℕ)) (b c : FilesReport) (name all other : List ℕ) (same : Bool)
    → bytes_eq name other ≡ same
    → ((n : List ℕ) → left_of b n ≡ Some (contents left names n)) → KeepsOthers b c name → ReadsAll b c name all
    → left_of c other ≡ Some (contents left (names ++ name ∷ []) other)
next-at left names b c name all other true e each others reads =
    let same : name ≡ other = (bytes_eq-Decides name other).0 e in
    rw (any-true other names name e, ← same) (emptied (left_of b name) (left_of c name) _ all (each name) reads)
next-at left names b c name all other false e each others reads =
    let ne : other ≢ name = λ s. cc (sym e ∙ (bytes_eq-Decides name other).1 (sym s)) in
    rw (any-false other names name e) (kept (left_of b other) (left_of c other) _ (each other) (others other ne))

-- one more name is read whole
pub ReadsEach-next : (a b c : FilesReport) (names : List (List ℕ)) (name all : List ℕ) → ReadsEach a b names
    → KeepsOthers b c name → ReadsAll b c name all → ReadsEach a c (names ++ name ∷ [])
ReadsEach-next a b c names name all each others reads =
    if_reported a.left each (λ left known other. next-at left names b c name all other
    (bytes_eq name other) refl known others reads)

-- what came is what the name gives after the others
pub ReadsEach-gives : (a b c : FilesReport) (names : List (List ℕ)) (name all : List ℕ) → ReadsEach a b names
    → ReadsAll b c name all → IfSome a.left (λ left. all ≡ contents left names name)
ReadsEach-gives a b c names name all each reads =
    if_reported a.left each (λ left known. whole (left_of b name) (left_of c name) _ all (known name) reads)

-- what a last read leaves of the other names
pub ReadsEach-others : (a b c : FilesReport) (names : List (List ℕ)) (name : List ℕ) → ReadsEach a b names
    → KeepsOthers b c name
    → IfSome a.left (λ left. (other : List ℕ) → other ≢ name → left_of c other ≡ Some (contents left names other))
ReadsEach-others a b c names name each others =
    if_reported a.left each (λ left known other ne. kept (left_of b other) (left_of c other) _ (known other)
    (others other ne))

-- ---- what was taken

-- a prefix of the first text, where the second isn't written
pub WritesPrefix-first : (a b : SinkReport) (first second : List ℕ) → WritesPrefix a b first
    → WritesPrefix a b (first ++ second)
WritesPrefix-first a b first second (n, within, taken) = (
  n,
  omega (arith, length-append first second),
  subst (Appends a.taken b.taken)
      (sym (take-append-le n first second within)) taken,
)

-- the first text, and a prefix of the second
pub WritesPrefix-second : (a b c : SinkReport) (first second : List ℕ) → WritesAll a b first → WritesPrefix b c second
    → WritesPrefix a c (first ++ second)
WritesPrefix-second a b c first second all (n, within, taken) = (
  length first + n,
  omega (arith, length-append first second),
  subst (Appends a.taken c.taken) (sym (take-append-add first second n))
      (Appends-trans a.taken b.taken c.taken first (take n second) all taken),
)

-- the next n bytes after the first i
pub Appends-next : (a b c : Option (List ℕ)) (bytes : List ℕ) (i n : ℕ) → Appends a b (take i bytes)
    → Appends b c (take n (drop i bytes)) → Appends a c (take (i + n) bytes)
Appends-next a b c bytes i n first second =
    subst (Appends a c) (sym (take-add i n bytes))
    (Appends-trans a b c (take i bytes) (take n (drop i bytes)) first second)
