-- Bytes that wait, one call after the other.
use Rattle.std.specs.declared.result.Result.TheVariants.{Ok, Err}
use Rattle.std.proofs.Common.{◌≡◌, ◌≤◌, ◌<◌, ◌+◌, length, take, get_or, Result, is_err, OnErr, OnOk, ℕ, List, [], ◌++◌, Bool, true, false, refl, sym, ap, subst, ◌∙◌, append_assoc, append-nil, arith}
use Rattle.std.specs.List.{flat_map}
use Rattle.std.proofs.lemmas.List.{flat_map_more, take_more}
use Rattle.std.proofs.Math.Seq.{take-length}
use Rattle.std.specs.Prelude.{IsErr, ◌↔◌}
use Rattle.std.proofs.KnownBytes.{Appends-nil, Appends-trans}
use Rattle.cb_io.specs.Outside.{SinkReport, WritesAll, WritesPrefix, WriteFailed}
use Rattle.cb_io.proofs.Reported.{WritesPrefix-first, WritesPrefix-second}
use Rattle.cb_report.specs.Gathered.{Gathered, WaitsToEnd, IsCutShort, WritesOn, Gathers}

-- the text is cut short, and more was to come
cut_more : (a b : SinkReport) (w x y : List ℕ) → IsCutShort a b (w ++ x) → IsCutShort a b (w ++ (x ++ y))
cut_more a b w x y cut = record {
  prefix = subst (λ (l : List ℕ). WritesPrefix a b l) (append_assoc w x y) (WritesPrefix-first a b (w ++ x) y cut.prefix);
  counts = cut.counts;
  failed = cut.failed;
}

-- what waits and what comes, where the first part is written
rest_is : (written w x w' y : List ℕ) → w ++ x ≡ written ++ w' → written ++ (w' ++ y) ≡ w ++ (x ++ y)
rest_is written w x w' y is = sym (append_assoc written w' y) ∙ (ap (λ (l : List ℕ). l ++ y) (sym is) ∙ append_assoc w x y)

on : (f g h : Bool) (a b c : SinkReport) (w x w' y w'' : List ℕ) → WritesOn f g a b (w ++ x) w' → WritesOn g h b c (w' ++ y) w''
    → WritesOn f h a c (w ++ (x ++ y)) w''
on true true true a b c w x w' y w'' first second = first ∙ second
on true true false a b c w x w' y w'' first second = absurd second
on true false h a b c w x w' y w'' first second = absurd first
on false true true a b c w x w' y w'' first second = subst (λ (end : SinkReport). IsCutShort a end (w ++ (x ++ y))) second (cut_more a b w x y first)
on false true false a b c w x w' y w'' first second = absurd second
on false false true a b c w x w' y w'' first second = record {
  prefix = subst (λ (l : List ℕ). WritesPrefix a c l) (rest_is first.written w x w' y first.is)
      (WritesPrefix-second a b c first.written (w' ++ y) first.takes second.prefix);
  counts = omega (arith, first.counts, second.counts);
  failed = omega (arith, first.counts, second.failed);
}
on false false false a b c w x w' y w'' first second = record {
  written = first.written ++ second.written;
  takes = Appends-trans a.taken b.taken c.taken first.written second.written first.takes second.takes;
  is = sym (rest_is first.written w x w' y first.is) ∙ (ap (λ (l : List ℕ). first.written ++ l) second.is ∙ sym (append_assoc first.written second.written w''));
  counts = omega (arith, first.counts, second.counts);
}

-- one text after the other
pub gathers_more : (a b c : SinkReport) (s t u : Gathered) (x y : List ℕ) → Gathers a b s t x → Gathers b c t u y → Gathers a c s u (x ++ y)
gathers_more a b c s t u x y first second = on s.failed t.failed u.failed a b c s.waiting x t.waiting y u.waiting first second

none : (f : Bool) (a : SinkReport) (w : List ℕ) → WritesOn f f a a (w ++ []) w
none true a w = refl
none false a w = record { written = []; takes = Appends-nil a.taken; is = append-nil w; counts = omega arith }

-- no text
pub gathers_none : (a : SinkReport) (s : Gathered) → Gathers a a s s []
gathers_none a s = none s.failed a s.waiting

-- one text for another that is the same
pub gathers_same : (a b : SinkReport) (s t : Gathered) (x y : List ℕ) → x ≡ y → Gathers a b s t x → Gathers a b s t y
gathers_same a b s t x y same gathers = subst (λ (l : List ℕ). Gathers a b s t l) same gathers

-- what is written at once, where nothing waits
pub written_now : {T E : Type 0} (r : Result T E) (a b : SinkReport) (w x : List ℕ) → w ≡ [] → OnOk r (WritesAll a b x) → WritesPrefix a b x
    → a.faults ≤ b.faults → OnErr r (WriteFailed a b) → WritesOn false (is_err r) a b (w ++ x) w
written_now (Ok done) a b w x no_bytes all part counts failed = subst (λ (v : List ℕ). WaitsToEnd a b (v ++ x) v) (sym no_bytes)
    (record { written = x; takes = all; is = sym (append-nil x); counts = counts })
written_now (Err fault) a b w x no_bytes all part counts failed = subst (λ (v : List ℕ). IsCutShort a b (v ++ x)) (sym no_bytes)
    (record { prefix = part; counts = counts; failed = failed })

-- the items before a place, and the one there
pub items_more : {X : Type 0} (f : X → List ℕ) (prefix : List ℕ) (xs : List X) (i : ℕ) (d : X) → i < length xs
    → (prefix ++ flat_map f (take i xs)) ++ f (get_or xs i d) ≡ prefix ++ flat_map f (take (i + 1) xs)
items_more f prefix xs i d within = flat_map_more f prefix (take i xs) (get_or xs i d) ∙ ap (λ ys. prefix ++ flat_map f ys) (sym (take_more xs i d within))

-- the items before a place, and the one that a loop has read there
pub items_read : {X : Type 0} (f : X → List ℕ) (prefix : List ℕ) (xs ys : List X) (i : ℕ) (x : X) → ys ≡ xs → i < length ys → x ≡ get_or ys i x
    → (prefix ++ flat_map f (take i xs)) ++ f x ≡ prefix ++ flat_map f (take (i + 1) xs)
items_read {X} f prefix xs ys i x same within is =
    subst (λ (l : List X). (prefix ++ flat_map f (take i l)) ++ f x ≡ prefix ++ flat_map f (take (i + 1) l)) same
    (ap (λ (y : X). (prefix ++ flat_map f (take i ys)) ++ f y) is ∙ items_more f prefix ys i x within)

-- a text was written, or a prefix of it before a write that failed
pub record Finishes {T E : Type 0} (r : Result T E) (a b : SinkReport) (x : List ℕ) : Type 0 where
  pub all : OnOk r (WritesAll a b x)
  pub prefix : WritesPrefix a b x
  pub counts : a.faults ≤ b.faults
  pub failed : OnErr r (WriteFailed a b)

all_prefix : (a b : SinkReport) (x : List ℕ) → WritesAll a b x → WritesPrefix a b x
all_prefix a b x all = (length x, omega arith, subst (λ (l : List ℕ). WritesAll a b l) (sym (take-length x)) all)

finishes : {T E : Type 0} (r : Result T E) (f g : Bool) (a b : SinkReport) (w x w' : List ℕ) → WritesOn f g a b (w ++ x) w' → w ≡ [] → f ≡ false
    → (g ≡ false → w' ≡ []) → IsErr r ↔ (g ≡ true) → Finishes r a b x
finishes r true g a b w x w' on no_bytes no_fault none ends = cc no_fault
finishes (Ok done) false true a b w x w' on no_bytes no_fault none ends = cc (ends.1 refl)
finishes (Err fault) false false a b w x w' on no_bytes no_fault none ends = cc (ends.0 refl)
finishes (Ok done) false false a b w x w' on no_bytes no_fault none ends =
    let is : x ≡ on.written = ap (λ (l : List ℕ). l ++ x) (sym no_bytes) ∙ (on.is ∙ (ap (λ (l : List ℕ). on.written ++ l) (none refl) ∙ append-nil on.written)) in
    let all = subst (λ (l : List ℕ). WritesAll a b l) (sym is) on.takes in
    record { all = all; prefix = all_prefix a b x all; counts = on.counts; failed = tt }
finishes (Err fault) false true a b w x w' on no_bytes no_fault none ends =
    let cut : IsCutShort a b x = subst (λ (l : List ℕ). IsCutShort a b (l ++ x)) no_bytes on in
    record { all = tt; prefix = cut.prefix; counts = cut.counts; failed = cut.failed }

-- all is written at the end, where nothing waited at the beginning
pub finished : {T E : Type 0} (r : Result T E) (a b : SinkReport) (s t : Gathered) (x : List ℕ) → Gathers a b s t x → s.waiting ≡ [] → s.failed ≡ false
    → (t.failed ≡ false → t.waiting ≡ []) → IsErr r ↔ (t.failed ≡ true) → Finishes r a b x
finished r a b s t x = finishes r s.failed t.failed a b s.waiting x t.waiting

-- three texts, one after the other, and the end
pub three_finish : {T E : Type 0} (r : Result T E) (a b c d e : SinkReport) (s t u v w : Gathered) (x y z text : List ℕ) → Gathers a b s t x → Gathers b c t u y
    → Gathers c d u v z → Gathers d e v w [] → x ++ y ++ z ≡ text → s.waiting ≡ [] → s.failed ≡ false → (w.failed ≡ false → w.waiting ≡ [])
    → IsErr r ↔ (w.failed ≡ true) → Finishes r a e text
three_finish r a b c d e s t u v w x y z text first second third last is =
    let two = gathers_more a b c s t u x y first second in
    let three = gathers_more a c d s u v (x ++ y) z two third in
    finished r a e s w text (gathers_same a e s w ((x ++ y ++ z) ++ []) text (append-nil (x ++ y ++ z) ∙ is) (gathers_more a d e s v w (x ++ y ++ z) [] three last))

-- two texts, one after the other, and the end
pub two_finish : {T E : Type 0} (r : Result T E) (a b c e : SinkReport) (s t u w : Gathered) (x y text : List ℕ) → Gathers a b s t x → Gathers b c t u y
    → Gathers c e u w [] → x ++ y ≡ text → s.waiting ≡ [] → s.failed ≡ false → (w.failed ≡ false → w.waiting ≡ []) → IsErr r ↔ (w.failed ≡ true)
    → Finishes r a e text
two_finish r a b c e s t u w x y text first second last is =
    finished r a e s w text (gathers_same a e s w ((x ++ y) ++ []) text (append-nil (x ++ y) ∙ is)
    (gathers_more a c e s u w (x ++ y) [] (gathers_more a b c s t u x y first second) last))
