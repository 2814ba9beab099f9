-- Whole numbers that are read fit 64 bits.
use Rattle.std.proofs.Common.{◌≡◌, ◌⊎◌, ◌<◌, ◌^◌, ℕ, List, ap, subst, refl, ◌∙◌, inl, inr, Bool, true, false, Option, None, Some, drop, slice_index, ◌==◌, ◌&&◌, nat_lt, nat_le, if◌then◌else◌}
use Rattle.std.specs.Prelude.{codes, option_and_then, option_map}
use Rattle.std.specs.Float.{binary64, float_is_finite}
use Rattle.std.specs.Ordering.{nat_cmp, match_ordering}
use Rattle.std.specs.Cmp.Lexicographic.{slice_cmp}
use Rattle.std.specs.declared.cmp.Ordering.TheVariants.{Less, Equal, Greater}
use Rattle.std.proofs.lemmas.Bool.{ltb-true}
use Rattle.cb_network.proofs.Sets.{and_second}
use Rattle.fast_float.specs.Text.{minus, Parts, scan, digits_of, nearest, with_sign}
use Rattle.json.specs.Json as json
use Rattle.json.specs.Lex.{tokens}
use Rattle.serde_json.specs.Data.{Num, unsigned, negative, float, Data, null, boolean, number, string, array, object, Members, no_members, member, put}
use Rattle.serde_json.specs.Find.{get_member, as_number, as_u64}
use Rattle.serde_json.specs.Read.{is_integer, float_of, number_from, number_of, of_json, of_items, of_members, max_depth, read}
use Rattle.cb_alarm.specs.Spelled.{time_of}

either : {X : Type 0} (b : Bool) (x y z : X) → (if b then x else y) ≡ z → ((b ≡ true) × (x ≡ z)) ⊎ (y ≡ z)
either true x y z e = inl (refl, e)
either false x y z e = inr e

mapped : {X Y : Type 0} (f : X → Y) (o : Option X) (y : Y) → option_map f o ≡ Some y → (x : X) × (o ≡ Some x) × (f x ≡ y)
mapped f None y e = absurd (cc)
mapped f (Some x) y e = (x, refl, cc)

then_some : {X Y : Type 0} (f : X → Option Y) (o : Option X) (y : Y) → option_and_then f o ≡ Some y → (x : X) × (o ≡ Some x) × (f x ≡ Some y)
then_some f None y e = absurd (cc)
then_some f (Some x) y e = (x, refl, e)

-- numbers

no_float : (sign : Bool) (p : Parts) (n : ℕ) → float_of sign p ≡ Some (unsigned n) → ⊥
no_float sign p n e = elim (either (float_is_finite (nearest binary64 sign p)) (Some (float (nearest binary64 sign p))) None (Some (unsigned n)) e) [
  | inl h ↦ let f = h.1 in absurd (cc)
  | inr none ↦ absurd (cc)
]

small_from : (sign : Bool) (p : Parts) (n : ℕ) → number_from sign p ≡ Some (unsigned n) → n < 2 ^ 64
small_from false p n e =
    elim (either (is_integer p && nat_lt (digits_of p) (2 ^ 64)) (Some (unsigned (digits_of p))) (float_of false p) (Some (unsigned n)) e) [
      | inl h ↦
          let same : digits_of p ≡ n = let f = h.1 in cc in
          subst (λ (k : ℕ). k < 2 ^ 64) same (ltb-true (digits_of p) (2 ^ 64) (and_second (is_integer p) (nat_lt (digits_of p) (2 ^ 64)) h.0))
      | inr other ↦ absurd (no_float false p n other)
    ]
small_from true p n e =
    elim (either (is_integer p && nat_lt 0 (digits_of p) && nat_le (digits_of p) (2 ^ 63)) (Some (negative (with_sign true (digits_of p)))) (float_of true p) (Some (unsigned n)) e) [
      | inl h ↦ let f = h.1 in absurd (cc)
      | inr other ↦ absurd (no_float true p n other)
    ]

small_number : (s : List ℕ) (n : ℕ) → number_of s ≡ Some (unsigned n) → n < 2 ^ 64
unfolding number_of
small_number s n e =
    elim (either (slice_index s 0 == minus) (number_from true (scan (drop 1 s))) (number_from false (scan s)) (Some (unsigned n)) e) [
      | inl h ↦ small_from true (scan (drop 1 s)) n h.1
      | inr other ↦ small_from false (scan s) n other
    ]

-- values and members

abbrev IsSmall : Data → Type 0
IsSmall d = (n : ℕ) → d ≡ number (unsigned n) → n < 2 ^ 64

value_small : (j : json.Json) (d : Data) → of_json j ≡ Some d → IsSmall d
value_small json.null d e n is = absurd (cc)
value_small (json.boolean b) d e n is = absurd (cc)
value_small (json.string s) d e n is = absurd (cc)
value_small (json.number s) d e n is =
    let (m, reads, same) = mapped number (number_of s) d e in
    let unsigned_is : m ≡ unsigned n = let f : number m ≡ number (unsigned n) = same ∙ is in cc in
    small_number s n (reads ∙ ap Some unsigned_is)
value_small (json.array js) d e n is = let (ds, reads, same) = mapped array (of_items js) d e in let f : array ds ≡ number (unsigned n) = same ∙ is in absurd (cc)
value_small (json.object js) d e n is = let (ms, reads, same) = mapped object (of_members js no_members) d e in let f : object ms ≡ number (unsigned n) = same ∙ is in absurd (cc)

abbrev pub AreSmall : Members → Type 0
AreSmall no_members = Unit {0}
AreSmall (member k d ms) = IsSmall d × AreSmall ms

put_small : (k : List ℕ) (d : Data) (ms : Members) → IsSmall d → AreSmall ms → AreSmall (put k d ms)
put_small k d no_members small are = (small, tt)
put_small k d (member l e ms) small are =
    elim (slice_cmp nat_cmp k l) as (λ o. AreSmall (match_ordering o (member k d (member l e ms)) (member l d ms) (member l e (put k d ms)))) [
      | Less ↦ (small, are)
      | Equal ↦ (small, are.1)
      | Greater ↦ (are.0, put_small k d ms small are.1)
    ]

members_small : (js : json.Members) (found ms : Members) → AreSmall found → of_members js found ≡ Some ms → AreSmall ms
members_small json.no_members found ms small e = subst AreSmall (let f : found ≡ ms = cc in f) small
members_small (json.member k j js) found ms small e =
    let (d, reads, later) = then_some (λ d. of_members js (put k d found)) (of_json j) ms e in
    members_small js (put k d found) ms (put_small k d found (value_small j d reads) small) later

object_small : (j : json.Json) (ms : Members) → of_json j ≡ Some (object ms) → AreSmall ms
object_small json.null ms e = absurd (cc)
object_small (json.boolean b) ms e = absurd (cc)
object_small (json.string s) ms e = absurd (cc)
object_small (json.number s) ms e = let (m, reads, same) = mapped number (number_of s) (object ms) e in absurd (cc)
object_small (json.array js) ms e = let (ds, reads, same) = mapped array (of_items js) (object ms) e in absurd (cc)
object_small (json.object js) ms e =
    let (found, reads, same) = mapped object (of_members js no_members) (object ms) e in
    subst AreSmall (let f : found ≡ ms = cc in f) (members_small js no_members found tt reads)

-- so are those of an object that is read
pub read_small : (line : List ℕ) (ms : Members) → read line ≡ Some (object ms) → AreSmall ms
read_small line ms e = let (j, parsed, is) = then_some of_json (option_and_then (λ p. json.if_last p.0 p.1) (json.value max_depth (tokens line))) (object ms) e in object_small j ms is

found_small : (k : List ℕ) (ms : Members) (d : Data) → AreSmall ms → get_member k ms ≡ Some d → IsSmall d
found_small k no_members d are e = absurd (cc)
found_small k (member l f ms) d are e =
    elim (slice_cmp nat_cmp k l) as (λ o. match_ordering o (get_member k ms) (Some f) (get_member k ms) ≡ Some d → IsSmall d) [
      | Less ↦ λ is. found_small k ms d are.1 is
      | Equal ↦ λ is. subst (λ (v : Data). IsSmall v) (let g : f ≡ d = cc in g) are.0
      | Greater ↦ λ is. found_small k ms d are.1 is
    ] e

-- and so is the time that it says

is_number : (d : Data) (m : Num) → as_number d ≡ Some m → d ≡ number m
is_number null m e = absurd (cc)
is_number (boolean b) m e = absurd (cc)
is_number (number k) m e = ap number (let f : k ≡ m = cc in f)
is_number (string s) m e = absurd (cc)
is_number (array ds) m e = absurd (cc)
is_number (object ms) m e = absurd (cc)

is_unsigned : (m : Num) (n : ℕ) → as_u64 m ≡ Some n → m ≡ unsigned n
is_unsigned (unsigned k) n e = ap unsigned (let f : k ≡ n = cc in f)
is_unsigned (negative z) n e = absurd (cc)
is_unsigned (float x) n e = absurd (cc)

pub time_small : (ms : Members) (at : ℕ) → AreSmall ms → time_of ms ≡ Some at → at < 2 ^ 64
time_small ms at are e =
    let (m, says, is) = then_some as_u64 (option_and_then as_number (get_member (codes "at") ms)) at e in
    let (d, found, counts) = then_some as_number (get_member (codes "at") ms) m says in
    found_small (codes "at") ms d are found at (is_number d m counts ∙ ap number (is_unsigned m at is))
