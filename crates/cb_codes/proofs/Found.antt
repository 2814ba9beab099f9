-- Codes that are looked up by their marks.
use Rattle.std.proofs.Common.{◌≡◌, ℕ, List, [], ◌∷◌, ◌++◌, cond, slice_get, nat_eq, Option, Some, None, IsSome, Bool, true, false, refl, sym, subst, inl, inr}
use Rattle.std.specs.HashMap.{HashMap, ContainsKey, Updates, get, IsUnchanged}
use Rattle.std.specs.Map.{lookup}
use Rattle.std.proofs.lemmas.Bool.{both_ways}
use Rattle.cb_coding.proofs.Pushed.{pushed_cases}
use Rattle.cb_codes.specs.Marks.{IsMark}
use Rattle.cb_codes.specs.EachOnce.{HaveMarks}
use Rattle.cb_codes.proofs.OneMark.{one_mark}

-- what is there stays there if something is put
put_or_there : (there : Bool) (put : ℕ) (before : Option ℕ) → IsSome before → IsSome (cond there (Some put) before)
put_or_there true put before is = cc
put_or_there false put before is = is

module _ {S : Type 0} (codes : List (List Bool)) (firsts : HashMap ℕ ℕ S) (have : HaveMarks codes firsts) where
  -- of a mark that isn't there no code is among them
  pub stands_nowhere : (code : List Bool) (mark : ℕ) → IsMark code mark → get nat_eq firsts mark ≡ None → (i : ℕ) → ¬ (slice_get codes i ≡ Some code)
  stands_nowhere code mark is none i at = let there = subst IsSome none (have i mark code at is) in absurd (both_ways false refl there)

  -- a mark is put to the others
  pub more_marks : (after : HashMap ℕ ℕ S) (mark put : ℕ) → Updates nat_eq firsts after mark (Some put) → HaveMarks codes after
  more_marks after mark put updates i m code at is =
      subst IsSome (sym (updates.0 m)) (put_or_there (nat_eq mark m) put (get nat_eq firsts m) (have i m code at is))

  -- the map is as before
  pub same_marks : (after : HashMap ℕ ℕ S) → IsUnchanged firsts after → HaveMarks codes after
  same_marks after same i m code at is = subst (λ es. IsSome (lookup (nat_eq m) es)) (sym same) (have i m code at is)

  -- a code whose mark is there goes last
  pub marks_with_last : (code : List Bool) (mark : ℕ) → IsMark code mark → ContainsKey nat_eq firsts mark → HaveMarks (codes ++ code ∷ []) firsts
  marks_with_last code mark is has i m v at of_v = elim (pushed_cases codes code v i at) [
    | inl old ↦ have i m v old of_v
    | inr new ↦ subst (ContainsKey nat_eq firsts) (one_mark v mark m (subst (λ w. IsMark w mark) new.1 is) of_v) has
  ]
