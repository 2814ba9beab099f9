-- What wishes ask, in a reduction.
use Rattle.std.proofs.Common.{◌≡◌, ℕ, List, Bool, Result, Ok, Err, subst, sym, arith}
use Rattle.std.specs.Prelude.{IfOk}
use Rattle.cb_model.specs.declared.wish.Wish.{Wish}
use Rattle.cb_model.specs.declared.wish.Wish.TheVariants.{Plain, Cap}
use Rattle.cb_coding.specs.Needs.{need_of}
use Rattle.cb_coding.proofs.RadiusLaws.{cap_is_no_detour}
use Rattle.cb_reduce.specs.Pairs.{NeedNoDetour}

-- no two codes need more than by way of the first
pub no_detour : (width : ℕ) (codes : List (List Bool)) (wish : Wish) → NeedNoDetour (need_of width codes wish)
no_detour width codes (Plain d) i j = omega arith
no_detour width codes (Cap cap) i j = cap_is_no_detour width codes cap i j 0

-- what holds of a value holds of the one that was made, if one was
pub if_ok_is : {V E : Type 0} (P : V → Type 0) (result : Result V E) (value : V) → P value → IfOk result (λ made. made ≡ value) → IfOk result P
if_ok_is P (Ok made) value p is = subst P (sym is) p
if_ok_is P (Err e) value p is = tt
