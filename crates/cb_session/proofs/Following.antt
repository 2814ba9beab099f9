-- What follows of a value.
use Rattle.std.proofs.Common.{Ok, Err}
use Rattle.std.specs.Prelude.{IfOk, Result}

-- what follows of a value follows of what there is of it
pub if_ok_more : {V E : Type 0} (result : Result V E) (P Q : V → Type 0) → ((x : V) → P x → Q x) → IfOk result P → IfOk result Q
if_ok_more (Ok x) P Q f h = f x h
if_ok_more (Err e) P Q f h = tt
