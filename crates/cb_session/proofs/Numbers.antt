-- Numbers that outlive a line.
use Rattle.std.proofs.Common.{Result, Ok, Err, OnOk}
use Rattle.cb_topo.specs.Numbered.{Numbered}
use Rattle.cb_session.specs.Numbers.{KeepsNumbers}

-- they all do where nothing happens
pub numbers_stay : (n : Numbered) → KeepsNumbers n n
numbers_stay n = (λ id name is live. is, λ id name is live. is)

pub if_numbers_stay : {V E : Type 0} (result : Result V E) (n : Numbered) → OnOk result (KeepsNumbers n n)
if_numbers_stay (Ok v) n = numbers_stay n
if_numbers_stay (Err e) n = tt
