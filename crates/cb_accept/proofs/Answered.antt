-- What was found, and what is passed on where nothing was.
use Rattle.std.proofs.Common.{◌≡◌, Bool, true, false, sym, subst, Option, None, Some, Result, Ok, Err}
use Rattle.std.specs.Prelude.{IfSome, IfNone, IfErr, IsErrAnd, ok_or, is_some}

pub if_some : {T : Type 0} (o : Option T) (P Q : T → Type 0) → ((x : T) → P x → Q x) → IfSome o P → IfSome o Q
if_some None P Q further p = tt
if_some (Some x) P Q further p = further x p

pub if_none : {T : Type 0} (o : Option T) (P Q : Type 0) → (P → Q) → IfNone o P → IfNone o Q
if_none None P Q further p = further p
if_none (Some x) P Q further p = tt

-- nothing was found, so this error is passed on
pub absent_err : {T E B : Type 0} (found : Option T) (e err : E) (exit : Result B E) (P : Type 0) (Q : E → Type 0) → Err err ≡ ok_or found e
    → IsErrAnd exit (λ x. x ≡ err) → IfNone found P → (P → Q e) → IfErr exit Q
absent_err None e err (Err x) P Q is same none gives =
    let one : e ≡ x = cc in
    subst Q one (gives none)
absent_err None e err (Ok b) P Q is same none gives = absurd same
absent_err (Some v) e err exit P Q is same none gives = absurd (cc)

-- what was found
pub present : {T : Type 0} (P : T → Type 0) (o : Option T) (x : T) → o ≡ Some x → IfSome o P → P x
present P o x is some = let Q : Option _ → Type 0 = λ p. IfSome p P in subst Q is some

-- a test doesn't come out in two ways
pub refuted : (b : Bool) → b ≡ false → b ≡ true → ⊥
refuted b is_false is_true = cc

pub was_found : {T : Type 0} (P : T → Type 0) (o : Option T) (b : Bool) → b ≡ is_some o → b ≡ true → IfSome o P → (x : T) × P x
was_found P None b is some p = absurd (cc)
was_found P (Some x) b is some p = (x, p)

pub was_absent : {T : Type 0} (Q : Type 0) (o : Option T) (b : Bool) → b ≡ is_some o → b ≡ false → IfNone o Q → Q
was_absent Q None b is none q = q
was_absent Q (Some x) b is none q = absurd (cc)

-- an error that was passed on is the one that came
pub passed_err : {E B : Type 0} (err : E) (exit : Result B E) (Q : E → Type 0) → IsErrAnd exit (λ x. x ≡ err) → Q err → IfErr exit Q
passed_err err (Err x) Q same q = subst Q (sym same) q
passed_err err (Ok b) Q same q = tt
