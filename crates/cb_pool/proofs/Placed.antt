-- Words that are written over a part of a list.
use Rattle.std.proofs.Common.{◌≡◌, ℕ, zero, suc, List, [], ◌∷◌, ◌++◌, length, take, drop, refl, ap}
use Rattle.std.specs.Simd.Lanes.{put_chunk}
use Rattle.std.proofs.Math.Seq.{take-append_seam}

-- a list whose part from a place on is written over
abbrev pub written_over : List ℕ → ℕ → List ℕ → List ℕ
written_over xs i ws = take i xs ++ (ws ++ drop (length ws) (drop i xs))

-- the list keeps its length whatever is written
pub put_is : (xs : List ℕ) (i : ℕ) (ws : List ℕ) → take (length xs) (written_over xs i ws ++ drop (length (written_over xs i ws)) xs) ≡ put_chunk i xs ws
put_is [] i ws = refl
put_is (x ∷ xs) zero [] = take-append_seam (x ∷ xs) (drop (length (x ∷ xs)) (x ∷ xs))
put_is (x ∷ xs) zero (y ∷ ys) = ap (λ rest. y ∷ rest) (put_is xs zero ys)
put_is (x ∷ xs) (suc i) ws = ap (λ rest. x ∷ rest) (put_is xs i ws)
