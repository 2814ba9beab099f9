-- Lines that are written one after the other.
use Rattle.std.proofs.Common.{◌≡◌, ℕ, ◌+◌, ◌<◌, List, [], ◌∷◌, ◌++◌, length, get_or, take, map, sym, ap, ◌∙◌}
use Rattle.std.specs.List.{flat_map}
use Rattle.std.proofs.lemmas.List.{append_assoc, append-nil, map-append, take_more}
use Rattle.std.proofs.lemmas.List.Concat.{flat_map-append}
use Rattle.cb_levels.specs.declared.line.LevelLine.{LevelLine}
use Rattle.cb_levels.specs.Text.{ended_line}

-- what has been written, once more lines are written
pub step : (start now new : List ℕ) (lines more : List LevelLine) → now ≡ start ++ flat_map ended_line lines → new ≡ now ++ flat_map ended_line more
    → new ≡ start ++ flat_map ended_line (lines ++ more)
step start now new lines more before is =
    is
    ∙ (ap (λ (bs : List ℕ). bs ++ flat_map ended_line more) before
    ∙ (append_assoc start (flat_map ended_line lines) (flat_map ended_line more) ∙ ap (λ (bs : List ℕ). start ++ bs) (sym (flat_map-append ended_line lines more))))

-- and once one line is written
pub step_one : (start now new : List ℕ) (lines : List LevelLine) (l : LevelLine) → now ≡ start ++ flat_map ended_line lines → new ≡ now ++ ended_line l
    → new ≡ start ++ flat_map ended_line (lines ++ l ∷ [])
step_one start now new lines l before is = step start now new lines (l ∷ []) before (is ∙ ap (λ (bs : List ℕ). now ++ bs) (sym (append-nil (ended_line l))))

-- what a loop over items has written, once it has written one more
pub item_step : {X : Type 0} (f : X → LevelLine) (xs : List X) (out mid new : List ℕ) (first : LevelLine) (i : ℕ) (d : X) → i < length xs
    → mid ≡ out ++ flat_map ended_line (first ∷ map f (take i xs)) → new ≡ mid ++ ended_line (f (get_or xs i d))
    → new ≡ out ++ flat_map ended_line (first ∷ map f (take (i + 1) xs))
item_step f xs out mid new first i d low before now =
    step_one out mid new (first ∷ map f (take i xs)) (f (get_or xs i d)) before now
    ∙ ap (λ (ls : List LevelLine). out ++ flat_map ended_line (first ∷ ls)) (sym (ap (map f) (take_more xs i d low) ∙ map-append f (take i xs) (get_or xs i d ∷ [])))
