-- Codes at positions.
use Rattle.std.proofs.Common.{◌≡◌, ℕ, zero, suc, List, [], ◌∷◌, Bool, map, slice_get, Some, refl, ap, ◌∙◌}
use Rattle.std.specs.List.{AllZip}
use Rattle.std.proofs.lemmas.Option.{get_or_from_slice_get}
use Rattle.cb_coding.specs.declared.group.Problem.{Problem}
use Rattle.cb_coding.specs.Distance.{code_at}
use Rattle.cb_matrix.specs.Parts.{codes_at}

module _ (codes : List (List Bool)) where
  -- the code at the position that stands at a position
  pub code_there : (places : List ℕ) (i place : ℕ) (code : List Bool) → slice_get places i ≡ Some place → slice_get codes place ≡ Some code
      → slice_get (codes_at codes places) i ≡ Some code
  code_there [] i place code at is = absurd (cc at)
  code_there (k ∷ places) zero place code at is =
      let same : k ≡ place = cc at in
      ap (λ j. Some (code_at codes j)) same ∙ ap Some (get_or_from_slice_get codes place code [] is)
  code_there (k ∷ places) (suc i) place code at is = code_there places i place code at is

  -- the codes at the positions of problems are theirs
  pub codes_of_problems : (places : List ℕ) (problems : List Problem) → AllZip (λ place (p : Problem). slice_get codes place ≡ Some p.code) places problems
      → codes_at codes places ≡ map (λ p. p.code) problems
  codes_of_problems [] [] zip = refl
  codes_of_problems [] (p ∷ problems) zip = absurd zip
  codes_of_problems (k ∷ places) [] zip = absurd zip
  codes_of_problems (k ∷ places) (p ∷ problems) zip =
      ap (λ (code : List Bool). code ∷ codes_at codes places) (get_or_from_slice_get codes k p.code [] zip.0)
      ∙ ap (λ rest. p.code ∷ rest) (codes_of_problems places problems zip.1)
