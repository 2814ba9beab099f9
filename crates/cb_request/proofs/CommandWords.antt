-- Words that are no command.
use Rattle.std.proofs.Common.{◌≡◌, ◌≢◌, ◌∙◌, ℕ, List, [], length, Bool, true, false, refl, sym, String, Global}
use Rattle.std.proofs.lemmas.List.{length-map}
use Rattle.std.proofs.lemmas.Slice.Eq.{bytes_eq-Decides}
use Rattle.std.specs.Prelude.{◌∷◌, codes, None, string_bytes}
use Rattle.std.specs.Str.{bytes_eq}
use Rattle.cb_request.specs.Commands.{request_of, codebook_of, correlate_of, levels_of, rewind_of, texts}

differs : (one other : List ℕ) → other ≢ one → bytes_eq one other ≡ false
differs one other ne = by_test (bytes_eq one other) refl
  where
    by_test : (b : Bool) → bytes_eq one other ≡ b → b ≡ false
    by_test true e = absurd (ne (sym ((bytes_eq-Decides one other).0 e)))
    by_test false e = refl

-- a first word that is none of the table's
pub record IsOther (command : List ℕ) : Type 0 where
  pub burst : command ≢ codes "burst"
  pub model : command ≢ codes "model"
  pub matrix : command ≢ codes "matrix"
  pub codebook : command ≢ codes "codebook"
  pub verify : command ≢ codes "verify"
  pub decode : command ≢ codes "decode"
  pub correlate : command ≢ codes "correlate"
  pub grow : command ≢ codes "grow"
  pub pairs : command ≢ codes "pairs"
  pub explain : command ≢ codes "explain"
  pub levels : command ≢ codes "levels"
  pub prove : command ≢ codes "prove"
  pub rewind : command ≢ codes "rewind"

pub other_asks_for_nothing : (command : List ℕ) (words : List (List ℕ)) → IsOther command → None ≡ request_of (command ∷ words)
other_asks_for_nothing command words is =
    rw (
      differs (codes "burst") command is.burst,
      differs (codes "model") command is.model,
      differs (codes "matrix") command is.matrix,
      differs (codes "codebook") command is.codebook,
      differs (codes "verify") command is.verify,
      differs (codes "decode") command is.decode,
      differs (codes "correlate") command is.correlate,
      differs (codes "grow") command is.grow,
      differs (codes "pairs") command is.pairs,
      differs (codes "explain") command is.explain,
      differs (codes "levels") command is.levels,
      differs (codes "prove") command is.prove,
      differs (codes "rewind") command is.rewind,
    ) refl

-- `correlate` has five words after it
not_five : (words : List (List ℕ)) → length words ≢ 5 → None ≡ correlate_of words
not_five [] other = refl
not_five (one ∷ []) other = refl
not_five (one ∷ two ∷ []) other = refl
not_five (one ∷ two ∷ three ∷ []) other = refl
not_five (one ∷ two ∷ three ∷ four ∷ []) other = refl
not_five (one ∷ two ∷ three ∷ four ∷ five ∷ []) other = absurd (other refl)
not_five (one ∷ two ∷ three ∷ four ∷ five ∷ more ∷ words) other = refl

pub more_or_fewer_than_five : (words : List (String Global)) → length words ≢ 5 → None ≡ correlate_of (texts words)
more_or_fewer_than_five words other = not_five (texts words) (λ e. other (sym (length-map words string_bytes) ∙ e))

-- `codebook` has three words after it
no_codebook : (words : List (List ℕ)) → length words ≢ 3 → None ≡ codebook_of words
no_codebook [] other = refl
no_codebook (one ∷ []) other = refl
no_codebook (one ∷ two ∷ []) other = refl
no_codebook (one ∷ two ∷ distance ∷ []) other = absurd (other refl)
no_codebook (one ∷ two ∷ distance ∷ more ∷ words) other = refl

pub other_number_for_codebook : (words : List (String Global)) → length words ≢ 3 → None ≡ codebook_of (texts words)
other_number_for_codebook words other = no_codebook (texts words) (λ e. other (sym (length-map words string_bytes) ∙ e))

-- and so has `levels`
not_three : (words : List (List ℕ)) → length words ≢ 3 → None ≡ levels_of words
not_three [] other = refl
not_three (one ∷ []) other = refl
not_three (one ∷ two ∷ []) other = refl
not_three (one ∷ two ∷ node ∷ []) other = absurd (other refl)
not_three (one ∷ two ∷ node ∷ more ∷ words) other = refl

pub other_number_of_words : (words : List (String Global)) → length words ≢ 3 → None ≡ levels_of (texts words)
other_number_of_words words other = not_three (texts words) (λ e. other (sym (length-map words string_bytes) ∙ e))

-- and `rewind` four
not_four : (words : List (List ℕ)) → length words ≢ 4 → None ≡ rewind_of words
not_four [] other = refl
not_four (one ∷ []) other = refl
not_four (one ∷ two ∷ []) other = refl
not_four (one ∷ two ∷ three ∷ []) other = refl
not_four (one ∷ two ∷ three ∷ depth ∷ []) other = absurd (other refl)
not_four (one ∷ two ∷ three ∷ depth ∷ more ∷ words) other = refl

pub more_or_fewer_than_four : (words : List (String Global)) → length words ≢ 4 → None ≡ rewind_of (texts words)
more_or_fewer_than_four words other = not_four (texts words) (λ e. other (sym (length-map words string_bytes) ∙ e))
