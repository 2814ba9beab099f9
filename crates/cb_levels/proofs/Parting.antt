-- Lines in parts.
use Rattle.std.proofs.Common.{◌≡◌, ◌≢◌, ℕ, ◌+◌, ◌^◌, ◌<◌, ◌≤◌, List, ◌∷◌, ◌++◌, length, take, drop, get_or, suc, codes, Some, None, refl, sym, ap, subst, ◌∙◌, arith}
use Rattle.std.specs.Fmt.{decimal}
use Rattle.std.proofs.lemmas.Bool.{eq-eqb}
use Rattle.std.proofs.lemmas.Fmt.{decimal_injective}
use Rattle.std.proofs.lemmas.List.{append_cancel_left, get_or_at, length-append}
use Rattle.memchr.specs.Find.{IsFirstByte, is_byte}
use Rattle.cb_text.specs.Decimals.{IsDecimal}
use Rattle.cb_cert.specs.Format.{IsBetween}
use Rattle.cb_cert.proofs.Cutting.{cut_at_space, prefix_lacks_space}
use Rattle.cb_cert.proofs.LineTexts.{cut_once, digits_lack_space}
use Rattle.cb_levels.specs.declared.levels.LevelEntry.{LevelEntry}
use Rattle.cb_levels.specs.declared.line.LevelLine.TheVariants as line
use Rattle.cb_levels.specs.Text.{level_line_text}
use Rattle.cb_levels.specs.Format.{IsLevelEntry}
use Rattle.cb_levels.specs.Numbers.{AreAroundSpace, level_numbers_text}
use Rattle.cb_levels.proofs.LevelTexts.{IsSmallEntry, entry_text}

-- what stands around the first space
pub around : (bytes : List ℕ) (at : ℕ) → IsFirstByte (is_byte 32) bytes (Some at) → AreAroundSpace bytes (take at bytes) (drop (at + 1) bytes)
around bytes at first = record { written = cut_at_space bytes at first; first = prefix_lacks_space bytes at first }

pub around_none : (bytes : List ℕ) → IsFirstByte (is_byte 32) bytes None → (before after : List ℕ) → bytes ≢ before ++ 32 ∷ after
around_none bytes none before after is =
    let k = length before in
    let at : get_or bytes k 0 ≡ 32 = ap (λ (bs : List ℕ). get_or bs k 0) is ∙ get_or_at before 32 after 0 k refl in
    let long : length bytes ≡ k + suc (length after) = ap length is ∙ length-append before (32 ∷ after) in
    none k (omega arith) (omega arith) (eq-eqb (get_or bytes k 0) 32 at)

-- a number out of range
pub out_of_range : (bytes : List ℕ) (m least most : ℕ) → m < 2 ^ 64 → most < 2 ^ 64 → bytes ≡ decimal m → ¬ IsBetween least most m
    → (n : ℕ) → IsBetween least most n → bytes ≢ decimal n
out_of_range bytes m least most small small_most is out n within e =
    let below = within.1 in
    out (subst (IsBetween least most) (decimal_injective n m (omega arith) small (sym e ∙ is)) within)

-- what is no number is none in a range
pub no_number_in : (bytes : List ℕ) (least most : ℕ) → most < 2 ^ 64 → ((m : ℕ) → ¬ IsDecimal bytes m) → (n : ℕ) → IsBetween least most n → bytes ≢ decimal n
no_number_in bytes least most small none n within e = let below = within.1 in none n (record { small = omega arith; written = e })

-- a number after a word
pub no_count : (bytes word rest : List ℕ) (least most : ℕ) → bytes ≡ word ++ rest → ((n : ℕ) → IsBetween least most n → rest ≢ decimal n)
    → (n : ℕ) → IsBetween least most n → bytes ≢ word ++ decimal n
no_count bytes word rest least most is none n within e = none n within (append_cancel_left word rest (decimal n) (sym is ∙ e))

-- ---- the three numbers of an entry

module _ (nodes : ℕ) (few : nodes ≤ 4294967295) (bytes : List ℕ) (x : LevelEntry) (good : IsLevelEntry nodes x) (is : bytes ≡ level_numbers_text x) where
  small : IsSmallEntry x
  small =
      let within = (good.node).1 in
      let level = good.level in
      let parent = good.parent in
      record { node = omega arith; level = omega arith; parent = omega arith }

  module _ (node rest : List ℕ) (cut : AreAroundSpace bytes node rest) where
    pub first_parts : (node ≡ decimal x.node) × (rest ≡ decimal x.level ++ 32 ∷ decimal x.parent)
    first_parts = cut_once 32 node rest (decimal x.node) (decimal x.level ++ 32 ∷ decimal x.parent) cut.first (digits_lack_space x.node small.node) (sym cut.written ∙ is)

    pub second_parts : (level parent : List ℕ) → AreAroundSpace rest level parent → (level ≡ decimal x.level) × (parent ≡ decimal x.parent)
    second_parts level parent again =
        cut_once 32 level parent (decimal x.level) (decimal x.parent) again.first (digits_lack_space x.level small.level) (sym again.written ∙ first_parts.1)

pub three_numbers : (bytes node rest level parent : List ℕ) (x : LevelEntry) → AreAroundSpace bytes node rest → AreAroundSpace rest level parent
    → node ≡ decimal x.node → level ≡ decimal x.level → parent ≡ decimal x.parent → bytes ≡ level_numbers_text x
three_numbers bytes node rest level parent x cut again a b c =
    cut.written
    ∙ (ap (λ (ds : List ℕ). ds ++ 32 ∷ rest) a
    ∙ (ap (λ (ds : List ℕ). decimal x.node ++ 32 ∷ ds) again.written
    ∙ (ap (λ (ds : List ℕ). decimal x.node ++ 32 ∷ (ds ++ 32 ∷ parent)) b ∙ ap (λ (ds : List ℕ). decimal x.node ++ 32 ∷ (decimal x.level ++ 32 ∷ ds)) c)))

-- ---- the line of an entry

pub entry_line : (bytes rest : List ℕ) (x : LevelEntry) → bytes ≡ codes "entry " ++ rest → rest ≡ level_numbers_text x → bytes ≡ level_line_text (line.Entry x)
entry_line bytes rest x is numbers = is ∙ (ap (λ (r : List ℕ). codes "entry " ++ r) numbers ∙ sym (entry_text x))

pub no_entry_line : (bytes rest : List ℕ) (x : LevelEntry) → bytes ≡ codes "entry " ++ rest → rest ≢ level_numbers_text x → bytes ≢ level_line_text (line.Entry x)
no_entry_line bytes rest x is none e = none (append_cancel_left (codes "entry ") rest (level_numbers_text x) (sym is ∙ (e ∙ entry_text x)))

pub no_entry_word : (bytes : List ℕ) → ((rest : List ℕ) → bytes ≢ codes "entry " ++ rest) → (x : LevelEntry) → bytes ≢ level_line_text (line.Entry x)
no_entry_word bytes none x e = none (level_numbers_text x) (e ∙ entry_text x)
