-- What holds of words and requests.
use Rattle.std.specs.Prelude.{◌≡◌, ◌↔◌, ℕ, ◌^◌, ◌<◌, ◌≤◌, ◌++◌, List, [], ◌∷◌, codes, None, Some}
use Rattle.cb_model.specs.declared.wish.Wish.{Wish}
use Rattle.cb_model.specs.declared.wish.Wish.TheVariants.{Plain, Cap}
use Rattle.cb_text.specs.Decimals.{IsDecimal}
use Rattle.cb_request.specs.Commands.{request_of}
use Rattle.cb_request.specs.NodeWords.{IsNodeWord, node_in}
use Rattle.cb_request.specs.Numbers.{number_in, wish_in, cap_sign}
use Rattle.cb_request.specs.declared.request.Request.TheVariants as requests

-- a word is read as a number exactly where it is that number's decimal, and the number is from the least to the most
abbrev pub NumberIsRead : Type 0
NumberIsRead = (least most : ℕ) (word : List ℕ) (number : ℕ) → most < 2 ^ 64
    → (number_in least most word ≡ Some number) ↔ (IsDecimal word number × (least ≤ number) × (number ≤ most))

-- the word is the decimal of a distance
pub record IsDistanceWord (word : List ℕ) (distance : ℕ) : Type 0 where
  pub decimal_is : IsDecimal word distance
  pub some : 1 ≤ distance
  pub few : distance ≤ 9999

-- the word is that of a wanted distance, or `cap` and after it that of a cap
abbrev pub IsWishWord : List ℕ → Wish → Type 0
IsWishWord word (Plain distance) = IsDistanceWord word distance
IsWishWord word (Cap cap) = (number : List ℕ) × (word ≡ cap_sign ++ number) × IsDistanceWord number cap

-- a word is read as a wish exactly where it is the word of that wish
abbrev pub WishIsRead : Type 0
WishIsRead = (word : List ℕ) (wish : Wish) → (wish_in word ≡ Some wish) ↔ IsWishWord word wish

-- a word is read as a node exactly where it is a node's text, and its bytes are kept
abbrev pub NodeIsRead : Type 0
NodeIsRead = (word node : List ℕ) → (node_in word ≡ Some node) ↔ (IsNodeWord word × (word ≡ node))

-- no words, words of no command, and a word too few or too many ask for nothing
pub record WordsAskForNothing (m t : List ℕ) : Type 0 where
  pub none : request_of [] ≡ None
  pub unknown : request_of (codes "models" ∷ m ∷ []) ≡ None
  pub few : request_of (codes "burst" ∷ m ∷ t ∷ []) ≡ None
  pub many : request_of (codes "matrix" ∷ m ∷ t ∷ t ∷ []) ≡ None
  pub event_alone : request_of (codes "levels" ∷ m ∷ t ∷ codes "Sick" ∷ []) ≡ None
  pub two_instances : request_of (codes "levels" ∷ m ∷ t ∷ codes "Sick@n1@n2" ∷ []) ≡ None
  pub reserved : request_of (codes "levels" ∷ m ∷ t ∷ codes "rule@n1" ∷ []) ≡ None

-- and these for something
pub record WordsAsk (m t c : List ℕ) : Type 0 where
  pub burst : request_of (codes "burst" ∷ m ∷ t ∷ c ∷ []) ≡ Some (requests.Burst m t c)
  pub matrix : request_of (codes "matrix" ∷ m ∷ t ∷ []) ≡ Some (requests.Matrix m t)
  pub verify : request_of (codes "verify" ∷ m ∷ t ∷ c ∷ []) ≡ Some (requests.Verify m t c)
  pub explain : request_of (codes "explain" ∷ m ∷ t ∷ c ∷ []) ≡ Some (requests.Explain m t c)
  pub levels : request_of (codes "levels" ∷ m ∷ t ∷ codes "Sick@n1" ∷ []) ≡ Some (requests.Levels m t (codes "Sick@n1"))
  pub prove : request_of (codes "prove" ∷ m ∷ t ∷ c ∷ []) ≡ Some (requests.Prove m t c)

abbrev pub WordsAreRead : Type 0
WordsAreRead = (m t c : List ℕ) → WordsAskForNothing m t × WordsAsk m t c
