-- The answer by what is in use: columns, and the wish that they meet.
use Rattle.std.specs.Prelude.{◌≡◌, ℕ, ◌<◌, ◌≤◌, List, length, Bool}
use Rattle.cb_coding.specs.declared.book.Answer.{Answer}
use Rattle.cb_model.specs.declared.wish.Wish.{Wish}
use Rattle.cb_model.specs.declared.wish.Wish.TheVariants.{Plain, Cap}
use Rattle.cb_coding.specs.Answers.{IsAnswerBy, radius}
use Rattle.cb_coding.specs.Radii.{IsNearestNeed}

-- how many lost or spurious symptoms the code at a position tolerates
abbrev pub IsRadius : ℕ → List (List Bool) → Wish → ℕ → ℕ → Type 0
IsRadius width codes (Plain d) i r = r ≡ radius d
IsRadius width codes (Cap cap) i r = (d : ℕ) × IsNearestNeed width codes cap i d × (r ≡ radius d)

-- for each code its radius
abbrev pub HaveRadii : ℕ → List (List Bool) → Wish → (ℕ → ℕ) → Type 0
HaveRadii width codes used radius_of = (i : ℕ) → i < length codes → IsRadius width codes used i (radius_of i)

-- the least and the greatest radius of all codes
pub record AreLeastAndGreatest (width : ℕ) (codes : List (List Bool)) (used : Wish) (least greatest : ℕ) : Type 0 where
  pub least_is : (i : ℕ) × (i < length codes) × IsRadius width codes used i least
  pub greatest_is : (i : ℕ) × (i < length codes) × IsRadius width codes used i greatest
  pub between : (i r : ℕ) → i < length codes → IsRadius width codes used i r → (least ≤ r) × (r ≤ greatest)

-- the number of a wish isn't 0
abbrev pub AsksSomething : Wish → Type 0
AsksSomething (Plain d) = 0 < d
AsksSomething (Cap cap) = 0 < cap

-- the answer over these columns, each code with its radius
pub record IsAnswerFor (width : ℕ) (codes : List (List Bool)) (columns : List ℕ) (used : Wish) (word : List Bool) (answer : Answer) : Type 0 where
  pub radius_of : ℕ → ℕ
  pub radii : HaveRadii width codes used radius_of
  pub answered : IsAnswerBy columns codes radius_of word answer
