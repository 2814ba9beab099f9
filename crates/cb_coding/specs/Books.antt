-- The codebook: columns that suffice to keep the codes apart, none of which can be left out.
use Rattle.std.specs.Prelude.{◌≡◌, ◌↔◌, ℕ, ◌<◌, ◌++◌, List, Bool, Some, nat_lt}
use Rattle.std.specs.List.{Contains, All, filter}
use Rattle.std.specs.List.Sorted.{IsStrictlyIncreasing}
use Rattle.cb_coding.specs.declared.book.Book.{Book}
use Rattle.cb_coding.specs.declared.book.CapBook.{CapBook}
use Rattle.cb_coding.specs.declared.book.Pair.{Pair}
use Rattle.cb_model.specs.declared.wish.Wish.{Wish}
use Rattle.cb_model.specs.declared.wish.Wish.TheVariants.{Plain, Cap}
use Rattle.cb_coding.specs.Distance.{all_columns}
use Rattle.cb_coding.specs.Needs.{capped_need, need_of}
use Rattle.cb_coding.specs.Pairs.{Good, IsClosestPair, plain_need, GoodFor}
use Rattle.cb_coding.specs.Radii.{AreRadii}

-- all columns before c, and those of the book after c
abbrev pub columns_without : ℕ → List ℕ → List ℕ
columns_without c columns = all_columns c ++ filter (λ k. nat_lt c k) columns

-- All columns are good for a need, and a column is kept exactly where those before it, together with the kept ones after it,
-- aren't.
pub record IsChoice (width : ℕ) (codes : List (List Bool)) (need : ℕ → ℕ → ℕ) (columns : List ℕ) : Type 0 where
  pub good : GoodFor codes (all_columns width) need
  pub rise : IsStrictlyIncreasing columns
  pub within : All (λ k. k < width) columns
  pub kept : (c : ℕ) → c < width → Contains columns c ↔ ¬ GoodFor codes (columns_without c columns) need

-- the choice at the book's distance
abbrev pub IsBook : ℕ → List (List Bool) → Book → Type 0
IsBook width codes book = IsChoice width codes (plain_need book.distance) book.columns

-- the choice for the book's cap, with the radius of each code
pub record IsCapBook (width : ℕ) (codes : List (List Bool)) (book : CapBook) : Type 0 where
  pub choice : IsChoice width codes (capped_need width codes book.cap) book.columns
  pub radii : AreRadii width codes book.cap book.radii

-- The book in use for a wanted distance: that distance where all columns are good at it, and else the least distance.
pub record IsInUse (width : ℕ) (codes : List (List Bool)) (wanted : ℕ) (book : Book) : Type 0 where
  pub is_book : IsBook width codes book
  pub wanted_is : Good codes (all_columns width) wanted → book.distance ≡ wanted
  pub least_is : ¬ Good codes (all_columns width) wanted → (pair : Pair) × IsClosestPair width codes (Some pair) × (book.distance ≡ pair.distance)

-- The wish that is met in place of another: a cap always is; a distance where all columns are good at it, and else the least
-- distance is.
abbrev pub IsMetFor : ℕ → List (List Bool) → Wish → Wish → Type 0
IsMetFor width codes (Plain d) used =
    (Good codes (all_columns width) d → used ≡ Plain d)
    × (¬ Good codes (all_columns width) d → (pair : Pair) × IsClosestPair width codes (Some pair) × (used ≡ Plain pair.distance))
IsMetFor width codes (Cap cap) used = used ≡ Cap cap

-- the columns in use for a wish, and the wish that they meet
pub record IsChoiceInUse (width : ℕ) (codes : List (List Bool)) (wish used : Wish) (columns : List ℕ) : Type 0 where
  pub met : IsMetFor width codes wish used
  pub choice : IsChoice width codes (need_of width codes used) columns
