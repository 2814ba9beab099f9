-- Closest pairs, choices of columns and codebooks exist.
use Rattle.std.specs.Prelude.{◌≡◌, ◌⊎◌, ℕ, List, Bool, Option}
use Rattle.cb_model.specs.declared.wish.Wish.{Wish}
use Rattle.cb_coding.specs.declared.book.Book.{Book}
use Rattle.cb_coding.specs.declared.book.CapBook.{CapBook}
use Rattle.cb_coding.specs.declared.book.Pair.{Pair}
use Rattle.cb_coding.specs.Books.{IsChoice, IsCapBook, IsInUse, IsChoiceInUse}
use Rattle.cb_coding.specs.Distance.{all_columns}
use Rattle.cb_coding.specs.Pairs.{IsClosestPair, IsFirstClose, GoodFor, Good}
use Rattle.cb_coding.specs.Radii.{AreRadii}

-- codes have a closest pair, or are fewer than two
abbrev pub ClosestPairExists : Type 0
ClosestPairExists = (width : ℕ) (codes : List (List Bool)) → (pair : Option Pair) × IsClosestPair width codes pair

-- codes are as far apart as wanted, or a pair is the first that is closer
abbrev pub GoodOrFirstClose : Type 0
GoodOrFirstClose = (columns : List ℕ) (codes : List (List Bool)) (d : ℕ) → Good codes columns d ⊎ ((pair : Pair) × IsFirstClose columns codes d pair)

-- where all columns are good for a need, there is a choice for it
abbrev pub ChoiceExists : Type 0
ChoiceExists = (width : ℕ) (codes : List (List Bool)) (need : ℕ → ℕ → ℕ) → GoodFor codes (all_columns width) need
    → (columns : List ℕ) × IsChoice width codes need columns

-- for each wish a choice is in use
abbrev pub ChoiceInUseExists : Type 0
ChoiceInUseExists = (width : ℕ) (codes : List (List Bool)) (wish : Wish)
    → (used : Wish) × (columns : List ℕ) × IsChoiceInUse width codes wish used columns

-- for each wanted distance a book is in use
abbrev pub BookInUseExists : Type 0
BookInUseExists = (width : ℕ) (codes : List (List Bool)) (wanted : ℕ) → (book : Book) × IsInUse width codes wanted book

-- for each cap there are radii
abbrev pub RadiiExist : Type 0
RadiiExist = (width : ℕ) (codes : List (List Bool)) (cap : ℕ) → (radii : List ℕ) × AreRadii width codes cap radii

-- and a book
abbrev pub CapBookExists : Type 0
CapBookExists = (width : ℕ) (codes : List (List Bool)) (cap : ℕ) → (book : CapBook) × IsCapBook width codes book × (book.cap ≡ cap)
