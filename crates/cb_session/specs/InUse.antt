-- What is in use: the columns of a codebook, and the wish that they meet.
use Rattle.std.specs.Prelude.{◌≡◌, ℕ, ◌≤◌, List, length, Bool}
use Rattle.cb_model.specs.declared.wish.Wish.{Wish}
use Rattle.cb_model.specs.declared.wish.Wish.TheVariants.{Plain, Cap}
use Rattle.cb_coding.specs.declared.book.CapBook.{CapBook}
use Rattle.cb_coding.specs.Books.{IsChoiceInUse}
use Rattle.cb_coding.specs.Radii.{AreRadii}
use Rattle.cb_log.specs.declared.event.Event.{Event}
use Rattle.cb_log.specs.declared.event.Event.TheVariants.{CapMade}
use Rattle.cb_session.specs.declared.book.BookInUse.{BookInUse}
use Rattle.cb_session.specs.declared.book.BookInUse.TheVariants as books
use Rattle.cb_session.specs.Extremes.{AreExtremeRadii}

-- columns, and the wish that they meet
pub record InUse : Type 0 where
  pub kept : List ℕ
  pub used : Wish

-- those of a codebook
abbrev pub in_use_of : BookInUse → InUse
in_use_of (books.Plain book) = record { kept = book.columns; used = Plain book.distance }
in_use_of (books.Capped book) = record { kept = book.columns; used = Cap book.cap }

-- the radii of a codebook for a cap are those of the codes
abbrev pub HasRadiiOf : ℕ → List (List Bool) → BookInUse → Type 0
HasRadiiOf width codes (books.Plain book) = Unit {0}
HasRadiiOf width codes (books.Capped book) = AreRadii width codes book.cap book.radii

-- the codebook is the one in use for a wish
pub record IsInUseFor (width : ℕ) (codes : List (List Bool)) (wish : Wish) (book : BookInUse) : Type 0 where
  pub choice : IsChoiceInUse width codes wish (in_use_of book).used (in_use_of book).kept
  pub radii : HasRadiiOf width codes book

-- it keeps all codes this far apart by its own distance
abbrev pub KeepsDistance : BookInUse → ℕ → Type 0
KeepsDistance (books.Plain book) d = d ≤ book.distance
KeepsDistance (books.Capped book) d = ⊥

-- the event reports its numbers, with the least and the greatest of its radii
pub record ReportsCapped (book : CapBook) (of groups : ℕ) (event : Event) : Type 0 where
  pub least : ℕ
  pub greatest : ℕ
  pub extremes : AreExtremeRadii book.radii least greatest
  pub is : event ≡ CapMade (length book.columns) of book.cap least greatest groups
