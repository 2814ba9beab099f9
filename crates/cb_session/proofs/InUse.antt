-- The codebook in use, and what is found by it.
use Rattle.std.proofs.Common.{◌≡◌, ℕ, List, [], ◌∷◌, length, refl, sym, ap, subst, Bool, Some, slice_get}
use Rattle.std.specs.List.{Contains}
use Rattle.cb_model.specs.declared.node.NodeName.{NodeName}
use Rattle.cb_model.specs.declared.wish.Wish.TheVariants.{Plain, Cap}
use Rattle.cb_model.proofs.Rising.{nothing_in_empty}
use Rattle.cb_coding.specs.declared.book.Book.{Book}
use Rattle.cb_coding.specs.declared.book.CapBook.{CapBook}
use Rattle.cb_coding.specs.declared.group.Group.{Group}
use Rattle.cb_coding.specs.Answers.{radius}
use Rattle.cb_coding.specs.Books.{IsInUse, IsCapBook}
use Rattle.cb_coding.specs.Groups.{codes_of}
use Rattle.cb_coding.specs.Radii.{AreRadii, radius_at}
use Rattle.cb_coding.proofs.RadiusLaws.{one_radius_for_all}
use Rattle.cb_finding.specs.declared.finding.Finding.{Finding}
use Rattle.cb_finding.specs.Finding.{IsFinding, IsFindingBy, IsFindingFor, word_of}
use Rattle.cb_session.specs.declared.basis.Ready.{Ready}
use Rattle.cb_session.specs.declared.book.BookInUse.{BookInUse}
use Rattle.cb_session.specs.declared.book.BookInUse.TheVariants as books
use Rattle.cb_session.specs.InUse.{IsInUseFor, HasRadiiOf, in_use_of}

pub plain_in_use : (width : ℕ) (codes : List (List Bool)) (wanted : ℕ) (book : Book) → IsInUse width codes wanted book
    → IsInUseFor width codes (Plain wanted) (books.Plain book)
plain_in_use width codes wanted book is = record {
  choice = record {
    met = (λ good. ap Plain (is.wanted_is good), λ thin. let least = is.least_is thin in (least.0, least.1, ap Plain least.2));
    choice = is.is_book;
  };
  radii = tt;
}

pub capped_in_use : (width : ℕ) (codes : List (List Bool)) (cap : ℕ) (book : CapBook) → IsCapBook width codes book → book.cap ≡ cap
    → IsInUseFor width codes (Cap cap) (books.Capped book)
capped_in_use width codes cap book is same = record { choice = record { met = ap Cap same; choice = is.choice }; radii = is.radii }

-- a list with a member has a first one
has_first : (xs : List ℕ) (x : ℕ) → Contains xs x → (y : ℕ) × (slice_get xs 0 ≡ Some y)
has_first [] x has = absurd (nothing_in_empty x has)
has_first (y ∷ ys) x has = (y, refl)

module _ (columns : List NodeName) (groups : List Group) (kept : List ℕ) (raised : List NodeName) (finding : Finding) where
  -- what is found at a distance is found by what is in use
  pub plain_finding : (d : ℕ) → IsFinding columns groups kept d raised finding → IsFindingFor columns groups kept (Plain d) raised finding
  plain_finding d found =
      let (i, lt, near) = found.answered.attained in
      let (first, at) = has_first found.answer.groups i ((found.answered.nearest i).1 (lt, near)) in
      record {
        radius_of = λ (i : ℕ). radius d;
        radii = λ i lt. refl;
        found = record {
          rise = found.rise;
          raised_are = found.raised_are;
          unknown_are = found.unknown_are;
          answer = found.answer;
          radius_is = (first, at, found.radius_is);
          answered = (one_radius_for_all kept (codes_of groups) d (word_of columns raised) found.answer).1 found.answered;
          distance_is = found.distance_is;
          sure_is = found.sure_is;
          groups_are = found.groups_are;
        };
      }

  -- and so is what is found by the radii of a cap
  pub capped_finding : (cap : ℕ) (radii : List ℕ) → AreRadii (length columns) (codes_of groups) cap radii
      → IsFindingBy columns groups kept (radius_at radii) raised finding → IsFindingFor columns groups kept (Cap cap) raised finding
  capped_finding cap radii are found = record { radius_of = radius_at radii; radii = are.each; found = found }

-- what is ready, by its own codebook
module _ (ready : Ready) (columns raised : List NodeName) (finding : Finding) where
  abbrev width : ℕ
  width = length columns

  abbrev groups_codes : List (List Bool)
  groups_codes = codes_of ready.matrix.groups

  -- the finding is that by its codebook
  abbrev FindsBy : BookInUse → Type 0
  FindsBy book = IsFindingFor columns ready.matrix.groups (in_use_of book).kept (in_use_of book).used raised finding

  pub plain_found : (book : Book) → ready.book ≡ books.Plain book
      → IsFinding columns ready.matrix.groups book.columns book.distance raised finding → FindsBy ready.book
  plain_found book is found =
      subst FindsBy (sym is) (plain_finding columns ready.matrix.groups book.columns raised finding book.distance found)

  pub capped_found : (book : CapBook) → ready.book ≡ books.Capped book → HasRadiiOf width groups_codes ready.book
      → IsFindingBy columns ready.matrix.groups book.columns (radius_at book.radii) raised finding → FindsBy ready.book
  capped_found book is radii found =
      subst FindsBy (sym is) (capped_finding columns ready.matrix.groups book.columns raised finding book.cap book.radii
      (subst (HasRadiiOf width groups_codes) is radii) found)
