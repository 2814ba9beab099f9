-- What is made of a topology for a wish.
use Rattle.std.specs.Prelude.{◌≡◌, ◌+◌, ◌≤◌, ℕ, List, length}
use Rattle.cb_model.specs.declared.node.NodeName.{NodeName}
use Rattle.cb_model.specs.declared.wish.Wish.{Wish}
use Rattle.cb_model.specs.declared.wish.Wish.TheVariants.{Plain, Cap}
use Rattle.cb_coding.specs.declared.book.CapBook.{CapBook}
use Rattle.cb_coding.specs.declared.book.Pair.{Pair}
use Rattle.cb_coding.specs.declared.group.Group.{Group}
use Rattle.cb_coding.specs.Books.{IsCapBook, IsChoice}
use Rattle.cb_coding.specs.Distance.{all_columns}
use Rattle.cb_coding.specs.Groups.{codes_of}
use Rattle.cb_coding.specs.Needs.{need_of}
use Rattle.cb_coding.specs.Pairs.{IsFirstClose}
use Rattle.cb_network.specs.Sound.{problem_limit}
use Rattle.cb_network.specs.Topology.{Topology}
use Rattle.cb_finding.specs.Matrix.{IsMatrix}
use Rattle.cb_cert.specs.declared.certificate.Certificate.{Certificate}
use Rattle.cb_cert.specs.declared.certificate.Certificate.TheVariants.{Book as BookClaim, Capped as CappedClaim, Thin as ThinClaim}
use Rattle.cb_cert.specs.Format.{IsCertificate, IsWanted}
use Rattle.cb_validity.specs.Canonical.{IsCanonicalBook}
use Rattle.cb_validity.specs.Codebooks.{AreBookColumns, HasCodebook, IsCodebook, IsShortfall}
use Rattle.cb_validity.specs.Totals.{HasFewEntries, HasManyEntries}
use Rattle.cb_topo.specs.Numbered.{Numbered, topology_of}
use Rattle.cb_certify.specs.declared.codebook.Codebook.{Codebook}
use Rattle.cb_certify.specs.declared.codebook.Codebook.TheVariants.{Certified, TooManyEntries, TooClose}
use Rattle.cb_certify.specs.declared.shortfall.ClosePair.{ClosePair}
use Rattle.cb_certify.specs.Members.{IsCalledBy, IsPairOf}

-- the number of the wish may be wanted
abbrev pub IsWantedWish : Wish → Type 0
IsWantedWish (Plain d) = IsWanted d
IsWantedWish (Cap cap) = IsWanted cap

-- the certificate of the codebook, or that it has too many entries, or the certificate that the first two groups are too close for a distance
abbrev pub IsMadeOf : Topology → Wish → Codebook → Type 0
IsMadeOf t wish (Certified certificate) = IsCodebook t wish certificate × HasFewEntries t × IsCertificate certificate
IsMadeOf t wish TooManyEntries = HasCodebook t wish × HasManyEntries t
IsMadeOf t wish (TooClose wanted first second distance certificate) =
    (wish ≡ Plain wanted) × IsShortfall t wanted first second distance certificate × IsCertificate certificate

-- the columns at these positions are those of the topology's codebook for the wish
pub record IsChoiceOf (t : Topology) (wish : Wish) (kept : List ℕ) : Type 0 where
  pub columns : List NodeName
  pub groups : List Group
  pub matrix : IsMatrix t columns groups
  pub is : IsChoice (length columns) (codes_of groups) (need_of (length columns) (codes_of groups) wish) kept

-- for some wish
abbrev pub IsSomeChoice : Topology → List ℕ → Type 0
IsSomeChoice t kept = (wish : Wish) × IsChoiceOf t wish kept

-- the book is that of the topology's codes for its cap, and they are few
pub record IsCapBookOf (t : Topology) (book : CapBook) : Type 0 where
  pub columns : List NodeName
  pub groups : List Group
  pub matrix : IsMatrix t columns groups
  pub is : IsCapBook (length columns) (codes_of groups) book
  pub few : length groups ≤ problem_limit + 1

-- the canonical book at a distance for the columns at these positions, which are those of the codebook for each wish whose choice they are
pub record IsBookOver (t : Topology) (kept : List ℕ) (distance : ℕ) (c : Certificate) : Type 0 where
  pub columns : List NodeName
  pub columns_are : (wish : Wish) → IsChoiceOf t wish kept → AreBookColumns t wish columns
  pub canonical : IsCanonicalBook t columns distance c
  pub of_format : IsWanted distance → IsCertificate c
  pub few : HasFewEntries t

-- the certificate is a book
abbrev pub IsBookClaim : Certificate → Type 0
IsBookClaim (BookClaim distance nodes numbers spans) = Unit {0}
IsBookClaim (CappedClaim cap nodes numbers radii spans) = ⊥
IsBookClaim (ThinClaim wanted distance nodes first second) = ⊥

-- the certificate for a cap has the lists of the book, and these radii
abbrev pub IsCappedFrom : Certificate → ℕ → List ℕ → Certificate → Type 0
IsCappedFrom (BookClaim distance nodes numbers spans) cap radii c = c ≡ CappedClaim cap nodes numbers radii spans
IsCappedFrom book cap radii c = ⊥

-- the first two groups of the topology that are closer than wanted
pub record IsFirstPair (n : Numbered) (wanted : ℕ) (close : ClosePair) : Type 0 where
  pub columns : List NodeName
  pub groups : List Group
  pub matrix : IsMatrix (topology_of n) columns groups
  pub pair : Pair
  pub first : IsFirstClose (all_columns (length columns)) (codes_of groups) wanted pair
  pub is : IsPairOf (IsCalledBy n groups) pair close
