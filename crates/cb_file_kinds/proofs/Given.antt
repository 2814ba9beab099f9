-- What judging the text of a codebook shows.
use Rattle.std.proofs.Common.{◌≡◌, ◌⊎◌, ◌≤◌, ℕ, List, length, Result, Ok, Err, refl, sym, subst, inl, inr}
use Rattle.std.specs.Prelude.{IfOk, IfErr}
use Rattle.cb_model.specs.declared.node.NodeName.{NodeName}
use Rattle.cb_network.specs.Topology.{Topology}
use Rattle.cb_cert.specs.declared.certificate.Span.{Span}
use Rattle.cb_report.specs.declared.fault.Fault.{Fault}
use Rattle.cb_report.specs.declared.fault.Fault.TheVariants as faults
use Rattle.cb_outcome.specs.Roles.{Wanted, Role, byte_limit}
use Rattle.cb_outcome.specs.Judged.{File, Known, network}
use Rattle.cb_outcome.specs.Texts.{IsBookKind}
use Rattle.cb_file_kinds.specs.declared.book_file.GivenWish.{GivenWish}
use Rattle.cb_file_kinds.specs.declared.book_file.GivenWish.TheVariants.{Plain, Cap}
use Rattle.cb_file_kinds.specs.declared.book_file.ShownBook.{ShownBook}
use Rattle.cb_file_kinds.specs.declared.certificate_file.ValidCertificate.{ValidCertificate}
use Rattle.cb_file_kinds.specs.Given.{claim_of, IsValidFrom, IsShownBy, IsKnownBook}
use Rattle.cb_file_kinds.specs.Kinds.{file_in_role, IsWant, SaysAfter, StopsJudging}
use Rattle.cb_file_kinds.proofs.Certified.{certificate_says, certificate_unwanted}

-- what a given codebook claims is a codebook
claims_a_book : (wish : GivenWish) (nodes : List NodeName) (columns : List ℕ) (spans : List Span) → IsBookKind (claim_of wish nodes columns spans)
claims_a_book (Plain distance) nodes columns spans = tt
claims_a_book (Cap cap radii) nodes columns spans = tt

module _ (name text : List ℕ) (short : length text ≤ byte_limit (Role.certificate Wanted.book)) (t : Topology) (valid : ValidCertificate)
    (is : IsValidFrom t text valid) where
  abbrev Network : Known → Type 0
  Network known = known ≡ network t

  abbrev BookText : File
  BookText = file_in_role (Role.certificate Wanted.book) name text

  book_says : (shown : ShownBook) → IsShownBy t valid.certificate shown → SaysAfter Network (IsKnownBook t shown) BookText
  book_says shown by =
      let book = shown.book in
      let kind = subst IsBookKind (sym by.given.is) (claims_a_book book.wish book.nodes book.columns by.given.spans) in
      certificate_says Wanted.book name text short t is.lines valid.certificate is.spelled is.shown.valid kind (IsKnownBook t shown) (valid.certificate, refl, by)

  -- the codebook of the certificate, or why it has none
  pub book_said : (result : Result ShownBook Fault) → IfOk result (λ book. (u : Topology) (bytes : List ℕ) → IsValidFrom u bytes valid → IsShownBy u valid.certificate book)
      → IfOk result (λ book. SaysAfter Network (IsKnownBook t book) BookText)
  book_said (Ok book) made = book_says book (made t text is)
  book_said (Err fault) made = tt

  book_refused : (fault : Fault) → IsWant fault ⊎ ((¬ IsBookKind valid.certificate) × (fault ≡ faults.NotBook)) → StopsJudging Network BookText fault
  book_refused fault (inl want) = inl want
  book_refused fault (inr (other, e)) =
      subst (StopsJudging Network BookText) (sym e)
      (certificate_unwanted Wanted.book name text short t is.lines valid.certificate is.spelled is.shown.valid other)

  pub book_stopped : (result : Result ShownBook Fault)
      → IfErr result (λ fault. IsWant fault ⊎ ((¬ IsBookKind valid.certificate) × (fault ≡ faults.NotBook))) → IfErr result (StopsJudging Network BookText)
  book_stopped (Ok book) other = tt
  book_stopped (Err fault) other = book_refused fault other
