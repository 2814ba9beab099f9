-- A session by the codebook of a given certificate.
use Rattle.std.proofs.Common.{◌≡◌, ◌∙◌, ℕ, List, [], length, Result, Ok, Err, IfOk, refl, sym, subst}
use Rattle.cb_coding.specs.declared.group.Group.{Group}
use Rattle.cb_coding.specs.Groups.{codes_of}
use Rattle.cb_coding.specs.Radii.{AreRadii}
use Rattle.cb_model.specs.declared.node.NodeName.{NodeName}
use Rattle.cb_network.specs.Regular.{IsRegular}
use Rattle.cb_network.specs.Topology.{Topology}
use Rattle.cb_finding.specs.Matrix.{IsMatrix}
use Rattle.cb_finding.proofs.One.{matrix_is_one}
use Rattle.cb_cert.specs.declared.certificate.Certificate.{Certificate}
use Rattle.cb_cert.specs.declared.certificate.Span.{Span}
use Rattle.cb_validity.specs.Valid.{AreColumnNumbers, IsValid, IsValidBook}
use Rattle.cb_validity.proofs.Matrices.{spans_make_matrix}
use Rattle.cb_topo.specs.Numbered.{topology_of}
use Rattle.cb_session.specs.declared.stated.StatedBook.{StatedBook}
use Rattle.cb_session.specs.State.{State, StandsForEntries}
use Rattle.cb_session.specs.Stated.{ArePlacesFor, IsModeStated, StatesRadiiOf, wish_stated}
use Rattle.cb_outcome.specs.LogJobs.{States, StatesColumns}
use Rattle.cb_file_kinds.specs.declared.book_file.GivenBook.{GivenBook}
use Rattle.cb_file_kinds.specs.declared.book_file.GivenWish.{GivenWish}
use Rattle.cb_file_kinds.specs.declared.book_file.GivenWish.TheVariants.{Plain, Cap}
use Rattle.cb_file_kinds.specs.Given.{claim_of, IsGivenBy}
use Rattle.cb_log_commands.specs.Fixed.{StandsFixed, stated_of}

-- the codebook, as a certificate states it
abbrev pub book_stated : GivenBook → StatedBook
book_stated given = record { wish = stated_of given.wish; nodes = given.nodes; columns = given.columns }

module _ (t : Topology) (nodes : List NodeName) (numbers : List ℕ) (spans : List Span) where
  -- a valid certificate keeps the groups as far apart
  book_of_valid : (wish : GivenWish) → IsValid t (claim_of wish nodes numbers spans) → IsValidBook t (wish_stated (stated_of wish)) nodes numbers spans
  book_of_valid (Plain distance) valid = valid
  book_of_valid (Cap cap radii) valid = valid.book

  -- it states its columns
  states_of : (wish : GivenWish) (kept : List ℕ) → StatesColumns t nodes numbers kept → States t (claim_of wish nodes numbers spans) kept (wish_stated (stated_of wish))
  states_of (Plain distance) kept stated = (stated, refl)
  states_of (Cap cap radii) kept stated = (stated, refl)

  -- and its radii, for a cap, are those of the groups
  radii_of_valid : (wish : GivenWish) → IsValid t (claim_of wish nodes numbers spans) → (columns : List NodeName) (groups : List Group)
      → IsMatrix t columns groups → StatesRadiiOf (length columns) (codes_of groups) (stated_of wish)
  radii_of_valid (Plain distance) valid columns groups matrix = tt
  radii_of_valid (Cap cap radii) valid columns groups matrix =
      let are = valid.radii_are in
      let made = (spans_make_matrix t nodes spans are.columns are.groups valid.book.spans_are).0 are.made in
      let same = matrix_is_one t are.columns columns are.groups groups made matrix in
      subst (λ (gs : List Group). AreRadii (length columns) (codes_of gs) cap radii) same.1
      (subst (λ (cs : List NodeName). AreRadii (length cs) (codes_of are.groups) cap radii) same.0 are.are)

-- a session by the codebook that the given certificate states
pub all_stand : {E : Type 0} (given : GivenBook) (window : ℕ) (around : Topology) (result : Result State E)
    → IfOk result (λ s. IsModeStated around (book_stated given) s.mode) → IfOk result (λ s. s.windows.length ≡ window)
    → IfOk result (λ s. StandsForEntries s around []) → IsRegular around.model → around ≡ topology_of given.graph
    → IfOk result (λ s. (t : Topology) (c : Certificate) → IsGivenBy t c given → StandsFixed t c window s)
all_stand given window around (Err e) by length stands regular graph = tt
all_stand given window around (Ok s) by length stands regular graph = λ t c is.
    let same : around ≡ t = graph ∙ is.graph in
    let apart = (book_of_valid t given.nodes given.columns is.spans given.wish is.valid).apart in
    let all = subst (λ (u : Topology). ArePlacesFor u given.nodes given.columns by.kept) same by.places in
    let used = wish_stated (stated_of given.wish) in
    let stated : StatesColumns t given.nodes given.columns by.kept =
    record { columns = apart.columns; columns_are = apart.made.columns_are; places = all apart.columns apart.made.columns_are } in
    let states = states_of t given.nodes given.columns is.spans given.wish by.kept stated in
    record {
      regular = subst (λ (u : Topology). IsRegular u.model) same regular;
      kept = by.kept;
      used = used;
      states = subst (λ (x : Certificate). States t x by.kept used) (sym is.is) states;
      mode = by.is;
      length = length;
      stands = subst (λ (u : Topology). StandsForEntries s u []) same stands;
    }

-- the columns of a given certificate are columns of its topology
pub given_columns : (t : Topology) (c : Certificate) (given : GivenBook) → IsGivenBy t c given → AreColumnNumbers t given.nodes given.columns
given_columns t c given is = (book_of_valid t given.nodes given.columns is.spans given.wish is.valid).columns_are

-- its radii, if it has any, are those of its topology's groups
pub given_radii : (t : Topology) (c : Certificate) (given : GivenBook) → IsGivenBy t c given
    → (columns : List NodeName) (groups : List Group) → IsMatrix t columns groups → StatesRadiiOf (length columns) (codes_of groups) (stated_of given.wish)
given_radii t c given is columns groups matrix = radii_of_valid t given.nodes given.columns is.spans given.wish is.valid columns groups matrix
