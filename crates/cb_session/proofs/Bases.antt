-- What a session holds gives the basis of its topology, and names for its groups.
use Rattle.std.proofs.Common.{◌≡◌, ℕ, ◌+◌, ◌<◌, ◌≤◌, ◌^◌, List, [], ◌∷◌, ◌++◌, length, take, refl, sym, ap, subst, ◌∙◌, inl, inr, arith, Bool, Some}
use Rattle.std.specs.Prelude.{slice_get}
use Rattle.std.specs.List.{AllZip}
use Rattle.std.proofs.lemmas.List.{append_assoc, length-map}
use Rattle.std.proofs.lemmas.Map.Keys.{sorted_from_strictly_increasing}
use Rattle.std.proofs.lemmas.Map.Views.{length-le_from_below}
use Rattle.cb_model.proofs.Numbers.{take_more, zip_push}
use Rattle.cb_model.specs.declared.node.NodeName.{NodeName}
use Rattle.cb_model.specs.declared.wish.Wish.{Wish}
use Rattle.cb_model.specs.declared.wish.Wish.TheVariants.{Plain, Cap}
use Rattle.cb_coding.specs.declared.book.Book.{Book}
use Rattle.cb_coding.specs.declared.book.CapBook.{CapBook}
use Rattle.cb_coding.specs.declared.book.Pair.{Pair}
use Rattle.cb_coding.specs.declared.group.Group.{Group}
use Rattle.cb_coding.specs.Answers.{radius}
use Rattle.cb_coding.specs.Books.{IsChoice}
use Rattle.cb_coding.specs.Distance.{all_columns}
use Rattle.cb_coding.specs.Groups.{codes_of}
use Rattle.cb_coding.specs.Needs.{need_of}
use Rattle.cb_coding.specs.Pairs.{Good, IsFirstClose}
use Rattle.cb_coding.specs.Radii.{AreRadii}
use Rattle.cb_decode.specs.Decoder.{IsDecoder}
use Rattle.cb_decode.specs.Names.{HasName}
use Rattle.cb_decode.proofs.Names.{has_name as named_in}
use Rattle.cb_finding.specs.declared.finding.Finding.{Finding}
use Rattle.cb_finding.specs.Finding.{IsFindingFor}
use Rattle.cb_finding.specs.Matrix.{IsMatrix}
use Rattle.cb_matrix.specs.Matrix.{IsMatrixOf}
use Rattle.cb_log.specs.declared.closed.Closed.{Closed}
use Rattle.cb_log.specs.declared.event.Event.{Event}
use Rattle.cb_log.specs.declared.event.Event.TheVariants.{BookMade}
use Rattle.cb_log.specs.Basis.{Mode, wanted, Basis, IsUsed, IsDiagnosis, IsCapMade, IsMadeFor, IsMadeEvent, AreWarnings}
use Rattle.cb_network.specs.Sound.{problem_limit, symptom_limit}
use Rattle.cb_topo.specs.Numbered.{Numbered, topology_of, IsNodeNamed}
use Rattle.cb_validity.proofs.Passing.{zip_lengths}
use Rattle.cb_session.specs.declared.basis.Ready.{Ready}
use Rattle.cb_session.specs.declared.book.BookInUse.{BookInUse}
use Rattle.cb_session.specs.declared.book.BookInUse.TheVariants as books
use Rattle.cb_session.specs.InUse.{HasRadiiOf, IsInUseFor, KeepsDistance, ReportsCapped, in_use_of}
use Rattle.cb_session.specs.Course.{mode_by}
use Rattle.cb_session.specs.Ready.{IsReady, HasBasis, NamesGroupPair}
use Rattle.cb_session.proofs.Radii.{extremes_are}

-- what is ready has its basis
pub ready_has_basis : (n : Numbered) (mode : Mode) (ready : Ready) → IsReady n mode ready
    → (basis : Basis (topology_of n) mode) × HasBasis n basis ready
ready_has_basis n mode ready is = (
  record {
    columns = is.columns;
    groups = ready.matrix.groups;
    matrix = is.matrix;
    kept = (in_use_of ready.book).kept;
    used = (in_use_of ready.book).used;
    in_use = subst (λ width. IsUsed mode width (codes_of ready.matrix.groups) (in_use_of ready.book).kept (in_use_of ready.book).used)
        (zip_lengths (IsNodeNamed n) ready.matrix.columns is.columns is.columns_named) is.in_use;
  },
  record { columns = is.columns_named; groups = refl; kept = refl; used = refl },
)

-- a choice has no more columns than there are
pub choice_is_narrow : (width : ℕ) (codes : List (List Bool)) (need : ℕ → ℕ → ℕ) (columns : List ℕ) → IsChoice width codes need columns → length columns ≤ width
choice_is_narrow width codes need columns is = length-le_from_below width columns (sorted_from_strictly_increasing columns is.rise) is.within

-- the matrix of a topology with the codebook in use for a wish is ready
pub is_ready : (n : Numbered) (wish : Wish) (ready : Ready) → IsMatrixOf n ready.matrix
    → length ready.matrix.columns ≤ symptom_limit → length ready.matrix.groups ≤ problem_limit + 1
    → IsInUseFor (length ready.matrix.columns) (codes_of ready.matrix.groups) wish ready.book
    → IsDecoder (in_use_of ready.book).kept (codes_of ready.matrix.groups) ready.decoder → IsReady n (wanted wish) ready
is_ready n wish ready matrix few_columns few_groups in_use decoder =
    let narrow = choice_is_narrow (length ready.matrix.columns) (codes_of ready.matrix.groups) _ (in_use_of ready.book).kept in_use.choice.choice in record {
      columns = matrix.columns;
      columns_named = matrix.columns_named;
      matrix = matrix.is;
      in_use = in_use.choice;
      radii = in_use.radii;
      decoder = decoder;
      few_columns = few_columns;
      few_groups = few_groups;
      few_kept = omega (arith, narrow, few_columns);
    }

-- and so is it with a codebook that is given, whose radii are those of the groups
pub is_ready_by : (n : Numbered) (ready : Ready) → IsMatrixOf n ready.matrix → length ready.matrix.columns ≤ symptom_limit → length ready.matrix.groups ≤ problem_limit + 1
    → length (in_use_of ready.book).kept < 2 ^ 32
    → ((columns : List NodeName) (groups : List Group) → IsMatrix (topology_of n) columns groups → HasRadiiOf (length columns) (codes_of groups) ready.book)
    → IsDecoder (in_use_of ready.book).kept (codes_of ready.matrix.groups) ready.decoder → IsReady n (mode_by ready) ready
is_ready_by n ready matrix few_columns few_groups few_kept radii decoder = record {
  columns = matrix.columns;
  columns_named = matrix.columns_named;
  matrix = matrix.is;
  in_use = (refl, refl);
  radii = subst (λ width. HasRadiiOf width (codes_of ready.matrix.groups) ready.book)
      (sym (zip_lengths (IsNodeNamed n) ready.matrix.columns matrix.columns matrix.columns_named)) (radii matrix.columns ready.matrix.groups matrix.is);
  decoder = decoder;
  few_columns = few_columns;
  few_groups = few_groups;
  few_kept = few_kept;
}

-- a codebook in use for a distance keeps the groups of its matrix as far apart as it says, over all columns too
pub kept_is_good : (n : Numbered) (ready : Ready) (d : ℕ) → IsReady n (wanted (Plain d)) ready → KeepsDistance ready.book d
    → Good (codes_of ready.matrix.groups) (all_columns (length ready.matrix.columns)) d
kept_is_good n ready d is keeps = by_book ready.book is.in_use.choice keeps
  where
    by_book : (book : BookInUse)
        → IsChoice (length ready.matrix.columns) (codes_of ready.matrix.groups)
        (need_of (length ready.matrix.columns) (codes_of ready.matrix.groups) (in_use_of book).used) (in_use_of book).kept
        → KeepsDistance book d → Good (codes_of ready.matrix.groups) (all_columns (length ready.matrix.columns)) d
    by_book (books.Plain book) choice far = λ i j pair. let apart = choice.good i j pair in omega arith
    by_book (books.Capped book) choice far = absurd far

-- each group of a topology is called by something
pub has_name : (n : Numbered) (ready : Ready) (mode : Mode) → IsReady n mode ready → (i : ℕ) → i < length (codes_of ready.matrix.groups)
    → HasName ready.matrix.groups i
has_name n ready mode is i within =
    let groups = ready.matrix.groups in
    named_in (topology_of n) is.columns groups is.matrix i (omega (arith, length-map groups (λ (g : Group). g.code)))

-- the diagnoses of these windows stand after the events
abbrev pub Diagnosed : Numbered → Ready → List Closed → List Event → List Event → Type 0
Diagnosed n ready closing before events = (mode : Mode) (basis : Basis (topology_of n) mode) → HasBasis n basis ready
    → (diagnoses : List Event) × AllZip (IsDiagnosis basis) closing diagnoses × (events ≡ before ++ diagnoses)

-- one window more
pub one_more : (n : Numbered) (ready : Ready) (closing : List Closed) (before events : List Event) (k : ℕ) (c : Closed) (event : Event) → slice_get closing k ≡ Some c
    → ((mode : Mode) (basis : Basis (topology_of n) mode) → HasBasis n basis ready → IsDiagnosis basis c event)
    → Diagnosed n ready (take k closing) before events → Diagnosed n ready (take (k + 1) closing) before (events ++ event ∷ [])
one_more n ready closing before events k c event at is so_far mode basis has =
    let (diagnoses, each, are) = so_far mode basis has in (
      diagnoses ++ event ∷ [],
      subst (λ (cs : List Closed). AllZip (IsDiagnosis basis) cs (diagnoses ++ event ∷ [])) (sym (take_more closing k c at))
          (zip_push (IsDiagnosis basis) (take k closing) diagnoses c event each (is mode basis has)),
      ap (λ (es : List Event). es ++ event ∷ []) are ∙ append_assoc before diagnoses (event ∷ []),
    )

module _ (n : Numbered) {mode : Mode} (basis : Basis (topology_of n) mode) (ready : Ready) (has : HasBasis n basis ready) where
  -- as many columns have names as there are
  width : length basis.columns ≡ length ready.matrix.columns
  width = sym (zip_lengths (IsNodeNamed n) ready.matrix.columns basis.columns has.columns)

  -- the groups are far enough apart
  pub warned_good : (d : ℕ) → Good (codes_of ready.matrix.groups) (all_columns (length ready.matrix.columns)) d → AreWarnings basis (Plain d) []
  warned_good d good = inl (rw (has.groups, width) good, refl)

  -- two groups are too close
  pub warned_thin : (d : ℕ) (pair : Pair) (event : Event) → IsFirstClose (all_columns (length ready.matrix.columns)) (codes_of ready.matrix.groups) d pair
      → NamesGroupPair ready.matrix.groups d pair event → AreWarnings basis (Plain d) (event ∷ [])
  warned_thin d pair event close names = inr (
    event,
    record {
      pair = pair;
      is_first = rw (has.groups, width) close;
      first = names.first;
      first_is = rw has.groups names.first_is;
      second = names.second;
      second_is = rw has.groups names.second_is;
      is = names.is;
    },
    refl,
  )

  -- the numbers of a codebook for a distance
  pub plain_is_reported : (book : Book) (event : Event) → ready.book ≡ books.Plain book
      → event ≡ BookMade (length book.columns) (length ready.matrix.columns) book.distance (radius book.distance) (length ready.matrix.groups)
      → IsMadeEvent basis event
  plain_is_reported book event is event_is =
      let kept : basis.kept ≡ book.columns = has.kept ∙ ap (λ (b : BookInUse). (in_use_of b).kept) is in
      let used : basis.used ≡ Plain book.distance = has.used ∙ ap (λ (b : BookInUse). (in_use_of b).used) is in
      subst (λ (w : Wish). IsMadeFor basis w event) (sym used) (rw (kept, width, has.groups) event_is)

  -- and of one for a cap, whose radii are those of the groups
  pub capped_is_reported : (book : CapBook) (event : Event) → ready.book ≡ books.Capped book
      → AreRadii (length ready.matrix.columns) (codes_of ready.matrix.groups) book.cap book.radii
      → ReportsCapped book (length ready.matrix.columns) (length ready.matrix.groups) event → IsMadeEvent basis event
  capped_is_reported book event is radii reports =
      let kept : basis.kept ≡ book.columns = has.kept ∙ ap (λ (b : BookInUse). (in_use_of b).kept) is in
      let used : basis.used ≡ Cap book.cap = has.used ∙ ap (λ (b : BookInUse). (in_use_of b).used) is in
      let made : IsCapMade basis book.cap event = record {
        least = reports.least;
        greatest = reports.greatest;
        radii = rw (width, has.groups) (extremes_are (length ready.matrix.columns) (codes_of ready.matrix.groups) book.cap book.radii reports.least reports.greatest radii reports.extremes);
        is = rw (kept, width, has.groups) reports.is;
      } in
      subst (λ (w : Wish). IsMadeFor basis w event) (sym used) made

  -- what is found by what is ready is found by its basis
  pub finding_has_basis : (raised : List NodeName) (finding : Finding)
      → IsFindingFor basis.columns ready.matrix.groups (in_use_of ready.book).kept (in_use_of ready.book).used raised finding
      → IsFindingFor basis.columns basis.groups basis.kept basis.used raised finding
  finding_has_basis raised finding found = rw (has.groups, has.kept, has.used) found
