use Rattle.std.proofs.Common.{◌≡◌, List, length, refl, sym, ap, subst, ◌∙◌}
use Rattle.std.specs.List.{All, AllZip}
use Rattle.std.proofs.lemmas.List.{length-map}
use Rattle.cb_coding.specs.declared.group.Group.{Group}
use Rattle.cb_coding.specs.Groups.{codes_of}
use Rattle.cb_finding.specs.Finding.{is_among}
use Rattle.cb_matrix.specs.Matrix.{IsMatrixOf}
use Rattle.cb_matrix.specs.Parts.{Parts}
use Rattle.cb_burst.proofs.Naming.{columns_named, as_many_names}
use Rattle.cb_pairs.specs.Guesses.{IsOfGroups}
use Rattle.cb_pairs.proofs.Fitting.{listed_of_groups}
use Rattle.cb_report.specs.declared.fits.FoundFits.{FoundFits}
use Rattle.cb_outcome.specs.Fits.{NamesGuess}
use Rattle.cb_network_commands.proofs.FitsGiven.{as_many_codes, have_names, found_is}
use Rattle.cb_network_commands.specs.Fitted.{HaveNames}
use Rattle.cb_network_commands.proofs.fitting.found_fits.Goals as goal

pub fits-requires : goal.fits-requires
fits-requires c =
    let matrix = c.matrix-matrix.result.now in
    let is = c.matrix-matrix.ensures.small.is in
    let said = c.in_ok-word.ensures is.columns is.is.columns_are in
    let long = as_many_names c.args.network.now.network matrix is is.columns is.columns_named in
    ap length said.word ∙ (length-map is.columns (is_among c.args.raised.now)
    ∙ (sym long ∙ (ap (λ (m : Parts). length m.columns) c.matrix-matrix.ensures.same ∙ sym c.requires.fitted.width)))

pub lines_of-requires-clause-names : goal.lines_of-requires-clause-names
lines_of-requires-clause-names c =
    let searched = c.args.network.now in
    let same = c.matrix-matrix.ensures.same in
    let is = subst (IsMatrixOf searched.network) same c.matrix-matrix.ensures.small.is in
    subst HaveNames (sym (c.coded_groups.ensures.groups ∙ ap (λ (m : Parts). m.groups) same)) (have_names searched is)

pub lines_of-requires-clause-within : goal.lines_of-requires-clause-within
lines_of-requires-clause-within c =
    let pairs = c.args.pairs.now in
    let groups = c.args.network.now.matrix.groups in
    let fits = c.in_ok-fits.fits in
    let here = c.coded_groups.ensures.groups ∙ ap (λ (m : Parts). m.groups) c.matrix-matrix.ensures.same in
    let long : length pairs.rows ≡ length c.coded_groups.result.now.groups = ap length c.requires.fitted.rows ∙ (as_many_codes groups ∙ ap length (sym here)) in
    subst (λ n. All (IsOfGroups n) fits.guesses) long (listed_of_groups pairs.width pairs.rows c.in_ok-word.word.word fits c.in_ok-fits.ensures)

pub returns : goal.returns
returns c = λ columns are.
    let searched = c.args.network.now in
    let matrix = searched.matrix in
    let pairs = c.args.pairs.now in
    let word = c.in_ok-word.word in
    let fits = c.in_ok-fits.fits in
    let lines = c.in_ok-lines.lines in
    let fitted = c.requires.fitted in
    let same = c.matrix-matrix.ensures.same in
    let is = subst (IsMatrixOf searched.network) same c.matrix-matrix.ensures.small.is in
    let width : pairs.width ≡ length columns = fitted.width ∙ as_many_names searched.network matrix is columns (columns_named searched.network matrix is columns are) in
    let named = subst (λ (gs : List Group). AllZip (NamesGuess gs) fits.guesses lines) (c.coded_groups.ensures.groups ∙ ap (λ (m : Parts). m.groups) same) c.in_ok-lines.ensures in
    let found : FoundFits = record {
      raised = word.raised;
      unknown = word.unknown;
      distance = fits.distance;
      radius = c.radius.result;
      sure = fits.sure;
      fits = lines;
    } in
    found_is columns matrix.groups c.args.raised.now pairs fitted.few width fitted.rows word (c.in_ok-word.ensures columns are) fits c.in_ok-fits.ensures
    c.separation.result c.separation.ensures found refl refl refl c.radius.ensures refl named
