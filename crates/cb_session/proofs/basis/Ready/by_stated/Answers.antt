use Rattle.std.proofs.Common.{◌≡◌, ◌∙◌, ℕ, List, length, sym, ap, subst, arith}
use Rattle.cb_coding.specs.Groups.{codes_of}
use Rattle.cb_log.specs.Basis.{fixed}
use Rattle.cb_topo.specs.Numbered.{topology_of}
use Rattle.cb_session.specs.InUse.{in_use_of}
use Rattle.cb_session.specs.Stated.{ArePlacesFor}
use Rattle.cb_session.proofs.Bases.{is_ready_by}
use Rattle.cb_session.proofs.basis.Ready.by_stated.Goals as goal

pub of-requires-clause-columns_fit : goal.of-requires-clause-columns_fit
of-requires-clause-columns_fit c =
    let few = c.in_ok-matrix.ensures.few_places in
    let same : length c.columns.result.now ≡ length c.in_ok-matrix.places = ap (λ (columns : List ℕ). length columns) (c.columns.ensures ∙ c.book_of-book.ensures.kept) in
    omega arith

pub returns-clause-ready : goal.returns-clause-ready
returns-clause-ready c =
    let made = c.in_ok-matrix.ensures in
    let matrix = c.in_ok-matrix.matrix in
    let few = made.few_places in
    let kept = ap (λ (columns : List ℕ). length columns) c.book_of-book.ensures.kept in
    is_ready_by c.args.cache.now.graph (record { matrix = matrix; book = c.book_of-book.result; decoder = c.in_ok-decoder.decoder }) made.matrix made.few_columns made.few_groups
    (omega (arith, few, kept)) (λ columns groups is. c.book_of-book.ensures.radii (length columns) (codes_of groups) (c.requires.radii columns groups is))
    (rw (c.columns.ensures, c.codes.ensures.rows) at c.in_ok-decoder.ensures)

pub returns-clause-stated : goal.returns-clause-stated
returns-clause-stated c =
    let t = topology_of c.args.cache.now.graph in
    let stated = c.args.stated in
    let held = in_use_of c.book_of-book.result in
    record {
      kept = held.kept;
      places = subst (λ (places : List ℕ). ArePlacesFor t stated.nodes stated.columns places) (sym c.book_of-book.ensures.kept) c.in_ok-matrix.ensures.places;
      is = ap (fixed held.kept) c.book_of-book.ensures.used;
    }
