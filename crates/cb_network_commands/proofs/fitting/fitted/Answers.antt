use Rattle.std.proofs.Common.{◌≡◌, length, ap, subst, ◌∙◌, arith}
use Rattle.cb_codes.specs.Codes.{Coded}
use Rattle.cb_coding.specs.Groups.{codes_of}
use Rattle.cb_matrix.specs.Matrix.{IsMatrixOf}
use Rattle.cb_matrix.specs.Parts.{Parts}
use Rattle.cb_pairs.specs.Fits.{ArePairsRefused}
use Rattle.cb_report.specs.Text.{bytes_of_text}
use Rattle.cb_file_kinds.proofs.Chain.{if_ok_more}
use Rattle.cb_network_commands.proofs.FitsGiven.{as_many_codes, fitted_gives, refused_gives}
use Rattle.cb_network_commands.proofs.fitting.fitted.Goals as goal

pub of-requires-clause-some : goal.of-requires-clause-some
of-requires-clause-some c =
    let quiet = ap length c.matrix-matrix.ensures.small.is.is.groups_are.quiet in
    let same = ap length c.codes.ensures.rows in
    let all = as_many_codes c.matrix-matrix.result.now.groups in
    omega arith

pub of-requires-clause-places_fit : goal.of-requires-clause-places_fit
of-requires-clause-places_fit c =
    let few = c.matrix-matrix.ensures.small.few_groups in
    let same = ap length c.codes.ensures.rows in
    let all = as_many_codes c.matrix-matrix.result.now.groups in
    omega arith

pub of-requires-clause-columns_fit : goal.of-requires-clause-columns_fit
of-requires-clause-columns_fit c = let few = c.matrix-matrix.ensures.small.few_columns in let wide = c.codes.ensures.width in omega arith

pub listing-requires-clause-fitted : goal.listing-requires-clause-fitted
listing-requires-clause-fitted c =
    let matrix = c.args.network.now.matrix in
    let here = c.matrix-matrix.ensures.same in
    let few = c.in-Ok.ensures.few in
    let same = ap length (c.codes.ensures.rows ∙ ap (λ (m : Parts). codes_of m.groups) here) in
    let all = as_many_codes matrix.groups in
    record {
      few = omega arith;
      width = ap (λ (codes : Coded). codes.width) c.in-Ok.ensures.pairs ∙ (c.codes.ensures.width ∙ ap (λ (m : Parts). length m.columns) here);
      rows = ap (λ (codes : Coded). codes.rows) c.in-Ok.ensures.pairs ∙ (c.codes.ensures.rows ∙ ap (λ (m : Parts). codes_of m.groups) here);
    }

pub returns-in-Ok : goal.returns-in-Ok
returns-in-Ok c =
    let searched = c.args.network.now in
    let is = subst (IsMatrixOf searched.network) c.matrix-matrix.ensures.same c.matrix-matrix.ensures.small.is in
    if_ok_more c.listing.result _ _ (λ output fitted. λ whole.
    fitted_gives searched is c.args.raised.now (bytes_of_text output.text) output.fault fitted whole)
    c.listing.ensures

pub returns-in-Err : goal.returns-in-Err
returns-in-Err c =
    let searched = c.args.network.now in
    let here = c.matrix-matrix.ensures.same in
    let is = subst (IsMatrixOf searched.network) here c.matrix-matrix.ensures.small.is in
    let same : length c.codes.result.now.rows ≡ length searched.matrix.groups =
    ap length (c.codes.ensures.rows ∙ ap (λ (m : Parts). codes_of m.groups) here) ∙ as_many_codes searched.matrix.groups
    in
    if_ok_more c.refused.result _ _ (λ output refused. λ whole.
    refused_gives searched is c.args.raised.now (bytes_of_text output.text) output.fault refused whole)
    (c.refused.ensures (length searched.matrix.groups) (subst (λ n. ArePairsRefused n c.in-Err.fault) same c.in-Err.ensures.fault))
