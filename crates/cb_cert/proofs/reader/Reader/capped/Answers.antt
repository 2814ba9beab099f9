use Rattle.std.proofs.Common.{◌++◌, ◌∷◌, [], length, sym, subst}
use Rattle.cb_cert.specs.declared.line.CertificateLine.TheVariants as line
use Rattle.cb_cert.specs.Ahead.{at_cap, at_nodes, at_columns, at_radii, at_spans}
use Rattle.cb_cert.specs.Format.{IsBetween, nodes_of, wanted_limit}
use Rattle.cb_cert.specs.Lines.{claim_lines, node_lines, column_lines, radius_lines, all_span_lines}
use Rattle.cb_cert.specs.Steps.{HasRead, ReadsOrFails}
use Rattle.cb_cert.proofs.Loops.{exit}
use Rattle.cb_cert.proofs.Moved.{took, took_not}
use Rattle.cb_cert.proofs.Openings.{regroup_capped}
use Rattle.cb_cert.proofs.Stands as stand
use Rattle.cb_cert.proofs.reader.Reader.capped.Goals as goal

pub returns-in_err-cap-clause-lines : goal.returns-in_err-cap-clause-lines
returns-in_err-cap-clause-lines c text before ahead read =
    let begun = before ++ line.Book ∷ [] in
    exit (ReadsOrFails text c.number.new.self before ahead claim_lines (λ x. length (nodes_of x))) c.from_residual.result _ c.from_residual.ensures.1
    (took_not 0 at_cap line.Cap (IsBetween 1 wanted_limit) (stand.cap 0) text c.args.self.now begun (at_nodes ∷ at_columns ∷ at_radii ∷ at_spans ∷ ahead) read _ c.in_err-cap.ensures)

pub returns-in_err-nodes-clause-lines : goal.returns-in_err-nodes-clause-lines
returns-in_err-nodes-clause-lines c text before ahead read =
    let begun = before ++ line.Book ∷ [] in
    let one = took 0 at_cap line.Cap (IsBetween 1 wanted_limit) (stand.cap 0) text c.args.self.now c.number.new.self begun
    (at_nodes ∷ at_columns ∷ at_radii ∷ at_spans ∷ ahead) read c.in_ok-cap.cap c.in_ok-cap.ensures
    in
    let with_cap = begun ++ line.Cap c.in_ok-cap.cap ∷ [] in
    exit (ReadsOrFails text c.nodes.new.self before ahead claim_lines (λ x. length (nodes_of x))) c.from_residual-in_err-nodes.result _ c.from_residual-in_err-nodes.ensures.1
    (c.in_err-nodes.ensures.lines text with_cap (at_columns ∷ at_radii ∷ at_spans ∷ ahead) one)

pub returns-in_err-columns-clause-lines : goal.returns-in_err-columns-clause-lines
returns-in_err-columns-clause-lines c text before ahead read =
    let begun = before ++ line.Book ∷ [] in
    let one = took 0 at_cap line.Cap (IsBetween 1 wanted_limit) (stand.cap 0) text c.args.self.now c.number.new.self begun
    (at_nodes ∷ at_columns ∷ at_radii ∷ at_spans ∷ ahead) read c.in_ok-cap.cap c.in_ok-cap.ensures
    in
    let with_cap = begun ++ line.Cap c.in_ok-cap.cap ∷ [] in
    let listed = c.in_ok-nodes.ensures.lines text with_cap (at_columns ∷ at_radii ∷ at_spans ∷ ahead) one in
    let with_nodes = with_cap ++ node_lines c.in_ok-nodes.nodes in
    let two = subst (λ k. HasRead text c.nodes.new.self with_nodes k (at_columns ∷ at_radii ∷ at_spans ∷ ahead)) (sym c.len-count.ensures) listed in
    exit (ReadsOrFails text c.columns.new.self before ahead claim_lines (λ x. length (nodes_of x))) c.from_residual-in_err-columns.result _ c.from_residual-in_err-columns.ensures.1
    (c.in_err-columns.ensures text with_nodes (at_radii ∷ at_spans ∷ ahead) two)

pub returns-in_err-radii-clause-lines : goal.returns-in_err-radii-clause-lines
returns-in_err-radii-clause-lines c text before ahead read =
    let begun = before ++ line.Book ∷ [] in
    let one = took 0 at_cap line.Cap (IsBetween 1 wanted_limit) (stand.cap 0) text c.args.self.now c.number.new.self begun
    (at_nodes ∷ at_columns ∷ at_radii ∷ at_spans ∷ ahead) read c.in_ok-cap.cap c.in_ok-cap.ensures
    in
    let with_cap = begun ++ line.Cap c.in_ok-cap.cap ∷ [] in
    let listed = c.in_ok-nodes.ensures.lines text with_cap (at_columns ∷ at_radii ∷ at_spans ∷ ahead) one in
    let with_nodes = with_cap ++ node_lines c.in_ok-nodes.nodes in
    let two = subst (λ k. HasRead text c.nodes.new.self with_nodes k (at_columns ∷ at_radii ∷ at_spans ∷ ahead)) (sym c.len-count.ensures) listed in
    let three = c.in_ok-columns.ensures text with_nodes (at_radii ∷ at_spans ∷ ahead) two in
    let with_columns = with_nodes ++ column_lines c.in_ok-columns.columns in
    exit (ReadsOrFails text c.radii.new.self before ahead claim_lines (λ x. length (nodes_of x))) c.from_residual-in_err-radii.result _ c.from_residual-in_err-radii.ensures.1
    (c.in_err-radii.ensures c.len-count.result text with_columns (at_spans ∷ ahead) three)

pub returns-in_err-spans-clause-lines : goal.returns-in_err-spans-clause-lines
returns-in_err-spans-clause-lines c text before ahead read =
    let begun = before ++ line.Book ∷ [] in
    let one = took 0 at_cap line.Cap (IsBetween 1 wanted_limit) (stand.cap 0) text c.args.self.now c.number.new.self begun
    (at_nodes ∷ at_columns ∷ at_radii ∷ at_spans ∷ ahead) read c.in_ok-cap.cap c.in_ok-cap.ensures
    in
    let with_cap = begun ++ line.Cap c.in_ok-cap.cap ∷ [] in
    let listed = c.in_ok-nodes.ensures.lines text with_cap (at_columns ∷ at_radii ∷ at_spans ∷ ahead) one in
    let with_nodes = with_cap ++ node_lines c.in_ok-nodes.nodes in
    let two = subst (λ k. HasRead text c.nodes.new.self with_nodes k (at_columns ∷ at_radii ∷ at_spans ∷ ahead)) (sym c.len-count.ensures) listed in
    let three = c.in_ok-columns.ensures text with_nodes (at_radii ∷ at_spans ∷ ahead) two in
    let with_columns = with_nodes ++ column_lines c.in_ok-columns.columns in
    let four = c.in_ok-radii.ensures c.len-count.result text with_columns (at_spans ∷ ahead) three in
    let with_radii = with_columns ++ radius_lines c.in_ok-radii.radii in
    exit (ReadsOrFails text c.spans.new.self before ahead claim_lines (λ x. length (nodes_of x))) c.from_residual-in_err-spans.result _ c.from_residual-in_err-spans.ensures.1
    (c.in_err-spans.ensures text with_radii ahead four)

pub returns-clause-lines : goal.returns-clause-lines
returns-clause-lines c text before ahead read =
    let begun = before ++ line.Book ∷ [] in
    let one = took 0 at_cap line.Cap (IsBetween 1 wanted_limit) (stand.cap 0) text c.args.self.now c.number.new.self begun
    (at_nodes ∷ at_columns ∷ at_radii ∷ at_spans ∷ ahead) read c.in_ok-cap.cap c.in_ok-cap.ensures
    in
    let with_cap = begun ++ line.Cap c.in_ok-cap.cap ∷ [] in
    let listed = c.in_ok-nodes.ensures.lines text with_cap (at_columns ∷ at_radii ∷ at_spans ∷ ahead) one in
    let with_nodes = with_cap ++ node_lines c.in_ok-nodes.nodes in
    let two = subst (λ k. HasRead text c.nodes.new.self with_nodes k (at_columns ∷ at_radii ∷ at_spans ∷ ahead)) (sym c.len-count.ensures) listed in
    let three = c.in_ok-columns.ensures text with_nodes (at_radii ∷ at_spans ∷ ahead) two in
    let with_columns = with_nodes ++ column_lines c.in_ok-columns.columns in
    let four = c.in_ok-radii.ensures c.len-count.result text with_columns (at_spans ∷ ahead) three in
    let with_radii = with_columns ++ radius_lines c.in_ok-radii.radii in
    let five = c.in_ok-spans.ensures text with_radii ahead four in
    let claim = line.Book ∷ line.Cap c.in_ok-cap.cap
    ∷ (node_lines c.in_ok-nodes.nodes ++ (column_lines c.in_ok-columns.columns ++ (radius_lines c.in_ok-radii.radii ++ all_span_lines c.in_ok-spans.spans)))
    in
    let lines = regroup_capped before line.Book (line.Cap c.in_ok-cap.cap) (node_lines c.in_ok-nodes.nodes) (column_lines c.in_ok-columns.columns)
    (radius_lines c.in_ok-radii.radii) (all_span_lines c.in_ok-spans.spans)
    in
    subst (λ k. HasRead text c.spans.new.self (before ++ claim) k ahead) c.len-count.ensures
    (subst (λ ls. HasRead text c.spans.new.self ls c.len-count.result ahead) lines five)
