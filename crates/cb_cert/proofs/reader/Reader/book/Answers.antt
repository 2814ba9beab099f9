use Rattle.std.proofs.Common.{◌++◌, ◌∷◌, [], length, sym, subst}
use Rattle.cb_cert.specs.declared.line.CertificateLine.TheVariants as line
use Rattle.cb_cert.specs.Ahead.{at_distance, at_nodes, at_columns, at_spans}
use Rattle.cb_cert.specs.Format.{IsBetween, nodes_of, wanted_limit}
use Rattle.cb_cert.specs.Lines.{claim_lines, node_lines, column_lines, all_span_lines}
use Rattle.cb_cert.specs.Steps.{HasRead, ReadsOrFails}
use Rattle.cb_cert.proofs.Loops.{exit}
use Rattle.cb_cert.proofs.Moved.{took, took_not}
use Rattle.cb_cert.proofs.Openings.{regroup_book}
use Rattle.cb_cert.proofs.Stands as stand
use Rattle.cb_cert.proofs.reader.Reader.book.Goals as goal

pub returns-in_err-distance-clause-lines : goal.returns-in_err-distance-clause-lines
returns-in_err-distance-clause-lines c text before ahead read =
    let begun = before ++ line.Book ∷ [] in
    exit (ReadsOrFails text c.number.new.self before ahead claim_lines (λ x. length (nodes_of x))) c.from_residual.result _ c.from_residual.ensures.1
    (took_not 0 at_distance line.Distance (IsBetween 1 wanted_limit) (stand.distance 0) text c.args.self.now begun (at_nodes ∷ at_columns ∷ at_spans ∷ ahead) read _ c.in_err-distance.ensures)

pub returns-in_err-nodes-clause-lines : goal.returns-in_err-nodes-clause-lines
returns-in_err-nodes-clause-lines c text before ahead read =
    let begun = before ++ line.Book ∷ [] in
    let one = took 0 at_distance line.Distance (IsBetween 1 wanted_limit) (stand.distance 0) text c.args.self.now c.number.new.self begun
    (at_nodes ∷ at_columns ∷ at_spans ∷ ahead) read c.in_ok-distance.distance c.in_ok-distance.ensures
    in
    exit (ReadsOrFails text c.nodes.new.self before ahead claim_lines (λ x. length (nodes_of x))) c.from_residual-in_err-nodes.result _ c.from_residual-in_err-nodes.ensures.1
    (c.in_err-nodes.ensures.lines text (begun ++ line.Distance c.in_ok-distance.distance ∷ []) (at_columns ∷ at_spans ∷ ahead) one)

pub returns-in_err-columns-clause-lines : goal.returns-in_err-columns-clause-lines
returns-in_err-columns-clause-lines c text before ahead read =
    let begun = before ++ line.Book ∷ [] in
    let one = took 0 at_distance line.Distance (IsBetween 1 wanted_limit) (stand.distance 0) text c.args.self.now c.number.new.self begun
    (at_nodes ∷ at_columns ∷ at_spans ∷ ahead) read c.in_ok-distance.distance c.in_ok-distance.ensures
    in
    let with_distance = begun ++ line.Distance c.in_ok-distance.distance ∷ [] in
    let listed = c.in_ok-nodes.ensures.lines text with_distance (at_columns ∷ at_spans ∷ ahead) one in
    let with_nodes = with_distance ++ node_lines c.in_ok-nodes.nodes in
    let two = subst (λ k. HasRead text c.nodes.new.self with_nodes k (at_columns ∷ at_spans ∷ ahead)) (sym c.len-count.ensures) listed in
    exit (ReadsOrFails text c.columns.new.self before ahead claim_lines (λ x. length (nodes_of x))) c.from_residual-in_err-columns.result _ c.from_residual-in_err-columns.ensures.1
    (c.in_err-columns.ensures text with_nodes (at_spans ∷ ahead) two)

pub returns-in_err-spans-clause-lines : goal.returns-in_err-spans-clause-lines
returns-in_err-spans-clause-lines c text before ahead read =
    let begun = before ++ line.Book ∷ [] in
    let one = took 0 at_distance line.Distance (IsBetween 1 wanted_limit) (stand.distance 0) text c.args.self.now c.number.new.self begun
    (at_nodes ∷ at_columns ∷ at_spans ∷ ahead) read c.in_ok-distance.distance c.in_ok-distance.ensures
    in
    let with_distance = begun ++ line.Distance c.in_ok-distance.distance ∷ [] in
    let listed = c.in_ok-nodes.ensures.lines text with_distance (at_columns ∷ at_spans ∷ ahead) one in
    let with_nodes = with_distance ++ node_lines c.in_ok-nodes.nodes in
    let two = subst (λ k. HasRead text c.nodes.new.self with_nodes k (at_columns ∷ at_spans ∷ ahead)) (sym c.len-count.ensures) listed in
    let three = c.in_ok-columns.ensures text with_nodes (at_spans ∷ ahead) two in
    let with_columns = with_nodes ++ column_lines c.in_ok-columns.columns in
    exit (ReadsOrFails text c.spans.new.self before ahead claim_lines (λ x. length (nodes_of x))) c.from_residual-in_err-spans.result _ c.from_residual-in_err-spans.ensures.1
    (c.in_err-spans.ensures text with_columns ahead three)

pub returns-clause-lines : goal.returns-clause-lines
returns-clause-lines c text before ahead read =
    let begun = before ++ line.Book ∷ [] in
    let one = took 0 at_distance line.Distance (IsBetween 1 wanted_limit) (stand.distance 0) text c.args.self.now c.number.new.self begun
    (at_nodes ∷ at_columns ∷ at_spans ∷ ahead) read c.in_ok-distance.distance c.in_ok-distance.ensures
    in
    let with_distance = begun ++ line.Distance c.in_ok-distance.distance ∷ [] in
    let listed = c.in_ok-nodes.ensures.lines text with_distance (at_columns ∷ at_spans ∷ ahead) one in
    let with_nodes = with_distance ++ node_lines c.in_ok-nodes.nodes in
    let two = subst (λ k. HasRead text c.nodes.new.self with_nodes k (at_columns ∷ at_spans ∷ ahead)) (sym c.len-count.ensures) listed in
    let three = c.in_ok-columns.ensures text with_nodes (at_spans ∷ ahead) two in
    let with_columns = with_nodes ++ column_lines c.in_ok-columns.columns in
    let four = c.in_ok-spans.ensures text with_columns ahead three in
    let lines = regroup_book before line.Book (line.Distance c.in_ok-distance.distance) (node_lines c.in_ok-nodes.nodes)
    (column_lines c.in_ok-columns.columns) (all_span_lines c.in_ok-spans.spans)
    in
    subst (λ k. HasRead text c.spans.new.self (before ++ (line.Book ∷ line.Distance c.in_ok-distance.distance
    ∷ (node_lines c.in_ok-nodes.nodes ++ (column_lines c.in_ok-columns.columns ++ all_span_lines c.in_ok-spans.spans)))) k ahead) c.len-count.ensures
    (subst (λ ls. HasRead text c.spans.new.self ls c.len-count.result ahead) lines four)
