use Rattle.std.proofs.Common.{◌++◌, ◌∷◌, [], length, sym, subst}
use Rattle.cb_cert.specs.declared.line.CertificateLine.TheVariants as line
use Rattle.cb_cert.specs.Ahead.{at_wanted, at_thin_distance, at_nodes, at_side, at_span}
use Rattle.cb_cert.specs.Format.{IsBetween, nodes_of, wanted_limit, column_limit}
use Rattle.cb_cert.specs.Lines.{claim_lines, node_lines, side_lines, span_lines}
use Rattle.cb_cert.specs.Steps.{HasRead, ReadsOrFails}
use Rattle.cb_cert.proofs.Loops.{exit}
use Rattle.cb_cert.proofs.Moved.{took, took_not}
use Rattle.cb_cert.proofs.Openings.{regroup_thin}
use Rattle.cb_cert.proofs.Stands as stand
use Rattle.cb_cert.proofs.reader.Reader.thin.Goals as goal

pub returns-in_err-wanted-clause-lines : goal.returns-in_err-wanted-clause-lines
returns-in_err-wanted-clause-lines c text before ahead read =
    let begun = before ++ line.Thin ∷ [] in
    exit (ReadsOrFails text c.number.new.self before ahead claim_lines (λ x. length (nodes_of x))) c.from_residual.result _ c.from_residual.ensures.1
    (took_not 0 at_wanted line.Wanted (IsBetween 1 wanted_limit) (stand.wanted 0) text c.args.self.now begun (at_thin_distance ∷ at_nodes ∷ at_side ∷ at_span ∷ ahead) read _ c.in_err-wanted.ensures)

pub returns-in_err-distance-clause-lines : goal.returns-in_err-distance-clause-lines
returns-in_err-distance-clause-lines c text before ahead read =
    let begun = before ++ line.Thin ∷ [] in
    let one = took 0 at_wanted line.Wanted (IsBetween 1 wanted_limit) (stand.wanted 0) text c.args.self.now c.number.new.self begun
    (at_thin_distance ∷ at_nodes ∷ at_side ∷ at_span ∷ ahead) read c.in_ok-wanted.wanted c.in_ok-wanted.ensures
    in
    let with_wanted = begun ++ line.Wanted c.in_ok-wanted.wanted ∷ [] in
    exit (ReadsOrFails text c.number-2.new.self before ahead claim_lines (λ x. length (nodes_of x))) c.from_residual-in_err-distance.result _ c.from_residual-in_err-distance.ensures.1
    (took_not 0 at_thin_distance line.Distance (IsBetween 0 column_limit) (stand.thin_distance 0) text c.number.new.self with_wanted (at_nodes ∷ at_side ∷ at_span ∷ ahead) one _ c.in_err-distance.ensures)

pub returns-in_err-nodes-clause-lines : goal.returns-in_err-nodes-clause-lines
returns-in_err-nodes-clause-lines c text before ahead read =
    let begun = before ++ line.Thin ∷ [] in
    let one = took 0 at_wanted line.Wanted (IsBetween 1 wanted_limit) (stand.wanted 0) text c.args.self.now c.number.new.self begun
    (at_thin_distance ∷ at_nodes ∷ at_side ∷ at_span ∷ ahead) read c.in_ok-wanted.wanted c.in_ok-wanted.ensures
    in
    let with_wanted = begun ++ line.Wanted c.in_ok-wanted.wanted ∷ [] in
    let two = took 0 at_thin_distance line.Distance (IsBetween 0 column_limit) (stand.thin_distance 0) text c.number.new.self c.number-2.new.self with_wanted
    (at_nodes ∷ at_side ∷ at_span ∷ ahead) one c.in_ok-distance.distance c.in_ok-distance.ensures
    in
    let with_distance = with_wanted ++ line.Distance c.in_ok-distance.distance ∷ [] in
    exit (ReadsOrFails text c.nodes.new.self before ahead claim_lines (λ x. length (nodes_of x))) c.from_residual-in_err-nodes.result _ c.from_residual-in_err-nodes.ensures.1
    (c.in_err-nodes.ensures.lines text with_distance (at_side ∷ at_span ∷ ahead) two)

pub returns-in_err-first-clause-lines : goal.returns-in_err-first-clause-lines
returns-in_err-first-clause-lines c text before ahead read =
    let begun = before ++ line.Thin ∷ [] in
    let one = took 0 at_wanted line.Wanted (IsBetween 1 wanted_limit) (stand.wanted 0) text c.args.self.now c.number.new.self begun
    (at_thin_distance ∷ at_nodes ∷ at_side ∷ at_span ∷ ahead) read c.in_ok-wanted.wanted c.in_ok-wanted.ensures
    in
    let with_wanted = begun ++ line.Wanted c.in_ok-wanted.wanted ∷ [] in
    let two = took 0 at_thin_distance line.Distance (IsBetween 0 column_limit) (stand.thin_distance 0) text c.number.new.self c.number-2.new.self with_wanted
    (at_nodes ∷ at_side ∷ at_span ∷ ahead) one c.in_ok-distance.distance c.in_ok-distance.ensures
    in
    let with_distance = with_wanted ++ line.Distance c.in_ok-distance.distance ∷ [] in
    let listed = c.in_ok-nodes.ensures.lines text with_distance (at_side ∷ at_span ∷ ahead) two in
    let with_nodes = with_distance ++ node_lines c.in_ok-nodes.nodes in
    let three = subst (λ k. HasRead text c.nodes.new.self with_nodes k (at_side ∷ at_span ∷ ahead)) (sym c.len-count.ensures) listed in
    exit (ReadsOrFails text c.side.new.self before ahead claim_lines (λ x. length (nodes_of x))) c.from_residual-in_err-first.result _ c.from_residual-in_err-first.ensures.1
    (c.in_err-first.ensures text with_nodes (at_span ∷ ahead) three)

pub returns-in_err-second-clause-lines : goal.returns-in_err-second-clause-lines
returns-in_err-second-clause-lines c text before ahead read =
    let begun = before ++ line.Thin ∷ [] in
    let one = took 0 at_wanted line.Wanted (IsBetween 1 wanted_limit) (stand.wanted 0) text c.args.self.now c.number.new.self begun
    (at_thin_distance ∷ at_nodes ∷ at_side ∷ at_span ∷ ahead) read c.in_ok-wanted.wanted c.in_ok-wanted.ensures
    in
    let with_wanted = begun ++ line.Wanted c.in_ok-wanted.wanted ∷ [] in
    let two = took 0 at_thin_distance line.Distance (IsBetween 0 column_limit) (stand.thin_distance 0) text c.number.new.self c.number-2.new.self with_wanted
    (at_nodes ∷ at_side ∷ at_span ∷ ahead) one c.in_ok-distance.distance c.in_ok-distance.ensures
    in
    let with_distance = with_wanted ++ line.Distance c.in_ok-distance.distance ∷ [] in
    let listed = c.in_ok-nodes.ensures.lines text with_distance (at_side ∷ at_span ∷ ahead) two in
    let with_nodes = with_distance ++ node_lines c.in_ok-nodes.nodes in
    let three = subst (λ k. HasRead text c.nodes.new.self with_nodes k (at_side ∷ at_span ∷ ahead)) (sym c.len-count.ensures) listed in
    let four = c.in_ok-first.ensures text with_nodes (at_span ∷ ahead) three in
    let with_side = with_nodes ++ side_lines c.in_ok-first.first in
    exit (ReadsOrFails text c.span.new.self before ahead claim_lines (λ x. length (nodes_of x))) c.from_residual-in_err-second.result _ c.from_residual-in_err-second.ensures.1
    (c.in_err-second.ensures text with_side ahead four)

pub returns-clause-lines : goal.returns-clause-lines
returns-clause-lines c text before ahead read =
    let begun = before ++ line.Thin ∷ [] in
    let one = took 0 at_wanted line.Wanted (IsBetween 1 wanted_limit) (stand.wanted 0) text c.args.self.now c.number.new.self begun
    (at_thin_distance ∷ at_nodes ∷ at_side ∷ at_span ∷ ahead) read c.in_ok-wanted.wanted c.in_ok-wanted.ensures
    in
    let with_wanted = begun ++ line.Wanted c.in_ok-wanted.wanted ∷ [] in
    let two = took 0 at_thin_distance line.Distance (IsBetween 0 column_limit) (stand.thin_distance 0) text c.number.new.self c.number-2.new.self with_wanted
    (at_nodes ∷ at_side ∷ at_span ∷ ahead) one c.in_ok-distance.distance c.in_ok-distance.ensures
    in
    let with_distance = with_wanted ++ line.Distance c.in_ok-distance.distance ∷ [] in
    let listed = c.in_ok-nodes.ensures.lines text with_distance (at_side ∷ at_span ∷ ahead) two in
    let with_nodes = with_distance ++ node_lines c.in_ok-nodes.nodes in
    let three = subst (λ k. HasRead text c.nodes.new.self with_nodes k (at_side ∷ at_span ∷ ahead)) (sym c.len-count.ensures) listed in
    let four = c.in_ok-first.ensures text with_nodes (at_span ∷ ahead) three in
    let with_side = with_nodes ++ side_lines c.in_ok-first.first in
    let five = c.in_ok-second.ensures text with_side ahead four in
    let lines = regroup_thin before line.Thin (line.Wanted c.in_ok-wanted.wanted) (line.Distance c.in_ok-distance.distance) (node_lines c.in_ok-nodes.nodes)
    (side_lines c.in_ok-first.first) (span_lines c.in_ok-second.second)
    in
    subst (λ k. HasRead text c.span.new.self (before ++ (line.Thin ∷ line.Wanted c.in_ok-wanted.wanted ∷ line.Distance c.in_ok-distance.distance
    ∷ (node_lines c.in_ok-nodes.nodes ++ (side_lines c.in_ok-first.first ++ span_lines c.in_ok-second.second)))) k ahead) c.len-count.ensures
    (subst (λ ls. HasRead text c.span.new.self ls c.len-count.result ahead) lines five)
