use Rattle.std.proofs.Common.{◌≡◌, List, [], ◌∷◌, ◌++◌, ◌∙◌, ap}
use Rattle.std.specs.List.{flat_map}
use Rattle.std.proofs.lemmas.List.{append_assoc}
use Rattle.cb_cert.specs.declared.line.CertificateLine.{CertificateLine}
use Rattle.cb_cert.specs.declared.line.CertificateLine.TheVariants as line
use Rattle.cb_cert.specs.Lines.{ended, node_lines, column_lines, radius_lines, all_span_lines}
use Rattle.cb_cert.proofs.Pieces.{step, step_one}
use Rattle.cb_cert.proofs.writer.push_capped.Goals as goal

pub returns : goal.returns
returns c =
    let start = c.args.out.now.items in
    let nodes = node_lines c.args.nodes.now in
    let columns = column_lines c.args.columns.now in
    let radii = radius_lines c.args.radii.now in
    let spans = all_span_lines c.args.spans.now in
    let one : c.extend_from_slice.new.self.items ≡ start ++ flat_map ended (line.Book ∷ []) = c.in_ok-extend_from_slice.ensures.items in
    let cap = c.in_ok-push_counted.ensures ∙ ap (λ n. c.extend_from_slice.new.self.items ++ ended (line.Cap n)) c.from.ensures in
    let two = step_one start _ _ (line.Book ∷ []) (line.Cap c.args.cap) one cap in
    let three = step start _ _ (line.Book ∷ line.Cap c.args.cap ∷ []) nodes two c.in_ok-push_nodes.ensures in
    let four = step start _ _ (line.Book ∷ line.Cap c.args.cap ∷ nodes) columns three c.in_ok-push_columns.ensures in
    let five = step start _ _ (line.Book ∷ line.Cap c.args.cap ∷ (nodes ++ columns)) radii four c.in_ok-push_radii.ensures in
    let six = step start _ _ (line.Book ∷ line.Cap c.args.cap ∷ ((nodes ++ columns) ++ radii)) spans five c.in_ok-push_spans.ensures in
    six ∙ ap (λ (ls : List CertificateLine). start ++ flat_map ended (line.Book ∷ line.Cap c.args.cap ∷ ls))
    (append_assoc (nodes ++ columns) radii spans ∙ append_assoc nodes columns (radii ++ spans))
