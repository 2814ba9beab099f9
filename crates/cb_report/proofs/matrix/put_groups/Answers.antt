use Rattle.std.proofs.Common.{◌≡◌, ◌+◌, ◌++◌, List, ℕ, Bool, length, take, slice_get, Some, codes, sym, ap, subst, ◌∙◌, append_assoc}
use Rattle.cb_model.specs.declared.node.NamedGroup.{NamedGroup}
use Rattle.cb_codes.specs.Groups.{group_with}
use Rattle.cb_report.specs.Lines.{counted}
use Rattle.cb_report.specs.MatrixText.{coded_line, group_lines}
use Rattle.cb_report.proofs.CodedLines.{coded_there, group_lines_more}
use Rattle.cb_report.proofs.Gathers.{gathers_more, gathers_same}
use Rattle.cb_report.proofs.matrix.put_groups.Goals as goal

pub loop-place-preserved : goal.loop-place-preserved
loop-place-preserved g c =
    let groups = c.args.groups.now.groups in
    let place = c.loop-place.place in
    let code = c.row.result.now in
    let group = c.at.result.now in
    let (at, there, is) = coded_there groups place code group
    (subst (λ (rows : List (List Bool)). slice_get rows place ≡ Some code) c.codes-codes.ensures.rows c.row.ensures)
    (subst (λ (named : List NamedGroup). slice_get named place ≡ Some group) c.named-named.ensures c.at.ensures)
    in
    let start = g.O.Sink.tells c.args.out.now in
    let now = g.O.Sink.tells c.put_group.new.out in
    let head = counted (codes "groups ") (length groups) in
    let lines = group_lines (take place groups) in
    let line = coded_line group.quiet (group_with code group) in (
      c.put_group.ensures.same ∙ c.loop-place.invariant.0,
      gathers_same start now c.args.gathering.now c.put_group.new.gathering ((head ++ lines) ++ line) (head ++ group_lines (take (place + 1) groups))
          (append_assoc head lines line ∙ ap (λ (l : List ℕ). head ++ l) (ap (λ (l : List ℕ). lines ++ l) is ∙ sym (group_lines_more groups place at there)))
          (gathers_more start (g.O.Sink.tells c.loop-place.out) now c.args.gathering.now c.loop-place.gathering c.put_group.new.gathering
          (head ++ lines) line c.loop-place.invariant.1 c.put_group.ensures.text),
    )
