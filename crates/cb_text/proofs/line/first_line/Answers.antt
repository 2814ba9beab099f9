use Rattle.std.proofs.Common.{◌∙◌, sym, ap, arith, ◌∷◌, List, ℕ}
use Rattle.std.specs.List.{slice_range}
use Rattle.std.proofs.lemmas.List.{take_rest}
use Rattle.cb_text.specs.Lines.{lines_of}
use Rattle.cb_text.proofs.LineLemmas.{line_within}
use Rattle.cb_text.proofs.line.first_line.Goals as goal

pub slice_bounds-result-end : goal.slice_bounds-result-end
slice_bounds-result-end c = let within = line_within c.args.text.now 0 c.in_ok-line.line c.in_ok-line.ensures.line in omega arith

pub slice_bounds-result-count-2 : goal.slice_bounds-result-count-2
slice_bounds-result-count-2 c = (line_within c.args.text.now 0 c.in_ok-line.line c.in_ok-line.ensures.line).1

pub slice_bounds-result-start-2 : goal.slice_bounds-result-start-2
slice_bounds-result-start-2 c = let within = line_within c.args.text.now 0 c.in_ok-line.line c.in_ok-line.ensures.line in omega arith

pub returns-clause-some : goal.returns-clause-some
returns-clause-some c =
    let line = c.in_ok-line.line in
    c.in_ok-line.ensures.first ∙ ap (λ (rest : List ℕ). slice_range c.args.text.now line.start line.end ∷ lines_of rest) (sym (take_rest c.args.text.now line.next))
