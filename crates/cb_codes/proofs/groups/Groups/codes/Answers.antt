use Rattle.std.proofs.Common.{sym, ap, ◌∙◌}
use Rattle.cb_coding.specs.Groups.{codes_of}
use Rattle.cb_codes.specs.Groups.{Grouped}
use Rattle.cb_codes.proofs.Fitting.{codes_are}
use Rattle.cb_codes.proofs.groups.Groups.codes.Goals as goal

pub returns-clause-rows : goal.returns-clause-rows
returns-clause-rows c =
    sym (codes_are c.self.inside.codes.rows c.self.inside.named c.self.invariant.as_many) ∙ ap (λ (g : Grouped). codes_of g.groups) c.self.view_is
