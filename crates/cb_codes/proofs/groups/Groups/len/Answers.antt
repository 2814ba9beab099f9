use Rattle.std.proofs.Common.{length, sym, ap, ◌∙◌}
use Rattle.cb_codes.specs.Groups.{Grouped}
use Rattle.cb_codes.proofs.Fitting.{length-groups}
use Rattle.cb_codes.proofs.groups.Groups.len.Goals as goal

pub returns : goal.returns
returns c =
    c.len.ensures
    ∙ sym (length-groups c.self.inside.codes.rows c.self.inside.named c.self.invariant.as_many)
    ∙ ap (λ (g : Grouped). length g.groups) c.self.view_is
