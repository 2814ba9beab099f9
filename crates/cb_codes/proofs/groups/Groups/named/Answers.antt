use Rattle.std.proofs.Common.{sym, ap, ◌∙◌}
use Rattle.cb_codes.specs.Groups.{Grouped, named_of}
use Rattle.cb_codes.proofs.Fitting.{named_are}
use Rattle.cb_codes.proofs.groups.Groups.named.Goals as goal

pub returns : goal.returns
returns c = sym (named_are c.self.inside.codes.rows c.self.inside.named c.self.invariant) ∙ ap (λ (g : Grouped). named_of g.groups) c.self.view_is
