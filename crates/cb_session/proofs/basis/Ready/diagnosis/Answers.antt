use Rattle.std.proofs.Common.{ℕ, List, ap, ◌∙◌}
use Rattle.cb_log.specs.declared.event.Event.TheVariants.{Diagnosis}
use Rattle.cb_session.proofs.Bases.{finding_has_basis}
use Rattle.cb_session.proofs.basis.Ready.diagnosis.Goals as goal

pub returns : goal.returns
returns c = λ mode basis has.
    let nodes = c.args.closed.now.nodes in
    let finding = c.in_ok-finding.finding in
    record {
      finding = finding;
      found = finding_has_basis c.args.topology.now basis c.args.self.now has nodes finding (c.in_ok-finding.ensures basis.columns has.columns);
      is = ap (λ (from : List ℕ). Diagnosis from c.args.closed.now.opened c.args.closed.now.closed finding) (c.in_ok-of.ensures ∙ c.bytes.ensures);
    }
