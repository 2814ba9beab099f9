use Rattle.std.proofs.Common.{◌++◌, List, ℕ, codes, length, map, ap, ◌∙◌, append_assoc}
use Rattle.cb_chains.specs.Names.{named_chains}
use Rattle.cb_report.specs.ChainTexts.{explained_groups}
use Rattle.cb_report.specs.Lines.{numbers_line}
use Rattle.cb_report.proofs.Chained.{can_be_written}
use Rattle.cb_report.proofs.chain_lines.ChainLines.of.Goals as goal

pub invariant_of-result : goal.invariant_of-result
invariant_of-result c = (
  c.requires.groups,
  can_be_written c.args.names (length c.in_ok-path.path.items) c.args.trees c.in_ok-path.ensures c.requires.named,
  c.in_ok-gathering.ensures.waiting,
  c.in_ok-gathering.ensures.failed,
)

pub returns : goal.returns
returns c =
    let groups = explained_groups c.args.finding.groups (map (named_chains c.args.names) c.args.trees) in
    ap (λ (l : List ℕ). l ++ groups) c.in_ok-start.ensures ∙ append_assoc (codes "explain ") (numbers_line c.args.finding) groups
