use Rattle.std.proofs.Common.{length, count_by, sym, ap, subst, ◌∙◌}
use Rattle.cb_compact.specs.Compact.{KeepsRow, values_of}
use Rattle.cb_compact.proofs.Ones.{kept_values}
use Rattle.cb_compact.proofs.compact.CompactRow.of.Goals as goal

pub invariant_of-result : goal.invariant_of-result
invariant_of-result c =
    let row = c.args.row.now in
    let kept = c.in_ok-kept.kept in
    let values = ap (values_of kept) c.len-len.ensures ∙ kept_values row kept c.in_ok-kept.ensures in
    record {
      long = ap length values ∙ sym c.len-len.ensures;
      keeps = subst (λ v. KeepsRow v kept) (sym values) c.in_ok-kept.ensures;
      counted = c.ones-weight.ensures ∙ sym (ap (count_by (λ value. value)) values);
    }

pub returns : goal.returns
returns c = ap (values_of c.in_ok-kept.kept) c.len-len.ensures ∙ kept_values c.args.row.now c.in_ok-kept.kept c.in_ok-kept.ensures
