use Rattle.std.proofs.Common.{refl, sym, ◌∙◌}
use Rattle.cb_pool.proofs.Rows.{put_leaves, put_there}
use Rattle.cb_pool.proofs.Views.{slots_apart}
use Rattle.cb_pool.proofs.laws.one_row_is_written.Goals as goal

pub returns : goal.returns
returns c = λ p slot row few. record {
  width = refl;
  spare = refl;
  taken = λ other. (λ is. is, λ is. is);
  others = λ other apart r.
      let same = put_leaves p.width slot.0 other.0 p.words row few (slots_apart other slot apart) in
      (λ has. (has.0, has.1 ∙ same), λ has. (has.0, has.1 ∙ sym same));
  there = put_there p.width slot.0 p.words row;
}
