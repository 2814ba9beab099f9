use Rattle.cb_bits.proofs.Zeros.{zero_values}
use Rattle.cb_bits.proofs.row.Row.zeroed.Goals as goal

pub returns : goal.returns
returns c = zero_values _ _ c.args.n c.in_ok-words.ensures
