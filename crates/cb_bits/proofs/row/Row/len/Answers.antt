use Rattle.std.proofs.Common.{sym}
use Rattle.cb_bits.proofs.Values.{row_len}
use Rattle.cb_bits.proofs.row.Row.len.Goals as goal

pub returns : goal.returns
returns c = sym (row_len c.self.inside.words.items c.self.inside.len c.args.self.now c.self.view_is)
