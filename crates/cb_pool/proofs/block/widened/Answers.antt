use Rattle.std.proofs.Common.{◌-◌, length, replicate, ◌∙◌, arith}
use Rattle.std.proofs.lemmas.List.{append_assoc}
use Rattle.cb_pool.proofs.Rows.{wider_more}
use Rattle.cb_pool.proofs.block.widened.Goals as goal

pub loop-i-preserved : goal.loop-i-preserved
loop-i-preserved c =
    let more = wider_more c.args.width c.args.wider c.loop-i.i c.args.words.now c.loop-i.made.items c.add_wider.new.made.items c.row_in.result.now c.requires.wider c.loop-i.invariant.block c.row_in.ensures.row c.row_in.ensures.width
    (c.add_wider.ensures.words ∙ append_assoc c.loop-i.made.items c.row_in.result.now (replicate (c.args.wider - length c.row_in.result.now) 0)) c.loop-i.invariant.rows in
    record {
      block = let e = more.0 in omega arith;
      capacity = let e = c.add_wider.ensures.capacity in let f = c.loop-i.invariant.capacity in omega arith;
      rows = more.1;
    }
