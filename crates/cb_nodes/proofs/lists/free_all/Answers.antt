use Rattle.std.proofs.Common.{get_or, sym, subst}
use Rattle.std.proofs.lemmas.List.{take_more}
use Rattle.cb_nodes.specs.declared.listed.Listed.{Listed}
use Rattle.cb_nodes.specs.Kept.{Frees}
use Rattle.cb_nodes.proofs.Freeing.{frees_more, still_had}
use Rattle.cb_nodes.proofs.lists.free_all.Goals as goal

pub give_back-requires-clause-had : goal.give_back-requires-clause-had
give_back-requires-clause-had c =
    still_had c.args.numbers.now c.loop-listed.numbers c.args.list.now c.loop-listed.listed-index _ c.loop-listed-test.true c.loop-listed.invariant c.requires.had c.requires.apart

pub loop-listed-preserved : goal.loop-listed-preserved
loop-listed-preserved c =
    let d : Listed = record { event = record { 0 = 0 }; id = record { 0 = 0 } } in
    let x = get_or c.args.list.now c.loop-listed.listed-index d in
    let more = frees_more c.args.numbers.now c.loop-listed.numbers c.give_back.new.self _ x c.loop-listed.invariant c.give_back.ensures in
    subst (Frees c.args.numbers.now c.give_back.new.self) (sym (take_more c.args.list.now c.loop-listed.listed-index d c.loop-listed-test.true)) more
