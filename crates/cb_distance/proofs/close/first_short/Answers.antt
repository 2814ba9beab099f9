use Rattle.cb_coding.specs.Needs.{need_of}
use Rattle.cb_distance.specs.Asked.{need_by}
use Rattle.cb_distance.proofs.Far.{any_of_chosen}
use Rattle.cb_distance.proofs.close.first_short.Goals as goal

pub returns : goal.returns
returns c =
    let codes = c.args.codes.now in
    any_of_chosen c.args.columns.now codes.rows c.in_ok-chosen.chosen (need_by c.of.result) (need_of codes.width codes.rows c.args.wish) c.in_ok-chosen.ensures
    c.of.ensures.asked c.first_pair.result c.first_pair.ensures.found c.first_pair.ensures.none
