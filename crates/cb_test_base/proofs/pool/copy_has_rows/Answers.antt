use Rattle.std.proofs.Common.{◌∙◌, ap, false, slice_index_or}
use Rattle.cb_pool.proofs.Views.{still_taken, left_taken, wider_taken, not_the_same}
use Rattle.cb_test_base.proofs.pool.copy_has_rows.Goals as goal

pub give_back-requires : goal.give_back-requires
give_back-requires c =
    ap (λ taken. slice_index_or taken c.take-a.result.0 false) c.put.ensures.taken
    ∙ still_taken c.take-a.new.self c.take-b.new.self c.take-b.result c.take-a.result c.take-b.ensures.others c.take-b.ensures.free c.take-a.ensures.zero.0

pub row-requires : goal.row-requires
row-requires c =
    wider_taken c.give_back.new.self c.in_ok-copy.copy c.take-b.result c.in_ok-copy.ensures.rows
    (left_taken c.put.new.pool c.give_back.new.self c.take-a.result c.take-b.result c.give_back.ensures.others
    (not_the_same c.take-a.new.self c.take-b.result c.take-a.result c.take-b.ensures.free c.take-a.ensures.zero.0)
    (ap (λ taken. slice_index_or taken c.take-b.result.0 false) c.put.ensures.taken ∙ c.take-b.ensures.zero.0))
