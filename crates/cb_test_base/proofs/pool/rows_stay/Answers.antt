use Rattle.std.proofs.Common.{◌∙◌, ap, false, slice_index_or}
use Rattle.cb_pool.proofs.Views.{still_taken, left_taken, wider_taken, not_the_same}
use Rattle.cb_test_base.proofs.pool.rows_stay.Goals as goal

pub put-requires-clause-taken : goal.put-requires-clause-taken
put-requires-clause-taken c = still_taken c.take-a.new.self c.take-b.new.self c.take-b.result c.take-a.result c.take-b.ensures.others c.take-b.ensures.free c.take-a.ensures.zero.0

pub give_back-requires : goal.give_back-requires
give_back-requires c = wider_taken c.put-2.new.pool c.widen.new.self c.take-a.result c.in_ok-widen.ensures.rows
    (ap (λ taken. slice_index_or taken c.take-a.result.0 false) (c.put-2.ensures.taken ∙ c.put.ensures.taken)
    ∙ still_taken c.take-a.new.self c.take-b.new.self c.take-b.result c.take-a.result c.take-b.ensures.others c.take-b.ensures.free c.take-a.ensures.zero.0)

pub row-requires-then-eq : goal.row-requires-then-eq
row-requires-then-eq c =
    still_taken c.give_back.new.self c.take-c.new.self c.take-c.result c.take-b.result c.take-c.ensures.others c.take-c.ensures.free
    (left_taken c.widen.new.self c.give_back.new.self c.take-a.result c.take-b.result c.give_back.ensures.others
    (not_the_same c.take-a.new.self c.take-b.result c.take-a.result c.take-b.ensures.free c.take-a.ensures.zero.0)
    (wider_taken c.put-2.new.pool c.widen.new.self c.take-b.result c.in_ok-widen.ensures.rows
    (ap (λ taken. slice_index_or taken c.take-b.result.0 false) (c.put-2.ensures.taken ∙ c.put.ensures.taken) ∙ c.take-b.ensures.zero.0)))
