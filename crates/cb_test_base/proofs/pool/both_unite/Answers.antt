use Rattle.std.proofs.Common.{◌∙◌, sym, ap, false, slice_index_or}
use Rattle.cb_pool.proofs.Views.{still_taken, not_the_same}
use Rattle.cb_test_base.proofs.pool.both_unite.Goals as goal

pub unites-first-requires-clause-apart : goal.unites-first-requires-clause-apart
unites-first-requires-clause-apart c = λ e. not_the_same c.take-a.new.self c.take-b.result c.take-a.result c.take-b.ensures.free c.take-a.ensures.zero.0 (sym e)

pub unites-first-requires-clause-into : goal.unites-first-requires-clause-into
unites-first-requires-clause-into c = still_taken c.take-a.new.self c.take-b.new.self c.take-b.result c.take-a.result c.take-b.ensures.others c.take-b.ensures.free c.take-a.ensures.zero.0

pub unites-second-requires-clause-apart : goal.unites-second-requires-clause-apart
unites-second-requires-clause-apart c = not_the_same c.take-a.new.self c.take-b.result c.take-a.result c.take-b.ensures.free c.take-a.ensures.zero.0

pub unites-second-requires-clause-from : goal.unites-second-requires-clause-from
unites-second-requires-clause-from c =
    ap (λ taken. slice_index_or taken c.take-a.result.0 false) c.unites-first.ensures.taken
    ∙ still_taken c.take-a.new.self c.take-b.new.self c.take-b.result c.take-a.result c.take-b.ensures.others c.take-b.ensures.free c.take-a.ensures.zero.0
