use Rattle.cb_distance.proofs.After.{holders_within, holders_had, holders_have}
use Rattle.cb_reduce.proofs.Standing.{if_some}
use Rattle.cb_reduce.proofs.single.is_needed.Goals as goal

pub some_told_alone-requires-clause-within : goal.some_told_alone-requires-clause-within
some_told_alone-requires-clause-within c = holders_within c.args.codes.now.rows c.args.column c.in_ok-holders.field-0.now c.in_ok-holders.ensures

pub some_told_alone-requires-clause-have : goal.some_told_alone-requires-clause-have
some_told_alone-requires-clause-have c = holders_had c.args.codes.now.rows c.args.column c.in_ok-holders.field-0.now c.in_ok-holders.ensures

pub returns-clause-none : goal.returns-clause-none
returns-clause-none c = if_some _ _ c.some_told_alone.result
    (λ told was isnt i lt has. was isnt i (holders_have c.args.codes.now.rows c.args.column c.in_ok-holders.field-0.now c.in_ok-holders.ensures i lt has))
    c.some_told_alone.ensures.none
