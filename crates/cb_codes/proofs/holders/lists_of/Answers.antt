use Rattle.std.proofs.Common.{◌≡◌, length, arith}
use Rattle.cb_codes.proofs.ByColumn.{none_listed, all_listed, written_back}
use Rattle.cb_codes.proofs.holders.lists_of.Goals as goal

pub list_all-requires-clause-none : goal.list_all-requires-clause-none
list_all-requires-clause-none c =
    none_listed c.args.codes.now c.in-Some.total c.add_up.new.counts c.deref_mut.result.now (c.in-Some.ensures c.args.codes.now c.count_all.ensures)
    (omega (arith, c.in_ok-places.ensures.len, c.deref_mut.ensures.len))

pub returns : goal.returns
returns c =
    let entries : length c.list_all.new.nexts ≡ c.in_ok-starts.starts.len = omega (arith, c.deref_mut-entries.ensures.len) in
    let places : length c.list_all.new.places ≡ c.in_ok-places.places.len = omega (arith, c.deref_mut.ensures.len) in
    all_listed c.args.codes.now c.args.width _ c.list_all.new.nexts c.list_all.new.places (written_back _ c.list_all.new.nexts _ entries) (written_back _ c.list_all.new.places _ places)
    (omega (arith, c.in_ok-starts.ensures.len)) c.list_all.ensures
