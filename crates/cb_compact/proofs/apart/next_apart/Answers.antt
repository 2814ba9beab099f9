use Rattle.std.proofs.Common.{◌*◌, [], length, bit_xor, arith}
use Rattle.std.specs.Simd.Lanes.{zip2}
use Rattle.std.specs.Slice.Scan.{HoldsNowhere}
use Rattle.cb_lanes.specs.Words.{in_not, IsNextBit}
use Rattle.cb_compact.specs.Compact.{IsNextDiffering, DifferNowhereFrom}
use Rattle.cb_compact.proofs.Words.{wherever, where_none, one_count, next_is, none_is}
use Rattle.cb_compact.proofs.apart.next_apart.Goals as goal

pub next_difference-requires : goal.next_difference-requires
next_difference-requires c = record {
  same = one_count c.args.a.now c.args.b.now c.words.result.now c.words-2.result.now c.words.ensures c.words-2.ensures c.requires;
  few = let fits = c.words.ensures.holds.fits in let most = c.words.ensures.holds.no_more in omega arith;
}

pub returns-clause-next : goal.returns-clause-next
returns-clause-next c =
    let v = c.args.a.now in
    let w = c.args.b.now in
    let a = c.words.result.now in
    let b = c.words-2.result.now in
    let words = one_count v w a b c.words.ensures c.words-2.ensures c.requires in
    wherever c.next_difference.result (IsNextBit (zip2 bit_xor a b) [] c.args.from) (IsNextDiffering v w c.args.from)
    (next_is v w a b c.words.ensures c.words-2.ensures words c.requires c.args.from) c.next_difference.ensures.next

pub returns-clause-none : goal.returns-clause-none
returns-clause-none c =
    let v = c.args.a.now in
    let w = c.args.b.now in
    let a = c.words.result.now in
    let b = c.words-2.result.now in
    let words = one_count v w a b c.words.ensures c.words-2.ensures c.requires in
    where_none c.next_difference.result (HoldsNowhere (in_not (zip2 bit_xor a b) []) c.args.from (64 * length a)) (DifferNowhereFrom v w c.args.from)
    (none_is v w a b c.words.ensures c.words-2.ensures words c.requires c.args.from) c.next_difference.ensures.none
