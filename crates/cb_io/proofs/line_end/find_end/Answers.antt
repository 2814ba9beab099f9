use Rattle.std.proofs.Common.{inl}
use Rattle.std.proofs.lemmas.Result.{err_from_is_err_and}
use Rattle.cb_io.proofs.LineSearchLemmas.{nothing_read, searched_one, found_lf, over_lf, over_hand, thrown_long, read_failed, start_one, searched_on, found_end}
use Rattle.cb_io.proofs.line_end.find_end.Goals as goal

pub find_lf-requires-clause-none : goal.find_lf-requires-clause-none
find_lf-requires-clause-none g c = rw c.kept.ensures (searched_one c.reads.invariant.0)

pub returns-in-Some-clause-found : goal.returns-in-Some-clause-found
returns-in-Some-clause-found g c =
    let lf = rw c.kept.ensures at c.in-Some.ensures.lf in
    let within = rw c.kept.ensures at c.in-Some.ensures.within in
    found_lf c.reads.invariant.0 c.in-Some.length c.end_at.result lf c.in-Some.ensures.new within c.end_at.ensures.end c.end_at.ensures.within

pub returns-in-Some-clause-stopped : goal.returns-in-Some-clause-stopped
returns-in-Some-clause-stopped g c =
    let lf = rw c.kept.ensures at c.in-Some.ensures.lf in
    let within = rw c.kept.ensures at c.in-Some.ensures.within in
    over_lf c.reads.invariant.0 c.in-Some.length c.end_at.result lf within c.end_at.ensures.over

pub returns-in_err-lost-clause-stopped : goal.returns-in_err-lost-clause-stopped
returns-in_err-lost-clause-stopped g c =
    let none = rw c.kept.ensures at c.in_default.ensures.none in
    let p = err_from_is_err_and c.from_residual.result c.from_residual.ensures.1 in
    rw (p.1, p.2) (over_hand c.reads.invariant.0 c.in_err-lost.field-0.0 none c.in_err-lost.ensures.over)

pub returns-in_err-refill-clause-stopped : goal.returns-in_err-refill-clause-stopped
returns-in_err-refill-clause-stopped g c =
    let none = rw c.kept.ensures at c.in_default.ensures.none in
    let thrown = c.in_ok-lost.ensures in
    let sought = thrown_long c.reads.invariant.0 c.throw_long.new.hand c.in_ok-lost.lost none thrown.throws thrown.within thrown.size in
    let p = err_from_is_err_and c.from_residual-in_err-refill.result c.from_residual-in_err-refill.ensures.1 in
    let read = c.in_err-refill.ensures in
    rw (p.1, p.2) (read_failed sought (g.F.Files.tells c.refill.new.files) c.in_err-refill.field-0.0 read.bytes read.others read.counts)

pub returns-then-branch-eq0-clause-found : goal.returns-then-branch-eq0-clause-found
returns-then-branch-eq0-clause-found g c =
    let none = rw c.kept.ensures at c.in_default.ensures.none in
    let thrown = c.in_ok-lost.ensures in
    let sought = thrown_long c.reads.invariant.0 c.throw_long.new.hand c.in_ok-lost.lost none thrown.throws thrown.within thrown.size in
    let read = c.in_ok-refill.ensures in
    rw c.kept-searched.ensures (found_end sought (g.F.Files.tells c.refill.new.files) c.refill.new.self _ read.bytes read.others read.counts c.if-branch-eq0.true)

pub reads-preserved : goal.reads-preserved
reads-preserved g c =
    let none = rw c.kept.ensures at c.in_default.ensures.none in
    let thrown = c.in_ok-lost.ensures in
    let sought = thrown_long c.reads.invariant.0 c.throw_long.new.hand c.in_ok-lost.lost none thrown.throws thrown.within thrown.size in
    let read = c.in_ok-refill.ensures in
    rw c.kept-searched.ensures (searched_on sought (g.F.Files.tells c.refill.new.files) c.refill.new.self _ read.bytes read.others read.counts read.size, inl (start_one sought))

pub returns-in-Some-clause-in_hand : goal.returns-in-Some-clause-in_hand
returns-in-Some-clause-in_hand g c = nothing_read c.args.hand.now.kept c.reads.invariant.1

pub returns-in_err-lost-clause-in_hand : goal.returns-in_err-lost-clause-in_hand
returns-in_err-lost-clause-in_hand g c = nothing_read c.args.hand.now.kept c.reads.invariant.1

pub returns-in_err-refill-clause-in_hand : goal.returns-in_err-refill-clause-in_hand
returns-in_err-refill-clause-in_hand g c =
    let none = rw c.kept.ensures at c.in_default.ensures.none in
    let thrown = c.in_ok-lost.ensures in
    let sought = thrown_long c.reads.invariant.0 c.throw_long.new.hand c.in_ok-lost.lost none thrown.throws thrown.within thrown.size in
    λ whole. absurd (whole (start_one sought))

pub returns-then-branch-eq0-clause-in_hand : goal.returns-then-branch-eq0-clause-in_hand
returns-then-branch-eq0-clause-in_hand g c =
    let none = rw c.kept.ensures at c.in_default.ensures.none in
    let thrown = c.in_ok-lost.ensures in
    let sought = thrown_long c.reads.invariant.0 c.throw_long.new.hand c.in_ok-lost.lost none thrown.throws thrown.within thrown.size in
    λ whole. absurd (whole (start_one sought))
