use Rattle.std.proofs.Common.{inr, ap, take, rules, arith, length-append, length-take}
use Rattle.cb_io.proofs.Reported.{HasRead-more, HasRead-end}
use Rattle.cb_io.proofs.whole.read_whole.Goals as goal

pub returns-then-count-eq0-clause-all : goal.returns-then-count-eq0-clause-all
returns-then-count-eq0-clause-all g c =
    let read = c.in_ok-count.ensures in
    let more = take c.in_ok-count.count c.read.new.buf in
    let none = ap (λ n. take n c.read.new.buf) c.if-count-eq0.true in
    HasRead-end (g.F.Files.tells c.read.new.self) more c.loop-piece.invariant.2 read.bytes.0 none
    (read.bytes.1 c.if-count-eq0.true (search rules))

pub returns-then-count-most-clause-too_much : goal.returns-then-count-most-clause-too_much
returns-then-count-most-clause-too_much g c = λ _.
    let all = c.loop-piece.all in
    let count = c.in_ok-count.count in
    let read = c.in_ok-count.ensures in
    let more = take count c.read.new.buf in
    let so_far = HasRead-more (g.F.Files.tells c.read.new.self) more c.loop-piece.invariant.2 read.bytes.0 read.others
    read.counts in
    let longer = length-append all.items more in
    (_, omega (arith, longer, length-take count c.read.new.buf, read.bound, c.len.ensures, all.ok.0), so_far.came)

pub returns-then-count-most-clause-prefix : goal.returns-then-count-most-clause-prefix
returns-then-count-most-clause-prefix g c =
    let read = c.in_ok-count.ensures in
    let now = g.F.Files.tells c.read.new.self in
    (_, (HasRead-more now _ c.loop-piece.invariant.2 read.bytes.0 read.others read.counts).came)

pub returns-in_err-extend_from_slice-clause-prefix : goal.returns-in_err-extend_from_slice-clause-prefix
returns-in_err-extend_from_slice-clause-prefix g c =
    let read = c.in_ok-count.ensures in
    let now = g.F.Files.tells c.read.new.self in
    (_, (HasRead-more now _ c.loop-piece.invariant.2 read.bytes.0 read.others read.counts).came)

pub returns-then-count-eq0-clause-not_too_much : goal.returns-then-count-eq0-clause-not_too_much
returns-then-count-eq0-clause-not_too_much g c =
    let all = c.loop-piece.all in
    let read = c.in_ok-count.ensures in
    let more = take c.in_ok-count.count c.read.new.buf in
    let now = g.F.Files.tells c.read.new.self in
    let so_far = HasRead-more now more c.loop-piece.invariant.2 read.bytes.0 read.others read.counts in
    let longer = length-append all.items more in
    let none = c.if-count-eq0.true in
    inr (_, omega (arith, longer, length-take c.in_ok-count.count c.read.new.buf, none, c.loop-piece.invariant.0), so_far.came)

pub returns-in_err-extend_from_slice-clause-not_too_much : goal.returns-in_err-extend_from_slice-clause-not_too_much
returns-in_err-extend_from_slice-clause-not_too_much g c =
    let all = c.loop-piece.all in
    let read = c.in_ok-count.ensures in
    let more = take c.in_ok-count.count c.read.new.buf in
    let now = g.F.Files.tells c.read.new.self in
    let so_far = HasRead-more now more c.loop-piece.invariant.2 read.bytes.0 read.others read.counts in
    let longer = length-append all.items more in
    let few = c.if-count-most.false in
    inr (_, omega (arith, longer, length-take c.in_ok-count.count c.read.new.buf, few, c.len.ensures, all.ok.0, c.loop-piece.invariant.0), so_far.came)
