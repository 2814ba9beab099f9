use Rattle.std.proofs.Common.{◌≡◌, subst, arith}
use Rattle.std.proofs.lemmas.Nat.{ones_le_self}
use Rattle.cb_compact.specs.Nth.{IsNthOne}
use Rattle.cb_compact.proofs.Nth.{first_one, in_word, next_one}
use Rattle.cb_compact.proofs.apart.nth_one.Goals as goal

pub loop-found-init : goal.loop-found-init
loop-found-init c =
    let fits = c.ranges.word in
    let some = c.requires.some in
    let enough = c.requires.enough in
    let few = ones_le_self c.args.word in
    first_one c.args.word (omega arith) (omega arith)

pub overflow_shr-place : goal.overflow_shr-place
overflow_shr-place c =
    let fits = c.ranges.word in
    let enough = c.requires.enough in
    let fewer = c.loop-found-test.true in
    in_word c.args.word (omega arith) c.loop-found.found c.loop-found.place c.loop-found.invariant (omega arith)

pub loop-found-preserved : goal.loop-found-preserved
loop-found-preserved c =
    let fits = c.ranges.word in
    let enough = c.requires.enough in
    let fewer = c.loop-found-test.true in
    next_one c.args.word (omega arith) c.loop-found.found c.loop-found.place c.loop-found.invariant (omega arith)

pub returns : goal.returns
returns c =
    let some = c.requires.some in
    let end = c.loop-found.auto.found-end in
    let done = c.loop-found-test.false in
    let all : c.loop-found.found ≡ c.args.n = (let le = end (omega arith) in omega arith) in
    subst (λ n. IsNthOne c.args.word n c.loop-found.place) all c.loop-found.invariant
