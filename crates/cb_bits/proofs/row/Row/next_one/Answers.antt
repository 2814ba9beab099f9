use Rattle.std.proofs.Common.{[], length, ap, ◌∙◌, arith}
use Rattle.cb_lanes.specs.Words.{in_not}
use Rattle.cb_bits.proofs.NextOnes.{alone, long_enough, next_found, none_found}
use Rattle.cb_bits.proofs.row.Row.next_one.Goals as goal

pub returns-clause-next : goal.returns-clause-next
returns-clause-next c =
    next_found c.args.self.now c.deref.result.now []
    (λ k. ap (λ words. in_not words [] k) c.deref.ensures.value ∙ alone c.self.inside.words.items c.self.inside.len c.args.self.now c.self.invariant c.self.view_is k)
    c.args.from c.next_bit.result c.next_bit.ensures.next

pub returns-clause-none : goal.returns-clause-none
returns-clause-none c =
    let enough = long_enough c.self.inside.words.items c.self.inside.len c.args.self.now c.self.invariant c.self.view_is in
    let all = ap length c.deref.ensures.value in
    none_found c.args.self.now c.deref.result.now []
    (λ k. ap (λ words. in_not words [] k) c.deref.ensures.value ∙ alone c.self.inside.words.items c.self.inside.len c.args.self.now c.self.invariant c.self.view_is k)
    c.args.from c.next_bit.result (omega arith) c.next_bit.ensures.none
