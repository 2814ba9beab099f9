use Rattle.std.proofs.Common.{length, sym, ap, ◌∙◌, arith}
use Rattle.cb_lanes.specs.Words.{in_not}
use Rattle.cb_bits.specs.Bits.{difference}
use Rattle.cb_bits.proofs.NextOnes.{in_one, long_enough, without_length, next_found, none_found}
use Rattle.cb_bits.proofs.United.{one_count}
use Rattle.cb_bits.proofs.row.Row.next_not_in.Goals as goal

pub next_in_a_not_b-requires-clause-same : goal.next_in_a_not_b-requires-clause-same
next_in_a_not_b-requires-clause-same c =
    ap length c.deref.ensures.value
    ∙ one_count _ _ c.self.inside.len c.other.inside.len _ _ c.self.invariant c.other.invariant c.self.view_is c.other.view_is c.requires
    ∙ sym (ap length c.deref-2.ensures.value)

pub returns-clause-next : goal.returns-clause-next
returns-clause-next c =
    next_found (difference c.args.self.now c.args.other.now) c.deref.result.now c.deref-2.result.now
    (λ k. ap (λ words. in_not words c.deref-2.result.now k) c.deref.ensures.value ∙ ap (λ others. in_not c.self.inside.words.items others k) c.deref-2.ensures.value
    ∙ in_one c.self.inside.words.items c.self.inside.len c.args.self.now c.self.invariant c.self.view_is
    c.other.inside.words.items c.other.inside.len c.args.other.now c.other.invariant c.other.view_is c.requires k)
    c.args.from c.next_in_a_not_b.result c.next_in_a_not_b.ensures.next

pub returns-clause-none : goal.returns-clause-none
returns-clause-none c =
    let enough = long_enough c.self.inside.words.items c.self.inside.len c.args.self.now c.self.invariant c.self.view_is in
    let all = ap length c.deref.ensures.value in
    let long = without_length c.args.self.now c.args.other.now c.requires in
    none_found (difference c.args.self.now c.args.other.now) c.deref.result.now c.deref-2.result.now
    (λ k. ap (λ words. in_not words c.deref-2.result.now k) c.deref.ensures.value ∙ ap (λ others. in_not c.self.inside.words.items others k) c.deref-2.ensures.value
    ∙ in_one c.self.inside.words.items c.self.inside.len c.args.self.now c.self.invariant c.self.view_is
    c.other.inside.words.items c.other.inside.len c.args.other.now c.other.invariant c.other.view_is c.requires k)
    c.args.from c.next_in_a_not_b.result (omega arith) c.next_in_a_not_b.ensures.none
