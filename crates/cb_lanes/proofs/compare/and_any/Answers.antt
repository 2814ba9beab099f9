use Rattle.std.proofs.Common.{◌≡◌, ◌*◌, ◌/◌, Bool, true, false, not, length, refl, inl, inr, arith}
use Rattle.std.proofs.lemmas.Bool.{cases_lt}
use Rattle.cb_lanes.proofs.Common.{common_or_apart, none_common}
use Rattle.cb_lanes.proofs.compare.and_any.Goals as goal

pub returns-then-not-lanes_are_apart : goal.returns-then-not-lanes_are_apart
returns-then-not-lanes_are_apart c = (
  λ _. elim (common_or_apart c.args.a.now c.args.b.now (λ k. let f = c.type_inv.a k in omega arith) 0 (4 * (length c.args.a.now / 4))) [
    | inl common ↦ common
    | inr apart ↦ absurd (let e = c.lanes_are_apart.ensures.1 apart in let f = c.if-not-lanes_are_apart.true in cc)
  ],
  λ _. refl,
)

not_true : (b : Bool) → b ≡ true → not b ≡ true → ⊥
not_true true holds fails = cc
not_true false holds fails = cc

untrue : (b : Bool) → (b ≡ true → ⊥) → not b ≡ true
untrue true never = absurd (never refl)
untrue false never = refl

pub returns : goal.returns
returns c = (
  λ some. elim (common_or_apart c.args.a.now c.args.b.now (λ k. let f = c.type_inv.a k in omega arith) (4 * (length c.args.a.now / 4)) (length c.args.a.now)) [
    | inl common ↦ common
    | inr apart ↦ absurd (not_true c.rest_is_apart.result (c.rest_is_apart.ensures.1 apart) some)
  ],
  λ common. untrue c.rest_is_apart.result (λ rest. none_common c.args.a.now c.args.b.now
      (λ k low high. elim (cases_lt k (4 * (length c.args.a.now / 4))) [
        | inl lt ↦ c.lanes_are_apart.ensures.0 c.if-not-lanes_are_apart.false k low lt
        | inr le ↦ c.rest_is_apart.ensures.0 rest k le high
      ]) common),
)
