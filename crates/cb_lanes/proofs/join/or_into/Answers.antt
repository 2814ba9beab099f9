use Rattle.std.proofs.Common.{◌≡◌, Bool, true, false, slice_index_or, bit_or, refl, ap, arith}
use Rattle.std.proofs.lemmas.Grind.{same_number_lists}
use Rattle.cb_lanes.proofs.Zipped.{united}
use Rattle.cb_lanes.proofs.join.or_into.Goals as goal

pub returns-clause-union : goal.returns-clause-union
returns-clause-union c =
    let kept = c.loop-i.invariant in
    let end = c.loop-i-test.false in
    united bit_or c.args.a.now c.args.b.now c.loop-i.a kept.len c.requires (λ k lt. kept.united k (omega arith))

flagged : (b : Bool) → (b ≡ false → ⊥) → b ≡ true
flagged true not = refl
flagged false not = absurd (not refl)

pub returns-clause-changed : goal.returns-clause-changed
returns-clause-changed c =
    let kept = c.loop-i.invariant in (
      λ yes same. let k = kept.some yes in k.1 (ap (λ ws. slice_index_or ws k.0 0) same),
      λ other. flagged c.loop-i.changed (λ no. other (same_number_lists c.loop-i.a c.args.a.now kept.len (λ k lt. kept.none no k))),
    )
