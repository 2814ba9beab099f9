use Rattle.std.proofs.Common.{[], ℕ, ◌<◌, ◌∙◌, below_more, length, false, ap, arith}
use Rattle.std.proofs.lemmas.List.{length-replicate}
use Rattle.cb_coding.specs.Needs.{need_of}
use Rattle.cb_reduce.specs.Pairs.{MustWait}
use Rattle.cb_reduce.specs.Places.{kept_of}
use Rattle.cb_reduce.specs.Moves.{IsCovered}
use Rattle.cb_reduce.proofs.Forcing.{none_forced, forces_on}
use Rattle.cb_reduce.proofs.Held.{none_grow, grows_on, still_covered}
use Rattle.cb_reduce.proofs.waiting.wait_each.Goals as goal

pub loop-second-init : goal.loop-second-init
loop-second-init c =
    let codes = c.args.codes.now.rows in
    let needs : ℕ → ℕ → ℕ = need_of c.args.codes.now.width codes c.args.wish in
    record {
      wide = c.requires.forced;
      long = ap length c.in_ok-marked.ensures ∙ (length-replicate _ false ∙ c.len.ensures);
      forces = none_forced c.args.codes.now.width codes needs c.args.forced.now;
      grows = none_grow codes c.args.waiting.now.items;
      held = λ j lt i below must. absurd (omega arith);
    }

pub loop-second-preserved : goal.loop-second-preserved
loop-second-preserved c =
    let codes = c.args.codes.now.rows in
    let needs : ℕ → ℕ → ℕ = need_of c.args.codes.now.width codes c.args.wish in
    let was = c.loop-second.invariant in
    let now = c.in_ok-wait_for.ensures in
    let old = c.loop-second.waiting.items in
    let new = c.wait_for.new.waiting.items in
    let forced = c.wait_for.new.forced in
    record {
      wide = now.forces.long ∙ was.wide;
      long = c.wait_for.ensures.long ∙ was.long;
      forces = forces_on c.args.codes.now.width codes needs c.args.forced.now c.loop-second.forced forced was.forces now.forces;
      grows = grows_on codes c.args.waiting.now.items old new was.grows now.grows;
      held = below_more (λ j. (i : ℕ) → i < j → MustWait c.args.quiet codes i j → IsCovered codes (kept_of forced) [] (needs i j) new c.args.width i j) c.loop-second.second
          (λ j lt i below must. still_covered codes c.loop-second.forced forced [] (needs i j) old new now.forces.long now.forces.stay now.grows c.args.width i j
          (was.held j lt i below must))
          now.held;
    }
