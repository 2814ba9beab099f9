use Rattle.std.proofs.Common.{ℕ, List, true, refl, sym, subst}
use Rattle.cb_network.specs.Topology.{HasLink}
use Rattle.cb_network.specs.Causes.{Ahead}
use Rattle.cb_network.proofs.Runs.{linked_of, of_linked}
use Rattle.cb_network.proofs.laws.plus_is_one_or_more.Goals as goal

pub returns : goal.returns
returns c = λ t place a b plus_is.
    let Step : List ℕ → List ℕ → Type 0 = λ x y. HasLink t x place.rel y in (
      λ (last, ahead, next, link, same).
          let run : Ahead Step true a last = subst (λ plus. Ahead Step plus a last) plus_is ahead in
          linked_of Step a run.0 last b run.1 (subst (λ z. HasLink t last place.rel z) same link),
      λ (between, linked).
          let (last, ahead, step) = of_linked Step a between b linked in
          (last, subst (λ plus. Ahead Step plus a last) (sym plus_is) ahead, b, step, refl),
    )
