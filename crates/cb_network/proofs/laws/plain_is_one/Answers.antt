use Rattle.std.proofs.Common.{◌≡◌, ℕ, List, refl, sym, subst}
use Rattle.cb_network.specs.Topology.{HasLink}
use Rattle.cb_network.specs.Causes.{Ahead}
use Rattle.cb_network.proofs.laws.plain_is_one.Goals as goal

pub returns : goal.returns
returns c = λ t place a b plain.
    let Step : List ℕ → List ℕ → Type 0 = λ x y. HasLink t x place.rel y in (
      λ (last, ahead, next, link, same).
          let here : a ≡ last = subst (λ plus. Ahead Step plus a last) plain ahead in
          subst (λ z. HasLink t z place.rel b) (sym here) (subst (λ z. HasLink t last place.rel z) same link),
      λ link. (a, subst (λ plus. Ahead Step plus a a) (sym plain) refl, b, link, refl),
    )
