-- What is reported of a codebook is neither a diagnosis, nor of any other kind that it can't be.
use Rattle.std.proofs.Common.{◌≡◌, ◌++◌, ℕ, List, [], ◌∷◌, Bool, false, ap, ◌∙◌, inl, inr}
use Rattle.std.specs.List.{filter}
use Rattle.cb_model.specs.declared.node.GroupName.{GroupName}
use Rattle.cb_model.specs.declared.wish.Wish.{Wish}
use Rattle.cb_model.specs.declared.wish.Wish.TheVariants.{Plain, Cap}
use Rattle.cb_network.specs.Topology.{Topology}
use Rattle.cb_log.specs.declared.event.Event.{Event}
use Rattle.cb_log.specs.declared.event.Event.TheVariants.{Thin, BookMade, CapMade}
use Rattle.cb_log.specs.Basis.{Mode, Basis, IsMadeFor, AreWarnings, IsAnnounced}

-- the test holds of no event that tells of a codebook
pub record IsFalseForBooks (test : Event → Bool) : Type 0 where
  pub thin : (d : ℕ) (first second : GroupName) (distance : ℕ) → test (Thin d first second distance) ≡ false
  pub book : (columns of distance radius groups : ℕ) → test (BookMade columns of distance radius groups) ≡ false
  pub cap : (columns of cap least greatest groups : ℕ) → test (CapMade columns of cap least greatest groups) ≡ false

module _ (test : Event → Bool) (passes : IsFalseForBooks test) {network : Topology} {mode : Mode} (basis : Basis network mode) where
  made_none : (wish : Wish) (made : Event) → IsMadeFor basis wish made → test made ≡ false
  made_none (Plain d) made is = ap test is ∙ passes.book _ _ _ _ _
  made_none (Cap cap) made is = ap test is.is ∙ passes.cap _ _ _ _ _ _

  warnings_none : (wish : Wish) (warnings : List Event) (made : Event) → test made ≡ false → AreWarnings basis wish warnings
      → filter test (warnings ++ made ∷ []) ≡ []
  warnings_none (Plain d) warnings made none (inl p) = ap (λ (es : List Event). filter test (es ++ made ∷ [])) p.1 ∙ (rw none)
  warnings_none (Plain d) warnings made none (inr p) =
      let thin : test p.0 ≡ false = ap test p.1.is ∙ passes.thin _ _ _ _ in
      ap (λ (es : List Event). filter test (es ++ made ∷ [])) p.2 ∙ (rw (thin, none))
  warnings_none (Cap cap) warnings made none p = ap (λ (es : List Event). filter test (es ++ made ∷ [])) p ∙ (rw none)

  pub announced_none : (wish : Wish) (events : List Event) → IsAnnounced basis wish events → filter test events ≡ []
  announced_none wish events is =
      ap (filter test) is.events_are ∙ warnings_none wish is.warnings is.made (made_none basis.used is.made is.is_made) is.are_warnings
