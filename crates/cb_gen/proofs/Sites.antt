-- The texts of sites, one after the other.
use Rattle.std.proofs.Common.{◌≡◌, ℕ, suc, ◌+◌, List, ◌++◌, ap, ◌∙◌, append_assoc, sym, arith}
use Rattle.cb_gen.specs.Topology.{of_sites}

of_sites_more : (text : ℕ → List ℕ) (n : ℕ) → of_sites text (n + 1) ≡ of_sites text n ++ text n
of_sites_more text n = let next : n + 1 ≡ suc n = omega arith in ap (of_sites text) next

-- one more is written
pub site_more : (text : ℕ → List ℕ) (n : ℕ) (old now new : List ℕ) → now ≡ old ++ of_sites text n → new ≡ now ++ text n → new ≡ old ++ of_sites text (n + 1)
site_more text n old now new was is =
    is
    ∙ (ap (λ (xs : List ℕ). xs ++ text n) was
    ∙ (append_assoc old (of_sites text n) (text n) ∙ ap (λ (xs : List ℕ). old ++ xs) (sym (of_sites_more text n))))
