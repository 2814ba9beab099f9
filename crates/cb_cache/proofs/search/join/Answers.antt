use Rattle.std.proofs.Common.{◌≡◌, ◌↔◌, ◌⊎◌, ℕ, List, true, bit_or, sym, ap, subst, ◌∙◌}
use Rattle.std.specs.Simd.Lanes.{zip2}
use Rattle.std.specs.Vec.{with_items}
use Rattle.std.proofs.lemmas.List.{with_items_is}
use Rattle.cb_lanes.specs.Words.{bit_of}
use Rattle.cb_cache.proofs.United.{united_cases}
use Rattle.cb_cache.proofs.search.join.Goals as goal

pub returns-clause-joined : goal.returns-clause-joined
returns-clause-joined c =
    let words = c.args.words.now.items in
    let row = c.args.row.now in
    let written : (with_items c.args.words.now c.or_into.new.a).items ≡ zip2 bit_or words row =
    with_items_is c.args.words.now c.or_into.new.a (c.or_into.auto.a ∙ c.deref_mut.ensures.len)
    ∙ c.or_into.ensures.union
    ∙ ap (λ a. zip2 bit_or a row) c.deref_mut.ensures.value in
    subst (λ (items : List ℕ). (k : ℕ) → (bit_of items k ≡ true) ↔ ((bit_of words k ≡ true) ⊎ (bit_of row k ≡ true))) (sym written)
    (united_cases words row c.requires)
