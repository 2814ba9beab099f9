use Rattle.std.proofs.Common.{subst}
use Rattle.std.specs.List.{Contains}
use Rattle.std.proofs.lemmas.List.Sorted.{IsPermutation-sym, Contains-permutation}
use Rattle.cb_checker.specs.Reasons.{IsLed, IsFirstUnled}
use Rattle.cb_checker.proofs.Asking.{first_moved}
use Rattle.cb_checker.proofs.reasons.first_unled.Goals as goal

pub first_by_parents-requires-clause-live : goal.first_by_parents-requires-clause-live
first_by_parents-requires-clause-live g c = λ reason in'.
    let old = c.args.reasons.now.items in
    let new = c.sort_unstable_by_key.new.self.items in
    let back = IsPermutation-sym old new c.sort_unstable_by_key.ensures.permutation in
    c.requires.live reason (Contains-permutation new old reason back (subst (λ xs. Contains xs reason) c.deref.ensures.value in'))

pub returns-clause-first : goal.returns-clause-first
returns-clause-first g c =
    let n = c.args.graph.now in
    let old = c.args.reasons.now.items in
    let new = c.sort_unstable_by_key.new.self.items in
    let moved = c.sort_unstable_by_key.ensures.permutation in
    let first = c.first_by_parents.result in
    first_moved (IsLed n) old new (λ reason in'. Contains-permutation old new reason moved in')
    (λ reason in'. Contains-permutation new old reason (IsPermutation-sym old new moved) in') first
    (subst (λ xs. IsFirstUnled n xs first) c.deref.ensures.value c.first_by_parents.ensures.first)
