-- Following parents in canonical levels gives the short chain of the node.
use Rattle.std.proofs.Common.{◌≡◌, ℕ, zero, suc, ◌<◌, List, [], ◌∷◌, reverse, sym, ap, subst, ◌∙◌, arith}
use Rattle.std.specs.List.{AllZip}
use Rattle.std.proofs.lemmas.Option.{same_Some}
use Rattle.cb_model.specs.declared.node.NodeName.{NodeName}
use Rattle.cb_network.specs.Topology.{Topology}
use Rattle.cb_validity.proofs.SpanLaws.{stands_for_one}
use Rattle.cb_levels.specs.declared.levels.LevelEntry.{LevelEntry}
use Rattle.cb_levels.specs.declared.levels.Levels.{Levels}
use Rattle.cb_levels.specs.Level.{IsPrevious, LeadBack, IsShortChain}
use Rattle.cb_levels.specs.Listed.{IsEntryAt}
use Rattle.cb_levels.specs.Canonical.{AreCanonicalLevels}
use Rattle.cb_levels.specs.Trails.{HasParentAt, PositionsBack, IsNodeAt, IsTrail}
use Rattle.cb_levels.proofs.Lists.{listed_one}

module _ (t : Topology) (p : NodeName) (levels : Levels) (is : AreCanonicalLevels t p levels) where
  -- what is listed at the first position is p
  first_is : (position : ℕ) (entry : LevelEntry) (n : NodeName) → position ≡ 0 → IsEntryAt levels position entry n → n ≡ p
  first_is position entry n at_0 at =
      let first = is.first in
      let here : IsEntryAt levels 0 entry n = subst (λ k. IsEntryAt levels k entry n) at_0 at in
      listed_one levels 0 entry first.entry n p here first.listed

  -- an entry with a parent isn't the first
  is_later : (position parent : ℕ) → HasParentAt levels position parent → 0 < position
  is_later zero parent has =
      let first = is.first in
      let listed = first.listed in
      let same : has.entry ≡ first.entry = same_Some has.entry first.entry (sym has.is ∙ listed.is) in
      let alone = ap (λ (e : LevelEntry). e.parent) same ∙ first.alone in
      let e = has.parent_is in
      absurd (omega arith)
  is_later (suc k) parent has = omega arith

  -- the names of the positions lead back
  leads : (positions : List ℕ) (position : ℕ) (entry : LevelEntry) (s : NodeName) (names : List NodeName) → IsEntryAt levels position entry s
      → PositionsBack levels position positions 0 → AllZip (IsNodeAt levels) (position ∷ positions) names
      → (back : List NodeName) × LeadBack t p s back × (names ≡ s ∷ back)
  leads positions position entry s [] at back names = absurd names
  leads [] position entry s (n ∷ []) at back names =
      let there = names.0 in
      let same : n ≡ s = listed_one levels position there.0 entry n s there.1 at in
      ([], first_is position entry s back at, ap (λ m. m ∷ []) same)
  leads [] position entry s (n ∷ m ∷ more) at back names = absurd names.1
  leads (parent ∷ rest) position entry s (n ∷ more) at back names =
      let there = names.0 in
      let same : n ≡ s = listed_one levels position there.0 entry n s there.1 at in
      let has = back.0 in
      let f = is.parents position entry (is_later position parent has) at.is in
      let entry_is : has.entry ≡ entry = same_Some has.entry entry (sym has.is ∙ at.is) in
      let parents = ap (λ (e : LevelEntry). e.parent) entry_is in
      let a = has.parent_is in
      let b = f.parent in
      let position_is : f.position ≡ parent = omega arith in
      let from : IsEntryAt levels parent f.from f.previous = subst (λ k. IsEntryAt levels k f.from f.previous) position_is f.from_is in
      let node : f.node ≡ s = stands_for_one levels.nodes entry.node f.node s f.names at.names in
      let previous : IsPrevious t p s f.previous = subst (λ k. IsPrevious t p k f.previous) node f.previous_is in
      let later = leads rest parent f.from f.previous more from back.1 names.1 in
      let tail = later.2 in
      (f.previous ∷ later.0, (previous, later.1), cc)

pub trail_is_short_chain : (t : Topology) (p s : NodeName) (levels : Levels) (position : ℕ) (entry : LevelEntry) (nodes : List NodeName)
    → AreCanonicalLevels t p levels → IsEntryAt levels position entry s → IsTrail levels position nodes → IsShortChain t p s nodes
trail_is_short_chain t p s levels position entry nodes is at trail =
    let found = leads t p levels is trail.positions position entry s trail.names at trail.back trail.names_are in
    record { back = found.0; lead = found.1; is = trail.is ∙ ap reverse found.2 }
