use Rattle.std.proofs.Common.{◌≡◌, ◌+◌, List, ℕ, length, bit_or, refl, sym, ap, subst, ◌∙◌, arith}
use Rattle.std.specs.Simd.Lanes.{zip2}
use Rattle.std.proofs.lemmas.List.{length-replicate}
use Rattle.std.proofs.lemmas.Simd.{length-zip2}
use Rattle.cb_bits.specs.Bits.{words_for}
use Rattle.cb_instances.proofs.Showing.{slot_within}
use Rattle.cb_pool.specs.Pool.{Pool, SlotHasRow, SameOthers, slot_row, with_row}
use Rattle.cb_graph.specs.Edges.{EdgeAt}
use Rattle.cb_cache.specs.Reached.{IsAllMet}
use Rattle.cb_cache.proofs.Written.{reached_words, packed_length}
use Rattle.cb_cache.proofs.Pooled.{row_written, others_unwritten, others_both}
use Rattle.cb_cache.proofs.Sizes.{search_counted}
use Rattle.cb_cache.proofs.fill.add_row.Goals as goal

pub search-requires-clause-node : goal.search-requires-clause-node
search-requires-clause-node g c = slot_within c.args.graph.now.nodes c.args.node.0 c.requires.live.1.node c.requires.live.1.is

pub returns-clause-cost : goal.returns-clause-cost
returns-clause-cost g c =
    search_counted c.args.graph.now c.requires.whole c.args.node.0 _ _ _ c.search.ensures.capacity.found c.search.ensures.capacity.done c.search.ensures.met c.search.ensures.within
    c.args.steps.now c.search.new.steps c.search.ensures.cost

pub returns-clause-adds : goal.returns-clause-adds
returns-clause-adds g c =
    let n = c.args.graph.now in
    let i = c.args.node.0 in
    let slot = c.take-slot.result in
    let old = c.args.rows.now.pool in
    let mid = c.take-slot.new.self in
    let found = c.words.result.now in
    let joined = c.deref-2.result.now in
    let words = zip2 bit_or found joined in
    let is : c.write_row.new.pool ≡ with_row mid slot words = c.write_row.ensures in
    let zeros : length (slot_row mid slot) ≡ old.width = ap length (sym c.take-slot.ensures.zero.1) ∙ length-replicate old.width 0 in
    let same_width = c.take-slot.ensures.width in
    let needs = c.requires.capacity.width in
    let found_long = packed_length c.search.new.scratch.found found (length n.nodes) c.words.ensures c.search.ensures.capacity.found in
    let joined_long : length joined ≡ words_for (length n.nodes) = ap length c.deref-2.ensures.value ∙ c.search.ensures.capacity.joined in
    let long : length words ≡ words_for (length n.nodes) = length-zip2 bit_or found joined (found_long ∙ sym joined_long) ∙ found_long in
    let met = subst (λ (ws : List ℕ). IsAllMet (EdgeAt n) i c.search.new.scratch.found ws) (sym c.deref-2.ensures.value) c.search.ensures.met in
    record {
      slot = slot;
      free = c.take-slot.ensures.free;
      listed = refl;
      row = (
        words,
        subst (λ (p : Pool). SlotHasRow p slot words) (sym is) (row_written mid slot words c.take-slot.ensures.zero.0 (long ∙ sym needs ∙ sym zeros)),
        reached_words (EdgeAt n) i c.search.new.scratch.found found joined c.words.ensures (found_long ∙ sym joined_long) met,
      );
      others = subst (λ (p : Pool). SameOthers old p slot) (sym is)
          (others_both old mid (with_row mid slot words) slot c.take-slot.ensures.others (others_unwritten mid slot words (let a = long in omega arith)));
      width = ap (λ (p : Pool). p.width) is ∙ same_width;
      spare = c.take-slot.ensures.spare ∙ ap (λ (p : Pool). p.spare + 1) (sym is);
    }
