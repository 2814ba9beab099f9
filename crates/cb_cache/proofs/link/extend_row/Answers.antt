use Rattle.std.proofs.Common.{◌≡◌, ◌↔◌, ℕ, List, length, bit_or, refl, sym, ap, subst, ◌∙◌, inl, inr, arith}
use Rattle.std.specs.Simd.Lanes.{zip2}
use Rattle.std.proofs.lemmas.Simd.{length-zip2}
use Rattle.cb_bits.specs.Bits.{words_for}
use Rattle.cb_pool.specs.Pool.{Pool, SlotHasRow, SameOthers, slot_row}
use Rattle.cb_graph.specs.Edges.{EdgeAt}
use Rattle.cb_cache.specs.Extended.{IsLedByWords, HasTouched}
use Rattle.cb_cache.specs.Reached.{IsMet}
use Rattle.cb_cache.proofs.Growth.{met_words, common_touched, touched_common, clean_led}
use Rattle.cb_cache.proofs.Pooled.{row_written, others_unwritten}
use Rattle.cb_cache.proofs.Written.{packed_length}
use Rattle.cb_cache.proofs.link.extend_row.Goals as goal

pub returns-then-not-and_any-clause-row : goal.returns-then-not-and_any-clause-row
returns-then-not-and_any-clause-row g c =
    let old = c.args.pool.now in
    let slot = c.args.slot in
    let clean : ¬ HasTouched c.args.touched.now (slot_row old slot) = λ has.
    let common = c.if-not-and_any.ensures.1 (touched_common c.args.touched.now c.row.result.now (slot_row old slot) c.words.result.now c.words.ensures c.row.ensures.row.1 has) in cc in
    (slot_row old slot, (c.requires.taken, refl), clean_led (EdgeAt c.args.graph.now) c.args.touched.now (slot_row old slot) c.requires.settled clean)

pub returns-then-not-and_any-clause-cost : goal.returns-then-not-and_any-clause-cost
returns-then-not-and_any-clause-cost g c =
    let old = c.args.pool.now in
    let clean : ¬ HasTouched c.args.touched.now (slot_row old c.args.slot) = λ has.
    let common = c.if-not-and_any.ensures.1 (touched_common c.args.touched.now c.row.result.now (slot_row old c.args.slot) c.words.result.now c.words.ensures c.row.ensures.row.1 has) in cc in
    inl (clean, refl)

pub returns-clause-others : goal.returns-clause-others
returns-clause-others g c =
    let n = c.args.graph.now in
    let found = c.words-2.result.now in
    let joined = c.deref.result.now in
    let found_long = packed_length c.search_further.new.scratch.found found (length n.nodes) c.words-2.ensures c.search_further.ensures.capacity.found in
    let joined_long : length joined ≡ words_for (length n.nodes) = ap length c.deref.ensures.value ∙ c.search_further.ensures.capacity.joined in
    let long : length (zip2 bit_or found joined) ≡ words_for (length n.nodes) = length-zip2 bit_or found joined (found_long ∙ sym joined_long) ∙ found_long in
    let width = c.requires.width in
    subst (λ (p : Pool). SameOthers c.args.pool.now p c.args.slot) (sym c.write_row.ensures)
    (others_unwritten c.args.pool.now c.args.slot (zip2 bit_or found joined) (omega arith))

pub returns-clause-row : goal.returns-clause-row
returns-clause-row g c =
    let n = c.args.graph.now in
    let slot = c.args.slot in
    let old = c.args.pool.now in
    let found = c.words-2.result.now in
    let joined = c.deref.result.now in
    let words = zip2 bit_or found joined in
    let found_long = packed_length c.search_further.new.scratch.found found (length n.nodes) c.words-2.ensures c.search_further.ensures.capacity.found in
    let joined_long : length joined ≡ words_for (length n.nodes) = ap length c.deref.ensures.value ∙ c.search_further.ensures.capacity.joined in
    let long : length words ≡ words_for (length n.nodes) = length-zip2 bit_or found joined (found_long ∙ sym joined_long) ∙ found_long in
    let had : length (slot_row old slot) ≡ old.width = ap length (sym c.row.ensures.row.1) ∙ c.row.ensures.width in
    let met = subst (λ (ws : List ℕ). (k : ℕ) → IsMet c.search_further.new.scratch.found ws k ↔ IsLedByWords (EdgeAt n) (slot_row old slot) k) (sym c.deref.ensures.value) c.search_further.ensures.met in (
      words,
      subst (λ (p : Pool). SlotHasRow p slot words) (sym c.write_row.ensures) (row_written old slot words c.requires.taken (long ∙ sym c.requires.width ∙ sym had)),
      met_words (IsLedByWords (EdgeAt n) (slot_row old slot)) c.search_further.new.scratch.found found joined c.words-2.ensures (found_long ∙ sym joined_long) met,
    )

pub returns-clause-cost : goal.returns-clause-cost
returns-clause-cost g c =
    inr (common_touched c.args.touched.now c.row.result.now (slot_row c.args.pool.now c.args.slot) c.words.result.now c.words.ensures c.row.ensures.row.1 (c.if-not-and_any.ensures.0 refl), c.search_further.ensures.cost)
