use Rattle.std.proofs.Common.{refl, sym, subst, ◌∙◌, inl, inr}
use Rattle.std.proofs.lemmas.Bool.{false≢true}
use Rattle.cb_pool.specs.declared.slot.Slot.{Slot}
use Rattle.cb_pool.specs.Pool.{slot_row}
use Rattle.cb_topo.specs.Numbered.{IsLiveNode}
use Rattle.cb_cache.specs.Extended.{HasTouched}
use Rattle.cb_cache.proofs.Slots.{one_slot, slot_there}
use Rattle.cb_cache.proofs.Stale.{touched_of, common_of}
use Rattle.cb_cache.proofs.cut.take_back_one.Goals as goal
use Rattle.cb_cache.proofs.cut.take_back_one.Goals.{else-live-via-then-live+else-not-and_any, else-live-via-else-live}

pub give_back-requires : goal.give_back-requires
give_back-requires c = c.requires.taken c.in-Some.slot (slot_there c.args.rows.now.slots.items c.args.node.0 c.index.result.now c.in-Some.slot c.requires.within c.index.ensures c.in-Some.is)

pub returns-then-not-and_any-clause-takes : goal.returns-then-not-and_any-clause-takes
returns-then-not-and_any-clause-takes c =
    let slots = c.args.rows.now.slots.items in
    let p = c.args.rows.now.pool in
    let touched = c.args.touched.now in
    let here = slot_there slots c.args.node.0 c.index.result.now c.in-Some.slot c.requires.within c.index.ensures c.in-Some.is in
    let live = c.is_live-live.ensures.0 c.if-live.true in
    inl record {
      clean = λ slot has.
          let same = one_slot slots c.args.node.0 c.in-Some.slot slot here has in (
            live,
            λ marked.
                let own = subst (λ (s : Slot). HasTouched touched (slot_row p s)) (sym same) marked in
                let common = common_of touched c.words.result.now c.row.result.now (slot_row p c.in-Some.slot) c.words.ensures c.row.ensures.row.1 own in
                false≢true (sym c.if-not-and_any.true ∙ c.and_any.ensures.1 common),
          );
      same_slots = refl;
      same_pool = refl;
      same_ids = refl;
    }

pub returns-then-live-2-clause-takes : goal.returns-then-live-2-clause-takes
returns-then-live-2-clause-takes c =
    let slots = c.args.rows.now.slots.items in
    let p = c.args.rows.now.pool in
    let touched = c.args.touched.now in
    let slot = c.in-Some.slot in
    let live = c.is_live-live.ensures.0 c.if-live-2.true in
    inr record {
      slot = slot;
      had = slot_there slots c.args.node.0 c.index.result.now slot c.requires.within c.index.ensures c.in-Some.is;
      stale = λ _. elim c.else-live.branch [
        | else-live-via-then-live+else-not-and_any w ↦ touched_of touched w.words.result.now w.row.result.now (slot_row p slot) w.words.ensures w.row.ensures.row.1 (w.and_any.ensures.0 w.if-not-and_any.false)
        | else-live-via-else-live w ↦ absurd (false≢true (sym w.if-live.false ∙ c.if-live-2.true))
      ];
      emptied = refl;
      free = c.give_back.ensures.free;
      others = c.give_back.ensures.others;
      lists = inl (live, c.push_reserved.ensures.items);
    }

pub returns-else-live-2-clause-takes : goal.returns-else-live-2-clause-takes
returns-else-live-2-clause-takes c =
    let slots = c.args.rows.now.slots.items in
    let slot = c.in-Some.slot in
    let gone : ¬ IsLiveNode c.args.topology.now c.args.node = λ live. false≢true (sym c.if-live-2.false ∙ c.is_live-live.ensures.1 live) in
    inr record {
      slot = slot;
      had = slot_there slots c.args.node.0 c.index.result.now slot c.requires.within c.index.ensures c.in-Some.is;
      stale = λ live. absurd (gone live);
      emptied = refl;
      free = c.give_back.ensures.free;
      others = c.give_back.ensures.others;
      lists = inr (gone, refl);
    }
