use Rattle.std.proofs.Common.{◌≡◌, sym, ◌∙◌}
use Rattle.cb_instances.specs.Items.{Gains}
use Rattle.cb_instances.specs.Joined.{Stays}
use Rattle.cb_instances.proofs.Joining.{joins_once, joins_twice, remains, same_twice}
use Rattle.cb_instances.proofs.Losing.{item_of, other_item}
use Rattle.cb_instances.proofs.Rewiring.{stays_links, spare_elsewhere}
use Rattle.cb_instances.proofs.RowLemmas.{same_rel, differs, on_err}
use Rattle.cb_instances.proofs.join.join.Goals as goal
use Rattle.cb_instances.proofs.join.join.Goals.{else-eq-via-then-eq+else-eq-2, else-eq-via-else-eq}

pub returns-in_err-reserve-clause-err : goal.returns-in_err-reserve-clause-err
returns-in_err-reserve-clause-err c = on_err _ _ (stays_links _ _ _ _ c.in_err-reserve.ensures.same)

pub returns-in_err-reserve-2-clause-err : goal.returns-in_err-reserve-2-clause-err
returns-in_err-reserve-2-clause-err c =
    on_err _ _ (same_twice _ _ _ (stays_links _ _ _ _ c.in_ok-reserve.ensures.same) (stays_links _ _ _ _ c.in_err-reserve-2.ensures.same))

pub add-requires-else-eq : goal.add-requires-else-eq
add-requires-else-eq c =
    let apart : (c.args.from ≡ c.args.to) × (c.args.rel ≡ c.args.back) → ⊥ = elim c.else-eq.branch [
      | else-eq-via-then-eq+else-eq-2 w ↦ λ e. differs c.args.rel c.args.back (sym w.eq-then-eq.ensures ∙ w.if-eq-2.false) e.1
      | else-eq-via-else-eq w ↦ λ e. other_item c.args.from c.args.to (sym c.eq.ensures ∙ w.if-eq.false) e.0
    ] in
    spare_elsewhere _ _ _ _ Stays c.in_ok-reserve-2.ensures.same c.args.from c.args.rel apart c.in_ok-reserve.ensures.spare

pub add-requires-else-eq-2 : goal.add-requires-else-eq-2
add-requires-else-eq-2 c =
    let apart : (c.args.to ≡ c.args.from) × (c.args.back ≡ c.args.rel) → ⊥ = elim c.else-eq.branch [
      | else-eq-via-then-eq+else-eq-2 w ↦ λ e. differs c.args.rel c.args.back (sym w.eq-then-eq.ensures ∙ w.if-eq-2.false) (sym e.1)
      | else-eq-via-else-eq w ↦ λ e. other_item c.args.from c.args.to (sym c.eq.ensures ∙ w.if-eq.false) (sym e.0)
    ] in
    spare_elsewhere _ _ _ _ (Gains c.args.to) c.add-else-eq.ensures.rewires c.args.to c.args.back apart c.in_ok-reserve-2.ensures.spare

pub returns-then-eq-2-clause-ok : goal.returns-then-eq-2-clause-ok
returns-then-eq-2-clause-ok c =
    let one = item_of c.args.from c.args.to (sym c.eq.ensures ∙ c.if-eq.true) in
    let own = same_rel c.args.rel c.args.back (sym c.eq-then-eq.ensures ∙ c.if-eq-2.true) in
    let at = remains _ _ _ _ Stays c.in_ok-reserve.ensures.same c.args.from c.requires.from.0 c.requires.from.1 in
    joins_once _ _ _ _ _ _ _ one own at.0 at.1 (stays_links _ _ _ _ c.in_ok-reserve.ensures.same) c.add.ensures.rewires

pub returns-in_ok-reserve-2-clause-ok : goal.returns-in_ok-reserve-2-clause-ok
returns-in_ok-reserve-2-clause-ok c =
    let apart : (c.args.from ≡ c.args.to) × (c.args.rel ≡ c.args.back) → ⊥ = elim c.else-eq.branch [
      | else-eq-via-then-eq+else-eq-2 w ↦ λ e. differs c.args.rel c.args.back (sym w.eq-then-eq.ensures ∙ w.if-eq-2.false) e.1
      | else-eq-via-else-eq w ↦ λ e. other_item c.args.from c.args.to (sym c.eq.ensures ∙ w.if-eq.false) e.0
    ] in
    let one = remains _ _ _ _ Stays c.in_ok-reserve.ensures.same in
    let two = remains _ _ _ _ Stays c.in_ok-reserve-2.ensures.same in
    let three = remains _ _ _ _ (Gains c.args.to) c.add-else-eq.ensures.rewires in
    let from_1 = one c.args.from c.requires.from.0 c.requires.from.1 in
    let from_2 = two c.args.from from_1.0 from_1.1 in
    let to_1 = one c.args.to c.requires.to.0 c.requires.to.1 in
    let to_2 = two c.args.to to_1.0 to_1.1 in
    let to_3 = three c.args.to to_2.0 to_2.1 in
    let same = same_twice _ _ _ (stays_links _ _ _ _ c.in_ok-reserve.ensures.same) (stays_links _ _ _ _ c.in_ok-reserve-2.ensures.same) in
    joins_twice _ _ _ _ _ _ _ _ apart from_2.0 from_2.1 to_3.0 to_3.1 same c.add-else-eq.ensures.rewires c.add-else-eq-2.ensures.rewires
