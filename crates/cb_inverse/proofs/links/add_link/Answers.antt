use Rattle.std.proofs.Common.{◌≡◌, ◌<◌, Some, length, refl, sym, ap, subst, ◌∙◌, inl, inr, arith}
use Rattle.std.specs.List.{slice_get}
use Rattle.cb_model.specs.declared.tables.Tables.{Tables}
use Rattle.cb_network.specs.Sound.{IsInverse}
use Rattle.cb_instances.proofs.Losing.{item_of, other_item}
use Rattle.cb_network.specs.declared.edit.Edit.TheVariants.{Link}
use Rattle.cb_instances.specs.Net.{name_at}
use Rattle.cb_inverse.proofs.Linking.{is_later, is_first, links_again}
use Rattle.cb_inverse.proofs.links.add_link.Goals as goal
use Rattle.cb_inverse.proofs.links.add_link.Goals.{else-eq-via-then-eq+else-row-rel, else-eq-via-else-eq}

pub at-row-requires : goal.at-row-requires
at-row-requires c = subst (λ (m : Tables). c.args.rel.0 < length m.relations) (sym (c.tables.ensures.value ∙ c.model.ensures.value)) c.requires.rel

pub returns-then-row-rel : goal.returns-then-row-rel
returns-then-row-rel c =
    let n = c.args.topology.now.net in
    let row = c.at-row.result.now in
    let is = subst (λ (m : Tables). slice_get m.relations c.args.rel.0 ≡ Some row) (c.tables.ensures.value ∙ c.model.ensures.value) c.at-row.ensures in
    let inverse : IsInverse n.topology.model c.args.rel row.inverse = (row, is, refl) in
    inr (is_later n c.args.id c.args.rel row.inverse c.args.to inverse (item_of c.args.to c.args.id (sym c.eq.ensures ∙ c.if-eq.true)) c.if-row-rel.true, refl)

pub returns : goal.returns
returns c =
    let n = c.args.topology.now.net in
    let row = c.at-row.result.now in
    let is = subst (λ (m : Tables). slice_get m.relations c.args.rel.0 ≡ Some row) (c.tables.ensures.value ∙ c.model.ensures.value) c.at-row.ensures in
    let inverse : IsInverse n.topology.model c.args.rel row.inverse = (row, is, refl) in
    let first = is_first n c.model.ensures.whole.net c.args.id c.args.rel row.inverse c.args.to c.requires.link inverse (elim c.else-eq.branch [
      | else-eq-via-then-eq+else-row-rel w ↦ inr (omega (arith, w.if-row-rel.false))
      | else-eq-via-else-eq w ↦ inl (λ e. other_item c.args.to c.args.id (sym c.eq.ensures ∙ w.if-eq.false) e)
    ]) in
    let edit = c.in_ok-edit.edit in
    let again = links_again n c.model.ensures.sound c.args.id c.args.rel c.args.to c.requires.link row is edit (c.in_ok-edit.ensures ∙ ap (λ z. Link (name_at n c.args.id) z (name_at n c.args.to)) c.bytes.ensures) in
    inl (first, (edit, again, c.in_ok-push.ensures.items))
