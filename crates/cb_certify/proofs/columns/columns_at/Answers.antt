use Rattle.std.proofs.Common.{◌≡◌, [], ◌∷◌, ◌++◌, ◌+◌, ℕ, List, Some, slice_get, take, sym, subst, arith}
use Rattle.std.proofs.lemmas.Option.{slice_get_within, get_or_from_slice_get}
use Rattle.cb_model.proofs.Fill.{take_whole}
use Rattle.cb_model.proofs.Numbers.{zip_push, take_more}
use Rattle.cb_nodes.specs.declared.id.NodeId.{NodeId}
use Rattle.cb_certify.specs.Columns.{AreAt}
use Rattle.cb_certify.proofs.columns.columns_at.Goals as goal

pub loop-k-init : goal.loop-k-init
loop-k-init c = subst (λ (ids : List NodeId). AreAt c.args.all.now [] ids) (sym c.new-columns.ensures) tt

pub at-column-requires : goal.at-column-requires
at-column-requires c =
    let inside = slice_get_within c.args.places.now c.loop-k.k c.at-place.result.now c.at-place.ensures in
    let at = get_or_from_slice_get c.args.places.now c.loop-k.k c.at-place.result.now 0 c.at-place.ensures in
    let low = c.requires c.loop-k.k 0 inside in
    omega (arith, low, at)

pub loop-k-preserved : goal.loop-k-preserved
loop-k-preserved c =
    let k = c.loop-k.k in
    let all = c.args.all.now in
    let places = c.args.places.now in
    subst (λ (ids : List NodeId). AreAt all (take (k + 1) places) ids) (sym c.in_ok-push.ensures.ok)
    (subst (λ (ps : List ℕ). AreAt all ps (c.loop-k.columns ++ c.at-column.result.now ∷ [])) (sym (take_more places k c.at-place.result.now c.at-place.ensures))
    (zip_push (λ (place : ℕ) (id : NodeId). slice_get all place ≡ Some id) (take k places) c.loop-k.columns c.at-place.result.now c.at-column.result.now c.loop-k.invariant
    c.at-column.ensures))

pub returns : goal.returns
returns c = subst (λ (ps : List ℕ). AreAt c.args.all.now ps c.loop-k.columns) (take_whole c.args.places.now c.loop-k.k (omega arith)) c.loop-k.invariant
