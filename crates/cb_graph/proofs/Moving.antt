-- The links that an edit moves, by its numbers.
use Rattle.std.proofs.Common.{◌≡◌, sym, subst}
use Rattle.cb_model.specs.declared.id.ClassId.{ClassId}
use Rattle.cb_model.specs.declared.id.EventId.{EventId}
use Rattle.cb_model.specs.declared.id.RelId.{RelId}
use Rattle.cb_network.specs.declared.edit.Edit.{Edit}
use Rattle.cb_network.specs.declared.edit.Edit.TheVariants.{Create, Delete, Link, Unlink, Mute, Unmute}
use Rattle.cb_network.specs.Sound.{IsInverse}
use Rattle.cb_change.specs.Laws.{KeepsLinks}
use Rattle.cb_instances.specs.declared.id.InstanceId.{InstanceId}
use Rattle.cb_instances.specs.Net.{Net}
use Rattle.cb_accept.specs.NumberedEdits.{IsNumberedEdit}
use Rattle.cb_accept.specs.declared.numbered.NumberedEdit.TheVariants as numbered
use Rattle.cb_graph.specs.declared.moves.Moves.{Moves}
use Rattle.cb_graph.specs.declared.moves.Moves.TheVariants.{Pair, AllOf}
use Rattle.cb_graph.specs.Touched.{AreMovedBy}

module _ (n : Net) (from : InstanceId) (r : RelId) (to : InstanceId) (moves : Moves) (s : RelId) (inverse : IsInverse n.topology.model r s) (same : moves ≡ Pair from r to s) where
  pub link_moves : (edit : Edit) → IsNumberedEdit n edit (numbered.Link from r to) → AreMovedBy n edit moves
  link_moves (Link a rel b) are =
      subst (AreMovedBy n (Link a rel b)) (sym same) (record { from_is = are.from; to_is = are.to; names = record { at_a = are.at_a; inverse = inverse } })
  link_moves edit is = absurd is

  pub unlink_moves : (edit : Edit) → IsNumberedEdit n edit (numbered.Unlink from r to) → AreMovedBy n edit moves
  unlink_moves (Unlink a rel b) are =
      subst (AreMovedBy n (Unlink a rel b)) (sym same) (record { from_is = are.from; to_is = are.to; names = record { at_a = are.at_a; inverse = inverse } })
  unlink_moves edit is = absurd is

pub delete_moves : (n : Net) (edit : Edit) (id : InstanceId) → IsNumberedEdit n edit (numbered.Delete id) → AreMovedBy n edit (AllOf id)
delete_moves n (Delete name) id named = named
delete_moves n edit id is = absurd is

-- the others keep the links
pub create_keeps : (n : Net) (edit : Edit) (c : ClassId) → IsNumberedEdit n edit (numbered.Create c) → KeepsLinks edit
create_keeps n (Create name class) c is = tt
create_keeps n edit c is = absurd is

pub mute_keeps : (n : Net) (edit : Edit) (id : InstanceId) (e : EventId) → IsNumberedEdit n edit (numbered.Mute id e) → KeepsLinks edit
mute_keeps n (Mute event name) id e is = tt
mute_keeps n edit id e is = absurd is

pub unmute_keeps : (n : Net) (edit : Edit) (id : InstanceId) (e : EventId) → IsNumberedEdit n edit (numbered.Unmute id e) → KeepsLinks edit
unmute_keeps n (Unmute event name) id e is = tt
unmute_keeps n edit id e is = absurd is
