-- The capacity of nodes after an edit is one number.
use Rattle.std.proofs.Common.{◌≡◌, ℕ, length, sym, ap, subst, ◌∙◌}
use Rattle.cb_model.specs.declared.id.ClassId.{ClassId}
use Rattle.cb_model.specs.Views.{AreEventsOf}
use Rattle.cb_model.specs.WellTyped.{WellTyped}
use Rattle.cb_network.specs.declared.edit.Edit.{Edit}
use Rattle.cb_network.specs.declared.edit.Edit.TheVariants.{Create}
use Rattle.cb_nodes.specs.Table.{capacity_with}
use Rattle.cb_nodes.proofs.Events.{one_count}
use Rattle.cb_accept.proofs.Members.{one_class}
use Rattle.cb_topo.specs.Applied.{IsNodeCapacityAfter}
use Rattle.cb_topo.specs.Numbered.{Numbered, topology_of}

module _ (n : Numbered) (typed : WellTyped (topology_of n).model) where
  pub one_capacity : (edit : Edit) (capacity other : ℕ) → IsNodeCapacityAfter n edit capacity → IsNodeCapacityAfter n edit other → capacity ≡ other
  one_capacity (Create name class) capacity other (c, xs, named, are_xs, is) (d, ys, named_d, are_ys, is_other) =
      let tables = (topology_of n).model in
      let same : d ≡ c = one_class tables typed class d c named_d named in
      let count : length xs ≡ length ys = one_count tables c xs ys are_xs (subst (λ (b : ClassId). AreEventsOf tables b ys) same are_ys) in
      is ∙ (ap (capacity_with n.nodes) count ∙ sym is_other)
  one_capacity edit capacity other is is_other = is ∙ sym is_other
