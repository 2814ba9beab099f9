use Rattle.std.proofs.Common.{◌≡◌, subst}
use Rattle.cb_network.specs.declared.edit.Edit.{Edit}
use Rattle.cb_network.specs.declared.edit.Edit.TheVariants.{Create, Delete}
use Rattle.cb_instances.specs.Net.{IsNamed}
use Rattle.cb_topo.specs.Numbered.{Numbered}
use Rattle.cb_topo.specs.Settled.{WereSettled, WasOrderOf}
use Rattle.cb_topo.proofs.Following.{rewired_settled, deleted_may_be_gone, created_lacks}
use Rattle.cb_topo.proofs.topology.Topology.order_after.Goals as goal

pub with_new-requires-clause-lacks : goal.with_new-requires-clause-lacks
with_new-requires-clause-lacks c =
    let n = c.args.self.now in
    let ids = c.in_ok-order.order.items in
    let instance = c.in_ok-instance-in-Create.instance in
    let were : WereSettled n c.args.edit.now ids = subst (WasOrderOf n c.args.edit.now) c.in_ok-order.was c.requires in
    let edit : c.args.edit.now ≡ Create c.bytes.result.now c.in-Create.class = cc in
    let named = subst (λ (m : Numbered). IsNamed m.net instance c.bytes.result.now) c.self.view_is c.in_ok-instance-in-Create.ensures.found in
    created_lacks n c.bytes.result.now c.in-Create.class instance ids named (subst (λ (e : Edit). WereSettled n e ids) edit were)

pub without_gone-requires-clause-gone : goal.without_gone-requires-clause-gone
without_gone-requires-clause-gone c =
    let n = c.args.self.now in
    let ids = c.in_ok-order.order.items in
    let were : WereSettled n c.args.edit.now ids = subst (WasOrderOf n c.args.edit.now) c.in_ok-order.was c.requires in
    let edit : c.args.edit.now ≡ Delete c.in-Delete.name = cc in
    deleted_may_be_gone n c.in-Delete.name ids (subst (λ (e : Edit). WereSettled n e ids) edit were)

pub returns-in_default : goal.returns-in_default
returns-in_default c =
    let n = c.args.self.now in
    let ids = c.in_ok-order.order.items in
    let were : WereSettled n c.args.edit.now ids = subst (WasOrderOf n c.args.edit.now) c.in_ok-order.was c.requires in
    rewired_settled n c.args.edit.now ids were (λ name class e. c.in_default.not-Create name class e) (λ name e. c.in_default.not-Delete name e)
