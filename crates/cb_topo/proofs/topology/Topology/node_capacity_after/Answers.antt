use Rattle.std.proofs.Common.{◌≡◌, ◌<◌, ap, sym, subst, ◌∙◌, length, arith}
use Rattle.cb_model.specs.declared.tables.Tables.{Tables}
use Rattle.cb_model.specs.Views.{AreEventsOf}
use Rattle.cb_model.specs.WellTyped.{IsClass}
use Rattle.cb_nodes.specs.Table.{capacity_with}
use Rattle.cb_accept.specs.NumberedEdits.{IsNumberedEdit}
use Rattle.cb_accept.specs.declared.numbered.NumberedEdit.TheVariants as numbered
use Rattle.cb_topo.specs.Accepted.{IsDecided}
use Rattle.cb_topo.specs.Applied.{IsNodeCapacityAfter}
use Rattle.cb_topo.specs.Numbered.{Numbered}
use Rattle.cb_topo.proofs.Limits.{few_numbers}
use Rattle.cb_topo.proofs.Numbering.{numbered_class, created_capacity, other_capacity}
use Rattle.cb_topo.proofs.topology.Topology.node_capacity_after.Goals as goal

pub events_of-events-requires : goal.events_of-events-requires
events_of-events-requires c =
    let n : Numbered = record { net = c.self.inside.net; nodes = c.self.inside.nodes } in
    let accepted = c.args.accepted.now in
    let decided = subst (λ (m : Numbered). IsDecided m accepted) (sym c.self.view_is) c.requires in
    let same : accepted.numbered ≡ numbered.Create c.in-Create.class = cc in
    let is = subst (IsNumberedEdit n.net accepted.edit.now) same decided.by_numbers in
    subst (λ (t : Tables). IsClass t c.in-Create.class) (sym c.model.ensures.value) (numbered_class n.net accepted.edit.now c.in-Create.class is)

pub capacity_with-requires : goal.capacity_with-requires
capacity_with-requires c =
    let nodes = c.self.inside.nodes in
    let are = subst (λ (t : Tables). AreEventsOf t c.in-Create.class c.events_of-events.result.now) c.model.ensures.value c.events_of-events.ensures in
    let few = few_numbers c.self.inside.net.topology.model c.self.invariant.topology.typed nodes c.self.invariant.topology.table.few c.in-Create.class c.events_of-events.result.now are in
    let long = c.len.ensures in
    subst (λ n. capacity_with nodes n < 18446744073709551616) (sym long) (omega arith)

pub returns-in-Create : goal.returns-in-Create
returns-in-Create c =
    let n : Numbered = record { net = c.self.inside.net; nodes = c.self.inside.nodes } in
    let accepted = c.args.accepted.now in
    let decided = subst (λ (m : Numbered). IsDecided m accepted) (sym c.self.view_is) c.requires in
    let same : accepted.numbered ≡ numbered.Create c.in-Create.class = cc in
    let is = subst (IsNumberedEdit n.net accepted.edit.now) same decided.by_numbers in
    let are = subst (λ (t : Tables). AreEventsOf t c.in-Create.class c.events_of-events.result.now) c.model.ensures.value c.events_of-events.ensures in
    let capacity : c.capacity_with.result ≡ capacity_with n.nodes (length c.events_of-events.result.now) = c.capacity_with.ensures ∙ ap (capacity_with n.nodes) c.len.ensures in
    subst (λ (m : Numbered). IsNodeCapacityAfter m accepted.edit.now c.capacity_with.result) c.self.view_is
    (created_capacity n accepted.edit.now c.in-Create.class is c.events_of-events.result.now are c.capacity_with.result capacity)

pub returns-in_default : goal.returns-in_default
returns-in_default c =
    let n : Numbered = record { net = c.self.inside.net; nodes = c.self.inside.nodes } in
    let accepted = c.args.accepted.now in
    let decided = subst (λ (m : Numbered). IsDecided m accepted) (sym c.self.view_is) c.requires in
    let same = other_capacity n accepted.edit.now accepted.numbered decided.by_numbers (λ class is. c.in_default.not-Create class is) in
    subst (λ (m : Numbered). IsNodeCapacityAfter m accepted.edit.now c.capacity.result) c.self.view_is
    (subst (IsNodeCapacityAfter n accepted.edit.now) (sym c.capacity.ensures.value) same)
