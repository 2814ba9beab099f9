use Rattle.std.proofs.Common.{List, sym, subst}
use Rattle.cb_model.specs.declared.id.EventId.{EventId}
use Rattle.cb_model.specs.declared.tables.Tables.{Tables}
use Rattle.cb_model.specs.Views.{AreEventsOf}
use Rattle.cb_accept.proofs.Own.{event_is_listed}
use Rattle.cb_instances.specs.Net.{name_at}
use Rattle.cb_topo.specs.Numbered.{topology_of}
use Rattle.cb_topo.proofs.Naming.{is_named}
use Rattle.cb_inverse.proofs.Muting.{all_muted_if_ok}
use Rattle.cb_inverse.proofs.mutes.mute_edits.Goals as goal

pub returns : goal.returns
returns c =
    let n = c.args.topology.now in
    let class = c.class_of.result in
    let of_class = c.class_of.ensures.named (name_at n.net c.args.id) (is_named n.net c.args.id c.requires) in
    let events = c.as_slice.result.now in
    let are : AreEventsOf (topology_of n).model class events =
    subst (λ (m : Tables). AreEventsOf m class events) c.model.ensures.value
    (subst (λ (es : List EventId). AreEventsOf c.model.result.now class es) (sym c.as_slice.ensures) c.events_of-events.ensures) in
    all_muted_if_ok n.net c.model.ensures.sound c.args.id class of_class events (event_is_listed (topology_of n).model class events are) c.mute_each.result c.mute_each.ensures
