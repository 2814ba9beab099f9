use Rattle.std.proofs.Common.{◌≡◌, ℕ, List, cond, map, max, ◌+◌, Some, None, sym, ◌∙◌, ap, subst, arith, refl, rules}
use Rattle.std.specs.Str.{bytes_eq}
use Rattle.cb_model.specs.WellTyped.{IsClass}
use Rattle.cb_model.proofs.NameLemmas.{lookup-insert_entry}
use Rattle.cb_network.specs.Topology.{IsLive as IsLiveName}
use Rattle.cb_network.specs.Edits.{with_instance}
use Rattle.cb_instances.specs.declared.id.InstanceId.{InstanceId}
use Rattle.cb_instances.specs.declared.instance.Instance.{Instance}
use Rattle.cb_instances.specs.Net.{Net, slot, SetsOnly}
use Rattle.cb_instances.specs.Places.{place_of}
use Rattle.cb_instances.specs.Shown.{name_in}
use Rattle.cb_instances.specs.Slots.{Slots}
use Rattle.cb_instances.proofs.Creating.{made, no_mutes}
use Rattle.cb_instances.proofs.Placing.{named}
use Rattle.cb_instances.proofs.net.Net.create.Goals as goal

pub events_of-requires : goal.events_of-requires
events_of-requires c = subst (λ (n : Net). IsClass n.topology.model c.args.class) (sym c.self.view_is) c.requires.class

pub invariant_of-self-2 : goal.invariant_of-self-2
invariant_of-self-2 c =
    let id : InstanceId = record { 0 = c.vacant_key-id.result } in
    let old = c.self.inside.slots.slots in
    let entries = c.self.inside.places.entries in
    let x : Instance = record { name = c.in_ok-of.field-0; class = c.args.class; links = c.new.result; muted = c.in_ok-with_capacity.field-0 } in
    let absent = subst (λ (n : Net). ¬ IsLiveName n.topology c.args.name.now) (sym c.self.view_is) c.requires.absent in
    let key = c.insert_reserved.ensures.key ∙ sym c.vacant_key-id.ensures.value in
    let updates = c.insert_reserved.ensures.updates in
    let unmuted = c.in_ok-with_capacity.ensures.items in
    let fits = no_mutes c.self.inside.model x c.events_of.result.now c.events_of.ensures (omega (arith, c.in_ok-with_capacity.ensures.capacity, c.len.ensures)) unmuted in
    let finds : (q : List ℕ) → place_of c.insert.new.self.entries q ≡ cond (bytes_eq q c.args.name.now) (Some id.0) (place_of entries q) = λ q.
    ap (λ es. place_of es q) c.in_ok-insert.ensures.entries
    ∙ (lookup-insert_entry (λ k. k.items) _ (λ a b. refl) q entries c.in_ok-key.key id.0 ∙ ap (λ n. cond (bytes_eq q n) (Some id.0) (place_of entries q)) c.in_ok-key.ensures.items) in
    let above : c.max-self-inside.result ≡ max c.self.inside.capacity (id.0 + 1) = search rules in
    let is = made c.self.inside.model old c.reserve.new.self.slots c.insert_reserved.new.self.slots entries c.insert.new.self.entries c.self.inside.capacity c.max-self-inside.result id c.insert_reserved.result x
    c.args.name.now c.self.invariant (ap (λ s. s.slots) c.reserve.ensures.rest_kept) c.vacant_key-id.ensures.vacant key updates.changed updates.others c.in_ok-of.ensures absent c.new.ensures unmuted fits finds above in
    is.sound

pub returns-clause-created : goal.returns-clause-created
returns-clause-created c =
    let id : InstanceId = record { 0 = c.vacant_key-id.result } in
    let old = c.self.inside.slots.slots in
    let entries = c.self.inside.places.entries in
    let x : Instance = record { name = c.in_ok-of.field-0; class = c.args.class; links = c.new.result; muted = c.in_ok-with_capacity.field-0 } in
    let absent = subst (λ (n : Net). ¬ IsLiveName n.topology c.args.name.now) (sym c.self.view_is) c.requires.absent in
    let key = c.insert_reserved.ensures.key ∙ sym c.vacant_key-id.ensures.value in
    let updates = c.insert_reserved.ensures.updates in
    let unmuted = c.in_ok-with_capacity.ensures.items in
    let fits = no_mutes c.self.inside.model x c.events_of.result.now c.events_of.ensures (omega (arith, c.in_ok-with_capacity.ensures.capacity, c.len.ensures)) unmuted in
    let finds : (q : List ℕ) → place_of c.insert.new.self.entries q ≡ cond (bytes_eq q c.args.name.now) (Some id.0) (place_of entries q) = λ q.
    ap (λ es. place_of es q) c.in_ok-insert.ensures.entries
    ∙ (lookup-insert_entry (λ k. k.items) _ (λ a b. refl) q entries c.in_ok-key.key id.0 ∙ ap (λ n. cond (bytes_eq q n) (Some id.0) (place_of entries q)) c.in_ok-key.ensures.items) in
    let above : c.max-self-inside.result ≡ max c.self.inside.capacity (id.0 + 1) = search rules in
    let is = made c.self.inside.model old c.reserve.new.self.slots c.insert_reserved.new.self.slots entries c.insert.new.self.entries c.self.inside.capacity c.max-self-inside.result id c.insert_reserved.result x
    c.args.name.now c.self.invariant (ap (λ s. s.slots) c.reserve.ensures.rest_kept) c.vacant_key-id.ensures.vacant key updates.changed updates.others c.in_ok-of.ensures absent c.new.ensures unmuted fits finds above in
    record {
      free = subst (λ (n : Net). slot n.names id.0 ≡ None) c.self.view_is (named old id.0 ∙ ap name_in (subst (λ (s : Slots). slot s id.0 ≡ None) (ap (λ s. s.slots) c.reserve.ensures.rest_kept) c.vacant_key-id.ensures.vacant));
      named = subst (λ (n : Net). SetsOnly n.names (map name_in c.insert_reserved.new.self.slots) id (Some c.args.name.now)) c.self.view_is is.named;
      made = is.topology ∙ ap (λ (n : Net). with_instance n.topology c.args.name.now c.args.class) c.self.view_is;
      capacity = search rules;
    }
