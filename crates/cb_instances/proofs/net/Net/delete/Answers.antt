use Rattle.std.proofs.Common.{◌≡◌, ◌≢◌, ◌<◌, ℕ, List, None, refl, subst, ap, ◌∙◌, arith}
use Rattle.cb_instances.specs.Forgotten.{ForgetsAll}
use Rattle.cb_instances.specs.Net.{net_without}
use Rattle.cb_instances.specs.Places.{place_of}
use Rattle.cb_instances.specs.Shown.{seen, next_of}
use Rattle.cb_instances.proofs.Deleting.{deleted_sound, deleted_net, other_places}
use Rattle.cb_instances.proofs.Forgetting.{rows_of_tables}
use Rattle.cb_instances.proofs.net.Net.delete.Goals as goal

pub forget-requires : goal.forget-requires
forget-requires c =
    rows_of_tables c.self.inside.model c.self.inside.slots.slots _ _ c.self.invariant c.args.id c.remove-instance.result c.remove-instance.ensures.value

pub invariant_of-self : goal.invariant_of-self
invariant_of-self c =
    let old = c.self.inside.slots.slots in
    let x = c.remove-instance.result in
    let forgets = subst (λ s. ForgetsAll c.self.inside.model s c.forget.new.slots.slots c.args.id x.links.rows.items) c.remove-instance.ensures.slots c.forget.ensures.forgets in
    let entries = c.self.inside.places.entries in
    let after = c.swap_remove.new.self.entries in
    let gone : place_of after x.name ≡ None = subst (λ name. place_of after name ≡ None) c.bytes.ensures c.swap_remove.ensures.updates.1 in
    let kept : (q : List ℕ) → q ≢ x.name → place_of after q ≡ place_of entries q = subst (λ name. (q : List ℕ) → q ≢ name → place_of after q ≡ place_of entries q) c.bytes.ensures (other_places entries after c.bytes.result.now _ c.swap_remove.ensures.updates.3 (λ a b. refl)) in
    deleted_sound c.self.inside.model old c.forget.new.slots.slots entries after c.self.inside.capacity c.args.id x c.remove-instance.ensures.value c.self.invariant forgets gone kept

pub returns : goal.returns
returns c =
    let old = c.self.inside.slots.slots in
    let x = c.remove-instance.result in
    let forgets = subst (λ s. ForgetsAll c.self.inside.model s c.forget.new.slots.slots c.args.id x.links.rows.items) c.remove-instance.ensures.slots c.forget.ensures.forgets in
    let entries = c.self.inside.places.entries in
    let after = c.swap_remove.new.self.entries in
    let gone : place_of after x.name ≡ None = subst (λ name. place_of after name ≡ None) c.bytes.ensures c.swap_remove.ensures.updates.1 in
    let kept : (q : List ℕ) → q ≢ x.name → place_of after q ≡ place_of entries q = subst (λ name. (q : List ℕ) → q ≢ name → place_of after q ≡ place_of entries q) c.bytes.ensures (other_places entries after c.bytes.result.now _ c.swap_remove.ensures.updates.3 (λ a b. refl)) in
    let key : next_of c.forget.new.slots.vacant_key ≡ c.args.id.0 =
    let below : c.args.id.0 < c.self.inside.capacity = c.self.invariant.below c.args.id x c.remove-instance.ensures.value in
    omega (arith, c.forget.ensures.next, c.remove-instance.ensures.key_is_next, c.self.ranges.1.1.1.0.1) in
    ap (seen c.self.inside.model c.forget.new.slots.slots c.self.inside.capacity) key
    ∙ deleted_net c.self.inside.model old c.forget.new.slots.slots entries after c.self.inside.capacity c.args.id x c.remove-instance.ensures.value c.self.invariant forgets gone kept (next_of c.self.inside.slots.vacant_key)
    ∙ ap (λ n. net_without n c.args.id) c.self.view_is
