use Rattle.std.proofs.Common.{◌↔◌, List, sym, subst}
use Rattle.std.specs.List.{Contains}
use Rattle.cb_instances.specs.declared.id.InstanceId.{InstanceId}
use Rattle.cb_instances.specs.Net.{Net, IsNamed, LinkAt, Once}
use Rattle.cb_instances.specs.Shown.{seen, next_of}
use Rattle.cb_instances.proofs.Placing.{seen_at}
use Rattle.cb_instances.proofs.Reading.{occupied, row_is}
use Rattle.cb_instances.proofs.net.Net.links.Goals as goal

pub index-requires : goal.index-requires
index-requires c =
    let named = subst (λ (n : Net). IsNamed n c.args.id c.requires.0) (sym c.self.view_is) c.requires.1 in
    occupied c.self.inside.slots.slots c.args.id c.requires.0 (seen_at c.self.inside.slots.slots c.args.id c.requires.0 named)

pub returns-clause-exactly : goal.returns-clause-exactly
returns-clause-exactly c =
    let P : Net → List InstanceId → Type 0 = λ n row. (to : InstanceId) → Contains row to ↔ LinkAt n c.args.id c.args.rel to in
    subst (λ n. P n c.to.result.now) c.self.view_is
    (subst (λ row. P (seen c.self.inside.model c.self.inside.slots.slots c.self.inside.capacity (next_of c.self.inside.slots.vacant_key)) row) (sym c.to.ensures) (row_is _ _ _ _ c.self.invariant (next_of c.self.inside.slots.vacant_key) c.args.id c.args.rel c.index.result.now c.index.ensures))

pub returns-clause-once : goal.returns-clause-once
returns-clause-once c = subst Once (sym c.to.ensures) ((c.self.invariant.tidy c.args.id c.index.result.now c.index.ensures).once c.args.rel)
