use Rattle.std.proofs.Common.{◌++◌, refl, ◌∙◌, ap, arith}
use Rattle.std.specs.Option.{option_to_list}
use Rattle.cb_pool.proofs.Taking.{free_within, free_vacant, taken_again, set_takes}
use Rattle.cb_pool.proofs.slots.Slots.take_again.Goals as goal

pub index_mut-requires : goal.index_mut-requires
index_mut-requires c =
    let popped = c.pop.ensures.items ∙ ap (λ o. c.pop.new.self.items ++ option_to_list o) c.unwrap-slot.ensures in
    let lt = free_within c.args.self.now c.pop.new.self.items c.unwrap-slot.result c.requires.kept popped in
    omega arith

pub returns-clause-kept : goal.returns-clause-kept
returns-clause-kept c =
    let popped = c.pop.ensures.items ∙ ap (λ o. c.pop.new.self.items ++ option_to_list o) c.unwrap-slot.ensures in
    taken_again c.args.self.now _ c.unwrap-slot.result c.requires.kept popped c.pop.ensures.capacity refl refl refl

pub returns-clause-within : goal.returns-clause-within
returns-clause-within c =
    let popped = c.pop.ensures.items ∙ ap (λ o. c.pop.new.self.items ++ option_to_list o) c.unwrap-slot.ensures in
    free_within c.args.self.now c.pop.new.self.items c.unwrap-slot.result c.requires.kept popped

pub returns-clause-takes : goal.returns-clause-takes
returns-clause-takes c =
    let popped = c.pop.ensures.items ∙ ap (λ o. c.pop.new.self.items ++ option_to_list o) c.unwrap-slot.ensures in
    set_takes c.args.self.now.taken.items _ c.unwrap-slot.result.0 (free_within c.args.self.now c.pop.new.self.items c.unwrap-slot.result c.requires.kept popped)
    (free_vacant c.args.self.now c.pop.new.self.items c.unwrap-slot.result c.requires.kept popped) refl
