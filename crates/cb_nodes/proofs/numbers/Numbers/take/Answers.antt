use Rattle.std.proofs.Common.{sym, subst, refl, arith}
use Rattle.std.specs.List.{Contains}
use Rattle.std.proofs.lemmas.List.Elements.{Contains-push}
use Rattle.cb_nodes.proofs.Taking.{taken_free}
use Rattle.cb_nodes.proofs.numbers.Numbers.take.Goals as goal

pub index_mut-requires : goal.index_mut-requires
index_mut-requires c =
    let has = subst (λ ids. Contains ids c.in-Some.id) (sym c.in-Some.ensures.items) (Contains-push c.pop.new.self.items c.in-Some.id) in
    let lt = c.requires.kept.within c.in-Some.id has in
    omega (arith, c.args.self.now.slots.ok.0)

pub returns-in-Some : goal.returns-in-Some
returns-in-Some c = taken_free c.args.self.now _ c.in-Some.id c.args.node c.requires.kept c.in-Some.ensures.items c.pop.ensures.capacity refl refl
