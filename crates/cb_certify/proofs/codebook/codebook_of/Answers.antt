use Rattle.std.proofs.Common.{◌∙◌, IfOk, sym, subst}
use Rattle.cb_validity.specs.Totals.{HasManyEntries}
use Rattle.cb_span.specs.Made.{PreventsBook}
use Rattle.cb_span.specs.Searched.{AreTreesOf}
use Rattle.cb_topo.specs.Numbered.{Numbered, topology_of}
use Rattle.cb_certify.specs.Made.{IsMadeOf}
use Rattle.cb_certify.proofs.codebook.codebook_of.Goals as goal

pub of_trees-requires-clause-trees : goal.of_trees-requires-clause-trees
of_trees-requires-clause-trees g c = subst (λ (n : Numbered). AreTreesOf n c.in-Ok.trees) (sym c.of.ensures.same) c.in-Ok.ensures.trees

pub of_many-requires-clause-many : goal.of_many-requires-clause-many
of_many-requires-clause-many g c =
    let n = c.in_ok-graph.graph in
    subst (λ (m : Numbered). HasManyEntries (topology_of m)) (sym c.of.ensures.same)
    (subst (PreventsBook (topology_of n)) c.in-Err-TooManyEntries.field-0-is c.in-Err-TooManyEntries.ensures.fault)

pub returns-in-Ok : goal.returns-in-Ok
returns-in-Ok g c =
    subst (λ (n : Numbered). IfOk c.of_trees.result (IsMadeOf (topology_of n) c.args.wish)) (c.of.ensures.same ∙ c.in_ok-graph.ensures) c.of_trees.ensures

pub returns-in-Err-TooManyEntries : goal.returns-in-Err-TooManyEntries
returns-in-Err-TooManyEntries g c =
    subst (λ (n : Numbered). IfOk c.of_many.result (IsMadeOf (topology_of n) c.args.wish)) (c.of.ensures.same ∙ c.in_ok-graph.ensures) c.of_many.ensures
