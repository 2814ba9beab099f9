use Rattle.std.proofs.Common.{sym, subst, ◌∙◌}
use Rattle.std.specs.Prelude.{OnOk}
use Rattle.cb_validity.specs.Totals.{HasFewEntries}
use Rattle.cb_topo.specs.Numbered.{Numbered, topology_of}
use Rattle.cb_span.specs.Made.{AreColumnsAt, IsBookFor, PreventsBook}
use Rattle.cb_span.specs.Searched.{AreTreesOf}
use Rattle.cb_span.proofs.Books.{passed_on}
use Rattle.cb_span.proofs.made.book.Goals as goal

pub book-requires-clause-trees : goal.book-requires-clause-trees
book-requires-clause-trees g c =
    subst (λ (n : Numbered). AreTreesOf n c.in_ok-trees.trees) (sym (c.topology.ensures ∙ c.of.ensures.same)) c.in_ok-trees.ensures.trees

pub book-requires-clause-columns : goal.book-requires-clause-columns
book-requires-clause-columns g c =
    subst (λ (n : Numbered). AreColumnsAt n c.args.columns.now) (sym (c.topology.ensures ∙ c.of.ensures.same)) c.requires

pub returns-in_err-trees-clause-fault : goal.returns-in_err-trees-clause-fault
returns-in_err-trees-clause-fault g c =
    passed_on (PreventsBook (topology_of c.args.graph.now)) c.from_residual.result c.in_err-trees.field-0.0 c.from_residual.ensures.1
    c.in_err-trees.ensures.fault

pub returns-clause-made : goal.returns-clause-made
returns-clause-made g c =
    subst (λ (n : Numbered). IsBookFor n c.args.columns.now c.args.distance c.in_ok-certificate.certificate) (c.topology.ensures ∙ c.of.ensures.same)
    c.in_ok-certificate.ensures.made

pub returns-clause-few : goal.returns-clause-few
returns-clause-few g c =
    subst (λ (n : Numbered). HasFewEntries (topology_of n)) (c.topology.ensures ∙ c.of.ensures.same) c.in_ok-certificate.ensures.few
