use Rattle.std.proofs.Common.{◌≡◌, Result, Ok, Err, OnOk, OnErr, sym, subst}
use Rattle.cb_topo.specs.Numbered.{Numbered, topology_of}
use Rattle.cb_cache.specs.Kept.{IsCacheOf}
use Rattle.cb_cache.specs.Laws.{IsEdited}
use Rattle.cb_cache.proofs.Marked.{kept_marked, counts_none}
use Rattle.cb_cache.proofs.edits.mark.Goals as goal

-- what follows from both outcomes holds
either_way : {X Y : Type 0} (result : Result X Y) (P Q R : Type 0) → OnOk result P → OnErr result Q → (P → R) → (Q → R) → R
either_way (Ok x) P Q R ok err from_ok from_err = from_ok ok
either_way (Err y) P Q R ok err from_ok from_err = from_err err

pub returns-clause-kept : goal.returns-clause-kept
returns-clause-kept c =
    let old = c.args.graph.now in
    let new = c.edit_graph.new.graph in
    let store = c.args.store.now in
    either_way c.edit_graph.result (IsEdited old c.args.accepted.now.edit.now new) (new ≡ old) (IsCacheOf new store) c.edit_graph.ensures.made c.edit_graph.ensures.kept
    (λ edited. kept_marked old new c.args.accepted.now.edit.now edited c.requires.marks store c.requires.kept)
    (λ same. subst (λ (n : Numbered). IsCacheOf n store) (sym same) c.requires.kept)

pub returns-clause-cost : goal.returns-clause-cost
returns-clause-cost c = λ steps.
    counts_none c.edit_graph.result (topology_of c.args.graph.now) (topology_of c.edit_graph.new.graph) c.args.accepted.now.edit.now c.requires.marks steps
