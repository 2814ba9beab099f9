use Rattle.std.proofs.Common.{◌↔◌, List, Option, length, sym, ap, subst, ◌∙◌, arith}
use Rattle.std.specs.Prelude.{vec_capacity}
use Rattle.std.specs.Global.{Global}
use Rattle.std.specs.declared.vec.Vec.{Vec}
use Rattle.std.specs.List.{Contains}
use Rattle.cb_model.specs.declared.tables.Tables.{Tables}
use Rattle.cb_change.specs.Costs.{IsEditCost, CountsAtMost}
use Rattle.cb_change.proofs.Steps.{near}
use Rattle.cb_nodes.specs.declared.id.NodeId.{NodeId}
use Rattle.cb_pool.specs.declared.slot.Slot.{Slot}
use Rattle.cb_pool.specs.Pool.{Pool}
use Rattle.cb_topo.specs.Applied.{Applies}
use Rattle.cb_topo.specs.Numbered.{Numbered, topology_of}
use Rattle.cb_cache.specs.declared.agenda.Agenda.{Agenda}
use Rattle.cb_cache.specs.Created.{IsNewProblem}
use Rattle.cb_cache.specs.Kept.{IsCacheOf}
use Rattle.cb_cache.specs.Most.{HasEventsWithin}
use Rattle.cb_cache.specs.Numbers.{AreOnce}
use Rattle.cb_cache.proofs.Creating.{AreMoved, fits_in, moved_for, events_fit, more_within}
use Rattle.cb_cache.proofs.create.create_in.Goals as goal

pub list_new-requires-clause-made : goal.list_new-requires-clause-made
list_new-requires-clause-made g c =
    (c.args.graph.now, subst (λ (m : Numbered). Applies c.args.graph.now c.args.accepted.now.edit.now m) (sym c.topology.ensures) c.in_ok-edit_graph.ensures.made.applies)

pub list_new-requires-clause-capacity : goal.list_new-requires-clause-capacity
list_new-requires-clause-capacity g c =
    let old = c.args.graph.now in
    let new = c.edit_graph.new.graph in
    let edit = c.args.accepted.now.edit.now in
    let edited = c.in_ok-edit_graph.ensures.made in
    let (typed, more, within, capacity) = c.requires.further in
    let rows = c.args.store.now.rows in
    let further = c.args.further.now in
    let fits = capacity new edited.applies in
    let there = c.move_in.new.store.rows in
    let model = (near (topology_of old) (topology_of new) edit edited.applies.after).model in
    let needs = events_fit old typed edit (length new.nodes) c.requires.creates edited.applies.node_capacity in
    let enough = fits.agenda.listed in
    let same = ap (λ (a : Agenda). vec_capacity a.problems) c.move_in.ensures.agenda in
    let wide = more_within (topology_of old).model edit (length new.nodes) (vec_capacity c.move_in.new.store.agenda.problems) needs (omega arith) in
    subst (λ (m : Numbered). HasEventsWithin (topology_of m).model edit (vec_capacity c.move_in.new.store.agenda.problems)) (sym c.topology.ensures)
    (subst (λ (m : Tables). HasEventsWithin m edit (vec_capacity c.move_in.new.store.agenda.problems)) model wide)

pub add_rows-requires-clause-live : goal.add_rows-requires-clause-live
add_rows-requires-clause-live g c =
    let old = c.args.graph.now in
    let new = c.edit_graph.new.graph in
    let edit = c.args.accepted.now.edit.now in
    let edited = c.in_ok-edit_graph.ensures.made in
    let (typed, more, within, capacity) = c.requires.further in
    let rows = c.args.store.now.rows in
    let further = c.args.further.now in
    let fits = capacity new edited.applies in
    let there = c.move_in.new.store.rows in
    let moved = subst (λ (xs : List (Option Slot)). AreMoved rows.slots.items xs rows.pool there.pool) (sym (ap (λ (v : Vec (Option Slot) Global). v.items) c.move_in.ensures.slots))
    (subst (λ (q : Pool). AreMoved rows.slots.items further.slots.items rows.pool q) (sym c.move_in.ensures.pool) (moved_for (length new.nodes) more rows further fits)) in
    let read = c.deref.result.now in
    let once = subst AreOnce (sym c.deref.ensures.value) c.list_new.ensures.once in
    let listed : (id : NodeId) → Contains read id ↔ IsNewProblem new edit id = λ id.
    subst (λ (xs : List NodeId). Contains xs id ↔ IsNewProblem new edit id) (sym c.deref.ensures.value)
    (subst (λ (m : Numbered). Contains c.list_new.new.list.items id ↔ IsNewProblem m edit id) c.topology.ensures (c.list_new.ensures.problems id)) in
    let fit = fits_in old new edit c.requires.creates edited rows.slots.items there.slots.items rows.pool there.pool c.requires.kept.right moved read once listed in
    fit.live

pub add_rows-requires-clause-none : goal.add_rows-requires-clause-none
add_rows-requires-clause-none g c =
    let old = c.args.graph.now in
    let new = c.edit_graph.new.graph in
    let edit = c.args.accepted.now.edit.now in
    let edited = c.in_ok-edit_graph.ensures.made in
    let (typed, more, within, capacity) = c.requires.further in
    let rows = c.args.store.now.rows in
    let further = c.args.further.now in
    let fits = capacity new edited.applies in
    let there = c.move_in.new.store.rows in
    let moved = subst (λ (xs : List (Option Slot)). AreMoved rows.slots.items xs rows.pool there.pool) (sym (ap (λ (v : Vec (Option Slot) Global). v.items) c.move_in.ensures.slots))
    (subst (λ (q : Pool). AreMoved rows.slots.items further.slots.items rows.pool q) (sym c.move_in.ensures.pool) (moved_for (length new.nodes) more rows further fits)) in
    let read = c.deref.result.now in
    let once = subst AreOnce (sym c.deref.ensures.value) c.list_new.ensures.once in
    let listed : (id : NodeId) → Contains read id ↔ IsNewProblem new edit id = λ id.
    subst (λ (xs : List NodeId). Contains xs id ↔ IsNewProblem new edit id) (sym c.deref.ensures.value)
    (subst (λ (m : Numbered). Contains c.list_new.new.list.items id ↔ IsNewProblem m edit id) c.topology.ensures (c.list_new.ensures.problems id)) in
    let fit = fits_in old new edit c.requires.creates edited rows.slots.items there.slots.items rows.pool there.pool c.requires.kept.right moved read once listed in
    fit.none

pub add_rows-requires-clause-rows : goal.add_rows-requires-clause-rows
add_rows-requires-clause-rows g c =
    let old = c.args.graph.now in
    let new = c.edit_graph.new.graph in
    let edit = c.args.accepted.now.edit.now in
    let edited = c.in_ok-edit_graph.ensures.made in
    let (typed, more, within, capacity) = c.requires.further in
    let rows = c.args.store.now.rows in
    let further = c.args.further.now in
    let fits = capacity new edited.applies in
    let there = c.move_in.new.store.rows in
    let moved = subst (λ (xs : List (Option Slot)). AreMoved rows.slots.items xs rows.pool there.pool) (sym (ap (λ (v : Vec (Option Slot) Global). v.items) c.move_in.ensures.slots))
    (subst (λ (q : Pool). AreMoved rows.slots.items further.slots.items rows.pool q) (sym c.move_in.ensures.pool) (moved_for (length new.nodes) more rows further fits)) in
    let read = c.deref.result.now in
    let once = subst AreOnce (sym c.deref.ensures.value) c.list_new.ensures.once in
    let listed : (id : NodeId) → Contains read id ↔ IsNewProblem new edit id = λ id.
    subst (λ (xs : List NodeId). Contains xs id ↔ IsNewProblem new edit id) (sym c.deref.ensures.value)
    (subst (λ (m : Numbered). Contains c.list_new.new.list.items id ↔ IsNewProblem m edit id) c.topology.ensures (c.list_new.ensures.problems id)) in
    let fit = fits_in old new edit c.requires.creates edited rows.slots.items there.slots.items rows.pool there.pool c.requires.kept.right moved read once listed in
    fit.rows

pub add_rows-requires-clause-apart : goal.add_rows-requires-clause-apart
add_rows-requires-clause-apart g c =
    let old = c.args.graph.now in
    let new = c.edit_graph.new.graph in
    let edit = c.args.accepted.now.edit.now in
    let edited = c.in_ok-edit_graph.ensures.made in
    let (typed, more, within, capacity) = c.requires.further in
    let rows = c.args.store.now.rows in
    let further = c.args.further.now in
    let fits = capacity new edited.applies in
    let there = c.move_in.new.store.rows in
    let moved = subst (λ (xs : List (Option Slot)). AreMoved rows.slots.items xs rows.pool there.pool) (sym (ap (λ (v : Vec (Option Slot) Global). v.items) c.move_in.ensures.slots))
    (subst (λ (q : Pool). AreMoved rows.slots.items further.slots.items rows.pool q) (sym c.move_in.ensures.pool) (moved_for (length new.nodes) more rows further fits)) in
    let read = c.deref.result.now in
    let once = subst AreOnce (sym c.deref.ensures.value) c.list_new.ensures.once in
    let listed : (id : NodeId) → Contains read id ↔ IsNewProblem new edit id = λ id.
    subst (λ (xs : List NodeId). Contains xs id ↔ IsNewProblem new edit id) (sym c.deref.ensures.value)
    (subst (λ (m : Numbered). Contains c.list_new.new.list.items id ↔ IsNewProblem m edit id) c.topology.ensures (c.list_new.ensures.problems id)) in
    let fit = fits_in old new edit c.requires.creates edited rows.slots.items there.slots.items rows.pool there.pool c.requires.kept.right moved read once listed in
    fit.apart

pub returns-clause-kept : goal.returns-clause-kept
returns-clause-kept g c =
    let old = c.args.graph.now in
    let new = c.edit_graph.new.graph in
    let edit = c.args.accepted.now.edit.now in
    let edited = c.in_ok-edit_graph.ensures.made in
    let (typed, more, within, capacity) = c.requires.further in
    let rows = c.args.store.now.rows in
    let further = c.args.further.now in
    let fits = capacity new edited.applies in
    let there = c.move_in.new.store.rows in
    let moved = subst (λ (xs : List (Option Slot)). AreMoved rows.slots.items xs rows.pool there.pool) (sym (ap (λ (v : Vec (Option Slot) Global). v.items) c.move_in.ensures.slots))
    (subst (λ (q : Pool). AreMoved rows.slots.items further.slots.items rows.pool q) (sym c.move_in.ensures.pool) (moved_for (length new.nodes) more rows further fits)) in
    let read = c.deref.result.now in
    let once = subst AreOnce (sym c.deref.ensures.value) c.list_new.ensures.once in
    let listed : (id : NodeId) → Contains read id ↔ IsNewProblem new edit id = λ id.
    subst (λ (xs : List NodeId). Contains xs id ↔ IsNewProblem new edit id) (sym c.deref.ensures.value)
    (subst (λ (m : Numbered). Contains c.list_new.new.list.items id ↔ IsNewProblem m edit id) c.topology.ensures (c.list_new.ensures.problems id)) in
    let fit = fits_in old new edit c.requires.creates edited rows.slots.items there.slots.items rows.pool there.pool c.requires.kept.right moved read once listed in
    let there_agenda = c.move_in.new.store.agenda in
    let kept : IsCacheOf new record { rows = c.add_rows.new.rows; agenda = record { touched = there_agenda.touched; problems = c.list_new.new.list } } = record {
      whole = edited.whole_after;
      right = fit.right c.add_rows.new.rows.slots.items c.add_rows.new.rows.pool c.add_rows.ensures.rows;
      capacity = c.add_rows.ensures.capacity;
      agenda = record {
        touched = ap (λ (a : Agenda). length a.touched) c.move_in.ensures.agenda ∙ fits.agenda.touched;
        listed = (let e = c.list_new.ensures.capacity in let f = fits.agenda.listed in let h = ap (λ (a : Agenda). vec_capacity a.problems) c.move_in.ensures.agenda in omega arith);
      };
    } in
    subst (λ (m : Numbered). IsCacheOf m record { rows = c.add_rows.new.rows; agenda = record { touched = there_agenda.touched; problems = c.list_new.new.list } }) (sym c.add_rows.ensures.same) kept

pub returns-clause-cost : goal.returns-clause-cost
returns-clause-cost g c =
    let old = c.args.graph.now in
    let new = c.edit_graph.new.graph in
    let edit = c.args.accepted.now.edit.now in
    let edited = c.in_ok-edit_graph.ensures.made in
    let (typed, more, within, capacity) = c.requires.further in
    let rows = c.args.store.now.rows in
    let further = c.args.further.now in
    let fits = capacity new edited.applies in
    let there = c.move_in.new.store.rows in
    let moved = subst (λ (xs : List (Option Slot)). AreMoved rows.slots.items xs rows.pool there.pool) (sym (ap (λ (v : Vec (Option Slot) Global). v.items) c.move_in.ensures.slots))
    (subst (λ (q : Pool). AreMoved rows.slots.items further.slots.items rows.pool q) (sym c.move_in.ensures.pool) (moved_for (length new.nodes) more rows further fits)) in
    let read = c.deref.result.now in
    let once = subst AreOnce (sym c.deref.ensures.value) c.list_new.ensures.once in
    let listed : (id : NodeId) → Contains read id ↔ IsNewProblem new edit id = λ id.
    subst (λ (xs : List NodeId). Contains xs id ↔ IsNewProblem new edit id) (sym c.deref.ensures.value)
    (subst (λ (m : Numbered). Contains c.list_new.new.list.items id ↔ IsNewProblem m edit id) c.topology.ensures (c.list_new.ensures.problems id)) in
    let fit = fits_in old new edit c.requires.creates edited rows.slots.items there.slots.items rows.pool there.pool c.requires.kept.right moved read once listed in
    subst (λ (m : Numbered). CountsAtMost (IsEditCost (topology_of old) edit (topology_of m)) c.args.steps.now c.add_rows.new.steps) (sym c.add_rows.ensures.same)
    (fit.within c.args.steps.now c.add_rows.new.steps c.add_rows.ensures.cost)
