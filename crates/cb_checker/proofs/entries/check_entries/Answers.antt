use Rattle.std.proofs.Common.{length, ap, ◌∙◌, arith}
use Rattle.std.proofs.lemmas.Result.{on_ok_weaker}
use Rattle.cb_topo.proofs.Positions.{live_below}
use Rattle.cb_checker.specs.declared.marks.SpanNodes.{SpanNodes}
use Rattle.cb_checker.specs.Listed.{AreListed, AreMarked}
use Rattle.cb_checker.proofs.Stating.{stated_live}
use Rattle.cb_checker.proofs.entries.check_entries.Goals as goal

pub list_entries-listed-requires-clause-below : goal.list_entries-listed-requires-clause-below
list_entries-listed-requires-clause-below g c = λ i id at.
    let low = live_below c.args.graph.now id (c.requires.live i id at) in
    let capacity = c.requires.marked.capacity in
    omega arith

pub first_unled-requires-clause-live : goal.first_unled-requires-clause-live
first_unled-requires-clause-live g c =
    let span = c.args.span.now in
    stated_live c.args.graph.now c.args.ids.now span (length span.entries) c.list_entries-listed.new.marks.reasons.items c.requires.live c.list_entries-listed.ensures.stated

pub overflow_add-result : goal.overflow_add-result
overflow_add-result g c =
    let first = c.in-Some.ensures.first in
    let low = (c.list_entries-listed.ensures.stated first.reason first.is).0 in
    let at = first.at in
    omega arith

pub overflow_add-result-in-Some : goal.overflow_add-result-in-Some
overflow_add-result-in-Some g c =
    let first = c.in-Some.ensures.first in
    let low = (c.list_entries-listed.ensures.stated first.reason first.is).0 in
    let at = first.at in
    omega arith

pub returns-in-Some-clause-judges : goal.returns-in-Some-clause-judges
returns-in-Some-clause-judges g c = c.list_entries-listed.ensures.unled c.args.graph.now c.in-Some.place c.in-Some.ensures.first

pub returns-clause-judges : goal.returns-clause-judges
returns-clause-judges g c = c.list_entries-listed.ensures.led c.args.graph.now c.in_default.ensures.first

pub returns-clause-marked : goal.returns-clause-marked
returns-clause-marked g c =
    let n = c.args.graph.now in
    let marks = c.list_entries-listed.new.marks in
    let now : SpanNodes = record marks { reasons = c.first_unled.new.reasons; found = c.first_unled.new.found } in
    let marked = c.requires.marked in
    let are : AreListed marks.listed marks.placed.items → AreMarked n now = λ listed. record {
      capacity = c.list_entries-listed.ensures.capacity ∙ marked.capacity;
      spare = c.first_unled.ensures.capacity ∙ (ap length c.list_entries-listed.ensures.found ∙ marked.spare);
      each = listed;
    } in
    on_ok_weaker c.list_entries-listed.result are c.list_entries-listed.ensures.listed
