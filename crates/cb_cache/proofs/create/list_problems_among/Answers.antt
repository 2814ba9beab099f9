use Rattle.std.proofs.Common.{◌≡◌, ◌≤◌, ◌+◌, ◌↔◌, ◌++◌, ◌∷◌, [], List, length, take, slice_index_or, sym, subst, ◌∙◌, arith}
use Rattle.std.specs.Prelude.{vec_capacity}
use Rattle.std.specs.Global.{Global}
use Rattle.std.specs.declared.vec.Vec.{Vec}
use Rattle.std.specs.List.{Contains}
use Rattle.std.proofs.lemmas.List.{take_more, length_push}
use Rattle.cb_model.specs.declared.id.EventId.{EventId}
use Rattle.cb_model.proofs.Fill.{take_whole}
use Rattle.cb_nodes.specs.declared.id.NodeId.{NodeId}
use Rattle.cb_cache.specs.Created.{IsProblemAmong}
use Rattle.cb_cache.specs.Numbers.{AreOnce}
use Rattle.cb_cache.proofs.Creating.{among_more, among_past, once_among}
use Rattle.cb_cache.proofs.create.list_problems_among.Goals as goal
use Rattle.cb_cache.proofs.create.list_problems_among.Goals.{in-Some, in_default}

pub loop-event-preserved : goal.loop-event-preserved
loop-event-preserved c =
    let n = c.args.topology.now in
    let instance = c.args.instance in
    let events = c.args.events.now in
    let i = c.loop-event.event-index in
    let zero : EventId = record { 0 = 0 } in
    let e = slice_index_or events i zero in
    let list = c.loop-event.list.items in
    let kept = c.loop-event.invariant in
    let low = c.loop-event-test.true in
    let whole = c.problem_at.ensures.whole in
    let prefix : take (i + 1) events ≡ take i events ++ e ∷ [] = take_more events i zero low in
    let Among : List EventId → List NodeId → Type 0 = λ few ids. (id : NodeId) → Contains ids id ↔ IsProblemAmong n instance few id in
    let After : Vec NodeId Global → Type 0 = λ made.
    record { problems : Among (take (i + 1) events) made.items; once : AreOnce made.items; few : length made.items ≤ i + 1; capacity : vec_capacity made ≡ vec_capacity c.args.list.now } in
    elim c.match-problem_at.branch [
      | in-Some w ↦
          let id = w.in-Some.node in
          let is = w.in-Some.ensures.event in
          let problem = w.in-Some.ensures.problem in
          let items = w.push_reserved.ensures.items in
          subst After (sym w.list-is) record {
            problems = subst (Among (take (i + 1) events)) (sym items) (subst (λ (few : List EventId). Among few (list ++ id ∷ [])) (sym prefix)
                (among_more n whole instance events c.requires.once i zero low list kept.problems kept.once id is problem));
            once = subst AreOnce (sym items) (once_among n whole instance events c.requires.once i zero low list kept.problems kept.once id is problem);
            few = subst (λ (ids : List NodeId). length ids ≤ i + 1) (sym items) (let long = length_push list id in let few = kept.few in omega arith);
            capacity = w.push_reserved.ensures.capacity ∙ kept.capacity;
          }
      | in_default w ↦ subst After (sym w.list-is) record {
        problems = subst (λ (few : List EventId). Among few list) (sym prefix)
            (among_past n whole instance events c.requires.once i zero low list kept.problems kept.once w.in_default.ensures.none);
        once = kept.once;
        few = (let few = kept.few in omega arith);
        capacity = kept.capacity;
      }
    ]

pub returns-clause-problems : goal.returns-clause-problems
returns-clause-problems c =
    let events = c.args.events.now in
    let all = take_whole events c.loop-event.event-index c.loop-event-test.false in
    subst (λ (few : List EventId). (id : NodeId) → Contains c.loop-event.list.items id ↔ IsProblemAmong c.args.topology.now c.args.instance few id) all c.loop-event.invariant.problems
