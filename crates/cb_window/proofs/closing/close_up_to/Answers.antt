use Rattle.std.proofs.Common.{◌≡◌, List, ◌∷◌, sym, subst, rules, IsTrue}
use Rattle.std.specs.BTreeSet.{contains}
use Rattle.cb_log.specs.declared.closed.Closed.{Closed}
use Rattle.cb_window.specs.Kept.{turn_cmp}
use Rattle.std.specs.List.{Contains}
use Rattle.std.proofs.lemmas.List.Elements.{All-contains}
use Rattle.cb_window.specs.declared.turn.Turn.{Turn}
use Rattle.cb_window.proofs.Telling.{ReportedSoFar, in_middle, whole, reported_step, reported_stop}
use Rattle.cb_window.proofs.closing.close_up_to.Goals as goal

pub returns-then-last-turn : goal.returns-then-last-turn
returns-then-last-turn c =
    let is : c.loop-turn.turn-iterator ≡ c.in-Some.turn.now ∷ c.next.new.self = search rules in
    reported_stop c.args.live.now c.args.queue.now c.args.last c.args.time c.loop-turn.closing c.loop-turn.turn-iterator c.in-Some.turn.now c.next.new.self c.loop-turn.invariant is c.if-last-turn.true

pub closing_of-requires : goal.closing_of-requires
closing_of-requires c =
    let is : c.loop-turn.turn-iterator ≡ c.in-Some.turn.now ∷ c.next.new.self = search rules in
    let all = whole c.args.live.now c.args.queue.now c.args.last c.args.time c.loop-turn.closing c.loop-turn.turn-iterator c.in-Some.turn.now c.next.new.self c.loop-turn.invariant is in
    let has : Contains c.args.queue.now.keys c.in-Some.turn.now =
    subst (λ (ts : List Turn). Contains ts c.in-Some.turn.now) (sym all) (in_middle c.loop-turn.invariant.prefix c.in-Some.turn.now c.next.new.self) in
    record { live = (c.requires.queued c.in-Some.turn.now).0 (All-contains (λ (t : Turn). IsTrue (contains turn_cmp c.args.queue.now t)) c.args.queue.now.keys c.in-Some.turn.now c.iter-turn-items.ensures.found has) }

pub loop-turn-preserved : goal.loop-turn-preserved
loop-turn-preserved c =
    let is : c.loop-turn.turn-iterator ≡ c.in-Some.turn.now ∷ c.next.new.self = search rules in
    subst (λ (closing : List Closed). ReportedSoFar c.args.live.now c.args.queue.now c.args.last c.args.time closing c.next.new.self) (sym c.in_ok-push.ensures.ok)
    (reported_step c.args.live.now c.args.queue.now c.args.last c.args.time c.loop-turn.closing c.loop-turn.turn-iterator c.in-Some.turn.now c.next.new.self c.loop-turn.invariant is
    c.in_ok-closing_of.field-0 c.if-last-turn.false c.in_ok-closing_of.ensures)
