use Rattle.std.proofs.Common.{◌≡◌, List, [], ◌∷◌, sym, subst, rules, IsTrue}
use Rattle.std.specs.BTreeSet.{contains}
use Rattle.std.specs.List.{Contains}
use Rattle.std.proofs.lemmas.List.Elements.{All-contains}
use Rattle.cb_log.specs.declared.closed.Closed.{Closed}
use Rattle.cb_window.specs.Kept.{turn_cmp}
use Rattle.cb_window.specs.declared.turn.Turn.{Turn}
use Rattle.cb_window.proofs.Telling.{ReportedSome, in_middle, whole, some_step, some_end}
use Rattle.cb_window.proofs.closing.close_all.Goals as goal

pub closing_of-requires : goal.closing_of-requires
closing_of-requires c =
    let is : c.loop-turn.turn-iterator ≡ c.in-Some.turn.now ∷ c.next.new.self = search rules in
    let so = c.loop-turn.invariant in
    let all = whole c.args.live.now c.args.queue.now so.0 c.args.time c.loop-turn.closing c.loop-turn.turn-iterator c.in-Some.turn.now c.next.new.self so.1 is in
    let has : Contains c.args.queue.now.keys c.in-Some.turn.now =
    subst (λ (ts : List Turn). Contains ts c.in-Some.turn.now) (sym all) (in_middle so.1.prefix c.in-Some.turn.now c.next.new.self) in
    record { live = (c.requires.queued c.in-Some.turn.now).0 (All-contains (λ (t : Turn). IsTrue (contains turn_cmp c.args.queue.now t)) c.args.queue.now.keys c.in-Some.turn.now c.iter-turn-items.ensures.found has) }

pub loop-turn-preserved : goal.loop-turn-preserved
loop-turn-preserved c =
    let is : c.loop-turn.turn-iterator ≡ c.in-Some.turn.now ∷ c.next.new.self = search rules in
    subst (λ (closing : List Closed). ReportedSome c.args.live.now c.args.queue.now c.args.time closing c.next.new.self) (sym c.in_ok-push.ensures.ok)
    (some_step c.args.live.now c.args.queue.now c.args.time c.loop-turn.closing c.loop-turn.turn-iterator c.in-Some.turn.now c.next.new.self c.loop-turn.invariant is
    c.in_ok-closing_of.field-0 c.in_ok-closing_of.ensures)

pub returns : goal.returns
returns c =
    let is : c.loop-turn.turn-iterator ≡ [] = search rules in
    some_end c.args.live.now c.args.queue.now c.args.time c.loop-turn.closing c.loop-turn.turn-iterator c.loop-turn.invariant is
