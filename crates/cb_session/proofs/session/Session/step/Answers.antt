use Rattle.std.proofs.Common.{◌≡◌, ◌∙◌, ◌++◌, ◌∷◌, [], List, OnOk, OnErr, IfOk, refl, sym, ap, subst}
use Rattle.cb_alarm.specs.Lines.{ComesTo}
use Rattle.cb_log.specs.declared.event.Event.{Event}
use Rattle.cb_log.specs.declared.event.Event.TheVariants.{Skipped}
use Rattle.cb_log.specs.Entries.{said, skipped, blank}
use Rattle.cb_session.specs.declared.entry.Taken.{Taken}
use Rattle.cb_session.specs.Counted.{CountsEntry}
use Rattle.cb_session.specs.Numbers.{KeepsNumbers}
use Rattle.cb_session.specs.State.{State, log_line_of, network_of}
use Rattle.cb_session.specs.Steps.{EntryTells, EntryStands}
use Rattle.cb_session.specs.Taken.{entry_of_taken}
use Rattle.cb_session.proofs.Counting.{none_counted, line_counted, if_line_counted}
use Rattle.cb_session.proofs.Stepping.{aside_stands, line_tells, line_stands, line_alone, lines_stand, if_line_tells, if_line_stands, if_line_alone, if_lines_stand}
use Rattle.cb_session.proofs.session.Session.step.Goals as goal

pub returns-in-Blank-clause-stands : goal.returns-in-Blank-clause-stands
returns-in-Blank-clause-stands g c =
    let line = log_line_of c.args.line in
    let comes : ComesTo line blank = subst (λ (taken : Taken). ComesTo line (entry_of_taken taken)) c.in-Blank.is c.in_ok-entry.ensures.comes in
    line_stands line blank comes c.args.self.now c.entry.new.self
    (subst (λ (s : State). EntryStands c.args.self.now s blank) (sym c.entry.ensures.same) (aside_stands c.args.self.now blank refl))

pub returns-in_ok-push-in-Skipped-clause-gives : goal.returns-in_ok-push-in-Skipped-clause-gives
returns-in_ok-push-in-Skipped-clause-gives g c =
    let line = log_line_of c.args.line in
    let number = c.in-Skipped.number in
    let why = c.in-Skipped.why in
    let comes : ComesTo line (skipped number why) = subst (λ (taken : Taken). ComesTo line (entry_of_taken taken)) c.in-Skipped.is c.in_ok-entry.ensures.comes in
    let pushed = c.in_ok-push-in-Skipped.ensures.ok in
    let one : c.push.new.self ≡ Skipped number why ∷ [] =
    subst (λ (es : List Event). c.push.new.self ≡ es ++ Skipped number why ∷ []) c.new-events.ensures pushed in
    line_tells line (skipped number why) comes c.args.self.now c.push.new.self (λ opening before regular stands. one)

pub returns-in_ok-push-in-Skipped-clause-stands : goal.returns-in_ok-push-in-Skipped-clause-stands
returns-in_ok-push-in-Skipped-clause-stands g c =
    let line = log_line_of c.args.line in
    let entry = skipped c.in-Skipped.number c.in-Skipped.why in
    let comes : ComesTo line entry = subst (λ (taken : Taken). ComesTo line (entry_of_taken taken)) c.in-Skipped.is c.in_ok-entry.ensures.comes in
    line_stands line entry comes c.args.self.now c.entry.new.self
    (subst (λ (s : State). EntryStands c.args.self.now s entry) (sym c.entry.ensures.same) (aside_stands c.args.self.now entry refl))

pub returns-in-Said-clause-gives : goal.returns-in-Said-clause-gives
returns-in-Said-clause-gives g c =
    let line = log_line_of c.args.line in
    let entry = said c.in-Said.number c.in-Said.record in
    let comes : ComesTo line entry = subst (λ (taken : Taken). ComesTo line (entry_of_taken taken)) c.in-Said.is c.in_ok-entry.ensures.comes in
    if_line_tells line entry comes c.args.self.now c.go_on.result
    (subst (λ (s : State). IfOk c.go_on.result (EntryTells s entry)) c.entry.ensures.same c.go_on.ensures.gives)

pub returns-in-Said-clause-stands : goal.returns-in-Said-clause-stands
returns-in-Said-clause-stands g c =
    let line = log_line_of c.args.line in
    let entry = said c.in-Said.number c.in-Said.record in
    let comes : ComesTo line entry = subst (λ (taken : Taken). ComesTo line (entry_of_taken taken)) c.in-Said.is c.in_ok-entry.ensures.comes in
    if_line_stands line entry comes c.args.self.now c.go_on.new.self c.go_on.result
    (subst (λ (s : State). OnOk c.go_on.result (EntryStands s c.go_on.new.self entry)) c.entry.ensures.same c.go_on.ensures.stands)

pub returns-in-Blank-clause-alone : goal.returns-in-Blank-clause-alone
returns-in-Blank-clause-alone g c =
    let line = log_line_of c.args.line in
    let comes : ComesTo line blank = subst (λ (taken : Taken). ComesTo line (entry_of_taken taken)) c.in-Blank.is c.in_ok-entry.ensures.comes in
    line_alone line blank comes c.args.self.now c.new.result (line_tells line blank comes c.args.self.now c.new.result (λ opening before regular stands. c.new.ensures))

pub returns-in_ok-push-in-Skipped-clause-alone : goal.returns-in_ok-push-in-Skipped-clause-alone
returns-in_ok-push-in-Skipped-clause-alone g c =
    let line = log_line_of c.args.line in
    let entry = skipped c.in-Skipped.number c.in-Skipped.why in
    let comes : ComesTo line entry = subst (λ (taken : Taken). ComesTo line (entry_of_taken taken)) c.in-Skipped.is c.in_ok-entry.ensures.comes in
    line_alone line entry comes c.args.self.now c.push.new.self (returns-in_ok-push-in-Skipped-clause-gives g c)

pub returns-in-Said-clause-alone : goal.returns-in-Said-clause-alone
returns-in-Said-clause-alone g c =
    let line = log_line_of c.args.line in
    let entry = said c.in-Said.number c.in-Said.record in
    let comes : ComesTo line entry = subst (λ (taken : Taken). ComesTo line (entry_of_taken taken)) c.in-Said.is c.in_ok-entry.ensures.comes in
    if_line_alone line entry comes c.args.self.now c.go_on.result (returns-in-Said-clause-gives g c)

pub returns-in-Blank-clause-lines : goal.returns-in-Blank-clause-lines
returns-in-Blank-clause-lines g c =
    let line = log_line_of c.args.line in
    let comes : ComesTo line blank = subst (λ (taken : Taken). ComesTo line (entry_of_taken taken)) c.in-Blank.is c.in_ok-entry.ensures.comes in
    lines_stand line blank comes c.args.self.now c.entry.new.self
    (subst (λ (s : State). EntryStands c.args.self.now s blank) (sym c.entry.ensures.same) (aside_stands c.args.self.now blank refl))

pub returns-in_ok-push-in-Skipped-clause-lines : goal.returns-in_ok-push-in-Skipped-clause-lines
returns-in_ok-push-in-Skipped-clause-lines g c =
    let line = log_line_of c.args.line in
    let entry = skipped c.in-Skipped.number c.in-Skipped.why in
    let comes : ComesTo line entry = subst (λ (taken : Taken). ComesTo line (entry_of_taken taken)) c.in-Skipped.is c.in_ok-entry.ensures.comes in
    lines_stand line entry comes c.args.self.now c.entry.new.self
    (subst (λ (s : State). EntryStands c.args.self.now s entry) (sym c.entry.ensures.same) (aside_stands c.args.self.now entry refl))

pub returns-in-Said-clause-lines : goal.returns-in-Said-clause-lines
returns-in-Said-clause-lines g c =
    let line = log_line_of c.args.line in
    let entry = said c.in-Said.number c.in-Said.record in
    let comes : ComesTo line entry = subst (λ (taken : Taken). ComesTo line (entry_of_taken taken)) c.in-Said.is c.in_ok-entry.ensures.comes in
    if_lines_stand line entry comes c.args.self.now c.go_on.new.self c.go_on.result
    (subst (λ (s : State). OnOk c.go_on.result (EntryStands s c.go_on.new.self entry)) c.entry.ensures.same c.go_on.ensures.stands)

pub returns-in-Blank-clause-cost : goal.returns-in-Blank-clause-cost
returns-in-Blank-clause-cost g c =
    let line = log_line_of c.args.line in
    let comes : ComesTo line blank = subst (λ (taken : Taken). ComesTo line (entry_of_taken taken)) c.in-Blank.is c.in_ok-entry.ensures.comes in
    let s = c.args.self.now in
    line_counted line blank comes s.mode (network_of s) c.args.steps.now c.args.steps.now (none_counted s.mode (network_of s) blank c.args.steps.now refl)

pub returns-in_ok-push-in-Skipped-clause-cost : goal.returns-in_ok-push-in-Skipped-clause-cost
returns-in_ok-push-in-Skipped-clause-cost g c =
    let line = log_line_of c.args.line in
    let entry = skipped c.in-Skipped.number c.in-Skipped.why in
    let comes : ComesTo line entry = subst (λ (taken : Taken). ComesTo line (entry_of_taken taken)) c.in-Skipped.is c.in_ok-entry.ensures.comes in
    let s = c.args.self.now in
    line_counted line entry comes s.mode (network_of s) c.args.steps.now c.args.steps.now (none_counted s.mode (network_of s) entry c.args.steps.now refl)

pub returns-in-Said-clause-cost : goal.returns-in-Said-clause-cost
returns-in-Said-clause-cost g c =
    let line = log_line_of c.args.line in
    let entry = said c.in-Said.number c.in-Said.record in
    let comes : ComesTo line entry = subst (λ (taken : Taken). ComesTo line (entry_of_taken taken)) c.in-Said.is c.in_ok-entry.ensures.comes in
    let s = c.args.self.now in
    if_line_counted c.go_on.result line entry comes s.mode (network_of s) c.args.steps.now c.go_on.new.steps
    (subst (λ (x : State). OnOk c.go_on.result (CountsEntry x.mode (network_of x) entry c.args.steps.now c.go_on.new.steps)) c.entry.ensures.same
    c.go_on.ensures.cost)

pub returns-in-Said-clause-same : goal.returns-in-Said-clause-same
returns-in-Said-clause-same g c = subst (λ (s : State). OnErr c.go_on.result (c.go_on.new.self ≡ s)) c.entry.ensures.same c.go_on.ensures.same

pub returns-in-Said-clause-numbers : goal.returns-in-Said-clause-numbers
returns-in-Said-clause-numbers g c =
    subst (λ (s : State). OnOk c.go_on.result (KeepsNumbers s.cache.graph c.go_on.new.self.cache.graph)) c.entry.ensures.same c.go_on.ensures.numbers

pub returns-in-Said-clause-mode : goal.returns-in-Said-clause-mode
returns-in-Said-clause-mode g c = c.go_on.ensures.mode ∙ ap (λ (s : State). s.mode) c.entry.ensures.same

pub returns-in-Said-clause-length : goal.returns-in-Said-clause-length
returns-in-Said-clause-length g c = c.go_on.ensures.length ∙ ap (λ (s : State). s.windows.length) c.entry.ensures.same

pub returns-in-Said-clause-fixed : goal.returns-in-Said-clause-fixed
returns-in-Said-clause-fixed g c = λ given met is. c.go_on.ensures.fixed given met (ap (λ (s : State). s.mode) c.entry.ensures.same ∙ is)
