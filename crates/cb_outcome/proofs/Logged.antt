-- What is printed of a whole log names the causes.
use Rattle.std.proofs.Common.{ℕ, List, take, sym, subst, arith}
use Rattle.std.proofs.lemmas.List.{length-map}
use Rattle.std.specs.List.{Contains}
use Rattle.cb_coding.specs.declared.group.Group.{Group}
use Rattle.cb_io.specs.Outside.{SinkReport, WritesAll}
use Rattle.cb_network.specs.Regular.{IsRegular}
use Rattle.cb_log.specs.declared.event.Event.{Event}
use Rattle.cb_log.specs.Entries.{records_of}
use Rattle.cb_log.specs.Whole.{OneForEach}
use Rattle.cb_log.proofs.Alone.{named_alone}
use Rattle.cb_log.proofs.OneForEach.{one_for_each}
use Rattle.cb_log.proofs.ThinEvents.{thins_are_close}
use Rattle.cb_alarm.proofs.QuietLines.{log_alone}
use Rattle.cb_outcome.specs.LogJobs.{Watch, WholeTells}
use Rattle.cb_outcome.specs.Prints.{PrintsEvents}
use Rattle.cb_outcome.proofs.Apart.{AllApart}
use Rattle.cb_outcome.proofs.Finding.{lists_nearest}

pub prints_events : (watch : Watch) (log due : List ℕ) (out out' : SinkReport) → IsRegular watch.from.model → AllApart watch.from watch.mode
    → WholeTells watch log due → WritesAll out out' due → PrintsEvents watch log out out'
prints_events watch log due out out' regular apart (events, gives, due_is) written = record {
  events = events;
  gives = gives;
  printed = subst (λ (l : List ℕ). WritesAll out out' l) due_is written;
  one_each = subst (λ (es : List Event). OneForEach watch.from watch.mode watch.window (records_of gives.entries) es) (sym gives.events_are)
      (one_for_each watch.from watch.mode watch.window gives.entries gives.body gives.ends gives.body_is gives.ends_are);
  lists = λ c event e.
      let found = e.is.found in
      let all = length-map e.basis.groups (λ (g : Group). g.code) in
      lists_nearest e.basis.columns e.basis.groups e.basis.kept c.nodes e.is.finding found.found found.radius_of
      (λ i lt near. named_alone e.network watch.mode e.basis c event e.is i (found.radius_of i)
      (apart (take e.place (records_of gives.entries)) e.network e.is_network e.basis) lt (found.radii i (omega (arith, lt, all))) near);
  thin = λ event has thin.
      thins_are_close watch.from watch.mode watch.window gives.entries gives.body gives.ends gives.body_is gives.ends_are event
      (subst (λ (es : List Event). Contains es event) gives.events_are has) thin;
  alone = λ source. log_alone source watch.from watch.mode watch.window log events regular gives;
}
