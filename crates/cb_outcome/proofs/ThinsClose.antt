-- Each thin event, before a log's end and of a log that is summed up, names two groups that are closer than wanted.
use Rattle.std.proofs.Common.{ℕ, List, subst}
use Rattle.std.specs.Prelude.{IsTrue}
use Rattle.std.specs.List.{Contains}
use Rattle.cb_log.specs.declared.event.Event.{Event}
use Rattle.cb_log.specs.declared.record.Record.{Record}
use Rattle.cb_log.specs.Basis.{Mode}
use Rattle.cb_log.specs.Entries.{records_of}
use Rattle.cb_log.specs.Whole.{is_thin, TellsThin}
use Rattle.cb_log.proofs.ThinEvents.{thins_are_close, thins_so_far_are_close}
use Rattle.cb_network.specs.Topology.{Topology}
use Rattle.cb_report.specs.declared.summary.Summary.{Summary}
use Rattle.cb_outcome.specs.Grown.{SumsUpLog}
use Rattle.cb_outcome.specs.LogJobs.{Watch, PrefixTells}

pub prefix_thins_are_close : (watch : Watch) (prefix out : List ℕ) (tells : PrefixTells watch prefix out) (event : Event) → Contains tells.0 event
    → IsTrue (is_thin event) → (records : List Record) × TellsThin watch.from watch.mode watch.window records event
prefix_thins_are_close watch prefix out (events, (entries, come, give), is) event has thin =
    (records_of entries, thins_so_far_are_close watch.from watch.mode watch.window entries events give event has thin)

pub summed_thins_are_close : (t : Topology) (mode : Mode) (w : ℕ) (log : List ℕ) (summary : Summary) (sums : SumsUpLog t mode w log summary) (event : Event)
    → Contains sums.events event → IsTrue (is_thin event) → TellsThin t mode w (records_of sums.gives.entries) event
summed_thins_are_close t mode w log summary sums event has thin =
    let gives = sums.gives in
    thins_are_close t mode w gives.entries gives.body gives.ends gives.body_is gives.ends_are event
    (subst (λ (es : List Event). Contains es event) gives.events_are has) thin
