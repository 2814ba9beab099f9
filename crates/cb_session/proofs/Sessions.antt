-- What a session shows of its parts.
use Rattle.std.proofs.Common.{◌≡◌, List, Option, Result, Ok, Err, sym, subst}
use Rattle.std.specs.Prelude.{IfOk, OnOk}
use Rattle.std.specs.List.{All}
use Rattle.cb_model.specs.declared.wish.Wish.{Wish}
use Rattle.cb_cache.specs.Cached.{Cached}
use Rattle.cb_network.specs.Topology.{Topology}
use Rattle.cb_network.specs.Regular.{IsRegular}
use Rattle.cb_log.specs.declared.closed.Closed.{Closed}
use Rattle.cb_log.specs.declared.event.Event.{Event}
use Rattle.cb_log.specs.Kept.{Kept}
use Rattle.cb_session.specs.declared.basis.Ready.{Ready}
use Rattle.cb_session.specs.declared.course.Course.{Course}
use Rattle.cb_session.specs.declared.course.Course.TheVariants.{Wanted, Fixed}
use Rattle.cb_session.specs.declared.reported.Reported.{Reported}
use Rattle.cb_session.specs.Course.{wanted_state, fixed_state, mode_by, state_of}
use Rattle.cb_session.specs.Settled.{IsSessionSettled, IsFixed, FitsCourse}
use Rattle.cb_session.specs.Sources.{EndsAlone}
use Rattle.cb_alarm.specs.Lines.{NumberedLine}
use Rattle.cb_session.specs.State.{State, StandsForLines}
use Rattle.cb_session.specs.Steps.{ClosesAtEnd, TellsAtEnd}
use Rattle.cb_session.specs.Reported.{TellsInUse, ReportsWindows}
use Rattle.cb_session.proofs.Alone.{ends_alone}
use Rattle.cb_session.proofs.ByOne.{fixed_ends}
use Rattle.cb_session.proofs.Stepping.{HasRisingNodes, end_rise, end_tells}

pub on_ok_more : {V E : Type 0} (result : Result V E) (P Q : Type 0) → (P → Q) → OnOk result P → OnOk result Q
on_ok_more (Ok x) P Q f h = f h
on_ok_more (Err e) P Q f h = tt

module _ (cache : Cached) (windows : Kept) (course : Course) (s : State) (view : state_of cache windows course ≡ s)
    (fits : FitsCourse cache.graph windows course) where
  module _ (wish : Wish) (ready : Option Ready) (is : course ≡ Wanted wish ready) where
    pub wanted_view : wanted_state cache wish windows ready ≡ s
    wanted_view = subst (λ (c : Course). state_of cache windows c ≡ s) is view

    pub wanted_fits : IsSessionSettled cache.graph wish windows ready
    wanted_fits = subst (FitsCourse cache.graph windows) is fits

    closes_wanted : (closing : List Closed) → ClosesAtEnd s.windows closing → ClosesAtEnd windows closing
    closes_wanted closing closes = subst (λ (x : State). ClosesAtEnd x.windows closing) (sym wanted_view) closes

    pub wanted_rise : (closing : List Closed) → ClosesAtEnd s.windows closing → All HasRisingNodes closing
    wanted_rise closing closes = end_rise windows closing wanted_fits.over (closes_wanted closing closes)

    pub wanted_tells : (closing : List Closed) → ClosesAtEnd s.windows closing → (reported : Reported) → ReportsWindows cache.graph wish ready closing reported → TellsAtEnd s reported.events
    wanted_tells closing closes reported tells =
        subst (λ (x : State). TellsAtEnd x reported.events) wanted_view
        (λ opening before stands. end_tells cache wish windows ready closing reported (closes_wanted closing closes) tells opening before stands)

  module _ (ready : Ready) (is : course ≡ Fixed ready) where
    pub fixed_view : fixed_state cache windows ready ≡ s
    fixed_view = subst (λ (c : Course). state_of cache windows c ≡ s) is view

    pub fixed_fits : IsFixed cache.graph windows ready
    fixed_fits = subst (FitsCourse cache.graph windows) is fits

    closes_fixed : (closing : List Closed) → ClosesAtEnd s.windows closing → ClosesAtEnd windows closing
    closes_fixed closing closes = subst (λ (x : State). ClosesAtEnd x.windows closing) (sym fixed_view) closes

    pub fixed_rise : (closing : List Closed) → ClosesAtEnd s.windows closing → All HasRisingNodes closing
    fixed_rise closing closes = end_rise windows closing fixed_fits.over (closes_fixed closing closes)

    pub fixed_tells_end : (closing : List Closed) → ClosesAtEnd s.windows closing → (events : List Event)
        → TellsInUse cache.graph (mode_by ready) ready closing events → TellsAtEnd s events
    fixed_tells_end closing closes events tells =
        subst (λ (x : State). TellsAtEnd x events) fixed_view (fixed_ends cache ready windows closing (closes_fixed closing closes) events tells)

-- what is reported at the end stands alone
pub if_ends_alone : {E : Type 0} (s : State) (result : Result (List Event) E) → IfOk result (TellsAtEnd s)
    → IfOk result (λ events. (opening : Topology) (lines : List NumberedLine) → IsRegular opening.model → StandsForLines s opening lines
    → EndsAlone opening s.mode s.windows.length lines events)
if_ends_alone s (Ok events) tells = λ opening lines regular stands.
    ends_alone opening s.mode s.windows.length lines stands.entries stands.come regular events (tells opening stands.entries stands.stands)
if_ends_alone s (Err e) tells = tt
