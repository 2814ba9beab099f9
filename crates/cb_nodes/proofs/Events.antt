-- The list of the events of a class.
use Rattle.std.proofs.Common.{◌≡◌, ℕ, ◌+◌, ◌<◌, ◌≤◌, List, length, map, sym, ap, subst, ◌∙◌, arith}
use Rattle.std.specs.Cmp.{nat_cmp_is}
use Rattle.std.specs.Ordering.{nat_cmp}
use Rattle.std.specs.declared.cmp.Ordering.TheVariants.{Less}
use Rattle.std.proofs.lemmas.List.{length-map, get_or-map}
use Rattle.cb_model.specs.declared.id.ClassId.{ClassId}
use Rattle.cb_model.specs.declared.id.EventId.{EventId}
use Rattle.cb_model.specs.declared.tables.Tables.{Tables}
use Rattle.cb_model.specs.Order.{Rises}
use Rattle.cb_model.specs.Views.{AreEventsOf}
use Rattle.cb_model.proofs.Rising.{same_rising, nat_strict}
use Rattle.cb_instances.specs.Net.{Once}

module _ (tables : Tables) (class : ClassId) where
  abbrev numbers : List EventId → List ℕ
  numbers events = map (λ (e : EventId). e.0) events

  -- no event stands twice
  pub events_once : (events : List EventId) → AreEventsOf tables class events → Once events
  events_once events are = λ i j d below within same.
      let first = get_or-map (λ (e : EventId). e.0) events i d d.0 (omega arith) in
      let second = get_or-map (λ (e : EventId). e.0) events j d d.0 within in
      let size = length-map events (λ (e : EventId). e.0) in
      let rise = are.rising i j d.0 below (omega arith) in
      let number = ap (λ (e : EventId). e.0) same in
      absurd (omega arith)

  rises : (events : List EventId) → AreEventsOf tables class events → Rises nat_cmp (numbers events)
  rises events are = λ i j d below within. sym (nat_cmp_is _ _ Less (are.rising i j d below within))

  -- this is how many there are
  pub one_count : (xs ys : List EventId) → AreEventsOf tables class xs → AreEventsOf tables class ys → length xs ≡ length ys
  one_count xs ys are_x are_y =
      let same = same_rising nat_cmp nat_strict (numbers xs) (numbers ys) (rises xs are_x) (rises ys are_y)
      (λ n c. (are_y.exactly n).1 ((are_x.exactly n).0 c)) (λ n c. (are_x.exactly n).1 ((are_y.exactly n).0 c)) in
      sym (length-map xs (λ (e : EventId). e.0)) ∙ (ap (length {A = ℕ}) same ∙ length-map ys (λ (e : EventId). e.0))
