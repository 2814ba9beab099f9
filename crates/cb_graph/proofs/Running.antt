-- Links by one relation, followed from all that they lead to.
use Rattle.std.proofs.Common.{◌≡◌, ◌↔◌, ◌⊎◌, inl, inr, ℕ, ◌+◌, ◌<◌, ◌≤◌, Bool, true, false, List, [], ◌∷◌, ◌++◌, length, get_or, Some, refl, sym, ap, subst, ◌∙◌, arith}
use Rattle.std.specs.Prelude.{slice_get}
use Rattle.std.specs.List.{Contains}
use Rattle.std.proofs.lemmas.Bool.{cases_lt}
use Rattle.std.proofs.lemmas.Option.{slice_get_within, slice_get-get_or}
use Rattle.cb_model.specs.declared.id.RelId.{RelId}
use Rattle.cb_model.proofs.Numbers.{contains_at}
use Rattle.cb_network.specs.Causes.{Ahead}
use Rattle.cb_network.proofs.Runs.{along, ahead_along, one_more}
use Rattle.cb_instances.specs.declared.id.InstanceId.{InstanceId}
use Rattle.cb_instances.specs.Net.{Net, IsLiveInstance, LinkAt}
use Rattle.cb_successors.specs.Rows.{Has}
use Rattle.cb_graph.specs.Instances.{IsListed, IsPrefix, RowGains, IsNumber}
use Rattle.cb_graph.specs.Walks.{HasLive, RunsAt, IsRunTo, instance}

-- a run of links from a live instance ends at a live one
pub run_live : (n : Net) (r : RelId) (plus : Bool) (i j : InstanceId) → IsLiveInstance n i → RunsAt n r plus i j → IsLiveInstance n j
run_live n r plus i j live run = ahead_along (λ x y. LinkAt n x r y) (IsLiveInstance n) (λ x y _ link. (link.to, link.to_is)) plus i j live run

pub runs_live : (n : Net) (r : RelId) (plus : Bool) (row : List Bool) → HasLive n row → (k : ℕ) → IsRunTo n r plus row k → IsLiveInstance n (instance k)
runs_live n r plus row live k (i, has, run) = run_live n r plus i (instance k) (live i has) run

-- an item of a list has a position in it
pub stands_at : {X : Type 0} (xs : List X) (x : X) → Contains xs x → (place : ℕ) × (slice_get xs place ≡ Some x)
stands_at xs x (place, lt, is) = (place, slice_get-get_or xs place x lt ∙ ap Some is)

-- the links of the first instances of the list have been followed, and each of its instances was there before or is led to
pub record IsRunning (n : Net) (r : RelId) (old : List Bool) (place : ℕ) (list : List InstanceId) (row : List Bool) : Type 0 where
  pub listed : IsListed list row
  pub len : length row ≡ length old
  pub within : place ≤ length list
  pub had : (k : ℕ) → Has old k → Has row k
  pub from : (k : ℕ) → Has row k → IsRunTo n r true old k
  pub done : (p : ℕ) (x : InstanceId) → p < place → slice_get list p ≡ Some x → (j : InstanceId) → LinkAt n x r j → Has row j.0

module _ (n : Net) (r : RelId) (old : List Bool) where
  abbrev Step : InstanceId → InstanceId → Type 0
  Step x y = LinkAt n x r y

  pub running_begun : (list : List InstanceId) → IsListed list old → IsRunning n r old 0 list old
  running_begun list listed = record {
    listed = listed;
    len = refl;
    within = omega arith;
    had = λ k h. h;
    from = λ k h. (instance k, h, ([], refl));
    done = λ p x lt. absurd (omega (arith, lt));
  }

  module _ (place : ℕ) (list : List InstanceId) (row : List Bool) (now : IsRunning n r old place list row) where
    pub running_live : HasLive n old → HasLive n row
    running_live live id h = runs_live n r true old live id.0 (now.from id.0 h)

    -- with the links of one more
    pub running_more : (x : InstanceId) → slice_get list place ≡ Some x → (links : List InstanceId) → ((j : InstanceId) → Contains links j ↔ LinkAt n x r j)
        → (list' : List InstanceId) (row' : List Bool) → IsListed list' row' → length row' ≡ length row → RowGains row row' links IsNumber → IsPrefix list list'
        → IsRunning n r old (place + 1) list' row'
    running_more x here links are list' row' listed len gains prefix = record {
      listed = listed;
      len = len ∙ now.len;
      within = let lt = slice_get_within list' place x (prefix place x here) in omega arith;
      had = λ k h. (gains k).1 (inl (now.had k h));
      from = λ k h. elim ((gains k).0 h) [
        | inl g ↦ now.from k g
        | inr g ↦
            let link : LinkAt n x r g.0 = (are g.0).0 g.1 in
            let before = now.from x.0 ((now.listed.each x).0 (contains_at list place x here)) in
            subst (IsRunTo n r true old) g.2 (before.0, before.1, (before.2.0 ++ g.0 ∷ [], one_more Step before.0 before.2.0 x g.0 before.2.1 link))
      ];
      done = λ p y lt at j link. elim (cases_lt p place) [
        | inl early ↦
            let there = slice_get-get_or list p x (let within = now.within in omega arith) in
            let same : Some (get_or list p x) ≡ Some y = sym (prefix p (get_or list p x) there) ∙ at in
            (gains j.0).1 (inl (now.done p y early (there ∙ same) j link))
        | inr late ↦
            let last : p ≡ place = omega arith in
            let at' : slice_get list' place ≡ Some y = subst (λ q. slice_get list' q ≡ Some y) last at in
            let same : Some x ≡ Some y = sym (prefix place x here) ∙ at' in
            let is : y ≡ x = cc in
            (gains j.0).1 (inr (j, (are j).1 (subst (λ z. LinkAt n z r j) is link), refl))
      ];
    }

    -- once the links of all are followed, the row has all that they lead to
    pub running_done : length list ≤ place → (k : ℕ) → Has row k ↔ IsRunTo n r true old k
    running_done all k = (
      now.from k,
      λ (i, has, run). along Step (λ z. Has row z.0) next i run.0 (instance k) (now.had i.0 has) run.1,
    )
      where
        next : (x y : InstanceId) → Has row x.0 → Step x y → Has row y.0
        next x y has link =
            let at = stands_at list x ((now.listed.each x).1 has) in
            let lt = slice_get_within list at.0 x at.1 in
            now.done at.0 x (omega arith) at.1 y link

-- without the plus a row has what it had
pub no_run : (n : Net) (r : RelId) (row : List Bool) (k : ℕ) → Has row k ↔ IsRunTo n r false row k
no_run n r row k = (
  λ h. (instance k, h, refl),
  λ (i, has, same). subst (λ (z : InstanceId). Has row z.0) same has,
)
