-- Runs of steps.
use Rattle.std.proofs.Common.{◌⊎◌, List, [], ◌∷◌, ◌++◌, Bool, true, false, refl, sym, subst, inl, inr}
use Rattle.cb_network.specs.Causes.{Run, Ahead}
use Rattle.cb_network.specs.Laws.{Linked}

-- a run and another one that begins where the first one ends are one run
pub joined : {X : Type 0} (S : X → X → Type 0) (a : X) (xs : List X) (b : X) (ys : List X) (c : X) → Run S a xs b → Run S b ys c → Run S a (xs ++ ys) c
joined S a [] b ys c same rest = subst (λ x. Run S x ys c) (sym same) rest
joined S a (x ∷ xs) b ys c run rest = (run.0, joined S x xs b ys c run.1 rest)

-- a run, and one step more
pub one_more : {X : Type 0} (S : X → X → Type 0) (a : X) (xs : List X) (b c : X) → Run S a xs b → S b c → Run S a (xs ++ c ∷ []) c
one_more S a xs b c run step = joined S a xs b (c ∷ []) c run (step, refl)

-- what holds where a run begins, and is kept by each step, holds where it ends
pub along : {X : Type 0} (S : X → X → Type 0) (P : X → Type 0) → ((x y : X) → P x → S x y → P y) → (a : X) (xs : List X) (b : X) → P a → Run S a xs b → P b
along S P next a [] b p same = subst P same p
along S P next a (x ∷ xs) b p run = along S P next x xs b (next a x p run.0) run.1

pub ahead_along : {X : Type 0} (S : X → X → Type 0) (P : X → Type 0) → ((x y : X) → P x → S x y → P y) → (plus : Bool) (a b : X) → P a → Ahead S plus a b → P b
ahead_along S P next true a b p ahead = along S P next a ahead.0 b p ahead.1
ahead_along S P next false a b p same = subst P same p

-- each step is one of the other kind
pub other_run : {X : Type 0} (S T : X → X → Type 0) → ((x y : X) → S x y → T x y) → (a : X) (xs : List X) (b : X) → Run S a xs b → Run T a xs b
other_run S T other a [] b same = same
other_run S T other a (x ∷ xs) b run = (other a x run.0, other_run S T other x xs b run.1)

pub other_ahead : {X : Type 0} (S T : X → X → Type 0) → ((x y : X) → S x y → T x y) → (plus : Bool) (a b : X) → Ahead S plus a b → Ahead T plus a b
other_ahead S T other true a b ahead = (ahead.0, other_run S T other a ahead.0 b ahead.1)
other_ahead S T other false a b same = same

-- the run in the opposite direction, where each step has one back
pub back_run : {X : Type 0} (S T : X → X → Type 0) → ((x y : X) → S x y → T y x) → (a : X) (xs : List X) (b : X) → Run S a xs b → (ys : List X) × Run T b ys a
back_run S T back a [] b same = ([], sym same)
back_run S T back a (x ∷ xs) b run =
    let rest = back_run S T back x xs b run.1 in
    (rest.0 ++ a ∷ [], one_more T b rest.0 x a rest.1 (back a x run.0))

-- each step of the first kind is one of the second or of the third, so a run is one of the second kind throughout, or steps of the second kind lead to one of the third
module _ {X : Type 0} (S T C : X → X → Type 0) (either : (x y : X) → S x y → T x y ⊎ C x y) where
  abbrev Comes : Bool → X → Type 0
  Comes plus a = (last : X) × Ahead T plus a last × (next : X) × C last next

  run_or : (a : X) (xs : List X) (b : X) → Run S a xs b → ((ys : List X) × Run T a ys b) ⊎ Comes true a
  run_or a [] b same = inl ([], same)
  run_or a (x ∷ xs) b run = elim (either a x run.0) [
    | inr comes ↦ inr (a, ([], refl), x, comes)
    | inl step ↦ elim (run_or x xs b run.1) [
      | inl rest ↦ inl (x ∷ rest.0, (step, rest.1))
      | inr later ↦ inr (later.0, (x ∷ later.1.0, (step, later.1.1)), later.2, later.3)
    ]
  ]

  pub ahead_or : (plus : Bool) (a b : X) → Ahead S plus a b → Ahead T plus a b ⊎ Comes plus a
  ahead_or true a b ahead = run_or a ahead.0 b ahead.1
  ahead_or false a b same = inl same

pub back_ahead : {X : Type 0} (S T : X → X → Type 0) → ((x y : X) → S x y → T y x) → (plus : Bool) (a b : X) → Ahead S plus a b → Ahead T plus b a
back_ahead S T back true a b ahead = back_run S T back a ahead.0 b ahead.1
back_ahead S T back false a b same = sym same

-- one step and then a run are a run and then one step
pub last_of : {X : Type 0} (S : X → X → Type 0) (plus : Bool) (a x b : X) → S a x → Ahead S plus x b → (last : X) × Ahead S plus a last × S last b
last_of S false a x b step same = (a, refl, subst (λ z. S a z) same step)
last_of {X = X} S true a x b step ahead = later a x ahead.0 step ahead.1
  where
    later : (a x : X) (xs : List X) → S a x → Run S x xs b → (last : X) × Ahead S true a last × S last b
    later a x [] step same = (a, ([], refl), subst (λ z. S a z) same step)
    later a x (y ∷ ys) step run = let f = later x y ys run.0 run.1 in (f.0, (x ∷ f.1.0, (step, f.1.1)), f.2)

pub first_of : {X : Type 0} (S : X → X → Type 0) (plus : Bool) (a last b : X) → Ahead S plus a last → S last b → (next : X) × S a next × Ahead S plus next b
first_of S false a last b same step = (b, subst (λ z. S z b) (sym same) step, refl)
first_of {X = X} S true a last b ahead step = elim ahead.0 as (λ xs. Run S a xs last → (next : X) × S a next × Ahead S true next b) [
  | [] ↦ λ same. (b, subst (λ z. S z b) (sym same) step, ([], refl))
  | x ∷ xs ↦ λ run. (x, run.0, (xs ++ b ∷ [], one_more S x xs last b run.1 step))
] ahead.1

-- a run and one step are one step or more
pub linked_of : {X : Type 0} (S : X → X → Type 0) (a : X) (xs : List X) (last b : X) → Run S a xs last → S last b → (between : List X) × Linked S a between b
linked_of S a [] last b same step = ([], subst (λ z. S z b) (sym same) step)
linked_of S a (x ∷ xs) last b run step = let rest = linked_of S x xs last b run.1 step in (x ∷ rest.0, (run.0, rest.1))

pub of_linked : {X : Type 0} (S : X → X → Type 0) (a : X) (between : List X) (b : X) → Linked S a between b → (last : X) × Ahead S true a last × S last b
of_linked S a [] b step = (a, ([], refl), step)
of_linked S a (x ∷ xs) b linked = let rest = of_linked S x xs b linked.1 in (rest.0, (x ∷ rest.1.0, (linked.0, rest.1.1)), rest.2)
