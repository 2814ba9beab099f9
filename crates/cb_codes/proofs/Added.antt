-- A problem that is added to groups.
use Rattle.std.proofs.Common.{◌≡◌, ◌==◌, ℕ, ◌≤◌, List, [], ◌∷◌, ◌++◌, Bool, true, length, slice_get, Some, refl, sym, ap, subst, ◌∙◌, inl, inr, arith}
use Rattle.std.specs.List.{AllZip}
use Rattle.std.proofs.lemmas.Option.{slice_get_within}
use Rattle.cb_model.specs.declared.node.NamedGroup.{NamedGroup}
use Rattle.cb_model.proofs.Numbers.{slice_get-push_before, slice_get-push_last}
use Rattle.cb_coding.specs.declared.group.Problem.{Problem}
use Rattle.cb_codes.specs.Groups.{group_with, groups_of, Fit}
use Rattle.cb_codes.proofs.Fitting.{group_there, code_there, groups_push, groups_set, fit_push, fit_set}
use Rattle.cb_codes.specs.EachOnce.{IsCodeThere, GoesLast, FindsPlace}
use Rattle.cb_codes.specs.Grouped.{group, Joins, Opens, AddsProblem, JoinsThere, OpensLast, TakesMember}

-- the first code
pub first_code : (code : List Bool) (new : List (List Bool)) (place : ℕ) → FindsPlace code [] new place → new ≡ code ∷ []
first_code code new place (inl there) = absurd (let at = there.at in cc at)
first_code code new place (inr last) = last.new_is

pub fit_alone : (code : List Bool) (group : NamedGroup) → group.quiet ≡ true → Fit (code ∷ []) (group ∷ [])
fit_alone code group quiet = fit_push [] [] code group (record { as_many = refl; quiet = λ i g at. absurd (cc at) }) quiet

pub zip_weaker : {X Y : Type 0} (R S : X → Y → Type 0) → ((x : X) (y : Y) → R x y → S x y) → (xs : List X) (ys : List Y) → AllZip R xs ys → AllZip S xs ys
zip_weaker R S weaker [] [] zip = tt
zip_weaker R S weaker [] (y ∷ ys) zip = absurd zip
zip_weaker R S weaker (x ∷ xs) [] zip = absurd zip
zip_weaker R S weaker (x ∷ xs) (y ∷ ys) zip = (weaker x y zip.0, zip_weaker R S weaker xs ys zip.1)

-- a code that is found or put there stands at its place, and the others stay at theirs
pub stands_there : (code : List Bool) (old new : List (List Bool)) (place : ℕ) → FindsPlace code old new place → slice_get new place ≡ Some code
stands_there code old new place (inl there) = subst (λ codes. slice_get codes place ≡ Some code) (sym there.same) there.at
stands_there code old new place (inr last) =
    subst (λ codes. slice_get codes place ≡ Some code) (sym last.new_is) (slice_get-push_last old place code (sym last.last))

pub stays_there : (code : List Bool) (old new : List (List Bool)) (place : ℕ) → FindsPlace code old new place → (i : ℕ) (other : List Bool)
    → slice_get old i ≡ Some other → slice_get new i ≡ Some other
stays_there code old new place (inl there) i other at = subst (λ codes. slice_get codes i ≡ Some other) (sym there.same) at
stays_there code old new place (inr last) i other at = subst (λ codes. slice_get codes i ≡ Some other) (sym last.new_is) (slice_get-push_before old i code other at)

module _ (p : Problem) (codes codes' : List (List Bool)) (groups groups' : List NamedGroup) (fit : Fit codes groups) (place : ℕ) where
  -- where the code is there
  module _ (there : IsCodeThere p.code codes codes' place) (joins : JoinsThere place p.name groups groups') where
    abbrev joined : NamedGroup
    joined = record { quiet = joins.joined.quiet; members = joins.joined.members ++ p.name ∷ [] }

    joins_problem : Joins p (groups_of codes groups) (groups_of codes' groups')
    joins_problem = record {
      place = place;
      joined = group_with p.code joins.joined;
      at = group_there codes groups place p.code joins.joined there.at joins.at;
      same = refl;
      new_is = ap (λ cs. groups_of cs groups') there.same ∙ ap (groups_of codes) joins.new_is ∙ groups_set codes groups place p.code joined there.at;
    }

    joins_fit : Fit codes' groups'
    joins_fit = subst (λ cs. Fit cs groups') (sym there.same) (subst (Fit codes) (sym joins.new_is) (fit_set codes groups place joined joins.joined fit joins.at refl))

  -- where it is new
  module _ (last : GoesLast p.code codes codes' place) (opens : OpensLast place p.name groups groups') where
    abbrev opened : NamedGroup
    opened = record { quiet = place == 0; members = p.name ∷ [] }

    opens_problem : Opens p (groups_of codes groups) (groups_of codes' groups')
    opens_problem = record {
      none = λ i g at same. last.none i (code_there codes groups i g at ∙ ap Some same);
      new_is = ap (λ cs. groups_of cs groups') last.new_is ∙ ap (groups_of (codes ++ p.code ∷ [])) opens.new_is ∙ groups_push codes groups p.code opened fit.as_many;
    }

    opens_fit : Fit codes' groups'
    opens_fit = subst (λ cs. Fit cs groups') (sym last.new_is) (subst (Fit (codes ++ p.code ∷ [])) (sym opens.new_is) (fit_push codes groups p.code opened fit (ap (λ n. n == 0) opens.last)))

  not_both : slice_get codes place ≡ Some p.code → place ≡ length groups → ⊥
  not_both at last = let within = slice_get_within codes place p.code at in let size = fit.as_many in omega arith

  not_there : place ≡ length codes → (g : NamedGroup) → slice_get groups place ≡ Some g → ⊥
  not_there last g at = let within = slice_get_within groups place g at in let size = fit.as_many in omega arith

  pub is_added : FindsPlace p.code codes codes' place → TakesMember place p.name groups groups' → AddsProblem p (groups_of codes groups) (groups_of codes' groups')
  is_added (inl there) (inl joins) = inl (joins_problem there joins)
  is_added (inl there) (inr opens) = absurd (not_both there.at opens.last)
  is_added (inr last) (inl joins) = absurd (not_there last.last joins.joined joins.at)
  is_added (inr last) (inr opens) = inr (opens_problem last opens)

  pub still_fit : FindsPlace p.code codes codes' place → TakesMember place p.name groups groups' → Fit codes' groups'
  still_fit (inl there) (inl joins) = joins_fit there joins
  still_fit (inl there) (inr opens) = absurd (not_both there.at opens.last)
  still_fit (inr last) (inl joins) = absurd (not_there last.last joins.joined joins.at)
  still_fit (inr last) (inr opens) = opens_fit last opens

-- the place is one of a group, or the next
pub place_low : (code : List Bool) (old new : List (List Bool)) (groups : List NamedGroup) (place : ℕ) → Fit old groups → FindsPlace code old new place → place ≤ length groups
place_low code old new groups place fit (inl there) = let within = slice_get_within old place code there.at in let size = fit.as_many in omega arith
place_low code old new groups place fit (inr last) = let is = last.last in let size = fit.as_many in omega arith
