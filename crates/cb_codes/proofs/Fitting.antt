-- Codes and groups, one by one.
use Rattle.std.proofs.Common.{◌≡◌, ◌==◌, ℕ, zero, suc, List, [], ◌∷◌, ◌++◌, length, map, slice_get, slice_set, Some, Bool, true, false, refl, sym, ap, subst, ◌∙◌, inl, inr, arith}
use Rattle.std.proofs.lemmas.Bool.{cases_eq, ne_eqb}
use Rattle.std.proofs.lemmas.List.{length_push, length-set, length-map}
use Rattle.cb_model.specs.declared.node.NamedGroup.{NamedGroup}
use Rattle.cb_model.proofs.Numbers.{slice_get-set_same, slice_get-set_other}
use Rattle.cb_coding.specs.declared.group.Group.{Group}
use Rattle.cb_coding.specs.Groups.{codes_of}
use Rattle.cb_coding.proofs.Pushed.{pushed_cases}
use Rattle.cb_codes.specs.Groups.{group_with, groups_of, Fit, named, named_of}

pub codes_are : (codes : List (List Bool)) (groups : List NamedGroup) → length groups ≡ length codes → codes_of (groups_of codes groups) ≡ codes
codes_are [] groups size = refl
codes_are (c ∷ cs) [] size = absurd (omega arith)
codes_are (c ∷ cs) (g ∷ gs) size = ap (λ rest. c ∷ rest) (codes_are cs gs (omega arith))

pub length-groups : (codes : List (List Bool)) (groups : List NamedGroup) → length groups ≡ length codes → length (groups_of codes groups) ≡ length codes
length-groups [] groups size = refl
length-groups (c ∷ cs) [] size = absurd (omega arith)
length-groups (c ∷ cs) (g ∷ gs) size = let rest = length-groups cs gs (omega arith) in omega arith

others_are : (codes : List (List Bool)) (groups : List NamedGroup) → length groups ≡ length codes
    → ((i : ℕ) (g : NamedGroup) → slice_get groups i ≡ Some g → g.quiet ≡ false) → map (named false) (groups_of codes groups) ≡ groups
others_are [] [] size plain = refl
others_are [] (g ∷ gs) size plain = absurd (omega arith)
others_are (c ∷ cs) [] size plain = absurd (omega arith)
others_are (c ∷ cs) (g ∷ gs) size plain =
    let here : named false (group_with c g) ≡ g = ap (λ quiet. named quiet (group_with c g)) (sym (plain 0 g refl)) in
    ap (λ h. h ∷ map (named false) (groups_of cs gs)) here ∙ ap (λ rest. g ∷ rest) (others_are cs gs (omega arith) (λ i h at. plain (suc i) h at))

pub named_are : (codes : List (List Bool)) (groups : List NamedGroup) → Fit codes groups → named_of (groups_of codes groups) ≡ groups
named_are [] [] fit = refl
named_are [] (g ∷ gs) fit = absurd (let size = fit.as_many in omega arith)
named_are (c ∷ cs) [] fit = absurd (let size = fit.as_many in omega arith)
named_are (c ∷ cs) (g ∷ gs) fit =
    let size = fit.as_many in
    let first : named true (group_with c g) ≡ g = ap (λ quiet. named quiet (group_with c g)) (sym (fit.quiet 0 g refl)) in
    ap (λ h. h ∷ map (named false) (groups_of cs gs)) first
    ∙ ap (λ rest. g ∷ rest) (others_are cs gs (omega arith) (λ i h at. fit.quiet (suc i) h at ∙ ne_eqb (suc i) 0 (λ e. omega arith)))

pub length-named : (groups : List Group) → length (named_of groups) ≡ length groups
length-named [] = refl
length-named (quiet ∷ groups) = ap suc (length-map groups (named false))

-- the group at a place
pub group_there : (codes : List (List Bool)) (groups : List NamedGroup) (i : ℕ) (code : List Bool) (group : NamedGroup) → slice_get codes i ≡ Some code
    → slice_get groups i ≡ Some group → slice_get (groups_of codes groups) i ≡ Some (group_with code group)
group_there [] groups i code group at at' = absurd (cc at)
group_there (c ∷ cs) [] i code group at at' = absurd (cc at')
group_there (c ∷ cs) (g ∷ gs) zero code group at at' = let one : c ≡ code = cc at in let other : g ≡ group = cc at' in ap (λ x. Some (group_with x g)) one ∙ ap (λ x. Some (group_with code x)) other
group_there (c ∷ cs) (g ∷ gs) (suc i) code group at at' = group_there cs gs i code group at at'

-- its code
pub code_there : (codes : List (List Bool)) (groups : List NamedGroup) (i : ℕ) (group : Group) → slice_get (groups_of codes groups) i ≡ Some group
    → slice_get codes i ≡ Some group.code
code_there [] groups i group at = absurd (cc at)
code_there (c ∷ cs) [] i group at = absurd (cc at)
code_there (c ∷ cs) (g ∷ gs) zero group at = let is : group_with c g ≡ group = cc at in ap (λ (h : Group). Some h.code) is
code_there (c ∷ cs) (g ∷ gs) (suc i) group at = code_there cs gs i group at

-- one more
pub groups_push : (codes : List (List Bool)) (groups : List NamedGroup) (code : List Bool) (group : NamedGroup) → length groups ≡ length codes
    → groups_of (codes ++ code ∷ []) (groups ++ group ∷ []) ≡ groups_of codes groups ++ group_with code group ∷ []
groups_push [] [] code group size = refl
groups_push [] (g ∷ gs) code group size = absurd (omega arith)
groups_push (c ∷ cs) [] code group size = absurd (omega arith)
groups_push (c ∷ cs) (g ∷ gs) code group size = ap (λ rest. group_with c g ∷ rest) (groups_push cs gs code group (omega arith))

-- another at a place
pub groups_set : (codes : List (List Bool)) (groups : List NamedGroup) (i : ℕ) (code : List Bool) (group : NamedGroup) → slice_get codes i ≡ Some code
    → groups_of codes (slice_set groups i group) ≡ slice_set (groups_of codes groups) i (group_with code group)
groups_set [] groups i code group at = absurd (cc at)
groups_set (c ∷ cs) [] zero code group at = refl
groups_set (c ∷ cs) [] (suc i) code group at = refl
groups_set (c ∷ cs) (g ∷ gs) zero code group at = let is : c ≡ code = cc at in ap (λ x. group_with x group ∷ groups_of cs gs) is
groups_set (c ∷ cs) (g ∷ gs) (suc i) code group at = ap (λ rest. group_with c g ∷ rest) (groups_set cs gs i code group at)

-- they still fit
pub fit_push : (codes : List (List Bool)) (groups : List NamedGroup) (code : List Bool) (group : NamedGroup) → Fit codes groups → group.quiet ≡ (length groups == 0)
    → Fit (codes ++ code ∷ []) (groups ++ group ∷ [])
fit_push codes groups code group fit quiet = record {
  as_many = let one = length_push codes code in let other = length_push groups group in let size = fit.as_many in omega arith;
  quiet = λ i g at. elim (pushed_cases groups group g i at) [
    | inl old ↦ fit.quiet i g old
    | inr (last, is) ↦ ap (λ (h : NamedGroup). h.quiet) (sym is) ∙ quiet ∙ ap (λ n. n == 0) (sym last)
  ];
}

pub fit_set : (codes : List (List Bool)) (groups : List NamedGroup) (i : ℕ) (group was : NamedGroup) → Fit codes groups → slice_get groups i ≡ Some was
    → group.quiet ≡ was.quiet → Fit codes (slice_set groups i group)
fit_set codes groups i group was fit at same = record {
  as_many = length-set groups i group ∙ fit.as_many;
  quiet = λ k g there. elim (cases_eq i k) [
    | inl here ↦
        let is : group ≡ g = slice_get-set_same groups i group g (subst (λ j. slice_get (slice_set groups i group) j ≡ Some g) (sym here) there) in
        ap (λ (h : NamedGroup). h.quiet) (sym is) ∙ same ∙ fit.quiet i was at ∙ ap (λ n. n == 0) here
    | inr other ↦ fit.quiet k g (sym (slice_get-set_other groups i k group other) ∙ there)
  ];
}
