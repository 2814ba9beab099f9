-- Edits that are made in turn.
use Rattle.std.proofs.Common.{◌≡◌, ◌+◌, ◌++◌, ◌∷◌, [], ℕ, List, Result, Ok, Err, OnOk, OnErr, IfErr, length, take, drop, slice_index_or, suc, ◌<◌, refl, sym, ap, subst, ◌∙◌, arith}
use Rattle.std.proofs.lemmas.List.{append_assoc}
use Rattle.std.proofs.Math.Numerals.{add-one}
use Rattle.std.proofs.Math.Seq.{drop-cons}
use Rattle.std.proofs.lemmas.List.{take_more, take-append-drop}
use Rattle.std.proofs.lemmas.List.Elements.{Contains-append_left, Contains-append_right}
use Rattle.cb_model.proofs.Rising.{contains_head, contains_tail}
use Rattle.cb_change.specs.Costs.{CountsAtMost, IsEditCost}
use Rattle.cb_change.specs.InTurn.{IsCostInTurn}
use Rattle.cb_change.proofs.InTurn.{alone_costs, joins}
use Rattle.cb_network.specs.declared.edit.Edit.{Edit}
use Rattle.cb_network.specs.declared.edit.Edit.TheVariants.{Create, Delete, Link, Unlink, Mute, Unmute}
use Rattle.cb_network.specs.Topology.{Topology}
use Rattle.cb_network.specs.Regular.{IsRegular}
use Rattle.cb_network.specs.Laws.{HasGoodName}
use Rattle.cb_network.specs.Edits.{IsAfter, IsAfterAll, IsAccepted}
use Rattle.cb_history.specs.Inverse.{AllMake, Inverts, CreatesAgain}
use Rattle.cb_history.proofs.Again.{part_is_made_again}
use Rattle.cb_history.proofs.Recorded.{all_make_one, made_regular, all_made_regular}
use Rattle.cb_history.proofs.Taken.{inverse_takes_back, inverse_is_good_named}
use Rattle.cb_inverse.specs.declared.inverse.Inverse.{Inverse}
use Rattle.cb_inverse.specs.declared.inverse.Inverse.TheVariants.{Rebuild}
use Rattle.cb_inverse.specs.declared.rebuild.Rebuild.{Rebuild as TheRebuild}
use Rattle.cb_inverse.specs.Inverses.{inverse_edits, rebuild_edits, rest_of}
use Rattle.cb_topo.specs.Applied.{Applies, Prevents, MayGrow}
use Rattle.cb_topo.specs.Numbered.{Numbered, topology_of}
use Rattle.cb_topo.specs.declared.fault.EditFault.{EditFault}
use Rattle.cb_topo.specs.declared.fault.EditFault.TheVariants.{Refused, NoMemory}
use Rattle.cb_undo.specs.Kept.{IsInverseOf, Undoes}
use Rattle.cb_undo.specs.Made.{CanAllBeMade, MakesAll, MakesPrefix, CountsDeleted}

all_after : (t : Topology) (edits : List Edit) (u : Topology) → AllMake t edits u → IsAfterAll t edits u
all_after t [] u same = same
all_after t (edit ∷ edits) u (next, after, rest) = (Ok next, after, all_after next edits u rest)

pub make_joined : (t : Topology) (xs ys : List Edit) (v u : Topology) → AllMake t xs v → AllMake v ys u → AllMake t (xs ++ ys) u
make_joined t [] ys v u same rest = subst (λ z. AllMake z ys u) (sym same) rest
make_joined t (x ∷ xs) ys v u (next, after, rest) later = (next, after, make_joined next xs ys v u rest later)

pub make_parted : (t : Topology) (xs ys : List Edit) (u : Topology) → AllMake t (xs ++ ys) u → (v : Topology) × AllMake t xs v × AllMake v ys u
make_parted t [] ys u make = (t, refl, make)
make_parted t (x ∷ xs) ys u (next, after, rest) =
    let (v, first, later) = make_parted next xs ys u rest in
    (v, (next, after, first), later)

-- no edit
pub makes_none : (t : Topology) (steps : ℕ) → MakesAll t [] t steps steps
makes_none t steps = record { make = refl; cost = record { cost = 0; is_cost = refl; few = omega arith } }

-- edits, and then others
pub makes_joined : (t : Topology) (xs ys : List Edit) (v u : Topology) (s s' s'' : ℕ) → IsRegular t.model → MakesAll t xs v s s' → MakesAll v ys u s' s''
    → MakesAll t (xs ++ ys) u s s''
makes_joined t xs ys v u s s' s'' regular a b =
    let first = a.cost.few in
    let later = b.cost.few in
    record {
      make = make_joined t xs ys v u a.make b.make;
      cost = record {
        cost = a.cost.cost + b.cost.cost;
        is_cost = joins t xs ys a.cost.cost b.cost.cost v regular a.cost.is_cost (all_after t xs v a.make) b.cost.is_cost;
        few = omega (arith, first, later);
      };
    }

-- one edit, by what it costs
pub makes_one : (t u : Topology) (edit : Edit) (s s' : ℕ) → IsAfter t edit (Ok u) → CountsAtMost (IsEditCost t edit u) s s' → MakesAll t (edit ∷ []) u s s'
makes_one t u edit s s' after counts = record {
  make = (u, after, refl);
  cost = record { cost = counts.cost; is_cost = alone_costs t edit u counts.cost after counts.is_cost; few = counts.few };
}

-- an accepted edit that needs no memory, whatever is answered
pub makes_free : {X : Type 0} (n m : Numbered) (edit : Edit) (s s' : ℕ) (result : Result X EditFault) → IsAccepted (topology_of n) edit → ¬ MayGrow edit
    → OnOk result (Applies n edit m) → IfErr result (Prevents n edit) → OnOk result (CountsAtMost (IsEditCost (topology_of n) edit (topology_of m)) s s')
    → MakesAll (topology_of n) (edit ∷ []) (topology_of m) s s'
makes_free n m edit s s' (Ok x) accepted free made fault counts = makes_one (topology_of n) (topology_of m) edit s s' made.after counts
makes_free n m edit s s' (Err (Refused why)) accepted free made fault counts = absurd (accepted why fault.0)
makes_free n m edit s s' (Err NoMemory) accepted free made fault counts = absurd (free fault.1)

pub on_ok_both : {X E : Type 0} (result : Result X E) (P Q R : Type 0) → (P → Q → R) → OnOk result P → OnOk result Q → OnOk result R
on_ok_both (Ok x) P Q R to p q = to p q
on_ok_both (Err e) P Q R to p q = tt

pub on_err : {X E : Type 0} (result : Result X E) (P : Type 0) → P → OnErr result P
on_err (Ok x) P p = tt
on_err (Err e) P p = p

-- a list at one of its items
pub record IsParted (edits : List Edit) (i : ℕ) (e : Edit) : Type 0 where
  pub after : drop i edits ≡ e ∷ drop (i + 1) edits
  pub prefix : take (i + 1) edits ≡ take i edits ++ e ∷ []
  pub whole : edits ≡ take i edits ++ e ∷ drop (i + 1) edits

pub parted : (edits : List Edit) (i : ℕ) (e : Edit) → i < length edits → slice_index_or edits i e ≡ e → IsParted edits i e
parted edits i e low is =
    let cut : drop i edits ≡ slice_index_or edits i e ∷ drop (suc i) edits = drop-cons edits i e low in
    let after : drop i edits ≡ e ∷ drop (i + 1) edits = cut ∙ (ap (λ x. x ∷ drop (suc i) edits) is ∙ ap (λ n. e ∷ drop n edits) (sym (add-one i))) in
    record {
      after = after;
      prefix = take_more edits i e low ∙ ap (λ x. take i edits ++ x ∷ []) is;
      whole = sym (take-append-drop i edits) ∙ ap (λ xs. take i edits ++ xs) after;
    }

pub can_first : (t : Topology) (edit : Edit) (edits : List Edit) → CanAllBeMade t (edit ∷ edits) → IsAccepted t edit × HasGoodName edit
can_first t edit edits can = (can.make.1.0, can.good edit (contains_head edit edits))

-- after the first edit the others can be made
pub can_rest : (t u : Topology) (edit : Edit) (edits : List Edit) → CanAllBeMade t (edit ∷ edits) → AllMake t (edit ∷ []) u → CanAllBeMade u edits
can_rest t u edit edits can made =
    let (next, after, rest) = can.make in
    let same : next ≡ u = all_make_one t (edit ∷ []) next u can.regular (next, after, refl) made in
    record {
      regular = all_made_regular t (edit ∷ []) u can.regular made;
      good = λ e c. can.good e (contains_tail edit edits e c);
      last = can.last;
      make = subst (λ z. AllMake z edits can.last) same rest;
    }

pub can_prefix : (t : Topology) (xs ys : List Edit) → CanAllBeMade t (xs ++ ys) → CanAllBeMade t xs
can_prefix t xs ys can =
    let (v, first, _) = make_parted t xs ys can.last can.make in
    record { regular = can.regular; good = λ e c. can.good e (Contains-append_left xs ys e c); last = v; make = first }

pub can_after : (t u : Topology) (xs ys : List Edit) → CanAllBeMade t (xs ++ ys) → AllMake t xs u → CanAllBeMade u ys
can_after t u xs ys can made =
    let (v, first, later) = make_parted t xs ys can.last can.make in
    let same : v ≡ u = all_make_one t xs v u can.regular first made in
    record {
      regular = all_made_regular t xs u can.regular made;
      good = λ e c. can.good e (Contains-append_right xs ys e c);
      last = can.last;
      make = subst (λ z. AllMake z ys can.last) same later;
    }

-- where the first ones can't all be made, neither can all
pub prefix_of_first : (t : Topology) (xs ys : List Edit) (u : Topology) (s s' : ℕ) → MakesPrefix t xs u s s' → MakesPrefix t (xs ++ ys) u s s'
prefix_of_first t xs ys u s s' f = record {
  prefix = f.prefix;
  next = f.next;
  rest = f.rest ++ ys;
  is = ap (λ zs. zs ++ ys) f.is ∙ append_assoc f.prefix (f.next ∷ f.rest) ys;
  makes = f.makes;
}

pub prefix_of_second : (t : Topology) (xs ys : List Edit) (v u : Topology) (s s' s'' : ℕ) → IsRegular t.model → MakesAll t xs v s s' → MakesPrefix v ys u s' s''
    → MakesPrefix t (xs ++ ys) u s s''
prefix_of_second t xs ys v u s s' s'' regular a f = record {
  prefix = xs ++ f.prefix;
  next = f.next;
  rest = f.rest;
  is = ap (λ zs. xs ++ zs) f.is ∙ sym (append_assoc xs f.prefix (f.next ∷ f.rest));
  makes = makes_joined t xs f.prefix v u s s' s'' regular a f.makes;
}

-- edits that undo an edit can be made
pub undoing_can : (before t : Topology) (edit : Edit) (edits : List Edit) → Undoes before t edit edits → CanAllBeMade t edits
undoing_can before t edit edits is = record {
  regular = made_regular before edit t is.regular is.after;
  good = inverse_is_good_named before t edit edits is.sound is.after is.inverts;
  last = before;
  make = inverse_takes_back before t edit edits is.regular is.sound is.after is.inverts;
}

pub inverse_can : (before t : Topology) (inverse : Inverse) → IsInverseOf before t inverse → CanAllBeMade t (inverse_edits inverse)
inverse_can before t inverse is = undoing_can before t is.edit (inverse_edits inverse) is.undoes

-- those of a rebuild undo the edit that it has a copy of
pub rebuild_undoes : (before t : Topology) (edits : TheRebuild) → IsInverseOf before t (Rebuild edits) → Undoes before t edits.again (rebuild_edits edits)
rebuild_undoes before t edits is = subst (λ e. Undoes before t e (rebuild_edits edits)) (sym is.again) is.undoes

one_has_no_prefix : (first back next : Edit) (prefix rest : List Edit) → first ∷ (prefix ++ next ∷ rest) ≡ back ∷ [] → ⊥
one_has_no_prefix first back next [] rest e = cc
one_has_no_prefix first back next (x ∷ prefix) rest e = cc

-- an edit that is undone by several others is a Delete, and the first of these is a Create of its instance
pub record Deletes (edit first : Edit) : Type 0 where
  pub name : List ℕ
  pub class : List ℕ
  pub edit_is : edit ≡ Delete name
  pub first_is : first ≡ Create name class

creates : (t : Topology) (name : List ℕ) (first : Edit) → CreatesAgain t name first → (class : List ℕ) × (first ≡ Create name class)
creates t name (Create new class) (same, _) = (class, ap (λ z. Create z class) (sym same))
creates t name (Delete n) again = absurd again
creates t name (Link a rel b) again = absurd again
creates t name (Unlink a rel b) again = absurd again
creates t name (Mute event n) again = absurd again
creates t name (Unmute event n) again = absurd again

pub deletes : (t : Topology) (edit first next : Edit) (prefix rest : List Edit) → Inverts t edit (first ∷ (prefix ++ next ∷ rest)) → Deletes edit first
deletes t (Create name class) first next prefix rest inverts = absurd (one_has_no_prefix first _ next prefix rest inverts)
deletes t (Link a rel b) first next prefix rest inverts = absurd (one_has_no_prefix first _ next prefix rest inverts)
deletes t (Unlink a rel b) first next prefix rest inverts = absurd (one_has_no_prefix first _ next prefix rest inverts)
deletes t (Mute event name) first next prefix rest inverts = absurd (one_has_no_prefix first _ next prefix rest inverts)
deletes t (Unmute event name) first next prefix rest inverts = absurd (one_has_no_prefix first _ next prefix rest inverts)
deletes t (Delete name) first next prefix rest b =
    let (class, is) = creates t name b.create b.creates in
    let same : first ≡ b.create = heads first b.create (prefix ++ next ∷ rest) (b.link_edits ++ b.mute_edits) b.is in
    record { name = name; class = class; edit_is = refl; first_is = same ∙ is }
  where
    heads : (x y : Edit) (xs ys : List Edit) → x ∷ xs ≡ y ∷ ys → x ≡ y
    heads x y xs ys e = cc

-- where only a prefix of a rebuild was made, the edit can be made again
module _ (before t mid between : Topology) (edits : TheRebuild) (is : Undoes before t edits.again (rebuild_edits edits)) (s s' s'' : ℕ)
    (first : MakesAll t (edits.create ∷ []) mid s s') (f : MakesPrefix mid (rest_of edits) between s' s'') where
  inverts : Inverts before edits.again (edits.create ∷ (f.prefix ++ f.next ∷ f.rest))
  inverts = subst (λ es. Inverts before edits.again (edits.create ∷ es)) f.is is.inverts

  regular : IsRegular t.model
  regular = made_regular before edits.again t is.regular is.after

  made : MakesAll t (edits.create ∷ f.prefix) between s s''
  made = makes_joined t (edits.create ∷ []) f.prefix mid between s s' s'' regular first f.makes

  pub again_after : IsAfter between edits.again (Ok t)
  again_after = part_is_made_again before t between edits.again edits.create f.next f.prefix f.rest is.regular is.sound is.after inverts made.make

  pub between_regular : IsRegular between.model
  between_regular = all_made_regular t (edits.create ∷ f.prefix) between regular made.make

  is_delete : Deletes edits.again edits.create
  is_delete = deletes before edits.again edits.create f.next f.prefix f.rest inverts

  pub again_is_free : ¬ MayGrow edits.again
  again_is_free grows = absurd (subst MayGrow is_delete.edit_is grows)

  pub again_good : HasGoodName edits.again
  again_good = subst HasGoodName (sym is_delete.edit_is) tt

  pub again_leads : (u : Topology) → AllMake between (edits.again ∷ []) u → u ≡ t
  again_leads u make = all_make_one between (edits.again ∷ []) u t between_regular make (t, again_after, refl)

  pub again_counts : (u : Topology) (s''' : ℕ) → MakesAll between (edits.again ∷ []) u s'' s''' → CountsDeleted t (rebuild_edits edits) s s'''
  again_counts u s''' makes =
      let d = is_delete in
      let all = makes_joined t (edits.create ∷ f.prefix) (edits.again ∷ []) between u s s'' s''' regular made makes in
      record {
        name = d.name;
        class = d.class;
        prefix = f.prefix;
        rest = f.next ∷ f.rest;
        is = ap (λ es. edits.create ∷ es) f.is ∙ ap (λ e. e ∷ (f.prefix ++ f.next ∷ f.rest)) d.first_is;
        cost = subst (λ e. CountsAtMost (IsCostInTurn t (e ∷ (f.prefix ++ Delete d.name ∷ []))) s s''') d.first_is
            (subst (λ e. CountsAtMost (IsCostInTurn t (edits.create ∷ (f.prefix ++ e ∷ []))) s s''') d.edit_is all.cost);
      }
