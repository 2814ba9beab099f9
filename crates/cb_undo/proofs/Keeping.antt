-- The inverses that are kept represent earlier topologies.
use Rattle.std.proofs.Common.{◌≡◌, ◌∷◌, [], ◌<◌, ◌+◌, ℕ, zero, suc, List, Ok, length, map, take, drop, min, slice_index_or, refl, sym, ap, subst, ◌∙◌, arith}
use Rattle.std.proofs.lemmas.List.{length-take}
use Rattle.cb_network.specs.declared.edit.Edit.{Edit}
use Rattle.cb_network.specs.Topology.{Topology}
use Rattle.cb_network.specs.Regular.{IsRegular}
use Rattle.cb_network.specs.Edits.{IsAfter}
use Rattle.cb_history.specs.Histories.{History, edited, undone}
use Rattle.cb_history.specs.Records.{StandFor}
use Rattle.cb_history.proofs.Recorded.{edit_is_recorded, last_is_taken}
use Rattle.cb_history.proofs.Taken.{inverse_takes_back}
use Rattle.cb_inverse.specs.declared.inverse.Inverse.{Inverse}
use Rattle.cb_inverse.specs.Inverses.{inverse_edits, HasAgain}
use Rattle.cb_history.specs.Inverse.{AllMake, Inverts}
use Rattle.cb_history.proofs.Recorded.{all_make_one, made_regular}
use Rattle.cb_network.specs.Sound.{Sound}
use Rattle.cb_undo.specs.Kept.{IsInverseOf, UndoInTurn, AreInverses}
use Rattle.cb_undo.specs.Made.{MakesAll, CountsPart}
use Rattle.cb_undo.proofs.Making.{inverse_can}
use Rattle.cb_undo.specs.Recorded.{KeepsInverse}
use Rattle.cb_undo.specs.Undone.{MakesFirst, CountsFailure, CountsUndo, CountsFailedUndo}

pub fewer_undo : (n : ℕ) (u : Topology) (inverses : List Inverse) (before : List Topology) → UndoInTurn u inverses before
    → UndoInTurn u (take n inverses) (take n before)
fewer_undo zero u inverses before back = tt
fewer_undo (suc n) u [] [] back = tt
fewer_undo (suc n) u [] (t ∷ before) back = absurd back
fewer_undo (suc n) u (inverse ∷ inverses) [] back = absurd back
fewer_undo (suc n) u (inverse ∷ inverses) (t ∷ before) back = (back.0, fewer_undo n t inverses before back.1)

map_take : {X Y : Type 0} (f : X → Y) (n : ℕ) (xs : List X) → map f (take n xs) ≡ take n (map f xs)
map_take f zero xs = refl
map_take f (suc n) [] = refl
map_take f (suc n) (x ∷ xs) = ap (λ ys. f x ∷ ys) (map_take f n xs)

-- once an edit is made
pub records_stand : (t u : Topology) (edit : Edit) (depth : ℕ) (old new : List Inverse) (h : History) → IsAfter t edit (Ok u) → KeepsInverse t edit depth old new
    → StandFor t (map inverse_edits old) h → StandFor u (map inverse_edits new) (edited depth h u)
records_stand t u edit depth old new h after r stand =
    let made : AllMake u (inverse_edits r.inverse) t = inverse_takes_back t u edit (inverse_edits r.inverse) r.regular r.sound after r.inverts in
    let stands = edit_is_recorded t u (map inverse_edits old) (inverse_edits r.inverse) h depth stand made in
    let same : map inverse_edits new ≡ take depth (inverse_edits r.inverse ∷ map inverse_edits old) =
    ap (λ is. map inverse_edits is) r.is ∙ map_take inverse_edits depth (r.inverse ∷ old) in
    subst (λ records. StandFor u records (edited depth h u)) (sym same) stands

-- once an edit is undone
pub rest_stand : (t u : Topology) (old new : List Inverse) (s s' : ℕ) (h : History) → MakesFirst t old u new s s'
    → StandFor t (map inverse_edits old) h → StandFor u (map inverse_edits new) (undone h)
rest_stand t u old new s s' h makes stand =
    let here : StandFor t (inverse_edits makes.inverse ∷ map inverse_edits new) h = subst (λ is. StandFor t (map inverse_edits is) h) makes.is stand in
    last_is_taken t u (inverse_edits makes.inverse) (map inverse_edits new) h makes.regular here makes.makes.make

-- the others undo the edits before the topology that the first leads to
pub rest_undoes : (t u : Topology) (inverse : Inverse) (inverses : List Inverse) (before : List Topology) → UndoInTurn t (inverse ∷ inverses) before
    → (w : Topology) × (ws : List Topology) × (before ≡ w ∷ ws) × IsInverseOf w t inverse × UndoInTurn w inverses ws
rest_undoes t u inverse inverses [] back = absurd back
rest_undoes t u inverse inverses (w ∷ ws) back = (w, ws, refl, back.0, back.1)

-- the first of some
pub record IsFirst (inverses : List Inverse) (inverse : Inverse) : Type 0 where
  pub rest : List Inverse
  pub is : inverses ≡ inverse ∷ rest

pub first_of : (inverses : List Inverse) (x : Inverse) → 0 < length inverses → x ≡ slice_index_or inverses 0 x → IsFirst inverses x
first_of [] x low is = absurd (omega arith)
first_of (y ∷ ys) x low is = record { rest = ys; is = ap (λ z. z ∷ ys) (sym is) }

-- what the first undoes
pub record FirstUndoes (t : Topology) (inverses : List Inverse) (inverse : Inverse) : Type 0 where
  pub rest : List Inverse
  pub is : inverses ≡ inverse ∷ rest
  pub before : Topology
  pub inverts : IsInverseOf before t inverse
  pub earlier : List Topology
  pub back : UndoInTurn before rest earlier

pub first_undoes : (t : Topology) (depth : ℕ) (inverses : List Inverse) (count capacity : ℕ) (x : Inverse) → AreInverses t depth inverses count capacity → 0 < count
    → x ≡ slice_index_or inverses 0 x → FirstUndoes t inverses x
first_undoes t depth inverses count capacity x kept some is =
    let long = kept.long in
    let f = first_of inverses x (omega arith) is in
    let (w, ws, _, inverts, back) = rest_undoes t t x f.rest kept.before (subst (λ xs. UndoInTurn t xs kept.before) f.is kept.back) in
    record { rest = f.rest; is = f.is; before = w; inverts = inverts; earlier = ws; back = back }

pub makes_first : (t u : Topology) (inverses new : List Inverse) (x : Inverse) (s s' : ℕ) → FirstUndoes t inverses x → new ≡ drop 1 inverses → MakesAll t (inverse_edits x) u s s'
    → MakesFirst t inverses u new s s'
makes_first t u inverses new x s s' f rest makes = record {
  regular = made_regular f.before f.inverts.edit t f.inverts.undoes.regular f.inverts.undoes.after;
  inverse = x;
  is = f.is ∙ ap (λ xs. x ∷ xs) (sym (rest ∙ ap (λ xs. drop 1 xs) f.is));
  makes = makes;
}

-- what is kept once an edit is undone
pub last_keeps : (t u : Topology) (depth : ℕ) (inverses new : List Inverse) (count capacity count' capacity' : ℕ) (x : Inverse) (s s' : ℕ) → AreInverses t depth inverses count capacity
    → FirstUndoes t inverses x → new ≡ drop 1 inverses → count' + 1 ≡ count → capacity' ≡ capacity → MakesAll t (inverse_edits x) u s s' → AreInverses u depth new count' capacity'
last_keeps t u depth inverses new count capacity count' capacity' x s s' kept f rest fewer same makes =
    let can = inverse_can f.before t x f.inverts in
    let back : u ≡ f.before = all_make_one t (inverse_edits x) u f.before can.regular makes.make (inverse_takes_back f.before t f.inverts.edit (inverse_edits x) f.inverts.undoes.regular f.inverts.undoes.sound f.inverts.undoes.after f.inverts.undoes.inverts) in
    let new_is : new ≡ f.rest = rest ∙ ap (λ xs. drop 1 xs) f.is in
    let long = kept.long in
    let few = kept.few in
    let more = kept.more in
    let long' : length inverses ≡ length (x ∷ f.rest) = ap length f.is in
    let long'' : length new ≡ length f.rest = ap length new_is in
    record {
      before = f.earlier;
      back = subst (λ z. UndoInTurn z new f.earlier) (sym back) (subst (λ xs. UndoInTurn f.before xs f.earlier) (sym new_is) f.back);
      some = kept.some;
      few = omega arith;
      long = omega arith;
      more = omega arith;
    }

-- what is kept once an edit is made
pub edit_keeps : (t u : Topology) (depth : ℕ) (edit : Edit) (inverses new : List Inverse) (count capacity count' capacity' : ℕ) (i : Inverse) → AreInverses t depth inverses count capacity
    → Sound t → IsRegular t.model → IsAfter t edit (Ok u) → HasAgain edit i → Inverts t edit (inverse_edits i) → new ≡ take depth (i ∷ inverses) → count' ≡ min depth (count + 1) → capacity' ≡ capacity
    → AreInverses u depth new count' capacity'
edit_keeps t u depth edit inverses new count capacity count' capacity' i kept sound regular after again inverts is counts same =
    let inverse : IsInverseOf t u i = record {
      edit = edit;
      undoes = record { sound = sound; regular = regular; after = after; inverts = inverts };
      again = again;
    } in
    let back = fewer_undo depth u (i ∷ inverses) (t ∷ kept.before) (inverse, kept.back) in
    let more = kept.more in
    let long = kept.long in
    let lengths : length new ≡ min depth (length (i ∷ inverses)) = ap length is ∙ length-take depth (i ∷ inverses) in
    record {
      before = take depth (t ∷ kept.before);
      back = subst (λ xs. UndoInTurn u xs (take depth (t ∷ kept.before))) (sym is) back;
      some = kept.some;
      few = omega arith;
      long = omega arith;
      more = omega arith;
    }

-- the steps of an undo, by the records
pub counts_undo : (t u : Topology) (old new : List Inverse) (s s' : ℕ) → MakesFirst t old u new s s' → CountsUndo t (map inverse_edits old) s s'
counts_undo t u old new s s' makes = record {
  edits = inverse_edits makes.inverse;
  rest = map inverse_edits new;
  is = ap (λ xs. map inverse_edits xs) makes.is;
  cost = makes.makes.cost;
}

heads : {X : Type 0} (x y : X) (xs ys : List X) → x ∷ xs ≡ y ∷ ys → x ≡ y
heads x y xs ys e = cc

pub counts_failed : (t : Topology) (old : List Inverse) (s s' : ℕ) → CountsFailure t old s s' → CountsFailedUndo t (map inverse_edits old) s s'
counts_failed t [] s s' fails = record { none = λ _. fails.none refl; first = λ edits rest e. absurd (cc) }
counts_failed t (x ∷ xs) s s' fails = record {
  none = λ e. absurd (cc);
  first = λ edits rest e. subst (λ es. CountsPart t es s s') (heads (inverse_edits x) edits (map inverse_edits xs) rest e) (fails.first x xs refl);
}
