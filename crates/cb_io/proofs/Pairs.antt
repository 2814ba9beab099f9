-- Looking up after a change, and the list that a search for a name changed.
use Rattle.std.proofs.Common.{◌≡◌, ◌≢◌, ℕ, ◌+◌, ◌<◌, suc, zero, List, [], ◌∷◌, ◌++◌, length, map, set, get_or, refl, sym, ◌∙◌, ap, arith, Bool, true, false, cond, position}
use Rattle.std.proofs.lemmas.Iterator.Adapters.{position_from-zero}
use Rattle.std.proofs.lemmas.List.Quantifiers.{position-Some}
use Rattle.std.proofs.lemmas.Slice.Eq.{bytes_eq-Decides}
use Rattle.std.proofs.lemmas.Bool.{false_from_ne_true}
use Rattle.std.specs.Prelude.{None, Some}
use Rattle.std.specs.List.{position_from}
use Rattle.std.specs.declared.option.Option.{Option}
use Rattle.std.specs.Option.{option_map}
use Rattle.std.specs.Str.{bytes_eq}
use Rattle.cb_io.specs.Pairs.{look_up, put}

-- a key that is one name is no other
differs : (key name other : List ℕ) → bytes_eq key name ≡ true → other ≢ name → bytes_eq key other ≡ false
differs key name other h ne =
    false_from_ne_true _ (λ e. ne (sym ((bytes_eq-Decides key other).0 e) ∙ (bytes_eq-Decides key name).0 h))

past : (b : Bool) (n : ℕ) (rest : Option ℕ) → cond b (Some n) rest ≡ None → (b ≡ false) × (rest ≡ None)
past true n rest h = cc
past false n rest h = (refl, h)

module _ {V : Type 0} where
  put_prefix : (pair : List ℕ × V) (pairs : List (List ℕ × V)) (name : List ℕ) (value : V) (b : Bool)
      → bytes_eq pair.0 name ≡ b → look_up (put pairs name value) name ≡ Some value
      → look_up (cond b ((pair.0, value) ∷ pairs) (pair ∷ put pairs name value)) name ≡ Some value
  put_prefix pair pairs name value true e rest = rw e refl
  put_prefix pair pairs name value false e rest = rw e rest

  -- what was put beside a name is found there
  pub look_up-put : (pairs : List (List ℕ × V)) (name : List ℕ) (value : V)
      → look_up (put pairs name value) name ≡ Some value
  look_up-put [] name value = rw ((bytes_eq-Decides name name).1 refl) refl
  look_up-put (pair ∷ pairs) name value =
      put_prefix pair pairs name value (bytes_eq pair.0 name) refl (look_up-put pairs name value)

  other_prefix : (pair : List ℕ × V) (pairs : List (List ℕ × V)) (name other : List ℕ) (value : V) (b : Bool)
      → bytes_eq pair.0 name ≡ b → other ≢ name → look_up (put pairs name value) other ≡ look_up pairs other
      → look_up (cond b ((pair.0, value) ∷ pairs) (pair ∷ put pairs name value)) other ≡ cond (bytes_eq pair.0 other) (Some pair.1) (look_up pairs other)
  other_prefix pair pairs name other value true e ne rest = rw (differs pair.0 name other e ne) refl
  other_prefix pair pairs name other value false e ne rest =
      ap (λ l. cond (bytes_eq pair.0 other) (Some pair.1) l) rest

  -- and nothing else changed
  pub look_up-put_other : (pairs : List (List ℕ × V)) (name other : List ℕ) (value : V) → other ≢ name
      → look_up (put pairs name value) other ≡ look_up pairs other
  look_up-put_other [] name other value ne =
      rw (differs name name other ((bytes_eq-Decides name name).1 refl) ne) refl
  look_up-put_other (pair ∷ pairs) name other value ne =
      other_prefix pair pairs name other value (bytes_eq pair.0 name) refl ne
      (look_up-put_other pairs name other value ne)

  put_at : (pairs : List (List ℕ × V)) (name : List ℕ) (i : ℕ) (y d : List ℕ × V) → i < length pairs
      → bytes_eq (get_or pairs i d).0 name ≡ true
      → ((k : ℕ) → k < i → bytes_eq (get_or pairs k d).0 name ≡ false) → y.0 ≡ (get_or pairs i d).0
      → set pairs i y ≡ put pairs name y.1
  put_at [] name i y d within named before same = absurd (omega arith)
  put_at (pair ∷ pairs) name zero y d within named before same = rw (named, ← same) refl
  put_at (pair ∷ pairs) name (suc i) y d within named before same =
      rw (before 0 (omega arith))
      (ap (λ l. pair ∷ l) (put_at pairs name i y d (omega arith) named (λ k lt. before (suc k) (omega arith)) same))

  found_at : (pairs : List (List ℕ × V)) (name : List ℕ) (i : ℕ) (d : List ℕ × V) → i < length pairs
      → bytes_eq (get_or pairs i d).0 name ≡ true
      → ((k : ℕ) → k < i → bytes_eq (get_or pairs k d).0 name ≡ false)
      → look_up pairs name ≡ Some (get_or pairs i d).1
  found_at [] name i d within named before = absurd (omega arith)
  found_at (pair ∷ pairs) name zero d within named before = rw named refl
  found_at (pair ∷ pairs) name (suc i) d within named before =
      rw (before 0 (omega arith)) (found_at pairs name i d (omega arith) named (λ k lt. before (suc k) (omega arith)))

  -- the pair at a place is the first one with the name
  pub record AtPlace (pairs : List (List ℕ × V)) (name : List ℕ) (place : ℕ) (pair : List ℕ × V) : Type 0 where
    pub found : position (λ p. bytes_eq p.0 name) pairs ≡ Some place
    pub is : pair ≡ get_or pairs place pair

  pub at_place : {pairs : List (List ℕ × V)} {name : List ℕ} {place : ℕ} (pair : List ℕ × V)
      → position (λ p. bytes_eq p.0 name) pairs ≡ Some place → pair ≡ get_or pairs place pair
      → AtPlace pairs name place pair
  at_place pair found' is' = record { found = found'; is = is' }

  -- a write there puts a value beside the name
  pub set-put : {pairs : List (List ℕ × V)} {name : List ℕ} {place : ℕ} {old : List ℕ × V}
      → AtPlace pairs name place old → (y : List ℕ × V) → y.0 ≡ old.0 → set pairs place y ≡ put pairs name y.1
  set-put {pairs} {name} {place} {old} at y same =
      let p = position-Some (λ (pair : List ℕ × V). bytes_eq pair.0 name) pairs place old at.found in
      put_at pairs name place y old p.0 p.1 p.2 (same ∙ ap (λ (pair : List ℕ × V). pair.0) at.is)

  -- what stands there is found
  pub look_up-at : {pairs : List (List ℕ × V)} {name : List ℕ} {place : ℕ} {old : List ℕ × V}
      → AtPlace pairs name place old → look_up pairs name ≡ Some old.1
  look_up-at {pairs} {name} {place} {old} at =
      let p = position-Some (λ (pair : List ℕ × V). bytes_eq pair.0 name) pairs place old at.found in
      found_at pairs name place old p.0 p.1 p.2 ∙ ap (λ (pair : List ℕ × V). Some pair.1) (sym at.is)

  absent_from : (pairs : List (List ℕ × V)) (n : ℕ) (name : List ℕ)
      → position_from (λ pair. bytes_eq pair.0 name) n pairs ≡ None → look_up pairs name ≡ None
  absent_from [] n name h = refl
  absent_from (pair ∷ pairs) n name h =
      let p = past (bytes_eq pair.0 name) n _ h in rw p.0 (absent_from pairs (n + 1) name p.1)

  -- a name without a place has no value
  pub look_up-absent : (pairs : List (List ℕ × V)) (name : List ℕ)
      → position (λ pair. bytes_eq pair.0 name) pairs ≡ None → look_up pairs name ≡ None
  look_up-absent pairs name h =
      absent_from pairs 0 name (sym (position_from-zero (λ pair. bytes_eq pair.0 name) pairs) ∙ h)

  new_prefix : (pair : List ℕ × V) (pairs : List (List ℕ × V)) (name : List ℕ) (value : V) (b : Bool)
      → cond b (Some pair.1) (look_up pairs name) ≡ None
      → (look_up pairs name ≡ None → pairs ++ (name, value) ∷ [] ≡ put pairs name value)
      → pair ∷ (pairs ++ (name, value) ∷ []) ≡ cond b ((pair.0, value) ∷ pairs) (pair ∷ put pairs name value)
  new_prefix pair pairs name value true h rest = cc
  new_prefix pair pairs name value false h rest = ap (λ l. pair ∷ l) (rest h)

  -- a pair after the others puts a value beside a new name
  pub append-put : (pairs : List (List ℕ × V)) (name : List ℕ) (value : V) → look_up pairs name ≡ None
      → pairs ++ (name, value) ∷ [] ≡ put pairs name value
  append-put [] name value h = refl
  append-put (pair ∷ pairs) name value h =
      new_prefix pair pairs name value (bytes_eq pair.0 name) h (append-put pairs name value)

  -- a new name has the first place after the others
  place_from : (pairs : List (List ℕ × V)) (name : List ℕ) (y : List ℕ × V) (n : ℕ)
      → position_from (λ pair. bytes_eq pair.0 name) n pairs ≡ None → y.0 ≡ name
      → position_from (λ pair. bytes_eq pair.0 name) n (pairs ++ y ∷ []) ≡ Some (n + length pairs)
  place_from [] name y n h e = rw ((bytes_eq-Decides y.0 name).1 e) (ap (λ k. Some k) (omega arith))
  place_from (pair ∷ pairs) name y n h e =
      let p = past (bytes_eq pair.0 name) n _ h in
      rw p.0 (place_from pairs name y (n + 1) p.1 e ∙ ap (λ k. Some k) (omega arith))

  pub position-new : (pairs : List (List ℕ × V)) (name : List ℕ) (y : List ℕ × V)
      → position (λ pair. bytes_eq pair.0 name) pairs ≡ None → y.0 ≡ name
      → position (λ pair. bytes_eq pair.0 name) (pairs ++ y ∷ []) ≡ Some (length pairs)
  position-new pairs name y h e =
      position_from-zero (λ pair. bytes_eq pair.0 name) (pairs ++ y ∷ [])
      ∙ place_from pairs name y 0 (sym (position_from-zero (λ pair. bytes_eq pair.0 name) pairs) ∙ h) e
      ∙ ap (λ k. Some k) (omega arith)

map_prefix : {V W : Type 0} (f : V → W) (pair : List ℕ × V) (pairs : List (List ℕ × V)) (name : List ℕ) (b : Bool)
    → look_up (map (λ p. (p.0, f p.1)) pairs) name ≡ option_map f (look_up pairs name)
    → cond b (Some (f pair.1)) (look_up (map (λ p. (p.0, f p.1)) pairs) name) ≡ option_map f (cond b (Some pair.1) (look_up pairs name))
map_prefix f pair pairs name true rest = refl
map_prefix f pair pairs name false rest = rest

-- values that are read off others
pub look_up-map : {V W : Type 0} (f : V → W) (pairs : List (List ℕ × V)) (name : List ℕ)
    → look_up (map (λ pair. (pair.0, f pair.1)) pairs) name ≡ option_map f (look_up pairs name)
look_up-map f [] name = refl
look_up-map f (pair ∷ pairs) name = map_prefix f pair pairs name (bytes_eq pair.0 name) (look_up-map f pairs name)
