-- The numbers of names, as instances come and go.
use Rattle.std.proofs.Common.{◌≡◌, ◌≢◌, ◌⊎◌, ℕ, zero, suc, List, [], ◌∷◌, cond, map, true, Option, Some, None, refl, sym, ap, subst, ◌∙◌, inl, inr}
use Rattle.std.specs.Str.{bytes_eq}
use Rattle.std.proofs.lemmas.Bool.{cases_Bool}
use Rattle.std.proofs.lemmas.Slice.Eq.{bytes_eq-Decides}
use Rattle.cb_network.proofs.Decided.{Decision, decide_number, decide_same}
use Rattle.cb_instances.specs.declared.id.InstanceId.{InstanceId}
use Rattle.cb_instances.specs.declared.instance.Instance.{Instance}
use Rattle.cb_instances.specs.Net.{slot, SetsOnly}
use Rattle.cb_instances.specs.Places.{Entries, place_of, IsIndexed}
use Rattle.cb_instances.specs.Shown.{name_in}
use Rattle.cb_instances.specs.Slots.{Slots, At, NamedAt}
use Rattle.cb_instances.proofs.Showing.{HaveOwnNames, same_inside}

pub same_id : (i j : InstanceId) → i.0 ≡ j.0 → i ≡ j
same_id i j e = λ k. record { 0 = e k }

pub decide_id : (i j : InstanceId) → Decision (i ≡ j)
decide_id i j = decide_same (i.0 ≡ j.0) (i ≡ j) (same_id i j) (λ e. ap (λ (k : InstanceId). k.0) e) (decide_number i.0 j.0)

same_bytes : (a b : List ℕ) → a ≡ b → bytes_eq a b ≡ true
same_bytes a b e = (bytes_eq-Decides a b).1 e

pub own_names : (slots : Slots) (entries : Entries) → IsIndexed slots entries → HaveOwnNames slots
own_names slots entries indexed i j name (x, at_i, x_is) (y, at_j, y_is) =
    let a : place_of entries name ≡ Some i.0 = subst (λ n. place_of entries n ≡ Some i.0) x_is (indexed.listed i x at_i) in
    let b : place_of entries name ≡ Some j.0 = subst (λ n. place_of entries n ≡ Some j.0) y_is (indexed.listed j y at_j) in
    same_id i j (same_inside i.0 j.0 (sym a ∙ b))

-- the name that is seen at a number is that of the instance there
pub named : (slots : Slots) (i : ℕ) → slot (map name_in slots) i ≡ name_in (slot slots i)
named slots i = go slots i
  where
    go : (slots : Slots) (i : ℕ) → slot (map name_in slots) i ≡ name_in (slot slots i)
    go [] i = refl
    go (o ∷ slots) zero = refl
    go (o ∷ slots) (suc i) = go slots i

-- a name that is seen is that of an instance
pub seen_at : (slots : Slots) (i : InstanceId) (name : List ℕ) → slot (map name_in slots) i.0 ≡ Some name → NamedAt slots i name
seen_at slots i name is = go (slot slots i.0) refl (sym (named slots i.0) ∙ is)
  where
    go : (o : Option Instance) → slot slots i.0 ≡ o → name_in o ≡ Some name → NamedAt slots i name
    go None at none = absurd (cc)
    go (Some x) at some = (x, at, same_inside x.name name some)

pub at_seen : (slots : Slots) (i : InstanceId) (name : List ℕ) → NamedAt slots i name → slot (map name_in slots) i.0 ≡ Some name
at_seen slots i name (x, at, is) = named slots i.0 ∙ (ap name_in at ∙ ap Some is)

module _ (old new : Slots) (id : InstanceId) (x : Instance) (free : slot old id.0 ≡ None) (sets : SetsOnly old new id (Some x)) where
  -- what was there stands elsewhere
  pub elsewhere : (i : InstanceId) (y : Instance) → At old i y → i ≢ id
  elsewhere i y at e = let f : None ≡ Some y = sym free ∙ (ap (λ (k : InstanceId). slot old k.0) (sym e) ∙ at) in cc

  pub stays : (i : InstanceId) (y : Instance) → At old i y → At new i y
  stays i y at = sets.others i (elsewhere i y at) ∙ at

  -- what is there now was there, or is the new one
  pub either : (i : InstanceId) (y : Instance) → At new i y → ((i ≡ id) × (y ≡ x)) ⊎ At old i y
  either i y at = elim (decide_id i id) [
    | inl e ↦ inl (e, same_inside y x (sym at ∙ (ap (λ (k : InstanceId). slot new k.0) e ∙ sets.this)))
    | inr ne ↦ inr (sym (sets.others i ne) ∙ at)
  ]

  pub indexed_more : (entries entries' : Entries) → IsIndexed old entries → ((i : InstanceId) (y : Instance) → At old i y → y.name ≡ x.name → ⊥)
      → ((q : List ℕ) → place_of entries' q ≡ cond (bytes_eq q x.name) (Some id.0) (place_of entries q)) → IsIndexed new entries'
  indexed_more entries entries' indexed fresh finds = record {
    listed = λ i y at. elim (either i y at) [
      | inl e ↦
          let name : bytes_eq y.name x.name ≡ true = same_bytes y.name x.name (ap (λ (z : Instance). z.name) e.1) in
          finds y.name ∙ (ap (λ b. cond b (Some id.0) (place_of entries y.name)) name ∙ ap (λ (k : InstanceId). Some k.0) (sym e.0))
      | inr was ↦ elim (cases_Bool (bytes_eq y.name x.name)) [
        | inl same ↦ absurd (fresh i y was ((bytes_eq-Decides y.name x.name).0 same))
        | inr other ↦ finds y.name ∙ (ap (λ b. cond b (Some id.0) (place_of entries y.name)) other ∙ indexed.listed i y was)
      ]
    ];
    live = λ name i is. elim (cases_Bool (bytes_eq name x.name)) [
      | inl same ↦
          let found : Some id.0 ≡ Some i.0 = sym (finds name ∙ ap (λ b. cond b (Some id.0) (place_of entries name)) same) ∙ is in
          let e : id ≡ i = same_id id i (same_inside id.0 i.0 found) in
          (x, subst (λ k. At new k x) e sets.this, sym ((bytes_eq-Decides name x.name).0 same))
      | inr other ↦
          let found : place_of entries name ≡ Some i.0 = sym (finds name ∙ ap (λ b. cond b (Some id.0) (place_of entries name)) other) ∙ is in
          let was = indexed.live name i found in
          (was.0, stays i was.0 was.1, was.2)
    ];
  }

-- the names of slots in which one was set
pub named_only : (old new : Slots) (id : InstanceId) (x : Instance) (name : List ℕ) → SetsOnly old new id (Some x) → x.name ≡ name
    → SetsOnly (map name_in old) (map name_in new) id (Some name)
named_only old new id x name sets is = record {
  this = named new id.0 ∙ (ap name_in sets.this ∙ ap Some is);
  others = λ j ne. named new j.0 ∙ (ap name_in (sets.others j ne) ∙ sym (named old j.0));
}
