-- Walks by numbers, one link more at a time, and walks by names.
use Rattle.std.proofs.Common.{◌≡◌, ◌↔◌, ◌⊎◌, inl, inr, ℕ, Bool, true, false, List, [], ◌∷◌, ◌++◌, length, Some, refl, sym, ap, subst, ◌∙◌, arith}
use Rattle.std.specs.List.{Contains}
use Rattle.cb_model.specs.declared.id.RelId.{RelId}
use Rattle.cb_model.specs.declared.tables.Place.{Place}
use Rattle.cb_network.specs.Topology.{HasLink}
use Rattle.cb_network.specs.Causes.{Run, Ahead, Leads}
use Rattle.cb_network.proofs.Runs.{first_of, last_of}
use Rattle.cb_instances.specs.declared.id.InstanceId.{InstanceId}
use Rattle.cb_instances.specs.Net.{Net, IsNamed, IsLiveInstance, LinkAt, IsWholeNet}
use Rattle.cb_successors.specs.Rows.{Has}
use Rattle.cb_graph.specs.Instances.{RowGains, IsNumber}
use Rattle.cb_graph.specs.Walks.{RunsAt, LeadsAt, IsRunTo, IsLinked, IsWhereLeads, CoversInstances, HasLive, AllLive, instance}

-- a number has one name
pub one_name : (n : Net) (i : InstanceId) (a b : List ℕ) → IsNamed n i a → IsNamed n i b → a ≡ b
one_name n i a b p q = let e : Some a ≡ Some b = sym p ∙ q in cc

-- a link by the place's relation, and then with the plus as many more as there may be
abbrev FollowsAt : Net → Place → InstanceId → InstanceId → Type 0
FollowsAt n place m j = (first : InstanceId) × LinkAt n m place.rel first × RunsAt n place.rel place.plus first j

-- a path with one place more
leads_more : (n : Net) (i : InstanceId) (path : List Place) (place : Place) (j : InstanceId)
    → LeadsAt n i (path ++ place ∷ []) j ↔ ((m : InstanceId) × LeadsAt n i path m × FollowsAt n place m j)
leads_more n i [] place j = (
  λ (last, run, next, link, same). (i, refl, first_of (λ x y. LinkAt n x place.rel y) place.plus i last j run (subst (λ z. LinkAt n last place.rel z) same link)),
  λ (m, same, (first, link, run)).
      let f = last_of (λ x y. LinkAt n x place.rel y) place.plus m first j link run in
      subst (λ z. LeadsAt n z (place ∷ []) j) (sym same) (f.0, f.1, j, f.2, refl),
)
leads_more n i (q ∷ path) place j = (
  λ (last, run, next, link, rest). let f = (leads_more n next path place j).0 rest in (f.0, (last, run, next, link, f.1), f.2),
  λ (m, (last, run, next, link, rest), follows). (last, run, next, link, (leads_more n next path place j).1 (m, rest, follows)),
)

-- from a live instance a path leads to live ones
pub leads_live : (n : Net) (path : List Place) (i j : InstanceId) → IsLiveInstance n i → LeadsAt n i path j → IsLiveInstance n j
leads_live n [] i j live l = subst (IsLiveInstance n) l live
leads_live n (place ∷ path) i j live (last, run, next, link, rest) = leads_live n path next j (link.to, link.to_is) rest

-- where the list is that of the links, the row gains what is linked
pub links_gained : (n : Net) (i : InstanceId) (r : RelId) (list : List InstanceId) (old new : List Bool) → ((j : InstanceId) → Contains list j ↔ LinkAt n i r j)
    → RowGains old new list IsNumber → (k : ℕ) → Has new k ↔ (Has old k ⊎ IsLinked n r i k)
links_gained n i r list old new are gains k = (
  λ h. elim ((gains k).0 h) [ inl g ↦ inl g | inr g ↦ inr (subst (λ m. LinkAt n i r (instance m)) g.2 ((are g.0).0 g.1)) ],
  λ s. (gains k).1 (elim s [ inl g ↦ inl g | inr l ↦ inr (instance k, (are (instance k)).1 l, refl) ]),
)

-- a walk as far as it has come
pub record IsWalk (n : Net) (from : InstanceId) (path : List Place) (here spare : List Bool) : Type 0 where
  pub here_places : CoversInstances n here
  pub spare_places : CoversInstances n spare
  pub at : IsWhereLeads n from path here

pub still_places : (n : Net) (row row' : List Bool) → CoversInstances n row → length row' ≡ length row → CoversInstances n row'
still_places n row row' places len = record {
  capacity = let le = places.capacity in omega arith;
  each = λ id live. let lt = places.each id live in omega arith;
}

pub walk_begun : (n : Net) (from : InstanceId) (none here spare : List Bool) → CoversInstances n none → CoversInstances n spare → ((k : ℕ) → ¬ Has none k)
    → length here ≡ length none → ((k : ℕ) → Has here k ↔ (Has none k ⊎ (from.0 ≡ k))) → IsWalk n from [] here spare
walk_begun n from none here spare places spare_places empty len each = record {
  here_places = still_places n none here places len;
  spare_places = spare_places;
  at = λ k. (
    λ h. elim ((each k).0 h) [ inl g ↦ absurd (empty k g) | inr same ↦ ap instance same ],
    λ l. (each k).1 (inr (ap (λ (i : InstanceId). i.0) l)),
  );
}

-- what is linked is live
pub linked_live : (n : Net) (r : RelId) (members : List InstanceId) (none linked : List Bool) → ((k : ℕ) → ¬ Has none k) → RowGains none linked members (IsLinked n r) → HasLive n linked
linked_live n r members none linked empty gains id has = elim ((gains id.0).0 has) [
  | inl g ↦ absurd (empty id.0 g)
  | inr g ↦ (g.2.to, g.2.to_is)
]

module _ (n : Net) (from : InstanceId) (path : List Place) (here spare : List Bool) (live : IsLiveInstance n from) (walk : IsWalk n from path here spare)
    (members : List InstanceId) (are : (id : InstanceId) → Contains members id ↔ Has here id.0) where
  pub members_live : AllLive n members
  members_live id c = leads_live n path from id live ((walk.at id.0).0 ((are id).0 c))

  pub walk_more : (place : Place) (none linked next : List Bool) → ((k : ℕ) → ¬ Has none k) → length none ≡ length spare → length linked ≡ length none
      → RowGains none linked members (IsLinked n place.rel) → length next ≡ length linked → ((k : ℕ) → Has next k ↔ IsRunTo n place.rel place.plus linked k)
      → IsWalk n from (path ++ place ∷ []) next here
  walk_more place none linked next empty len len' gains len'' runs = record {
    here_places = still_places n spare next walk.spare_places (len'' ∙ (len' ∙ len));
    spare_places = walk.here_places;
    at = λ k. (
      λ h.
          let (first, has, run) = (runs k).0 h in
          elim ((gains first.0).0 has) [
            | inl g ↦ absurd (empty first.0 g)
            | inr g ↦ (leads_more n from path place (instance k)).1 (g.0, (walk.at g.0.0).0 ((are g.0).0 g.1), (first, g.2, run))
          ],
      λ l.
          let (m, leads, (first, link, run)) = (leads_more n from path place (instance k)).0 l in
          (runs k).1 (first, (gains first.0).1 (inr (m, (are m).1 ((walk.at m.0).1 leads), link)), run),
    );
  }

-- the path from i to j, at the names of both
module _ (n : Net) (whole : IsWholeNet n) where
  pub link_named : (r : RelId) (i j : InstanceId) (link : LinkAt n i r j) (a : List ℕ) → IsNamed n i a → HasLink n.topology a r link.to
  link_named r i j link a is = subst (λ z. HasLink n.topology z r link.to) (one_name n i link.from a link.from_is is) link.linked

  pub link_numbered : (r : RelId) (i : InstanceId) (a b : List ℕ) → HasLink n.topology a r b → IsNamed n i a → (j : InstanceId) × IsNamed n j b × LinkAt n i r j
  link_numbered r i a b has is =
      let e = whole.ends a r b has in
      (e.1, e.3, record { from = a; to = b; from_is = is; to_is = e.3; linked = has })

  -- the run from i to j, at the names of both
  pub runs_names : (r : RelId) (plus : Bool) (i j : InstanceId) → RunsAt n r plus i j → (a : List ℕ) → IsNamed n i a
      → (b : List ℕ) × IsNamed n j b × Ahead (λ x y. HasLink n.topology x r y) plus a b
  runs_names r false i j same a is = (a, subst (λ z. IsNamed n z a) same is, refl)
  runs_names r true i j (between, run) a is = along i between run a is
    where
      along : (i : InstanceId) (between : List InstanceId) → Run (λ x y. LinkAt n x r y) i between j → (a : List ℕ) → IsNamed n i a
          → (b : List ℕ) × IsNamed n j b × Ahead (λ x y. HasLink n.topology x r y) true a b
      along i [] same a is = (a, subst (λ z. IsNamed n z a) same is, ([], refl))
      along i (next ∷ rest) run a is =
          let later = along next rest run.1 run.0.to run.0.to_is in
          (later.0, later.1, (run.0.to ∷ later.2.0, (link_named r i next run.0 a is, later.2.1)))

  pub runs_numbers : (r : RelId) (plus : Bool) (i : InstanceId) (a b : List ℕ) → Ahead (λ x y. HasLink n.topology x r y) plus a b → IsNamed n i a
      → (j : InstanceId) × IsNamed n j b × RunsAt n r plus i j
  runs_numbers r false i a b same is = (i, subst (IsNamed n i) same is, refl)
  runs_numbers r true i a b (between, run) is = along i a between run is
    where
      along : (i : InstanceId) (a : List ℕ) (between : List (List ℕ)) → Run (λ x y. HasLink n.topology x r y) a between b → IsNamed n i a
          → (j : InstanceId) × IsNamed n j b × RunsAt n r true i j
      along i a [] same is = (i, subst (IsNamed n i) same is, ([], refl))
      along i a (next ∷ rest) run is =
          let step = link_numbered r i a next run.0 is in
          let later = along step.0 next rest run.1 step.1 in
          (later.0, later.1, (step.0 ∷ later.2.0, (step.2, later.2.1)))

  leads_names : (path : List Place) (i j : InstanceId) → LeadsAt n i path j → (a : List ℕ) → IsNamed n i a → (b : List ℕ) × IsNamed n j b × Leads n.topology a path b
  leads_names [] i j l a is = (a, subst (λ z. IsNamed n z a) l is, refl)
  leads_names (place ∷ path) i j (last, run, next, link, leads) a is =
      let before = runs_names place.rel place.plus i last run a is in
      let rest = leads_names path next j leads link.to link.to_is in
      (rest.0, rest.1, (before.0, before.2, link.to, link_named place.rel last next link before.0 before.1, rest.2))

  leads_numbers : (path : List Place) (i : InstanceId) (a b : List ℕ) → Leads n.topology a path b → IsNamed n i a → (j : InstanceId) × IsNamed n j b × LeadsAt n i path j
  leads_numbers [] i a b l is = (i, subst (IsNamed n i) l is, refl)
  leads_numbers (place ∷ path) i a b (last, run, next, link, leads) is =
      let before = runs_numbers place.rel place.plus i a last run is in
      let step = link_numbered place.rel before.0 last next link before.1 in
      let rest = leads_numbers path step.0 next b leads step.1 in
      (rest.0, rest.1, (before.0, before.2, step.0, step.2, rest.2))

  pub leads_are_leads : (path : List Place) (i j : InstanceId) (a b : List ℕ) → IsNamed n i a → IsNamed n j b → LeadsAt n i path j ↔ Leads n.topology a path b
  leads_are_leads path i j a b p q = (
    λ l. let f = leads_names path i j l a p in subst (Leads n.topology a path) (one_name n j f.0 b f.1 q) f.2,
    λ l. let f = leads_numbers path i a b l p in subst (LeadsAt n i path) (whole.one f.0 j b f.1 q) f.2,
  )
