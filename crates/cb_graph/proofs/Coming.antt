-- Walks back along a path, from where links that move start, one place more at a time.
use Rattle.std.proofs.Common.{◌≡◌, ◌↔◌, ◌⊎◌, inl, inr, ℕ, ◌+◌, Bool, true, false, List, [], ◌∷◌, length, drop, Some, sym, subst, ◌∙◌}
use Rattle.std.specs.List.{Contains, slice_get}
use Rattle.std.proofs.lemmas.List.{drop_more}
use Rattle.std.proofs.lemmas.Option.{slice_get_within, get_or_from_slice_get}
use Rattle.cb_model.specs.declared.id.RelId.{RelId}
use Rattle.cb_model.specs.declared.tables.Place.{Place}
use Rattle.cb_network.specs.Causes.{Run}
use Rattle.cb_network.specs.Regular.{IsRegular}
use Rattle.cb_network.specs.Sound.{Sound, IsInverse}
use Rattle.cb_network.proofs.Links.{inverse_back}
use Rattle.cb_network.proofs.Runs.{back_ahead}
use Rattle.cb_instances.specs.declared.id.InstanceId.{InstanceId}
use Rattle.cb_instances.specs.Net.{Net, IsLiveInstance, LinkAt}
use Rattle.cb_successors.specs.Rows.{Has}
use Rattle.cb_graph.specs.declared.moves.Moves.{Moves}
use Rattle.cb_graph.specs.declared.moves.Moves.TheVariants.{Pair, AllOf}
use Rattle.cb_graph.specs.Instances.{RowGains, IsNumber}
use Rattle.cb_graph.specs.Walks.{IsLinked, CoversInstances, HasLive, AllLive, RunsAt, IsRunTo, instance}
use Rattle.cb_graph.specs.Touched.{HaveEnds, StartsAt, ComesAt, IsWhereComes}
use Rattle.cb_graph.proofs.Walking.{still_places}

-- links by a relation lead back where those by its inverse do
pub leads_back : (n : Net) → IsRegular n.topology.model → Sound n.topology → (r s : RelId) → IsInverse n.topology.model r s → (i j : InstanceId) → LinkAt n i s j ↔ LinkAt n j r i
leads_back n regular sound r s inverse i j = (
  λ l. record {
    from = l.to;
    to = l.from;
    from_is = l.to_is;
    to_is = l.from_is;
    linked = sound.both_ways l.from s r l.to l.linked (inverse_back n.topology.model regular r s inverse);
  },
  λ l. record {
    from = l.to;
    to = l.from;
    from_is = l.to_is;
    to_is = l.from_is;
    linked = sound.both_ways l.from r s l.to l.linked inverse;
  },
)

-- a walk back as far as it has come
pub record IsComing (n : Net) (moves : Moves) (path : List Place) (here spare : List Bool) : Type 0 where
  pub here_places : CoversInstances n here
  pub spare_places : CoversInstances n spare
  pub at : IsWhereComes n moves path here

pub coming_begun : (n : Net) (moves : Moves) (path : List Place) (here spare : List Bool) → path ≡ [] → CoversInstances n here → CoversInstances n spare → ((k : ℕ) → ¬ Has here k)
    → IsComing n moves path here spare
coming_begun n moves path here spare none here_places spare_places empty = subst (λ p. IsComing n moves p here spare) (sym none) (record {
  here_places = here_places;
  spare_places = spare_places;
  at = λ k. (λ h. absurd (empty k h), λ c. absurd c);
})

-- the links that move start at live instances
pub start_live : (n : Net) (moves : Moves) → HaveEnds n moves → (q : RelId) (i : InstanceId) → StartsAt n moves q i → IsLiveInstance n i
start_live n (Pair from r to s) ends q i (inl start) = subst (IsLiveInstance n) (sym start.1) ends.0
start_live n (Pair from r to s) ends q i (inr start) = subst (IsLiveInstance n) (sym start.1) ends.1
start_live n (AllOf id) ends q i link = (link.from, link.from_is)

-- a run of links that ends at a live instance begins at one
run_from_live : (n : Net) (r : RelId) (plus : Bool) (i j : InstanceId) → IsLiveInstance n j → RunsAt n r plus i j → IsLiveInstance n i
run_from_live n r false i j live same = subst (IsLiveInstance n) (sym same) live
run_from_live n r true i j live run = elim run.0 as (λ xs. Run (λ x y. LinkAt n x r y) i xs j → IsLiveInstance n i) [
  | [] ↦ λ same. subst (IsLiveInstance n) (sym same) live
  | x ∷ xs ↦ λ links. (links.0.from, links.0.from_is)
] run.1

-- a walk comes along live instances
pub comes_live : (n : Net) (moves : Moves) → HaveEnds n moves → (i : InstanceId) (path : List Place) → ComesAt n moves i path → IsLiveInstance n i
comes_live n moves ends i [] none = absurd none
comes_live n moves ends i (place ∷ rest) (last, run, comes) = run_from_live n place.rel place.plus i last (elim comes [
  | inl start ↦ start_live n moves ends place.rel last start
  | inr later ↦ (later.1.from, later.1.from_is)
]) run

-- where the list is that of the links back, the row gains where they start
pub starts_gained : (n : Net) (id : InstanceId) (r s : RelId) (list : List InstanceId) (old new : List Bool) → ((i j : InstanceId) → LinkAt n i s j ↔ LinkAt n j r i)
    → ((j : InstanceId) → Contains list j ↔ LinkAt n id s j) → RowGains old new list IsNumber → (k : ℕ) → Has new k ↔ (Has old k ⊎ StartsAt n (AllOf id) r (instance k))
starts_gained n id r s list old new back are gains k = (
  λ h. elim ((gains k).0 h) [
    | inl g ↦ inl g
    | inr g ↦ inr (subst (λ m. LinkAt n (instance m) r id) g.2 ((back id g.0).0 ((are g.0).0 g.1)))
  ],
  λ s. (gains k).1 (elim s [ inl g ↦ inl g | inr l ↦ inr (instance k, (are (instance k)).1 ((back id (instance k)).1 l), λ _. k) ]),
)

module _ (n : Net) (moves : Moves) (path : List Place) (here spare : List Bool) (walk : IsComing n moves path here spare)
    (members : List InstanceId) (are : (id : InstanceId) → Contains members id ↔ Has here id.0) where
  pub comers_live : HaveEnds n moves → AllLive n members
  comers_live ends id c = comes_live n moves ends id path ((walk.at id.0).0 ((are id).0 c))

  module _ (place : Place) (s : RelId) (back : (i j : InstanceId) → LinkAt n i s j ↔ LinkAt n j place.rel i) (none linked started : List Bool) (empty : (k : ℕ) → ¬ Has none k)
      (gains : RowGains none linked members (IsLinked n s)) (starts : (k : ℕ) → Has started k ↔ (Has linked k ⊎ StartsAt n moves place.rel (instance k))) where
    -- a link that moves starts here, or a link leads from here to an instance from which the rest of the path leads to a link that moves
    abbrev ComesHere : InstanceId → Type 0
    ComesHere i = StartsAt n moves place.rel i ⊎ ((j : InstanceId) × LinkAt n i place.rel j × ComesAt n moves j path)

    begins : (i : InstanceId) → Has started i.0 ↔ ComesHere i
    begins i = (
      λ h. elim ((starts i.0).0 h) [
        | inr start ↦ inl start
        | inl l ↦ elim ((gains i.0).0 l) [
          | inl g ↦ absurd (empty i.0 g)
          | inr g ↦ inr (g.0, (back g.0 i).0 g.2, (walk.at g.0.0).0 ((are g.0).0 g.1))
        ]
      ],
      λ c. (starts i.0).1 (elim c [
        | inl start ↦ inr start
        | inr later ↦ inl ((gains i.0).1 (inr (later.0, (are later.0).1 ((walk.at later.0.0).1 later.2), (back later.0 i).1 later.1)))
      ]),
    )

    pub started_live : HaveEnds n moves → HasLive n started
    started_live ends i h = elim ((begins i).0 h) [
      | inl start ↦ start_live n moves ends place.rel i start
      | inr later ↦ (later.1.from, later.1.from_is)
    ]

    coming_more : (next : List Bool) → length none ≡ length spare → length linked ≡ length none → length started ≡ length linked → length next ≡ length started
        → ((k : ℕ) → Has next k ↔ IsRunTo n s place.plus started k) → IsComing n moves (place ∷ path) next here
    coming_more next len len' len'' len''' runs = record {
      here_places = still_places n spare next walk.spare_places (len''' ∙ (len'' ∙ (len' ∙ len)));
      spare_places = walk.here_places;
      at = λ k. (
        λ h.
            let (i, has, run) = (runs k).0 h in
            (i, back_ahead (λ x y. LinkAt n x s y) (λ x y. LinkAt n x place.rel y) (λ x y. (back x y).0) place.plus i (instance k) run, (begins i).0 has),
        λ (last, run, comes). (runs k).1 (
          last,
          (begins last).1 comes,
          back_ahead (λ x y. LinkAt n x place.rel y) (λ x y. LinkAt n x s y) (λ x y. (back y x).1) place.plus (instance k) last run,
        ),
      );
    }

-- what is left of a path, with the place before
left_more : (path : List Place) (m : ℕ) (r : Place) → slice_get path m ≡ Some r → drop m path ≡ r ∷ drop (m + 1) path
left_more path m r is = drop_more path m r (slice_get_within path m r is) ∙ (λ j. get_or_from_slice_get path m r r is j ∷ drop (m + 1) path)

pub coming_next : (n : Net) (moves : Moves) (path : List Place) (m : ℕ) (here spare : List Bool) → IsComing n moves (drop (m + 1) path) here spare
    → (members : List InstanceId) → ((id : InstanceId) → Contains members id ↔ Has here id.0)
    → (place : Place) (s : RelId) → slice_get path m ≡ Some place → ((i j : InstanceId) → LinkAt n i s j ↔ LinkAt n j place.rel i) → (none linked started next : List Bool)
    → ((k : ℕ) → ¬ Has none k) → length none ≡ length spare → length linked ≡ length none → RowGains none linked members (IsLinked n s) → length started ≡ length linked
    → ((k : ℕ) → Has started k ↔ (Has linked k ⊎ StartsAt n moves place.rel (instance k))) → length next ≡ length started
    → ((k : ℕ) → Has next k ↔ IsRunTo n s place.plus started k) → IsComing n moves (drop m path) next here
coming_next n moves path m here spare walk members are place s is back none linked started next empty len len' gains len'' starts len''' runs =
    subst (λ p. IsComing n moves p next here) (sym (left_more path m place is))
    (coming_more n moves (drop (m + 1) path) here spare walk members are place s back none linked started empty gains starts next len len' len'' len''' runs)
