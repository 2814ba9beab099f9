-- Links and mutes that are made again, one after the other.
use Rattle.std.proofs.Common.{◌≡◌, ◌≢◌, ◌⊎◌, ◌↔◌, ℕ, suc, List, [], ◌∷◌, ◌++◌, refl, sym, ap, subst, ◌∙◌, inl, inr, arith, true}
use Rattle.std.specs.List.{AllPairs, AllZip, Contains}
use Rattle.std.specs.FinSet as set
use Rattle.cb_model.specs.declared.id.RelId.{RelId}
use Rattle.cb_model.specs.declared.node.NodeName.{NodeName}
use Rattle.cb_model.specs.declared.tables.Tables.{Tables}
use Rattle.cb_model.specs.NodeOrder.{node_cmp}
use Rattle.cb_model.proofs.Rising.{node_cmp_total, node_cmp_exact, contains_cases, contains_head, contains_tail, nothing_in_empty}
use Rattle.cb_network.specs.declared.edit.Edit.{Edit}
use Rattle.cb_network.specs.declared.edit.Edit.TheVariants.{Create, Delete, Link, Unlink, Mute, Unmute}
use Rattle.cb_network.specs.Topology.{Topology, Link as TheLink, link_cmp, IsMuted}
use Rattle.cb_network.specs.Sound.{Sound, IsInverse}
use Rattle.cb_network.specs.Regular.{IsRegular}
use Rattle.cb_network.specs.Edits.{link_of, node_name_of, without_instance, IsRelationAt}
use Rattle.cb_network.proofs.Links.{one_inverse, inverse_back}
use Rattle.cb_network.proofs.Sets.{link_cmp_total, link_cmp_exact, in_insert, decide_key}
use Rattle.cb_history.specs.Inverse.{AllMake, IsSameLink, ListsLink, AreLinksOf, AreMutesOf, LinksAgain, MutesAgain}
use Rattle.cb_history.proofs.Same.{same_members}
use Rattle.cb_history.proofs.Off.{In, link_left, mute_left}
use Rattle.cb_history.proofs.Parts.{part, link_accepted, mute_accepted}

pub pairs_head : {X : Type 0} (R : X → X → Type 0) (x : X) (xs : List X) → AllPairs R (x ∷ xs) → (y : X) → Contains xs y → R x y
pairs_head R x xs once y (k, lt, is) = subst (R x) is (once 0 (suc k) y (omega arith) (omega arith))

pub pairs_tail : {X : Type 0} (R : X → X → Type 0) (x : X) (xs : List X) → AllPairs R (x ∷ xs) → AllPairs R xs
pairs_tail R x xs once = λ i j d lt lt'. once (suc i) (suc j) d (omega arith) (omega arith)

module _ (tables : Tables) (regular : IsRegular tables) where
  -- who stands for another, the other stands for
  pub one_back : (l m : TheLink) → IsSameLink tables l m → IsSameLink tables m l
  one_back l m (inl e) = inl (sym e)
  one_back l m (inr t) = inr (record { from = sym t.to; to = sym t.from; rel = inverse_back tables regular l.rel m.rel t.rel })

  module _ (a : List ℕ) (r s : RelId) (b : List ℕ) (inverse : IsInverse tables r s) where
    abbrev l : TheLink
    l = link_of a r b

    abbrev back : TheLink
    back = link_of b s a

    -- a link stands for itself and for the one back
    pub stands_for : (x : TheLink) → IsSameLink tables l x → (x ≡ l) ⊎ (x ≡ back)
    stands_for x (inl e) = inl (sym e)
    stands_for x (inr t) =
        let rel : x.rel ≡ s = one_inverse tables r x.rel s t.rel inverse in
        let from = t.from in
        let to = t.to in
        inr (λ i. record { from = from i; rel = rel i; to = to i })

    pub itself : IsSameLink tables l l
    itself = inl refl

    pub its_back : IsSameLink tables l back
    its_back = inr (record { from = refl; to = refl; rel = inverse })

    -- and for whatever stands for the one back
    pub through_back : (m : TheLink) → IsSameLink tables m back → IsSameLink tables l m
    through_back m (inl e) = subst (λ x. IsSameLink tables l x) (sym e) its_back
    through_back m (inr t) =
        let turned : IsInverse tables s m.rel = inverse_back tables regular m.rel s t.rel in
        let rel : r ≡ m.rel = one_inverse tables s r m.rel (inverse_back tables regular r s inverse) turned in
        let to = t.from in
        let from = t.to in
        inl (λ i. record { from = from i; rel = rel i; to = to i })

-- the links are those of the topology for which none of these stands
pub record LeftLinks (t : Topology) (links : set.FinSet link_cmp) (rest : List TheLink) : Type 0 where
  pub others : (l : TheLink) → (set.contains links l ≡ true) ↔ (In t l × (¬ ListsLink t.model rest l))
  pub stand : (l : TheLink) → Contains rest l → In t l
  pub once : AllPairs (λ l m. ¬ IsSameLink t.model l m) rest

-- the muted nodes are those of the topology that none of these is
pub record LeftMutes (t : Topology) (mutes : set.FinSet node_cmp) (rest : List NodeName) : Type 0 where
  pub others : (n : NodeName) → (set.contains mutes n ≡ true) ↔ (IsMuted t n × (¬ Contains rest n))
  pub stand : (n : NodeName) → Contains rest n → IsMuted t n
  pub once : AllPairs (λ n m. ¬ (n ≡ m)) rest

module _ (t : Topology) (regular : IsRegular t.model) (sound : Sound t) where
  module _ (links : set.FinSet link_cmp) (a : List ℕ) (r s : RelId) (b : List ℕ) (inverse : IsInverse t.model r s) (ls : List TheLink)
      (left : LeftLinks t links (link_of a r b ∷ ls)) where
    abbrev link : TheLink
    link = link_of a r b

    abbrev turned : TheLink
    turned = link_of b s a

    abbrev more : set.FinSet link_cmp
    more = set.insert (set.insert links link) turned

    stood : In t link
    stood = left.stand link (contains_head link ls)

    back_stood : In t turned
    back_stood = sound.both_ways a r s b stood inverse

    gone : ¬ (set.contains links link ≡ true)
    gone h = ((left.others link).0 h).1 (link, contains_head link ls, itself t.model regular a r s b inverse)

    gone_back : ¬ (set.contains links turned ≡ true)
    gone_back h = ((left.others turned).0 h).1 (link, contains_head link ls, its_back t.model regular a r s b inverse)

    not_covered : (x : TheLink) → (x ≡ link) ⊎ (x ≡ turned) → ¬ ListsLink t.model ls x
    not_covered x (inl e) (m, c, o) =
        pairs_head (λ x y. ¬ IsSameLink t.model x y) link ls left.once m c (one_back t.model regular m link (subst (λ z. IsSameLink t.model m z) e o))
    not_covered x (inr e) (m, c, o) =
        pairs_head (λ x y. ¬ IsSameLink t.model x y) link ls left.once m c (through_back t.model regular a r s b inverse m (subst (λ z. IsSameLink t.model m z) e o))

    covered_later : (x : TheLink) → x ≢ link → x ≢ turned → ListsLink t.model (link ∷ ls) x → ListsLink t.model ls x
    covered_later x other other' (m, c, o) = elim (contains_cases link ls m c) [
      | inl e ↦ elim (stands_for t.model regular a r s b inverse x (subst (λ z. IsSameLink t.model z x) (sym e) o)) [
        | inl same ↦ absurd (other same)
        | inr same ↦ absurd (other' same)
      ]
      | inr later ↦ (m, later, o)
    ]

    -- with the link, it is left as much but for it
    pub one_more : LeftLinks t more ls
    one_more = record {
      others = λ x.
          let outer = in_insert link_cmp_total link_cmp_exact (set.insert links link) turned x in
          let inner = in_insert link_cmp_total link_cmp_exact links link x in (
            λ h. elim (outer.0 h) [
              | inl e ↦ (subst (λ z. In t z) (sym e) back_stood, not_covered x (inr e))
              | inr h' ↦ elim (inner.0 h') [
                | inl e ↦ (subst (λ z. In t z) (sym e) stood, not_covered x (inl e))
                | inr old ↦
                    let both = (left.others x).0 old in
                    (both.0, λ (m, c, o). both.1 (m, contains_tail link ls m c, o))
              ]
            ],
            λ h. outer.1 (elim (decide_key link_cmp_total link_cmp_exact x turned) [
              | inl e ↦ inl e
              | inr other' ↦ inr (inner.1 (elim (decide_key link_cmp_total link_cmp_exact x link) [
                | inl e ↦ inl e
                | inr other ↦ inr ((left.others x).1 (h.0, λ listed. h.1 (covered_later x other other' listed)))
              ]))
            ]),
          );
      stand = λ m c. left.stand m (contains_tail link ls m c);
      once = pairs_tail (λ x y. ¬ IsSameLink t.model x y) link ls left.once;
    }

    module _ (mutes : set.FinSet node_cmp) (rel : List ℕ) (at_a : IsRelationAt t a rel r) where
      pub link_step : (after : List Edit) (u : Topology) → AllMake (part t more mutes) after u → AllMake (part t links mutes) (Link a rel b ∷ after) u
      link_step after u rest = (
        part t more mutes,
        link_accepted t regular sound links mutes (λ x q y h. ((left.others (link_of x q y)).0 h).0) a rel b r s (record { at_a = at_a; inverse = inverse }) stood gone gone_back,
        rest,
      )

  -- all links are made again
  pub relink : (links : set.FinSet link_cmp) (mutes : set.FinSet node_cmp) (rest : List TheLink) (edits after : List Edit) (u : Topology)
      → LeftLinks t links rest → AllZip (LinksAgain t) rest edits → AllMake (part t t.links mutes) after u → AllMake (part t links mutes) (edits ++ after) u
  relink links mutes [] [] after u left zip then =
      let same : links ≡ t.links = same_members link_cmp_total link_cmp_exact links t.links (λ l. (
        λ h. ((left.others l).0 h).0,
        λ h. (left.others l).1 (h, λ listed. nothing_in_empty listed.0 listed.1),
      )) in
      subst (λ ls. AllMake (part t ls mutes) after u) (sym same) then
  relink links mutes [] (edit ∷ edits) after u left zip then = absurd zip
  relink links mutes (l ∷ ls) [] after u left zip then = absurd zip
  relink links mutes (l ∷ ls) (Create name class ∷ edits) after u left zip then = absurd zip.0
  relink links mutes (l ∷ ls) (Delete name ∷ edits) after u left zip then = absurd zip.0
  relink links mutes (l ∷ ls) (Unlink a rel b ∷ edits) after u left zip then = absurd zip.0
  relink links mutes (l ∷ ls) (Mute event name ∷ edits) after u left zip then = absurd zip.0
  relink links mutes (l ∷ ls) (Unmute event name ∷ edits) after u left zip then = absurd zip.0
  relink links mutes (l ∷ ls) (Link a rel b ∷ edits) after u left zip then =
      let (r, at_a, is) = zip.0 in
      let here : LeftLinks t links (link_of a r b ∷ ls) = subst (λ z. LeftLinks t links (z ∷ ls)) is left in
      let row = at_a.named.0.row in
      let s : RelId = row.inverse in
      let inverse : IsInverse t.model r s = (row, at_a.named.0.is, refl) in
      link_step links a r s b inverse ls here mutes rel at_a (edits ++ after) u
      (relink (more links a r s b inverse ls here) mutes ls edits after u (one_more links a r s b inverse ls here) zip.1 then)

  module _ (mutes : set.FinSet node_cmp) (event name : List ℕ) (ns : List NodeName) (left : LeftMutes t mutes (node_name_of event name ∷ ns)) where
    abbrev node : NodeName
    node = node_name_of event name

    muted : IsMuted t node
    muted = left.stand node (contains_head node ns)

    unheard : ¬ (set.contains mutes node ≡ true)
    unheard h = ((left.others node).0 h).1 (contains_head node ns)

    pub one_more_mute : LeftMutes t (set.insert mutes node) ns
    one_more_mute = record {
      others = λ x.
          let within = in_insert node_cmp_total node_cmp_exact mutes node x in (
            λ h. elim (within.0 h) [
              | inl e ↦ (subst (λ z. IsMuted t z) (sym e) muted, λ c. pairs_head (λ x y. ¬ (x ≡ y)) node ns left.once x c (sym e))
              | inr old ↦ let both = (left.others x).0 old in (both.0, λ c. both.1 (contains_tail node ns x c))
            ],
            λ h. within.1 (elim (decide_key node_cmp_total node_cmp_exact x node) [
              | inl e ↦ inl e
              | inr other ↦ inr ((left.others x).1 (h.0, λ c. elim (contains_cases node ns x c) [ inl e ↦ other (sym e) | inr later ↦ h.1 later ]))
            ]),
          );
      stand = λ m c. left.stand m (contains_tail node ns m c);
      once = pairs_tail (λ x y. ¬ (x ≡ y)) node ns left.once;
    }

    pub mute_step : (after : List Edit) (u : Topology) → AllMake (part t t.links (set.insert mutes node)) after u
        → AllMake (part t t.links mutes) (Mute event name ∷ after) u
    mute_step after u rest = (
      part t t.links (set.insert mutes node),
      mute_accepted t regular sound t.links mutes event name muted unheard,
      rest,
    )

  -- all mutes are made again, and then it is the whole
  pub remute : (mutes : set.FinSet node_cmp) (rest : List NodeName) (edits : List Edit) → LeftMutes t mutes rest → AllZip MutesAgain rest edits
      → AllMake (part t t.links mutes) edits t
  remute mutes [] [] left zip =
      let same : mutes ≡ t.mutes = same_members node_cmp_total node_cmp_exact mutes t.mutes (λ n. (
        λ h. ((left.others n).0 h).0,
        λ h. (left.others n).1 (h, λ c. nothing_in_empty n c),
      )) in
      ap (λ ms. part t t.links ms) same
  remute mutes [] (edit ∷ edits) left zip = absurd zip
  remute mutes (n ∷ ns) [] left zip = absurd zip
  remute mutes (n ∷ ns) (Create name class ∷ edits) left zip = absurd zip.0
  remute mutes (n ∷ ns) (Delete name ∷ edits) left zip = absurd zip.0
  remute mutes (n ∷ ns) (Link a rel b ∷ edits) left zip = absurd zip.0
  remute mutes (n ∷ ns) (Unlink a rel b ∷ edits) left zip = absurd zip.0
  remute mutes (n ∷ ns) (Unmute event name ∷ edits) left zip = absurd zip.0
  remute mutes (n ∷ ns) (Mute event name ∷ edits) left zip =
      let here : LeftMutes t mutes (node_name_of event name ∷ ns) = subst (λ z. LeftMutes t mutes (z ∷ ns)) zip.0 left in
      mute_step mutes event name ns here edits t
      (remute (set.insert mutes (node_name_of event name)) ns edits (one_more_mute mutes event name ns here) zip.1)

  -- what a deletion leaves, by the links and mutes that are listed
  pub links_after : (name : List ℕ) (links : List TheLink) → AreLinksOf t name links → LeftLinks t (without_instance t name).links links
  links_after name links are = record {
    others = λ l.
        let left = link_left t name l in (
          λ h. let both = left.0 h in (
            both.0,
            λ (m, c, o). both.1 (elim o [
              | inl e ↦ inl (subst (λ (z : TheLink). z.from ≡ name) e (are.from m c))
              | inr turn ↦ inr (turn.to ∙ are.from m c)
            ]),
          ),
          λ h. left.1 (h.0, λ end. h.1 (are.all l h.0 end)),
        );
    stand = are.stand;
    once = are.once;
  }

  pub mutes_after : (name : List ℕ) (nodes : List NodeName) → AreMutesOf t name nodes → LeftMutes t (without_instance t name).mutes nodes
  mutes_after name nodes are = record {
    others = λ n.
        let left = mute_left t name n in (
          λ h. let both = left.0 h in (both.0, λ c. both.1 (are.each n c).1),
          λ h. left.1 (h.0, λ e. h.1 (are.all n h.0 e)),
        );
    stand = λ n c. (are.each n c).0;
    once = are.once;
  }
