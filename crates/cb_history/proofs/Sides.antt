-- The links from an instance represent all its links.
use Rattle.std.proofs.Common.{◌≡◌, ◌≢◌, ◌⊎◌, ℕ, ◌<◌, ◌≤◌, List, length, slice_index_or, refl, sym, subst, ◌∙◌, inl, inr, arith}
use Rattle.std.specs.List.{Contains}
use Rattle.std.proofs.lemmas.Bool.{cases_order}
use Rattle.std.proofs.lemmas.List.Elements.{Contains-get_or}
use Rattle.cb_model.specs.declared.id.RelId.{RelId}
use Rattle.cb_model.proofs.Rising.{name_cmp_total, name_cmp_exact}
use Rattle.cb_network.specs.Topology.{Topology, Link as TheLink, HasLink}
use Rattle.cb_network.specs.Sound.{Sound, IsInverse}
use Rattle.cb_network.specs.Regular.{IsRegular}
use Rattle.cb_network.specs.Edits.{link_of}
use Rattle.cb_network.proofs.Links.{one_inverse, inverse_back}
use Rattle.cb_network.proofs.Sets.{decide_key}
use Rattle.cb_history.specs.Inverse.{IsSameLink, ListsLink, IsLinkAtEnd, IsFirstSide, AreFirstSides, AreLinksOf}
use Rattle.cb_history.proofs.Relink.{one_back, through_back}

same_rel : (r s : RelId) → r.0 ≡ s.0 → r ≡ s
same_rel r s e = λ i. record { 0 = e i }

module _ (t : Topology) (regular : IsRegular t.model) (sound : Sound t) (name : List ℕ) (links : List TheLink) (are : AreFirstSides t name links) where
  -- the relation of a link that stands has an inverse
  inverse_of : (l : TheLink) → HasLink t l.from l.rel l.to → (s : RelId) × IsInverse t.model l.rel s
  inverse_of l has = let f = sound.fit l.from l.rel l.to has in (f.has.row.inverse, (f.has.row, f.has.is, refl))

  first_by : (l : TheLink) (s : RelId) → IsInverse t.model l.rel s → (l.to ≡ name → l.rel.0 ≤ s.0) → IsFirstSide t.model name l
  first_by l s inverse few back is to =
      let same : s ≡ back = one_inverse t.model l.rel s back inverse is in
      subst (λ (k : RelId). l.rel.0 ≤ k.0) same (few to)

  -- a link from the instance is listed, itself or the other way
  listed_from : (l : TheLink) → HasLink t l.from l.rel l.to → l.from ≡ name → ListsLink t.model links l
  listed_from l has from =
      let (s, inverse) = inverse_of l has in
      elim (cases_order l.rel.0 s.0) [
        | inl e ↦ (l, are.all l has from (first_by l s inverse (λ _. omega arith)), inl refl)
        | inr (inl below) ↦ (l, are.all l has from (first_by l s inverse (λ _. omega arith)), inl refl)
        | inr (inr above) ↦ elim (decide_name l.to) [
          | inl here ↦
              let turned : TheLink = link_of l.to s l.from in
              let stands : HasLink t l.to s l.from = sound.both_ways l.from l.rel s l.to has inverse in
              let back : IsInverse t.model s l.rel = inverse_back t.model regular l.rel s inverse in
              (turned, are.all turned stands here (first_by turned l.rel back (λ _. omega arith)), inr (record { from = refl; to = refl; rel = back }))
          | inr away ↦ (l, are.all l has from (first_by l s inverse (λ to. absurd (away to))), inl refl)
        ]
      ]
    where
      decide_name : (x : List ℕ) → (x ≡ name) ⊎ (x ≢ name)
      decide_name x = decide_key name_cmp_total name_cmp_exact x name

  listed : (l : TheLink) → HasLink t l.from l.rel l.to → IsLinkAtEnd name l → ListsLink t.model links l
  listed l has (inl from) = listed_from l has from
  listed l has (inr to) =
      let (s, inverse) = inverse_of l has in
      let turned : TheLink = link_of l.to s l.from in
      let (m, c, o) = listed_from turned (sound.both_ways l.from l.rel s l.to has inverse) to in
      (m, c, one_back t.model regular l m (through_back t.model regular l.from l.rel s l.to inverse m o))

  -- no two listed links are the same link
  unlike : (l m : TheLink) → Contains links l → Contains links m → IsSameLink t.model l m → l ≡ m
  unlike l m in_l in_m (inl e) = e
  unlike l m in_l in_m (inr turn) =
      let from : m.from ≡ l.from = are.from m in_m ∙ sym (are.from l in_l) in
      let l_to : l.to ≡ name = sym turn.from ∙ are.from m in_m in
      let m_to : m.to ≡ name = turn.to ∙ are.from l in_l in
      let one : l.rel.0 ≤ m.rel.0 = are.first l in_l m.rel turn.rel l_to in
      let other : m.rel.0 ≤ l.rel.0 = are.first m in_m l.rel (inverse_back t.model regular l.rel m.rel turn.rel) m_to in
      let rel : l.rel ≡ m.rel = same_rel l.rel m.rel (omega arith) in
      let starts : l.from ≡ m.from = sym from in
      let ends : l.to ≡ m.to = l_to ∙ sym m_to in
      λ i. record { from = starts i; rel = rel i; to = ends i }

  pub first_sides_cover_all : AreLinksOf t name links
  first_sides_cover_all = record {
    from = are.from;
    stand = are.stand;
    all = listed;
    once = λ i j d lt lt' o. are.once i j d lt lt' (unlike _ _ (nth_link i d (omega arith)) (nth_link j d lt') o);
  }
    where
      nth_link : (i : ℕ) (d : TheLink) → i < length links → Contains links (slice_index_or links i d)
      nth_link i d lt = Contains-get_or links i d lt
