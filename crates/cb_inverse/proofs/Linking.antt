-- Links that are listed one after the other.
use Rattle.std.proofs.Common.{◌≡◌, ◌≢◌, ◌⊎◌, ◌↔◌, ◌++◌, ◌∷◌, [], ◌<◌, ◌≤◌, ◌+◌, ℕ, List, Some, length, take, slice_index_or, refl, sym, ap, subst, ◌∙◌, inl, inr, arith}
use Rattle.std.specs.List.{slice_get, AllZip, Contains}
use Rattle.std.proofs.lemmas.Bool.{cases_order}
use Rattle.std.proofs.lemmas.List.{take_more}
use Rattle.std.proofs.lemmas.List.Quantifiers.{all_pairs_push}
use Rattle.std.proofs.lemmas.List.Elements.{Contains-append_left, Contains-append_cases, Contains-push, Contains-get_or}
use Rattle.std.proofs.lemmas.Option.{slice_get_within}
use Rattle.cb_model.specs.declared.id.RelId.{RelId}
use Rattle.cb_model.specs.declared.tables.RelRow.{RelRow}
use Rattle.cb_model.specs.declared.tables.Tables.{Tables}
use Rattle.cb_model.specs.WellTyped.{WellTyped}
use Rattle.cb_model.proofs.Rising.{contains_cases, nothing_in_empty}
use Rattle.cb_network.specs.declared.edit.Edit.{Edit}
use Rattle.cb_network.specs.declared.edit.Edit.TheVariants.{Link}
use Rattle.cb_network.specs.Topology.{Topology, Link as TheLink, HasClass, HasLink}
use Rattle.cb_network.specs.Sound.{Sound, IsInverse}
use Rattle.cb_network.specs.Regular.{IsRegular, IsReturn}
use Rattle.cb_network.specs.Edits.{IsRelationAt}
use Rattle.cb_network.proofs.Links.{one_inverse}
use Rattle.cb_network.proofs.Typed.{typed_is_regular}
use Rattle.cb_history.specs.Inverse.{IsFirstSide, LinksAgain}
use Rattle.cb_history.proofs.Sides.{first_sides_cover_all}
use Rattle.cb_instances.specs.declared.id.InstanceId.{InstanceId}
use Rattle.cb_instances.specs.Net.{Net, IsNamed, IsLiveInstance, LinkAt, Once, IsWholeNet, name_at}
use Rattle.cb_instances.proofs.Showing.{same_inside}
use Rattle.cb_nodes.proofs.Listing.{not_before as not_in_prefix}
use Rattle.cb_topo.proofs.Naming.{name_is, is_named}
use Rattle.cb_inverse.specs.Listed.{AreLinkEdits, AreAllLinked, IsBeforePosition, IsAmongNamed, IsBeforeOrAmong, AddsFirstSide, link_at}

pub zip_push : {X Y : Type 0} (R : X → Y → Type 0) (xs : List X) (ys : List Y) (x : X) (y : Y) → AllZip R xs ys → R x y → AllZip R (xs ++ x ∷ []) (ys ++ y ∷ [])
zip_push R [] [] x y zip r = (r, tt)
zip_push R [] (b ∷ ys) x y zip r = absurd zip
zip_push R (a ∷ xs) [] x y zip r = absurd zip
zip_push R (a ∷ xs) (b ∷ ys) x y zip r = (zip.0, zip_push R xs ys x y zip.1 r)

pub in_push : {X : Type 0} (xs : List X) (x y : X) → Contains (xs ++ x ∷ []) y → Contains xs y ⊎ (y ≡ x)
in_push xs x y c = elim (Contains-append_cases xs (x ∷ []) y c) [
  | inl old ↦ inl old
  | inr new ↦ elim (contains_cases x [] y new) [ inl e ↦ inr (sym e) | inr none ↦ absurd (nothing_in_empty y none) ]
]

-- none is listed, since none was looked at
pub none_listed : (t : Topology) (name : List ℕ) (P : TheLink → Type 0) → ((l : TheLink) → ¬ P l) → AreLinkEdits t name P []
none_listed t name P none = record {
  links = [];
  are = record {
    from = λ l c. absurd (nothing_in_empty l c);
    stand = λ l c. absurd (nothing_in_empty l c);
    first = λ l c. absurd (nothing_in_empty l c);
    seen = λ l c. absurd (nothing_in_empty l c);
    all = λ l has from first seen. absurd (none l seen);
    once = λ i j d lt lt'. absurd (omega arith);
  };
  make = tt;
}

-- more were looked at, none of which is to be listed
pub none_more : (t : Topology) (name : List ℕ) (P Q : TheLink → Type 0) (edits : List Edit) → ((l : TheLink) → P l → Q l)
    → ((l : TheLink) → HasLink t l.from l.rel l.to → l.from ≡ name → IsFirstSide t.model name l → Q l → P l)
    → AreLinkEdits t name P edits → AreLinkEdits t name Q edits
none_more t name P Q edits to back e = record {
  links = e.links;
  are = record {
    from = e.are.from;
    stand = e.are.stand;
    first = e.are.first;
    seen = λ l c. to l (e.are.seen l c);
    all = λ l has from first seen. e.are.all l has from first (back l has from first seen);
    once = e.are.once;
  };
  make = e.make;
}

-- one more is listed
pub one_more : (t : Topology) (name : List ℕ) (P Q : TheLink → Type 0) (edits : List Edit) (l : TheLink) (edit : Edit) → ((m : TheLink) → P m → Q m)
    → ((m : TheLink) → HasLink t m.from m.rel m.to → m.from ≡ name → IsFirstSide t.model name m → Q m → P m ⊎ (m ≡ l))
    → ¬ P l → Q l → HasLink t l.from l.rel l.to → l.from ≡ name → IsFirstSide t.model name l → LinksAgain t l edit
    → AreLinkEdits t name P edits → AreLinkEdits t name Q (edits ++ edit ∷ [])
one_more t name P Q edits l edit to back new seen has from first again e =
    let are = e.are in
    let either : (R : TheLink → Type 0) → ((m : TheLink) → Contains e.links m → R m) → R l → (m : TheLink) → Contains (e.links ++ l ∷ []) m → R m =
    λ R old here m c. elim (in_push e.links l m c) [ inl c' ↦ old m c' | inr same ↦ subst R (sym same) here ] in
    record {
      links = e.links ++ l ∷ [];
      are = record {
        from = either (λ m. m.from ≡ name) are.from from;
        stand = either (λ m. HasLink t m.from m.rel m.to) are.stand has;
        first = either (λ m. IsFirstSide t.model name m) are.first first;
        seen = either Q (λ m c. to m (are.seen m c)) seen;
        all = λ m has' from' first' past'. elim (back m has' from' first' past') [
          | inl old ↦ Contains-append_left e.links (l ∷ []) m (are.all m has' from' first' old)
          | inr same ↦ subst (Contains (e.links ++ l ∷ [])) (sym same) (Contains-push e.links l)
        ];
        once = all_pairs_push (λ a b. a ≢ b) e.links l are.once (λ k d lt same. new (subst P same (are.seen _ (Contains-get_or e.links k d lt))));
      };
      make = zip_push (LinksAgain t) e.links edits l edit e.make again;
    }

among_push : (n : Net) (ids : List InstanceId) (id : InstanceId) (q : List ℕ) → IsAmongNamed n (ids ++ id ∷ []) q → IsAmongNamed n ids q ⊎ IsNamed n id q
among_push n ids id q (i, c, named) = elim (in_push ids id i c) [ inl old ↦ inl (i, old, named) | inr same ↦ inr (subst (λ z. IsNamed n z q) same named) ]

module _ (n : Net) (whole : IsWholeNet n) (id : InstanceId) (live : IsLiveInstance n id) (rel : RelId) (ids : List InstanceId)
    (exactly : (to : InstanceId) → Contains ids to ↔ LinkAt n id rel to) (once : Once ids) where
  abbrev t : Topology
  t = n.topology

  abbrev name : List ℕ
  name = name_at n id

  named : IsNamed n id name
  named = is_named n id live

  -- before the first of them
  pub at_start : (edits : List Edit) → AreLinkEdits t name (IsBeforePosition rel.0) edits → AreLinkEdits t name (IsBeforeOrAmong n rel []) edits
  at_start edits e = none_more t name (IsBeforePosition rel.0) (IsBeforeOrAmong n rel []) edits (λ l before. inl before)
      (λ l has from first seen. elim seen [ inl before ↦ before | inr (_, (i, c, _)) ↦ absurd (nothing_in_empty i c) ]) e

  -- a link by the relation that stands leads to one of these instances
  leads_to_one : (l : TheLink) → HasLink t l.from l.rel l.to → l.from ≡ name → l.rel ≡ rel → IsAmongNamed n ids l.to
  leads_to_one l has from same =
      let (i, j, i_is, j_is) = whole.ends l.from l.rel l.to has in
      let i_same : i ≡ id = whole.one i id name (subst (IsNamed n i) from i_is) named in
      let at : LinkAt n id rel j = record {
        from = l.from;
        to = l.to;
        from_is = subst (λ z. IsNamed n z l.from) i_same i_is;
        to_is = j_is;
        linked = subst (λ r. HasLink t l.from r l.to) same has;
      } in
      (j, (exactly j).1 at, j_is)

  -- after the last
  pub at_end : (edits : List Edit) → AreLinkEdits t name (IsBeforeOrAmong n rel ids) edits → AreLinkEdits t name (IsBeforePosition (rel.0 + 1)) edits
  at_end edits e = none_more t name (IsBeforeOrAmong n rel ids) (IsBeforePosition (rel.0 + 1)) edits
      (λ l seen. elim seen [ inl before ↦ omega arith | inr (same, _) ↦ let here = ap (λ (r : RelId). r.0) same in omega arith ])
      (λ l has from first seen. elim (cases_order l.rel.0 rel.0) [
        | inl here ↦
            let same : l.rel ≡ rel = (λ i. record { 0 = here i }) in
            inr (same, leads_to_one l has from same)
        | inr (inl below) ↦ inl below
        | inr (inr above) ↦ absurd (omega arith)
      ]) e

  module _ (k : ℕ) (d to : InstanceId) (low : k < length ids) (is : slice_index_or ids k d ≡ to) where
    prefix : take (k + 1) ids ≡ take k ids ++ to ∷ []
    prefix = take_more ids k d low ∙ ap (λ x. take k ids ++ x ∷ []) is

    -- the instance is one that the link leads to
    pub at : LinkAt n id rel to
    at = (exactly to).0 (subst (Contains ids) is (Contains-get_or ids k d low))

    to_named : IsNamed n to (name_at n to)
    to_named = is_named n to (at.to, at.to_is)

    abbrev l : TheLink
    l = link_at n id rel to

    stands : HasLink t name rel (name_at n to)
    stands =
        subst (λ x. HasLink t x rel (name_at n to)) (sym (name_is n id at.from at.from_is))
        (subst (λ y. HasLink t at.from rel y) (sym (name_is n to at.to at.to_is)) at.linked)

    grows : (m : TheLink) → IsBeforeOrAmong n rel (take k ids) m → IsBeforeOrAmong n rel (take (k + 1) ids) m
    grows m seen = elim seen [
      | inl before ↦ inl before
      | inr (same, (i, c, named')) ↦ inr (same, (i, subst (λ xs. Contains xs i) (sym prefix) (Contains-append_left (take k ids) (to ∷ []) i c), named'))
    ]

    -- a link that is looked at now, and was not before, is this one
    now : (m : TheLink) → m.from ≡ name → IsBeforeOrAmong n rel (take (k + 1) ids) m → IsBeforeOrAmong n rel (take k ids) m ⊎ (m ≡ l)
    now m from seen = elim seen [
      | inl before ↦ inl (inl before)
      | inr (same, among) ↦ elim (among_push n (take k ids) to m.to (subst (λ xs. IsAmongNamed n xs m.to) prefix among)) [
        | inl old ↦ inl (inr (same, old))
        | inr here ↦
            let ends : m.to ≡ name_at n to = sym (name_is n to m.to here) in
            inr (λ i. record { from = from i; rel = same i; to = ends i })
      ]
    ]

    not_seen : ¬ IsBeforeOrAmong n rel (take k ids) l
    not_seen seen = elim seen [
      | inl before ↦ omega arith
      | inr (_, (i, c, is')) ↦
          let same : i ≡ to = whole.one i to (name_at n to) is' to_named in
          not_in_prefix ids k d once low (subst (Contains (take k ids)) (same ∙ sym is) c)
    ]

    pub next_linked : (edits more : List Edit) → AreLinkEdits t name (IsBeforeOrAmong n rel (take k ids)) edits → AddsFirstSide n id rel to edits more
        → AreLinkEdits t name (IsBeforeOrAmong n rel (take (k + 1) ids)) more
    next_linked edits more e (inl (first, (edit, again, same))) =
        subst (AreLinkEdits t name (IsBeforeOrAmong n rel (take (k + 1) ids))) (sym same)
        (one_more t name (IsBeforeOrAmong n rel (take k ids)) (IsBeforeOrAmong n rel (take (k + 1) ids)) edits l edit grows (λ m _ from _ seen. now m from seen) not_seen
        (inr (refl, (to, subst (λ xs. Contains xs to) (sym prefix) (Contains-push (take k ids) to), to_named)))
        stands refl first again e)
    next_linked edits more e (inr (later, same)) =
        subst (AreLinkEdits t name (IsBeforeOrAmong n rel (take (k + 1) ids))) (sym same)
        (none_more t name (IsBeforeOrAmong n rel (take k ids)) (IsBeforeOrAmong n rel (take (k + 1) ids)) edits grows
        (λ m _ from first seen. elim (now m from seen) [ inl old ↦ old | inr here ↦ absurd (later (subst (IsFirstSide t.model name) here first)) ]) e)

-- of a link to itself and the one back, the one by the greater relation isn't the first side
pub is_later : (n : Net) (id : InstanceId) (rel back : RelId) (to : InstanceId) → IsInverse n.topology.model rel back → to ≡ id → back.0 < rel.0
    → ¬ IsFirstSide n.topology.model (name_at n id) (link_at n id rel to)
is_later n id rel back to inverse same less first =
    let few : rel.0 ≤ back.0 = first back inverse (ap (name_at n) same) in
    omega arith

-- any other link is
pub is_first : (n : Net) → IsWholeNet n → (id : InstanceId) (rel back : RelId) (to : InstanceId) → LinkAt n id rel to → IsInverse n.topology.model rel back
    → (to ≢ id) ⊎ (rel.0 ≤ back.0) → IsFirstSide n.topology.model (name_at n id) (link_at n id rel to)
is_first n whole id rel back to link inverse (inl away) other is ends =
    let here : IsNamed n id (name_at n id) = is_named n id (link.from, link.from_is) in
    absurd (away (whole.one to id (name_at n id) (subst (IsNamed n to) ends (is_named n to (link.to, link.to_is))) here))
is_first n whole id rel back to link inverse (inr few) other is ends =
    subst (λ (k : RelId). rel.0 ≤ k.0) (one_inverse n.topology.model rel back other inverse is) few

-- the Link by the name of the relation makes the link
pub links_again : (n : Net) → Sound n.topology → (id : InstanceId) (rel : RelId) (to : InstanceId) → LinkAt n id rel to → (row : RelRow)
    → slice_get n.topology.model.relations rel.0 ≡ Some row → (edit : Edit) → edit ≡ Link (name_at n id) row.name (name_at n to)
    → LinksAgain n.topology (link_at n id rel to) edit
links_again n sound id rel to link row row_is edit edit_is =
    let f = sound.fit link.from rel link.to link.linked in
    let same : f.has.row ≡ row = same_inside f.has.row row (sym f.has.is ∙ row_is) in
    let at_name : IsRelationAt n.topology (name_at n id) row.name rel = record {
      class = f.class_a;
      of_class = subst (λ x. HasClass n.topology x f.class_a) (sym (name_is n id link.from link.from_is)) f.a_is;
      named = (f.has, ap (λ (r : RelRow). r.name) same);
    } in
    subst (LinksAgain n.topology (link_at n id rel to)) (sym edit_is) (rel, at_name, refl)

-- once all relations were looked at, all links are listed
pub all_linked : (t : Topology) → IsRegular t.model → Sound t → (name : List ℕ) (edits : List Edit)
    → AreLinkEdits t name (IsBeforePosition (length t.model.relations)) edits → AreAllLinked t name edits
all_linked t regular sound name edits e = record {
  links = e.links;
  are = first_sides_cover_all t regular sound name e.links (record {
    from = e.are.from;
    stand = e.are.stand;
    first = e.are.first;
    all = λ l has from first.
        let f = sound.fit l.from l.rel l.to has in
        e.are.all l has from first (slice_get_within t.model.relations l.rel.0 f.has.row f.has.is);
    once = e.are.once;
  });
  make = e.make;
}

module _ (tables : Tables) (typed : WellTyped tables) (position : ℕ) (row : RelRow) (is : slice_get tables.relations position ≡ Some row) where
  ret : IsReturn tables (record { 0 = position }) row
  ret = (typed_is_regular tables typed).inverses (record { 0 = position }) row is

  -- the inverse has a row, and its inverse is the relation itself
  pub inverse_within : row.inverse.0 < length tables.relations
  inverse_within = slice_get_within tables.relations row.inverse.0 ret.back ret.is

  pub inverse_of_inverse : (back : RelRow) → slice_get tables.relations row.inverse.0 ≡ Some back → back.inverse.0 ≡ position
  inverse_of_inverse back back_is =
      let same : ret.back ≡ back = same_inside ret.back back (sym ret.is ∙ back_is) in
      ap (λ (r : RelRow). r.inverse.0) (sym same) ∙ ap (λ (r : RelId). r.0) ret.inverse

-- a position that is not below the number of relations is above all of them
pub all_positions : (t : Topology) (name : List ℕ) (position : ℕ) (edits : List Edit) → length t.model.relations ≤ position → Sound t
    → AreLinkEdits t name (IsBeforePosition position) edits → AreLinkEdits t name (IsBeforePosition (length t.model.relations)) edits
all_positions t name position edits end sound e = record {
  links = e.links;
  are = record {
    from = e.are.from;
    stand = e.are.stand;
    first = e.are.first;
    seen = λ l c. let f = sound.fit l.from l.rel l.to (e.are.stand l c) in slice_get_within t.model.relations l.rel.0 f.has.row f.has.is;
    all = λ l has from first low. e.are.all l has from first (omega (arith, low, end));
    once = e.are.once;
  };
  make = e.make;
}
