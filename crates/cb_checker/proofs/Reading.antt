-- Codes, columns and groups by numbers and by names.
use Rattle.std.proofs.Common.{◌≡◌, ◌↔◌, ℕ, List, [], ◌∷◌, Bool, false, length, get_or, map, refl, sym, subst, ◌∙◌, Some, None, arith}
use Rattle.std.specs.Prelude.{slice_get, slice_index_or, IsTrue}
use Rattle.std.specs.List.{AllZip}
use Rattle.std.specs.Ordering.{on}
use Rattle.std.proofs.lemmas.List.{length-map}
use Rattle.std.proofs.lemmas.Option.{same_Some, slice_get_within, slice_get-get_or, get_or_from_slice_get}
use Rattle.cb_model.proofs.Numbers.{place_in}
use Rattle.cb_model.proofs.Spread.{map_at, map_there}
use Rattle.cb_model.specs.declared.node.NodeName.{NodeName}
use Rattle.cb_model.specs.NodeOrder.{node_cmp}
use Rattle.cb_model.specs.Order.{Rises}
use Rattle.cb_coding.specs.declared.group.Problem.{Problem}
use Rattle.cb_coding.specs.declared.group.Group.{Group}
use Rattle.cb_coding.specs.Groups.{AreCodedProblems, AreGroups}
use Rattle.cb_network.specs.Nodes.{AreColumns, AreProblems as AreProblemNodes}
use Rattle.cb_cert.specs.declared.certificate.Certificate.{Certificate}
use Rattle.cb_cert.specs.declared.certificate.Span.{Span}
use Rattle.cb_cert.specs.Format.{nodes_of}
use Rattle.cb_validity.specs.Reading.{IsSpanCode as IsCodeRead, MakeGroups, ArePlaces}
use Rattle.cb_validity.specs.Reading as reading
use Rattle.cb_validity.specs.Spans.{ListsNode}
use Rattle.cb_nodes.specs.declared.id.NodeId.{NodeId}
use Rattle.cb_topo.specs.Numbered.{Numbered, topology_of, IsNodeNamed, AreNamed, IsWhole}
use Rattle.cb_graph.proofs.Chains.{named_once}
use Rattle.cb_checker.specs.Known.{IsIdAt, AreLive, IsKnown}
use Rattle.cb_checker.specs.Firsts.{AreAll}
use Rattle.cb_checker.specs.Columns.{IsColumnAt}
use Rattle.cb_checker.specs.Codes.{IsCodeOfListed}
use Rattle.cb_checker.specs.Books.{IsListing, AreReadTo}
use Rattle.cb_checker.specs.Places.{AreThere, ArePlacesOf}
use Rattle.cb_checker.proofs.Naming.{zip_right, zip_left, zip_each, live_at, stands}
use Rattle.cb_checker.proofs.Closing.{listed_names}
use Rattle.cb_checker.proofs.Spanning.{zip_lengths}

-- numbers have one list of names
names_one : (n : Numbered) (ids : List NodeId) (xs ys : List NodeName) → AreNamed n ids xs → AreNamed n ids ys → xs ≡ ys
names_one n [] [] [] a b = refl
names_one n [] (x ∷ xs) ys a b = absurd a
names_one n [] [] (y ∷ ys) a b = absurd b
names_one n (id ∷ ids) [] ys a b = absurd a
names_one n (id ∷ ids) (x ∷ xs) [] a b = absurd b
names_one n (id ∷ ids) (x ∷ xs) (y ∷ ys) a b =
    let here = named_once n id x y a.0 b.0 in
    let rest = names_one n ids xs ys a.1 b.1 in
    cc

zip_weaker : {X Y : Type 0} (R S : X → Y → Type 0) → ((x : X) (y : Y) → R x y → S x y) → (xs : List X) (ys : List Y) → AllZip R xs ys → AllZip S xs ys
zip_weaker R S to [] [] all = tt
zip_weaker R S to [] (y ∷ ys) all = absurd all
zip_weaker R S to (x ∷ xs) [] all = absurd all
zip_weaker R S to (x ∷ xs) (y ∷ ys) all = (to x y all.0, zip_weaker R S to xs ys all.1)

-- items in order, by something that they have
rises_on : {X Y : Type 0} (f : X → Y) (cmp : Y → Y → _) (xs : List X) → Rises cmp (map f xs) → Rises (on f cmp) xs
rises_on f cmp xs rise i j d low within =
    let size = length-map xs f in
    let r = rise i j (f d) low (omega arith) in
    let a = get_or_from_slice_get (map f xs) i (f (get_or xs i d)) (f d) (map_there f xs i (get_or xs i d) (slice_get-get_or xs i d (omega arith))) in
    let b = get_or_from_slice_get (map f xs) j (f (get_or xs j d)) (f d) (map_there f xs j (get_or xs j d) (slice_get-get_or xs j d within)) in
    rw (a, b) at r

module _ (n : Numbered) (ids : List NodeId) (c : Certificate) (known : IsKnown n ids c) (columns : List NodeId) (names : List NodeName)
    (are : AreColumns (topology_of n) names) (named : AreNamed n columns names) where
  pub width_same : length columns ≡ length names
  width_same = zip_lengths (IsNodeNamed n) columns names named

  -- a code that is read off by numbers is read off by names
  pub code_read : (span : Span) (listed code : List Bool) → IsListing ids span listed → IsCodeOfListed columns listed code → IsCodeRead (nodes_of c) names span code
  code_read span listed code lists coded = zip_each (λ column bit. IsTrue bit ↔ ListsNode (nodes_of c) span column) names code (coded.width ∙ width_same) (λ i column bit at_column at_bit.
      let id = zip_left (IsNodeNamed n) columns names named i column at_column in
      let is = listed_names n ids c known 0 None span lists.placed lists.are listed lists.each column id.0.0 id.2 in
      let same : bit ≡ slice_index_or listed id.0.0 false = sym (get_or_from_slice_get code i bit false at_bit) ∙ coded.each i id.0 id.1 in
      ((λ yes. is.0 (sym same ∙ yes)), (λ l. same ∙ is.1 l)))

  -- the places of columns by their names
  pub places_read : (numbers places : List ℕ) → ArePlacesOf columns ids numbers places → ArePlaces (nodes_of c) names numbers places
  places_read numbers places all = zip_weaker (λ i place. (id : NodeId) × IsIdAt ids i id × (slice_get columns place ≡ Some id)) (reading.IsColumnPlace (nodes_of c) names) (λ i place is.
      let s = stands n ids c known i is.0 is.1 in
      let z = zip_right (IsNodeNamed n) columns names named place is.0 is.2 in
      let same : z.0 ≡ s.0 = named_once n is.0 z.0 s.0 z.2 s.2 in
      record { column = s.0; names = s.1; is = subst (λ x. slice_get names place ≡ Some x) same z.1 }) numbers places all

  module _ (problems : List NodeId) (problem_names : List NodeName) (problems_are : AreProblemNodes (topology_of n) problem_names)
      (problems_named : AreNamed n problems problem_names) (spans : List Span) (coded : List Problem)
      (read : AreReadTo n ids problems columns spans (length problems) coded) where
    names_read : map (λ (p : Problem). p.name) coded ≡ problem_names
    names_read =
        let f : Problem → NodeName = λ p. p.name in
        let size = length-map coded f in
        names_one n problems (map f coded) problem_names
        (zip_each (IsNodeNamed n) problems (map f coded) (size ∙ read.count) (λ i id x at_id at_x.
        let p = map_at f coded i x at_x in
        let e = read.each i p.0 p.1 in
        let same : e.0 ≡ id = same_Some e.0 id (sym e.2 ∙ at_id) in
        subst (λ (k : NodeId). IsNodeNamed n k x) same (subst (IsNodeNamed n e.0) p.2 e.4.coded.named))) problems_named

    pub are_problems : AreCodedProblems (length columns) coded
    are_problems = record {
      rise = rises_on (λ (p : Problem). p.name) node_cmp coded (subst (Rises node_cmp) (sym names_read) problems_are.rise);
      wide = λ i d low. (let e = read.each i (get_or coded i d) (slice_get-get_or coded i d low) in e.4.coded.code.width);
    }

    pub groups_made : length problems ≡ length spans → (groups : List Group) → AreGroups (length columns) coded groups
        → MakeGroups (topology_of n) (nodes_of c) spans names groups
    groups_made same groups groups_are = record {
      problems = coded;
      columns_are = are;
      problems_are = subst (AreProblemNodes (topology_of n)) (sym names_read) problems_are;
      codes_are = zip_each (λ span (p : Problem). IsCodeRead (nodes_of c) names span p.code) spans coded (read.count ∙ same) (λ i span p at_span at_p.
          let e = read.each i p at_p in
          let one : e.1 ≡ span = same_Some e.1 span (sym e.3 ∙ at_span) in
          subst (λ (s : Span). IsCodeRead (nodes_of c) names s p.code) one (code_read e.1 e.4.listed p.code e.4.lists e.4.coded.code));
      groups_are = subst (λ w. AreGroups w coded groups) width_same groups_are;
    }

-- each number of a column is that of one of all columns
pub all_there : (n : Numbered) → IsWhole n → (ids : List NodeId) → AreLive n ids → (columns : List NodeId) (names : List NodeName) → AreColumns (topology_of n) names
    → AreNamed n columns names → (numbers : List ℕ) → AreAll (IsColumnAt n ids numbers) (length numbers) → AreThere columns ids numbers
all_there n whole ids live columns names are named numbers good = λ i k at.
    let low = slice_get_within numbers i k at in
    let column = good i low in
    let same : column.number ≡ k = same_Some column.number k (sym column.is ∙ at) in
    let is = live_at n ids live column.number column.id column.at in
    let place = place_in names is.0 (are.all is.0 (column.watched is.0 is.1)) in
    let there = zip_left (IsNodeNamed n) columns names named place.0 is.0 place.1 in
    let one : there.0 ≡ column.id = whole.one there.0 column.id is.0 there.2 is.1 in
    (column.id, subst (λ j. IsIdAt ids j column.id) same column.at, (place.0, subst (λ (x : NodeId). slice_get columns place.0 ≡ Some x) one there.1))
