-- The positions of a certificate's columns among all.
use Rattle.std.proofs.Common.{◌≡◌, ℕ, ◌+◌, ◌-◌, ◌<◌, ◌≤◌, List, [], ◌∷◌, ◌++◌, Option, Some, take, length, get_or, sym, ap, subst, ◌∙◌, arith}
use Rattle.std.specs.Prelude.{slice_get}
use Rattle.std.specs.List.{Contains}
use Rattle.std.proofs.lemmas.List.Elements.{All-contains}
use Rattle.std.proofs.lemmas.Option.{same_Some, slice_get_within, slice_get-get_or, get_or_from_slice_get}
use Rattle.cb_model.specs.declared.node.NodeName.{NodeName}
use Rattle.cb_model.proofs.Numbers.{take_more, zip_push}
use Rattle.cb_network.specs.Nodes.{IsNodeOf, IsColumn, IsSymptomNode, AreColumns}
use Rattle.cb_network.specs.Sound.{Sound, symptom_limit}
use Rattle.cb_network.specs.Topology.{Topology}
use Rattle.cb_network.proofs.One.{columns_are_one}
use Rattle.cb_validity.specs.Reading.{ArePlaces, IsColumnPlace}
use Rattle.cb_validity.specs.Spans.{StandsFor}
use Rattle.cb_validity.specs.Valid.{AreColumnNumbers}
use Rattle.cb_validity.proofs.Passing.{zip_lengths, zip_at}
use Rattle.cb_nodes.specs.declared.id.NodeId.{NodeId}
use Rattle.cb_topo.specs.Columns.{AreAllColumns, IsPositionOf}
use Rattle.cb_topo.specs.Numbered.{Numbered, topology_of, IsNodeNamed, IsWhole}
use Rattle.cb_topo.specs.declared.kind.NodeKind.TheVariants.{Column}
use Rattle.cb_topo.proofs.Listing.{of_topology}
use Rattle.cb_cache.proofs.Opened.{few_of_rising}
use Rattle.cb_session.specs.Stated.{ArePlacesFor}

-- a number of the certificate is that of a column
module _ (t : Topology) (nodes : List NodeName) (numbers : List ℕ) (are : AreColumnNumbers t nodes numbers) (k number : ℕ)
    (at : slice_get numbers k ≡ Some number) where
  here : (column : NodeName) × StandsFor nodes number column × IsColumn t column
  here =
      let same = zip_lengths (StandsFor nodes) numbers are.columns are.names in
      let low = slice_get_within numbers k number at in
      let none : NodeName = record { event = []; instance = [] } in
      let column = get_or are.columns k none in
      let names = zip_at (StandsFor nodes) numbers are.columns k number none are.names low in
      (column, subst (λ n. StandsFor nodes n column) (get_or_from_slice_get numbers k number number at) names, are.each k none (omega arith))

  -- the number is counted from 1, and within the nodes
  pub counted : 0 < number
  counted = here.1.counted

  pub within : number - 1 < length nodes
  within = slice_get_within nodes (number - 1) here.0 here.1.is

  module _ (column : NodeName) (is : slice_get nodes (number - 1) ≡ Some column) where
    pub column_is : IsColumn t column
    column_is = subst (IsColumn t) (same_Some here.0 column (sym here.1.is ∙ is)) here.2

    -- with its place, there are one more
    pub one_more_place : (places : List ℕ) (place : ℕ) → ArePlacesFor t nodes (take k numbers) places
        → ((all : List NodeName) → AreColumns t all → slice_get all place ≡ Some column) → ArePlacesFor t nodes (take (k + 1) numbers) (places ++ place ∷ [])
    one_more_place places place so_far found all columns =
        let one : IsColumnPlace nodes all number place = record { column = column; names = record { counted = counted; is = is }; is = found all columns } in
        subst (λ (ns : List ℕ). ArePlaces nodes all ns (places ++ place ∷ [])) (sym (take_more numbers k number at))
        (zip_push (IsColumnPlace nodes all) (take k numbers) places number place (so_far all columns) one)

-- there are no more places than there can be columns
pub few_places : (t : Topology) → Sound t → (nodes all : List NodeName) → AreColumns t all → (numbers places : List ℕ) → AreColumnNumbers t nodes numbers
    → ArePlacesFor t nodes numbers places → length places ≤ symptom_limit
few_places t sound nodes all are numbers places stated places_are =
    let columns = stated.columns in
    let few : length columns ≤ symptom_limit =
    few_of_rising (IsSymptomNode t) (Contains columns) columns symptom_limit stated.rise (λ q. (λ has. has, λ has. has))
    (λ q has. (let column : IsColumn t q = All-contains (IsColumn t) columns q stated.each has in column.symptom)) sound.few_symptoms
    in
    let named = zip_lengths (StandsFor nodes) numbers columns stated.names in
    let placed = zip_lengths (IsColumnPlace nodes all) numbers places (places_are all are) in
    omega arith

-- where a column is, by its number
module _ (n : Numbered) (whole : IsWhole n) (ids : List NodeId) (all : AreAllColumns n ids) (column : NodeName) (is : IsColumn (topology_of n) column) where
  pub is_node : IsNodeOf (topology_of n) column
  is_node = of_topology Column (topology_of n) column is

  module _ (id : NodeId) (named : IsNodeNamed n id column) where
    pub column_there : (i : ℕ) × (slice_get ids i ≡ Some id) × (slice_get all.names i ≡ Some column)
    column_there =
        let (i, low, there) = all.are.all column is in
        let as_many = zip_lengths (IsNodeNamed n) ids all.names all.named in
        let lower : i < length ids = omega arith in
        let own : IsNodeNamed n (get_or ids i id) column =
        subst (IsNodeNamed n (get_or ids i id)) there (zip_at (IsNodeNamed n) ids all.names i id column all.named lower)
        in (
          i,
          slice_get-get_or ids i id lower ∙ ap Some (whole.one (get_or ids i id) id column own named),
          slice_get-get_or all.names i column low ∙ ap Some there,
        )

    pub place_is : (found : Option ℕ) (place : ℕ) → IsPositionOf ids id found → found ≡ Some place → (names : List NodeName) → AreColumns (topology_of n) names
        → slice_get names place ≡ Some column
    place_is found place at same names are =
        let (i, there, name) = column_there in
        let alone = subst (IsPositionOf ids id) same at in
        let last : i ≡ place = (alone i).0 there in
        subst (λ k. slice_get names k ≡ Some column) last
        (subst (λ (ns : List NodeName). slice_get ns i ≡ Some column) (columns_are_one (topology_of n) all.names names all.are are) name)
