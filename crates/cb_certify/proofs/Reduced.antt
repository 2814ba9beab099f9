-- What a reduction of a topology's groups says of the topology.
use Rattle.std.proofs.Common.{◌≡◌, ◌+◌, ◌-◌, ◌^◌, ◌<◌, ◌≤◌, ℕ, List, [], length, get_or, slice_get, Option, Some, None, Ok, sym, ap, subst, ◌∙◌, arith}
use Rattle.std.proofs.lemmas.List.{length-map}
use Rattle.std.proofs.lemmas.List.Sums.{count_by-le-length}
use Rattle.std.proofs.lemmas.List.FromFn.{length-range_with_len}
use Rattle.std.proofs.lemmas.Option.{same_Some, slice_get-get_or}
use Rattle.cb_cert.specs.Format.{column_limit}
use Rattle.cb_validity.proofs.Canonicals.{problem_is_node}
use Rattle.cb_validity.proofs.Codebooks.{called_by}
use Rattle.cb_coding.specs.declared.book.Book.{Book}
use Rattle.cb_coding.specs.declared.book.CapBook.{CapBook}
use Rattle.cb_coding.specs.declared.book.Pair.{Pair}
use Rattle.cb_coding.specs.declared.group.Group.{Group}
use Rattle.cb_coding.specs.Distance.{differ, bit, code_at, all_columns}
use Rattle.cb_coding.specs.Groups.{codes_of}
use Rattle.cb_coding.specs.Books.{IsCapBook}
use Rattle.cb_coding.specs.Pairs.{Good, IsFirstClose}
use Rattle.cb_codes.specs.Codes.{Coded}
use Rattle.cb_codes.specs.Groups.{Grouped, named_of}
use Rattle.cb_finding.specs.Matrix.{IsMatrix}
use Rattle.cb_finding.proofs.One.{matrix_is_one}
use Rattle.cb_model.specs.declared.node.NodeName.{NodeName}
use Rattle.cb_model.specs.declared.wish.Wish.TheVariants.{Plain}
use Rattle.cb_network.specs.Topology.{Topology}
use Rattle.cb_nodes.specs.declared.id.NodeId.{NodeId}
use Rattle.cb_distance.specs.Close.{AreNumbered}
use Rattle.cb_reduce.specs.Reduced.{IsReduced}
use Rattle.cb_validity.specs.Codebooks.{HasCodebook}
use Rattle.cb_topo.specs.Numbered.{Numbered, topology_of, IsNodeNamed}
use Rattle.cb_certify.specs.declared.shortfall.ClosePair.{ClosePair}
use Rattle.cb_certify.specs.Groups.{AreGroupsOf, AreLeast, IsLeastAt}
use Rattle.cb_certify.specs.Made.{IsCapBookOf, IsChoiceOf, IsFirstPair}
use Rattle.cb_certify.specs.Members.{HasLeastNode, IsCalledBy, IsMemberAt, IsPairOf}
use Rattle.cb_certify.proofs.Named.{called_later, has_member}

module _ (t : Topology) (made : Grouped) (are : AreGroupsOf t made) (codes : Coded) (width : codes.width ≡ made.width) (rows : codes.rows ≡ codes_of made.groups) where
  wide : codes.width ≡ length are.columns
  wide = width ∙ are.wide

  pub rows_fit : length codes.rows ≤ 2 ^ 16
  rows_fit = let size = ap length rows ∙ length-map made.groups (λ (g : Group). g.code) in let few = are.few_groups in omega arith

  pub columns_fit : codes.width ≤ 2 ^ 16
  columns_fit = let same = wide in let few = are.few_columns in omega arith

  pub are_numbered : AreNumbered codes
  are_numbered = let rows_are = rows_fit in let columns_are = columns_fit in record { places_fit = omega arith; columns_fit = omega arith }

  pub cap_book_of : (book : CapBook) → IsCapBook codes.width codes.rows book → IsCapBookOf t book
  cap_book_of book is = record { columns = are.columns; groups = made.groups; matrix = are.matrix; is = rw (wide, rows) at is; few = are.few_groups }

  module _ (wanted : ℕ) where
    pub book_of : (book : Book) → IsReduced codes wanted (Ok book) → IsChoiceOf t (Plain book.distance) book.columns
    book_of book is = record {
      columns = are.columns;
      groups = made.groups;
      matrix = are.matrix;
      is = rw (wide, rows) at is.0;
    }

    -- where no two are closer, there is a codebook
    pub has_codebook : Good codes.rows (all_columns codes.width) wanted → HasCodebook t (Plain wanted)
    has_codebook good columns groups matrix =
        let here : Good (codes_of made.groups) (all_columns (length are.columns)) wanted = rw (wide, rows) at good in
        let same = matrix_is_one t are.columns columns made.groups groups are.matrix matrix in
        subst (λ (gs : List Group). Good (codes_of gs) (all_columns (length columns)) wanted) same.1
        (subst (λ (cs : List NodeName). Good (codes_of made.groups) (all_columns (length cs)) wanted) same.0 here)

    module _ (pair : Pair) (is : IsFirstClose (all_columns codes.width) codes.rows wanted pair) where
      pub first_close : IsFirstClose (all_columns (length are.columns)) (codes_of made.groups) wanted pair
      first_close = rw (wide, rows) at is

      -- both are among the groups, the second after the first
      pub places_within : (pair.first < pair.second) × (pair.second < length made.groups)
      places_within =
          let (below, within) = first_close.is_pair in
          let long = length-map made.groups (λ (g : Group). g.code) in
          (below, omega arith)

      pub pair_far : pair.distance ≤ column_limit
      pair_far =
          let v = code_at codes.rows pair.first in
          let w = code_at codes.rows pair.second in
          let most = count_by-le-length (λ k. differ (bit v k) (bit w k)) (all_columns codes.width) in
          let all = length-range_with_len 0 codes.width in
          let far = is.distance in
          let same = wide in
          let few = are.few_columns in
          omega (arith, most, all, far, same, few)

-- the first pair of the groups of numbered nodes
pub first_pair : (n : Numbered) (made : Grouped) (are : AreGroupsOf (topology_of n) made) (wanted : ℕ) (pair : Pair) (close : ClosePair)
    → IsFirstClose (all_columns (length are.columns)) (codes_of made.groups) wanted pair → IsPairOf (IsCalledBy n made.groups) pair close → IsFirstPair n wanted close
first_pair n made are wanted pair close first is =
    record { columns = are.columns; groups = made.groups; matrix = are.matrix; pair = pair; first = first; is = is }

-- the groups by their least members are called by these
pub called_least : (n : Numbered) (groups : List Group) (ids : List NodeId) → AreLeast n groups ids → (place : ℕ) → place < length groups → (id : Option NodeId)
    → IsLeastAt ids place id → IsCalledBy n groups place id
called_least n groups ids are place within None at = at
called_least n groups ids are place within (Some id) (later, at) =
    let none : Group = record { code = []; members = [] } in
    let group = get_or groups place none in
    let there = slice_get-get_or groups place none within in
    let after : place - 1 + 1 ≡ place = omega arith in
    let (other, stands, least) = are.each (place - 1) group (subst (λ k. slice_get groups k ≡ Some group) (sym after) there) in
    let same : other ≡ id = same_Some other id (sym stands ∙ at) in
    (least.node, subst (λ (k : NodeId). IsNodeNamed n k least.node) same least.named, (later, group, there, least.first))

-- the groups by their names are called by these
pub called_member : (n : Numbered) (groups : List Group) (place : ℕ) (id : Option NodeId) → IsMemberAt n (named_of groups) place id → IsCalledBy n groups place id
called_member n groups place None at = at
called_member n groups place (Some id) (later, node, least, named) = (node, named, called_later groups place node later least)

pub pair_called : (P Q : ℕ → Option NodeId → Type 0) (pair : Pair) (close : ClosePair) → ((id : Option NodeId) → P pair.first id → Q pair.first id)
    → ((id : Option NodeId) → P pair.second id → Q pair.second id) → IsPairOf P pair close → IsPairOf Q pair close
pair_called P Q pair close one other is = record { first = one close.first is.first; second = other (Some close.second) is.second; distance = is.distance }

-- each group but the first has a member, which is a node
pub has_node : (n : Numbered) (columns : List NodeName) (groups : List Group) → IsMatrix (topology_of n) columns groups → (place : ℕ) → 0 < place → place < length groups
    → HasLeastNode n (named_of groups) place
has_node n columns groups matrix place later within =
    let (node, least) = has_member (topology_of n) columns groups matrix place later within in
    let by = called_by (topology_of n) columns groups matrix place node (called_later groups place node later least) in
    record { node = node; least = least; is_node = problem_is_node (topology_of n) node by.problem }
