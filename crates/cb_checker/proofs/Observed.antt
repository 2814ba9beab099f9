-- Columns of a certificate by their numbers and by their names.
use Rattle.std.proofs.Common.{◌≡◌, ℕ, suc, ◌+◌, ◌-◌, ◌<◌, List, [], length, map, refl, sym, subst, ◌∙◌, arith}
use Rattle.std.specs.Prelude.{Err, slice_index_or}
use Rattle.std.specs.List.{All}
use Rattle.std.proofs.lemmas.Option.{same_Some, slice_get_within, slice_get-get_or, get_or_from_slice_get}
use Rattle.cb_model.specs.declared.node.NodeName.{NodeName}
use Rattle.cb_network.specs.Nodes.{IsColumn}
use Rattle.cb_network.specs.Topology.{Topology}
use Rattle.cb_cert.specs.declared.certificate.Certificate.{Certificate}
use Rattle.cb_cert.specs.Format.{nodes_of}
use Rattle.cb_validity.specs.declared.verdict.Rejected.TheVariants.{BadNode, BadColumn}
use Rattle.cb_validity.specs.Checks.{node_check, column_check, certificate_columns, places, Passes, Judges, IsGoodNode, IsGoodColumn}
use Rattle.cb_nodes.specs.declared.id.NodeId.{NodeId}
use Rattle.cb_topo.specs.Numbered.{Numbered, topology_of}
use Rattle.cb_graph.proofs.Chains.{named_once}
use Rattle.cb_checker.specs.Firsts.{AreAll, IsFirstNot}
use Rattle.cb_checker.specs.Known.{IsIdAt, IsKnown}
use Rattle.cb_checker.specs.Columns.{IsColumnAt}
use Rattle.cb_checker.proofs.Joined.{fails_here, place_fails, place_passes}
use Rattle.cb_checker.proofs.Naming.{one_id, stands, has_id, names_rise, numbers_rise}

pub bad_node : (t : Topology) (c : Certificate) (nodes : List NodeName) (place : ℕ) → nodes_of c ≡ nodes → IsFirstNot (IsGoodNode t nodes) (length nodes) place
    → Judges t c (map node_check (places nodes)) (Err (BadNode (place + 1)))
bad_node t c nodes place same first =
    let moved : (k : ℕ) → IsGoodNode t nodes k → IsGoodNode t (nodes_of c) k = λ k good. subst (λ ns. IsGoodNode t ns k) (sym same) good in
    let back : IsGoodNode t (nodes_of c) place → IsGoodNode t nodes place = λ good. subst (λ ns. IsGoodNode t ns place) same good in
    place_fails t c node_check nodes place first.within (λ k low. moved k (first.before k low)) (BadNode (place + 1))
    (fails_here t c (node_check place) [] (BadNode (place + 1)) (λ good. first.bad (back good)) refl)

pub good_nodes : (t : Topology) (c : Certificate) (nodes : List NodeName) → nodes_of c ≡ nodes → AreAll (IsGoodNode t nodes) (length nodes)
    → All (Passes t c) (map node_check (places nodes))
good_nodes t c nodes same good = place_passes t c node_check nodes (λ k low. subst (λ ns. IsGoodNode t ns k) (sym same) (good k low))

module _ (n : Numbered) (ids : List NodeId) (c : Certificate) (known : IsKnown n ids c) (columns : List ℕ) (same : certificate_columns c ≡ columns) where
  good_column : (place : ℕ) → IsColumnAt n ids columns place → IsGoodColumn (topology_of n) (nodes_of c) columns place
  good_column place at =
      let s = stands n ids c known at.number at.id at.at in
      record {
        number = at.number;
        column = s.0;
        is = at.is;
        names = s.1;
        watched = at.watched s.0 s.2;
        above = λ before i other next there stands_i. names_rise n ids c known i at.number other s.0 stands_i s.1 (at.above before i next there);
      }

  column_at : (place : ℕ) → AreAll (IsColumnAt n ids columns) place → IsGoodColumn (topology_of n) (nodes_of c) columns place → IsColumnAt n ids columns place
  column_at place before good =
      let h = has_id n ids c known good.number good.column good.names in
      record {
        number = good.number;
        id = h.0;
        is = good.is;
        at = h.1;
        watched = λ name named. subst (IsColumn (topology_of n)) (named_once n h.0 good.column name h.2 named) good.watched;
        above = λ k other next there.
            let earlier = before k (omega arith) in
            let number : earlier.number ≡ other = same_Some earlier.number other (sym earlier.is ∙ there) in
            let s = stands n ids c known other earlier.id (subst (λ i. IsIdAt ids i earlier.id) number earlier.at) in
            numbers_rise n ids c known other good.number s.0 good.column s.1 good.names (good.above k other s.0 next there s.1);
      }

  pub bad_column : (place : ℕ) → IsFirstNot (IsColumnAt n ids columns) (length columns) place
      → Judges (topology_of n) c (map column_check (places columns)) (Err (BadColumn (place + 1)))
  bad_column place first =
      let t = topology_of n in
      let moved : (k : ℕ) → IsGoodColumn t (nodes_of c) columns k → IsGoodColumn t (nodes_of c) (certificate_columns c) k =
      λ k good. subst (λ cs. IsGoodColumn t (nodes_of c) cs k) (sym same) good
      in
      let back : IsGoodColumn t (nodes_of c) (certificate_columns c) place → IsGoodColumn t (nodes_of c) columns place =
      λ good. subst (λ cs. IsGoodColumn t (nodes_of c) cs place) same good
      in
      place_fails t c column_check columns place first.within (λ k low. moved k (good_column k (first.before k low))) (BadColumn (place + 1))
      (fails_here t c (column_check place) [] (BadColumn (place + 1)) (λ good. first.bad (column_at place first.before (back good))) refl)

  pub good_columns : AreAll (IsColumnAt n ids columns) (length columns) → All (Passes (topology_of n) c) (map column_check (places columns))
  good_columns good =
      place_passes (topology_of n) c column_check columns (λ k low. subst (λ cs. IsGoodColumn (topology_of n) (nodes_of c) cs k) (sym same) (good_column k (good k low)))

module _ (n : Numbered) (ids : List NodeId) (columns : List ℕ) (place : ℕ) (column : IsColumnAt n ids columns place) where
  number_is : slice_index_or columns place 0 ≡ column.number
  number_is = get_or_from_slice_get columns place column.number 0 column.is

  pub column_id : (id : NodeId) → IsIdAt ids (slice_index_or columns place 0) id → column.id ≡ id
  column_id id at = one_id ids column.number column.id id column.at (subst (λ k. IsIdAt ids k id) number_is at)

  pub no_number : ((id : NodeId) → ¬ IsIdAt ids (slice_index_or columns place 0) id) → ⊥
  no_number none = none column.id (subst (λ k. IsIdAt ids k column.id) (sym number_is) column.at)

  pub column_above : (place ≡ 0 → ⊥) → slice_index_or columns (place - 1) 0 < slice_index_or columns place 0
  column_above some =
      let low = slice_get_within columns place column.number column.is in
      let before = slice_get-get_or columns (place - 1) 0 (omega arith) in
      let e : place ≡ suc (place - 1) = omega (arith, some) in
      subst (λ k. slice_index_or columns (place - 1) 0 < k) (sym number_is) (column.above (place - 1) (slice_index_or columns (place - 1) 0) e before)
