-- What searches from all problems cost, each in its turn.
use Rattle.std.proofs.Common.{◌≡◌, inl, inr, ℕ, ◌+◌, ◌-◌, ◌<◌, ◌≤◌, List, [], ◌∷◌, ◌++◌, length, sum, take, drop, slice_index_or, refl, sym, ap, subst, arith}
use Rattle.std.specs.List.{AllZip, Contains}
use Rattle.std.specs.List.Sorted.{IsPermutation}
use Rattle.std.proofs.lemmas.List.{take-append-drop, take_more}
use Rattle.std.proofs.lemmas.List.Elements.{Contains-append_left}
use Rattle.std.proofs.lemmas.List.Sums.{sum_by-append, sum_by-cons}
use Rattle.std.proofs.lemmas.List.Sorted.{IsPermutation-append_right}
use Rattle.cb_model.proofs.Rising.{contains_cases, contains_head, contains_tail, nothing_in_empty}
use Rattle.cb_model.specs.declared.node.NodeName.{NodeName}
use Rattle.cb_network.specs.Causes.{Causes}
use Rattle.cb_network.specs.Nodes.{IsCount}
use Rattle.cb_change.specs.Costs.{IsOpenCost}
use Rattle.cb_change.proofs.Totals.{every_open_cost}
use Rattle.cb_nodes.specs.declared.id.NodeId.{NodeId}
use Rattle.cb_breadth.specs.Trees.{CountsReached}
use Rattle.cb_successors.specs.Rows.{ones}
use Rattle.cb_topo.specs.Numbered.{Numbered, topology_of, IsLiveNode, IsWhole}
use Rattle.cb_graph.specs.Edges.{EdgeAt}
use Rattle.cb_graph.proofs.Chains.{named_once}
use Rattle.cb_cache.specs.Filled.{HasSize}
use Rattle.cb_cache.specs.Numbers.{IsProblemNumber, AreProblemNumbers}
use Rattle.cb_cache.specs.Rows.{CostInSomeOrder}
use Rattle.cb_cache.proofs.Gathered.{gathered_permuted}
use Rattle.cb_cache.proofs.Opened.{within_cost}
use Rattle.cb_cache.proofs.Sizes.{reached_within}
use Rattle.cb_matrix.specs.Searched.{CostsWithin}

zip_split : {X Y : Type 0} (R : X → Y → Type 0) (xs others : List X) (ys : List Y) → AllZip R (xs ++ others) ys
    → (first rest : List Y) × (ys ≡ first ++ rest) × AllZip R xs first × AllZip R others rest
zip_split R [] others ys zip = ([], ys, refl, tt, zip)
zip_split R (x ∷ xs) others [] zip = absurd zip
zip_split R (x ∷ xs) others (y ∷ ys) zip =
    let (first, rest, same, one, other) = zip_split R xs others ys zip.1 in
    (y ∷ first, rest, ap (λ zs. y ∷ zs) same, (zip.0, one), other)

zip_join : {X Y : Type 0} (R : X → Y → Type 0) (xs others : List X) (ys rest : List Y) → AllZip R xs ys → AllZip R others rest → AllZip R (xs ++ others) (ys ++ rest)
zip_join R [] others [] rest zip zip' = zip'
zip_join R [] others (y ∷ ys) rest zip zip' = absurd zip
zip_join R (x ∷ xs) others [] rest zip zip' = absurd zip
zip_join R (x ∷ xs) others (y ∷ ys) rest zip zip' = (zip.0, zip_join R xs others ys rest zip.1 zip')

pub none_cost : (n : Numbered) (steps : ℕ) → CostsWithin n [] steps steps
none_cost n steps sizes zip = omega arith

module _ (n : Numbered) (whole : IsWhole n) where
  -- one more is searched from
  pub one_cost : (ids : List NodeId) (i : ℕ) (d : NodeId) (steps mid new_steps : ℕ) → i < length ids → IsLiveNode n (slice_index_or ids i d) → CostsWithin n (take i ids) steps mid
      → CountsReached (EdgeAt n) (slice_index_or ids i d).0 (length n.nodes) mid new_steps → CostsWithin n (take (i + 1) ids) steps new_steps
  one_cost ids i d steps mid new_steps low live before counts sizes zip =
      let id = slice_index_or ids i d in
      let (first, rest, same, one, other) = zip_split (HasSize n) (take i ids) (id ∷ []) sizes (subst (λ xs. AllZip (HasSize n) xs sizes) (take_more ids i d low) zip) in
      let few = before first one in
      last first rest same few other
    where
      last : (first rest : List ℕ) → sizes ≡ first ++ rest → mid ≤ steps + sum first → AllZip (HasSize n) (slice_index_or ids i d ∷ []) rest → new_steps ≤ steps + sum sizes
      last first [] same few other = absurd other
      last first (size ∷ rest) same few other =
          let id = slice_index_or ids i d in
          let within : ones counts.row ≤ size = reached_within n whole id.0 live.0 counts.row size live.1 counts.each (other.0 live.0 live.1) in
          let all = ap sum same in
          let both = sum_by-append (λ k. k) first (size ∷ rest) in
          let one = sum_by-cons (λ k. k) size rest in
          let more = counts.few in
          omega arith

  module _ (cost : ℕ) (is : IsOpenCost (topology_of n) cost) where
    size_in : (names : List NodeName) (sizes : List ℕ) → AllZip (λ p k. IsCount (Causes (topology_of n) p) k) names sizes → (p : NodeName) → Contains names p
        → (size : ℕ) × IsCount (Causes (topology_of n) p) size
    size_in [] sizes zip p has = absurd (nothing_in_empty p has)
    size_in (x ∷ names) [] zip p has = absurd zip
    size_in (x ∷ names) (k ∷ sizes) zip p has = elim (contains_cases x names p has) [
      | inl same ↦ (k, subst (λ q. IsCount (Causes (topology_of n) q) k) same zip.0)
      | inr later ↦ size_in names sizes zip.1 p later
    ]

    size_of : (id : NodeId) → IsProblemNumber n id → (size : ℕ) × HasSize n id size
    size_of id (name, named, problem) =
        let (size, counted) = size_in is.names is.sizes is.sized name ((is.each name).1 problem) in
        (size, λ other its. subst (λ q. IsCount (Causes (topology_of n) q) size) (named_once n id name other named its) counted)

    sizes_of : (ids : List NodeId) → ((id : NodeId) → Contains ids id → IsProblemNumber n id) → (sizes : List ℕ) × AllZip (HasSize n) ids sizes
    sizes_of [] each = ([], tt)
    sizes_of (a ∷ ids) each =
        let here = size_of a (each a (contains_head a ids)) in
        let rest = sizes_of ids (λ id has. each id (contains_tail a ids id has)) in
        (here.0 ∷ rest.0, (here.1, rest.1))

    module _ (ids : List NodeId) (are : AreProblemNumbers n ids) where
      -- where not all were searched from
      pub part_cost : (count steps new_steps : ℕ) → CostsWithin n (take count ids) steps new_steps → new_steps ≤ steps + cost
      part_cost count steps new_steps within =
          let (sizes, sized) = sizes_of ids (λ id has. (are.each id).0 has) in
          let (first, rest, same, one, other) = zip_split (HasSize n) (take count ids) (drop count ids) sizes (subst (λ xs. AllZip (HasSize n) xs sizes) (sym (take-append-drop count ids)) sized) in
          let few = within first one in
          let all = ap sum same in
          let both = sum_by-append (λ k. k) first rest in
          every_open_cost (topology_of n) steps new_steps (within_cost n whole ids are steps new_steps (record { sizes = sizes; sized = sized; few = omega arith })) cost is

      -- the first ones one by one, and the others in some order
      pub both_cost : (count steps mid new_steps : ℕ) → CostsWithin n (take count ids) steps mid → CostInSomeOrder n (drop count ids) mid new_steps → new_steps ≤ steps + cost
      both_cost count steps mid new_steps within ordered =
          let front = take count ids in
          let other = ordered.order in
          let moved : IsPermutation ids (front ++ other) = subst (λ xs. IsPermutation xs (front ++ other)) (take-append-drop count ids) (IsPermutation-append_right front (drop count ids) other ordered.permuted) in
          let all = gathered_permuted n ids (front ++ other) moved are in
          let (first, sized) = sizes_of front (λ id has. (all.each id).0 (Contains-append_left front other id has)) in
          let few = within first sized in
          let more = ordered.cost.few in
          let both = sum_by-append (λ k. k) first ordered.cost.sizes in
          every_open_cost (topology_of n) steps new_steps (within_cost n whole (front ++ other) all steps new_steps
          (record { sizes = first ++ ordered.cost.sizes; sized = zip_join (HasSize n) front other first ordered.cost.sizes sized ordered.cost.sized; few = omega arith })) cost is
