-- `explain` has a cost.
use Rattle.std.proofs.Common.{◌+◌, ℕ, List, [], ◌∷◌, sum, refl}
use Rattle.std.specs.List.{AllZip}
use Rattle.cb_model.specs.declared.node.NodeName.{NodeName}
use Rattle.cb_change.proofs.Existing.{has_open_cost}
use Rattle.cb_network.specs.Causes.{Causes}
use Rattle.cb_network.specs.Nodes.{IsCount}
use Rattle.cb_network.specs.Regular.{IsRegular}
use Rattle.cb_network.specs.Topology.{Topology}
use Rattle.cb_existence.proofs.Answering.{burst_exists}
use Rattle.cb_existence.proofs.Matrices.{caused_are_counted}
use Rattle.cb_outcome.specs.Costs.{IsTotalCaused, problems_explained}
use Rattle.cb_outcome.specs.Laws.{ExplainCostExists}

-- each of these nodes causes some number of nodes
sizes_exist : (t : Topology) → IsRegular t.model → (problems : List NodeName) → (sizes : List ℕ) × AllZip (λ p n. IsCount (Causes t p) n) problems sizes
sizes_exist t regular [] = ([], tt)
sizes_exist t regular (p ∷ problems) =
    let (n, count) = caused_are_counted t regular p in
    let (sizes, sized) = sizes_exist t regular problems in
    (n ∷ sizes, (count, sized))

total_exists : (t : Topology) → IsRegular t.model → (problems : List NodeName) → (total : ℕ) × IsTotalCaused t problems total
total_exists t regular problems =
    let (sizes, sized) = sizes_exist t regular problems in
    (sum sizes, record { sizes = sizes; sized = sized; total_is = refl })

pub explain_cost_exists : ExplainCostExists
explain_cost_exists t nodes regular sound rise =
    let (searched, is_searched) = has_open_cost t regular sound in
    let (finding, burst) = burst_exists t nodes regular rise in
    let (explained, is_explained) = total_exists t regular (problems_explained finding.groups) in (
      searched + explained,
      record {
        searched = searched;
        is_searched = is_searched;
        finding = finding;
        burst = burst;
        explained = explained;
        is_explained = is_explained;
        cost_is = refl;
      },
    )
