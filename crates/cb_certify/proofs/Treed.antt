-- Problems by their trees.
use Rattle.std.proofs.Common.{◌≡◌, ◌<◌, ℕ, List, Bool, Some, length, slice_get, get_or, refl, sym, subst, ◌∙◌, arith}
use Rattle.std.specs.Global.{Vec}
use Rattle.std.specs.List.{All}
use Rattle.std.proofs.lemmas.Option.{slice_get_within, get_or_from_slice_get}
use Rattle.cb_nodes.specs.declared.id.NodeId.{NodeId}
use Rattle.cb_breadth.specs.declared.visit.Visit.{Visit}
use Rattle.cb_breadth.specs.Lists.{AreBelow}
use Rattle.cb_coding.specs.declared.group.Problem.{Problem}
use Rattle.cb_coding.specs.Groups.{AreCodedProblems, AreGroups}
use Rattle.cb_finding.proofs.Nearest.{coded_are_wide}
use Rattle.cb_graph.specs.Edges.{EdgeAt}
use Rattle.cb_network.specs.Sound.{Sound}
use Rattle.cb_topo.specs.Columns.{AreAllColumns}
use Rattle.cb_topo.specs.Numbered.{Numbered, topology_of, IsNodeNamed, IsWhole}
use Rattle.cb_breadth.specs.Trees.{HasNode}
use Rattle.cb_matrix.specs.Codes.{IsCodeWhere}
use Rattle.cb_matrix.specs.Coded.{IsCodeFrom, IsProblemAt}
use Rattle.cb_matrix.proofs.Held.{length_zip}
use Rattle.cb_matrix.proofs.Matched.{all_coded}
use Rattle.cb_span.specs.Searched.{AreTreesOf, IsTreeOf}
use Rattle.cb_span.specs.declared.problems.Trees.{Trees}
use Rattle.cb_breadth.proofs.Led.{tree_has}
use Rattle.cb_matrix.proofs.Searching.{tree_below}
use Rattle.cb_span.proofs.Zips.{zip_right}
use Rattle.cb_certify.specs.declared.groups.CodedGroups.{CodedGroups}
use Rattle.cb_certify.specs.Groups.{AreGroupsIn}
use Rattle.cb_certify.proofs.Adding.{AreAdded, all_coded_are, all_groups_are, groups_few}
use Rattle.cb_certify.proofs.Named.{name_at}

module _ (n : Numbered) (trees : Trees) (are : AreTreesOf n trees) where
  abbrev nodes : List ℕ
  nodes = trees.order.nodes.items

  pub nodes_below : AreBelow (length n.nodes) nodes
  nodes_below i node at = (are.order.is.ranked i node at).0

  -- the problem at a place
  module _ (place : ℕ) (id : NodeId) (at : slice_get trees.problems place ≡ Some id) where
    module _ (visits : Vec Visit) (there : visits ≡ get_or trees.visits.items place visits) where
      tree : IsTreeOf n trees.order id visits
      tree =
          let (found, is, has) = zip_right (IsTreeOf n trees.order) trees.problems trees.visits.items are.each place id at in
          subst (IsTreeOf n trees.order id) (sym (get_or_from_slice_get trees.visits.items place found visits is) ∙ sym there) has

      pub visits_below : All (λ (v : Visit). v.node < length nodes) visits.items
      visits_below = tree_below (EdgeAt n) nodes tree.rank visits.items tree.is (slice_get_within nodes tree.rank id.0 tree.ranked.node_is)

      pub code_from : (columns : List NodeId) (code : List Bool) → IsCodeWhere columns (HasNode nodes visits.items) code → IsCodeFrom n columns id code
      code_from columns code is = record {
        width = is.width;
        each = λ k node column.
            let by = is.each k node column in
            let has = tree_has (EdgeAt n) (length n.nodes) nodes trees.order.ranks.items are.order.is tree.rank id.0 tree.ranked.node_is visits.items tree.is node in
            (λ bit. has.0 (by.0 bit), λ leads. by.1 (has.1 leads));
      }

  -- the problem at a place, with its code
  pub problem_there : (place : ℕ) (id : NodeId) → slice_get trees.problems place ≡ Some id → (columns : List NodeId) (code : List Bool) → IsCodeFrom n columns id code
      → (p : Problem) × IsProblemAt n columns id p × (p.code ≡ code)
  problem_there place id at columns code coded =
      let (name, there, named) = name_at n trees.problems are.names are.named place id at in
      (record { name = name; code = code }, record { named = named; coded = coded }, refl)

  -- the groups of all problems are those of the topology
  pub groups_are : IsWhole n → Sound (topology_of n) → (columns : List NodeId) → AreAllColumns n columns → (i : ℕ) → i ≡ length trees.problems → (made : CodedGroups)
      → AreAdded n columns trees.problems i made.codes.rows made.least → made.codes.width ≡ length columns → AreGroupsIn n made
  groups_are whole sound columns all i end made added wide =
      let t = topology_of n in
      let at_all = all_coded_are n columns trees.problems i made.codes.rows made.least end added in
      let coded = all_coded n whole sound columns trees.problems added.problems all.names are.names all.are all.named are.problems are.named at_all in
      let size = length_zip (IsNodeNamed n) columns all.names all.named in
      let problems_are : AreCodedProblems (length columns) added.problems =
      subst (λ width. AreCodedProblems width added.problems) (sym size) (coded_are_wide t all.names added.problems coded.problems_are) in
      let few = groups_few n columns trees.problems i made.codes.rows made.least end added problems_are in
      let few_problems = coded.few_problems in
      record {
        groups = record { width = made.codes.width; groups = added.groups };
        are = record {
          columns = all.names;
          matrix = record {
            problems = added.problems;
            columns_are = coded.columns_are;
            problems_are = coded.problems_are;
            groups_are = subst (λ width. AreGroups width added.problems added.groups) size
                (all_groups_are n columns trees.problems i made.codes.rows made.least end added problems_are);
          };
          wide = wide ∙ size;
          few_columns = coded.few_columns;
          few_groups = omega (arith, few, few_problems);
        };
        width = refl;
        codes = added.rows;
        least = added.least_are;
      }
