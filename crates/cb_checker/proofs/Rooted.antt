-- The first entry of a span by its number and by its name.
use Rattle.std.proofs.Common.{ℕ, ◌+◌, List, [], ◌∷◌, refl, subst, Option, None, Some}
use Rattle.std.specs.Prelude.{Err}
use Rattle.std.specs.List.{All}
use Rattle.cb_model.specs.declared.node.NodeName.{NodeName}
use Rattle.cb_network.specs.Nodes.{IsProblem}
use Rattle.cb_cert.specs.declared.certificate.Certificate.{Certificate}
use Rattle.cb_cert.specs.declared.certificate.Span.{Span}
use Rattle.cb_cert.specs.Format.{nodes_of}
use Rattle.cb_validity.specs.declared.verdict.Rejected.TheVariants.{BadRoot}
use Rattle.cb_validity.specs.Checks.{root_check, Passes, Judges, IsAskedFor, IsGoodRoot}
use Rattle.cb_nodes.specs.declared.id.NodeId.{NodeId}
use Rattle.cb_topo.specs.Numbered.{Numbered, topology_of, IsNodeNamed}
use Rattle.cb_graph.proofs.Chains.{named_once}
use Rattle.cb_checker.specs.Known.{IsKnown}
use Rattle.cb_checker.specs.Spans.{IsAskedAt, IsRootAt, IsNamedRoot, asked}
use Rattle.cb_checker.proofs.Joined.{fails_here, pass_one}
use Rattle.cb_checker.proofs.Naming.{stands, has_id}

-- a root is asked for by its number where it is by its name
right_name : (n : Numbered) (ids : List NodeId) (c : Certificate) → IsKnown n ids c → (root : Option NodeId) (name : Option NodeName) → IsNamedRoot n root name
    → (id : NodeId) (x : NodeName) → IsNodeNamed n id x → IsAskedAt n root id → IsAskedFor (topology_of n) name x
right_name n ids c known None None named id x is right = right x is
right_name n ids c known None (Some name) named id x is right = absurd named
right_name n ids c known (Some root) None named id x is right = absurd named
right_name n ids c known (Some root) (Some name) named id x is right =
    named_once n root x name (subst (λ (i : NodeId). IsNodeNamed n i x) right is) named

right_id : (n : Numbered) (ids : List NodeId) (c : Certificate) → IsKnown n ids c → (root : Option NodeId) (name : Option NodeName) → IsNamedRoot n root name
    → (id : NodeId) (x : NodeName) → IsNodeNamed n id x → IsAskedFor (topology_of n) name x → IsAskedAt n root id
right_id n ids c known None None named id x is right = λ y named_y. subst (IsProblem (topology_of n)) (named_once n id x y is named_y) right
right_id n ids c known None (Some name) named id x is right = absurd named
right_id n ids c known (Some root) None named id x is right = absurd named
right_id n ids c known (Some root) (Some name) named id x is right =
    known.whole.one id root name (subst (IsNodeNamed n id) right is) named

module _ (n : Numbered) (ids : List NodeId) (c : Certificate) (known : IsKnown n ids c) (root : Option NodeId) (name : Option NodeName)
    (named : IsNamedRoot n root name) (before : ℕ) (span : Span) where
  pub good_root : (id : NodeId) → IsRootAt n ids root span id → All (Passes (topology_of n) c) (root_check (asked before name span) ∷ [])
  good_root id at =
      let s = stands n ids c known at.entry.node id at.at in
      let good : IsGoodRoot (topology_of n) (nodes_of c) (asked before name span) = record {
        entry = at.entry;
        node = s.0;
        is = at.is;
        names = s.1;
        right = right_name n ids c known root name named id s.0 s.2 at.right;
        alone = at.alone;
      } in
      pass_one (topology_of n) c (root_check (asked before name span)) good

  pub bad_root : ((id : NodeId) → ¬ IsRootAt n ids root span id)
      → Judges (topology_of n) c (root_check (asked before name span) ∷ []) (Err (BadRoot (before + 1)))
  bad_root none = fails_here (topology_of n) c (root_check (asked before name span)) [] (BadRoot (before + 1)) (λ good.
      let h = has_id n ids c known good.entry.node good.node good.names in
      none h.0 (record {
        entry = good.entry;
        is = good.is;
        at = h.1;
        right = right_id n ids c known root name named h.0 good.node h.2 good.right;
        alone = good.alone;
      })) refl
