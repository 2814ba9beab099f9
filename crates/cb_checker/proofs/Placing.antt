-- Nodes that entries list, by their numbers and by their names.
use Rattle.std.proofs.Common.{◌≡◌, ℕ, ◌<◌, List, get_or, sym, subst, ◌∙◌, Some, arith}
use Rattle.std.specs.Prelude.{slice_get}
use Rattle.std.proofs.lemmas.Option.{same_Some, slice_get-get_or}
use Rattle.cb_model.specs.declared.node.NodeName.{NodeName}
use Rattle.cb_cert.specs.declared.certificate.Certificate.{Certificate}
use Rattle.cb_cert.specs.declared.certificate.Span.{Span}
use Rattle.cb_cert.specs.declared.certificate.Entry.{Entry}
use Rattle.cb_cert.specs.Format.{nodes_of}
use Rattle.cb_validity.specs.Spans.{IsListedAt}
use Rattle.cb_nodes.specs.declared.id.NodeId.{NodeId}
use Rattle.cb_topo.specs.Numbered.{Numbered, IsNodeNamed, IsLiveNode}
use Rattle.cb_checker.specs.Known.{IsIdAt, AreLive, IsKnown}
use Rattle.cb_checker.specs.Listed.{IsPlaced, ArePlaced}
use Rattle.cb_checker.proofs.Naming.{one_id, live_at, stands, has_id}

-- an entry lists one node
pub one_placed : (ids : List NodeId) (span : Span) (place : ℕ) (a b : NodeId) → IsPlaced ids span place a → IsPlaced ids span place b → a ≡ b
one_placed ids span place a b at_a at_b =
    let entry : at_b.entry ≡ at_a.entry = same_Some at_b.entry at_a.entry (sym at_b.is ∙ at_a.is) in
    one_id ids at_a.entry.node a b at_a.at (subst (λ (e : Entry). IsIdAt ids e.node b) entry at_b.at)

pub live_placed : (n : Numbered) (ids : List NodeId) → AreLive n ids → (span : Span) (place : ℕ) (id : NodeId) → IsPlaced ids span place id → IsLiveNode n id
live_placed n ids live span place id at = live_at n ids live at.entry.node id at.at

-- what is placed below a place has a number there
pub placed_there : (ids : List NodeId) (span : Span) (to : ℕ) (placed : List NodeId) → ArePlaced ids span to placed → (place : ℕ) → place < to
    → (id : NodeId) × (slice_get placed place ≡ Some id) × IsPlaced ids span place id
placed_there ids span to placed are place low =
    let size = are.count in
    let none : NodeId = record { 0 = 0 } in
    let at = slice_get-get_or placed place none (omega arith) in
    (get_or placed place none, at, are.each place (get_or placed place none) at)

module _ (n : Numbered) (ids : List NodeId) (c : Certificate) (known : IsKnown n ids c) where
  pub listed_by : (span : Span) (place : ℕ) (id : NodeId) → IsPlaced ids span place id
      → (name : NodeName) × IsListedAt (nodes_of c) span place name × IsNodeNamed n id name
  listed_by span place id at =
      let s = stands n ids c known at.entry.node id at.at in
      (s.0, record { entry = at.entry; is = at.is; names = s.1 }, s.2)

  pub placed_by : (span : Span) (place : ℕ) (name : NodeName) → IsListedAt (nodes_of c) span place name
      → (id : NodeId) × IsPlaced ids span place id × IsNodeNamed n id name
  placed_by span place name at =
      let s = has_id n ids c known at.entry.node name at.names in
      (s.0, record { entry = at.entry; is = at.is; at = s.1 }, s.2)
