-- An entry after the first one, by numbers and by names.
use Rattle.std.proofs.Common.{◌≡◌, ◌⊎◌, inl, inr, ℕ, ◌+◌, ◌-◌, ◌<◌, ◌≤◌, List, [], ◌∷◌, ◌++◌, Bool, true, length, refl, sym, ap, subst, ◌∙◌, Option, Some, arith}
use Rattle.std.specs.Prelude.{Err, slice_get, slice_set}
use Rattle.std.specs.List.{All}
use Rattle.std.proofs.lemmas.Option.{same_Some, slice_get_within}
use Rattle.std.proofs.lemmas.List.{length-append, length-set}
use Rattle.cb_model.proofs.Numbers.{slice_get-push_before, slice_get-push_last}
use Rattle.cb_coding.proofs.Pushed.{pushed_cases}
use Rattle.cb_successors.proofs.Marks.{has_set, set_cases}
use Rattle.cb_model.specs.declared.node.NodeName.{NodeName}
use Rattle.cb_network.specs.Causes.{Edge}
use Rattle.cb_cert.specs.declared.certificate.Certificate.{Certificate}
use Rattle.cb_cert.specs.declared.certificate.Entry.{Entry}
use Rattle.cb_cert.specs.declared.certificate.Span.{Span}
use Rattle.cb_cert.specs.Format.{nodes_of}
use Rattle.cb_validity.specs.declared.verdict.Rejected.TheVariants.{BadParent, NoEdge, Repeated}
use Rattle.cb_validity.specs.Spans.{IsListedAt, HasEdge}
use Rattle.cb_validity.specs.Checks.{Asked, parent_check, edge_check, new_check, entry_checks, Passes, Judges, EntryIs, IsNewInSpan}
use Rattle.cb_validity.proofs.Stages.{passed_go_on}
use Rattle.cb_nodes.specs.declared.id.NodeId.{NodeId}
use Rattle.cb_successors.specs.Rows.{Has}
use Rattle.cb_topo.specs.Numbered.{Numbered, topology_of, IsNodeNamed}
use Rattle.cb_graph.specs.Edges.{EdgeAt, number}
use Rattle.cb_graph.proofs.Chains.{named_once}
use Rattle.cb_checker.specs.declared.marks.SpanNodes.{SpanNodes}
use Rattle.cb_checker.specs.Known.{IsIdAt, IsKnown}
use Rattle.cb_checker.specs.Listed.{IsPlaced, ArePlaced, AreListed, AreMarked}
use Rattle.cb_checker.specs.Spans.{asked}
use Rattle.cb_checker.proofs.Joined.{fails_here, pass_three, pass_one, pass_two}
use Rattle.cb_checker.proofs.Naming.{stands, has_id, one_id}
use Rattle.cb_checker.proofs.Coding.{still}
use Rattle.cb_checker.proofs.Placing.{listed_by, placed_by, one_placed, placed_there}

module _ (n : Numbered) (ids : List NodeId) (c : Certificate) (known : IsKnown n ids c) (before : ℕ) (root : Option NodeName) (span : Span)
    (place : ℕ) (entry : Entry) (at : slice_get span.entries place ≡ Some entry) where
  abbrev a : Asked
  a = asked before root span

  pub bad_parent : ((entry.parent ≡ 0) ⊎ (place < entry.parent))
      → Judges (topology_of n) c (entry_checks a place) (Err (BadParent (before + place + 1)))
  bad_parent wrong = fails_here (topology_of n) c (parent_check a place) (edge_check a place ∷ new_check a place ∷ []) (BadParent (before + place + 1))
      (λ is.
      let same : is.0.parent ≡ entry.parent = ap (λ (e : Entry). e.parent) (same_Some is.0 entry (sym is.1 ∙ at)) in
      let least = is.2.0 in
      let most = is.2.1 in
      elim wrong [
        | inl none ↦ omega arith
        | inr late ↦ omega arith
      ])
      refl

  module _ (some : 0 < entry.parent) (earlier : entry.parent ≤ place) where
    good_parent : Passes (topology_of n) c (parent_check a place)
    good_parent = (entry, at, (some, earlier))

    pub no_edge : ¬ EntryIs span place (HasEdge (topology_of n) (nodes_of c) span)
        → Judges (topology_of n) c (entry_checks a place) (Err (NoEdge (before + place + 1)))
    no_edge none =
        passed_go_on (topology_of n) c (parent_check a place ∷ []) (edge_check a place ∷ new_check a place ∷ []) (Err (NoEdge (before + place + 1)))
        (pass_one (topology_of n) c (parent_check a place) good_parent)
        (fails_here (topology_of n) c (edge_check a place) (new_check a place ∷ []) (NoEdge (before + place + 1)) none refl)

    pub no_node : ((id : NodeId) → ¬ IsIdAt ids entry.node id) → Judges (topology_of n) c (entry_checks a place) (Err (NoEdge (before + place + 1)))
    no_node none = no_edge (λ is.
        let same : is.0 ≡ entry = same_Some is.0 entry (sym is.1 ∙ at) in
        let h = has_id n ids c known is.0.node is.2.to is.2.to_is in
        none h.0 (subst (λ (e : Entry). IsIdAt ids e.node h.0) same h.1))

    module _ (from : NodeId) (from_at : IsPlaced ids span (entry.parent - 1) from) (id : NodeId) (id_at : IsIdAt ids entry.node id) where
      pub not_led : ¬ EdgeAt n from.0 id.0 → Judges (topology_of n) c (entry_checks a place) (Err (NoEdge (before + place + 1)))
      not_led none = no_edge (λ is.
          let same : is.0 ≡ entry = same_Some is.0 entry (sym is.1 ∙ at) in
          let has = subst (HasEdge (topology_of n) (nodes_of c) span) same is.2 in
          let p = placed_by n ids c known span (entry.parent - 1) has.from has.from_is in
          let q = has_id n ids c known entry.node has.to has.to_is in
          let from_is : p.0 ≡ from = one_placed ids span (entry.parent - 1) p.0 from p.1 from_at in
          let to_is : q.0 ≡ id = one_id ids entry.node q.0 id q.1 id_at in
          none (record {
            from = has.from;
            to = has.to;
            from_is = subst (λ (i : NodeId). IsNodeNamed n i has.from) from_is p.2;
            to_is = subst (λ (i : NodeId). IsNodeNamed n i has.to) to_is q.2;
            edge = has.edge;
          }))

      module _ (led : EdgeAt n from.0 id.0) where
        good_edge : Passes (topology_of n) c (edge_check a place)
        good_edge =
            let p = listed_by n ids c known span (entry.parent - 1) from from_at in
            let q = stands n ids c known entry.node id id_at in
            let first : led.from ≡ p.0 = named_once n from led.from p.0 led.from_is p.2 in
            let second : led.to ≡ q.0 = named_once n id led.to q.0 led.to_is q.2 in
            let edge : Edge (topology_of n) p.0 q.0 =
            subst (λ x. Edge (topology_of n) x q.0) first (subst (λ y. Edge (topology_of n) led.from y) second led.edge)
            in
            let has : HasEdge (topology_of n) (nodes_of c) span entry = record { from = p.0; to = q.0; from_is = p.1; to_is = q.1; edge = edge } in
            (entry, at, has)

        here : IsPlaced ids span place id
        here = record { entry = entry; is = at; at = id_at }

        module _ (listed : List Bool) (placed : List NodeId) (are : ArePlaced ids span place placed) (each : AreListed listed placed) where
          pub repeated : Has listed id.0 → Judges (topology_of n) c (entry_checks a place) (Err (Repeated (before + place + 1)))
          repeated has =
              let among = (each id.0).0 has in
              let earlier_at = are.each among.0 id among.1 in
              let size = are.count in
              let low = slice_get_within placed among.0 id among.1 in
              let p = listed_by n ids c known span among.0 id earlier_at in
              let q = listed_by n ids c known span place id here in
              let same : q.0 ≡ p.0 = named_once n id q.0 p.0 q.2 p.2 in
              passed_go_on (topology_of n) c (parent_check a place ∷ edge_check a place ∷ []) (new_check a place ∷ []) (Err (Repeated (before + place + 1)))
              (pass_two (topology_of n) c (parent_check a place) (edge_check a place) good_parent good_edge)
              (fails_here (topology_of n) c (new_check a place) [] (Repeated (before + place + 1))
              (λ new. new among.0 p.0 (omega arith) p.1 (subst (IsListedAt (nodes_of c) span place) same q.1)) refl)

          pub good_entry : ¬ Has listed id.0 → All (Passes (topology_of n) c) (entry_checks a place)
          good_entry lacks =
              let new : IsNewInSpan (nodes_of c) span place = λ k x low at_k at_place.
              let p = placed_by n ids c known span k x at_k in
              let q = placed_by n ids c known span place x at_place in
              let there = placed_there ids span place placed are k low in
              let one : there.0 ≡ p.0 = one_placed ids span k there.0 p.0 there.2 p.1 in
              let two : p.0 ≡ q.0 = known.whole.one p.0 q.0 x p.2 q.2 in
              let three : q.0 ≡ id = one_placed ids span place q.0 id q.1 here in
              let same : there.0 ≡ id = one ∙ (two ∙ three) in
              lacks ((each id.0).1 (k, subst (λ (i : NodeId). slice_get placed k ≡ Some i) same there.1))
              in
              pass_three (topology_of n) c (parent_check a place) (edge_check a place) (new_check a place) good_parent good_edge new

pub placed_more : (ids : List NodeId) (span : Span) (to : ℕ) (placed : List NodeId) (id : NodeId) → ArePlaced ids span to placed → IsPlaced ids span to id
    → ArePlaced ids span (to + 1) (placed ++ (id ∷ []))
placed_more ids span to placed id old here = record {
  count = length-append placed (id ∷ []) ∙ ap (λ k. k + 1) old.count;
  each = λ place other at. elim (pushed_cases placed id other place at) [
    | inl before ↦ old.each place other before
    | inr (last, same) ↦
        let end : to ≡ place = let e = old.count in omega arith in
        subst (λ (x : NodeId). IsPlaced ids span place x) same (subst (λ k. IsPlaced ids span k id) end here)
  ];
}

pub listed_more : (listed more : List Bool) (placed : List NodeId) (id : NodeId) (now : List NodeId) → AreListed listed placed → id.0 < length listed
    → now ≡ placed ++ (id ∷ []) → more ≡ slice_set listed id.0 true → AreListed more now
listed_more listed more placed id now are within is_placed is_listed = λ k. (
  λ has. elim (set_cases listed id.0 k (subst (λ row. Has row k) is_listed has)) [
    | inl same ↦ (
      length placed,
      subst (λ ids. slice_get ids (length placed) ≡ Some (number k)) (sym is_placed)
          (subst (λ (m : ℕ). slice_get (placed ++ (id ∷ [])) (length placed) ≡ Some (number m)) (sym same)
          (slice_get-push_last placed (length placed) id refl)),
    )
    | inr had ↦
        let among = (are k).0 had in
        (among.0, subst (λ ids. slice_get ids among.0 ≡ Some (number k)) (sym is_placed) (slice_get-push_before placed among.0 id (number k) among.1))
  ],
  λ among.
      let at = subst (λ ids. slice_get ids among.0 ≡ Some (number k)) is_placed among.1 in
      subst (λ row. Has row k) (sym is_listed) (elim (pushed_cases placed id (number k) among.0 at) [
        | inl before ↦ still listed id.0 k within ((are k).1 (among.0, before))
        | inr (last, same) ↦
            let e : id.0 ≡ k = ap (λ (x : NodeId). x.0) same in
            subst (Has (slice_set listed id.0 true)) e (has_set listed id.0 within)
      ]),
)

pub marked_more : (n : Numbered) (old new : SpanNodes) (id : NodeId) → AreMarked n old → id.0 < length n.nodes
    → new.placed.items ≡ old.placed.items ++ (id ∷ []) → new.listed ≡ slice_set old.listed id.0 true → length new.found ≡ length n.nodes → AreMarked n new
marked_more n old new id are low placed listed spare = record {
  capacity = ap length listed ∙ (length-set old.listed id.0 true ∙ are.capacity);
  spare = spare;
  each = listed_more old.listed new.listed old.placed.items id new.placed.items are.each (let size = are.capacity in omega arith) placed listed;
}
