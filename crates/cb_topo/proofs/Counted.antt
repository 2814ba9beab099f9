-- A table that fits its topology has as many nodes as that.
use Rattle.std.proofs.Common.{◌≡◌, ◌⊎◌, ◌↔◌, ℕ, zero, suc, ◌+◌, List, [], ◌∷◌, cond, true, false, Option, None, Some, is_some, refl, sym, ap, subst, ◌∙◌, inl, inr, arith}
use Rattle.std.specs.List.{count_by}
use Rattle.std.specs.FinSet as set
use Rattle.std.proofs.lemmas.Bool.{cases_Bool}
use Rattle.std.proofs.lemmas.List.Sums.{sum_by-cons}
use Rattle.cb_model.specs.declared.id.EventId.{EventId}
use Rattle.cb_model.specs.declared.node.NodeName.{NodeName}
use Rattle.cb_model.specs.NodeOrder.{node_cmp}
use Rattle.cb_model.specs.WellTyped.{WellTyped}
use Rattle.cb_model.proofs.Rising.{node_cmp_total, node_cmp_exact}
use Rattle.cb_network.specs.Nodes.{IsNodeOf, IsEventAt, IsCount}
use Rattle.cb_network.proofs.Counts.{same_count}
use Rattle.cb_network.proofs.Kept.{live_of}
use Rattle.cb_network.proofs.Sets.{in_insert}
use Rattle.cb_instances.specs.declared.id.InstanceId.{InstanceId}
use Rattle.cb_instances.specs.Net.{Net, slot, IsLiveInstance, HasEventAt, IsWholeNet}
use Rattle.cb_nodes.specs.declared.id.NodeId.{NodeId}
use Rattle.cb_nodes.specs.declared.node.Node.{Node}
use Rattle.cb_nodes.specs.Table.{Table, IsNode, NumbersEvent as HasEventIn, IsOne, count_of}
use Rattle.cb_topo.proofs.Named.{name_is, node_is, event_is, node_name, same_node}

-- one for what is there
abbrev passes : {X : Type 0} → Option X → ℕ
passes o = cond (is_some o) 1 0

module _ {X : Type 0} (name_of : X → NodeName) where
  -- some place has an item of this name
  pub record HasName (xs : List (Option X)) (q : NodeName) : Type 0 where
    pub at : ℕ
    pub item : X
    pub is : slot xs at ≡ Some item
    pub named : name_of item ≡ q

  -- items at different places have different names
  abbrev pub AreApart : List (Option X) → Type 0
  AreApart xs = (i j : ℕ) (x y : X) → slot xs i ≡ Some x → slot xs j ≡ Some y → name_of x ≡ name_of y → i ≡ j

  later : (o : Option X) (xs : List (Option X)) → AreApart (o ∷ xs) → AreApart xs
  later o xs apart i j x y a b e = let f : suc i ≡ suc j = apart (suc i) (suc j) x y a b e in omega arith

  -- there are as many names as items
  pub count_of_names : (xs : List (Option X)) → AreApart xs → IsCount (HasName xs) (count_by is_some xs)
  count_of_names [] apart = record {
    nodes = set.empty;
    members = λ q. (λ h. let e = set.contains-empty node_cmp q in absurd (cc), λ h. let none = h.is in absurd (cc));
    len = set.len-empty node_cmp;
  }
  count_of_names (None ∷ xs) apart =
      let count : count_by is_some xs ≡ 0 + count_by is_some xs = omega arith in
      subst (IsCount (HasName (None ∷ xs))) (count ∙ sym (sum_by-cons passes None xs))
      (same_count (HasName xs) (HasName (None ∷ xs)) (λ q. (
        λ h. record { at = suc h.at; item = h.item; is = h.is; named = h.named },
        λ h. before q h.at h.item h.is h.named,
      )) (count_by is_some xs) (count_of_names xs (later None xs apart)))
    where
      before : (q : NodeName) (i : ℕ) (x : X) → slot (None ∷ xs) i ≡ Some x → name_of x ≡ q → HasName xs q
      before q zero x none named = absurd (cc)
      before q (suc i) x is named = record { at = i; item = x; is = is; named = named }
  count_of_names (Some x ∷ xs) apart =
      let rest = count_of_names xs (later (Some x) xs apart) in
      let within = in_insert node_cmp_total node_cmp_exact rest.nodes (name_of x) in
      let fresh : set.contains rest.nodes (name_of x) ≡ false = elim (cases_Bool (set.contains rest.nodes (name_of x))) [
        | inl has ↦
            let h = (rest.members (name_of x)).0 has in
            let e : 0 ≡ suc h.at = apart 0 (suc h.at) x h.item refl h.is (sym h.named) in
            absurd (omega arith)
        | inr off ↦ off
      ] in
      let more : set.len (set.insert rest.nodes (name_of x)) ≡ set.len rest.nodes + 1 = rw fresh at (set.len-insert node_cmp_total rest.nodes (name_of x)) in
      let count = sum_by-cons passes (Some x) xs in
      let len = rest.len in
      let all : set.len rest.nodes + 1 ≡ 1 + count_by is_some xs = omega arith in
      record {
        nodes = set.insert rest.nodes (name_of x);
        members = λ q. (
          λ h. elim ((within q).0 h) [
            | inl e ↦ record { at = 0; item = x; is = refl; named = sym e }
            | inr old ↦ let o = (rest.members q).0 old in record { at = suc o.at; item = o.item; is = o.is; named = o.named }
          ],
          λ h. (within q).1 (either q rest h.at h.item h.is h.named),
        );
        len = more ∙ (all ∙ sym count);
      }
    where
      inside : (a b : X) → Some a ≡ Some b → a ≡ b
      inside a b e = cc

      either : (q : NodeName) (rest : IsCount (HasName xs) (count_by is_some xs)) (i : ℕ) (y : X) → slot (Some x ∷ xs) i ≡ Some y → name_of y ≡ q
          → (q ≡ name_of x) ⊎ (set.contains rest.nodes q ≡ true)
      either q rest zero y is named = inl (sym named ∙ ap name_of (sym (inside x y is)))
      either q rest (suc i) y is named = inr ((rest.members q).1 (record { at = i; item = y; is = is; named = named }))

-- a table of exactly the events of live instances, each once
module _ (net : Net) (nodes : Table) (typed : WellTyped net.topology.model) (whole : IsWholeNet net) (one : IsOne nodes)
    (live : (id : NodeId) (node : Node) → IsNode nodes id node → IsLiveInstance net node.instance)
    (had : (id : NodeId) (node : Node) → IsNode nodes id node → HasEventAt net node.instance node.event)
    (all : (i : InstanceId) (e : EventId) → IsLiveInstance net i → HasEventAt net i e → HasEventIn nodes i e) where
  apart : AreApart (node_name net) nodes
  apart i j x y at_x at_y same =
      let i' : NodeId = record { 0 = i } in
      let j' : NodeId = record { 0 = j } in
      let e = same_node net typed whole x y (live i' x at_x) (live j' y at_y) (had i' x at_x) (had j' y at_y) same in
      let ids : i' ≡ j' = one i' j' y (subst (IsNode nodes i') e at_x) at_y in
      ap (λ (k : NodeId). k.0) ids

  is_node : (q : NodeName) → HasName (node_name net) nodes q ↔ IsNodeOf net.topology q
  is_node q = (
    λ h.
        let id : NodeId = record { 0 = h.at } in
        (h.item.event, subst (λ n. IsEventAt net.topology n h.item.event) h.named (node_is net h.item.instance h.item.event (had id h.item h.is))),
    λ (e, at).
        let (i, named) = whole.named q.instance (live_of net.topology q.instance at.class at.of_class) in
        let (has, event) = event_is net i q e named at in
        let (id, is) = all i e (q.instance, named) has in
        record {
          at = id.0;
          item = record { instance = i; event = e };
          is = is;
          named = λ k. record { event = event k; instance = name_is net i q.instance named k };
        },
  )

  pub fits_count : IsCount (IsNodeOf net.topology) (count_of nodes)
  fits_count = same_count (HasName (node_name net) nodes) (IsNodeOf net.topology) is_node (count_of nodes) (count_of_names (node_name net) nodes apart)
