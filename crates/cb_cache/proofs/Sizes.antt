-- How many nodes a row of numbers has.
use Rattle.std.proofs.Common.{◌≡◌, ◌↔◌, ◌⊎◌, ℕ, zero, suc, ◌+◌, ◌<◌, ◌≤◌, length, ◌∙◌, List, [], ◌∷◌, Bool, true, false, cond, refl, sym, ap, subst, inl, inr, arith}
use Rattle.std.specs.FinSet as set
use Rattle.std.proofs.lemmas.Bool.{cases_lt}
use Rattle.std.proofs.lemmas.List.{get_or_past}
use Rattle.std.proofs.lemmas.List.Sums.{sum_by-cons}
use Rattle.cb_model.specs.declared.node.NodeName.{NodeName}
use Rattle.cb_model.specs.NodeOrder.{node_cmp}
use Rattle.cb_model.proofs.Rising.{node_cmp_total, node_cmp_exact}
use Rattle.cb_network.specs.Causes.{Causes}
use Rattle.cb_network.specs.Nodes.{IsCount, IsNodeOf}
use Rattle.cb_change.proofs.Kept.{caused_is_node}
use Rattle.cb_network.proofs.Sets.{in_insert, len_of_part}
use Rattle.cb_nodes.specs.declared.id.NodeId.{NodeId}
use Rattle.cb_successors.specs.Rows.{Has, ones}
use Rattle.cb_successors.specs.Graphs.{EdgeChain, LeadsTo}
use Rattle.cb_topo.specs.Numbered.{Numbered, topology_of, IsNodeNamed, IsWhole}
use Rattle.cb_graph.specs.Edges.{EdgeAt, number}
use Rattle.cb_graph.proofs.Chains.{lead_to_caused, named_once}
use Rattle.cb_instances.proofs.Showing.{slot_within}
use Rattle.cb_successors.proofs.Marks.{ones_within}
use Rattle.cb_cache.specs.Cached.{IsReachedRow, IsCausedRow}
use Rattle.cb_cache.specs.Filled.{CostsAtMost}
use Rattle.cb_cache.specs.Reached.{IsMet, IsAllMet}
use Rattle.cb_cache.proofs.Written.{row_met, has_met, met_has, length-row_met}

empty_has : (name : NodeName) → set.contains (set.empty {R = node_cmp}) name ≡ true → ⊥
empty_has name h = let e = set.contains-empty node_cmp name in cc

one_longer : (s : set.FinSet node_cmp) (name : NodeName) (n : ℕ) → ¬ (set.contains s name ≡ true) → set.len s ≡ n → set.len (set.insert s name) ≡ n + 1
one_longer s name n fresh len =
    let is = set.len-insert node_cmp_total s name in
    elim (set.contains s name) as (λ b. set.contains s name ≡ b → set.len (set.insert s name) ≡ n + 1) [
      | true ↦ λ e. absurd (fresh e)
      | false ↦ λ e. let now = rw e at is in omega arith
    ] refl

-- a row of exactly the numbers below this one for which P holds
pub row_where : (P : ℕ → Type 0) → ((k : ℕ) → P k ⊎ (¬ P k)) → (count : ℕ) → (row : List Bool) × ((k : ℕ) → Has row k ↔ ((k < count) × P k))
row_where P decide zero = ([], λ k. (λ has. absurd (cc), λ holds. absurd (let lt = holds.0 in omega arith)))
row_where P decide (suc count) =
    let rest = row_where (λ k. P (suc k)) (λ k. decide (suc k)) count in
    elim (decide 0) [
      | inl holds ↦ (true ∷ rest.0, with_head true rest.0 rest.1 (λ e. holds, λ h. refl))
      | inr fails ↦ (false ∷ rest.0, with_head false rest.0 rest.1 (λ e. absurd (cc), λ h. absurd (fails h)))
    ]
  where
    with_head : (b : Bool) (row : List Bool) → ((k : ℕ) → Has row k ↔ ((k < count) × P (suc k))) → ((b ≡ true) ↔ P 0) → (k : ℕ)
        → Has (b ∷ row) k ↔ ((k < suc count) × P k)
    with_head b row each head zero = (λ has. (omega arith, head.0 has), λ holds. head.1 holds.1)
    with_head b row each head (suc k) = (
      λ has. let e = (each k).0 has in ((let lt = e.0 in omega arith), e.1),
      λ holds. (each k).1 ((let lt = holds.0 in omega arith), holds.1),
    )

-- names under numbers: a number has one name, and a name one number
module _ (N : ℕ → NodeName → Type 0) (one : (i j : ℕ) (name : NodeName) → N i name → N j name → i ≡ j) (once : (i : ℕ) (p q : NodeName) → N i p → N i q → p ≡ q) where
  -- the name has a number from `at` on that the row has
  abbrev pub IsIn : List Bool → ℕ → NodeName → Type 0
  IsIn row at name = (k : ℕ) × Has row k × N (at + k) name

  pub set_of_row : (row : List Bool) (at : ℕ) → ((k : ℕ) → Has row k → (name : NodeName) × N (at + k) name)
      → (s : set.FinSet node_cmp) × ((name : NodeName) → (set.contains s name ≡ true) ↔ IsIn row at name) × (set.len s ≡ ones row)
  set_of_row [] at named = (set.empty, λ name. (λ h. absurd (empty_has name h), λ (k, has, _). absurd (cc)), set.len-empty node_cmp)
  set_of_row (false ∷ row) at named =
      let further : (k : ℕ) → at + 1 + k ≡ at + suc k = λ k. omega arith in
      let rest = set_of_row row (at + 1) (λ k has. let name = named (suc k) has in (name.0, subst (λ j. N j name.0) (sym (further k)) name.1)) in
      let count = sum_by-cons (λ b. cond b 1 0) false row in (
        rest.0,
        λ name. (
          λ h. let there = (rest.1 name).0 h in (suc there.0, there.1, subst (λ j. N j name) (further there.0) there.2),
          λ there. (rest.1 name).1 (later name there),
        ),
        (let e = rest.2 in omega arith),
      )
    where
      later : (name : NodeName) → IsIn (false ∷ row) at name → IsIn row (at + 1) name
      later name (zero, has, _) = absurd (cc)
      later name (suc k, has, is) = let e : at + suc k ≡ at + 1 + k = omega arith in (k, has, subst (λ j. N j name) e is)
  set_of_row (true ∷ row) at named =
      let further : (k : ℕ) → at + 1 + k ≡ at + suc k = λ k. omega arith in
      let rest = set_of_row row (at + 1) (λ k has. let name = named (suc k) has in (name.0, subst (λ j. N j name.0) (sym (further k)) name.1)) in
      let here = named 0 refl in
      let within = in_insert node_cmp_total node_cmp_exact rest.0 here.0 in
      let count = sum_by-cons (λ b. cond b 1 0) true row in (
        set.insert rest.0 here.0,
        λ name. (
          λ h. elim ((within name).0 h) [
            | inl same ↦ (0, refl, subst (N (at + 0)) (sym same) here.1)
            | inr old ↦ let there = (rest.1 name).0 old in (suc there.0, there.1, subst (λ j. N j name) (further there.0) there.2)
          ],
          λ there. (within name).1 (cases name here rest there),
        ),
        (let e = one_longer rest.0 here.0 (ones row) (λ h. let there = (rest.1 here.0).0 h in
            let clash = one (at + 0) (at + 1 + there.0) here.0 here.1 there.2 in absurd (omega arith)) rest.2 in omega arith),
      )
    where
      cases : (name : NodeName) (here : (name : NodeName) × N (at + 0) name)
          (rest : (s : set.FinSet node_cmp) × ((name : NodeName) → (set.contains s name ≡ true) ↔ IsIn row (at + 1) name) × (set.len s ≡ ones row))
          → IsIn (true ∷ row) at name → (name ≡ here.0) ⊎ (set.contains rest.0 name ≡ true)
      cases name here rest (zero, has, is) = inl (once (at + 0) name here.0 is here.1)
      cases name here rest (suc k, has, is) = let e : at + suc k ≡ at + 1 + k = omega arith in inr ((rest.1 name).1 (k, has, subst (λ j. N j name) e is))

module _ (n : Numbered) (whole : IsWhole n) where
  -- what a node leads to has a name
  pub led_named : (i : ℕ) (rest : List ℕ) (k : ℕ) → EdgeChain (EdgeAt n) i rest k → (p : NodeName) → IsNodeNamed n (number i) p → (q : NodeName) × IsNodeNamed n (number k) q
  led_named i [] k same p is = (p, subst (λ j. IsNodeNamed n (number j) p) same is)
  led_named i (m ∷ rest) k chain p is = led_named m rest k chain.1 chain.0.to chain.0.to_is

  -- a row of all that a node leads to has as many nodes as the node causes
  pub row_counted : (i : ℕ) (p : NodeName) (row : List Bool) → IsNodeNamed n (number i) p → ((k : ℕ) → Has row k ↔ LeadsTo (EdgeAt n) i k)
      → IsCount (Causes (topology_of n) p) (ones row)
  row_counted i p row is each =
      let N : ℕ → NodeName → Type 0 = λ k name. IsNodeNamed n (number k) name in
      let made = set_of_row N
      (λ a b name x y. ap (λ (z : NodeId). z.0) (whole.one (number a) (number b) name x y))
      (λ a x y u v. named_once n (number a) x y u v)
      row 0 (λ k has. let leads = (each k).0 has in let named = led_named i leads.0 k leads.1 p is in
      let e : k ≡ 0 + k = omega arith in (named.0, subst (λ j. N j named.0) e named.1)) in
      record {
        nodes = made.0;
        members = λ name. (
          λ h.
              let there = (made.1 name).0 h in
              let e : 0 + there.0 ≡ there.0 = omega arith in
              (lead_to_caused n whole i there.0 p name is (subst (λ j. N j name) e there.2)).0 ((each there.0).0 there.1),
          λ causes.
              let at = whole.named name (caused_node causes) in
              let e : at.0.0 ≡ 0 + at.0.0 = omega arith in
              (made.1 name).1 (at.0.0, (each at.0.0).1 ((lead_to_caused n whole i at.0.0 p name is at.1).1 causes), subst (λ j. N j name) e at.1),
        );
        len = made.2;
      }
    where
      caused_node : {name : NodeName} → Causes (topology_of n) p name → IsNodeOf (topology_of n) name
      caused_node causes = caused_is_node (topology_of n) p causes.0 _ causes.1 (whole.live (number i) p is)

  -- a number that is led to is one of a node
  pub led_low : (i : ℕ) (p : NodeName) → IsNodeNamed n (number i) p → (k : ℕ) → LeadsTo (EdgeAt n) i k → k < length n.nodes
  led_low i p named k leads = let there = led_named i leads.0 k leads.1 p named in slot_within n.nodes k there.1.node there.1.is

  -- what a search has done is no more than its node causes
  pub search_counted : (i : ℕ) (found done : List Bool) (joined : List ℕ) → length found ≡ length n.nodes → length done ≡ length n.nodes → IsAllMet (EdgeAt n) i found joined
      → ((k : ℕ) → Has done k → IsMet found joined k) → (steps new_steps : ℕ) → new_steps ≤ steps + ones done → CostsAtMost n (number i) steps new_steps
  search_counted i found done joined len_found len_done met within steps new_steps cost =
      let row = row_met found joined in
      let part : ones done ≤ ones row = ones_within done row (len_done ∙ sym len_found ∙ sym (length-row_met found joined)) (λ k has. met_has found joined k (below k has) (within k has)) in (
        ones row,
        (λ name named. row_counted i name row named (λ k. (
          λ has. (met k).0 (has_met found joined k has),
          λ leads. met_has found joined k (let low = led_low i name named k leads in omega arith) ((met k).1 leads),
        ))),
        omega arith,
      )
    where
      below : (k : ℕ) → Has done k → k < length found
      below k has = elim (cases_lt k (length done)) [
        | inl lt ↦ omega arith
        | inr le ↦ absurd (let e = get_or_past done k false le in cc)
      ]

  -- a row of what is led to is one of what is caused
  pub caused_row : (i : ℕ) (name : NodeName) (words : List ℕ) → IsNodeNamed n (number i) name → IsReachedRow n i words → IsCausedRow n name words
  caused_row i name words named reached k = (
    λ bit.
        let leads = (reached k).0 bit in
        let there = led_named i leads.0 k leads.1 name named in
        (there.0, there.1, (lead_to_caused n whole i k name there.0 named there.1).0 leads),
    λ (caused, is, causes). (reached k).1 ((lead_to_caused n whole i k name caused named is).1 causes),
  )

  -- a row of some that a node leads to has no more nodes than the node causes
  pub reached_within : (i : ℕ) (p : NodeName) (row : List Bool) (size : ℕ) → IsNodeNamed n (number i) p → ((k : ℕ) → Has row k → LeadsTo (EdgeAt n) i k)
      → IsCount (Causes (topology_of n) p) size → ones row ≤ size
  reached_within i p row size is each count =
      let N : ℕ → NodeName → Type 0 = λ k name. IsNodeNamed n (number k) name in
      let made = set_of_row N
      (λ a b name x y. ap (λ (z : NodeId). z.0) (whole.one (number a) (number b) name x y))
      (λ a x y u v. named_once n (number a) x y u v)
      row 0 (λ k has. let leads = each k has in let named = led_named i leads.0 k leads.1 p is in
      let e : k ≡ 0 + k = omega arith in (named.0, subst (λ j. N j named.0) e named.1)) in
      let less = len_of_part node_cmp_total node_cmp_exact made.0 count.nodes (λ q has.
      let there = (made.1 q).0 has in
      let e : 0 + there.0 ≡ there.0 = omega arith in
      (count.members q).1 ((lead_to_caused n whole i there.0 p q is (subst (λ j. N j q) e there.2)).0 (each there.0 there.1))) in
      let size_is = count.len in
      let here = made.2 in
      omega arith
