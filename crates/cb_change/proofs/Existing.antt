-- Openings and accepted edits have costs.
use Rattle.std.proofs.Common.{◌≡◌, ◌⊎◌, ◌↔◌, ℕ, List, [], ◌∷◌, Bool, true, false, sum, refl, sym, subst, ◌∙◌, inl, inr, arith}
use Rattle.std.specs.FinSet as set
use Rattle.std.specs.List.{AllZip, Contains}
use Rattle.cb_model.specs.declared.node.NodeName.{NodeName}
use Rattle.cb_model.specs.NodeOrder.{node_cmp}
use Rattle.cb_model.specs.declared.tables.Tables.{Tables}
use Rattle.cb_model.proofs.Rising.{node_cmp_total, node_cmp_exact, contains_cases, contains_head, contains_tail, nothing_in_empty}
use Rattle.cb_network.specs.declared.edit.Edit.{Edit}
use Rattle.cb_network.specs.declared.edit.Edit.TheVariants.{Create, Delete, Link, Unlink, Mute, Unmute}
use Rattle.cb_network.specs.Causes.{Causes, Chain}
use Rattle.cb_network.specs.Nodes.{IsNodeOf, IsProblem, IsCount}
use Rattle.cb_network.specs.Regular.{IsRegular}
use Rattle.cb_network.specs.Sound.{Sound}
use Rattle.cb_network.specs.Topology.{Topology}
use Rattle.cb_network.proofs.Decided.{Decision, decide_both, decide_same, decide_true}
use Rattle.cb_network.proofs.Sets.{in_retain, in_union}
use Rattle.cb_change.specs.Costs.{IsTotal, IsOpenCost, IsEditCost, IsNewlyCaused, IsTouchedBelow}
use Rattle.cb_change.specs.Laws.{IsStep}
use Rattle.cb_change.specs.Touched.{IsTouched, IsDirty}
use Rattle.cb_change.proofs.Closure.{decide_or, decide_not, decide_any}
use Rattle.cb_change.proofs.Deciding.{item_of, decide_node, decide_causes, decide_touched}
use Rattle.cb_change.proofs.Kept.{caused_is_node, ends_at_node}
use Rattle.cb_change.proofs.Steps.{near}
use Rattle.cb_change.proofs.Totals.{Once, once_more}

abbrev answer : {P : Type 0} → Decision P → Bool
answer (inl p) = true
answer (inr never) = false

answer_is : (P : Type 0) (d : Decision P) → (answer d ≡ true) ↔ P
answer_is P (inl p) = (λ e. p, λ h. refl)
answer_is P (inr never) = (λ e. absurd (cc), λ h. absurd (never h))

-- nodes of a set can be counted
counted : (all : set.FinSet node_cmp) (P : NodeName → Type 0) → ((q : NodeName) → Decision (P q)) → ((q : NodeName) → P q → set.contains all q ≡ true) → (n : ℕ) × IsCount P n
counted all P decide within =
    let keep : NodeName → Bool = λ q. answer (decide q) in
    let kept = set.retain all keep in
    let is = in_retain node_cmp_total node_cmp_exact all keep in (
      set.len kept,
      record {
        nodes = kept;
        members = λ q. (λ h. (answer_is (P q) (decide q)).0 ((is q).0 h).1, λ p. (is q).1 (within q p, (answer_is (P q) (decide q)).1 p));
        len = refl;
      },
    )

-- those of a list, each once
record Chosen (P : NodeName → Type 0) (xs : List NodeName) : Type 0 where
  names : List NodeName
  once : Once names
  each : (q : NodeName) → Contains names q ↔ (Contains xs q × P q)

chosen : (P : NodeName → Type 0) → ((q : NodeName) → Decision (P q)) → (xs : List NodeName) → Chosen P xs
chosen P decide [] = record {
  names = [];
  once = λ i j d lt within. absurd (omega arith);
  each = λ q. (λ has. absurd (nothing_in_empty q has), λ h. absurd (nothing_in_empty q h.0));
}
chosen P decide (x ∷ xs) =
    let rest = chosen P decide xs in
    elim (decide_both _ _ (decide x) (decide_not _ (decide_any (λ y. y ≡ x) (λ y. decide_node y x) rest.names))) [
      | inl (p, new) ↦ record {
        names = x ∷ rest.names;
        once = once_more x rest.names (λ y has same. new (y, has, sym same)) rest.once;
        each = λ q. (
          λ has. elim (contains_cases x rest.names q has) [
            | inl same ↦ (subst (Contains (x ∷ xs)) same (contains_head x xs), subst P same p)
            | inr later ↦ let old = (rest.each q).0 later in (contains_tail x xs q old.0, old.1)
          ],
          λ (has, holds). elim (contains_cases x xs q has) [
            | inl same ↦ subst (Contains (x ∷ rest.names)) same (contains_head x rest.names)
            | inr later ↦ contains_tail x rest.names q ((rest.each q).1 (later, holds))
          ],
        );
      }
      | inr other ↦ record {
        names = rest.names;
        once = rest.once;
        each = λ q. (
          λ has. let old = (rest.each q).0 has in (contains_tail x xs q old.0, old.1),
          λ (has, holds). elim (contains_cases x xs q has) [
            | inl same ↦ there rest q same holds other
            | inr later ↦ (rest.each q).1 (later, holds)
          ],
        );
      }
    ]
  where
    there : (rest : Chosen P xs) (q : NodeName) → x ≡ q → P q → (¬ (P x × (¬ ((y : NodeName) × Contains rest.names y × (y ≡ x))))) → Contains rest.names q
    there rest q same holds other = elim (decide_any (λ y. y ≡ x) (λ y. decide_node y x) rest.names) [
      | inl (y, has, is) ↦ subst (Contains rest.names) (is ∙ same) has
      | inr none ↦ absurd (other (subst P (sym same) holds, none))
    ]

-- so can what stands beside each of them
module _ (all : set.FinSet node_cmp) (P : NodeName → Type 0) (Q : NodeName → NodeName → Type 0) (decide : (p : NodeName) → Decision (P p))
    (decide_beside : (p q : NodeName) → Decision (Q p q)) (within : (p : NodeName) → P p → set.contains all p ≡ true)
    (beside_within : (p q : NodeName) → P p → Q p q → set.contains all q ≡ true) where
  sizes_of : (names : List NodeName) → ((p : NodeName) → Contains names p → P p) → (sizes : List ℕ) × AllZip (λ p n. IsCount (Q p) n) names sizes
  sizes_of [] hold = ([], tt)
  sizes_of (p ∷ names) hold =
      let first = counted all (Q p) (decide_beside p) (λ q. beside_within p q (hold p (contains_head p names))) in
      let rest = sizes_of names (λ q has. hold q (contains_tail p names q has)) in
      (first.0 ∷ rest.0, (first.1, rest.1))

  total_is : (n : ℕ) × IsTotal P Q n
  total_is =
      let list = chosen P decide (set.items all) in
      let sizes = sizes_of list.names (λ p has. ((list.each p).0 has).1) in (
        sum sizes.0,
        record {
          names = list.names;
          once = list.once;
          each = λ p. (λ has. ((list.each p).0 has).1, λ holds. (list.each p).1 (item_of node_cmp_total node_cmp_exact all p (within p holds), holds));
          sizes = sizes.0;
          sized = sizes.1;
          total_is = refl;
        },
      )

problem_is_node : (t : Topology) (p : NodeName) → IsProblem t p → IsNodeOf t p
problem_is_node t p x = (x.event, record { class = x.class; of_class = x.of_class; named = (x.problem.has, x.named) })

touched_is_node : (t u : Topology) (n : NodeName) → IsTouched t u n → IsNodeOf t n
touched_is_node t u n x = (x.has.row.cause, record { class = x.class; of_class = x.of_class; named = x.cause })

module _ (t u : Topology) (regular : IsRegular t.model) (regular_after : IsRegular u.model) (sound : Sound t) (sound_after : Sound u) where
  before : set.FinSet node_cmp
  before = sound.few_nodes.1.nodes

  afterwards : set.FinSet node_cmp
  afterwards = sound_after.few_nodes.1.nodes

  all : set.FinSet node_cmp
  all = set.union before afterwards

  is_before : (q : NodeName) → IsNodeOf t q → set.contains all q ≡ true
  unfolding before afterwards all
  is_before q node = (in_union node_cmp_total node_cmp_exact before afterwards q).1 (inl ((sound.few_nodes.1.members q).1 node))

  is_after : (q : NodeName) → IsNodeOf u q → set.contains all q ≡ true
  unfolding before afterwards all
  is_after q node = (in_union node_cmp_total node_cmp_exact before afterwards q).1 (inr ((sound_after.few_nodes.1.members q).1 node))

  causes_before : (p q : NodeName) → Decision (Causes t p q)
  causes_before = decide_causes t regular (set.items all) (λ q node. item_of node_cmp_total node_cmp_exact all q (is_before q node))

  causes_after : (p q : NodeName) → Decision (Causes u p q)
  causes_after = decide_causes u regular_after (set.items all) (λ q node. item_of node_cmp_total node_cmp_exact all q (is_after q node))

  problem_before : (p : NodeName) → Decision (IsProblem t p)
  problem_before p = decide_same _ (IsProblem t p) (sound.few_problems.1.members p).0 (sound.few_problems.1.members p).1 (decide_true _)

  problem_after : (p : NodeName) → Decision (IsProblem u p)
  problem_after p = decide_same _ (IsProblem u p) (sound_after.few_problems.1.members p).0 (sound_after.few_problems.1.members p).1 (decide_true _)

  dirty : (p : NodeName) → Decision (IsDirty t u p)
  dirty p =
      decide_same (IsProblem t p × ((n : NodeName) × Contains (set.items all) n × (IsTouched t u n × Causes t p n))) (IsDirty t u p)
      (λ (problem, (n, has, (touched, causes))). record { problem = problem; causes = (n, touched, causes) })
      (λ d. (d.problem, (d.causes.0, item_of node_cmp_total node_cmp_exact all d.causes.0 (is_before d.causes.0 (touched_is_node t u d.causes.0 d.causes.1)), (d.causes.1, d.causes.2))))
      (decide_both _ _ (problem_before p) (decide_any _ (λ n. decide_both _ _ (decide_touched t regular u n) (causes_before p n)) (set.items all)))

  caused_after : (p q : NodeName) → IsProblem u p → Causes u p q → set.contains all q ≡ true
  caused_after p q problem causes = is_after q (caused_is_node u p causes.0 q causes.1 (problem_is_node u p problem))

  -- what p causes afterwards is itself or a node
  caused_or_itself : (p q : NodeName) (between : List NodeName) → IsDirty t u p → Chain u p between q → set.contains all q ≡ true
  caused_or_itself p q [] d same = subst (λ n. set.contains all n ≡ true) same (is_before p (problem_is_node t p d.problem))
  caused_or_itself p q (r ∷ rest) d chain = is_after q (caused_is_node u r rest q chain.1 (ends_at_node u p r chain.0))

  pub create_total : (n : ℕ) × IsTotal (λ p. IsProblem u p × ¬ IsProblem t p) (Causes u) n
  create_total = total_is all _ _ (λ p. decide_both _ _ (problem_after p) (decide_not _ (problem_before p))) causes_after
      (λ p x. is_after p (problem_is_node u p x.0)) (λ p q x causes. caused_after p q x.0 causes)

  pub cut_total : (n : ℕ) × IsTotal (λ p. IsDirty t u p × IsProblem u p) (Causes u) n
  cut_total = total_is all _ _ (λ p. decide_both _ _ (dirty p) (problem_after p)) causes_after
      (λ p x. is_after p (problem_is_node u p x.1)) (λ p q x causes. caused_after p q x.1 causes)

  pub link_total : (n : ℕ) × IsTotal (IsDirty t u) (λ p n. IsNewlyCaused t u p n ⊎ IsTouchedBelow t u p n) n
  link_total = total_is all _ _ dirty
      (λ p n. decide_or _ _ (decide_both _ _ (causes_after p n) (decide_not _ (causes_before p n))) (decide_both _ _ (decide_touched t regular u n) (causes_before p n)))
      (λ p d. is_before p (problem_is_node t p d.problem))
      (λ p n d counts. elim counts [
        | inl new ↦ caused_or_itself p n new.0.0 d new.0.1
        | inr below ↦ is_before n (touched_is_node t u n below.0)
      ])

  pub open_total : (n : ℕ) × IsTotal (IsProblem u) (Causes u) n
  open_total = total_is all _ _ problem_after causes_after (λ p x. is_after p (problem_is_node u p x)) (λ p q x causes. caused_after p q x causes)

pub has_open_cost : (t : Topology) → IsRegular t.model → Sound t → (cost : ℕ) × IsOpenCost t cost
has_open_cost t regular sound = open_total t t regular regular sound sound

pub has_edit_cost : (t u : Topology) (edit : Edit) → IsRegular t.model → IsStep t edit u → (cost : ℕ) × IsEditCost t edit u cost
has_edit_cost t u edit regular step = by_edit edit
  where
    regular_after : IsRegular u.model
    regular_after = subst (λ (m : Tables). IsRegular m) (near t u edit step.accepted).model regular

    by_edit : (e : Edit) → (cost : ℕ) × IsEditCost t e u cost
    by_edit (Create name class) = create_total t u regular regular_after step.before step.afterwards
    by_edit (Delete name) = cut_total t u regular regular_after step.before step.afterwards
    by_edit (Unlink a rel b) = cut_total t u regular regular_after step.before step.afterwards
    by_edit (Link a rel b) = link_total t u regular regular_after step.before step.afterwards
    by_edit (Mute event name) = (0, refl)
    by_edit (Unmute event name) = (0, refl)
