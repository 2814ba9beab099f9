-- The counts of a topology that gains or loses an instance.
use Rattle.std.proofs.Common.{◌≡◌, ◌⊎◌, ◌↔◌, ℕ, ◌+◌, ◌-◌, ◌≤◌, List, refl, sym, ap, subst, ◌∙◌, inl, inr, arith, Some}
use Rattle.std.specs.Prelude.{is_some}
use Rattle.std.specs.FinMap as map
use Rattle.cb_model.specs.declared.id.ClassId.{ClassId}
use Rattle.cb_model.specs.declared.id.EventId.{EventId}
use Rattle.cb_model.specs.declared.node.NodeName.{NodeName}
use Rattle.cb_model.specs.declared.tables.Tables.{Tables}
use Rattle.cb_model.specs.Order.{name_cmp}
use Rattle.cb_model.proofs.Rising.{name_cmp_total, name_cmp_exact}
use Rattle.cb_network.specs.Topology.{Topology, empty_topology, IsLive, HasClass}
use Rattle.cb_network.specs.Nodes.{IsNodeOf, IsProblem, IsSymptomNode, IsCount, IsCountWithin}
use Rattle.cb_network.specs.Sound.{Sound, node_limit, problem_limit, symptom_limit}
use Rattle.cb_network.specs.Edits.{with_instance, without_instance}
use Rattle.cb_network.proofs.Sets.{got_insert, got_remove, decide_key}
use Rattle.cb_network.proofs.Kept.{live_of}
use Rattle.cb_network.proofs.Counts.{Kind, IsAt, of_nodes, of_problems, of_symptoms, nodes_are, problems_are, symptoms_are, same_count, turned, count_is_one, within_deleted}
use Rattle.cb_accept.specs.declared.counts.NodeCounts.{NodeCounts}
use Rattle.cb_accept.specs.Counts.{AreCounts, AreWithin, AreOwn, CountWith, CountWithout}
use Rattle.cb_accept.proofs.Apart.{count_of_either, count_of_none}
use Rattle.cb_accept.proofs.Own.{IsOwn}

-- an instance is of one class
pub one_class_of : (t : Topology) (name : List ℕ) (c d : ClassId) → HasClass t name c → HasClass t name d → c ≡ d
one_class_of t name c d is is' =
    let e : Some c ≡ Some d = sym is ∙ is' in
    cc

module _ (M : Kind) (t : Topology) (name : List ℕ) (class : ClassId) where
  -- a new instance has its own nodes
  with_own : ¬ IsLive t name → (n : NodeName) → IsAt (with_instance t name class) M n ↔ (IsAt t M n ⊎ IsOwn M class name n)
  with_own fresh n =
      let got = λ (d : ClassId). got_insert name_cmp_total name_cmp_exact t.instances name class n.instance d in (
        λ (d, is, em). elim ((got d).0 is) [
          | inl (here, same) ↦ inr (here, subst (λ (b : ClassId). (e : EventId) × M b e n.event) (sym same) em)
          | inr (other, old) ↦ inl (d, old, em)
        ],
        λ h. elim h [
          | inl (d, is, em) ↦ (d, (got d).1 (inr (λ here. fresh (live_of t name d (subst (λ q. HasClass t q d) here is)), is)), em)
          | inr (here, em) ↦ (class, (got class).1 (inl (here, refl)), em)
        ],
      )

  new_apart : ¬ IsLive t name → (n : NodeName) → IsAt t M n → IsOwn M class name n → ⊥
  new_apart fresh n (d, is, em) (here, _) = fresh (live_of t name d (subst (λ q. HasClass t q d) here is))

  -- an instance that goes takes its own nodes along
  without_own : HasClass t name class → (n : NodeName) → IsAt t M n ↔ (IsAt (without_instance t name) M n ⊎ IsOwn M class name n)
  without_own of n =
      let got = λ (d : ClassId). got_remove name_cmp_total name_cmp_exact t.instances name n.instance d in (
        λ (d, is, em). elim (decide_key name_cmp_total name_cmp_exact n.instance name) [
          | inl here ↦
              let same = one_class_of t name d class (subst (λ q. HasClass t q d) here is) of in
              inr (here, subst (λ (b : ClassId). (e : EventId) × M b e n.event) same em)
          | inr other ↦ inl (d, (got d).1 (other, is), em)
        ],
        λ h. elim h [
          | inl (d, is, em) ↦ (d, ((got d).0 is).1, em)
          | inr (here, em) ↦ (class, subst (λ q. HasClass t q class) (sym here) of, em)
        ],
      )

  old_apart : (n : NodeName) → IsAt (without_instance t name) M n → IsOwn M class name n → ⊥
  old_apart n (d, is, em) (here, _) = ((got_remove name_cmp_total name_cmp_exact t.instances name n.instance d).0 is).0 here

  count_with : (m k : ℕ) → ¬ IsLive t name → IsCount (IsAt t M) m → IsCount (IsOwn M class name) k → IsCount (IsAt (with_instance t name class) M) (m + k)
  count_with m k fresh = count_of_either (IsAt t M) (IsOwn M class name) (IsAt (with_instance t name class) M) m k (with_own fresh) (new_apart fresh)

  count_without : (m k : ℕ) → HasClass t name class → IsCount (IsAt t M) m → IsCount (IsOwn M class name) k → IsCount (IsAt (without_instance t name) M) (m - k)
  count_without m k of count own =
      let (left, is_left, less) = within_deleted M t name m (m, count, omega arith) in
      let both = count_of_either (IsAt (without_instance t name) M) (IsOwn M class name) (IsAt t M) left k (without_own of) old_apart is_left own in
      let same = count_is_one (IsAt t M) m (left + k) count both in
      let rest : left ≡ m - k = omega arith in
      subst (IsCount (IsAt (without_instance t name) M)) rest is_left

-- the nodes of one instance alone
alone_own : (M : Kind) (tables : Tables) (name : List ℕ) (class : ClassId) (n : NodeName)
    → IsAt (with_instance (empty_topology tables) name class) M n ↔ IsOwn M class name n
alone_own M tables name class n = (
  λ at. elim ((with_own M (empty_topology tables) name class no_instance n).0 at) [
    | inl (d, is, em) ↦ let none = map.get-empty {X = ClassId} name_cmp n.instance in absurd (cc)
    | inr own ↦ own
  ],
  λ own. (with_own M (empty_topology tables) name class no_instance n).1 (inr own),
)
  where
    no_instance : ¬ IsLive (empty_topology tables) name
    no_instance live =
        let e = sym live ∙ ap is_some (map.get-empty {X = ClassId} name_cmp name) in
        cc

-- nodes, problems and symptom nodes alike are those of a kind
module _ (IsSuch : Topology → NodeName → Type 0) (M : Tables → Kind)
    (same : (u : Topology) (n : NodeName) → IsSuch u n ↔ IsAt u (M u.model) n) where
  pub alone : (tables : Tables) (name : List ℕ) (class : ClassId) (k : ℕ) → IsCount (IsOwn (M tables) class name) k
      → IsCount (IsSuch (with_instance (empty_topology tables) name class)) k
  alone tables name class k own =
      let u = with_instance (empty_topology tables) name class in
      let at = same_count _ _ (turned _ _ (alone_own (M tables) tables name class)) k own in
      same_count _ (IsSuch u) (turned _ _ (same u)) k at

  own_of : (tables : Tables) (name : List ℕ) (class : ClassId) (k : ℕ) → IsCount (IsSuch (with_instance (empty_topology tables) name class)) k
      → IsCount (IsOwn (M tables) class name) k
  own_of tables name class k count =
      let u = with_instance (empty_topology tables) name class in
      let at = same_count _ (IsAt u (M tables)) (same u) k count in
      same_count _ _ (alone_own (M tables) tables name class) k at

  pub grown : (t : Topology) (name : List ℕ) (class : ClassId) (m k : ℕ) → ¬ IsLive t name → IsCount (IsSuch t) m
      → IsCount (IsSuch (with_instance (empty_topology t.model) name class)) k → IsCount (IsSuch (with_instance t name class)) (m + k)
  grown t name class m k fresh count own =
      let u = with_instance t name class in
      let at = same_count _ (IsAt t (M t.model)) (same t) m count in
      same_count _ (IsSuch u) (turned _ _ (same u)) (m + k) (count_with (M t.model) t name class m k fresh at (own_of t.model name class k own))

  pub shrunk : (t : Topology) (name : List ℕ) (class : ClassId) (m k : ℕ) → HasClass t name class → IsCount (IsSuch t) m
      → IsCount (IsSuch (with_instance (empty_topology t.model) name class)) k → IsCount (IsSuch (without_instance t name)) (m - k)
  shrunk t name class m k of count own =
      let u = without_instance t name in
      let at = same_count _ (IsAt t (M t.model)) (same t) m count in
      same_count _ (IsSuch u) (turned _ _ (same u)) (m - k) (count_without (M t.model) t name class m k of at (own_of t.model name class k own))

module _ (tables : Tables) (class : ClassId) (old own : NodeCounts) (are_own : AreOwn tables class own) where
  moved : (t : Topology) (name : List ℕ) → t.model ≡ tables → AreCounts (with_instance (empty_topology t.model) name class) own
  moved t name same = subst (λ (m : Tables). AreCounts (with_instance (empty_topology m) name class) own) (sym same) (are_own name)

  pub counts_with : (new : NodeCounts) → new.nodes ≡ old.nodes + own.nodes → new.problems ≡ old.problems + own.problems → new.symptoms ≡ old.symptoms + own.symptoms
      → CountWith tables old class new
  counts_with new nodes problems symptoms = λ t name same fresh counts.
      let one = moved t name same in
      let u = with_instance t name class in
      record {
        nodes = subst (IsCount (IsNodeOf u)) (sym nodes) (grown IsNodeOf of_nodes nodes_are t name class old.nodes own.nodes fresh counts.nodes one.nodes);
        problems = subst (IsCount (IsProblem u)) (sym problems) (grown IsProblem of_problems problems_are t name class old.problems own.problems fresh counts.problems one.problems);
        symptoms = subst (IsCount (IsSymptomNode u)) (sym symptoms) (grown IsSymptomNode of_symptoms symptoms_are t name class old.symptoms own.symptoms fresh counts.symptoms one.symptoms);
      }

  pub counts_without : (new : NodeCounts) → new.nodes ≡ old.nodes - own.nodes → new.problems ≡ old.problems - own.problems → new.symptoms ≡ old.symptoms - own.symptoms
      → CountWithout tables old class new
  counts_without new nodes problems symptoms = λ t name same of counts.
      let one = moved t name same in
      let u = without_instance t name in
      record {
        nodes = subst (IsCount (IsNodeOf u)) (sym nodes) (shrunk IsNodeOf of_nodes nodes_are t name class old.nodes own.nodes of counts.nodes one.nodes);
        problems = subst (IsCount (IsProblem u)) (sym problems) (shrunk IsProblem of_problems problems_are t name class old.problems own.problems of counts.problems one.problems);
        symptoms = subst (IsCount (IsSymptomNode u)) (sym symptoms) (shrunk IsSymptomNode of_symptoms symptoms_are t name class old.symptoms own.symptoms of counts.symptoms one.symptoms);
      }

-- the topology without instances has no node
pub counts_of_none : (tables : Tables) (none : NodeCounts) → none.nodes ≡ 0 → none.problems ≡ 0 → none.symptoms ≡ 0 → AreCounts (empty_topology tables) none
counts_of_none tables none nodes problems symptoms =
    let t = empty_topology tables in
    record {
      nodes = subst (IsCount (IsNodeOf t)) (sym nodes) (count_of_none (IsNodeOf t) (λ n p. nothing_at (of_nodes tables) n ((nodes_are t n).0 p)));
      problems = subst (IsCount (IsProblem t)) (sym problems) (count_of_none (IsProblem t) (λ n p. nothing_at (of_problems tables) n ((problems_are t n).0 p)));
      symptoms = subst (IsCount (IsSymptomNode t)) (sym symptoms) (count_of_none (IsSymptomNode t) (λ n p. nothing_at (of_symptoms tables) n ((symptoms_are t n).0 p)));
    }
  where
    nothing_at : (M : Kind) (n : NodeName) → ¬ IsAt (empty_topology tables) M n
    nothing_at M n (c, is, em) = let none = map.get-empty {X = ClassId} name_cmp n.instance in cc

-- links and mutes are no nodes
pub counts_stay : (t u : Topology) (counts : NodeCounts) → u.model ≡ t.model → u.instances ≡ t.instances → AreCounts t counts → AreCounts u counts
counts_stay t u counts model instances are = record {
  nodes = same_count (IsNodeOf t) (IsNodeOf u) (same IsNodeOf of_nodes nodes_are) counts.nodes are.nodes;
  problems = same_count (IsProblem t) (IsProblem u) (same IsProblem of_problems problems_are) counts.problems are.problems;
  symptoms = same_count (IsSymptomNode t) (IsSymptomNode u) (same IsSymptomNode of_symptoms symptoms_are) counts.symptoms are.symptoms;
}
  where
    same : (IsSuch : Topology → NodeName → Type 0) (M : Tables → Kind) → ((v : Topology) (n : NodeName) → IsSuch v n ↔ IsAt v (M v.model) n) → (n : NodeName) → IsSuch t n ↔ IsSuch u n
    same IsSuch M is n = (
      λ p.
          let (c, of, em) = (is t n).0 p in
          (is u n).1 (c, subst (λ (m : map.FinMap name_cmp ClassId). map.get m n.instance ≡ Some c) (sym instances) of, subst (λ (m : Tables). (e : EventId) × M m c e n.event) (sym model) em),
      λ p.
          let (c, of, em) = (is u n).0 p in
          (is t n).1 (c, subst (λ (m : map.FinMap name_cmp ClassId). map.get m n.instance ≡ Some c) instances of, subst (λ (m : Tables). (e : EventId) × M m c e n.event) model em),
    )

-- a sound topology has no more than the limits
pub within_of_sound : (t : Topology) (counts : NodeCounts) → Sound t → AreCounts t counts → AreWithin counts
within_of_sound t counts sound are = record {
  nodes = small (IsNodeOf t) node_limit counts.nodes sound.few_nodes are.nodes;
  problems = small (IsProblem t) problem_limit counts.problems sound.few_problems are.problems;
  symptoms = small (IsSymptomNode t) symptom_limit counts.symptoms sound.few_symptoms are.symptoms;
}
  where
    small : (P : NodeName → Type 0) (limit k : ℕ) → IsCountWithin P limit → IsCount P k → k ≤ limit
    small P limit k (m, count, few) count' = let same = count_is_one P m k count count' in omega arith
