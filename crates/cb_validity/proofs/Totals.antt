-- What problems cause together is one number, and what the first of them cause is no more.
use Rattle.std.proofs.Common.{◌≡◌, inl, inr, ℕ, ◌≤◌, List, [], ◌∷◌, ◌++◌, refl, sym, ap, subst, ◌∙◌, arith}
use Rattle.std.specs.Prelude.{sum}
use Rattle.std.specs.FinSet as set
use Rattle.std.specs.List.{AllZip}
use Rattle.std.proofs.lemmas.Bool.{cases_lt}
use Rattle.std.proofs.lemmas.List.Sums.{sum_by-cons}
use Rattle.cb_model.specs.declared.node.NodeName.{NodeName}
use Rattle.cb_model.specs.NodeOrder.{node_cmp}
use Rattle.cb_network.specs.Topology.{Topology}
use Rattle.cb_network.specs.Nodes.{AreProblems}
use Rattle.cb_network.proofs.One.{problems_are_one, reached_is_one}
use Rattle.cb_cert.specs.Format.{entry_limit}
use Rattle.cb_validity.specs.Totals.{IsReach}
use Rattle.cb_validity.specs.Laws.{TotalReachIsOne, FewAreNotMany, EntriesAreFewOrMany}

size_is_one : (t : Topology) (p : NodeName) (m n : ℕ) → IsReach t p m → IsReach t p n → m ≡ n
size_is_one t p m n one other =
    let reached = reached_is_one t p one.reached other.reached one.is other.is in
    sym one.size_is ∙ (ap (λ (s : set.FinSet node_cmp). set.len s) reached ∙ other.size_is)

-- the first nodes cause no more together than all
first_are_less : (t : Topology) (first others : List NodeName) (xs ys : List ℕ) → AllZip (IsReach t) (first ++ others) xs
    → AllZip (IsReach t) first ys → sum ys ≤ sum xs
first_are_less t [] others xs [] all prefix = omega arith
first_are_less t [] others xs (y ∷ ys) all prefix = absurd prefix
first_are_less t (p ∷ ps) others [] ys all prefix = absurd all
first_are_less t (p ∷ ps) others (x ∷ xs) [] all prefix = absurd prefix
first_are_less t (p ∷ ps) others (x ∷ xs) (y ∷ ys) all prefix =
    let here : x ≡ y = size_is_one t p x y all.0 prefix.0 in
    let rest = first_are_less t ps others xs ys all.1 prefix.1 in
    let whole = sum_by-cons (λ (k : ℕ). k) x xs in
    let part = sum_by-cons (λ (k : ℕ). k) y ys in
    omega arith

sizes_are_one : (t : Topology) (nodes : List NodeName) (xs ys : List ℕ) → AllZip (IsReach t) nodes xs → AllZip (IsReach t) nodes ys → xs ≡ ys
sizes_are_one t [] [] [] a b = refl
sizes_are_one t [] [] (y ∷ ys) a b = absurd b
sizes_are_one t [] (x ∷ xs) ys a b = absurd a
sizes_are_one t (p ∷ ps) [] ys a b = absurd a
sizes_are_one t (p ∷ ps) (x ∷ xs) [] a b = absurd b
sizes_are_one t (p ∷ ps) (x ∷ xs) (y ∷ ys) a b =
    let here : x ≡ y = size_is_one t p x y a.0 b.0 in
    let rest = sizes_are_one t ps xs ys a.1 b.1 in
    cc

pub total_reach_is_one : TotalReachIsOne
total_reach_is_one t m n a b =
    let problems = problems_are_one t a.problems b.problems a.problems_are b.problems_are in
    let over = subst (λ (ps : List NodeName). AllZip (IsReach t) ps b.together.sizes) (sym problems) b.together.sizes_are in
    a.together.total_is ∙ (ap sum (sizes_are_one t a.problems a.together.sizes b.together.sizes a.together.sizes_are over) ∙ sym b.together.total_is)

pub few_are_not_many : FewAreNotMany
few_are_not_many t few many =
    let all = few.1 in
    let problems = problems_are_one t all.problems (many.first ++ many.others) all.problems_are many.problems_are in
    let over = subst (λ (ps : List NodeName). AllZip (IsReach t) ps all.together.sizes) problems all.together.sizes_are in
    let less = first_are_less t many.first many.others all.together.sizes many.together.sizes over many.together.sizes_are in
    let whole = all.together.total_is in
    let part = many.together.total_is in
    let low = few.2 in
    let more = many.many in
    omega (arith, less, whole, part, low, more)

ends_empty : (xs : List NodeName) → xs ≡ xs ++ []
ends_empty [] = refl
ends_empty (x ∷ xs) = ap (λ (ys : List NodeName). x ∷ ys) (ends_empty xs)

pub entries_are_few_or_many : EntriesAreFewOrMany
entries_are_few_or_many t total is = (
  (
    λ few. let same = total_reach_is_one t total few.0 is few.1 in let low = few.2 in omega (arith, same, low),
    λ low. (total, is, low),
  ),
  (
    λ many. elim (cases_lt entry_limit total) [
      | inl more ↦ more
      | inr low ↦ absurd (few_are_not_many t (total, is, low) many)
    ],
    λ more. record {
      first = is.problems;
      others = [];
      problems_are = subst (AreProblems t) (ends_empty is.problems) is.problems_are;
      total = total;
      together = is.together;
      many = more;
    },
  ),
)
