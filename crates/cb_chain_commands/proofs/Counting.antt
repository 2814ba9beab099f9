-- Steps that searches from problems count, one after the other.
use Rattle.std.proofs.Common.{◌≡◌, ◌≤◌, ◌+◌, ℕ, List, [], ◌∷◌, ◌++◌, refl, sym, subst, take, drop, arith}
use Rattle.std.specs.Prelude.{Some, sum}
use Rattle.std.specs.List.{AllZip, slice_get}
use Rattle.std.proofs.lemmas.Grind.{flat_map-append}
use Rattle.std.proofs.lemmas.List.{append-nil, take-append-drop}
use Rattle.std.proofs.lemmas.List.Sums.{sum_by-cons}
use Rattle.cb_model.specs.declared.node.NamedGroup.{NamedGroup}
use Rattle.cb_model.specs.declared.node.NodeName.{NodeName}
use Rattle.cb_model.proofs.Numbers.{take_more}
use Rattle.cb_change.specs.Costs.{IsOpenCost}
use Rattle.cb_finding.specs.declared.finding.Finding.{Finding}
use Rattle.cb_finding.specs.Finding.{IsBurst}
use Rattle.cb_finding.proofs.One.{burst_is_one}
use Rattle.cb_network.specs.Causes.{Causes}
use Rattle.cb_network.specs.Nodes.{IsCount}
use Rattle.cb_network.specs.Topology.{Topology}
use Rattle.cb_outcome.specs.Costs.{IsTotalCaused, IsExplainCost, members_but_of_quiet, problems_explained}
use Rattle.cb_chain_commands.specs.Explaining.{CountsFrom}

sum-cons : (x : ℕ) (xs : List ℕ) → sum (x ∷ xs) ≡ x + sum xs
sum-cons x xs = sum_by-cons (λ n. n) x xs

module _ (t : Topology) where
  abbrev HasSize : NodeName → ℕ → Type 0
  HasSize p n = IsCount (Causes t p) n

  -- the sizes of problems in two parts
  parted_sizes : (xs ys : List NodeName) (sizes : List ℕ) → AllZip HasSize (xs ++ ys) sizes
      → (ms : List ℕ) × (ns : List ℕ) × AllZip HasSize xs ms × AllZip HasSize ys ns × (sum sizes ≡ sum ms + sum ns)
  parted_sizes [] ys sizes zip = ([], sizes, tt, zip, let none : sum [] ≡ 0 = refl in omega arith)
  parted_sizes (x ∷ xs) ys [] zip = absurd zip
  parted_sizes (x ∷ xs) ys (m ∷ sizes) zip =
      let (ms, ns, first, second, same) = parted_sizes xs ys sizes zip.1 in
      (m ∷ ms, ns, (zip.0, first), second, let e = sum-cons m sizes in let f = sum-cons m ms in omega (arith, e, f, same))

  pub counts_same : (problems : List NodeName) (steps steps' : ℕ) → steps' ≡ steps → CountsFrom t problems steps steps'
  counts_same problems steps steps' same total is = omega (arith, same)

  -- first these problems, and then those
  pub counts_both : (xs ys : List NodeName) (a b c : ℕ) → CountsFrom t xs a b → CountsFrom t ys b c → CountsFrom t (xs ++ ys) a c
  counts_both xs ys a b c first second total is =
      let (ms, ns, here, there, same) = parted_sizes xs ys is.sizes is.sized in
      let p = first (sum ms) (record { sizes = ms; sized = here; total_is = refl }) in
      let q = second (sum ns) (record { sizes = ns; sized = there; total_is = refl }) in
      let e = is.total_is in
      omega (arith, p, q, same, e)

  one_size : (p : NodeName) (sizes : List ℕ) → AllZip HasSize (p ∷ []) sizes → (n : ℕ) × HasSize p n × (sum sizes ≡ n)
  one_size p [] zip = absurd zip
  one_size p (n ∷ []) zip = (n, zip.0, let e = sum-cons n [] in let none : sum [] ≡ 0 = refl in omega (arith, e, none))
  one_size p (n ∷ m ∷ ms) zip = absurd zip.1

  pub counts_one : (p : NodeName) (a b : ℕ) → ((count : ℕ) → IsCount (Causes t p) count → b ≤ a + count) → CountsFrom t (p ∷ []) a b
  counts_one p a b few total is =
      let (n, size, same) = one_size p is.sizes is.sized in
      let h = few n size in
      let e = is.total_is in
      omega (arith, h, same, e)

  -- the problems up to a position, and one more; and those up to it are some of all
  pub counts_next : (problems : List NodeName) (i : ℕ) (p : NodeName) (a b c : ℕ) → slice_get problems i ≡ Some p → CountsFrom t (take i problems) a b
      → CountsFrom t (p ∷ []) b c → CountsFrom t (take (i + 1) problems) a c
  counts_next problems i p a b c at first second =
      subst (λ (ps : List NodeName). CountsFrom t ps a c) (sym (take_more problems i p at)) (counts_both (take i problems) (p ∷ []) a b c first second)

  pub counts_some : (problems : List NodeName) (n a b : ℕ) → CountsFrom t (take n problems) a b → CountsFrom t problems a b
  counts_some problems n a b few =
      subst (λ (ps : List NodeName). CountsFrom t ps a b) (take-append-drop n problems)
      (counts_both (take n problems) (drop n problems) a b b few (counts_same (drop n problems) b b refl))

  -- the same by groups
  explained_more : (gs hs : List NamedGroup) → problems_explained (gs ++ hs) ≡ problems_explained gs ++ problems_explained hs
  explained_more gs hs = flat_map-append (λ (group : NamedGroup). members_but_of_quiet group.quiet group.members) gs hs

  pub groups_next : (groups : List NamedGroup) (i : ℕ) (g : NamedGroup) (a b c : ℕ) → slice_get groups i ≡ Some g
      → CountsFrom t (problems_explained (take i groups)) a b → CountsFrom t (members_but_of_quiet g.quiet g.members) b c
      → CountsFrom t (problems_explained (take (i + 1) groups)) a c
  groups_next groups i g a b c at first second =
      let last : problems_explained (g ∷ []) ≡ members_but_of_quiet g.quiet g.members = append-nil (members_but_of_quiet g.quiet g.members) in
      let here : CountsFrom t (problems_explained (g ∷ [])) b c = subst (λ (ps : List NodeName). CountsFrom t ps b c) (sym last) second in
      subst (λ (gs : List NamedGroup). CountsFrom t (problems_explained gs) a c) (sym (take_more groups i g at))
      (subst (λ (ps : List NodeName). CountsFrom t ps a c) (sym (explained_more (take i groups) (g ∷ [])))
      (counts_both (problems_explained (take i groups)) (problems_explained (g ∷ [])) a b c first here))

  pub groups_some : (groups : List NamedGroup) (n a b : ℕ) → CountsFrom t (problems_explained (take n groups)) a b → CountsFrom t (problems_explained groups) a b
  groups_some groups n a b few =
      subst (λ (gs : List NamedGroup). CountsFrom t (problems_explained gs) a b) (take-append-drop n groups)
      (subst (λ (ps : List NodeName). CountsFrom t ps a b) (sym (explained_more (take n groups) (drop n groups)))
      (counts_both (problems_explained (take n groups)) (problems_explained (drop n groups)) a b b few
      (counts_same (problems_explained (drop n groups)) b b refl)))

  -- the search of the topology alone, and then the searches for a finding
  pub opening_cost : (nodes : List NodeName) (a b cost : ℕ) → ((searched : ℕ) → IsOpenCost t searched → b ≤ a + searched) → IsExplainCost t nodes cost
      → b ≤ a + cost
  opening_cost nodes a b cost few is = let h = few is.searched is.is_searched in let e = is.cost_is in omega (arith, h, e)

  pub whole_cost : (nodes : List NodeName) (finding : Finding) (a b c cost : ℕ) → IsBurst t nodes finding
      → ((searched : ℕ) → IsOpenCost t searched → b ≤ a + searched) → CountsFrom t (problems_explained finding.groups) b c → IsExplainCost t nodes cost
      → c ≤ a + cost
  whole_cost nodes finding a b c cost burst few more is =
      let same = burst_is_one t nodes is.finding finding is.burst burst in
      let total = subst (λ (f : Finding). IsTotalCaused t (problems_explained f.groups) is.explained) same is.is_explained in
      let h = few is.searched is.is_searched in
      let k = more is.explained total in
      let e = is.cost_is in
      omega (arith, h, k, e)
