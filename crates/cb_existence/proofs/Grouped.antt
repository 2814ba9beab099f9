-- Problems have groups.
use Rattle.std.proofs.Common.{◌≡◌, ◌≢◌, ◌⊎◌, ℕ, List, [], ◌∷◌, refl, sym, ap, subst, ◌∙◌, inl, inr, true, false}
use Rattle.std.specs.List.{Contains}
use Rattle.std.specs.Ordering.{on}
use Rattle.std.specs.declared.cmp.Ordering.TheVariants.{Less}
use Rattle.std.proofs.lemmas.Bool.{cases_Bool}
use Rattle.cb_model.specs.declared.node.NodeName.{NodeName}
use Rattle.cb_model.specs.NodeOrder.{node_cmp}
use Rattle.cb_model.specs.Order.{Rises}
use Rattle.cb_model.proofs.Rising.{node_cmp_total, node_cmp_exact, node_strict, rises_head, rises_tail, contains_cases, contains_head, nothing_in_empty}
use Rattle.cb_coding.specs.declared.group.Group.{Group}
use Rattle.cb_coding.specs.declared.group.Problem.{Problem}
use Rattle.cb_coding.specs.Groups.{AreCodedProblems, IsGroup, AreGroups, same_code, is_zero, members_of, group_of, zeros, members_cmp}
use Rattle.cb_coding.proofs.One.{same_code_itself, problem_of_member, group_is}
use Rattle.cb_network.proofs.Decided.{Decision}
use Rattle.cb_existence.proofs.Found.{decide_empty}
use Rattle.cb_existence.proofs.Gathered.{IsOrderOf, order_of_total, gather}

-- problems in order that have one name are one
one_problem : (problems : List Problem) → Rises (on (λ p. p.name) node_cmp) problems → (p q : Problem) → Contains problems p → Contains problems q
    → p.name ≡ q.name → p ≡ q
one_problem [] rise p q has_p has_q same = absurd (nothing_in_empty p has_p)
one_problem (r ∷ problems) rise p q has_p has_q same = elim (contains_cases r problems p has_p) [
  | inl is_p ↦ elim (contains_cases r problems q has_q) [
    | inl is_q ↦ sym is_p ∙ is_q
    | inr late ↦ absurd (apart p q is_p late same)
  ]
  | inr late_p ↦ elim (contains_cases r problems q has_q) [
    | inl is_q ↦ absurd (apart q p is_q late_p (sym same))
    | inr late_q ↦ one_problem problems (rises_tail (on (λ (k : Problem). k.name) node_cmp) r problems rise) p q late_p late_q same
  ]
]
  where
    apart : (u v : Problem) → r ≡ u → Contains problems v → u.name ≡ v.name → ⊥
    apart u v is late same =
        let below : node_cmp r.name v.name ≡ Less = rises_head (on (λ (k : Problem). k.name) node_cmp) r problems rise v late in
        let itself : node_cmp v.name v.name ≡ Less = subst (λ (n : NodeName). node_cmp n v.name ≡ Less) (ap (λ (k : Problem). k.name) is ∙ same) below in
        node_strict v.name v.name itself itself

-- the code of a problem has a member
has_member : (problems : List Problem) (p : Problem) → Contains problems p → members_of problems p.code ≢ []
has_member [] p has = absurd (nothing_in_empty p has)
has_member (q ∷ problems) p has =
    elim (same_code p.code q.code) as (λ b. same_code p.code q.code ≡ b → members_of (q ∷ problems) p.code ≢ []) [
      | true ↦ λ is. rw is (λ none. absurd (cc))
      | false ↦ λ is. rw is (elim (contains_cases q problems p has) [
        | inl same ↦
            let yes : same_code p.code q.code ≡ true = subst (λ (k : Problem). same_code p.code k.code ≡ true) (sym same) (same_code_itself p.code) in
            absurd (cc)
        | inr later ↦ has_member problems p later
      ])
    ] refl

through_members : (xs ys zs : List NodeName) → members_cmp xs ys ≡ Less → members_cmp ys zs ≡ Less → members_cmp xs zs ≡ Less
through_members [] ys zs e f = absurd (cc)
through_members (x ∷ xs) [] zs e f = absurd (cc)
through_members (x ∷ xs) (y ∷ ys) [] e f = refl
through_members (x ∷ xs) (y ∷ ys) (z ∷ zs) e f = node_cmp_total.trans x y z e f

-- two lists of members have a common one, or one list comes before the other
compare_members : (xs ys : List NodeName) → xs ≢ [] → ys ≢ []
    → ((n : NodeName) × Contains xs n × Contains ys n) ⊎ ((members_cmp xs ys ≡ Less) ⊎ (members_cmp ys xs ≡ Less))
compare_members [] ys some_x some_y = absurd (some_x refl)
compare_members (x ∷ xs) [] some_x some_y = absurd (some_y refl)
compare_members (x ∷ xs) (y ∷ ys) some_x some_y =
    let order = order_of_total node_cmp (λ n. Unit {0}) node_cmp_total (λ m n p q. node_cmp_exact m n) in
    elim (order.compare x y tt tt) [
      | inl same ↦ inl (x, contains_head x xs, subst (Contains (y ∷ ys)) (sym same) (contains_head y ys))
      | inr apart ↦ inr apart
    ]

module _ (width : ℕ) (problems : List Problem) (coded : AreCodedProblems width problems) where
  -- groups that share a member are one
  one_group : (g h : Group) → IsGroup problems g → IsGroup problems h → (n : NodeName) → Contains g.members n → Contains h.members n → g ≡ h
  one_group g h is_g is_h n in_g in_h =
      let p = problem_of_member g.code problems n (subst (λ (ns : List NodeName). Contains ns n) is_g.members in_g) in
      let q = problem_of_member h.code problems n (subst (λ (ns : List NodeName). Contains ns n) is_h.members in_h) in
      let same : p.0 ≡ q.0 = one_problem problems coded.rise p.0 q.0 p.1 q.1 (p.3 ∙ sym q.3) in
      let code : g.code ≡ h.code = p.2 ∙ (ap (λ (k : Problem). k.code) same ∙ sym q.2) in
      sym (group_is problems g h.code code is_g.members) ∙ group_is problems h h.code refl is_h.members

  by_members : IsOrderOf (on (λ (g : Group). g.members) members_cmp) (IsGroup problems)
  by_members = record {
    compare = λ g h is_g is_h. elim (compare_members g.members h.members is_g.some is_h.some) [
      | inl (n, in_g, in_h) ↦ inl (one_group g h is_g is_h n in_g in_h)
      | inr apart ↦ inr apart
    ];
    through = λ g h k is_g is_h is_k. through_members g.members h.members k.members;
  }

  -- the group of a problem, if it has a symptom
  found_group : (p : Problem) → Decision ((g : Group) × (g ≡ group_of problems p.code) × IsGroup problems g)
  found_group p = elim (cases_Bool (is_zero p.code)) [
    | inl quiet ↦ inr (λ (g, is, group). let other = group.nonzero in let e : is_zero g.code ≡ is_zero p.code = ap (λ (k : Group). is_zero k.code) is in absurd (cc))
    | inr loud ↦ elim (decide_empty (members_of problems p.code)) [
      | inl none ↦ inr (λ (g, is, group). group.some (ap (λ (k : Group). k.members) is ∙ none))
      | inr some ↦ inl (group_of problems p.code, refl, record { nonzero = loud; members = refl; some = some })
    ]
  ]

  pub groups_exist : (groups : List Group) × AreGroups width problems groups
  groups_exist =
      let gathered = gather (on (λ (g : Group). g.members) members_cmp) (IsGroup problems) by_members (λ (p : Problem) g. g ≡ group_of problems p.code)
      (λ p g h e is_g f is_h. e ∙ sym f) found_group problems
      in (
        group_of problems (zeros width) ∷ gathered.items,
        record {
          others = gathered.items;
          quiet = refl;
          each = λ g has. ((gathered.each g).0 has).3;
          all = λ p has loud. (gathered.each (group_of problems p.code)).1
              (p, has, refl, record { nonzero = loud; members = refl; some = has_member problems p has });
          rise = gathered.rise;
        },
      )
