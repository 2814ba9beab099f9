-- Whether groups are far enough apart can be decided, and what is reported of a codebook exists.
use Rattle.std.proofs.Common.{◌≡◌, ◌≢◌, ◌⊎◌, ◌<◌, ◌≤◌, ◌++◌, ℕ, zero, suc, List, [], ◌∷◌, length, refl, sym, ap, subst, ◌∙◌, inl, inr, arith, Bool, Some}
use Rattle.std.proofs.lemmas.Bool.{cases_lt, cases_order}
use Rattle.std.proofs.lemmas.List.{length-map}
use Rattle.std.proofs.lemmas.Option.{slice_get-get_or}
use Rattle.std.specs.List.{Contains, slice_get}
use Rattle.cb_model.specs.declared.node.GroupName.{GroupName}
use Rattle.cb_model.specs.declared.node.GroupName.TheVariants.{Quiet, Least}
use Rattle.cb_model.specs.declared.node.NodeName.{NodeName}
use Rattle.cb_model.proofs.Rising.{contains_head, contains_tail}
use Rattle.cb_model.specs.declared.wish.Wish.{Wish}
use Rattle.cb_model.specs.declared.wish.Wish.TheVariants.{Plain, Cap}
use Rattle.cb_coding.specs.declared.book.Pair.{Pair}
use Rattle.cb_coding.specs.declared.group.Group.{Group}
use Rattle.cb_coding.specs.declared.group.Problem.{Problem}
use Rattle.cb_coding.specs.Answers.{radius}
use Rattle.cb_coding.specs.Distance.{apart, all_columns}
use Rattle.cb_coding.specs.Groups.{AreGroups, codes_of, group_of, zeros}
use Rattle.cb_coding.specs.Pairs.{IsPair, IsFirstClose, Good}
use Rattle.cb_finding.specs.Finding.{IsCalled}
use Rattle.cb_network.specs.Topology.{Topology}
use Rattle.cb_log.specs.declared.event.Event.{Event}
use Rattle.cb_log.specs.declared.event.Event.TheVariants.{Thin, BookMade, CapMade}
use Rattle.cb_log.specs.Basis.{Mode, Basis, IsThin, IsMadeFor, AreWarnings, IsAnnounced}
use Rattle.cb_log.proofs.RadiiExist.{least_and_greatest_exist}

-- the first number below a limit such that P, or there is none
abbrev FirstBelow : (ℕ → Type 0) → ℕ → Type 0
FirstBelow P n = ((k : ℕ) × (k < n) × P k × ((j : ℕ) → j < k → ¬ P j)) ⊎ ((k : ℕ) → k < n → ¬ P k)

first_below : (P : ℕ → Type 0) → ((k : ℕ) → P k ⊎ (¬ P k)) → (n : ℕ) → FirstBelow P n
first_below P decide zero = inr (λ k lt. absurd (omega arith))
first_below P decide (suc n) = elim (first_below P decide n) [
  | inl found ↦ inl (found.0, (let lt = found.1 in omega arith), found.2, found.3)
  | inr none ↦ elim (decide n) [
    | inl here ↦ inl (n, omega arith, here, none)
    | inr not_here ↦ inr (λ k lt. elim (cases_order k n) [
      | inl e ↦ subst (λ (m : ℕ). ¬ P m) (sym e) not_here
      | inr (inl below) ↦ none k below
      | inr (inr above) ↦ absurd (omega arith)
    ])
  ]
]

module _ (columns : List ℕ) (codes : List (List Bool)) (d : ℕ) where
  -- the codes at these places are too close
  abbrev Close : ℕ → ℕ → Type 0
  Close i j = (i < j) × (j < length codes) × (apart columns codes i j < d)

  decide_close : (i j : ℕ) → Close i j ⊎ (¬ Close i j)
  decide_close i j = elim (cases_lt i j) [
    | inr not_less ↦ inr (λ h. let a = h.0 in absurd (omega arith))
    | inl less ↦ elim (cases_lt j (length codes)) [
      | inr out ↦ inr (λ h. let a = h.1 in absurd (omega arith))
      | inl within ↦ elim (cases_lt (apart columns codes i j) d) [
        | inr far ↦ inr (λ h. let a = h.2 in absurd (omega arith))
        | inl near ↦ inl (less, within, near)
      ]
    ]
  ]

  -- some code after the one at this place is too close to it
  abbrev HasClose : ℕ → Type 0
  HasClose i = (j : ℕ) × (j < length codes) × Close i j × ((k : ℕ) → k < j → ¬ Close i k)

  decide_has : (i : ℕ) → HasClose i ⊎ (¬ HasClose i)
  decide_has i = elim (first_below (Close i) (decide_close i) (length codes)) [
    | inl found ↦ inl found
    | inr none ↦ inr (λ h. none h.0 h.1 h.2)
  ]

  -- where the first close one isn't there, none is
  none_close : (i : ℕ) → (¬ HasClose i) → (j : ℕ) → ¬ Close i j
  none_close i none j close = elim (first_below (Close i) (decide_close i) (length codes)) [
    | inl found ↦ none found
    | inr never ↦ never j close.1 close
  ]

  far_unless : (i j : ℕ) → IsPair codes i j → (¬ Close i j) → d ≤ apart columns codes i j
  far_unless i j pair not_close = elim (cases_lt (apart columns codes i j) d) [
    | inl near ↦ absurd (not_close (pair.0, pair.1, near))
    | inr far ↦ far
  ]

  pub good_or_close : Good codes columns d ⊎ ((pair : Pair) × IsFirstClose columns codes d pair)
  good_or_close = elim (first_below HasClose decide_has (length codes)) [
    | inr none ↦ inl (λ i j pair. far_unless i j pair (λ close. none_close i (none i (let a = pair.0 in let b = pair.1 in omega arith)) j close))
    | inl (i, lt, (j, within, close, first_j), first_i) ↦ inr (
      record { first = i; second = j; distance = apart columns codes i j },
      record {
        is_pair = (close.0, close.1);
        distance = refl;
        close = close.2;
        first = λ k l pair before. far_unless k l pair (λ near. elim before [
          | inl earlier ↦ none_close k (first_i k earlier) l near
          | inr both ↦ first_j l both.1 (subst (λ (m : ℕ). Close m l) both.0 near)
        ]);
      },
    )
  ]

-- a later group has a member
head_of : (members : List NodeName) → members ≢ [] → (n : NodeName) × (slice_get members 0 ≡ Some n)
head_of [] some = absurd (some refl)
head_of (n ∷ members) some = (n, refl)

pub called : (width : ℕ) (problems : List Problem) (groups : List Group) → AreGroups width problems groups → (i : ℕ) → i < length groups → (name : GroupName) × IsCalled groups i name
called width problems groups are zero lt = (Quiet, refl)
called width problems groups are (suc k) lt =
    let long : length groups ≡ suc (length are.others) = ap length are.quiet in
    let g : Group = Rattle.std.proofs.Common.get_or are.others k (group_of problems (zeros width)) in
    let here : slice_get are.others k ≡ Some g = slice_get-get_or are.others k (group_of problems (zeros width)) (omega arith) in
    let there : slice_get groups (suc k) ≡ Some g = ap (λ (gs : List Group). slice_get gs (suc k)) are.quiet ∙ here in
    let inside : Contains are.others g = contains_got are.others k g here in
    let head = head_of g.members (are.each g inside).some in
    (Least head.0, (omega arith, g, there, head.1))
  where
    contains_got : (gs : List Group) (k : ℕ) (g : Group) → slice_get gs k ≡ Some g → Contains gs g
    contains_got [] k g e = absurd (cc)
    contains_got (h ∷ gs) zero g e = subst (Contains (h ∷ gs)) (let f : h ≡ g = cc in f) (contains_head h gs)
    contains_got (h ∷ gs) (suc k) g e = contains_tail h gs g (contains_got gs k g e)

module _ (network : Topology) (mode : Mode) (basis : Basis network mode) where
  -- what is reported before a codebook exists
  warned : (wish : Wish) → (events : List Event) × AreWarnings basis wish events
  warned (Cap cap) = ([], refl)
  warned (Plain d) =
      let codes = codes_of basis.groups in
      let groups = basis.matrix.groups_are in
      let problems = basis.matrix.problems in
      elim (good_or_close (all_columns (length basis.columns)) codes d) [
        | inl good ↦ ([], inl (good, refl))
        | inr (pair, close) ↦
            let long : length codes ≡ length basis.groups = length-map basis.groups (λ (g : Group). g.code) in
            let ordered = close.is_pair.0 in
            let within = close.is_pair.1 in
            let first = called (length basis.columns) problems basis.groups groups pair.first (omega arith) in
            let second = called (length basis.columns) problems basis.groups groups pair.second (omega arith) in
            let thin : Event = Thin d first.0 second.0 pair.distance in
            let is_thin : IsThin basis d thin = record {
              pair = pair;
              is_first = close;
              first = first.0;
              first_is = first.1;
              second = second.0;
              second_is = second.1;
              is = refl;
            } in
            (thin ∷ [], inr (thin, is_thin, refl))
      ]

  -- and so do the numbers of a codebook that meets a wish
  made_for : (wish : Wish) → (event : Event) × IsMadeFor basis wish event
  made_for (Plain d) = (BookMade (length basis.kept) (length basis.columns) d (radius d) (length basis.groups), refl)
  made_for (Cap cap) =
      let quiet : length basis.groups ≡ suc (length basis.matrix.groups_are.others) = ap length basis.matrix.groups_are.quiet in
      let long = length-map basis.groups (λ (g : Group). g.code) in
      let (least, greatest, are) = least_and_greatest_exist (length basis.columns) (codes_of basis.groups) cap (omega arith) in (
        CapMade (length basis.kept) (length basis.columns) cap least greatest (length basis.groups),
        record { least = least; greatest = greatest; radii = are; is = refl },
      )

  -- what is reported of a codebook exists
  pub announced : (wish : Wish) → (events : List Event) × IsAnnounced basis wish events
  announced wish =
      let warnings = warned wish in
      let made = made_for basis.used in (
        warnings.0 ++ made.0 ∷ [],
        record { warnings = warnings.0; are_warnings = warnings.1; made = made.0; is_made = made.1; events_are = refl },
      )
