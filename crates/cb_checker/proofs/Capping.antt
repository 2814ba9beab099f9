-- The last check of a book for a cap: its radii.
use Rattle.std.proofs.Common.{◌≡◌, ◌⊎◌, ℕ, ◌+◌, ◌<◌, List, [], ◌∷◌, length, refl, sym, ap, subst, ◌∙◌, arith, inl, inr, Some}
use Rattle.std.specs.Prelude.{Result, Ok, Err, IfOk, slice_get}
use Rattle.std.specs.List.{All}
use Rattle.std.proofs.lemmas.List.{length-map}
use Rattle.std.proofs.lemmas.Option.{slice_get_within, slice_get-get_or, get_or_from_slice_get}
use Rattle.cb_model.specs.declared.node.NodeName.{NodeName}
use Rattle.cb_model.specs.declared.wish.Wish.TheVariants.{Cap}
use Rattle.cb_coding.specs.declared.group.Group.{Group}
use Rattle.cb_coding.specs.Groups.{codes_of}
use Rattle.cb_coding.specs.Radii.{AreRadii, radius_at}
use Rattle.cb_coding.specs.Used.{IsRadius, AreLeastAndGreatest}
use Rattle.cb_coding.proofs.UsedLaws.{radius_is_one}
use Rattle.cb_network.specs.Topology.{Topology}
use Rattle.cb_cert.specs.declared.certificate.Certificate.{Certificate}
use Rattle.cb_cert.specs.declared.certificate.Certificate.TheVariants.{Capped}
use Rattle.cb_cert.specs.declared.certificate.Span.{Span}
use Rattle.cb_validity.specs.declared.verdict.Accepted.{Accepted}
use Rattle.cb_validity.specs.declared.verdict.Rejected.{Rejected}
use Rattle.cb_validity.specs.declared.verdict.Rejected.TheVariants.{BadRadius, NoMemory}
use Rattle.cb_validity.specs.Checks.{Judges, Passes, book_checks, capped_checks, radius_check, IsOwnRadius, IsFirstBadRadius}
use Rattle.cb_validity.specs.Reading.{MakeGroups, MakeRadii}
use Rattle.cb_validity.specs.Verdicts.{CertificateShows, ShowsCapped}
use Rattle.cb_validity.proofs.Firsts.{made_is_one}
use Rattle.cb_validity.proofs.Stages.{passed_go_on}
use Rattle.cb_checker.specs.Known.{verdict_of}
use Rattle.cb_checker.specs.Radii.{LackRadius, JudgesRadii}
use Rattle.cb_checker.proofs.Joined.{fails_here, pass_one}

-- a failed check of radii tells a position, or memory ran out
failed_radii : (width : ℕ) (groups : List Group) (cap : ℕ) (stated : List ℕ) (columns : ℕ) (why : Rejected)
    → JudgesRadii width groups cap stated columns (Err why) → (why ≡ NoMemory) ⊎ LackRadius width groups cap stated why
failed_radii width groups cap stated columns NoMemory p = inl refl
failed_radii width groups cap stated columns why p = inr p

module _ (t : Topology) (cap : ℕ) (nodes : List NodeName) (numbers stated : List ℕ) (spans : List Span) (columns : List NodeName) (groups : List Group)
    (made : MakeGroups t nodes spans columns groups) where
  abbrev c : Certificate
  c = Capped cap nodes numbers stated spans

  abbrev own_at : ℕ → Type 0
  own_at k = IsOwnRadius (length columns) (codes_of groups) cap stated k

  -- where the radii are stated, each position has its own
  own_of_radii : AreRadii (length columns) (codes_of groups) cap stated → (k : ℕ) → k < length (codes_of groups) → own_at k
  own_of_radii are k low = record {
    radius = radius_at stated k;
    is = slice_get-get_or stated k 0 (let all = are.all in omega arith);
    within = low;
    own = are.each k low;
  }

  module _ (why : Rejected) (lack : LackRadius (length columns) groups cap stated why) where
    abbrev own : List ℕ
    own = lack.own

    before : (k : ℕ) → k < lack.place → own_at k
    before k low =
        let (x, here, there) = lack.first.before k low in
        let within = slice_get_within own k x here in
        let inside : k < length (codes_of groups) = let all = lack.own_are.all in omega arith in
        let is : radius_at own k ≡ x = get_or_from_slice_get own k x 0 here in
        record { radius = x; is = there; within = inside; own = subst (IsRadius (length columns) (codes_of groups) (Cap cap) k) is (lack.own_are.each k inside) }

    bad : ¬ own_at lack.place
    bad at =
        let place = lack.place in
        let all = lack.own_are.all in
        let within = at.within in
        let same = radius_is_one (length columns) (codes_of groups) (Cap cap) place (radius_at own place) at.radius within (lack.own_are.each place within) at.own in
        let here = slice_get-get_or own place 0 (omega arith) ∙ ap Some same in
        lack.first.differs (at.radius, here, at.is)

    some_group : AreRadii (length columns) (codes_of groups) cap stated → lack.place < length (codes_of groups)
    some_group are =
        let all = lack.own_are.all in
        let stated_all = are.all in
        elim lack.first.some [
          | inl low ↦ omega arith
          | inr low ↦ omega arith
        ]

    not_made : ¬ MakeRadii t nodes spans cap stated
    not_made make =
        let same = made_is_one t nodes spans make.columns columns make.groups groups make.made made in
        let are = subst (λ (gs : List Group). AreRadii (length columns) (codes_of gs) cap stated) same.1
        (subst (λ (cs : List NodeName). AreRadii (length cs) (codes_of make.groups) cap stated) same.0 make.are)
        in
        bad (own_of_radii are lack.place (some_group are))

    first_bad : IsFirstBadRadius t nodes spans cap stated lack.place
    first_bad =
        let all = lack.own_are.all in
        let many = length-map groups (λ (g : Group). g.code) in
        record {
          columns = columns;
          groups = groups;
          made = made;
          some = elim lack.first.some [
            | inl low ↦ inr (omega arith)
            | inr low ↦ inl low
          ];
          before = before;
          bad = bad;
        }

    radius_fails : Judges t c (radius_check ∷ []) (Err why)
    radius_fails = subst (λ w. Judges t c (radius_check ∷ []) (Err w)) (sym lack.is)
        (fails_here t c radius_check [] (BadRadius (lack.place + 1)) (λ make. not_made make) (lack.place, first_bad, refl))

  radius_judged : (width count : ℕ) → width ≡ length columns → (result : Result Accepted Rejected) → JudgesRadii width groups cap stated count result
      → Judges t c (radius_check ∷ []) (verdict_of result)
  radius_judged width count wide (Ok shown) show =
      pass_one t c radius_check (record {
        columns = columns;
        groups = groups;
        made = made;
        are = subst (λ w. AreRadii w (codes_of groups) cap stated) wide show.are;
      })
  radius_judged width count wide (Err why) p = elim (failed_radii width groups cap stated count why p) [
    | inl none ↦ subst (λ w. Judges t c (radius_check ∷ []) (Err w)) (sym none) tt
    | inr lack ↦ radius_fails why (subst (λ w. LackRadius w groups cap stated why) wide lack)
  ]

  -- what all checks come to
  pub capped_judged : (names : List NodeName) (width count : ℕ) → width ≡ length columns → All (Passes t c) (book_checks names nodes numbers spans)
      → (result : Result Accepted Rejected) → JudgesRadii width groups cap stated count result → Judges t c (capped_checks names nodes numbers spans) (verdict_of result)
  capped_judged names width count wide passed result judged =
      passed_go_on t c (book_checks names nodes numbers spans) (radius_check ∷ []) (verdict_of result) passed (radius_judged width count wide result judged)

  -- and what is shown
  pub capped_shown : (width count : ℕ) → width ≡ length columns → count ≡ length numbers → (result : Result Accepted Rejected)
      → JudgesRadii width groups cap stated count result → IfOk result (CertificateShows t c)
  capped_shown width count wide counted (Err why) judged = tt
  capped_shown width count wide counted (Ok shown) show =
      let are : AreRadii (length columns) (codes_of groups) cap stated = subst (λ w. AreRadii w (codes_of groups) cap stated) wide show.are in
      let all = are.all in
      let codes = codes_of groups in
      let at : (i v : ℕ) → slice_get stated i ≡ Some v → (i < length codes) × IsRadius (length columns) codes (Cap cap) i v = λ i v e.
      let within = slice_get_within stated i v e in
      let low : i < length codes = omega arith in
      (low, subst (IsRadius (length columns) codes (Cap cap) i) (get_or_from_slice_get stated i v 0 e) (are.each i low))
      in
      let x = show.extremes in
      let radii_are : AreLeastAndGreatest (length columns) codes (Cap cap) show.least show.greatest = record {
        least_is = (let (i, e) = x.least_is in let (low, is) = at i show.least e in (i, low, is));
        greatest_is = (let (i, e) = x.greatest_is in let (low, is) = at i show.greatest e in (i, low, is));
        between = λ i r low is.
            let same = radius_is_one (length columns) codes (Cap cap) i (radius_at stated i) r low (are.each i low) is in
            x.between i r (slice_get-get_or stated i 0 (omega arith) ∙ ap Some same);
      } in
      let shows : ShowsCapped t nodes numbers spans cap show.least show.greatest (length groups) count = record {
        all = columns;
        made = groups;
        made_are = made;
        radii_are = radii_are;
        groups_are = refl;
        columns_are = counted;
      } in
      subst (CertificateShows t c) (sym show.is) (refl, shows)
