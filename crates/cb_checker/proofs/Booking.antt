-- A whole book: its checks one after another, and its claim.
use Rattle.std.proofs.Common.{◌≡◌, ◌↔◌, ◌<◌, ap, ℕ, List, [], ◌∷◌, ◌++◌, length, map, refl, sym, subst, ◌∙◌, arith}
use Rattle.std.specs.Prelude.{Result, Ok, Err}
use Rattle.std.specs.List.{All, flat_map}
use Rattle.cb_model.specs.declared.node.NodeName.{NodeName}
use Rattle.cb_model.specs.declared.node.GroupName.{GroupName}
use Rattle.cb_model.specs.declared.wish.Wish.{Wish}
use Rattle.cb_model.specs.declared.wish.Wish.TheVariants.{Plain, Cap}
use Rattle.cb_coding.specs.declared.group.Problem.{Problem}
use Rattle.cb_coding.specs.declared.group.Group.{Group}
use Rattle.cb_coding.specs.Groups.{AreGroups, codes_of}
use Rattle.cb_coding.specs.declared.book.Pair.{Pair}
use Rattle.cb_coding.specs.Needs.{need_of}
use Rattle.cb_codes.specs.Groups.{Grouped}
use Rattle.cb_coding.specs.Pairs.{GoodFor, IsFirstShort}
use Rattle.cb_network.specs.Topology.{Topology}
use Rattle.cb_cert.specs.declared.certificate.Certificate.{Certificate}
use Rattle.cb_cert.specs.declared.certificate.Span.{Span}
use Rattle.cb_cert.specs.Format.{nodes_of}
use Rattle.cb_validity.specs.declared.verdict.Rejected.{Rejected}
use Rattle.cb_validity.specs.declared.verdict.Rejected.TheVariants.{TooClose}
use Rattle.cb_validity.specs.Checks.{Check, node_check, column_check, no_more_problems, no_more_spans, asked_of, span_checks, book_checks, places, Passes, Judges, claim_check, IsGoodNode, AreTooClose, ClaimHolds, TellsClaim, certificate_columns}
use Rattle.cb_validity.specs.Reading.{MakeGroups, ArePlaces, AreApart}
use Rattle.cb_validity.proofs.Firsts.{made_is_one, places_found_once}
use Rattle.cb_validity.proofs.Passing.{nodes_from_checks, zip_lengths}
use Rattle.cb_validity.proofs.Stages.{passed_go_on, failed_stop}
use Rattle.cb_nodes.specs.declared.id.NodeId.{NodeId}
use Rattle.cb_topo.specs.Numbered.{Numbered, topology_of, IsNodeNamed, IsWhole, AreNamed}
use Rattle.cb_checker.specs.Firsts.{AreAll}
use Rattle.cb_checker.specs.Known.{AreLive, IsKnown, verdict_of}
use Rattle.cb_checker.specs.declared.sides.Sides.{Sides}
use Rattle.cb_checker.specs.Books.{AreReadTo}
use Rattle.cb_checker.specs.Verdicts.{AreSidesOf, IsGrouped}
use Rattle.cb_checker.specs.Claims.{book_of, ReportsTooClose, JudgesClaim}
use Rattle.cb_checker.specs.Places.{ArePlacesOf}
use Rattle.cb_checker.proofs.Joined.{fails_here, pass_one}
use Rattle.cb_checker.proofs.Naming.{zip_right}
use Rattle.cb_checker.proofs.Observed.{good_nodes}
use Rattle.cb_checker.proofs.Reading.{groups_made, places_read}

-- five stages
module _ (t : Topology) (c : Certificate) (xs ys zs us vs : List Check) where
  abbrev joined : List Check
  joined = xs ++ (ys ++ (zs ++ (us ++ vs)))

  pub stop_first : (reported : Rejected) → Judges t c xs (Err reported) → Judges t c joined (Err reported)
  stop_first reported failed = failed_stop t c xs (ys ++ (zs ++ (us ++ vs))) reported failed

  pub stop_second : (reported : Rejected) → All (Passes t c) xs → Judges t c ys (Err reported) → Judges t c joined (Err reported)
  stop_second reported first failed =
      passed_go_on t c xs (ys ++ (zs ++ (us ++ vs))) (Err reported) first (failed_stop t c ys (zs ++ (us ++ vs)) reported failed)

  pub stop_third : (reported : Rejected) → All (Passes t c) xs → All (Passes t c) ys → Judges t c zs (Err reported) → Judges t c joined (Err reported)
  stop_third reported first second failed =
      passed_go_on t c xs (ys ++ (zs ++ (us ++ vs))) (Err reported) first
      (passed_go_on t c ys (zs ++ (us ++ vs)) (Err reported) second (failed_stop t c zs (us ++ vs) reported failed))

  pub stop_fourth : (reported : Rejected) → All (Passes t c) xs → All (Passes t c) ys → All (Passes t c) zs → Judges t c us (Err reported) → Judges t c joined (Err reported)
  stop_fourth reported first second third failed =
      passed_go_on t c xs (ys ++ (zs ++ (us ++ vs))) (Err reported) first
      (passed_go_on t c ys (zs ++ (us ++ vs)) (Err reported) second
      (passed_go_on t c zs (us ++ vs) (Err reported) third (failed_stop t c us vs reported failed)))

  pub all_stages : (result : Result (Unit {0}) Rejected) → All (Passes t c) xs → All (Passes t c) ys → All (Passes t c) zs → All (Passes t c) us
      → Judges t c vs result → Judges t c joined result
  all_stages result first second third fourth last =
      passed_go_on t c xs (ys ++ (zs ++ (us ++ vs))) result first
      (passed_go_on t c ys (zs ++ (us ++ vs)) result second
      (passed_go_on t c zs (us ++ vs) result third (passed_go_on t c us vs result fourth last)))

-- named nodes are live
pub live_named : (n : Numbered) (ids : List NodeId) (names : List NodeName) → AreNamed n ids names → AreLive n ids
live_named n ids names named = λ i id at. (let z = zip_right (IsNodeNamed n) ids names named i id at in (z.0, z.2))

pub is_known : (n : Numbered) (ids : List NodeId) (c : Certificate) (nodes : List NodeName) → nodes_of c ≡ nodes → IsWhole n → AreNamed n ids nodes
    → AreAll (IsGoodNode (topology_of n) nodes) (length nodes) → IsKnown n ids c
is_known n ids c nodes same whole named good =
    let passed = good_nodes (topology_of n) c nodes same good in
    let are = nodes_from_checks (topology_of n) c (subst (λ ns. All (Passes (topology_of n) c) (map node_check (places ns))) (sym same) passed) in
    record { whole = whole; named = subst (AreNamed n ids) (sym same) named; rise = are.rise }

-- the parts of a book, whatever its wish

pub nodes_same : (wish : Wish) (nodes : List NodeName) (numbers radii : List ℕ) (spans : List Span) → nodes_of (book_of wish nodes numbers radii spans) ≡ nodes
nodes_same (Plain d) nodes numbers radii spans = refl
nodes_same (Cap cap) nodes numbers radii spans = refl

pub columns_same : (wish : Wish) (nodes : List NodeName) (numbers radii : List ℕ) (spans : List Span)
    → certificate_columns (book_of wish nodes numbers radii spans) ≡ numbers
columns_same (Plain d) nodes numbers radii spans = refl
columns_same (Cap cap) nodes numbers radii spans = refl

book_holds : (t : Topology) (wish : Wish) (nodes : List NodeName) (numbers radii : List ℕ) (spans : List Span)
    → AreApart t nodes numbers spans wish ↔ ClaimHolds t (book_of wish nodes numbers radii spans)
book_holds t (Plain d) nodes numbers radii spans = ((λ apart. apart), (λ holds. holds))
book_holds t (Cap cap) nodes numbers radii spans = ((λ apart. apart), (λ holds. holds))

book_tells : (t : Topology) (wish : Wish) (nodes : List NodeName) (numbers radii : List ℕ) (spans : List Span) (first second : GroupName) (far : ℕ)
    → AreTooClose t nodes numbers spans wish first second far → TellsClaim t (book_of wish nodes numbers radii spans) (TooClose first second far)
book_tells t (Plain d) nodes numbers radii spans first second far close = close
book_tells t (Cap cap) nodes numbers radii spans first second far close = close

-- the claim of a book
module _ (t : Topology) (wish : Wish) (nodes : List NodeName) (numbers radii : List ℕ) (spans : List Span) (names : List NodeName) (groups : List Group) (spots : List ℕ)
    (made : MakeGroups t nodes spans names groups) (spots_are : ArePlaces nodes names numbers spots) where
  abbrev c : Certificate
  c = book_of wish nodes numbers radii spans

  abbrev need : List NodeName → List Group → ℕ → ℕ → ℕ
  need cs gs = need_of (length cs) (codes_of gs) wish

  pub claim_holds : GoodFor (codes_of groups) spots (need names groups) → All (Passes t c) (claim_check ∷ [])
  claim_holds good =
      let apart_are : AreApart t nodes numbers spans wish =
      record { columns = names; groups = groups; places = spots; made = made; places_are = spots_are; good = good }
      in
      pass_one t c claim_check ((book_holds t wish nodes numbers radii spans).0 apart_are)

  pub claim_fails : (pair : Pair) → IsFirstShort spots (codes_of groups) (need names groups) pair → (why : Rejected) → ReportsTooClose groups pair why
      → Judges t c (claim_check ∷ []) (Err why)
  claim_fails pair close why reported =
      let close_are : AreTooClose t nodes numbers spans wish reported.first reported.second pair.distance = record {
        columns = names;
        groups = groups;
        places = spots;
        made = made;
        places_are = spots_are;
        pair = pair;
        is_first = close;
        first_is = reported.first_is;
        second_is = reported.second_is;
        far_is = refl;
      } in
      subst (λ w. Judges t c (claim_check ∷ []) (Err w)) (sym reported.is)
      (fails_here t c claim_check [] (TooClose reported.first reported.second pair.distance) (λ holds. far_apart ((book_holds t wish nodes numbers radii spans).1 holds))
      (book_tells t wish nodes numbers radii spans reported.first reported.second pair.distance close_are))
    where
      far_apart : AreApart t nodes numbers spans wish → ⊥
      far_apart holds =
          let same = made_is_one t nodes spans names holds.columns groups holds.groups made holds.made in
          let over = subst (λ cs. ArePlaces nodes cs numbers holds.places) (sym same.0) holds.places_are in
          let places = places_found_once nodes names made.columns_are.rise numbers spots holds.places spots_are over in
          let columns_good = subst (λ cs. GoodFor (codes_of holds.groups) holds.places (need cs holds.groups)) (sym same.0) holds.good in
          let good = subst (λ gs. GoodFor (codes_of gs) holds.places (need names gs)) (sym same.1) columns_good in
          let here = subst (λ ps. GoodFor (codes_of groups) ps (need names groups)) (sym places) good in
          let least = here pair.first pair.second close.is_pair in
          let is = close.distance in
          let less = close.close in
          omega arith

-- the stages of a book
module _ (t : Topology) (wish : Wish) (nodes : List NodeName) (numbers radii : List ℕ) (spans : List Span) (names : List NodeName) where
  abbrev pub of_nodes : List Check
  of_nodes = map node_check (places nodes)

  abbrev pub of_columns : List Check
  of_columns = map column_check (places numbers)

  abbrev pub of_spans : List Check
  of_spans = flat_map span_checks (asked_of 0 names spans)

  abbrev pub of_count : List Check
  of_count = no_more_problems names spans ∷ no_more_spans names spans ∷ []

  abbrev pub IsJudged : Result (Unit {0}) Rejected → Type 0
  IsJudged result = Judges t (book_of wish nodes numbers radii spans) (book_checks names nodes numbers spans) result

  abbrev pub Pass : List Check → Type 0
  Pass checks = All (Passes t (book_of wish nodes numbers radii spans)) checks

  abbrev pub Fail : List Check → Rejected → Type 0
  Fail checks reported = Judges t (book_of wish nodes numbers radii spans) checks (Err reported)

  pub in_nodes : (reported : Rejected) → Fail of_nodes reported → IsJudged (Err reported)
  in_nodes reported failed = stop_first t (book_of wish nodes numbers radii spans) of_nodes of_columns of_spans of_count (claim_check ∷ []) reported failed

  pub in_columns : (reported : Rejected) → Pass of_nodes → Fail of_columns reported → IsJudged (Err reported)
  in_columns reported a failed = stop_second t (book_of wish nodes numbers radii spans) of_nodes of_columns of_spans of_count (claim_check ∷ []) reported a failed

  pub in_spans : (reported : Rejected) → Pass of_nodes → Pass of_columns → Fail of_spans reported → IsJudged (Err reported)
  in_spans reported a b failed = stop_third t (book_of wish nodes numbers radii spans) of_nodes of_columns of_spans of_count (claim_check ∷ []) reported a b failed

  pub in_count : (reported : Rejected) → Pass of_nodes → Pass of_columns → Pass of_spans → Fail of_count reported → IsJudged (Err reported)
  in_count reported a b e failed = stop_fourth t (book_of wish nodes numbers radii spans) of_nodes of_columns of_spans of_count (claim_check ∷ []) reported a b e failed

  pub in_claim : (result : Result (Unit {0}) Rejected) → Pass of_nodes → Pass of_columns → Pass of_spans → Pass of_count
      → Judges t (book_of wish nodes numbers radii spans) (claim_check ∷ []) result → IsJudged result
  in_claim result a b e f last = all_stages t (book_of wish nodes numbers radii spans) of_nodes of_columns of_spans of_count (claim_check ∷ []) result a b e f last

-- what the claim comes to
module _ (n : Numbered) (ids : List NodeId) (wish : Wish) (nodes : List NodeName) (numbers radii : List ℕ) (spans : List Span)
    (known : IsKnown n ids (book_of wish nodes numbers radii spans)) (sides : Sides) (are : AreSidesOf n sides) (coded : List Problem)
    (read : AreReadTo n ids sides.problems sides.columns spans (length sides.problems) coded) (same : length sides.problems ≡ length spans) where
  abbrev book : Certificate
  book = book_of wish nodes numbers radii spans

  made_of : (groups : List Group) → AreGroups (length sides.columns) coded groups → MakeGroups (topology_of n) nodes spans are.column_names groups
  made_of groups groups_are =
      subst (λ ns. MakeGroups (topology_of n) ns spans are.column_names groups) (nodes_same wish nodes numbers radii spans)
      (groups_made n ids book known sides.columns are.column_names are.columns_are are.columns_named sides.problems are.problem_names are.problems_are
      are.problems_named spans coded read same groups groups_are)

  spots_of : (spots : List ℕ) → ArePlacesOf sides.columns ids numbers spots → ArePlaces nodes are.column_names numbers spots
  spots_of spots spots_are =
      subst (λ ns. ArePlaces ns are.column_names numbers spots) (nodes_same wish nodes numbers radii spans)
      (places_read n ids book known sides.columns are.column_names are.columns_are are.columns_named numbers spots spots_are)

  same_width : length are.column_names ≡ length sides.columns
  same_width = sym (zip_lengths (IsNodeNamed n) sides.columns are.column_names are.columns_named)

  module _ (groups : Grouped) (wide : groups.width ≡ length sides.columns) (groups_are : AreGroups (length sides.columns) coded groups.groups) where
    width_is : groups.width ≡ length are.column_names
    width_is = wide ∙ sym same_width

    pub claim_judged : (judged : Result (Unit {0}) Rejected) → JudgesClaim sides.columns ids numbers groups wish judged
        → Judges (topology_of n) book (claim_check ∷ []) (verdict_of judged)
    claim_judged (Ok done) far =
        claim_holds (topology_of n) wish nodes numbers radii spans are.column_names groups.groups far.places (made_of groups.groups groups_are)
        (spots_of far.places far.places_are) (subst (λ w. GoodFor (codes_of groups.groups) far.places (need_of w (codes_of groups.groups) wish)) width_is far.good)
    claim_judged (Err why) bad =
        claim_fails (topology_of n) wish nodes numbers radii spans are.column_names groups.groups bad.places (made_of groups.groups groups_are)
        (spots_of bad.places bad.places_are) bad.pair
        (subst (λ w. IsFirstShort bad.places (codes_of groups.groups) (need_of w (codes_of groups.groups) wish) bad.pair) width_is bad.close) why bad.reported

    pub claim_grouped : length groups.groups < 4294967296 → IsGrouped n nodes spans groups
    claim_grouped few =
        let quiet = ap length groups_are.quiet in
        record {
          columns = are.column_names;
          made = made_of groups.groups groups_are;
          width = sym width_is;
          some = omega arith;
          few = few;
        }
