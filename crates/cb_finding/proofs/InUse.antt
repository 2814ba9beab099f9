-- The finding by what is in use.
use Rattle.std.proofs.Common.{◌≡◌, ℕ, ◌<◌, ◌≤◌, List, [], ◌∷◌, length, sym, ap, subst, ◌∙◌, arith, IsTrue, Some, slice_get}
use Rattle.std.specs.List.{Contains}
use Rattle.std.proofs.lemmas.List.{length-map}
use Rattle.std.proofs.lemmas.Option.{slice_get-get_or, slice_get_within, same_Some}
use Rattle.cb_model.specs.declared.node.NodeName.{NodeName}
use Rattle.cb_coding.specs.declared.book.Answer.{Answer}
use Rattle.cb_coding.specs.declared.group.Group.{Group}
use Rattle.cb_model.specs.declared.wish.Wish.{Wish}
use Rattle.cb_coding.specs.Answers.{from_word}
use Rattle.cb_coding.specs.Distance.{all_columns}
use Rattle.cb_coding.specs.Groups.{codes_of}
use Rattle.cb_coding.specs.Needs.{need_of}
use Rattle.cb_coding.specs.Pairs.{Good, GoodFor}
use Rattle.cb_coding.specs.Used.{IsRadius, AsksSomething, IsAnswerFor}
use Rattle.cb_coding.proofs.UsedLaws.{answer_for_is_one, radius_is_one, alone_in_use}
use Rattle.cb_finding.specs.declared.finding.Finding.{Finding}
use Rattle.cb_finding.specs.Finding.{IsFindingFor, named_groups, word_of}

contains_first : (xs : List ℕ) (x : ℕ) → slice_get xs 0 ≡ Some x → Contains xs x
contains_first xs x at =
    let within = slice_get_within xs 0 x at in
    (0, within, same_Some _ _ (sym (slice_get-get_or xs 0 x within) ∙ at))

module _ (columns : List NodeName) (groups : List Group) (book_columns : List ℕ) (used : Wish) (raised : List NodeName) where
  -- the answer of a finding is that by what is in use
  answer_of : (finding : Finding) (is : IsFindingFor columns groups book_columns used raised finding)
      → IsAnswerFor (length columns) (codes_of groups) book_columns used (word_of columns raised) is.found.answer
  answer_of finding is = record { radius_of = is.radius_of; radii = is.radii; answered = is.found.answered }

  pub finding_for_is_one : (a b : Finding) → IsFindingFor columns groups book_columns used raised a → IsFindingFor columns groups book_columns used raised b → a ≡ b
  finding_for_is_one a b p q =
      let codes = codes_of groups in
      let answer = answer_for_is_one (length columns) codes book_columns used (word_of columns raised) p.found.answer q.found.answer (answer_of a p) (answer_of b q) in
      let (i, at, r_is) = p.found.radius_is in
      let (j, at', s_is) = q.found.radius_is in
      let same : i ≡ j = same_Some i j (sym at ∙ (ap (λ (x : Answer). slice_get x.groups 0) answer ∙ at')) in
      let lt : i < length codes = ((p.found.answered.nearest i).0 (contains_first p.found.answer.groups i at)).0 in
      let radii = radius_is_one (length columns) codes used i (p.radius_of i) (q.radius_of i) lt (p.radii i lt) (q.radii i lt) in
      let raised_are = p.found.raised_are ∙ sym q.found.raised_are in
      let unknown_are = p.found.unknown_are ∙ sym q.found.unknown_are in
      let distance = p.found.distance_is ∙ (ap (λ (x : Answer). x.distance) answer ∙ sym q.found.distance_is) in
      let radius = r_is ∙ (radii ∙ (ap q.radius_of same ∙ sym s_is)) in
      let sure = p.found.sure_is ∙ (ap (λ (x : Answer). x.sure) answer ∙ sym q.found.sure_is) in
      let listed = p.found.groups_are ∙ (ap (λ (x : Answer). named_groups groups x.groups) answer ∙ sym q.found.groups_are) in
      λ k. record { raised = raised_are k; unknown = unknown_are k; distance = distance k; radius = radius k; sure = sure k; groups = listed k }

  pub finding_names_alone : GoodFor (codes_of groups) book_columns (need_of (length columns) (codes_of groups) used)
      → Good (codes_of groups) (all_columns (length columns)) 1 → AsksSomething used → (i r : ℕ) (finding : Finding) → i < length groups
      → IsRadius (length columns) (codes_of groups) used i r → from_word book_columns (codes_of groups) (word_of columns raised) i ≤ r
      → IsFindingFor columns groups book_columns used raised finding → (finding.groups ≡ named_groups groups (i ∷ [])) × IsTrue finding.sure
  finding_names_alone good differ asks i r finding within own near is =
      let lt : i < length (codes_of groups) = omega (arith, length-map groups (λ (g : Group). g.code)) in
      let one = alone_in_use (length columns) (codes_of groups) book_columns used (word_of columns raised) good differ asks i r is.found.answer lt own near (answer_of finding is) in
      (is.found.groups_are ∙ ap (named_groups groups) one.0, subst (λ b. IsTrue b) (sym is.found.sure_is) one.1)
