-- The answer by what is in use.
use Rattle.std.proofs.Common.{◌≡◌, ℕ, ◌<◌, ◌≤◌, List, [], ◌∷◌, length, refl, sym, ap, subst, ◌∙◌, arith, Bool, IsTrue}
use Rattle.std.specs.List.{Contains}
use Rattle.cb_coding.specs.declared.book.Answer.{Answer}
use Rattle.cb_model.specs.declared.wish.Wish.{Wish}
use Rattle.cb_model.specs.declared.wish.Wish.TheVariants.{Plain, Cap}
use Rattle.cb_coding.specs.Distance.{all_columns}
use Rattle.cb_coding.specs.Pairs.{Good, GoodFor}
use Rattle.cb_coding.specs.Needs.{need_of}
use Rattle.cb_coding.specs.Answers.{IsAnswer, IsAnswerBy, SomeReach, from_word, radius}
use Rattle.cb_coding.specs.Radii.{AreRadii, radius_at}
use Rattle.cb_coding.specs.Used.{IsRadius, HaveRadii, AreLeastAndGreatest, AsksSomething, IsAnswerFor}
use Rattle.cb_coding.proofs.One.{one_answer, same_distance, same_groups}
use Rattle.cb_coding.proofs.Distances.{coding_theorem}
use Rattle.cb_coding.proofs.RadiusLaws.{nearest_need_is_one, nearest_is_some, alone_and_sure, one_radius_for_all}

pub radius_is_one : (width : ℕ) (codes : List (List Bool)) (used : Wish) (i r s : ℕ) → i < length codes → IsRadius width codes used i r
    → IsRadius width codes used i s → r ≡ s
radius_is_one width codes (Plain d) i r s lt p q = p ∙ sym q
radius_is_one width codes (Cap cap) i r s lt (d, near, is) (e, near', is') =
    is ∙ (ap radius (nearest_need_is_one width codes cap i d e lt near near') ∙ sym is')

pub least_and_greatest_are_one : (width : ℕ) (codes : List (List Bool)) (used : Wish) (a b c d : ℕ) → AreLeastAndGreatest width codes used a b
    → AreLeastAndGreatest width codes used c d → (a ≡ c) × (b ≡ d)
least_and_greatest_are_one width codes used a b c d p q =
    let (i, i_in, low) = p.least_is in
    let (j, j_in, low') = q.least_is in
    let (k, k_in, high) = p.greatest_is in
    let (l, l_in, high') = q.greatest_is in
    let one = p.between j c j_in low' in
    let two = q.between i a i_in low in
    let three = p.between l d l_in high' in
    let four = q.between k b k_in high in
    (omega (arith, one.0, two.0), omega (arith, three.1, four.1))

-- a radius reaches where another list of the same radii does
reach_alike : (width : ℕ) (codes : List (List Bool)) (used : Wish) (a b : Answer) (r s : ℕ → ℕ) → HaveRadii width codes used r → HaveRadii width codes used s
    → a.distance ≡ b.distance → a.groups ≡ b.groups → ((i : ℕ) → Contains a.groups i → i < length codes) → SomeReach r a → SomeReach s b
reach_alike width codes used a b r s p q far groups within (i, there, near) =
    let same = radius_is_one width codes used i (r i) (s i) (within i there) (p i (within i there)) (q i (within i there)) in
    (i, subst (λ gs. Contains gs i) groups there, omega (arith, far, same, near))

pub answer_for_is_one : (width : ℕ) (codes : List (List Bool)) (columns : List ℕ) (used : Wish) (word : List Bool) (a b : Answer)
    → IsAnswerFor width codes columns used word a → IsAnswerFor width codes columns used word b → a ≡ b
answer_for_is_one width codes columns used word a b p q =
    let r = p.radius_of in
    let s = q.radius_of in
    -- both as answers by the first radii
    let b_by_r : IsAnswerBy columns codes r word b = record {
      attained = q.answered.attained;
      least = q.answered.least;
      rise = q.answered.rise;
      nearest = q.answered.nearest;
      sure = (
        λ yes. reach_alike width codes used b b s r q.radii p.radii (ap (λ (x : Answer). x.distance) (same b)) (ap (λ (x : Answer). x.groups) (same b)) (λ i c. ((q.answered.nearest i).0 c).0) (q.answered.sure.0 yes),
        λ some. q.answered.sure.1 (reach_alike width codes used b b r s p.radii q.radii (ap (λ (x : Answer). x.distance) (same b)) (ap (λ (x : Answer). x.groups) (same b)) (λ i c. ((q.answered.nearest i).0 c).0) some),
      );
    } in
    let Sure = SomeReach r in
    let far = same_distance Sure columns codes word a b p.answered b_by_r in
    let groups = same_groups Sure columns codes word a b p.answered b_by_r in
    one_answer Sure columns codes word a b p.answered b_by_r (
      λ some. reach_alike width codes used a b r r p.radii p.radii far groups (λ i c. ((p.answered.nearest i).0 c).0) some,
      λ some. reach_alike width codes used b a r r p.radii p.radii (sym far) (sym groups) (λ i c. ((q.answered.nearest i).0 c).0) some,
    )
  where
    same : (x : Answer) → x ≡ x
    same x = ap (λ (y : Answer). y) refl

-- the answers that are computed are answers by what is in use
pub plain_answer : (width : ℕ) (codes : List (List Bool)) (columns : List ℕ) (d : ℕ) (word : List Bool) (answer : Answer)
    → IsAnswer columns codes d word answer → IsAnswerFor width codes columns (Plain d) word answer
plain_answer width codes columns d word answer is = record {
  radius_of = λ i. radius d;
  radii = λ i lt. refl;
  answered = (one_radius_for_all columns codes d word answer).1 is;
}

pub capped_answer : (width : ℕ) (codes : List (List Bool)) (columns : List ℕ) (cap : ℕ) (radii : List ℕ) (word : List Bool) (answer : Answer)
    → AreRadii width codes cap radii → IsAnswerBy columns codes (radius_at radii) word answer → IsAnswerFor width codes columns (Cap cap) word answer
capped_answer width codes columns cap radii word answer are is = record { radius_of = radius_at radii; radii = are.each; answered = is }

-- the coding theorem by what is in use
pub alone_in_use : (width : ℕ) (codes : List (List Bool)) (columns : List ℕ) (used : Wish) (word : List Bool)
    → GoodFor codes columns (need_of width codes used) → Good codes (all_columns width) 1 → AsksSomething used → (i r : ℕ) (answer : Answer)
    → i < length codes → IsRadius width codes used i r → from_word columns codes word i ≤ r
    → IsAnswerFor width codes columns used word answer → (answer.groups ≡ i ∷ []) × IsTrue answer.sure
alone_in_use width codes columns (Plain d) word good differ some i r answer lt own close is =
    let near : from_word columns codes word i ≤ radius d = omega (arith, own, close) in
    let all_one : IsAnswerBy columns codes (λ k. radius d) word answer = record {
      attained = is.answered.attained;
      least = is.answered.least;
      rise = is.answered.rise;
      nearest = is.answered.nearest;
      sure = (
        λ yes. let (k, there, reach) = is.answered.sure.0 yes in let one = is.radii k (((is.answered.nearest k).0 there).0) in (k, there, omega (arith, one, reach)),
        λ (k, there, reach). let one = is.radii k (((is.answered.nearest k).0 there).0) in is.answered.sure.1 (k, there, omega (arith, one, reach)),
      );
    } in
    coding_theorem columns codes d word good some i answer lt near ((one_radius_for_all columns codes d word answer).0 all_one)
alone_in_use width codes columns (Cap cap) word good differ some i r answer lt (d, near, own) close is =
    let same = radius_is_one width codes (Cap cap) i (is.radius_of i) r lt (is.radii i lt) (d, near, own) in
    alone_and_sure width codes cap columns good word i d lt near (nearest_is_some width codes cap differ some i d lt near)
    (omega (arith, own, close)) is.radius_of (same ∙ own) answer is.answered
