-- Codes that are seen to be far apart, by landmarks.
use Rattle.std.proofs.Common.{◌≡◌, ℕ, ◌-◌, ◌<◌, ◌≤◌, List, length, Bool, IsTrue, Option, None, Some, sym, ap, subst, ◌∙◌, arith}
use Rattle.std.specs.Prelude.{slice_get, unwrap_or, leb}
use Rattle.std.proofs.lemmas.Bool.Decides.{nat_tests}
use Rattle.std.proofs.lemmas.List.{length-map}
use Rattle.cb_model.proofs.Spread.{map_at}
use Rattle.cb_coding.specs.Distance.{distance, all_columns, code_at}
use Rattle.cb_coding.proofs.Distances.{triangle}
use Rattle.cb_pairs.proofs.Lists.{code_at_is, zip_at, zip_long}
use Rattle.cb_pairs.specs.declared.landmarks.Landmark.{Landmark}
use Rattle.cb_pairs.specs.declared.landmarks.Landmarks.{Landmarks}
use Rattle.cb_pairs.specs.Guesses.{IsSecondBelow}
use Rattle.cb_pairs.specs.Landmarks.{AreLandmarks, AreDistances, AreSeenBy, AreSeen, AreFar}
use Rattle.cb_pairs.specs.Kept.{AreKnown}
use Rattle.cb_pairs.proofs.Apart.{turned}

-- distances are as many as groups
pub as_many_distances : (width : ℕ) (rows : List (List Bool)) (one : List Bool) (distances : List ℕ) → AreDistances width rows one distances
    → length distances ≡ length rows
as_many_distances width rows one distances are = ap length are ∙ length-map rows (distance (all_columns width) one)

-- by way of a landmark it is no shorter
pub far_by : (one other : List Bool) (distances : List ℕ) (mark : Landmark) (near limit : ℕ) → AreSeenBy one other distances mark
    → slice_get distances mark.place ≡ Some near → limit ≤ near - mark.distance → AreFar one other limit
far_by one other distances mark near limit seen at low =
    let columns = all_columns seen.width in
    let there = map_at (distance columns one) seen.rows mark.place near (ap (λ ds. slice_get ds mark.place) (sym seen.are) ∙ at) in
    let row = there.0 in
    let row_is : code_at seen.rows mark.place ≡ row = code_at_is seen.rows mark.place row there.1 in
    let back : mark.distance ≡ distance columns row other = seen.is_mark.is ∙ ap (λ v. distance columns v other) row_is in
    let near_is : distance columns one row ≡ near = there.2 in
    let way = triangle columns one row other in
    let turn = turned columns one other in
    let turn' = turned columns row other in
    subst (λ n. limit ≤ distance (all_columns n) one other) (sym seen.wide) (omega arith)

-- the second group of a guess, or its first one, is one of the groups
pub second_or_first_below : (count first : ℕ) (second : Option ℕ) → first < count → IsSecondBelow count second → unwrap_or second first < count
second_or_first_below count first None low below = low
second_or_first_below count first (Some second) low below = below

pub at_most_of : (limit n : ℕ) → IsTrue (leb limit n) → limit ≤ n
at_most_of limit n so = grind (arith, nat_tests)

-- the position of a landmark is one of the distances
pub place_seen : (one other : List Bool) (distances : List ℕ) (mark : Landmark) → AreSeenBy one other distances mark → mark.place < length distances
place_seen one other distances mark seen =
    let many = as_many_distances seen.width seen.rows one distances seen.are in
    let low = seen.is_mark.within in
    omega arith

-- what is known of all codes tells of each
pub seen_of : (width : ℕ) (codes : List (List Bool)) (place : ℕ) (distances : List ℕ) (marks : List Landmarks) → AreKnown width codes place distances marks
    → (one other : List Bool) (j : ℕ) (mark : Landmarks) → length one ≡ width → code_at codes place ≡ one → slice_get codes j ≡ Some other
    → slice_get marks j ≡ Some mark → AreSeen one other distances mark
seen_of width codes place distances marks known one other j mark long here at at_mark =
    let are = zip_at (AreLandmarks width known.rows) codes marks known.marks_are j other mark at at_mark in
    let distances_are = subst (λ v. AreDistances width known.rows v distances) here known.distances_are in
    record {
      first = record { width = width; wide = long; rows = known.rows; are = distances_are; is_mark = are.first };
      second = record { width = width; wide = long; rows = known.rows; are = distances_are; is_mark = are.second };
    }

-- each code has landmarks
pub as_many_marks : (width : ℕ) (codes : List (List Bool)) (place : ℕ) (distances : List ℕ) (marks : List Landmarks)
    → AreKnown width codes place distances marks → length marks ≡ length codes
as_many_marks width codes place distances marks known = sym (zip_long (AreLandmarks width known.rows) codes marks known.marks_are)
