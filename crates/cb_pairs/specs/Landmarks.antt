-- Distances from the codes of single groups.
use Rattle.std.specs.Prelude.{◌≡◌, ℕ, ◌<◌, ◌≤◌, List, length, map, Bool}
use Rattle.std.specs.List.{AllZip}
use Rattle.cb_coding.specs.Distance.{distance, all_columns, code_at}
use Rattle.cb_pairs.specs.declared.landmarks.Landmark.{Landmark}
use Rattle.cb_pairs.specs.declared.landmarks.Landmarks.{Landmarks}

-- a group by its position, and how far its code is from this one
pub record IsLandmark (width : ℕ) (rows : List (List Bool)) (code : List Bool) (mark : Landmark) : Type 0 where
  pub within : mark.place < length rows
  pub is : mark.distance ≡ distance (all_columns width) (code_at rows mark.place) code

-- the two landmarks of a code
pub record AreLandmarks (width : ℕ) (rows : List (List Bool)) (code : List Bool) (marks : Landmarks) : Type 0 where
  pub first : IsLandmark width rows code marks.first
  pub second : IsLandmark width rows code marks.second

-- each code has its landmarks
abbrev pub HaveLandmarks : ℕ → List (List Bool) → List (List Bool) → List Landmarks → Type 0
HaveLandmarks width rows codes marks = AllZip (AreLandmarks width rows) codes marks

-- how far a code is from that of each group
abbrev pub AreDistances : ℕ → List (List Bool) → List Bool → List ℕ → Type 0
AreDistances width rows code distances = distances ≡ map (distance (all_columns width) code) rows

-- two codes, one by its distances from all groups, the other by a landmark
pub record AreSeenBy (one other : List Bool) (distances : List ℕ) (mark : Landmark) : Type 0 where
  pub width : ℕ
  pub wide : length one ≡ width
  pub rows : List (List Bool)
  pub are : AreDistances width rows one distances
  pub is_mark : IsLandmark width rows other mark

-- two codes, the other by its two landmarks
pub record AreSeen (one other : List Bool) (distances : List ℕ) (marks : Landmarks) : Type 0 where
  pub first : AreSeenBy one other distances marks.first
  pub second : AreSeenBy one other distances marks.second

-- two codes differ at no fewer columns than the limit
abbrev pub AreFar : List Bool → List Bool → ℕ → Type 0
AreFar one other limit = limit ≤ distance (all_columns (length one)) one other
