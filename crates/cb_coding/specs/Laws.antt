-- What holds of codes, groups, books and answers, whatever the program does.
use Rattle.std.specs.Prelude.{◌≡◌, ◌≢◌, ◌↔◌, ℕ, ◌+◌, ◌<◌, ◌≤◌, List, [], ◌∷◌, length, Bool, IsTrue, not, ◌==◌, Option, Some, slice_get}
use Rattle.std.specs.List.{All, AllPairs, Contains, filter}
use Rattle.std.specs.List.Sorted.{IsStrictlyIncreasing}
use Rattle.cb_model.specs.declared.node.NodeName.{NodeName}
use Rattle.cb_coding.specs.declared.book.Pair.{Pair}
use Rattle.cb_coding.specs.declared.book.Book.{Book}
use Rattle.cb_coding.specs.declared.book.Answer.{Answer}
use Rattle.cb_coding.specs.declared.book.CapBook.{CapBook}
use Rattle.cb_coding.specs.declared.group.Problem.{Problem}
use Rattle.cb_coding.specs.declared.group.Group.{Group}
use Rattle.cb_model.specs.declared.wish.Wish.{Wish}
use Rattle.cb_coding.specs.Distance.{distance, all_columns}
use Rattle.cb_coding.specs.Pairs.{IsClosestPair, IsFirstShort, IsFirstClose, Good, GoodFor}
use Rattle.cb_model.specs.declared.wish.Wish.TheVariants.{Plain, Cap}
use Rattle.cb_coding.specs.Needs.{capped_need, need_of}
use Rattle.cb_coding.specs.Books.{IsChoice, IsBook, IsCapBook, IsInUse, IsChoiceInUse}
use Rattle.cb_coding.specs.Answers.{IsAnswer, IsAnswerBy, from_word, radius}
use Rattle.cb_coding.specs.Radii.{AreRadii, radius_at}
use Rattle.cb_coding.specs.Used.{IsRadius, AreLeastAndGreatest, AsksSomething, IsAnswerFor}
use Rattle.cb_coding.specs.Groups.{AreCodedProblems, AreGroups, codes_of}

-- codes have one closest pair
abbrev pub LeastIsOne : Type 0
LeastIsOne = (width : ℕ) (codes : List (List Bool)) (p q : Option Pair) → IsClosestPair width codes p → IsClosestPair width codes q → p ≡ q

-- codes have one first pair that is closer than wanted
abbrev pub FirstCloseIsOne : Type 0
FirstCloseIsOne = (columns : List ℕ) (codes : List (List Bool)) (d : ℕ) (p q : Pair) → IsFirstClose columns codes d p
    → IsFirstClose columns codes d q → p ≡ q

-- and one first pair that is closer than it needs
abbrev pub FirstShortIsOne : Type 0
FirstShortIsOne = (columns : List ℕ) (codes : List (List Bool)) (need : ℕ → ℕ → ℕ) (p q : Pair) → IsFirstShort columns codes need p
    → IsFirstShort columns codes need q → p ≡ q

-- a word has one answer
abbrev pub AnswerIsOne : Type 0
AnswerIsOne = (columns : List ℕ) (codes : List (List Bool)) (d : ℕ) (word : List Bool) (a b : Answer)
    → IsAnswer columns codes d word a → IsAnswer columns codes d word b → a ≡ b

-- and one where each code has a radius of its own
abbrev pub AnswerByRadiiIsOne : Type 0
AnswerByRadiiIsOne = (columns : List ℕ) (codes : List (List Bool)) (radius_of : ℕ → ℕ) (word : List Bool) (a b : Answer)
    → IsAnswerBy columns codes radius_of word a → IsAnswerBy columns codes radius_of word b → a ≡ b

-- where all codes have the radius of codes that are d apart, the answer is that of codes that are d apart
abbrev pub OneRadiusForAll : Type 0
OneRadiusForAll = (columns : List ℕ) (codes : List (List Bool)) (d : ℕ) (word : List Bool) (answer : Answer)
    → IsAnswerBy columns codes (λ i. radius d) word answer ↔ IsAnswer columns codes d word answer

-- and one by what is in use
abbrev pub AnswerForIsOne : Type 0
AnswerForIsOne = (width : ℕ) (codes : List (List Bool)) (columns : List ℕ) (used : Wish) (word : List Bool) (a b : Answer)
    → IsAnswerFor width codes columns used word a → IsAnswerFor width codes columns used word b → a ≡ b

-- the answer at a distance is that for the plain wish, and the answer by radii that for their cap
abbrev pub AnswersInUse : Type 0
AnswersInUse = (width : ℕ) (codes : List (List Bool)) (columns : List ℕ) (word : List Bool) (answer : Answer)
    → ((d : ℕ) → IsAnswer columns codes d word answer → IsAnswerFor width codes columns (Plain d) word answer)
    × ((cap : ℕ) (radii : List ℕ) → AreRadii width codes cap radii → IsAnswerBy columns codes (radius_at radii) word answer
    → IsAnswerFor width codes columns (Cap cap) word answer)

-- the codes have one least radius and one greatest
abbrev pub LeastAndGreatestAreOne : Type 0
LeastAndGreatestAreOne = (width : ℕ) (codes : List (List Bool)) (used : Wish) (a b c d : ℕ) → AreLeastAndGreatest width codes used a b
    → AreLeastAndGreatest width codes used c d → (a ≡ c) × (b ≡ d)

-- problems have one list of groups
abbrev pub GroupsAreOne : Type 0
GroupsAreOne = (width : ℕ) (problems : List Problem) (gs hs : List Group)
    → AreGroups width problems gs → AreGroups width problems hs → gs ≡ hs

-- for a need there is one choice of columns
abbrev pub ChoiceIsOne : Type 0
ChoiceIsOne = (width : ℕ) (codes : List (List Bool)) (need : ℕ → ℕ → ℕ) (a b : List ℕ)
    → IsChoice width codes need a → IsChoice width codes need b → a ≡ b

-- for a cap there is one list of radii
abbrev pub RadiiAreOne : Type 0
RadiiAreOne = (width : ℕ) (codes : List (List Bool)) (cap : ℕ) (a b : List ℕ)
    → AreRadii width codes cap a → AreRadii width codes cap b → a ≡ b

-- and one book
abbrev pub CapBookIsOne : Type 0
CapBookIsOne = (width : ℕ) (codes : List (List Bool)) (a b : CapBook)
    → IsCapBook width codes a → IsCapBook width codes b → a.cap ≡ b.cap → a ≡ b

-- for a wish one choice is in use, and it meets one wish
abbrev pub ChoiceInUseIsOne : Type 0
ChoiceInUseIsOne = (width : ℕ) (codes : List (List Bool)) (wish used used' : Wish) (a b : List ℕ)
    → IsChoiceInUse width codes wish used a → IsChoiceInUse width codes wish used' b → (used ≡ used') × (a ≡ b)

-- at a distance there is one book
abbrev pub BookIsOne : Type 0
BookIsOne = (width : ℕ) (codes : List (List Bool)) (a b : Book)
    → IsBook width codes a → IsBook width codes b → a.distance ≡ b.distance → a ≡ b

-- for a wanted distance there is one book in use
abbrev pub BookInUseIsOne : Type 0
BookInUseIsOne = (width : ℕ) (codes : List (List Bool)) (wanted : ℕ) (a b : Book)
    → IsInUse width codes wanted a → IsInUse width codes wanted b → a ≡ b

-- Where every two codes are at least d apart, and a word is within the radius of one of them, that one alone is nearest,
-- and the answer is sure.
abbrev pub CodingTheorem : Type 0
CodingTheorem = (columns : List ℕ) (codes : List (List Bool)) (d : ℕ) (word : List Bool) → Good codes columns d → 0 < d
    → (i : ℕ) (answer : Answer) → i < length codes → from_word columns codes word i ≤ radius d
    → IsAnswer columns codes d word answer → (answer.groups ≡ i ∷ []) × IsTrue answer.sure

-- Where each two codes are as far apart as over all columns, or as a cap, and a word is within the radius of one of them, that one
-- alone is nearest, and the answer is sure.
abbrev pub WithinItsRadius : Type 0
WithinItsRadius = (width cap : ℕ) (columns : List ℕ) (codes : List (List Bool)) (radii : List ℕ) (word : List Bool)
    → GoodFor codes columns (capped_need width codes cap) → AreRadii width codes cap radii → Good codes (all_columns width) 1 → 0 < cap
    → (i : ℕ) (answer : Answer) → i < length codes → from_word columns codes word i ≤ radius_at radii i
    → IsAnswerBy columns codes (radius_at radii) word answer → (answer.groups ≡ i ∷ []) × IsTrue answer.sure

-- over the columns in use a code that is within its radius of a word is alone nearest, and the answer is sure
abbrev pub AloneInUse : Type 0
AloneInUse = (width : ℕ) (codes : List (List Bool)) (columns : List ℕ) (used : Wish) (word : List Bool)
    → GoodFor codes columns (need_of width codes used) → Good codes (all_columns width) 1 → AsksSomething used → (i r : ℕ) (answer : Answer)
    → i < length codes → IsRadius width codes used i r → from_word columns codes word i ≤ r
    → IsAnswerFor width codes columns used word answer → (answer.groups ≡ i ∷ []) × IsTrue answer.sure

-- a cap can always be met
abbrev pub CapIsMet : Type 0
CapIsMet = (width : ℕ) (codes : List (List Bool)) (cap : ℕ) → GoodFor codes (all_columns width) (capped_need width codes cap)

-- under a cap the need of two codes is at most the sum of their needs with a third
abbrev pub CapIsNoDetour : Type 0
CapIsNoDetour = (width : ℕ) (codes : List (List Bool)) (cap i j k : ℕ)
    → capped_need width codes cap i j ≤ capped_need width codes cap k i + capped_need width codes cap k j

-- over fewer columns two codes are no farther apart
abbrev pub FewerColumnsAreCloser : Type 0
FewerColumnsAreCloser = (width r : ℕ) (columns : List ℕ) (v w : List Bool) → IsStrictlyIncreasing columns → All (λ k. k < width) columns
    → distance (all_columns width) v w ≤ r → distance columns v w ≤ r

-- the group at a position has that problem
abbrev pub IsIn : List Group → ℕ → NodeName → Type 0
IsIn groups i name = (g : Group) × (slice_get groups i ≡ Some g) × Contains g.members name

-- every problem is in one group, and in no other
abbrev pub ProblemIsInOneGroup : Type 0
ProblemIsInOneGroup = (width : ℕ) (problems : List Problem) (groups : List Group) (p : Problem)
    → AreCodedProblems width problems → AreGroups width problems groups → Contains problems p
    → (i : ℕ) × IsIn groups i p.name × ((j : ℕ) → IsIn groups j p.name → j ≡ i)

-- no two groups have one code
abbrev pub GroupsHaveDifferentCodes : Type 0
GroupsHaveDifferentCodes = (width : ℕ) (problems : List Problem) (groups : List Group)
    → AreGroups width problems groups → AllPairs (λ g h. g.code ≢ h.code) groups

-- the codes of groups are good at 1
abbrev pub OneIsGood : Type 0
OneIsGood = (width : ℕ) (problems : List Problem) (groups : List Group) → AreCodedProblems width problems → AreGroups width problems groups
    → Good (codes_of groups) (all_columns width) 1

-- the closest groups are at least 1 apart
abbrev pub LeastIsPositive : Type 0
LeastIsPositive = (width : ℕ) (problems : List Problem) (groups : List Group) → AreCodedProblems width problems → AreGroups width problems groups
    → (pair : Pair) → IsClosestPair width (codes_of groups) (Some pair) → 0 < pair.distance

-- over a choice of columns the codes are as far apart as they need
abbrev pub ChoiceIsGood : Type 0
ChoiceIsGood = (width : ℕ) (codes : List (List Bool)) (need : ℕ → ℕ → ℕ) (columns : List ℕ)
    → IsChoice width codes need columns → GoodFor codes columns need

-- over the columns of a book the codes are as far apart as it says
abbrev pub BookIsGood : Type 0
BookIsGood = (width : ℕ) (codes : List (List Bool)) (book : Book) → IsBook width codes book → Good codes book.columns book.distance

-- columns without one of them
abbrev pub leaving_out : ℕ → List ℕ → List ℕ
leaving_out c columns = filter (λ k. not (k == c)) columns

-- no column of a choice can be left out
abbrev pub ChoiceIsTight : Type 0
ChoiceIsTight = (width : ℕ) (codes : List (List Bool)) (need : ℕ → ℕ → ℕ) (columns : List ℕ) → IsChoice width codes need columns
    → (c : ℕ) → Contains columns c → ¬ GoodFor codes (leaving_out c columns) need

-- no column of a book can be left out
abbrev pub BookIsTight : Type 0
BookIsTight = (width : ℕ) (codes : List (List Bool)) (book : Book) → IsBook width codes book
    → (c : ℕ) → Contains book.columns c → ¬ Good codes (leaving_out c book.columns) book.distance
