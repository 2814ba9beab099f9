-- The finding of an answer for a word, where one radius is all groups' and where each group has its own.
use Rattle.std.proofs.Common.{◌≡◌, ℕ, List, refl, sym, subst, Some, slice_get, Result, Ok, Err}
use Rattle.std.specs.Prelude.{IfOk}
use Rattle.cb_model.specs.declared.node.NodeName.{NodeName}
use Rattle.cb_coding.specs.declared.book.Answer.{Answer}
use Rattle.cb_coding.specs.declared.group.Group.{Group}
use Rattle.cb_coding.specs.Answers.{IsAnswer, IsAnswerBy}
use Rattle.cb_coding.specs.Groups.{codes_of}
use Rattle.cb_coding.specs.Radii.{radius_at}
use Rattle.cb_finding.specs.declared.finding.Finding.{Finding}
use Rattle.cb_finding.specs.Finding.{IsFinding, IsFindingBy}
use Rattle.cb_decode.specs.declared.word.RaisedWord.{RaisedWord}
use Rattle.cb_decode.specs.Found.{IsWordOf, finding_by, finding_with}

module _ (columns : List NodeName) (groups : List Group) (book_columns : List ℕ) where
  pub found_at : (d : ℕ) (nodes : List NodeName) (word : RaisedWord) (answer : Answer) (finding : Finding) → IsWordOf columns nodes word
      → IsAnswer book_columns (codes_of groups) d word.word answer → finding ≡ finding_by groups d word.raised word.unknown answer
      → IsFinding columns groups book_columns d nodes finding
  found_at d nodes word answer finding said answered is = subst (λ (f : Finding). IsFinding columns groups book_columns d nodes f) (sym is) (record {
    rise = said.rise;
    raised_are = said.raised;
    unknown_are = said.unknown;
    answer = answer;
    radius_is = refl;
    answered = subst (λ w. IsAnswer book_columns (codes_of groups) d w answer) said.word answered;
    distance_is = refl;
    sure_is = refl;
    groups_are = refl;
  })

  pub found_by : (radii : List ℕ) (nodes : List NodeName) (word : RaisedWord) (r first : ℕ) (answer : Answer) (finding : Finding) → IsWordOf columns nodes word
      → slice_get answer.groups 0 ≡ Some first → r ≡ radius_at radii first → IsAnswerBy book_columns (codes_of groups) (radius_at radii) word.word answer
      → finding ≡ finding_with groups r word.raised word.unknown answer → IsFindingBy columns groups book_columns (radius_at radii) nodes finding
  found_by radii nodes word r first answer finding said at own answered is =
      subst (λ (f : Finding). IsFindingBy columns groups book_columns (radius_at radii) nodes f) (sym is) (record {
        rise = said.rise;
        raised_are = said.raised;
        unknown_are = said.unknown;
        answer = answer;
        radius_is = (first, at, own);
        answered = subst (λ w. IsAnswerBy book_columns (codes_of groups) (radius_at radii) w answer) said.word answered;
        distance_is = refl;
        sure_is = refl;
        groups_are = refl;
      })

-- what follows of a value follows of one that was made
pub if_ok_more : {V E : Type 0} (result : Result V E) (P Q : V → Type 0) → ((x : V) → P x → Q x) → IfOk result P → IfOk result Q
if_ok_more (Ok x) P Q f p = f x p
if_ok_more (Err e) P Q f p = tt
