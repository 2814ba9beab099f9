-- What `pairs` finds.
use Rattle.std.specs.Prelude.{◌≡◌, ℕ, ◌≤◌, List, length, Option, None, Some}
use Rattle.std.specs.List.{AllZip}
use Rattle.cb_model.specs.declared.node.GroupName.{GroupName}
use Rattle.cb_model.specs.declared.node.NodeName.{NodeName}
use Rattle.cb_coding.specs.declared.group.Group.{Group}
use Rattle.cb_coding.specs.Answers.{radius}
use Rattle.cb_coding.specs.Groups.{codes_of}
use Rattle.cb_finding.specs.Finding.{IsCalled, unknown_of, word_of}
use Rattle.cb_pairs.specs.declared.guess.Fits.{Fits}
use Rattle.cb_pairs.specs.declared.guess.Guess.{Guess}
use Rattle.cb_pairs.specs.Fits.{AreFits, group_limit}
use Rattle.cb_report.specs.declared.fits.FitLine.{FitLine}
use Rattle.cb_report.specs.declared.fits.FoundFits.{FoundFits}

-- what a second group is called, where there is one
abbrev pub IsSecondCalled : List Group → Option ℕ → Option GroupName → Type 0
IsSecondCalled groups None None = Unit {0}
IsSecondCalled groups (Some i) (Some name) = IsCalled groups i name
IsSecondCalled groups second name = ⊥

-- the line names the groups of a guess
pub record NamesGuess (groups : List Group) (guess : Guess) (line : FitLine) : Type 0 where
  pub first : IsCalled groups guess.first line.first
  pub second : IsSecondCalled groups guess.second line.second

-- Exactly the guesses nearest to the nodes, each by what its groups are called, with the numbers of raised and of unknown nodes. There are few
-- enough groups.
pub record IsFoundFor (columns : List NodeName) (groups : List Group) (nodes : List NodeName) (found : FoundFits) : Type 0 where
  pub few : length groups ≤ group_limit
  pub fits : Fits
  pub are_fits : AreFits (length columns) (codes_of groups) (word_of columns nodes) fits
  pub raised_are : found.raised ≡ length nodes
  pub unknown_are : found.unknown ≡ unknown_of columns nodes
  pub distance_is : found.distance ≡ fits.distance
  pub radius_is : found.radius ≡ radius are_fits.separation
  pub sure_is : found.sure ≡ fits.sure
  pub named : AllZip (NamesGuess groups) fits.guesses found.fits
