-- What fits raised nodes is one, and within the radius it is known.
use Rattle.std.proofs.Common.{◌≡◌, ◌↔◌, ◌≤◌, ℕ, List, [], ◌∷◌, length, IsTrue, refl, sym, ap, subst, ◌∙◌, arith}
use Rattle.std.specs.Prelude.{Option, None, Some}
use Rattle.std.specs.List.{AllZip, Contains}
use Rattle.cb_model.specs.declared.node.GroupName.{GroupName}
use Rattle.cb_model.specs.declared.node.NodeName.{NodeName}
use Rattle.cb_coding.specs.declared.group.Group.{Group}
use Rattle.cb_coding.specs.Answers.{radius}
use Rattle.cb_coding.specs.Distance.{HaveWidth}
use Rattle.cb_coding.specs.Groups.{codes_of}
use Rattle.cb_coding.proofs.GroupLaws.{groups_are_wide}
use Rattle.cb_finding.specs.Finding.{word_of}
use Rattle.cb_finding.specs.Matrix.{IsMatrix}
use Rattle.cb_finding.proofs.Nearest.{coded_are_wide}
use Rattle.cb_finding.proofs.One.{group_name_is_one}
use Rattle.cb_network.specs.Topology.{Topology}
use Rattle.cb_pairs.specs.declared.guess.Fits.{Fits}
use Rattle.cb_pairs.specs.declared.guess.Guess.{Guess}
use Rattle.cb_pairs.specs.Fits.{from_guess}
use Rattle.cb_pairs.specs.Guesses.{IsGuess}
use Rattle.cb_pairs.proofs.Apart.{separation_is_one}
use Rattle.cb_pairs.proofs.Fitting.{fits_are_one, within_radius_is_listed}
use Rattle.cb_report.specs.declared.fits.FitLine.{FitLine}
use Rattle.cb_report.specs.declared.fits.FoundFits.{FoundFits}
use Rattle.cb_outcome.specs.Fits.{IsSecondCalled, NamesGuess, IsFoundFor}
use Rattle.cb_outcome.specs.Prints.{HasCodeOf}

second_is_one : (groups : List Group) (second : Option ℕ) (m n : Option GroupName) → IsSecondCalled groups second m → IsSecondCalled groups second n → m ≡ n
second_is_one groups None None None p q = refl
second_is_one groups None None (Some n) p q = absurd q
second_is_one groups None (Some m) n p q = absurd p
second_is_one groups (Some i) None n p q = absurd p
second_is_one groups (Some i) (Some m) None p q = absurd q
second_is_one groups (Some i) (Some m) (Some n) p q = ap Some (group_name_is_one groups i m n p q)

line_is_one : (groups : List Group) (guess : Guess) (x y : FitLine) → NamesGuess groups guess x → NamesGuess groups guess y → x ≡ y
line_is_one groups guess x y p q =
    let first = group_name_is_one groups guess.first x.first y.first p.first q.first in
    let second = second_is_one groups guess.second x.second y.second p.second q.second in
    λ i. record { first = first i; second = second i }

lines_are_one : (groups : List Group) (guesses : List Guess) (xs ys : List FitLine) → AllZip (NamesGuess groups) guesses xs
    → AllZip (NamesGuess groups) guesses ys → xs ≡ ys
lines_are_one groups [] [] [] p q = refl
lines_are_one groups [] [] (y ∷ ys) p q = absurd q
lines_are_one groups [] (x ∷ xs) ys p q = absurd p
lines_are_one groups (g ∷ gs) [] ys p q = absurd p
lines_are_one groups (g ∷ gs) (x ∷ xs) [] p q = absurd q
lines_are_one groups (g ∷ gs) (x ∷ xs) (y ∷ ys) p q =
    let here = line_is_one groups g x y p.0 q.0 in
    let later = lines_are_one groups gs xs ys p.1 q.1 in
    λ i. here i ∷ later i

module _ (columns : List NodeName) (groups : List Group) (nodes : List NodeName) where
  pub found_is_one : (a b : FoundFits) → IsFoundFor columns groups nodes a → IsFoundFor columns groups nodes b → a ≡ b
  found_is_one a b p q =
      let width = length columns in
      let codes = codes_of groups in
      let fits = fits_are_one width codes (word_of columns nodes) p.fits q.fits p.are_fits q.are_fits in
      let apart = separation_is_one width codes p.are_fits.separation q.are_fits.separation p.are_fits.separation_is q.are_fits.separation_is in
      let raised = p.raised_are ∙ sym q.raised_are in
      let unknown = p.unknown_are ∙ sym q.unknown_are in
      let distance = p.distance_is ∙ (ap (λ (f : Fits). f.distance) fits ∙ sym q.distance_is) in
      let within = p.radius_is ∙ (ap radius apart ∙ sym q.radius_is) in
      let sure = p.sure_is ∙ (ap (λ (f : Fits). f.sure) fits ∙ sym q.sure_is) in
      let lines = lines_are_one groups p.fits.guesses a.fits b.fits p.named
      (subst (λ (gs : List Guess). AllZip (NamesGuess groups) gs b.fits) (sym (ap (λ (f : Fits). f.guesses) fits)) q.named)
      in
      λ i. record { raised = raised i; unknown = unknown i; distance = distance i; radius = within i; sure = sure i; fits = lines i }

-- the codes of a matrix have its columns
pub matrix_is_wide : (t : Topology) (columns : List NodeName) (groups : List Group) → IsMatrix t columns groups → HaveWidth (length columns) (codes_of groups)
matrix_is_wide t columns groups is = groups_are_wide (length columns) is.problems (coded_are_wide t columns is.problems is.problems_are) groups is.groups_are

pub within_is_known : (t : Topology) (columns : List NodeName) (groups : List Group) (nodes : List NodeName) → IsMatrix t columns groups → (found : FoundFits)
    → (is : IsFoundFor columns groups nodes found) → (g : Guess) → IsGuess (codes_of groups) g
    → from_guess (length columns) (codes_of groups) (word_of columns nodes) g ≤ found.radius
    → IsTrue found.sure × ((h : Guess) → Contains is.fits.guesses h ↔ HasCodeOf (codes_of groups) g h)
within_is_known t columns groups nodes matrix found is g is_guess near =
    let codes = codes_of groups in
    let wide = matrix_is_wide t columns groups matrix in
    let reported = is.radius_is in
    let known = within_radius_is_listed (length columns) codes (word_of columns nodes) is.are_fits.separation is.fits wide is.are_fits.separation_is is.are_fits g is_guess
    (omega arith) in (
      subst IsTrue (sym is.sure_is) known.0,
      λ h. (
        λ has. let one = (known.1 h).0 has in record { is = one.0; same = one.1 },
        λ one. (known.1 h).1 (one.is, one.same),
      ),
    )
