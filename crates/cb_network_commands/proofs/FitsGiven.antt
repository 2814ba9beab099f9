-- What fits, over the matrix of a topology.
use Rattle.std.proofs.Common.{◌≡◌, ◌≤◌, ℕ, List, length, ap, subst, ◌∙◌, inl, inr}
use Rattle.std.specs.Prelude.{Option}
use Rattle.std.specs.List.{AllZip}
use Rattle.std.proofs.lemmas.List.{length-map}
use Rattle.cb_model.specs.declared.node.NodeName.{NodeName}
use Rattle.cb_coding.specs.declared.group.Group.{Group}
use Rattle.cb_coding.specs.Answers.{radius}
use Rattle.cb_coding.specs.Groups.{codes_of}
use Rattle.cb_codes.specs.Codes.{Coded}
use Rattle.cb_finding.specs.Finding.{word_of}
use Rattle.cb_decode.proofs.Names.{has_name}
use Rattle.cb_decode.specs.Found.{IsWordOf}
use Rattle.cb_decode.specs.declared.word.RaisedWord.{RaisedWord}
use Rattle.cb_topo.specs.Numbered.{topology_of}
use Rattle.cb_matrix.specs.Matrix.{IsMatrixOf}
use Rattle.cb_burst.specs.Searched.{SearchedParts}
use Rattle.cb_pairs.specs.declared.guess.Fits.{Fits}
use Rattle.cb_pairs.specs.Fits.{AreFits, group_limit}
use Rattle.cb_pairs.specs.Separation.{IsSeparation}
use Rattle.cb_pairs.proofs.Apart.{separation_is_one}
use Rattle.cb_report.specs.declared.fault.Fault.{Fault}
use Rattle.cb_report.specs.declared.fits.FoundFits.{FoundFits}
use Rattle.cb_outcome.specs.Fits.{IsFoundFor, NamesGuess}
use Rattle.cb_outcome.specs.Jobs.{PairsGives}
use Rattle.cb_network_commands.specs.Fitted.{HaveNames, IsFittedOutput, IsGroupsRefusal}

pub as_many_codes : (groups : List Group) → length (codes_of groups) ≡ length groups
as_many_codes groups = length-map groups (λ (g : Group). g.code)

module _ (columns : List NodeName) (groups : List Group) (nodes : List NodeName) (pairs : Coded) (few : length groups ≤ group_limit)
    (width_is : pairs.width ≡ length columns) (rows_are : pairs.rows ≡ codes_of groups) (said : RaisedWord) (is_word : IsWordOf columns nodes said) where
  pub found_is : (fits : Fits) → AreFits pairs.width pairs.rows said.word fits → (s : ℕ) → IsSeparation pairs.width pairs.rows s → (found : FoundFits)
      → found.raised ≡ said.raised → found.unknown ≡ said.unknown → found.distance ≡ fits.distance → found.radius ≡ radius s
      → found.sure ≡ fits.sure → AllZip (NamesGuess groups) fits.guesses found.fits → IsFoundFor columns groups nodes found
  found_is fits are s apart found raised unknown distance within sure named =
      let width = length columns in
      let codes = codes_of groups in
      let here : AreFits width codes (word_of columns nodes) fits =
      subst (λ n. AreFits n codes (word_of columns nodes) fits) width_is
      (subst (λ rows. AreFits pairs.width rows (word_of columns nodes) fits) rows_are (subst (λ w. AreFits pairs.width pairs.rows w fits) is_word.word are))
      in
      let there : IsSeparation width codes s =
      subst (λ n. IsSeparation n codes s) width_is (subst (λ rows. IsSeparation pairs.width rows s) rows_are apart)
      in
      record {
        few = few;
        fits = fits;
        are_fits = here;
        raised_are = raised ∙ is_word.raised;
        unknown_are = unknown ∙ is_word.unknown;
        distance_is = distance;
        radius_is = within ∙ ap radius (separation_is_one width codes s here.separation there here.separation_is);
        sure_is = sure;
        named = named;
      }

module _ (searched : SearchedParts) (is : IsMatrixOf searched.network searched.matrix) where
  pub have_names : HaveNames searched.matrix.groups
  have_names i within = has_name (topology_of searched.network) is.columns searched.matrix.groups is.is i within

  pub fitted_gives : (nodes : List NodeName) (bytes : List ℕ) (fault : Option Fault) → IsFittedOutput searched nodes bytes fault → (whole : ℕ)
      → PairsGives (topology_of searched.network) nodes whole (record { out = bytes; fault = fault; whole = whole })
  fitted_gives nodes bytes fault fitted whole = inl (record {
    columns = is.columns;
    groups = searched.matrix.groups;
    matrix = is.is;
    found = fitted.found;
    is_found = fitted.is_found is.columns is.is.columns_are;
    gives = λ i. record { out = fitted.text i; fault = fitted.well i; whole = whole };
  })

  pub refused_gives : (nodes : List NodeName) (bytes : List ℕ) (fault : Option Fault) → IsGroupsRefusal (length searched.matrix.groups) bytes fault → (whole : ℕ)
      → PairsGives (topology_of searched.network) nodes whole (record { out = bytes; fault = fault; whole = whole })
  refused_gives nodes bytes fault refused whole = inr (record {
    columns = is.columns;
    groups = searched.matrix.groups;
    matrix = is.is;
    many = refused.many;
    gives = λ i. record { out = refused.none i; fault = refused.is i; whole = whole };
  })
