-- What `pairs` prints.
use Rattle.std.specs.Prelude.{ℕ, List, [], ◌++◌, length, Bool, true, false, codes, decimal, Option, None, Some}
use Rattle.std.specs.List.{flat_map}
use Rattle.cb_model.specs.declared.node.GroupName.{GroupName}
use Rattle.cb_report.specs.declared.fits.FitLine.{FitLine}
use Rattle.cb_report.specs.declared.fits.FoundFits.{FoundFits}
use Rattle.cb_report.specs.Lines.{called_text}

-- the second group, if there is one
abbrev pub second_text : Option GroupName → List ℕ
second_text None = []
second_text (Some name) = codes " and " ++ called_text name

-- a fit: its line begins with two spaces
abbrev pub fit_line : FitLine → List ℕ
fit_line fit = codes "  fit " ++ called_text fit.first ++ second_text fit.second ++ codes "\n"

abbrev pub sure_fits_word : Bool → List ℕ
sure_fits_word true = codes " sure fits "
sure_fits_word false = codes " unsure fits "

-- the numbers, on one line
abbrev pub fits_numbers : FoundFits → List ℕ
fits_numbers f =
    codes "raised " ++ decimal f.raised ++ codes " unknown " ++ decimal f.unknown ++ codes " distance " ++ decimal f.distance
    ++ codes " radius " ++ decimal f.radius ++ sure_fits_word f.sure ++ decimal (length f.fits) ++ codes "\n"

-- what `pairs` prints: the numbers, and then a line for each fit
abbrev pub fits_text : FoundFits → List ℕ
fits_text f = codes "pairs " ++ (fits_numbers f ++ flat_map fit_line f.fits)
