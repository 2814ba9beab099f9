use Rattle.std.proofs.Common.{◌≡◌, ◌++◌, take}
use Rattle.std.specs.List.{flat_map}
use Rattle.cb_report.specs.FitsText.{fits_numbers, fit_line}
use Rattle.cb_report.proofs.fits.push_found.Given as goal

abbrev pub invariant-loop-fit : goal.invariant-loop-fit
invariant-loop-fit l = l.out.items ≡ l.fn.out.items ++ (fits_numbers l.found ++ flat_map fit_line (take l.fit-index l.found.fits))
