use Rattle.std.proofs.Common.{◌++◌, ap, ◌∙◌}
use Rattle.cb_report.specs.declared.fits.FitLine.{FitLine}
use Rattle.cb_report.specs.FitsText.{fits_numbers, fit_line}
use Rattle.cb_report.proofs.Writing.{item_more}
use Rattle.cb_report.proofs.fits.push_found.Goals as goal

pub loop-fit-preserved : goal.loop-fit-preserved
loop-fit-preserved c =
    let fit = c.fit-item.result in
    let found = c.args.found.now in
    let within = rw c.as_slice-fit-items.ensures at c.loop-fit-test.true in
    let is = rw c.as_slice-fit-items.ensures at c.fit-item.is in
    let written = c.in_ok-push_fit.ensures ∙ ap (λ (f : FitLine). c.loop-fit.out.items ++ fit_line f) is in
    item_more fit_line c.args.out.now.items (fits_numbers found) found.fits c.loop-fit.fit-index fit c.loop-fit.out.items c.push_fit.new.out.items
    within c.loop-fit.invariant written
