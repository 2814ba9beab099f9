use Rattle.std.proofs.Common.{◌+◌, List, [], ◌∷◌, ◌++◌, take, sym, subst, arith}
use Rattle.std.specs.List.{AllZip}
use Rattle.std.proofs.lemmas.List.{take_all}
use Rattle.cb_model.proofs.Numbers.{take_more, zip_push}
use Rattle.cb_outcome.specs.Fits.{NamesGuess}
use Rattle.cb_pairs.specs.declared.guess.Guess.{Guess}
use Rattle.cb_report.specs.declared.fits.FitLine.{FitLine}
use Rattle.cb_network_commands.proofs.fitting.lines_of.Goals as goal

pub loop-at-preserved : goal.loop-at-preserved
loop-at-preserved c =
    let groups = c.args.groups.now.groups in
    let guesses = c.args.guesses.now in
    let at = c.loop-at.at in
    let guess = c.at.result.now in
    let line = c.in_ok-line_of.field-0 in
    subst (λ (ls : List FitLine). AllZip (NamesGuess groups) (take (at + 1) guesses) ls) (sym c.in_ok-push.ensures.ok)
    (subst (λ (gs : List Guess). AllZip (NamesGuess groups) gs (c.loop-at.lines ++ line ∷ [])) (sym (take_more guesses at guess c.at.ensures))
    (zip_push (NamesGuess groups) (take at guesses) c.loop-at.lines guess line c.loop-at.invariant c.in_ok-line_of.ensures))

pub returns : goal.returns
returns c =
    let done = c.loop-at-test.false in
    let end = c.len-at-end.ensures in
    subst (λ (gs : List Guess). AllZip (NamesGuess c.args.groups.now.groups) gs c.loop-at.lines) (take_all c.loop-at.at c.args.guesses.now (omega arith)) c.loop-at.invariant
