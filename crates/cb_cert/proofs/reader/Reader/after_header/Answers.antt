use Rattle.std.proofs.Common.{◌∙◌, ◌∷◌, List, ℕ, refl, sym, ap, arith}
use Rattle.cb_text.proofs.LineLemmas.{lines_are_few}
use Rattle.cb_cert.proofs.Ending.{empty, begun}
use Rattle.cb_cert.proofs.reader.Reader.after_header.Goals as goal

pub returns-in_default-clause-fault : goal.returns-in_default-clause-fault
returns-in_default-clause-fault c = empty c.args.text.now (sym c.lines-lines.ensures ∙ c.in_default.ensures.steps.0)

pub returns-clause-reader : goal.returns-clause-reader
returns-clause-reader c =
    let first = c.in-Some.ensures.steps ∙ ap (λ (line : List ℕ). line ∷ c.next.new.self) c.in-Some-header_version.ensures.some in
    begun c.args.text.now _ c.in-Some-header_version.version (sym c.lines-lines.ensures ∙ first) refl refl
    (omega (arith, lines_are_few c.args.text.now, c.well_formed))
