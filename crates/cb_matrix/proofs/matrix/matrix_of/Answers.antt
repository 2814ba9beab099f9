use Rattle.std.proofs.Common.{◌≡◌, length, ap, ◌∙◌, arith}
use Rattle.cb_coding.specs.Groups.{codes_of}
use Rattle.cb_codes.specs.Codes.{Coded}
use Rattle.cb_codes.proofs.Fitting.{codes_are, length-groups}
use Rattle.cb_matrix.specs.Parts.{codes_at}
use Rattle.cb_matrix.proofs.matrix.matrix_of.Goals as goal

pub invariant_of-result : goal.invariant_of-result
invariant_of-result c =
    let grouping = c.args.grouped.grouping in
    let codes = grouping.codes.codes.rows in
    let size = ap length (rw (c.into_codes.ensures, c.of.ensures) at c.of-2.ensures.groups) ∙ length-groups codes grouping.named.items c.requires.sound.fit.as_many in
    record {
      wide = c.of-2.ensures.width ∙ ap (λ (codes : Coded). codes.width) c.into_codes.ensures ∙ c.requires.sound.wide;
      all = c.requires.places.all;
      within = λ k d lt. (let low = c.requires.places.within k d lt in omega arith);
    }

pub returns-clause-codes : goal.returns-clause-codes
returns-clause-codes c =
    let grouping = c.args.grouped.grouping in
    let codes = grouping.codes.codes.rows in
    let same : codes_of c.of-2.result.groups ≡ codes =
    ap codes_of (rw (c.into_codes.ensures, c.of.ensures) at c.of-2.ensures.groups) ∙ codes_are codes grouping.named.items c.requires.sound.fit.as_many
    in
    ap (λ codes. codes_at codes grouping.places) same
