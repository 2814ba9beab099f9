use Rattle.std.proofs.Common.{false, ap, ◌∙◌, inl, inr}
use Rattle.std.proofs.lemmas.Bool.{cases_Bool, both_ways}
use Rattle.cb_codes.proofs.ByColumn.{had_within}
use Rattle.cb_coding.specs.Distance.{bit, code_at}
use Rattle.cb_reduce.specs.Places.{kept_of}
use Rattle.cb_reduce.proofs.Kept.{in_kept, was_kept, kept_rise}
use Rattle.cb_reduce.proofs.Places.{code_at_is}
use Rattle.cb_distance.proofs.After.{holders_within, holders_have}
use Rattle.cb_reduce.proofs.Standing.{some_apart, none_apart, has_and_lacks, alike}
use Rattle.cb_reduce.proofs.single.is_told_alone.Goals as goal

pub returns-in_default-clause-some : goal.returns-in_default-clause-some
returns-in_default-clause-some c = λ is.
    let rows = c.args.codes.now.rows in
    let rest = c.args.rest.now in
    let here = code_at_is rows c.args.place c.row.result.now c.row.ensures in
    record {
      one = c.args.place;
      other = 0;
      one_within = c.requires.within;
      other_within = c.requires.zero.0;
      has = c.requires.has;
      lacks = c.requires.zero.1 c.args.column;
      agree = none_apart rows c.args.place 0 (kept_of rest) (kept_rise rest) (λ k there. elim (cases_Bool (bit c.row.result.now k)) [
        | inl has ↦ absurd (both_ways _ (c.in_default.ensures.none k has) (was_kept rest k there).1)
        | inr lacks ↦ alike rows c.args.place 0 k false (ap (λ v. bit v k) here ∙ lacks) (c.requires.zero.1 k)
      ]);
    }

pub agrees_with_some-requires-clause-others : goal.agrees_with_some-requires-clause-others
agrees_with_some-requires-clause-others c = holders_within c.args.codes.now.rows c.in-Some.shared c.in_ok-others.others.now c.in_ok-others.ensures

pub returns-clause-none : goal.returns-clause-none
returns-clause-none c = λ isnt j lt lacks.
    let rows = c.args.codes.now.rows in
    let rest = c.args.rest.now in
    let shared = c.in-Some.shared in
    let here = code_at_is rows c.args.place c.row.result.now c.row.ensures in
    elim (cases_Bool (bit (code_at rows j) shared)) [
      | inl has ↦ c.agrees_with_some.ensures.none isnt j (holders_have rows shared c.in_ok-others.others.now c.in_ok-others.ensures j lt has) lacks
      | inr without ↦ some_apart rows c.args.place j (kept_of rest) shared (kept_rise rest)
          (in_kept rest shared (had_within rest shared c.in-Some.ensures.stands) c.in-Some.ensures.stands)
          (has_and_lacks rows c.args.place j shared (ap (λ v. bit v shared) here ∙ c.in-Some.ensures.has) without)
    ]
