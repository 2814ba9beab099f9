use Rattle.std.proofs.Common.{inl, inr, arith}
use Rattle.std.proofs.lemmas.Bool.{cases_lt}
use Rattle.cb_coding.specs.Distance.{apart}
use Rattle.cb_reduce.specs.Places.{kept_of}
use Rattle.cb_reduce.proofs.Places.{apart_is}
use Rattle.cb_reduce.proofs.waiting.force_or_wait.Goals as goal

pub returns-in-None-clause-held : goal.returns-in-None-clause-held
returns-in-None-clause-held c =
    let rows = c.args.codes.now.rows in
    let forced = kept_of c.args.forced.now in
    let same = apart_is forced rows c.args.first c.args.second c.row-a.result.now c.row.result.now c.row-a.ensures c.row.ensures in
    elim (cases_lt (apart forced rows c.args.first c.args.second) c.args.cap) [
      | inl near ↦ absurd (c.in-None.ensures (omega arith))
      | inr far ↦ inl (omega arith)
    ]
