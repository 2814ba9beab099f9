use Rattle.std.proofs.Common.{refl}
use Rattle.cb_topo.specs.Numbered.{topology_of}
use Rattle.cb_file_kinds.proofs.Chain.{err_is}
use Rattle.cb_file_kinds.proofs.Counted.{no_entries_counted, entries_counted}
use Rattle.cb_file_kinds.proofs.Levelled.{levels_long, levels_bad, levels_refused, levels_say}
use Rattle.cb_file_kinds.proofs.levels_file.judge.Goals as goal

pub returns-in-Some-clause-stops : goal.returns-in-Some-clause-stops
returns-in-Some-clause-stops g c =
    levels_long c.args.name c.args.text.now c.requires (topology_of c.args.topology) c.in-Some.line c.in-Some.ensures.long

pub returns-in-Some-clause-steps : goal.returns-in-Some-clause-steps
returns-in-Some-clause-steps g c = no_entries_counted c.args.text.now c.args.steps.now c.args.steps.now refl

pub proved_by-requires : goal.proved_by-requires
proved_by-requires g c = c.in_ok-levels.ensures.levels.is

pub returns-in_err-levels-clause-stops : goal.returns-in_err-levels-clause-stops
returns-in_err-levels-clause-stops g c =
    rw (err_is _ _ c.from_residual.ensures.1)
    (levels_bad c.args.name c.args.text.now c.requires (topology_of c.args.topology) c.in_default.ensures.short
    c.in_err-levels.field-0.0 c.in_err-levels.ensures.fault)

pub returns-in_err-levels-clause-steps : goal.returns-in_err-levels-clause-steps
returns-in_err-levels-clause-steps g c = no_entries_counted c.args.text.now c.args.steps.now c.args.steps.now refl

pub returns-in-Ok-clause-says : goal.returns-in-Ok-clause-says
returns-in-Ok-clause-says g c =
    levels_say c.args.name c.args.text.now c.requires (topology_of c.args.topology) c.in_default.ensures.short
    c.in_ok-levels.levels c.in-Ok.proved c.in_ok-levels.ensures.levels c.in-Ok.ensures.proved _ (refl, c.in-Ok.ensures.proved)

pub returns-in-Ok-clause-steps : goal.returns-in-Ok-clause-steps
returns-in-Ok-clause-steps g c =
    entries_counted c.args.text.now c.in_ok-levels.levels c.in_ok-levels.ensures.levels c.args.steps.now c.proved_by.new.steps c.proved_by.ensures.asked

pub returns-in-Err-clause-stops : goal.returns-in-Err-clause-stops
returns-in-Err-clause-stops g c =
    levels_refused c.args.name c.args.text.now c.requires (topology_of c.args.topology) c.in_default.ensures.short
    c.in_ok-levels.levels c.in_ok-levels.ensures.levels c.in-Err.fault c.in-Err.ensures.rejected

pub returns-in-Err-clause-steps : goal.returns-in-Err-clause-steps
returns-in-Err-clause-steps g c =
    entries_counted c.args.text.now c.in_ok-levels.levels c.in_ok-levels.ensures.levels c.args.steps.now c.proved_by.new.steps c.proved_by.ensures.asked
