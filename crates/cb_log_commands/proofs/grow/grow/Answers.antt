use Rattle.std.proofs.Common.{ℕ, List, ap, refl, inl}
use Rattle.cb_io.proofs.Reported.{ReadsEach-nil}
use Rattle.cb_outcome.specs.Judged.{nothing}
use Rattle.cb_outcome.specs.Outcome.{done}
use Rattle.cb_topo.specs.Numbered.{topology_of}
use Rattle.cb_file_kinds.proofs.Chain.{of_all}
use Rattle.cb_log_commands.proofs.Counted.{grow_none, grow_counts}
use Rattle.cb_log_commands.proofs.Growing.{refused_comes}
use Rattle.cb_log_commands.proofs.grow.grow.Goals as goal

pub returns-in_ok-summary_of-in-Ok-clause-comes : goal.returns-in_ok-summary_of-in-Ok-clause-comes
returns-in_ok-summary_of-in-Ok-clause-comes g c =
    let (summary, sums, is) = c.in_ok-summary_of-in-Ok.ensures.gives in
    λ files. record {
      known = nothing;
      said = of_all files.left _ (λ left. refl);
      gives = λ left whole. inl (record {
        from = topology_of c.in-Ok.topology;
        made_up = c.in-Ok.ensures.network;
        summary = summary;
        sums_up = sums;
        gives = ap (λ (bytes : List ℕ). done bytes whole) is;
      });
      read = ReadsEach-nil files;
      alone = refl;
    }

pub returns-in-Err-clause-comes : goal.returns-in-Err-clause-comes
returns-in-Err-clause-comes g c = refused_comes c.args.sites c.args.start c.in-Err.fault c.refused.result c.refused.ensures c.in-Err.ensures.fault

pub returns-in_err-summary_of-in-Ok-clause-steps : goal.returns-in_err-summary_of-in-Ok-clause-steps
returns-in_err-summary_of-in-Ok-clause-steps g c =
    grow_counts c.args.sites c.args.start (topology_of c.in-Ok.topology) c.args.steps.now c.summary_of.new.steps c.in-Ok.ensures.network c.summary_of.ensures.steps

pub returns-in_ok-summary_of-in-Ok-clause-steps : goal.returns-in_ok-summary_of-in-Ok-clause-steps
returns-in_ok-summary_of-in-Ok-clause-steps g c =
    grow_counts c.args.sites c.args.start (topology_of c.in-Ok.topology) c.args.steps.now c.summary_of.new.steps c.in-Ok.ensures.network c.summary_of.ensures.steps

pub returns-in-Err-clause-steps : goal.returns-in-Err-clause-steps
returns-in-Err-clause-steps g c = grow_none c.args.sites c.args.start c.args.steps.now c.args.steps.now refl
