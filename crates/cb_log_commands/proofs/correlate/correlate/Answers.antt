-- What each way out of `correlate` shows.
use Rattle.std.proofs.Common.{[], ◌∷◌, refl, inl, inr, arith, Err}
use Rattle.std.proofs.KnownBytes.{Appends-nil}
use Rattle.cb_topo.specs.Numbered.{topology_of}
use Rattle.cb_outcome.specs.Commands.Correlate.{correlate_reads}
use Rattle.cb_report.specs.declared.fault.Fault.TheVariants.{Memory}
use Rattle.cb_log.specs.Basis.{wanted}
use Rattle.cb_outcome.specs.Judged.{network}
use Rattle.cb_outcome.specs.LogJobs.{Watch}
use Rattle.cb_file_kinds.proofs.Chain.{err_is, reads_prefix}
use Rattle.cb_log_commands.proofs.Counted.{correlate_none, correlate_opened, correlate_followed}
use Rattle.cb_log_commands.specs.Telling.{OpensLog}
use Rattle.cb_log_commands.proofs.Following.{reads_nothing}
use Rattle.cb_log_commands.proofs.correlate.correlate.Goals as goal

pub returns-in_err-topology-clause-ends : goal.returns-in_err-topology-clause-ends
returns-in_err-topology-clause-ends g c =
    rw (err_is c.from_residual.result c.in_err-topology.field-0.0 c.from_residual.ensures.1)
    (inl (record {
      made = Err c.in_err-topology.field-0.0;
      comes = c.in_err-topology.ensures.stops (correlate_reads c.args.model c.args.topology c.args.log) [] refl;
      delivers = record { written = Appends-nil (g.O.Sink.tells c.args.out.now).taken; end_is = refl };
    }))

pub returns-in_err-session-clause-ends : goal.returns-in_err-session-clause-ends
returns-in_err-session-clause-ends g c =
    let old = g.F.Files.tells c.args.files.now in
    let two = g.F.Files.tells c.read_network.new.files in
    let m = c.args.model in
    let t = c.args.topology in
    let nothing = reads_nothing two c.args.log in
    rw (err_is c.from_residual-in_err-session.result Memory c.from_residual-in_err-session.ensures.1)
    (inl (record {
      made = Err Memory;
      comes = inl (record {
        is = refl;
        whole = 2;
        read = reads_prefix old two two (m ∷ t ∷ []) [] c.args.log (m ∷ t ∷ c.args.log ∷ []) refl c.in_ok-topology.ensures.passed.read nothing.others nothing.prefix;
      });
      delivers = record { written = Appends-nil (g.O.Sink.tells c.args.out.now).taken; end_is = refl };
    }))

pub returns-clause-ends : goal.returns-clause-ends
returns-clause-ends g c =
    let old = g.F.Files.tells c.args.files.now in
    let two = g.F.Files.tells c.read_network.new.files in
    let out = g.O.Sink.tells c.args.out.now in
    let t = topology_of c.in_ok-topology.topology in
    let passed = c.in_ok-topology.ensures.passed in
    let watch : Watch = record { opening = []; from = t; mode = wanted c.args.asked.wish; window = c.args.asked.window } in
    inr (record {
      range = c.requires;
      known = network t;
      passed = passed.said;
      watch = watch;
      watches = refl;
      name = c.args.log;
      log = refl;
      now = two;
      read = passed.read;
      counts = passed.counts;
      ends = c.follow-end.ensures.ends watch out (record {
        regular = c.in_ok-session.ensures.regular;
        mode = c.in_ok-session.ensures.mode;
        window = c.in_ok-session.ensures.length;
        stands = c.in_ok-session.ensures.stands;
        written = Appends-nil out.taken;
        faults = omega arith;
      });
    })

pub returns-in_err-topology-clause-steps : goal.returns-in_err-topology-clause-steps
returns-in_err-topology-clause-steps g c =
    correlate_none c.args.model c.args.topology c.args.log (g.F.Files.tells c.args.files.now)
    (g.F.Files.tells c.read_network.new.files) c.args.steps.now c.args.steps.now refl

pub returns-in_err-session-clause-steps : goal.returns-in_err-session-clause-steps
returns-in_err-session-clause-steps g c =
    correlate_opened c.args.model c.args.topology c.args.log (g.F.Files.tells c.args.files.now)
    (g.F.Files.tells c.read_network.new.files) (topology_of c.in_ok-topology.topology) c.args.steps.now c.open_session.new.steps c.in_ok-topology.ensures.passed.said
    c.in_ok-topology.ensures.passed.read c.open_session.ensures.cost

pub returns-clause-steps : goal.returns-clause-steps
returns-clause-steps g c =
    let out = g.O.Sink.tells c.args.out.now in
    let t = topology_of c.in_ok-topology.topology in
    let watch : Watch = record { opening = []; from = t; mode = wanted c.args.asked.wish; window = c.args.asked.window } in
    let passed = c.in_ok-topology.ensures.passed in
    let opens : OpensLog watch c.in_ok-session.session out out = record {
      regular = c.in_ok-session.ensures.regular;
      mode = c.in_ok-session.ensures.mode;
      window = c.in_ok-session.ensures.length;
      stands = c.in_ok-session.ensures.stands;
      written = Appends-nil out.taken;
      faults = omega arith;
    } in
    correlate_followed c.args.model c.args.topology c.args.log (g.F.Files.tells c.args.files.now)
    (g.F.Files.tells c.read_network.new.files) (g.F.Files.tells c.follow-end.new.files) t c.args.steps.now c.open_session.new.steps c.follow-end.new.steps passed.said
    passed.read (c.follow-end.ensures.ends watch out opens).only.prefix c.open_session.ensures.cost
    (c.follow-end.ensures.steps watch out c.args.asked.wish refl opens)
