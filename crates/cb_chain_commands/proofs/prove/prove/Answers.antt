-- What each way out of `prove` shows.
use Rattle.std.proofs.Common.{List, ℕ, [], ◌∷◌, refl, ap, inl, subst}
use Rattle.std.specs.Prelude.{None}
use Rattle.cb_topo.specs.Numbered.{topology_of}
use Rattle.cb_outcome.specs.Roles.{Role}
use Rattle.cb_outcome.specs.Commands.Prove.{prove}
use Rattle.cb_outcome.specs.Command.{reads_of}
use Rattle.cb_report.specs.declared.fault.Fault.TheVariants.{Memory}
use Rattle.cb_outcome.specs.Outcome.{done}
use Rattle.cb_outcome.specs.Judged.{Known, network, levelled}
use Rattle.cb_file_kinds.specs.Ending.{Passed, network_files}
use Rattle.cb_file_kinds.proofs.Counted.{prove_none, prove_counts}
use Rattle.cb_file_kinds.proofs.Chain.{passed_next, stops_there, err_is, makes, wants}
use Rattle.cb_chain_commands.proofs.prove.prove.Goals as goal

pub returns-in_err-topology-clause-comes : goal.returns-in_err-topology-clause-comes
returns-in_err-topology-clause-comes g c =
    rw (err_is _ _ c.from_residual.ensures.1)
    (c.in_err-topology.ensures.stops (reads_of (prove c.args.model c.args.topology c.args.levels)) ((Role.levels, c.args.levels) ∷ []) refl)

pub returns-in_err-valid-clause-comes : goal.returns-in_err-valid-clause-comes
returns-in_err-valid-clause-comes g c =
    let old = g.F.Files.tells c.args.files.now in
    let two = g.F.Files.tells c.read_network.new.files in
    let three = g.F.Files.tells c.read_proved.new.files in
    let m = c.args.model in
    let t = c.args.topology in
    let s = c.args.levels in
    rw (err_is _ _ c.from_residual-in_err-valid.ensures.1)
    (stops_there (network_files m t) Role.levels s (network (topology_of c.in_ok-topology.topology)) old two three c.in_ok-topology.ensures.passed
    c.in_err-valid.ensures.only (reads_of (prove m t s)) [] refl _ _ refl c.in_err-valid.ensures.stops)

pub returns-in_err-proved_text-clause-comes : goal.returns-in_err-proved_text-clause-comes
returns-in_err-proved_text-clause-comes g c =
    let old = g.F.Files.tells c.args.files.now in
    let two = g.F.Files.tells c.read_network.new.files in
    let three = g.F.Files.tells c.read_proved.new.files in
    let m = c.args.model in
    let t = c.args.topology in
    let s = c.args.levels in
    let third = c.in_ok-valid.ensures.value in
    let net = network (topology_of c.in_ok-topology.topology) in
    let (known, known_is, says) = third.says net refl in
    let after = passed_next (network_files m t) Role.levels s net old two three c.in_ok-topology.ensures.passed c.in_ok-valid.ensures.only third.text known third.read says in
    rw (err_is c.from_residual-in_err-proved_text.result Memory c.from_residual-in_err-proved_text.ensures.1)
    (inl (wants (prove m t s) ((Role.model, m) ∷ (Role.topology, t) ∷ (Role.levels, s) ∷ []) known old three after refl refl Memory refl))

pub returns-clause-comes : goal.returns-clause-comes
returns-clause-comes g c =
    let old = g.F.Files.tells c.args.files.now in
    let two = g.F.Files.tells c.read_network.new.files in
    let three = g.F.Files.tells c.read_proved.new.files in
    let m = c.args.model in
    let t = c.args.topology in
    let s = c.args.levels in
    let third = c.in_ok-valid.ensures.value in
    let net = network (topology_of c.in_ok-topology.topology) in
    let (known, known_is, says) = third.says net refl in
    let after = passed_next (network_files m t) Role.levels s net old two three c.in_ok-topology.ensures.passed c.in_ok-valid.ensures.only third.text known third.read says in
    let files = (Role.model, m) ∷ (Role.topology, t) ∷ (Role.levels, s) ∷ [] in
    let valid = c.in_ok-valid.valid in
    makes (prove m t s) files (levelled (topology_of c.in_ok-topology.topology) valid.levels) old three
    (subst (λ (k : Known). Passed files k old three) known_is.0 after) refl refl _ None
    (λ left whole. record {
      proved = valid.proved;
      valid = known_is.1.valid;
      shows = known_is.1.shows;
      gives = ap (λ (bytes : List ℕ). done bytes whole) c.in_ok-proved_text.ensures;
    })

pub returns-in_err-topology-clause-steps : goal.returns-in_err-topology-clause-steps
returns-in_err-topology-clause-steps g c = prove_none c.args.model c.args.topology c.args.levels (g.F.Files.tells c.args.files.now) c.args.steps.now

pub returns-in_err-valid-clause-steps : goal.returns-in_err-valid-clause-steps
returns-in_err-valid-clause-steps g c =
    prove_counts c.args.model c.args.topology c.args.levels (g.F.Files.tells c.args.files.now) (topology_of c.in_ok-topology.topology)
    (g.F.Files.tells c.read_network.new.files) c.args.steps.now c.read_proved.new.steps c.in_ok-topology.ensures.passed c.read_proved.ensures.steps

pub returns-in_err-proved_text-clause-steps : goal.returns-in_err-proved_text-clause-steps
returns-in_err-proved_text-clause-steps g c =
    prove_counts c.args.model c.args.topology c.args.levels (g.F.Files.tells c.args.files.now) (topology_of c.in_ok-topology.topology)
    (g.F.Files.tells c.read_network.new.files) c.args.steps.now c.read_proved.new.steps c.in_ok-topology.ensures.passed c.read_proved.ensures.steps

pub returns-clause-steps : goal.returns-clause-steps
returns-clause-steps g c =
    prove_counts c.args.model c.args.topology c.args.levels (g.F.Files.tells c.args.files.now) (topology_of c.in_ok-topology.topology)
    (g.F.Files.tells c.read_network.new.files) c.args.steps.now c.read_proved.new.steps c.in_ok-topology.ensures.passed c.read_proved.ensures.steps
