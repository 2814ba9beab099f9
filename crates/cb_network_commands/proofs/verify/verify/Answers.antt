-- What each way out of `verify` shows.
use Rattle.std.proofs.Common.{List, ℕ, [], ◌∷◌, refl, ap, inl, subst}
use Rattle.std.specs.Prelude.{None}
use Rattle.cb_topo.specs.Numbered.{topology_of}
use Rattle.cb_outcome.specs.Roles.{Wanted, Role}
use Rattle.cb_outcome.specs.Commands.Verify.{verify}
use Rattle.cb_outcome.specs.Command.{reads_of}
use Rattle.cb_report.specs.declared.fault.Fault.TheVariants.{Memory}
use Rattle.cb_outcome.specs.Outcome.{done}
use Rattle.cb_outcome.specs.Judged.{Known, network, certified}
use Rattle.cb_file_kinds.specs.Ending.{Passed, network_files}
use Rattle.cb_file_kinds.proofs.Chain.{passed_next, stops_there, err_is, makes, wants}
use Rattle.cb_network_commands.proofs.verify.verify.Goals as goal

pub returns-in_err-topology : goal.returns-in_err-topology
returns-in_err-topology g c =
    rw (err_is _ _ c.from_residual.ensures.1)
    (c.in_err-topology.ensures.stops (reads_of (verify c.args.model c.args.topology c.args.certificate)) ((Role.certificate Wanted.any, c.args.certificate) ∷ []) refl)

pub returns-in_err-valid : goal.returns-in_err-valid
returns-in_err-valid g c =
    let old = g.F.Files.tells c.args.files.now in
    let two = g.F.Files.tells c.read_network.new.files in
    let three = g.F.Files.tells c.read_as.new.files in
    let m = c.args.model in
    let t = c.args.topology in
    let s = c.args.certificate in
    rw (err_is _ _ c.from_residual-in_err-valid.ensures.1)
    (stops_there (network_files m t) (Role.certificate Wanted.any) s (network (topology_of c.in_ok-topology.topology)) old two three c.in_ok-topology.ensures.passed
    c.in_err-valid.ensures.only (reads_of (verify m t s)) [] refl _ _ refl c.in_err-valid.ensures.stops)

pub returns-in_err-accepted_text : goal.returns-in_err-accepted_text
returns-in_err-accepted_text g c =
    let old = g.F.Files.tells c.args.files.now in
    let two = g.F.Files.tells c.read_network.new.files in
    let three = g.F.Files.tells c.read_as.new.files in
    let m = c.args.model in
    let t = c.args.topology in
    let s = c.args.certificate in
    let third = c.in_ok-valid.ensures.value in
    let net = network (topology_of c.in_ok-topology.topology) in
    let (known, known_is, says) = third.says net refl in
    let after = passed_next (network_files m t) (Role.certificate Wanted.any) s net old two three c.in_ok-topology.ensures.passed c.in_ok-valid.ensures.only third.text known third.read says in
    rw (err_is c.from_residual-in_err-accepted_text.result Memory c.from_residual-in_err-accepted_text.ensures.1)
    (inl (wants (verify m t s) ((Role.model, m) ∷ (Role.topology, t) ∷ (Role.certificate Wanted.any, s) ∷ []) known old three after refl refl Memory refl))

pub returns : goal.returns
returns g c =
    let old = g.F.Files.tells c.args.files.now in
    let two = g.F.Files.tells c.read_network.new.files in
    let three = g.F.Files.tells c.read_as.new.files in
    let m = c.args.model in
    let t = c.args.topology in
    let s = c.args.certificate in
    let third = c.in_ok-valid.ensures.value in
    let net = network (topology_of c.in_ok-topology.topology) in
    let (known, known_is, says) = third.says net refl in
    let after = passed_next (network_files m t) (Role.certificate Wanted.any) s net old two three c.in_ok-topology.ensures.passed c.in_ok-valid.ensures.only third.text known third.read says in
    let files = (Role.model, m) ∷ (Role.topology, t) ∷ (Role.certificate Wanted.any, s) ∷ [] in
    let verified = c.in_ok-valid.valid in
    makes (verify m t s) files (certified (topology_of c.in_ok-topology.topology) verified.certificate) old three
    (subst (λ (k : Known). Passed files k old three) known_is.0 after) refl refl _ None
    (λ left whole. (verified.shown.accepted, known_is.1, ap (λ (bytes : List ℕ). done bytes whole) c.in_ok-accepted_text.ensures))
