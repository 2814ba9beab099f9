-- What each way out of `decode` shows.
use Rattle.std.proofs.Common.{[], ◌∷◌, ◌∙◌, refl, subst, inl, inr, Err}
use Rattle.std.proofs.KnownBytes.{Appends-nil}
use Rattle.cb_topo.specs.Numbered.{topology_of}
use Rattle.cb_outcome.specs.Roles.{Wanted, Role}
use Rattle.cb_outcome.specs.Commands.Decode.{decode}
use Rattle.cb_outcome.specs.Command.{reads_of}
use Rattle.cb_report.specs.declared.fault.Fault.TheVariants.{Memory}
use Rattle.cb_report.specs.CertificateTexts.{accepted_text}
use Rattle.cb_log.specs.Basis.{fixed}
use Rattle.cb_outcome.specs.Judged.{Known, network, certified}
use Rattle.cb_outcome.specs.LogJobs.{Watch}
use Rattle.cb_file_kinds.specs.Ending.{Passed, network_files}
use Rattle.cb_file_kinds.proofs.Chain.{err_is, reads_prefix, stops_there, passed_next}
use Rattle.cb_log_commands.proofs.Following.{reads_nothing}
use Rattle.cb_log_commands.proofs.decode.decode.Goals as goal

pub returns-in_err-topology : goal.returns-in_err-topology
returns-in_err-topology g c =
    let names = c.args.names in
    let reads = reads_of (decode names.model names.topology names.book names.log c.args.window) in
    rw (err_is c.from_residual.result c.in_err-topology.field-0.0 c.from_residual.ensures.1)
    (inl (record {
      made = Err c.in_err-topology.field-0.0;
      comes = c.in_err-topology.ensures.stops reads ((Role.certificate Wanted.book, names.book) ∷ []) refl;
      delivers = record { written = Appends-nil (g.O.Sink.tells c.args.out.now).taken; end_is = refl };
    }))

pub returns-in_err-book : goal.returns-in_err-book
returns-in_err-book g c =
    let names = c.args.names in
    let old = g.F.Files.tells c.args.files.now in
    let two = g.F.Files.tells c.read_network.new.files in
    let three = g.F.Files.tells c.read_as.new.files in
    let reads = reads_of (decode names.model names.topology names.book names.log c.args.window) in
    rw (err_is _ _ c.from_residual-in_err-book.ensures.1)
    (inl (record {
      made = Err c.in_err-book.field-0.0;
      comes = stops_there (network_files names.model names.topology) (Role.certificate Wanted.book) names.book (network (topology_of c.in_ok-topology.topology)) old two three
          c.in_ok-topology.ensures.passed c.in_err-book.ensures.only reads [] refl _ _ refl c.in_err-book.ensures.stops;
      delivers = record { written = Appends-nil (g.O.Sink.tells c.args.out.now).taken; end_is = refl };
    }))

pub returns-in_err-session : goal.returns-in_err-session
returns-in_err-session g c =
    let names = c.args.names in
    let old = g.F.Files.tells c.args.files.now in
    let two = g.F.Files.tells c.read_network.new.files in
    let three = g.F.Files.tells c.read_as.new.files in
    let m = names.model in
    let t = names.topology in
    let b = names.book in
    let third = c.in_ok-book.ensures.value in
    let net = network (topology_of c.in_ok-topology.topology) in
    let (known, given, says) = third.says net refl in
    let after = passed_next (network_files m t) (Role.certificate Wanted.book) b net old two three c.in_ok-topology.ensures.passed c.in_ok-book.ensures.only third.text known third.read says in
    let nothing = reads_nothing three names.log in
    rw (err_is c.from_residual-in_err-session.result Memory c.from_residual-in_err-session.ensures.1)
    (inl (record {
      made = Err Memory;
      comes = inl (record {
        is = refl;
        whole = 3;
        read = reads_prefix old three three (m ∷ t ∷ b ∷ []) [] names.log (m ∷ t ∷ b ∷ names.log ∷ []) refl after.read nothing.others nothing.prefix;
      });
      delivers = record { written = Appends-nil (g.O.Sink.tells c.args.out.now).taken; end_is = refl };
    }))

pub session_over-requires-clause-given : goal.session_over-requires-clause-given
session_over-requires-clause-given g c =
    let (known, given, says) = c.in_ok-book.ensures.value.says (network (topology_of c.in_ok-topology.topology)) refl in
    (topology_of c.in_ok-topology.topology, given.0, given.2.given)

pub returns : goal.returns
returns g c =
    let names = c.args.names in
    let old = g.F.Files.tells c.args.files.now in
    let two = g.F.Files.tells c.read_network.new.files in
    let three = g.F.Files.tells c.read_as.new.files in
    let m = names.model in
    let t = names.topology in
    let b = names.book in
    let third = c.in_ok-book.ensures.value in
    let net = network (topology_of c.in_ok-topology.topology) in
    let (known, given, says) = third.says net refl in
    let after = passed_next (network_files m t) (Role.certificate Wanted.book) b net old two three c.in_ok-topology.ensures.passed c.in_ok-book.ensures.only third.text known third.read says in
    let out = g.O.Sink.tells c.args.out.now in
    let from = topology_of c.in_ok-topology.topology in
    let certificate = given.0 in
    let stands = c.in_ok-session.ensures from certificate given.2.given in
    let shows = given.2.line in
    let accepted = shows.accepted in
    let watch : Watch = record { opening = accepted_text accepted; from = from; mode = fixed stands.kept stands.used; window = c.args.window } in
    let passed = subst (λ (k : Known). Passed ((Role.model, m) ∷ (Role.topology, t) ∷ (Role.certificate Wanted.book, b) ∷ []) k old three) given.1 after in
    inr (record {
      range = c.requires;
      known = certified from certificate;
      passed = passed.said;
      watch = watch;
      watches = record { accepted = accepted; shows = shows.shows; kept = stands.kept; used = stands.used; states = stands.states; is = refl };
      name = names.log;
      log = refl;
      now = three;
      read = passed.read;
      counts = passed.counts;
      ends = c.follow_rest-end.ensures watch (record {
        regular = stands.regular;
        mode = stands.mode;
        window = stands.length;
        stands = stands.stands;
        opening_is = c.deref.ensures.value ∙ shows.is;
      });
    })
