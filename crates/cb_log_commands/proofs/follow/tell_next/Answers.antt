use Rattle.std.proofs.Common.{List, ℕ, ap, subst, Err}
use Rattle.cb_io.specs.declared.whole.ReadStop.{ReadStop}
use Rattle.cb_io.specs.Outside.{WritesAll, WritesPrefix}
use Rattle.cb_log_commands.specs.Stops.{stop_of_read}
use Rattle.cb_log_commands.specs.declared.stop.LogStop.TheVariants as stops
use Rattle.cb_file_kinds.proofs.Chain.{err_is}
use Rattle.cb_log_commands.proofs.Counted.{piece_taken, piece_counted, stops_counting}
use Rattle.cb_log_commands.proofs.Following.{refused, delivered, cut_short}
use Rattle.cb_log_commands.proofs.follow.tell_next.Goals as goal

pub returns-in_err-text-clause-tells : goal.returns-in_err-text-clause-tells
returns-in_err-text-clause-tells g c =
    λ watch now before going.
    rw (err_is c.from_residual.result (stop_of_read c.in_err-text.field-0.0) c.from_residual.ensures.1)
    (refused watch now before c.args.reader.now (g.F.Files.tells c.args.files.now) (g.O.Sink.tells c.args.out.now) c.args.session.now going c.requires
    c.next_piece.new.reader (g.F.Files.tells c.next_piece.new.files) c.next_piece.new.session c.in_err-text.ensures.same c.in_err-text.ensures.only
    c.in_err-text.field-0.0 c.in_err-text.ensures.stops (λ e. c.in_err-text.ensures.failed (ap (λ (x : ReadStop). Err x) e)))

pub returns-in_err-write_all-clause-tells : goal.returns-in_err-write_all-clause-tells
returns-in_err-write_all-clause-tells g c =
    λ watch now before going.
    rw (err_is c.from_residual-in_err-write_all.result stops.WriteFault c.from_residual-in_err-write_all.ensures.1)
    (cut_short watch now before c.args.reader.now (g.F.Files.tells c.args.files.now) (g.O.Sink.tells c.args.out.now) c.args.session.now going c.requires
    c.next_piece.new.reader (g.F.Files.tells c.next_piece.new.files) c.next_piece.new.session c.in_ok-text.ensures.same c.in_ok-text.ensures.only
    c.in_ok-text.text.items c.in_ok-text.ensures.says (g.O.Sink.tells c.write_all.new.sink) c.write_all.ensures.counts c.in_ok-text.ensures.goes_on
    (subst (λ (l : List ℕ). WritesPrefix (g.O.Sink.tells c.args.out.now) (g.O.Sink.tells c.write_all.new.sink) l) c.deref.ensures.value c.write_all.ensures.prefix) c.in_err-write_all.ensures.failed)

pub returns-clause-tells : goal.returns-clause-tells
returns-clause-tells g c =
    λ watch now before going.
    rw c.has_ended.ensures
    (delivered watch now before c.args.reader.now (g.F.Files.tells c.args.files.now) (g.O.Sink.tells c.args.out.now) c.args.session.now going c.requires
    c.next_piece.new.reader (g.F.Files.tells c.next_piece.new.files) c.next_piece.new.session c.in_ok-text.ensures.same c.in_ok-text.ensures.only
    c.in_ok-text.text.items c.in_ok-text.ensures.says (g.O.Sink.tells c.write_all.new.sink) c.write_all.ensures.counts (subst (λ (l : List ℕ). WritesAll (g.O.Sink.tells c.args.out.now) (g.O.Sink.tells c.write_all.new.sink) l) c.deref.ensures.value c.in_ok-write_all.ensures.all))

pub returns-in_err-text-clause-steps : goal.returns-in_err-text-clause-steps
returns-in_err-text-clause-steps g c =
    λ watch now before start going counted.
    piece_taken watch now before c.args.reader.now (g.F.Files.tells c.args.files.now) (g.O.Sink.tells c.args.out.now) c.args.session.now start c.args.steps.now
    going counted c.next_piece.new.steps (g.F.Files.tells c.next_piece.new.files) c.next_piece.ensures.takes

pub returns-in_err-write_all-clause-steps : goal.returns-in_err-write_all-clause-steps
returns-in_err-write_all-clause-steps g c =
    λ watch now before start going counted.
    piece_taken watch now before c.args.reader.now (g.F.Files.tells c.args.files.now) (g.O.Sink.tells c.args.out.now) c.args.session.now start c.args.steps.now
    going counted c.next_piece.new.steps (g.F.Files.tells c.next_piece.new.files) c.next_piece.ensures.takes

pub returns-clause-steps : goal.returns-clause-steps
returns-clause-steps g c =
    λ watch now before start going counted.
    piece_taken watch now before c.args.reader.now (g.F.Files.tells c.args.files.now) (g.O.Sink.tells c.args.out.now) c.args.session.now start c.args.steps.now
    going counted c.next_piece.new.steps (g.F.Files.tells c.next_piece.new.files) c.next_piece.ensures.takes

pub returns-in_err-text-clause-counts : goal.returns-in_err-text-clause-counts
returns-in_err-text-clause-counts g c =
    λ watch now before start going counted.
    stops_counting watch now c.next_piece.new.reader start c.next_piece.new.steps c.from_residual.result (stop_of_read c.in_err-text.field-0.0)
    (err_is c.from_residual.result (stop_of_read c.in_err-text.field-0.0) c.from_residual.ensures.1)

pub returns-in_err-write_all-clause-counts : goal.returns-in_err-write_all-clause-counts
returns-in_err-write_all-clause-counts g c =
    λ watch now before start going counted.
    stops_counting watch now c.next_piece.new.reader start c.next_piece.new.steps c.from_residual-in_err-write_all.result stops.WriteFault
    (err_is c.from_residual-in_err-write_all.result stops.WriteFault c.from_residual-in_err-write_all.ensures.1)

pub returns-clause-counts : goal.returns-clause-counts
returns-clause-counts g c =
    λ watch now before start going counted.
    rw c.has_ended.ensures
    (piece_counted watch now before c.args.reader.now (g.F.Files.tells c.args.files.now) (g.O.Sink.tells c.args.out.now) c.args.session.now start
    c.args.steps.now going counted c.next_piece.new.steps c.next_piece.new.reader c.in_ok-text.ensures.same.name c.in_ok-text.ensures.counts)
