use Rattle.std.proofs.lemmas.Result.{err_from_is_err_and}
use Rattle.cb_io.specs.LineReading.{Reading}
use Rattle.cb_io.proofs.LineReadingLemmas.{says_line, says_stop, advances_line}
use Rattle.cb_io.proofs.line_reader.LineReader.next_line.Goals as goal

pub returns-clause-says : goal.returns-clause-says
returns-clause-says g c =
    rw (← c.self.view_is) (says_line _ c.find_end.new.hand (g.F.Files.tells c.args.files.now) (g.F.Files.tells c.find_end.new.files) c.in_ok-end.end
    c.in_ok-end.ensures.found c.self.invariant.1 c.take_line.new.self c.take_line.result c.take_line.ensures)

pub returns-clause-advances : goal.returns-clause-advances
returns-clause-advances g c =
    let inside = c.self.inside in
    let old : Reading = record {
      name = inside.name.now;
      line_most = inside.line_most;
      total_most = inside.total_most;
      number = inside.number;
      given = inside.given;
      text = inside.hand.text;
      kept = inside.hand.kept;
      ended = inside.ended;
      refused = inside.refused;
    } in
    rw (← c.self.view_is) (advances_line old c.find_end.new.hand (g.F.Files.tells c.args.files.now) (g.F.Files.tells c.find_end.new.files) c.in_ok-end.end
    c.in_ok-end.ensures.found c.self.invariant.1 c.take_line.new.self c.take_line.result c.take_line.ensures)

pub returns-in_err-end-clause-says : goal.returns-in_err-end-clause-says
returns-in_err-end-clause-says g c =
    let p = err_from_is_err_and c.from_residual.result c.from_residual.ensures.1 in
    rw (← c.self.view_is, p.1, p.2) (says_stop _ c.args.self.now (g.F.Files.tells c.args.files.now) (g.F.Files.tells c.find_end.new.files) c.self.invariant.1 c.in_err-end.field-0.0 c.in_err-end.ensures.stopped)

pub returns-clause-in_hand : goal.returns-clause-in_hand
returns-clause-in_hand g c = rw (← c.self.view_is) c.in_ok-end.ensures.in_hand

pub returns-in_err-end-clause-in_hand : goal.returns-in_err-end-clause-in_hand
returns-in_err-end-clause-in_hand g c = rw (← c.self.view_is) c.in_err-end.ensures.in_hand
