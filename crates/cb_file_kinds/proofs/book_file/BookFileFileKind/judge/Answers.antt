use Rattle.cb_topo.specs.Numbered.{topology_of}
use Rattle.cb_outcome.specs.Roles.{Wanted}
use Rattle.cb_file_kinds.proofs.Given.{book_said, book_stopped}
use Rattle.cb_file_kinds.proofs.Chain.{err_is}
use Rattle.cb_file_kinds.proofs.book_file.BookFileFileKind.judge.Goals as goal

pub returns-in_err-valid-clause-stops : goal.returns-in_err-valid-clause-stops
returns-in_err-valid-clause-stops g c = rw (err_is _ _ c.from_residual.ensures.1) (c.in_err-valid.ensures.stops Wanted.book)

pub returns-clause-says : goal.returns-clause-says
returns-clause-says g c =
    book_said c.args.name c.args.text.now c.requires (topology_of c.args.self.topology) c.in_ok-valid.valid c.in_ok-valid.ensures.valid c.book_of.result
    c.book_of.ensures.book

pub returns-clause-stops : goal.returns-clause-stops
returns-clause-stops g c =
    book_stopped c.args.name c.args.text.now c.requires (topology_of c.args.self.topology) c.in_ok-valid.valid c.in_ok-valid.ensures.valid c.book_of.result
    c.book_of.ensures.other
