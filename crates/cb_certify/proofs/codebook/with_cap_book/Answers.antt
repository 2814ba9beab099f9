use Rattle.cb_model.specs.declared.wish.Wish.TheVariants.{Cap}
use Rattle.cb_topo.specs.Numbered.{topology_of}
use Rattle.cb_certify.proofs.Certified.{cap_choice, canonical_is_book, cap_book_made}
use Rattle.cb_certify.proofs.codebook.with_cap_book.Goals as goal

pub book_over-requires-clause-kept : goal.book_over-requires-clause-kept
book_over-requires-clause-kept c = (Cap c.args.apart.cap, cap_choice (topology_of c.args.topology.now) c.args.apart c.requires.book)

pub capped_from-requires : goal.capped_from-requires
capped_from-requires c =
    let over = c.in_ok-book.ensures in
    canonical_is_book (topology_of c.args.topology.now) over.columns 1 c.in_ok-book.book over.canonical

pub returns : goal.returns
returns c =
    cap_book_made (topology_of c.args.topology.now) c.args.apart c.requires.book c.in_ok-book.book c.capped_from.result c.requires.wanted c.in_ok-book.ensures
    c.capped_from.ensures
