use Rattle.cb_model.specs.declared.wish.Wish.TheVariants.{Plain}
use Rattle.cb_topo.specs.Numbered.{topology_of}
use Rattle.cb_certify.proofs.Certified.{book_made}
use Rattle.cb_certify.proofs.codebook.with_book.Goals as goal

pub book_over-requires-clause-kept : goal.book_over-requires-clause-kept
book_over-requires-clause-kept c = (Plain c.args.apart.now.distance, c.requires.book)

pub returns : goal.returns
returns c =
    book_made (topology_of c.args.topology.now) c.args.apart.now.distance c.args.apart.now.columns c.in_ok-certificate.certificate c.requires.book c.requires.wanted
    c.in_ok-certificate.ensures
