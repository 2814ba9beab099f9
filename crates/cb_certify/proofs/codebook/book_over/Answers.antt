use Rattle.std.proofs.Common.{List, length, ap, subst, arith}
use Rattle.cb_model.specs.declared.node.NodeName.{NodeName}
use Rattle.cb_network.proofs.One.{columns_are_one}
use Rattle.cb_validity.specs.Laws.{HavePlaces}
use Rattle.cb_validity.proofs.Passing.{zip_lengths}
use Rattle.cb_topo.specs.Numbered.{topology_of}
use Rattle.cb_certify.proofs.Named.{columns_stand, named_at, names_are_one}
use Rattle.cb_certify.proofs.codebook.book_over.Goals as goal

pub columns_at-requires : goal.columns_at-requires
columns_at-requires c = λ k d lt.
    let (wish, b) = c.requires.kept in
    let all = c.requires.all in
    let low = b.is.within k d lt in
    let same = columns_are_one (topology_of c.args.topology.now) b.columns all.names b.matrix.columns_are all.are in
    let long = ap length same in
    let count = zip_lengths _ c.args.all.now all.names all.named in
    omega arith

pub book-requires-clause-columns : goal.book-requires-clause-columns
book-requires-clause-columns c =
    let all = c.requires.all in
    let n = c.args.topology.now in
    let (wish, b) = c.requires.kept in
    let places = c.args.kept.now in
    let ids = c.in_ok-columns.columns in
    columns_stand n all.names all.are places b.is.rise ids (named_at n c.args.all.now all.names all.named places ids c.in_ok-columns.ensures)

pub returns : goal.returns
returns c =
    let all = c.requires.all in
    let n = c.args.topology.now in
    let places = c.args.kept.now in
    let ids = c.in_ok-columns.columns in
    let (columns, named, have) = named_at n c.args.all.now all.names all.named places ids c.in_ok-columns.ensures in
    let made = c.in_ok-certificate.ensures.made in
    let same = names_are_one n ids columns made.columns named made.named in
    let placed : HavePlaces all.names made.columns places = subst (λ (ns : List NodeName). HavePlaces all.names ns places) same have in
    record {
      columns = made.columns;
      columns_are = λ wish b.
          let all_same = columns_are_one (topology_of n) all.names b.columns all.are b.matrix.columns_are in
          record {
            all = b.columns;
            groups = b.groups;
            matrix = b.matrix;
            kept = places;
            choice = b.is;
            named = subst (λ (ns : List NodeName). HavePlaces ns made.columns places) all_same placed;
          };
      canonical = made.canonical;
      of_format = made.of_format;
      few = c.in_ok-certificate.ensures.few;
    }
