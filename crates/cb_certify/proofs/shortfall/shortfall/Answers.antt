use Rattle.std.proofs.Common.{refl, sym, subst}
use Rattle.std.specs.Prelude.{Option, Some}
use Rattle.cb_model.specs.declared.node.GroupName.TheVariants.{Least}
use Rattle.cb_model.specs.declared.node.NodeName.{NodeName}
use Rattle.cb_validity.specs.Canonical.{IsCanonicalThin}
use Rattle.cb_validity.specs.Codebooks.{AreFirstClose, least_of}
use Rattle.cb_topo.specs.Numbered.{Numbered, topology_of, IsNodeNamed, IsLiveNode}
use Rattle.cb_topo.proofs.Naming.{one_name}
use Rattle.cb_span.specs.Made.{IsSideNamed}
use Rattle.cb_certify.specs.Members.{IsSideLive}
use Rattle.cb_certify.proofs.Named.{side_live, side_called, name_called, one_side}
use Rattle.cb_certify.proofs.shortfall.shortfall.Goals as goal

pub side_name-requires : goal.side_name-requires
side_name-requires g c =
    let p = c.requires.pair in
    subst (λ (n : Numbered). IsSideLive n c.args.close.first) (sym c.topology.ensures)
    (side_live c.args.graph.now p.columns p.groups p.matrix p.pair.first c.args.close.first p.is.first)

pub copy_name-requires : goal.copy_name-requires
copy_name-requires g c =
    let p = c.requires.pair in
    subst (λ (n : Numbered). IsLiveNode n c.args.close.second) (sym c.topology-2.ensures)
    (side_live c.args.graph.now p.columns p.groups p.matrix p.pair.second (Some c.args.close.second) p.is.second)

pub thin-requires-clause-first : goal.thin-requires-clause-first
thin-requires-clause-first g c =
    let p = c.requires.pair in
    side_called c.args.graph.now p.columns p.groups p.matrix p.pair.first c.args.close.first p.is.first

pub thin-requires-clause-second : goal.thin-requires-clause-second
thin-requires-clause-second g c =
    let p = c.requires.pair in
    side_called c.args.graph.now p.columns p.groups p.matrix p.pair.second (Some c.args.close.second) p.is.second

pub returns : goal.returns
returns g c =
    let n = c.args.graph.now in
    let t = topology_of n in
    let p = c.requires.pair in
    let first = c.in_ok-first.first in
    let second = c.in_ok-second.second in
    let wanted = c.args.wanted in
    let distance = c.args.close.distance in
    let one = subst (λ (m : Numbered). IsSideNamed m c.args.close.first (least_of first)) c.topology.ensures c.in_ok-first.ensures in
    let other = subst (λ (m : Numbered). IsNodeNamed m c.args.close.second second) c.topology-2.ensures c.in_ok-second.ensures in
    let made = c.in_ok-certificate.ensures.made in
    let same_first = one_side n c.args.close.first made.one (least_of first) made.one_named one in
    let same_second = one_name n c.args.close.second made.other second made.other_named other in
    let canonical = subst (λ (x : NodeName). IsCanonicalThin t (least_of first) x wanted distance c.in_ok-certificate.certificate) same_second
    (subst (λ (x : Option NodeName). IsCanonicalThin t x made.other wanted distance c.in_ok-certificate.certificate) same_first made.canonical) in
    let close : AreFirstClose t wanted first second distance = record {
      columns = p.columns;
      groups = p.groups;
      matrix = p.matrix;
      pair = p.pair;
      is_first = p.first;
      first_is = name_called n p.columns p.groups p.matrix p.pair.first c.args.close.first first p.is.first one;
      second_is = name_called n p.columns p.groups p.matrix p.pair.second (Some c.args.close.second) (Least second) p.is.second other;
      distance_is = p.is.distance;
    } in
    (refl, record { close = close; canonical = canonical }, made.of_format c.requires.wanted c.requires.far)
