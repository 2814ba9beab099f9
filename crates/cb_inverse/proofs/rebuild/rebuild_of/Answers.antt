use Rattle.std.proofs.Common.{refl}
use Rattle.cb_inverse.proofs.rebuild.rebuild_of.Goals as goal

pub returns-clause-rebuilds : goal.returns-clause-rebuilds
returns-clause-rebuilds c =
    let links = c.in_ok-links.ensures in
    let mutes = c.in_ok-mutes.ensures in
    record {
      create = c.in_ok-create.create;
      creates = c.in_ok-create.ensures;
      links = links.links;
      are_links = links.are;
      link_edits = c.in_ok-links.links.items;
      link = links.make;
      nodes = mutes.nodes;
      are_mutes = mutes.are;
      mute_edits = c.in_ok-mutes.mutes.items;
      mute = mutes.make;
      is = refl;
    }
