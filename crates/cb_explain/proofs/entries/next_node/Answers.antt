use Rattle.std.proofs.Common.{◌≡◌, List, length, refl, sym, ap, subst, ◌∙◌, Some, arith}
use Rattle.std.specs.Prelude.{slice_get}
use Rattle.std.proofs.lemmas.Bool.{false≢true}
use Rattle.std.proofs.lemmas.Option.{same_Some, slice_get_read}
use Rattle.cb_model.specs.declared.node.NodeName.{NodeName}
use Rattle.cb_validity.specs.Spans.{StandsFor}
use Rattle.cb_topo.specs.Numbered.{topology_of}
use Rattle.cb_levels.specs.declared.levels.LevelEntry.{LevelEntry}
use Rattle.cb_explain.specs.Checking.{ListsNumber}
use Rattle.cb_explain.proofs.Listing.{live_below, live_node, first_if_new, not_first, one_above}
use Rattle.cb_explain.proofs.entries.next_node.Goals as goal

pub returns-in_default-clause-fault : goal.returns-in_default-clause-fault
returns-in_default-clause-fault c =
    let levels = c.args.levels.now in
    let entry = c.at-entry.result.now in
    let earlier = c.is_earlier.ensures.0 c.if-not-is_earlier.false in
    let size : c.len-position.result ≡ length c.args.listed.now.nodes.items = omega (arith, c.len-position.ensures, c.args.listed.now.nodes.ok.0) in
    let at = subst (λ k. slice_get levels.entries k ≡ Some entry) size c.at-entry.ensures in (
      (entry, at, (earlier.0, omega (arith, earlier.1))),
      λ e node is.
          let same : e ≡ entry = same_Some e entry (sym is.is ∙ at) in
          let stands = subst (λ (x : LevelEntry). StandsFor levels.nodes x.node node) same is.names in
          c.in_default.ensures.none node (subst (λ (ns : List NodeName). StandsFor ns entry.node node) (sym c.as_slice.ensures) stands)
          (live_node (topology_of c.args.topology.now) levels.nodes c.requires.nodes entry.node node stands),
    )

pub returns-in-Some-index-clause-fault : goal.returns-in-Some-index-clause-fault
returns-in-Some-index-clause-fault c =
    let n = c.args.topology.now in
    let levels = c.args.levels.now in
    let listed = c.args.listed.now in
    let entry = c.at-entry.result.now in
    let earlier = c.is_earlier.ensures.0 c.if-not-is_earlier.false in
    let size : c.len-position.result ≡ length c.args.listed.now.nodes.items = omega (arith, c.len-position.ensures, c.args.listed.now.nodes.ok.0) in
    let at = subst (λ k. slice_get levels.entries k ≡ Some entry) size c.at-entry.ensures in
    let node = c.in-Some.node in
    let found = c.in-Some.ensures.found in
    let stands = subst (λ (ns : List NodeName). StandsFor ns entry.node found.0) c.as_slice.ensures found.1 in
    let lists : ListsNumber n levels (length listed.nodes.items) node = record { entry = entry; node = found.0; is = record { is = at; names = stands }; named = found.2 } in
    let capacity = c.requires.listed.capacity in
    let live = live_below n node (found.0, found.2) in
    let there = slice_get_read listed.positions.items (length listed.positions.items) node.0 c.index.result.now refl (omega arith) c.index.ensures ∙ ap Some c.in-Some-index.is in (
      (entry, at, (earlier.0, omega (arith, earlier.1))),
      lists,
      not_first n levels listed c.requires.listed node lists c.in-Some-index.field-0 there,
    )

pub returns-then-not-is_next-clause-fault : goal.returns-then-not-is_next-clause-fault
returns-then-not-is_next-clause-fault c =
    let n = c.args.topology.now in
    let levels = c.args.levels.now in
    let listed = c.args.listed.now in
    let entry = c.at-entry.result.now in
    let earlier = c.is_earlier.ensures.0 c.if-not-is_earlier.false in
    let size : c.len-position.result ≡ length c.args.listed.now.nodes.items = omega (arith, c.len-position.ensures, c.args.listed.now.nodes.ok.0) in
    let at = subst (λ k. slice_get levels.entries k ≡ Some entry) size c.at-entry.ensures in
    let node = c.in-Some.node in
    let found = c.in-Some.ensures.found in
    let stands = subst (λ (ns : List NodeName). StandsFor ns entry.node found.0) c.as_slice.ensures found.1 in
    let lists : ListsNumber n levels (length listed.nodes.items) node = record { entry = entry; node = found.0; is = record { is = at; names = stands }; named = found.2 } in
    let capacity = c.requires.listed.capacity in
    let live = live_below n node (found.0, found.2) in
    let there = slice_get_read listed.positions.items (length listed.positions.items) node.0 c.index.result.now refl (omega arith) c.index.ensures ∙ ap Some c.in_default-index.is in (
      (entry, at, (earlier.0, omega (arith, earlier.1))),
      lists,
      first_if_new n levels listed c.requires.listed node lists there,
      λ is. false≢true (sym c.if-not-is_next.true ∙ c.is_next.ensures.1 (one_above levels (length listed.nodes.items) entry c.at-parent.result.now at c.at-parent.ensures is)),
    )

pub returns-clause-node : goal.returns-clause-node
returns-clause-node c =
    let n = c.args.topology.now in
    let levels = c.args.levels.now in
    let listed = c.args.listed.now in
    let entry = c.at-entry.result.now in
    let earlier = c.is_earlier.ensures.0 c.if-not-is_earlier.false in
    let size : c.len-position.result ≡ length c.args.listed.now.nodes.items = omega (arith, c.len-position.ensures, c.args.listed.now.nodes.ok.0) in
    let at = subst (λ k. slice_get levels.entries k ≡ Some entry) size c.at-entry.ensures in
    let node = c.in-Some.node in
    let found = c.in-Some.ensures.found in
    let stands = subst (λ (ns : List NodeName). StandsFor ns entry.node found.0) c.as_slice.ensures found.1 in
    let capacity = c.requires.listed.capacity in
    let live = live_below n node (found.0, found.2) in
    record {
      lists = record { entry = entry; node = found.0; is = record { is = at; names = stands }; named = found.2 };
      new = slice_get_read listed.positions.items (length listed.positions.items) node.0 c.index.result.now refl (omega arith) c.index.ensures ∙ ap Some c.in_default-index.is;
      parent = (entry, at, (earlier.0, omega (arith, earlier.1)));
      level = (entry, at, (c.at-parent.result.now, c.at-parent.ensures, c.is_next.ensures.0 c.if-not-is_next.false));
    }
