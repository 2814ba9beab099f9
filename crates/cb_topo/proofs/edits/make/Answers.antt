use Rattle.std.proofs.Common.{◌≡◌, subst, sym}
use Rattle.cb_network.specs.declared.edit.Edit.{Edit}
use Rattle.cb_network.specs.Edits.{IsAccepted}
use Rattle.cb_accept.specs.declared.numbered.NumberedEdit.TheVariants as numbered
use Rattle.cb_accept.specs.NumberedEdits.{IsNumberedEdit}
use Rattle.cb_topo.specs.Made.{Makes}
use Rattle.cb_topo.proofs.Numbering.{numbered_delete, linkable, unlinkable, link_is_new, link_makes, unlink_makes, mutable, unmutable, mute_is_new, mute_makes, unmute_makes}
use Rattle.cb_topo.proofs.edits.make.Goals as goal

pub create-requires-clause-numbered : goal.create-requires-clause-numbered
create-requires-clause-numbered c =
    let same : c.args.numbered ≡ numbered.Create c.in-Create.class = cc in
    subst (IsNumberedEdit c.args.net.now c.args.edit.now) same c.requires.numbered

pub delete-requires-clause-live : goal.delete-requires-clause-live
delete-requires-clause-live c =
    let same : c.args.numbered ≡ numbered.Delete c.in-Delete.id = cc in
    let is = subst (IsNumberedEdit c.args.net.now c.args.edit.now) same c.requires.numbered in
    (numbered_delete c.args.net.now c.args.edit.now c.in-Delete.id is).0

pub delete-requires-clause-accepted : goal.delete-requires-clause-accepted
delete-requires-clause-accepted c =
    let same : c.args.numbered ≡ numbered.Delete c.in-Delete.id = cc in
    let is = subst (IsNumberedEdit c.args.net.now c.args.edit.now) same c.requires.numbered in
    let edit = (numbered_delete c.args.net.now c.args.edit.now c.in-Delete.id is).1 in
    subst (IsAccepted c.args.net.now.topology) edit c.requires.accepted

pub returns-in-Delete-clause-ok : goal.returns-in-Delete-clause-ok
returns-in-Delete-clause-ok c =
    let same : c.args.numbered ≡ numbered.Delete c.in-Delete.id = cc in
    let is = subst (IsNumberedEdit c.args.net.now c.args.edit.now) same c.requires.numbered in
    let edit = (numbered_delete c.args.net.now c.args.edit.now c.in-Delete.id is).1 in
    subst (λ (e : Edit). Makes c.args.net.now c.args.nodes.now e c.delete.new.net c.delete.new.nodes c.delete.result) (sym edit) c.delete.ensures

pub link-requires-clause-from : goal.link-requires-clause-from
link-requires-clause-from c =
    let same : c.args.numbered ≡ numbered.Link c.in-Link.from c.in-Link.rel c.in-Link.to = cc in
    let is = subst (IsNumberedEdit c.args.net.now c.args.edit.now) same c.requires.numbered in
    (linkable c.args.net.now c.in-Link.from c.in-Link.rel c.in-Link.to c.args.edit.now is).from

pub link-requires-clause-rel : goal.link-requires-clause-rel
link-requires-clause-rel c =
    let same : c.args.numbered ≡ numbered.Link c.in-Link.from c.in-Link.rel c.in-Link.to = cc in
    let is = subst (IsNumberedEdit c.args.net.now c.args.edit.now) same c.requires.numbered in
    (linkable c.args.net.now c.in-Link.from c.in-Link.rel c.in-Link.to c.args.edit.now is).rel

pub link-requires-clause-to : goal.link-requires-clause-to
link-requires-clause-to c =
    let same : c.args.numbered ≡ numbered.Link c.in-Link.from c.in-Link.rel c.in-Link.to = cc in
    let is = subst (IsNumberedEdit c.args.net.now c.args.edit.now) same c.requires.numbered in
    (linkable c.args.net.now c.in-Link.from c.in-Link.rel c.in-Link.to c.args.edit.now is).to

pub link-requires-clause-absent : goal.link-requires-clause-absent
link-requires-clause-absent c =
    let same : c.args.numbered ≡ numbered.Link c.in-Link.from c.in-Link.rel c.in-Link.to = cc in
    let is = subst (IsNumberedEdit c.args.net.now c.args.edit.now) same c.requires.numbered in
    link_is_new c.args.net.now c.in-Link.from c.in-Link.rel c.in-Link.to c.args.edit.now is c.requires.accepted

pub returns-in_ok-link-in-Link-clause-ok : goal.returns-in_ok-link-in-Link-clause-ok
returns-in_ok-link-in-Link-clause-ok c =
    let same : c.args.numbered ≡ numbered.Link c.in-Link.from c.in-Link.rel c.in-Link.to = cc in
    let is = subst (IsNumberedEdit c.args.net.now c.args.edit.now) same c.requires.numbered in
    link_makes c.args.net.now c.in-Link.from c.in-Link.rel c.in-Link.to c.link.new.self c.args.nodes.now c.args.counts c.requires.kept c.args.edit.now c.requires.name c.requires.accepted is c.in_ok-link-in-Link.ensures.ok

pub unlink-requires-clause-from : goal.unlink-requires-clause-from
unlink-requires-clause-from c =
    let same : c.args.numbered ≡ numbered.Unlink c.in-Unlink.from c.in-Unlink.rel c.in-Unlink.to = cc in
    let is = subst (IsNumberedEdit c.args.net.now c.args.edit.now) same c.requires.numbered in
    (unlinkable c.args.net.now c.in-Unlink.from c.in-Unlink.rel c.in-Unlink.to c.args.edit.now is).from

pub unlink-requires-clause-rel : goal.unlink-requires-clause-rel
unlink-requires-clause-rel c =
    let same : c.args.numbered ≡ numbered.Unlink c.in-Unlink.from c.in-Unlink.rel c.in-Unlink.to = cc in
    let is = subst (IsNumberedEdit c.args.net.now c.args.edit.now) same c.requires.numbered in
    (unlinkable c.args.net.now c.in-Unlink.from c.in-Unlink.rel c.in-Unlink.to c.args.edit.now is).rel

pub unlink-requires-clause-to : goal.unlink-requires-clause-to
unlink-requires-clause-to c =
    let same : c.args.numbered ≡ numbered.Unlink c.in-Unlink.from c.in-Unlink.rel c.in-Unlink.to = cc in
    let is = subst (IsNumberedEdit c.args.net.now c.args.edit.now) same c.requires.numbered in
    (unlinkable c.args.net.now c.in-Unlink.from c.in-Unlink.rel c.in-Unlink.to c.args.edit.now is).to

pub returns-in-Unlink-clause-ok : goal.returns-in-Unlink-clause-ok
returns-in-Unlink-clause-ok c =
    let same : c.args.numbered ≡ numbered.Unlink c.in-Unlink.from c.in-Unlink.rel c.in-Unlink.to = cc in
    let is = subst (IsNumberedEdit c.args.net.now c.args.edit.now) same c.requires.numbered in
    unlink_makes c.args.net.now c.in-Unlink.from c.in-Unlink.rel c.in-Unlink.to c.unlink.new.self c.args.nodes.now c.args.counts c.requires.kept c.args.edit.now c.requires.name c.requires.accepted is c.unlink.ensures

pub mute-requires-clause-live : goal.mute-requires-clause-live
mute-requires-clause-live c =
    let same : c.args.numbered ≡ numbered.Mute c.in-Mute.id c.in-Mute.event = cc in
    let is = subst (IsNumberedEdit c.args.net.now c.args.edit.now) same c.requires.numbered in
    (mutable c.args.net.now c.in-Mute.id c.in-Mute.event c.args.edit.now is).0

pub mute-requires-clause-event : goal.mute-requires-clause-event
mute-requires-clause-event c =
    let same : c.args.numbered ≡ numbered.Mute c.in-Mute.id c.in-Mute.event = cc in
    let is = subst (IsNumberedEdit c.args.net.now c.args.edit.now) same c.requires.numbered in
    (mutable c.args.net.now c.in-Mute.id c.in-Mute.event c.args.edit.now is).1

pub mute-requires-clause-absent : goal.mute-requires-clause-absent
mute-requires-clause-absent c =
    let same : c.args.numbered ≡ numbered.Mute c.in-Mute.id c.in-Mute.event = cc in
    let is = subst (IsNumberedEdit c.args.net.now c.args.edit.now) same c.requires.numbered in
    mute_is_new c.args.net.now c.in-Mute.id c.in-Mute.event c.args.edit.now is c.requires.accepted

pub returns-in-Mute-clause-ok : goal.returns-in-Mute-clause-ok
returns-in-Mute-clause-ok c =
    let same : c.args.numbered ≡ numbered.Mute c.in-Mute.id c.in-Mute.event = cc in
    let is = subst (IsNumberedEdit c.args.net.now c.args.edit.now) same c.requires.numbered in
    mute_makes c.args.net.now c.in-Mute.id c.in-Mute.event c.mute.new.self c.args.nodes.now c.args.counts c.requires.kept c.args.edit.now c.requires.name c.requires.accepted is c.mute.ensures

pub unmute-requires-clause-live : goal.unmute-requires-clause-live
unmute-requires-clause-live c =
    let same : c.args.numbered ≡ numbered.Unmute c.in-Unmute.id c.in-Unmute.event = cc in
    let is = subst (IsNumberedEdit c.args.net.now c.args.edit.now) same c.requires.numbered in
    (unmutable c.args.net.now c.in-Unmute.id c.in-Unmute.event c.args.edit.now is).0

pub unmute-requires-clause-event : goal.unmute-requires-clause-event
unmute-requires-clause-event c =
    let same : c.args.numbered ≡ numbered.Unmute c.in-Unmute.id c.in-Unmute.event = cc in
    let is = subst (IsNumberedEdit c.args.net.now c.args.edit.now) same c.requires.numbered in
    (unmutable c.args.net.now c.in-Unmute.id c.in-Unmute.event c.args.edit.now is).1

pub returns-in-Unmute-clause-ok : goal.returns-in-Unmute-clause-ok
returns-in-Unmute-clause-ok c =
    let same : c.args.numbered ≡ numbered.Unmute c.in-Unmute.id c.in-Unmute.event = cc in
    let is = subst (IsNumberedEdit c.args.net.now c.args.edit.now) same c.requires.numbered in
    unmute_makes c.args.net.now c.in-Unmute.id c.in-Unmute.event c.unmute.new.self c.args.nodes.now c.args.counts c.requires.kept c.args.edit.now c.requires.name c.requires.accepted is c.unmute.ensures
