-- The topology that files give is sound.
use Rattle.std.proofs.Common.{◌≡◌, ℕ, List, [], ◌∷◌, sym, subst, inl, inr, Ok}
use Rattle.cb_text.specs.Lines.{lines_of}
use Rattle.cb_grammar.specs.declared.tree.Tree.{Tree}
use Rattle.cb_network.specs.Regular.{IsRegular}
use Rattle.cb_network.specs.Sound.{Sound}
use Rattle.cb_network.specs.Topology.{Topology, empty_topology}
use Rattle.cb_network.proofs.Accepted.{empty_is_sound, edit_keeps_sound, regular_stays}
use Rattle.cb_line_files.specs.Topologies.{LineMakes, LinesMake}
use Rattle.cb_line_files.proofs.Made.{good_name}
use Rattle.cb_outcome.specs.Judged.{File, Known, nothing, parsed, network, raised, certified, levelled, scripted, Means, PassFrom}
use Rattle.cb_outcome.specs.Laws.{HasSoundTopology, PassedAreSound}
use Rattle.cb_outcome.specs.Roles.{Role}
use Rattle.cb_outcome.specs.Texts.{IsTreeText, IsTopologyText}
use Rattle.cb_outcome.proofs.Once.{IsSound, regular, says_sound}

abbrev IsWell : Topology → Type 0
IsWell t = Sound t × IsRegular t.model

-- a line leaves it so
line_keeps : (t : Topology) (line : List ℕ) (u : Topology) → LineMakes t line u → IsWell t → IsWell u
line_keeps t line u (inl (ignored, same)) well = subst IsWell same well
line_keeps t line u (inr (edit, spells, after)) (sound, is_regular) =
    (edit_keeps_sound t u edit is_regular (good_name edit spells.names) sound after, regular_stays t edit (Ok u) is_regular after)

-- and all lines do
lines_keep : (t : Topology) (lines : List (List ℕ)) (u : Topology) → LinesMake t lines u → IsWell t → IsWell u
lines_keep t [] u same well = subst IsWell same well
lines_keep t (line ∷ lines) u (next, here, later) well = lines_keep next lines u later (line_keeps t line next here well)

topology_is_well : (model_text : List ℕ) (tree : Tree) → IsTreeText model_text tree → (text : List ℕ) (t : Topology) → IsTopologyText tree text t → IsWell t
topology_is_well model_text tree is text t made =
    lines_keep (empty_topology made.tables) (lines_of text) t made.makes.makes (empty_is_sound made.tables, regular model_text tree is made.tables made.stands)

-- what a file means is so, after what is
means_well : (role : Role) (known : Known) (text : List ℕ) (next : Known) → IsSound known → HasSoundTopology known → Means role known text next
    → HasSoundTopology next
means_well Role.model nothing text next sound well (t, is, e) = subst HasSoundTopology (sym e) tt
means_well Role.topology (parsed tree) text next (from, says) well (t, is, e) = subst HasSoundTopology (sym e) (topology_is_well from tree says text t is)
means_well Role.symptoms (network t) text next sound well (xs, is, e) = subst HasSoundTopology (sym e) well
means_well (Role.certificate wanted) (network t) text next sound well (c, is, kind, e) = subst HasSoundTopology (sym e) well
means_well Role.levels (network t) text next sound well (levels, is, e) = subst HasSoundTopology (sym e) well
means_well Role.script (network t) text next sound well (script, is, e) = subst HasSoundTopology (sym e) well
means_well role known text next sound well p = absurd p

pass_well : (known : Known) (files : List File) (last : Known) → IsSound known → HasSoundTopology known → PassFrom known files last → HasSoundTopology last
pass_well known [] last sound well same = subst HasSoundTopology same well
pass_well known (file ∷ files) last sound well (next, says, pass) =
    pass_well next files last (says_sound known file next sound says) (means_well file.role known file.text next sound well says.means) pass

pub passed_are_sound : PassedAreSound
passed_are_sound files known pass = pass_well nothing files known tt tt pass
