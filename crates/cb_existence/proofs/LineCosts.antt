-- The edits in the lines of a log have a cost.
use Rattle.std.proofs.Common.{◌≡◌, ◌⊎◌, ℕ, List, [], ◌∷◌, subst, inl, inr}
use Rattle.std.specs.List.{Contains}
use Rattle.cb_model.proofs.Rising.{contains_cases, nothing_in_empty}
use Rattle.cb_network.specs.declared.edit.Edit.{Edit}
use Rattle.cb_network.specs.declared.edit.Edit.TheVariants.{Create, Delete, Link, Unlink, Mute, Unmute}
use Rattle.cb_network.specs.Laws.{HasGoodName}
use Rattle.cb_network.specs.Regular.{IsRegular}
use Rattle.cb_network.specs.Sound.{Sound}
use Rattle.cb_network.specs.Topology.{Topology}
use Rattle.cb_change.specs.InTurn.{IsCostInTurn}
use Rattle.cb_edits.specs.Spelled.{EditHasNames}
use Rattle.cb_log.specs.declared.record.Body.{Body}
use Rattle.cb_log.specs.declared.record.Body.TheVariants.{Raise, Clear, Change, Tick}
use Rattle.cb_log.specs.declared.record.Record.{Record}
use Rattle.cb_log.specs.Entries.{LogEntry, said, skipped, blank, records_of}
use Rattle.cb_log.specs.Network.{then_edits, edits_of}
use Rattle.cb_alarm.specs.Lines.{NumberedLine, text, long, ComesTo, ComeTo}
use Rattle.cb_alarm.specs.Spelled.{SaysBody, SpellsRecord}
use Rattle.serde_json.specs.Data.{Members}
use Rattle.cb_existence.proofs.Costs.{cost_in_turn_exists}
use Rattle.cb_existence.proofs.LineEntries.{lines_come}

good_named : (edit : Edit) → EditHasNames edit → HasGoodName edit
good_named (Create name class) names = names.0
good_named (Delete name) names = tt
good_named (Link a rel b) names = tt
good_named (Unlink a rel b) names = tt
good_named (Mute event name) names = tt
good_named (Unmute event name) names = tt

-- a line that gives a record spells it
spelled_by : (line : NumberedLine) (n : ℕ) (r : Record) → ComesTo line (said n r) → (bytes : List ℕ) × SpellsRecord bytes r
spelled_by (long m) n r comes = absurd (cc)
spelled_by (text m bytes) n r (inl none) = let e = none.1 in absurd (cc)
spelled_by (text m bytes) n r (inr (some, inl (s, spells, e))) = (bytes, subst (λ (q : Record). SpellsRecord bytes q) (let f : s ≡ r = cc in f) spells)
spelled_by (text m bytes) n r (inr (some, inr (kind, is, e))) = absurd (cc)

-- the edit that an object says has a good name
said_well : (ms : Members) (body : Body) (later : List Edit) → SaysBody ms body → (edit : Edit) → Contains (then_edits body later) edit
    → HasGoodName edit ⊎ Contains later edit
said_well ms (Raise source node) later says edit has = inr has
said_well ms (Clear source node) later says edit has = inr has
said_well ms Tick later says edit has = inr has
said_well ms (Change e) later (s, says, is) edit has = elim (contains_cases e later edit has) [
  | inl same ↦ inl (subst HasGoodName same (good_named e is.names))
  | inr in_later ↦ inr in_later
]

good_lines : (lines : List NumberedLine) (entries : List LogEntry) → ComeTo lines entries → (edit : Edit) → Contains (edits_of (records_of entries)) edit
    → HasGoodName edit
good_lines [] [] come edit has = absurd (nothing_in_empty edit has)
good_lines [] (entry ∷ entries) come edit has = absurd come
good_lines (line ∷ lines) [] come edit has = absurd (nothing_in_empty edit has)
good_lines (line ∷ lines) (said n r ∷ entries) (here, there) edit has =
    let (bytes, spells) = spelled_by line n r here in
    elim (said_well spells.members r.body (edits_of (records_of entries)) spells.body edit has) [
      | inl good ↦ good
      | inr later ↦ good_lines lines entries there edit later
    ]
good_lines (line ∷ lines) (skipped n why ∷ entries) (here, there) edit has = good_lines lines entries there edit has
good_lines (line ∷ lines) (blank ∷ entries) (here, there) edit has = good_lines lines entries there edit has

pub lines_cost : (t : Topology) (lines : List NumberedLine) → IsRegular t.model → Sound t
    → (cost : ℕ) × (entries : List LogEntry) × ComeTo lines entries × IsCostInTurn t (edits_of (records_of entries)) cost
lines_cost t lines regular sound =
    let (entries, come) = lines_come lines in
    let (cost, is) = cost_in_turn_exists t (edits_of (records_of entries)) regular sound (good_lines lines entries come) in
    (cost, entries, come, is)
