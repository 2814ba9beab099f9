-- What is reported of a source doesn't hang on what other sources say.
use Rattle.std.proofs.Common.{◌≡◌, ℕ, List, [], ◌∷◌, refl, sym, subst, append-nil}
use Rattle.cb_network.specs.Regular.{IsRegular}
use Rattle.cb_network.specs.Topology.{Topology}
use Rattle.cb_log.specs.declared.event.Event.{Event}
use Rattle.cb_log.specs.declared.record.Record.{Record}
use Rattle.cb_log.specs.Basis.{Mode}
use Rattle.cb_log.specs.Entries.{LogEntry, records_of}
use Rattle.cb_log.specs.Events.{EntryGives, EndGives}
use Rattle.cb_log.specs.Sources.{quiet_entry, quieted}
use Rattle.cb_log.proofs.Independent.{entries_same, end_same, records_quiet}
use Rattle.cb_alarm.specs.Lines.{NumberedLine, ComesTo, ComeTo}
use Rattle.cb_alarm.specs.Quiet.{AreQuieted}
use Rattle.cb_alarm.proofs.OneSkip.{comes_to_one, come_to_one}
use Rattle.cb_alarm.proofs.QuietLines.{quieted_comes}
use Rattle.cb_session.specs.Sources.{QuietLog, StandsAlone, EndsAlone}

-- quieted lines come to the quieted entries
quieted_come : (source : List ℕ) (lines : List NumberedLine) (entries : List LogEntry) (quiet : List NumberedLine) → ComeTo lines entries → AreQuieted source lines quiet
    → ComeTo quiet (quieted source entries)
quieted_come source [] [] [] come are = tt
quieted_come source [] [] (q ∷ qs) come are = absurd are
quieted_come source [] (e ∷ es) quiet come are = absurd come
quieted_come source (l ∷ ls) [] quiet come are = absurd come
quieted_come source (l ∷ ls) (e ∷ es) [] come are = absurd are
quieted_come source (l ∷ ls) (e ∷ es) (q ∷ qs) come are = (quieted_comes source l q e come.0 are.0, quieted_come source ls es qs come.1 are.1)

-- and to nothing else
quiet_entries : (source : List ℕ) (lines : List NumberedLine) (entries : List LogEntry) → ComeTo lines entries → (log : QuietLog source lines)
    → log.entries ≡ quieted source entries
quiet_entries source lines entries come log =
    come_to_one log.quiet log.entries (quieted source entries) log.come (quieted_come source lines entries log.quiet come log.are_quieted)

module _ (t : Topology) (mode : Mode) (w : ℕ) (lines : List NumberedLine) (before : List LogEntry) (come : ComeTo lines before) (regular : IsRegular t.model) where
  pub stands_alone : (line : NumberedLine) (entry : LogEntry) → ComesTo line entry → (events : List Event) → EntryGives t mode w (records_of before) entry events
      → StandsAlone t mode w lines line events
  stands_alone line entry comes events gives = λ source alone q.
      let same = quiet_entries source lines before come q.log in
      let one : q.entry ≡ quiet_entry source entry =
      comes_to_one q.quiet q.entry (quiet_entry source entry) q.comes (quieted_comes source line q.quiet entry comes q.is_quieted) in
      let alone_gives = subst (λ (es : List LogEntry). EntryGives t mode w (records_of es) (quiet_entry source entry) alone) same
      (subst (λ (e : LogEntry). EntryGives t mode w (records_of q.log.entries) e alone) one q.gives) in
      entries_same source t regular mode w before (entry ∷ []) events alone (events, [], gives, refl, sym (append-nil events))
      (alone, [], alone_gives, refl, sym (append-nil alone))

  pub ends_alone : (events : List Event) → EndGives t mode w (records_of before) events → EndsAlone t mode w lines events
  ends_alone events gives = λ source alone q.
      let here = subst (λ (es : List LogEntry). EndGives t mode w (records_of es) alone) (quiet_entries source lines before come q.log) q.gives in
      end_same source t regular mode w (records_of before) events alone gives
      (subst (λ (rs : List Record). EndGives t mode w rs alone) (records_quiet source t regular mode w before) here)
