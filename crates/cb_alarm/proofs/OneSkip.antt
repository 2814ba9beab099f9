-- A line that spells a record isn't skipped, and one that is skipped is so for one reason.
use Rattle.std.proofs.Common.{◌≡◌, ◌++◌, ℕ, List, [], ◌∷◌, refl, sym, ap, subst, ◌∙◌, inl, inr, true, Option, Some, IsSome, ◌==◌, if◌then◌else◌}
use Rattle.std.specs.Prelude.{codes, is_some}
use Rattle.std.proofs.lemmas.Bool.{cases_order}
use Rattle.serde_json.specs.Data.{object, Members}
use Rattle.serde_json.specs.Find.{get_member}
use Rattle.cb_model.specs.declared.node.NodeName.{NodeName}
use Rattle.cb_network.specs.declared.edit.Edit.{Edit}
use Rattle.cb_edits.specs.Spelled.{SpellsEdit}
use Rattle.cb_log.specs.declared.event.SkipKind.{SkipKind}
use Rattle.cb_log.specs.declared.event.SkipKind.TheVariants.{NotJson, NotObject, BadAt, BadSource, BadBody, BadName, BadEdit}
use Rattle.cb_log.specs.declared.event.SkipWhy.TheVariants.{Bad}
use Rattle.cb_log.specs.declared.record.Body.{Body}
use Rattle.cb_log.specs.declared.record.Body.TheVariants.{Raise, Clear, Change, Tick}
use Rattle.cb_log.specs.declared.record.Record.{Record}
use Rattle.cb_log.specs.Entries.{LogEntry, said, skipped, records_of}
use Rattle.cb_log.specs.declared.event.Event.{Event}
use Rattle.cb_log.specs.Basis.{Mode}
use Rattle.cb_log.specs.Events.{EntriesGive, EndGives}
use Rattle.cb_log.proofs.EventsOne.{entries_give_one, closing_gives_one}
use Rattle.cb_network.specs.Regular.{IsRegular}
use Rattle.cb_network.specs.Topology.{Topology}
use Rattle.cb_alarm.specs.Lines.{NumberedLine, text, long, IsEntryOfText, ComesTo, ComeTo, log_lines, LogGives}
use Rattle.cb_alarm.specs.Skips.{skip_number, IsFaulty, Fails, IsSkipped}
use Rattle.cb_alarm.specs.Spelled.{ReadsObject, time_of, kinds_in, SaysBody, SpellsRecord}
use Rattle.cb_alarm.proofs.OneRecord.{value_is_one, object_is_one, has, has_text, text_is_one, kinds_apart, Apart, record_is_one}

by_number : ℕ → SkipKind
by_number n =
    if n == 1 then NotJson else (if n == 2 then NotObject else (if n == 3 then BadAt else (if n == 4 then BadSource else (if n == 5 then BadBody else (if n == 6 then BadName else BadEdit)))))

found_by_number : (k : SkipKind) → by_number (skip_number k) ≡ k
unfolding by_number
found_by_number NotJson = refl
found_by_number NotObject = refl
found_by_number BadAt = refl
found_by_number BadSource = refl
found_by_number BadBody = refl
found_by_number BadName = refl
found_by_number BadEdit = refl

pub skip_is_one : (line : List ℕ) (j k : SkipKind) → IsSkipped line j → IsSkipped line k → j ≡ k
skip_is_one line j k a b = elim (cases_order (skip_number j) (skip_number k)) [
  | inl e ↦ sym (found_by_number j) ∙ (ap by_number e ∙ found_by_number k)
  | inr (inl below) ↦ absurd (b.1 j below a.0)
  | inr (inr above) ↦ absurd (a.1 k above b.0)
]

pub some_true : {X : Type 0} (o : Option X) → IsSome o → is_some o ≡ true
some_true o h = h

module _ (m : Members) (one : kinds_in m ≡ 1) where
  a : Apart (has m (codes "raise")) (has m (codes "clear")) (has m (codes "edit")) (has m (codes "tick"))
  a = kinds_apart m one

  -- what the body says is the only one of the four
  only_raise : (b : Body) → SaysBody m b → has m (codes "raise") ≡ true → (source : List ℕ) × (node : NodeName) × (b ≡ Raise source node)
  only_raise (Raise s n) p h = (s, n, refl)
  only_raise (Clear s n) p h = absurd (a.ab h (has_text m (codes "clear") p.0.0 p.0.1))
  only_raise (Change e) p h = absurd (a.ac h (has_text m (codes "edit") p.0 p.1))
  only_raise Tick p h = absurd (a.ad h (ap is_some p))

  only_clear : (b : Body) → SaysBody m b → has m (codes "clear") ≡ true → (source : List ℕ) × (node : NodeName) × (b ≡ Clear source node)
  only_clear (Raise s n) p h = absurd (a.ab (has_text m (codes "raise") p.0.0 p.0.1) h)
  only_clear (Clear s n) p h = (s, n, refl)
  only_clear (Change e) p h = absurd (a.bc h (has_text m (codes "edit") p.0 p.1))
  only_clear Tick p h = absurd (a.bd h (ap is_some p))

  only_edit : (b : Body) → SaysBody m b → has m (codes "edit") ≡ true → (edit : Edit) × (b ≡ Change edit)
  only_edit (Raise s n) p h = absurd (a.ac (has_text m (codes "raise") p.0.0 p.0.1) h)
  only_edit (Clear s n) p h = absurd (a.bc (has_text m (codes "clear") p.0.0 p.0.1) h)
  only_edit (Change e) p h = (e, refl)
  only_edit Tick p h = absurd (a.cd h (ap is_some p))

  only_tick : (b : Body) → SaysBody m b → has m (codes "tick") ≡ true → b ≡ Tick
  only_tick (Raise s n) p h = absurd (a.ad (has_text m (codes "raise") p.0.0 p.0.1) h)
  only_tick (Clear s n) p h = absurd (a.bd (has_text m (codes "clear") p.0.0 p.0.1) h)
  only_tick (Change e) p h = absurd (a.cd (has_text m (codes "edit") p.0 p.1) h)
  only_tick Tick p h = refl

  module _ (b : Body) (says : SaysBody m b) where
    at_raise : has m (codes "raise") ≡ true → (source : List ℕ) × (node : NodeName) × SaysBody m (Raise source node)
    at_raise h = let it = only_raise b says h in (it.0, it.1, subst (SaysBody m) it.2 says)

    at_clear : has m (codes "clear") ≡ true → (source : List ℕ) × (node : NodeName) × SaysBody m (Clear source node)
    at_clear h = let it = only_clear b says h in (it.0, it.1, subst (SaysBody m) it.2 says)

    at_edit : has m (codes "edit") ≡ true → (edit : Edit) × SaysBody m (Change edit)
    at_edit h = let it = only_edit b says h in (it.0, subst (SaysBody m) it.1 says)

    no_fault : (at : ℕ) → time_of m ≡ Some at → (kind : SkipKind) → IsFaulty m kind → ⊥
    no_fault at time NotJson f = f
    no_fault at time NotObject f = f
    no_fault at time BadAt f = cc
    no_fault at time BadSource (inl h, none) = let it = at_raise (some_true (get_member (codes "raise") m) h) in none it.0 it.2.1
    no_fault at time BadSource (inr h, none) = let it = at_clear (some_true (get_member (codes "clear") m) h) in none it.0 it.2.1
    no_fault at time BadBody (inl other) = other one
    no_fault at time BadBody (inr (inl (h, none))) = let it = at_raise (some_true (get_member (codes "raise") m) h) in none it.2.0.0 it.2.0.1
    no_fault at time BadBody (inr (inr (inl (h, none)))) = let it = at_clear (some_true (get_member (codes "clear") m) h) in none it.2.0.0 it.2.0.1
    no_fault at time BadBody (inr (inr (inr (inl (h, none))))) = let it = at_edit (some_true (get_member (codes "edit") m) h) in none it.1.0 it.1.1
    no_fault at time BadBody (inr (inr (inr (inr (h, ne))))) =
        ne (subst (SaysBody m) (only_tick b says (some_true (get_member (codes "tick") m) h)) says)
    no_fault at time BadName (inl (s, is, none)) = let it = at_raise (has_text m (codes "raise") s is) in none it.1 it.2.0
    no_fault at time BadName (inr (s, is, none)) = let it = at_clear (has_text m (codes "clear") s is) in none it.1 it.2.0
    no_fault at time BadEdit (s, is, none) =
        let it = at_edit (has_text m (codes "edit") s is) in
        none it.0 (subst (λ (u : List ℕ). SpellsEdit u it.0) (text_is_one m (codes "edit") it.1.0 s it.1.1 is) it.1.2)

module _ (line : List ℕ) (r : Record) (spells : SpellsRecord line r) where
  at_fault : (n : Members) → ReadsObject line n → (kind : SkipKind) → IsFaulty n kind → ⊥
  at_fault n reads kind f =
      let same : n ≡ spells.members = object_is_one line n spells.members reads spells.reads in
      no_fault spells.members spells.one r.body spells.body r.at spells.at kind (subst (λ (k : Members). IsFaulty k kind) same f)

  pub spelled_passes : (kind : SkipKind) → Fails line kind → ⊥
  spelled_passes NotJson f = f (object spells.members) spells.reads
  spelled_passes NotObject (v, reads, ne) = ne spells.members (value_is_one line v (object spells.members) reads spells.reads)
  spelled_passes BadAt (n, reads, f) = at_fault n reads BadAt f
  spelled_passes BadSource (n, reads, f) = at_fault n reads BadSource f
  spelled_passes BadBody (n, reads, f) = at_fault n reads BadBody f
  spelled_passes BadName (n, reads, f) = at_fault n reads BadName f
  spelled_passes BadEdit (n, reads, f) = at_fault n reads BadEdit f

taken_is_one : (number : ℕ) (bytes : List ℕ) (x y : LogEntry) → IsEntryOfText number bytes x → IsEntryOfText number bytes y → x ≡ y
taken_is_one number bytes x y (inl (r, p, e)) (inl (s, q, f)) = e ∙ (ap (said number) (record_is_one bytes r s p q) ∙ sym f)
taken_is_one number bytes x y (inl (r, p, e)) (inr (k, q, f)) = absurd (spelled_passes bytes r p k q.0)
taken_is_one number bytes x y (inr (k, q, f)) (inl (r, p, e)) = absurd (spelled_passes bytes r p k q.0)
taken_is_one number bytes x y (inr (j, p, e)) (inr (k, q, f)) = e ∙ (ap (λ (w : SkipKind). skipped number (Bad w)) (skip_is_one bytes j k p q) ∙ sym f)

pub comes_to_one : (line : NumberedLine) (x y : LogEntry) → ComesTo line x → ComesTo line y → x ≡ y
comes_to_one (long number) x y p q = p ∙ sym q
comes_to_one (text number bytes) x y (inl p) (inl q) = p.1 ∙ sym q.1
comes_to_one (text number bytes) x y (inl p) (inr q) = absurd (q.0 p.0)
comes_to_one (text number bytes) x y (inr p) (inl q) = absurd (p.0 q.0)
comes_to_one (text number bytes) x y (inr p) (inr q) = taken_is_one number bytes x y p.1 q.1

pub come_to_one : (lines : List NumberedLine) (xs ys : List LogEntry) → ComeTo lines xs → ComeTo lines ys → xs ≡ ys
come_to_one [] [] [] p q = refl
come_to_one [] [] (y ∷ ys) p q = absurd q
come_to_one [] (x ∷ xs) ys p q = absurd p
come_to_one (line ∷ lines) [] ys p q = absurd p
come_to_one (line ∷ lines) (x ∷ xs) [] p q = absurd q
come_to_one (line ∷ lines) (x ∷ xs) (y ∷ ys) p q =
    let first : x ≡ y = comes_to_one line x y p.0 q.0 in
    let rest : xs ≡ ys = come_to_one lines xs ys p.1 q.1 in
    cc

pub log_gives_one : (t : Topology) (mode : Mode) (w : ℕ) (log : List ℕ) (xs ys : List Event) → IsRegular t.model → LogGives t mode w log xs → LogGives t mode w log ys → xs ≡ ys
log_gives_one t mode w log xs ys regular a b =
    let entries : b.entries ≡ a.entries = come_to_one (log_lines log) b.entries a.entries b.come a.come in
    let body_b : EntriesGive t mode w [] a.entries b.body = subst (λ (es : List LogEntry). EntriesGive t mode w [] es b.body) entries b.body_is in
    let ends_b : EndGives t mode w (records_of a.entries) b.ends = subst (λ (es : List LogEntry). EndGives t mode w (records_of es) b.ends) entries b.ends_are in
    let body : a.body ≡ b.body = entries_give_one t regular mode w [] a.entries a.body b.body a.body_is body_b in
    let ends : a.ends ≡ b.ends = closing_gives_one t regular mode w (records_of a.entries) [] a.ends b.ends a.ends_are ends_b in
    a.events_are ∙ ((λ i. body i ++ ends i) ∙ sym b.events_are)
