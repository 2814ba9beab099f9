-- Which fault of an object is the first, and how one that was found is passed on.
use Rattle.std.proofs.Common.{◌≡◌, ◌≢◌, ◌<◌, ℕ, List, sym, subst, inl, inr, arith, true, Some, None, Ok, Err, Result}
use Rattle.std.specs.Prelude.{codes, IsErrAnd}
use Rattle.serde_json.specs.Data.{Data, object, boolean, Members}
use Rattle.serde_json.specs.Find.{get_member}
use Rattle.cb_log.specs.declared.event.SkipKind.{SkipKind}
use Rattle.cb_log.specs.declared.event.SkipKind.TheVariants.{NotJson, NotObject, BadAt, BadSource, BadBody, BadName, BadEdit}
use Rattle.cb_alarm.specs.declared.skip.Skip.{Skip}
use Rattle.cb_alarm.specs.declared.skip.Skip.TheVariants.{Bad, NoMemory}
use Rattle.cb_alarm.specs.Faults.{OnBad, OnSkip, HasSource, IsAlarmFault, IsEditFault, IsFirstFault, IsValueFault}
use Rattle.cb_alarm.specs.Skips.{skip_number, HasKey, IsFaulty, Fails, IsSkipped}
use Rattle.cb_alarm.specs.Spelled.{ReadsJson, ReadsObject, time_of, kinds_in}
use Rattle.cb_alarm.proofs.OneRecord.{value_is_one, object_is_one, has, has_text, kinds_apart, Apart}
use Rattle.cb_alarm.proofs.OneSkip.{some_true}

-- a skip that is passed on
module _ {X : Type 0} (P Q : SkipKind → Type 0) (to : (kind : SkipKind) → P kind → Q kind) where
  pub passed_on : (result : Result X Skip) (skip : Skip) → IsErrAnd result (λ s. s ≡ skip) → OnBad skip P → OnSkip result Q
  passed_on (Ok y) skip is on = absurd is
  passed_on (Err NoMemory) skip is on = tt
  passed_on (Err (Bad kind)) skip is on = to kind (subst (λ (s : Skip). OnBad s P) (sym is) on)

  pub skipped_so : (result : Result X Skip) → OnSkip result P → OnSkip result Q
  skipped_so (Ok y) on = tt
  skipped_so (Err NoMemory) on = tt
  skipped_so (Err (Bad kind)) on = to kind on

module _ (ms : Members) (time : time_of ms ≢ None) where
  first_source : IsFaulty ms BadSource → IsFirstFault ms BadSource
  first_source fault = (fault, before)
    where
      before : (other : SkipKind) → skip_number other < skip_number BadSource → ¬ IsFaulty ms other
      before NotJson lt f = f
      before NotObject lt f = f
      before BadAt lt f = time f
      before BadSource lt f = absurd (omega arith)
      before BadBody lt f = absurd (omega arith)
      before BadName lt f = absurd (omega arith)
      before BadEdit lt f = absurd (omega arith)

  pub first_body : (¬ IsFaulty ms BadSource) → IsFaulty ms BadBody → IsFirstFault ms BadBody
  first_body source fault = (fault, before)
    where
      before : (other : SkipKind) → skip_number other < skip_number BadBody → ¬ IsFaulty ms other
      before NotJson lt f = f
      before NotObject lt f = f
      before BadAt lt f = time f
      before BadSource lt f = source f
      before BadBody lt f = absurd (omega arith)
      before BadName lt f = absurd (omega arith)
      before BadEdit lt f = absurd (omega arith)

  first_name : (¬ IsFaulty ms BadSource) → (¬ IsFaulty ms BadBody) → IsFaulty ms BadName → IsFirstFault ms BadName
  first_name source body fault = (fault, before)
    where
      before : (other : SkipKind) → skip_number other < skip_number BadName → ¬ IsFaulty ms other
      before NotJson lt f = f
      before NotObject lt f = f
      before BadAt lt f = time f
      before BadSource lt f = source f
      before BadBody lt f = body f
      before BadName lt f = absurd (omega arith)
      before BadEdit lt f = absurd (omega arith)

  first_edit : (¬ IsFaulty ms BadSource) → (¬ IsFaulty ms BadBody) → (¬ IsFaulty ms BadName) → IsFaulty ms BadEdit → IsFirstFault ms BadEdit
  first_edit source body name fault = (fault, before)
    where
      before : (other : SkipKind) → skip_number other < skip_number BadEdit → ¬ IsFaulty ms other
      before NotJson lt f = f
      before NotObject lt f = f
      before BadAt lt f = time f
      before BadSource lt f = source f
      before BadBody lt f = body f
      before BadName lt f = name f
      before BadEdit lt f = absurd (omega arith)

  some_source : HasSource ms → ¬ IsFaulty ms BadSource
  some_source source fault = fault.1 source.0 source.1

  module _ (one : kinds_in ms ≡ 1) where
    apart : Apart (has ms (codes "raise")) (has ms (codes "clear")) (has ms (codes "edit")) (has ms (codes "tick"))
    apart = kinds_apart ms one

    is_there : (name : List ℕ) → HasKey ms name → has ms name ≡ true
    is_there name h = some_true (get_member name ms) h

    -- the faults of an object that raises, clears, edits or ticks and does nothing else

    pub raise_faults : HasKey ms (codes "raise") → (kind : SkipKind) → IsAlarmFault ms (codes "raise") kind → IsFirstFault ms kind
    raise_faults h NotJson f = absurd f
    raise_faults h NotObject f = absurd f
    raise_faults h BadAt f = absurd f
    raise_faults h BadSource f = first_source (inl h, f)
    raise_faults h BadBody (source, none) = first_body (some_source source) (inr (inl (h, none)))
    raise_faults h BadName (source, (text, says, none)) = first_name (some_source source) body (inl (text, says, none))
      where
        body : ¬ IsFaulty ms BadBody
        body (inl ne) = ne one
        body (inr (inl (_, lacks))) = lacks text says
        body (inr (inr (inl (c, _)))) = apart.ab (is_there (codes "raise") h) (is_there (codes "clear") c)
        body (inr (inr (inr (inl (e, _))))) = apart.ac (is_there (codes "raise") h) (is_there (codes "edit") e)
        body (inr (inr (inr (inr (t, _))))) = apart.ad (is_there (codes "raise") h) (is_there (codes "tick") t)
    raise_faults h BadEdit f = absurd f

    pub clear_faults : HasKey ms (codes "clear") → (kind : SkipKind) → IsAlarmFault ms (codes "clear") kind → IsFirstFault ms kind
    clear_faults h NotJson f = absurd f
    clear_faults h NotObject f = absurd f
    clear_faults h BadAt f = absurd f
    clear_faults h BadSource f = first_source (inr h, f)
    clear_faults h BadBody (source, none) = first_body (some_source source) (inr (inr (inl (h, none))))
    clear_faults h BadName (source, (text, says, none)) = first_name (some_source source) body (inr (text, says, none))
      where
        body : ¬ IsFaulty ms BadBody
        body (inl ne) = ne one
        body (inr (inl (r, _))) = apart.ab (is_there (codes "raise") r) (is_there (codes "clear") h)
        body (inr (inr (inl (_, lacks)))) = lacks text says
        body (inr (inr (inr (inl (e, _))))) = apart.bc (is_there (codes "clear") h) (is_there (codes "edit") e)
        body (inr (inr (inr (inr (t, _))))) = apart.bd (is_there (codes "clear") h) (is_there (codes "tick") t)
    clear_faults h BadEdit f = absurd f

    pub edit_faults : HasKey ms (codes "edit") → (kind : SkipKind) → IsEditFault ms kind → IsFirstFault ms kind
    edit_faults h NotJson f = absurd f
    edit_faults h NotObject f = absurd f
    edit_faults h BadAt f = absurd f
    edit_faults h BadSource f = absurd f
    edit_faults h BadBody f = first_body source (inr (inr (inr (inl (h, f)))))
      where
        source : ¬ IsFaulty ms BadSource
        source (inl r, _) = apart.ac (is_there (codes "raise") r) (is_there (codes "edit") h)
        source (inr c, _) = apart.bc (is_there (codes "clear") c) (is_there (codes "edit") h)
    edit_faults h BadName f = absurd f
    edit_faults h BadEdit (text, says, none) = first_edit source body name (text, says, none)
      where
        source : ¬ IsFaulty ms BadSource
        source (inl r, _) = apart.ac (is_there (codes "raise") r) (is_there (codes "edit") h)
        source (inr c, _) = apart.bc (is_there (codes "clear") c) (is_there (codes "edit") h)

        body : ¬ IsFaulty ms BadBody
        body (inl ne) = ne one
        body (inr (inl (r, _))) = apart.ac (is_there (codes "raise") r) (is_there (codes "edit") h)
        body (inr (inr (inl (c, _)))) = apart.bc (is_there (codes "clear") c) (is_there (codes "edit") h)
        body (inr (inr (inr (inl (_, lacks))))) = lacks text says
        body (inr (inr (inr (inr (t, _))))) = apart.cd (is_there (codes "edit") h) (is_there (codes "tick") t)

        name : ¬ IsFaulty ms BadName
        name (inl (s, is, _)) = apart.ac (has_text ms (codes "raise") s is) (is_there (codes "edit") h)
        name (inr (s, is, _)) = apart.bc (has_text ms (codes "clear") s is) (is_there (codes "edit") h)

    pub tick_fault : HasKey ms (codes "tick") → get_member (codes "tick") ms ≢ Some (boolean true) → IsFirstFault ms BadBody
    tick_fault h ne = first_body source (inr (inr (inr (inr (h, ne)))))
      where
        source : ¬ IsFaulty ms BadSource
        source (inl r, _) = apart.ad (is_there (codes "raise") r) (is_there (codes "tick") h)
        source (inr c, _) = apart.bd (is_there (codes "clear") c) (is_there (codes "tick") h)

-- what is wrong with the value that a line reads as is why the line is skipped
module _ (line : List ℕ) (value : Data) (reads : ReadsJson line value) where
  members_are : (ms n : Members) → value ≡ object ms → ReadsObject line n → n ≡ ms
  members_are ms n is other = object_is_one line n ms other (subst (ReadsJson line) is reads)

  object_skipped : (ms : Members) → value ≡ object ms → (kind : SkipKind) → IsFirstFault ms kind
      → (IsFaulty ms kind → Fails line kind) → IsSkipped line kind
  object_skipped ms is kind first fails = (fails first.0, before)
    where
      in_object : (other : SkipKind) → skip_number other < skip_number kind → (n : Members) → ReadsObject line n → ¬ IsFaulty n other
      in_object other lt n reading fault = first.1 other lt (subst (λ (m : Members). IsFaulty m other) (members_are ms n is reading) fault)

      before : (other : SkipKind) → skip_number other < skip_number kind → ¬ Fails line other
      before NotJson lt f = f value reads
      before NotObject lt (v, reading, ne) = ne ms (subst (λ (d : Data). v ≡ d) is (value_is_one line v value reading reads))
      before BadAt lt (n, reading, f) = in_object BadAt lt n reading f
      before BadSource lt (n, reading, f) = in_object BadSource lt n reading f
      before BadBody lt (n, reading, f) = in_object BadBody lt n reading f
      before BadName lt (n, reading, f) = in_object BadName lt n reading f
      before BadEdit lt (n, reading, f) = in_object BadEdit lt n reading f

  pub value_skipped : (kind : SkipKind) → IsValueFault value kind → IsSkipped line kind
  value_skipped NotJson (ms, is, first) = absurd first.0
  value_skipped NotObject none = ((value, reads, none), before)
    where
      before : (other : SkipKind) → skip_number other < skip_number NotObject → ¬ Fails line other
      before NotJson lt f = f value reads
      before NotObject lt f = absurd (omega arith)
      before BadAt lt f = absurd (omega arith)
      before BadSource lt f = absurd (omega arith)
      before BadBody lt f = absurd (omega arith)
      before BadName lt f = absurd (omega arith)
      before BadEdit lt f = absurd (omega arith)
  value_skipped BadAt (ms, is, first) = object_skipped ms is BadAt first (λ f. (ms, subst (ReadsJson line) is reads, f))
  value_skipped BadSource (ms, is, first) = object_skipped ms is BadSource first (λ f. (ms, subst (ReadsJson line) is reads, f))
  value_skipped BadBody (ms, is, first) = object_skipped ms is BadBody first (λ f. (ms, subst (ReadsJson line) is reads, f))
  value_skipped BadName (ms, is, first) = object_skipped ms is BadName first (λ f. (ms, subst (ReadsJson line) is reads, f))
  value_skipped BadEdit (ms, is, first) = object_skipped ms is BadEdit first (λ f. (ms, subst (ReadsJson line) is reads, f))
