-- What is wrong with an object, part by part.
use Rattle.std.specs.Prelude.{◌≡◌, ◌≢◌, ◌<◌, ◌^◌, ℕ, List, Some, Ok, Err, Result, codes, ⊤}
use Rattle.serde_json.specs.Data.{Data, object, Members}
use Rattle.cb_network.specs.declared.edit.Edit.{Edit}
use Rattle.cb_edits.specs.declared.stop.EditText.{EditText}
use Rattle.cb_edits.specs.declared.stop.EditText.TheVariants.{BadWords, NoMemory as NoMemoryForEdit}
use Rattle.cb_edits.specs.Spelled.{SpellsEdit}
use Rattle.cb_log.specs.declared.event.SkipKind.{SkipKind}
use Rattle.cb_log.specs.declared.event.SkipKind.TheVariants.{NotObject, BadSource, BadBody, BadName, BadEdit}
use Rattle.cb_log.specs.declared.record.Record.{Record}
use Rattle.cb_alarm.specs.declared.body.BodyKind.{BodyKind}
use Rattle.cb_alarm.specs.declared.body.BodyKind.TheVariants.{Raise, Clear, Edit as Change, Tick}
use Rattle.cb_alarm.specs.declared.skip.Skip.{Skip}
use Rattle.cb_alarm.specs.declared.skip.Skip.TheVariants.{Bad, NoMemory}
use Rattle.cb_alarm.specs.Skips.{skip_number, IsFaulty, HasNoNode}
use Rattle.cb_alarm.specs.Spelled.{time_of, kinds_in, SaysText, IsSource, SaysBody}

-- P holds of what is wrong with the line, if anything is
abbrev pub OnBad : Skip → (SkipKind → Type 0) → Type 0
OnBad NoMemory P = ⊤
OnBad (Bad kind) P = P kind

-- P holds of what is wrong with the line, if that is why there is no record
abbrev pub OnSkip : {X : Type 0} → Result X Skip → (SkipKind → Type 0) → Type 0
OnSkip (Ok x) P = ⊤
OnSkip (Err skip) P = OnBad skip P

-- P holds of the members, if the value is an object
abbrev pub InObject : Data → (Members → Type 0) → Type 0
InObject value P = (members : Members) → value ≡ object members → P members

-- the name under which an object says something
abbrev pub name_of : BodyKind → List ℕ
name_of Raise = codes "raise"
name_of Clear = codes "clear"
name_of Change = codes "edit"
name_of Tick = codes "tick"

-- why an edit isn't read, as a reason why there is no record
abbrev pub skip_of : EditText → Skip
skip_of BadWords = Bad BadEdit
skip_of NoMemoryForEdit = NoMemory

-- an object names a source
abbrev pub HasSource : Members → Type 0
HasSource ms = (source : List ℕ) × IsSource ms source

-- an object names no source
abbrev pub NoSource : Members → Type 0
NoSource ms = (source : List ℕ) → ¬ IsSource ms source

-- an object has no string under a name
abbrev pub NoText : Members → List ℕ → Type 0
NoText ms name = (text : List ℕ) → ¬ SaysText ms name text

-- the first thing that is wrong with the alarm under a name
abbrev pub IsAlarmFault : Members → List ℕ → SkipKind → Type 0
IsAlarmFault ms name BadSource = NoSource ms
IsAlarmFault ms name BadBody = HasSource ms × NoText ms name
IsAlarmFault ms name BadName = HasSource ms × HasNoNode ms name
IsAlarmFault ms name kind = ⊥

-- the first thing that is wrong with the edit
abbrev pub IsEditFault : Members → SkipKind → Type 0
IsEditFault ms BadBody = NoText ms (codes "edit")
IsEditFault ms BadEdit = (text : List ℕ) × SaysText ms (codes "edit") text × ((edit : Edit) → ¬ SpellsEdit text edit)
IsEditFault ms kind = ⊥

-- the first fault of an object
abbrev pub IsFirstFault : Members → SkipKind → Type 0
IsFirstFault ms kind = IsFaulty ms kind × ((other : SkipKind) → skip_number other < skip_number kind → ¬ IsFaulty ms other)

-- an object says this record
pub record IsRecordOf (ms : Members) (r : Record) : Type 0 where
  pub at : time_of ms ≡ Some r.at
  pub small : r.at < 2 ^ 64
  pub one : kinds_in ms ≡ 1
  pub body : SaysBody ms r.body

-- the first thing that is wrong with a value
abbrev pub IsValueFault : Data → SkipKind → Type 0
IsValueFault value NotObject = (members : Members) → value ≢ object members
IsValueFault value kind = (members : Members) × (value ≡ object members) × IsFirstFault members kind
