use Rattle.std.proofs.Common.{◌≡◌, ◌-◌, length, Some, ◌∙◌, arith, refl}
use Rattle.json.specs.Json.{read_key, value}
use Rattle.json.proofs.Grammar.{read_key-shorter}
use Rattle.serde_json.specs.Data.{no_members, put}
use Rattle.cb_alarm.specs.Plain.{data_of}
use Rattle.cb_alarm.proofs.Reading.{member_read, members_over}
use Rattle.cb_alarm.proofs.fields.members.Goals as goal

pub members-init : goal.members-init
members-init c = (length c.args.reader.now, no_members, omega arith, refl, c.nothing-fields.ensures)

pub returns-in_default-key : goal.returns-in_default-key
returns-in_default-key c =
    let l = c.members in
    (l.invariant.1, l.invariant.3 ∙ members_over (value 126) l.invariant.1 l.invariant.0 l.reader c.next_key.new.self l.invariant.2 (grind arith), l.invariant.4)

pub members-preserved : goal.members-preserved
members-preserved c =
    let l = c.members in
    let n = l.invariant.0 in
    let old = l.invariant.1 in
    let k = c.in-Some.name.now in
    let s = c.next_key.new.self in
    let named : read_key l.reader ≡ Some (Some k, s) = grind arith in
    let read = c.in_ok-said.ensures in
    let d = data_of c.in_ok-said.said in
    let r = c.plain_value.new.reader in
    let less = read_key-shorter l.reader (Some k) s named in
    let lesser = read.shorter in (
      n - 1,
      put k d old,
      omega (arith, l.invariant.2),
      l.invariant.3 ∙ member_read (value 126) old n k l.reader s r d (omega (arith, l.invariant.2)) named read.value,
      c.add.ensures old l.invariant.4,
    )
