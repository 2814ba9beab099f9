use Rattle.std.proofs.Common.{◌≡◌, [], ◌∷◌, Some, ap, ◌∙◌, arith}
use Rattle.json.specs.Token.{Token}
use Rattle.cb_alarm.specs.Plain.{whole_value}
use Rattle.cb_alarm.proofs.Reading.{object_read}
use Rattle.cb_alarm.proofs.fields.fields_of.Goals as goal

pub returns : goal.returns
returns c =
    let first : c.args.reader.now ≡ Token.begin_object ∷ c.next.new.self = grind arith in
    let read = c.in_ok-fields.ensures in
    let over : c.members.new.reader ≡ [] = grind arith in
    (read.0, ap whole_value first ∙ object_read c.next.new.self read.0 (read.1 ∙ ap (λ rest. Some (read.0, rest)) over), read.2)
