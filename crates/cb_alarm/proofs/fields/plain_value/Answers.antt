use Rattle.std.proofs.Common.{◌≡◌, ◌∷◌, option_map, ap, ◌∙◌, arith}
use Rattle.json.specs.Token.{Token}
use Rattle.json.specs.Json.{value}
use Rattle.json.specs.Reads.{token_of}
use Rattle.json.proofs.Grammar.{value_is}
use Rattle.serde_json.specs.Data.{number}
use Rattle.serde_json.specs.Read.{of_json, converted}
use Rattle.cb_alarm.proofs.fields.plain_value.Goals as goal

pub returns-in-String-clause-value : goal.returns-in-String-clause-value
returns-in-String-clause-value c =
    let first : c.args.reader.now ≡ token_of c.in_ok-text.field-0 ∷ c.next.new.self = grind arith in
    let is : c.args.reader.now ≡ Token.string c.in-String.text.now ∷ c.next.new.self = grind (arith, first) in
    ap (converted of_json) (ap (value 126) is ∙ value_is 126 _)

pub returns-in-Bool-clause-value : goal.returns-in-Bool-clause-value
returns-in-Bool-clause-value c =
    let first : c.args.reader.now ≡ token_of c.in_ok-text.field-0 ∷ c.next.new.self = grind arith in
    let is : c.args.reader.now ≡ Token.boolean c.in-Bool.truth ∷ c.next.new.self = grind (arith, first) in
    ap (converted of_json) (ap (value 126) is ∙ value_is 126 _)

pub returns-in_ok-whole_number-in-Number-clause-value : goal.returns-in_ok-whole_number-in-Number-clause-value
returns-in_ok-whole_number-in-Number-clause-value c =
    let first : c.args.reader.now ≡ token_of c.in_ok-text.field-0 ∷ c.next.new.self = grind arith in
    let is : c.args.reader.now ≡ Token.number c.in-Number.text.now ∷ c.next.new.self = grind (arith, first) in
    ap (converted of_json) (ap (value 126) is ∙ value_is 126 _)
    ∙ ap (λ o. option_map (λ d. (d, c.next.new.self)) (option_map number o)) c.in_ok-whole_number-in-Number.ensures
