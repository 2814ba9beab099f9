use Rattle.std.proofs.Common.{◌≡◌, get_or, false, ◌==◌, Option, Some, sym, ap, ◌∙◌, subst}
use Rattle.std.specs.Prelude.{IfSome}
use Rattle.fast_float.specs.Text.{scan}
use Rattle.serde_json.specs.Data.{Num, unsigned}
use Rattle.serde_json.specs.Read.{number_of, number_from}
use Rattle.cb_alarm.proofs.fields.whole_number.Goals as goal

pub returns : goal.returns
unfolding number_of
returns c =
    let s = c.as_bytes-bytes.result.now in
    let plain : (get_or s 0 0 == 45) ≡ false = sym c.if-has_minus.ensures in
    let read : number_from false (scan s) ≡ number_of s = rw plain in
    let all = ap (number_from false) c.scan.ensures.parts ∙ read ∙ ap number_of c.as_bytes-bytes.ensures.value in
    subst (λ (o : Option Num). IfSome c.whole.result (λ n. o ≡ Some (unsigned n))) all c.whole.ensures
