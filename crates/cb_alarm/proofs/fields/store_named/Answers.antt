use Rattle.std.proofs.Common.{rules, ◌≡◌, sym, ap, ◌∙◌}
use Rattle.serde_json.specs.Data.{put}
use Rattle.serde_json.specs.Find.{get_member}
use Rattle.serde_json.proofs.Views.{get_member-put, get_member-put_other}
use Rattle.cb_alarm.specs.Plain.{data_of}
use Rattle.cb_alarm.proofs.fields.store_named.Goals as goal

pub returns-then-eq : goal.returns-then-eq
returns-then-eq c ms before =
    let is : c.args.name.now ≡ c.args.own.now = search rules in
    let d = data_of c.args.said in
    sym (ap (λ k. get_member c.args.own.now (put k d ms)) is ∙ get_member-put c.args.own.now d ms)

pub returns-else-eq : goal.returns-else-eq
returns-else-eq c ms before =
    let other : (c.args.own.now ≡ c.args.name.now) → ⊥ = search rules in
    before ∙ sym (get_member-put_other c.args.own.now c.args.name.now (data_of c.args.said) ms other)

pub returns-then-name-own : goal.returns-then-name-own
returns-then-name-own c ms before =
    let other : (c.args.own.now ≡ c.args.name.now) → ⊥ = search rules in
    before ∙ sym (get_member-put_other c.args.own.now c.args.name.now (data_of c.args.said) ms other)
