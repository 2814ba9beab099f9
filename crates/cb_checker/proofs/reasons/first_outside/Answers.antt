use Rattle.std.proofs.Common.{[], ◌∷◌, take, get_or, sym, subst}
use Rattle.std.proofs.lemmas.List.{take_more, take_all}
use Rattle.std.proofs.lemmas.List.Elements.{Contains-get_or}
use Rattle.cb_checker.specs.declared.reasons.Reason.{Reason}
use Rattle.cb_checker.specs.Reasons.{HasEnd, IsFirstWithout}
use Rattle.cb_checker.proofs.Asking.{first_joined}
use Rattle.cb_checker.proofs.reasons.first_outside.Goals as goal

pub outside-requires : goal.outside-requires
outside-requires c =
    let none : Reason = record { place = 0; parent = 0; from = record { 0 = 0 }; to = record { 0 = 0 } } in
    let i = c.loop-i.i in
    let siblings = c.args.siblings.now in
    c.requires (get_or siblings i none) (Contains-get_or siblings i none c.loop-i-test.true)

pub loop-i-preserved : goal.loop-i-preserved
loop-i-preserved c =
    let none : Reason = record { place = 0; parent = 0; from = record { 0 = 0 }; to = record { 0 = 0 } } in
    let i = c.loop-i.i in
    let siblings = c.args.siblings.now in
    let found = c.args.found.now in
    subst (λ xs. IsFirstWithout (HasEnd found) xs c.sooner-first.result) (sym (take_more siblings i none c.loop-i-test.true))
    (first_joined (HasEnd found) (take i siblings) (get_or siblings i none ∷ []) c.loop-i.first c.outside.result c.sooner-first.result
    c.loop-i.invariant c.outside.ensures c.sooner-first.ensures)

pub returns : goal.returns
returns c =
    subst (λ xs. IsFirstWithout (HasEnd c.args.found.now) xs c.loop-i.first) (take_all c.loop-i.i c.args.siblings.now c.loop-i-test.false) c.loop-i.invariant
