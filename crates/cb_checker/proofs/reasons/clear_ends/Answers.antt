use Rattle.std.proofs.Common.{◌<◌, ◌++◌, [], ◌∷◌, length, take, get_or, sym, ap, subst, ◌∙◌, false, arith}
use Rattle.std.proofs.lemmas.List.{length-set, take_more, take_all}
use Rattle.std.proofs.lemmas.List.Elements.{Contains-get_or}
use Rattle.cb_checker.specs.declared.reasons.Reason.{Reason}
use Rattle.cb_checker.specs.Reasons.{HasNoEnds}
use Rattle.cb_checker.proofs.Asking.{no_ends_more}
use Rattle.cb_checker.proofs.reasons.clear_ends.Goals as goal

pub clear-requires : goal.clear-requires
clear-requires c =
    let none : Reason = record { place = 0; parent = 0; from = record { 0 = 0 }; to = record { 0 = 0 } } in
    let i = c.loop-i.i in
    let siblings = c.args.siblings.now in
    let low = c.requires (get_or siblings i none) (Contains-get_or siblings i none c.loop-i-test.true) in
    let capacity = c.loop-i.invariant.capacity in
    omega arith

pub loop-i-preserved : goal.loop-i-preserved
loop-i-preserved c =
    let none : Reason = record { place = 0; parent = 0; from = record { 0 = 0 }; to = record { 0 = 0 } } in
    let i = c.loop-i.i in
    let siblings = c.args.siblings.now in
    let reason = get_or siblings i none in
    let found = c.loop-i.found in
    let low = c.requires reason (Contains-get_or siblings i none c.loop-i-test.true) in
    let capacity = c.loop-i.invariant.capacity in
    let within : reason.to.0 < length found = omega arith in
    record {
      capacity = ap length c.clear.ensures ∙ (length-set found reason.to.0 false ∙ capacity);
      none = subst (λ xs. HasNoEnds xs c.clear.new.self) (sym (take_more siblings i none c.loop-i-test.true))
          (subst (HasNoEnds (take i siblings ++ (reason ∷ []))) (sym c.clear.ensures) (no_ends_more (take i siblings) reason found within c.loop-i.invariant.none));
    }

pub returns-clause-none : goal.returns-clause-none
returns-clause-none c =
    subst (λ xs. HasNoEnds xs c.loop-i.found) (take_all c.loop-i.i c.args.siblings.now c.loop-i-test.false) c.loop-i.invariant.none
