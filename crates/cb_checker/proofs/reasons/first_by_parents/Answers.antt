use Rattle.std.proofs.Common.{take, get_or, sym, subst, ◌∙◌, arith}
use Rattle.std.specs.List.{slice_range}
use Rattle.std.proofs.lemmas.List.{take_all}
use Rattle.std.proofs.lemmas.List.Elements.{Contains-get_or}
use Rattle.cb_topo.specs.Numbered.{Numbered, IsLiveNode}
use Rattle.cb_checker.specs.declared.reasons.Reason.{Reason}
use Rattle.cb_checker.specs.Reasons.{IsLed, IsFirstUnled}
use Rattle.cb_checker.proofs.Asking.{first_joined, range_joined, in_range}
use Rattle.cb_checker.proofs.reasons.first_by_parents.Goals as goal

pub first_of_siblings-unled-requires-clause-from : goal.first_of_siblings-unled-requires-clause-from
first_of_siblings-unled-requires-clause-from g c =
    let none : Reason = record { place = 0; parent = 0; from = record { 0 = 0 }; to = record { 0 = 0 } } in
    let reasons = c.args.reasons.now in
    let start = c.loop-start.start in
    let reason = get_or reasons start none in
    subst (λ (m : Numbered). IsLiveNode m reason.from) (sym c.loop-start.invariant.same)
    (c.requires.live reason (Contains-get_or reasons start none c.loop-start-test.true)).0

pub first_of_siblings-unled-requires-clause-live : goal.first_of_siblings-unled-requires-clause-live
first_of_siblings-unled-requires-clause-live g c = λ reason in'.
    let reasons = c.args.reasons.now in
    let live = c.requires.live reason (in_range reasons c.loop-start.start c.end_of_siblings-end.result c.end_of_siblings-end.ensures.within reason in') in
    let same = sym c.loop-start.invariant.same in
    (subst (λ (m : Numbered). IsLiveNode m reason.from) same live.0, subst (λ (m : Numbered). IsLiveNode m reason.to) same live.1)

pub loop-start-preserved : goal.loop-start-preserved
loop-start-preserved g c =
    let n = c.args.graph.now in
    let kept = c.loop-start.invariant in
    let reasons = c.args.reasons.now in
    let start = c.loop-start.start in
    let end = c.end_of_siblings-end.result in
    let more = c.end_of_siblings-end.ensures.more in
    let within = c.end_of_siblings-end.ensures.within in
    let unled = c.first_of_siblings-unled.result in
    let here = subst (λ (m : Numbered). IsFirstUnled m (slice_range reasons start end) unled) kept.same c.first_of_siblings-unled.ensures.first in
    record {
      same = c.first_of_siblings-unled.ensures.same ∙ kept.same;
      capacity = c.first_of_siblings-unled.ensures.capacity ∙ kept.capacity;
      within = within;
      first = subst (λ xs. IsFirstUnled n xs c.sooner-first.result) (sym (range_joined reasons start end within (omega arith)))
          (first_joined (IsLed n) (take start reasons) (slice_range reasons start end) c.loop-start.first unled c.sooner-first.result kept.first here c.sooner-first.ensures);
    }

pub returns-clause-first : goal.returns-clause-first
returns-clause-first g c =
    subst (λ xs. IsFirstUnled c.args.graph.now xs c.loop-start.first) (take_all c.loop-start.start c.args.reasons.now c.loop-start-test.false) c.loop-start.invariant.first
