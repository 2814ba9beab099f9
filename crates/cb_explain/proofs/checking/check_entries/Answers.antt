use Rattle.std.proofs.Common.{◌≡◌, List, Bool, length, replicate, sym, ap, subst, ◌∙◌, Option, None}
use Rattle.cb_topo.specs.Numbered.{Numbered, topology_of, IsWhole}
use Rattle.cb_explain.specs.declared.entries.EntryFault.{EntryFault}
use Rattle.cb_explain.specs.declared.survey.WrongSuccessor.{WrongSuccessor}
use Rattle.cb_explain.specs.Checking.{AreListedNodes, ListsAll, FaultOf, AreMarkedLed, IsFirstNotLed}
use Rattle.cb_explain.specs.Surveyed.{IsFirstWrongIfAny, ReportsWrong}
use Rattle.cb_explain.proofs.Listing.{root_listed}
use Rattle.cb_explain.proofs.Judging.{rejected_tells, unled_rejected, fault_rejected, lack_rejected, none_rejected}
use Rattle.cb_explain.proofs.checking.check_entries.Goals as goal

pub list_entries-requires-clause-listed : goal.list_entries-requires-clause-listed
list_entries-requires-clause-listed g c =
    let n = c.args.graph.now in
    let levels = c.args.levels.now in
    let first = c.in_ok-listed.listed in
    let whole = subst IsWhole c.topology.ensures c.node_capacity.ensures.whole in
    let capacity : c.node_capacity.result ≡ length n.nodes = c.node_capacity.ensures.value ∙ ap (λ (m : Numbered). length m.nodes) c.topology.ensures in
    let empty = subst (λ k. first.positions.items ≡ replicate k None) capacity c.in_ok-listed.ensures.positions in
    subst (λ (m : Numbered). AreListedNodes m levels c.add.new.self) (sym c.topology-2.ensures)
    (root_listed n levels c.args.root first c.add.new.self whole c.requires.root c.in_ok-listed.ensures.nodes empty c.in_ok-add.ensures.nodes c.in_ok-add.ensures.positions)

pub returns-in-Some-clause-why : goal.returns-in-Some-clause-why
returns-in-Some-clause-why g c =
    let n = c.args.graph.now in
    let levels = c.args.levels.now in
    let listed = c.list_entries.new.listed in
    let are = subst (λ (m : Numbered). AreListedNodes m levels listed) c.topology-2.ensures c.in_ok-fault.ensures.listed in
    let first = subst (λ (bs : List Bool). IsFirstNotLed bs c.in-Some.position) c.deref.ensures.value c.in-Some.ensures.some in
    unled_rejected n levels listed are c.in_ok-fault.ensures.parents c.requires.nodes c.args.root c.requires.root c.in_ok-survey.survey c.in_ok-survey.ensures.survey
    c.in-Some.position first

pub returns-in-Some-fault-clause-why : goal.returns-in-Some-fault-clause-why
returns-in-Some-fault-clause-why g c =
    let n = c.args.graph.now in
    let levels = c.args.levels.now in
    let listed = c.list_entries.new.listed in
    let to = length listed.nodes.items in
    let are = subst (λ (m : Numbered). AreListedNodes m levels listed) c.topology-2.ensures c.in_ok-fault.ensures.listed in
    let led = subst (λ (bs : List Bool). AreMarkedLed bs (length bs)) c.deref.ensures.value c.in_default.ensures.none in
    let all = subst (λ (m : Numbered). ListsAll m levels to c.in_ok-fault.fault) c.topology-2.ensures c.in_ok-fault.ensures.fault in
    let is = subst (λ (f : Option EntryFault). ListsAll n levels to f) c.in-Some-fault.is all in
    let reported = c.in_ok-entry_fault.field-0 in
    let reports = subst (λ (m : Numbered). FaultOf (topology_of m) levels to c.in-Some-fault.fault reported) c.in_ok-survey.ensures.same c.in_ok-entry_fault.ensures.reports in
    rejected_tells (topology_of n) levels reported
    (fault_rejected n levels listed are c.in_ok-fault.ensures.parents c.requires.nodes c.args.root c.requires.root c.in_ok-survey.survey c.in_ok-survey.ensures.survey led
    c.in_ok-fault.ensures.some c.in-Some-fault.fault is reported reports)

pub returns-in-Some-wrong-clause-why : goal.returns-in-Some-wrong-clause-why
returns-in-Some-wrong-clause-why g c =
    let n = c.args.graph.now in
    let levels = c.args.levels.now in
    let listed = c.list_entries.new.listed in
    let to = length listed.nodes.items in
    let are = subst (λ (m : Numbered). AreListedNodes m levels listed) c.topology-2.ensures c.in_ok-fault.ensures.listed in
    let led = subst (λ (bs : List Bool). AreMarkedLed bs (length bs)) c.deref.ensures.value c.in_default.ensures.none in
    let all = subst (λ (f : Option EntryFault). ListsAll c.topology-2.result.now levels to f) c.in_default-fault.is c.in_ok-fault.ensures.fault in
    let survey = c.in_ok-survey.survey in
    let found = c.in_ok-survey.ensures.survey in
    let lack = c.in-Some-wrong.wrong in
    let first = subst (λ (l : Option WrongSuccessor). IsFirstWrongIfAny n levels listed.nodes.items to l) c.in-Some-wrong.is found.wrong in
    let reported = c.in_ok-wrong_fault.field-0 in
    let reports = subst (λ (m : Numbered). ReportsWrong m lack reported) (c.topology-in-Some-wrong.ensures ∙ c.in_ok-survey.ensures.same) c.in_ok-wrong_fault.ensures in
    rejected_tells (topology_of n) levels reported
    (lack_rejected n levels listed are c.in_ok-fault.ensures.parents c.requires.nodes c.args.root c.requires.root survey found led all lack first reported reports)

pub returns-clause-valid : goal.returns-clause-valid
returns-clause-valid g c =
    let n = c.args.graph.now in
    let levels = c.args.levels.now in
    let listed = c.list_entries.new.listed in
    let to = length listed.nodes.items in
    let are = subst (λ (m : Numbered). AreListedNodes m levels listed) c.topology-2.ensures c.in_ok-fault.ensures.listed in
    let led = subst (λ (bs : List Bool). AreMarkedLed bs (length bs)) c.deref.ensures.value c.in_default.ensures.none in
    let all = subst (λ (f : Option EntryFault). ListsAll c.topology-2.result.now levels to f) c.in_default-fault.is c.in_ok-fault.ensures.fault in
    let survey = c.in_ok-survey.survey in
    let found = c.in_ok-survey.ensures.survey in
    let none = subst (λ (l : Option WrongSuccessor). IsFirstWrongIfAny n levels listed.nodes.items to l) c.in_default-wrong.is found.wrong in
    none_rejected n levels listed are c.in_ok-fault.ensures.parents c.requires.nodes c.args.root c.requires.root survey found led all none
