use Rattle.std.proofs.Common.{arith, sym, ap, subst, ◌∙◌, ◌+◌, ℕ, List}
use Rattle.std.proofs.lemmas.Result.{err_from_is_err_and}
use Rattle.cb_network.specs.Topology.{empty_topology}
use Rattle.cb_topo.specs.Numbered.{topology_of}
use Rattle.cb_line_files.specs.Topologies.{LinesMake}
use Rattle.cb_line_files.proofs.Made.{made_more, stops_at}
use Rattle.cb_text.proofs.LinesRead.{ReadTo, read_none, read_more, comes, number_within}
use Rattle.cb_line_files.proofs.topology.read_topology.Goals as goal

pub loop-line-init : goal.loop-line-init
loop-line-init c =
    let P = λ (before : List (List ℕ)). LinesMake (empty_topology c.args.model) before (topology_of c.new-topology.result) in
    let lines = c.into_iter-line-iterator.ensures.into_iter_gives ∙ c.lines-line-items.ensures in
    subst (λ rest. ReadTo c.args.text.now P rest 0) (sym lines) (read_none c.args.text.now P (sym (ap (λ n. n.topology) c.new-topology.ensures.net)))

pub overflow_add-number : goal.overflow_add-number
overflow_add-number c =
    let within = number_within c.args.text.now _ c.loop-line.number _ c.loop-line.invariant c.in-Some-line.line.now _ c.in-Some-line.ensures.steps in
    omega (arith, within, c.well_formed)

pub returns-in_err-read_line-clause-stop : goal.returns-in_err-read_line-clause-stop
returns-in_err-read_line-clause-stop c =
    let read = c.loop-line.invariant in
    let is = comes c.args.text.now _ c.loop-line.number _ read c.in-Some-line.line.now _ c.in-Some-line.ensures.steps in
    let p = err_from_is_err_and c.from_residual.result c.from_residual.ensures.1 in
    rw (p.1, p.2) (stops_at c.args.model c.args.text.now (c.loop-line.number + 1) read.before c.in-Some-line.line.now (topology_of c.loop-line.topology)
    c.in_err-read_line.field-0.0 c.in_default.ensures.short is read.holds c.in_err-read_line.ensures.stop)

pub loop-line-preserved : goal.loop-line-preserved
loop-line-preserved c =
    read_more c.args.text.now _ c.loop-line.number _ c.loop-line.invariant c.in-Some-line.line.now _ c.in-Some-line.ensures.steps
    (λ before. LinesMake (empty_topology c.args.model) before (topology_of c.read_line.new.topology))
    (made_more (empty_topology c.args.model) c.loop-line.invariant.before c.in-Some-line.line.now (topology_of c.loop-line.topology)
    (topology_of c.read_line.new.topology) c.in_ok-read_line.ensures.makes)
