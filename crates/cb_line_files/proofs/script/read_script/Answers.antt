use Rattle.std.proofs.Common.{arith, sym, subst, ◌∙◌, ◌+◌, ℕ, List}
use Rattle.std.proofs.lemmas.Result.{err_from_is_err_and}
use Rattle.cb_text.specs.Lines.{lines_of}
use Rattle.cb_line_files.specs.Scripts.{ScriptGives}
use Rattle.cb_line_files.proofs.Scripted.{gives_more, given_have_good_names, script_stops_at}
use Rattle.cb_text.proofs.LinesRead.{ReadTo, read_more, read_all, comes, number_within}
use Rattle.cb_line_files.proofs.script.read_script.Goals as goal

pub overflow_add-number : goal.overflow_add-number
overflow_add-number c =
    let within = number_within c.args.text.now _ c.loop-line.number _ c.loop-line.invariant c.in-Some-line.line.now _ c.in-Some-line.ensures.steps in
    omega (arith, within, c.well_formed)

pub returns-in_err-read_line-clause-stop : goal.returns-in_err-read_line-clause-stop
returns-in_err-read_line-clause-stop c =
    let read = c.loop-line.invariant in
    let is = comes c.args.text.now _ c.loop-line.number _ read c.in-Some-line.line.now _ c.in-Some-line.ensures.steps in
    let p = err_from_is_err_and c.from_residual.result c.from_residual.ensures.1 in
    rw (p.1, p.2) (script_stops_at c.args.text.now (c.loop-line.number + 1) read.before c.in-Some-line.line.now c.loop-line.script.items
    c.in_err-read_line.field-0.0 c.in_default.ensures.short is read.holds c.in_err-read_line.ensures.stop)

pub loop-line-preserved : goal.loop-line-preserved
loop-line-preserved c =
    let read = c.loop-line.invariant in
    read_more c.args.text.now _ c.loop-line.number _ read c.in-Some-line.line.now _ c.in-Some-line.ensures.steps
    (λ before. ScriptGives 0 before c.read_line.new.script.items)
    (λ gives. gives_more 0 read.before c.in-Some-line.line.now (c.loop-line.number + 1) c.loop-line.script.items c.read_line.new.script.items
    (let count = read.number_is in omega (arith, count)) gives c.in_ok-read_line.ensures.adds)

-- the moves of the whole text
gives_all : (c : goal.In-None) → ScriptGives 0 (lines_of c.args.text.now) c.loop-line.script.items
gives_all c =
    read_all c.args.text.now (λ before. ScriptGives 0 before c.loop-line.script.items) c.loop-line.number
    (subst (λ rest. ReadTo c.args.text.now (λ before. ScriptGives 0 before c.loop-line.script.items) rest c.loop-line.number) c.in-None.ensures.steps.0 c.loop-line.invariant)

pub returns-clause-read : goal.returns-clause-read
returns-clause-read c = record { short = c.in_default.ensures.short; gives = gives_all c }

pub returns-clause-names : goal.returns-clause-names
returns-clause-names c = given_have_good_names 0 (lines_of c.args.text.now) c.loop-line.script.items (gives_all c)
