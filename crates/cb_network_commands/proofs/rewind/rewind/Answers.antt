-- What each way out of `rewind` shows.
use Rattle.std.proofs.Common.{◌≡◌, ◌≤◌, ◌+◌, List, ℕ, [], ◌∷◌, refl, sym, ap, inl, subst}
use Rattle.std.specs.Prelude.{None}
use Rattle.cb_history.specs.declared.script.ScriptLine.{ScriptLine}
use Rattle.cb_line_files.specs.Scripts.{HaveGoodNames}
use Rattle.cb_topo.specs.Numbered.{topology_of}
use Rattle.cb_outcome.specs.Roles.{Role}
use Rattle.cb_outcome.specs.Commands.Rewind.{rewind, rewind_reads}
use Rattle.cb_report.specs.declared.fault.Fault.TheVariants.{Memory}
use Rattle.cb_report.specs.Text.{bytes_of_text}
use Rattle.cb_outcome.specs.Costs.{IsRewindCost}
use Rattle.cb_outcome.specs.Jobs.{RewoundMatrix, text_of_rewound}
use Rattle.cb_outcome.specs.Outcome.{done}
use Rattle.cb_outcome.specs.Judged.{Known, network, scripted}
use Rattle.cb_file_kinds.specs.Ending.{Passed, network_files}
use Rattle.cb_file_kinds.proofs.Chain.{passed_next, stops_there, err_is, makes, wants}
use Rattle.cb_network_commands.proofs.Rewound.{rewind_none, rewind_counts}
use Rattle.cb_network_commands.proofs.rewind.rewind.Goals as goal

pub lines_of_rewind-requires-clause-names : goal.lines_of_rewind-requires-clause-names
lines_of_rewind-requires-clause-names g c =
    let (known, known_is, says) = c.in_ok-script.ensures.value.says (network (topology_of c.in_ok-topology.topology)) refl in
    subst HaveGoodNames (sym c.deref.ensures.value) known_is.1

pub returns-in_err-topology-clause-comes : goal.returns-in_err-topology-clause-comes
returns-in_err-topology-clause-comes g c =
    let n = c.args.names in
    rw (err_is _ _ c.from_residual.ensures.1)
    (c.in_err-topology.ensures.stops (rewind_reads n.model n.topology n.script) ((Role.script, n.script) ∷ []) refl)

pub returns-in_err-script-clause-comes : goal.returns-in_err-script-clause-comes
returns-in_err-script-clause-comes g c =
    let old = g.F.Files.tells c.args.files.now in
    let two = g.F.Files.tells c.read_network.new.files in
    let three = g.F.Files.tells c.read_as.new.files in
    let n = c.args.names in
    rw (err_is _ _ c.from_residual-in_err-script.ensures.1)
    (stops_there (network_files n.model n.topology) Role.script n.script (network (topology_of c.in_ok-topology.topology)) old two three c.in_ok-topology.ensures.passed
    c.in_err-script.ensures.only (rewind_reads n.model n.topology n.script) [] refl _ _ refl c.in_err-script.ensures.stops)

pub returns-in_err-text-clause-comes : goal.returns-in_err-text-clause-comes
returns-in_err-text-clause-comes g c =
    let old = g.F.Files.tells c.args.files.now in
    let two = g.F.Files.tells c.read_network.new.files in
    let three = g.F.Files.tells c.read_as.new.files in
    let n = c.args.names in
    let third = c.in_ok-script.ensures.value in
    let net = network (topology_of c.in_ok-topology.topology) in
    let (known, known_is, says) = third.says net refl in
    let after = passed_next (network_files n.model n.topology) Role.script n.script net old two three c.in_ok-topology.ensures.passed c.in_ok-script.ensures.only third.text known third.read says in
    rw (err_is c.from_residual-in_err-text.result Memory c.from_residual-in_err-text.ensures.1)
    (inl (wants (rewind n.model n.topology n.script c.args.depth) ((Role.model, n.model) ∷ (Role.topology, n.topology) ∷ (Role.script, n.script) ∷ []) known old three after refl refl Memory refl))

pub returns-clause-comes : goal.returns-clause-comes
returns-clause-comes g c =
    let old = g.F.Files.tells c.args.files.now in
    let two = g.F.Files.tells c.read_network.new.files in
    let three = g.F.Files.tells c.read_as.new.files in
    let n = c.args.names in
    let third = c.in_ok-script.ensures.value in
    let t = topology_of c.in_ok-topology.topology in
    let (known, known_is, says) = third.says (network t) refl in
    let after = passed_next (network_files n.model n.topology) Role.script n.script (network t) old two three c.in_ok-topology.ensures.passed c.in_ok-script.ensures.only third.text known third.read says in
    let files = (Role.model, n.model) ∷ (Role.topology, n.topology) ∷ (Role.script, n.script) ∷ [] in
    let script = c.in_ok-script.script in
    let made = subst (λ (lines : List ScriptLine). (rewound : RewoundMatrix t lines c.args.depth) × (bytes_of_text c.in_ok-text.text ≡ text_of_rewound rewound))
    c.deref.ensures.value c.in_ok-text.ensures.text in
    makes (rewind n.model n.topology n.script c.args.depth) files (scripted t script.items) old three
    (subst (λ (k : Known). Passed files k old three) known_is.0 after) refl refl _ None
    (λ left whole. (made.0, ap (λ (bytes : List ℕ). done bytes whole) made.1))

pub returns-in_err-topology-clause-steps : goal.returns-in_err-topology-clause-steps
returns-in_err-topology-clause-steps g c =
    let n = c.args.names in
    rewind_none (rewind_reads n.model n.topology n.script) (g.F.Files.tells c.args.files.now) c.args.depth c.args.steps.now c.args.steps.now refl

pub returns-in_err-script-clause-steps : goal.returns-in_err-script-clause-steps
returns-in_err-script-clause-steps g c =
    let n = c.args.names in
    rewind_none (rewind_reads n.model n.topology n.script) (g.F.Files.tells c.args.files.now) c.args.depth c.args.steps.now c.args.steps.now refl

pub returns-in_err-text-clause-steps : goal.returns-in_err-text-clause-steps
returns-in_err-text-clause-steps g c =
    let old = g.F.Files.tells c.args.files.now in
    let two = g.F.Files.tells c.read_network.new.files in
    let three = g.F.Files.tells c.read_as.new.files in
    let n = c.args.names in
    let third = c.in_ok-script.ensures.value in
    let t = topology_of c.in_ok-topology.topology in
    let (known, known_is, says) = third.says (network t) refl in
    let after = passed_next (network_files n.model n.topology) Role.script n.script (network t) old two three c.in_ok-topology.ensures.passed c.in_ok-script.ensures.only third.text known third.read says in
    let files = (Role.model, n.model) ∷ (Role.topology, n.topology) ∷ (Role.script, n.script) ∷ [] in
    let script = c.in_ok-script.script.items in
    let passed = subst (λ (k : Known). Passed files k old three) known_is.0 after in
    let cost = subst (λ (lines : List ScriptLine). (cost : ℕ) → IsRewindCost t lines c.args.depth cost → c.lines_of_rewind.new.steps ≤ c.args.steps.now + cost)
    c.deref.ensures.value c.lines_of_rewind.ensures.cost in
    rewind_counts (rewind_reads n.model n.topology n.script) old c.args.depth t script c.args.steps.now c.lines_of_rewind.new.steps passed.said cost

pub returns-clause-steps : goal.returns-clause-steps
returns-clause-steps g c =
    let old = g.F.Files.tells c.args.files.now in
    let two = g.F.Files.tells c.read_network.new.files in
    let three = g.F.Files.tells c.read_as.new.files in
    let n = c.args.names in
    let third = c.in_ok-script.ensures.value in
    let t = topology_of c.in_ok-topology.topology in
    let (known, known_is, says) = third.says (network t) refl in
    let after = passed_next (network_files n.model n.topology) Role.script n.script (network t) old two three c.in_ok-topology.ensures.passed c.in_ok-script.ensures.only third.text known third.read says in
    let files = (Role.model, n.model) ∷ (Role.topology, n.topology) ∷ (Role.script, n.script) ∷ [] in
    let script = c.in_ok-script.script.items in
    let passed = subst (λ (k : Known). Passed files k old three) known_is.0 after in
    let cost = subst (λ (lines : List ScriptLine). (cost : ℕ) → IsRewindCost t lines c.args.depth cost → c.lines_of_rewind.new.steps ≤ c.args.steps.now + cost)
    c.deref.ensures.value c.lines_of_rewind.ensures.cost in
    rewind_counts (rewind_reads n.model n.topology n.script) old c.args.depth t script c.args.steps.now c.lines_of_rewind.new.steps passed.said cost
