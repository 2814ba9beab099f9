use Rattle.std.proofs.Common.{◌≡◌, List, ℕ, [], ◌∷◌, ◌++◌, subst, sym, ap, ◌∙◌}
use Rattle.std.specs.List.{flat_map}
use Rattle.std.proofs.lemmas.List.{append_assoc}
use Rattle.cb_model.specs.declared.node.NodeName.{NodeName}
use Rattle.cb_levels.specs.declared.levels.LevelEntry.{LevelEntry}
use Rattle.cb_levels.specs.declared.line.LevelLine.{LevelLine}
use Rattle.cb_levels.specs.declared.line.LevelLine.TheVariants as line
use Rattle.cb_levels.specs.Text.{ended_line, node_part, entry_part}
use Rattle.cb_levels.specs.Format.{SpellsLevels}
use Rattle.cb_levels.proofs.Adding.{step, step_one}
use Rattle.cb_levels.proofs.Spelling.{level_text_spells}
use Rattle.cb_levels.proofs.writer.write_levels.Goals as goal

pub returns-clause-text : goal.returns-clause-text
returns-clause-text c =
    let none : List ℕ = [] in
    let nodes = node_part c.args.levels.now.nodes in
    let entries = entry_part c.args.levels.now.entries in
    let one : c.in_ok-out.out.items ≡ none ++ flat_map ended_line (line.Header ∷ []) = c.in_ok-out.ensures.items in
    let with_nodes = c.in_ok-push_nodes.ensures ∙ ap (λ (ns : List NodeName). c.in_ok-out.out.items ++ flat_map ended_line (node_part ns)) c.as_slice.ensures in
    let with_entries = c.in_ok-push_entries.ensures ∙ ap (λ (es : List LevelEntry). c.push_nodes.new.out.items ++ flat_map ended_line (entry_part es)) c.as_slice-2.ensures in
    let two = step none _ _ (line.Header ∷ []) nodes one with_nodes in
    let three = step none _ _ (line.Header ∷ nodes) entries two with_entries in
    let four = step_one none _ _ (line.Header ∷ (nodes ++ entries)) line.End three c.in_ok-extend_from_slice.ensures.items in
    four ∙ ap (λ (ls : List LevelLine). flat_map ended_line (line.Header ∷ ls)) (append_assoc nodes entries (line.End ∷ []))

pub returns-clause-spells : goal.returns-clause-spells
returns-clause-spells c = subst (λ text. SpellsLevels text c.args.levels.now) (sym (returns-clause-text c)) (level_text_spells c.args.levels.now c.requires)
