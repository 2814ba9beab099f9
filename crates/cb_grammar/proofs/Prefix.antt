-- The machine reads a token exactly where some model has it, and ends exactly at a model.
use Rattle.std.proofs.Common.{◌≡◌, refl, ap, sym, ◌∙◌, subst, List, [], ◌∷◌, ◌++◌, append_assoc, Option, None, Some}
use Rattle.std.specs.Option.{IfSome}
use Rattle.cb_grammar.specs.declared.tree.ClassDecl.{ClassDecl}
use Rattle.cb_grammar.specs.declared.tree.Tree.{Tree}
use Rattle.cb_grammar.specs.declared.lexeme.Lexeme.{Lexeme}
use Rattle.cb_grammar.specs.declared.machine.Part.{Part}
use Rattle.cb_grammar.specs.declared.machine.Part.TheVariants as parts
use Rattle.cb_grammar.specs.declared.machine.State.{State}
use Rattle.cb_grammar.specs.Grammar.{IsTreeOfTokens, IsModel, IsModelPrefix}
use Rattle.cb_grammar.specs.Table.{next_state}
use Rattle.cb_grammar.specs.Read.{so_far, HasShortPaths}
use Rattle.cb_grammar.proofs.Grows.{Grows, grows, stays_sound}
use Rattle.cb_grammar.proofs.Ends.{is_prefix}
use Rattle.cb_grammar.proofs.Runs.{run, run-append, run_none, start, tree_runs, reaches}

abbrev Stopped : Option State → Type 0
Stopped None = Unit {0}
Stopped (Some s) = ⊥

-- where the machine refuses a token, no model has it
pub no_prefix : (s : State) (k : Lexeme) → HasShortPaths s → next_state s k ≡ None → IsModelPrefix (so_far s ++ k ∷ []) → ⊥
no_prefix s k is none prefix =
    let ends : run start (so_far s ++ k ∷ [] ++ prefix.0) ≡ None =
    ap (run start) (append_assoc (so_far s) (k ∷ []) prefix.0) ∙ run-append (so_far s) (k ∷ prefix.0) start
    ∙ ap (λ o. run o (k ∷ prefix.0)) (reaches s is) ∙ ap (λ o. run o prefix.0) none ∙ run_none prefix.0 in
    subst Stopped (sym ends ∙ tree_runs prefix.1.0 (so_far s ++ k ∷ [] ++ prefix.0) prefix.1.1) tt

-- what is read of a token that a model has
pub reads_on : (s s' : State) (k : Lexeme) → HasShortPaths s → next_state s k ≡ Some s' → HasShortPaths s' × (so_far s' ≡ so_far s ++ k ∷ []) × IsModelPrefix (so_far s ++ k ∷ [])
reads_on s s' k is next =
    let sound : HasShortPaths s' = subst (λ o. IfSome o HasShortPaths) next (stays_sound s k is) in
    let more : so_far s' ≡ so_far s ++ k ∷ [] = subst (λ o. Grows o (so_far s ++ k ∷ [])) next (grows s k) in
    (sound, more, subst IsModelPrefix more (is_prefix s' sound))

abbrev pub IsBetween : Part → Type 0
IsBetween parts.Between = Unit {0}
IsBetween part = ⊥

abbrev BetweenAt : Option State → Type 0
BetweenAt None = Unit {0}
BetweenAt (Some s) = IsBetween s.part

not_between : (part : Part) → (part ≡ parts.Between → ⊥) → IsBetween part → ⊥
not_between parts.Between ne is = ne refl
not_between part ne is = is

-- inside a class no model ends
pub no_model : (s : State) → HasShortPaths s → (s.part ≡ parts.Between → ⊥) → IsModel (so_far s) → ⊥
no_model s is inside model = not_between s.part inside (subst BetweenAt (sym (tree_runs model.0 (so_far s) model.1) ∙ reaches s is) tt)

-- the classes of a state, if there is one
abbrev pub classes_of : Option State → List ClassDecl
classes_of None = []
classes_of (Some s) = s.classes

abbrev pub tree_of : List ClassDecl → Tree
tree_of cs = record { classes = cs }

-- a model's tokens are those of no other tree
pub one_tree : (ks : List Lexeme) (t t' : Tree) → IsTreeOfTokens t ks → IsTreeOfTokens t' ks → t ≡ t'
one_tree ks t t' is is' = ap (λ o. tree_of (classes_of o)) (sym (tree_runs t ks is) ∙ tree_runs t' ks is')
