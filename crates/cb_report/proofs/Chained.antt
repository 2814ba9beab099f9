-- The lines of chains, one after the other.
use Rattle.std.proofs.Common.{◌≡◌, ◌≤◌, ◌+◌, ℕ, zero, suc, List, [], ◌∷◌, ◌++◌, length, take, map, refl, sym, ap, ◌∙◌, append_assoc, arith}
use Rattle.std.specs.Prelude.{Option, None, Some, slice_get}
use Rattle.std.specs.List.{All, flat_map}
use Rattle.std.proofs.lemmas.List.{append-nil, map-append}
use Rattle.std.proofs.lemmas.List.Concat.{flat_map-append}
use Rattle.std.proofs.lemmas.List.Elements.{All-weaker}
use Rattle.std.proofs.lemmas.Option.{get_or_from_slice_get}
use Rattle.cb_model.specs.declared.node.NamedGroup.{NamedGroup}
use Rattle.cb_model.specs.declared.node.NodeName.{NodeName}
use Rattle.cb_chains.specs.Names.{IsNamedNumber, name_or_none, name_by_number, named_chains}
use Rattle.cb_report.specs.ChainTexts.{FitsPath, chain_line, explained_group, explained_groups}
use Rattle.cb_report.specs.Lines.{group_line}

-- texts of items that were changed first
pub mapped : {X Y : Type 0} (f : Y → List ℕ) (g : X → Y) (xs : List X) → flat_map f (map g xs) ≡ flat_map (λ x. f (g x)) xs
mapped f g [] = refl
mapped f g (x ∷ xs) = ap (λ (l : List ℕ). f (g x) ++ l) (mapped f g xs)

-- a number that has a name
pub name_is : (names : List (Option NodeName)) (node : ℕ) (name : NodeName) → slice_get names node ≡ Some (Some name) → name_by_number names node ≡ name
name_is names node name at = ap name_or_none (get_or_from_slice_get names node (Some name) None at)

-- the lines of a tree
abbrev pub tree_lines : List (Option NodeName) → List (List ℕ) → List ℕ
tree_lines names tree = flat_map chain_line (map (map (name_by_number names)) tree)

-- the lines of several trees, one tree after the other
pub lines_of_trees : (names : List (Option NodeName)) (trees : List (List (List ℕ))) → flat_map (tree_lines names) trees ≡ flat_map chain_line (named_chains names trees)
lines_of_trees names [] = refl
lines_of_trees names (tree ∷ trees) =
    let f : List ℕ → List NodeName = map (name_by_number names) in
    let rest = flat_map (λ (t : List (List ℕ)). t) trees in
    ap (λ (l : List ℕ). tree_lines names tree ++ l) (lines_of_trees names trees)
    ∙ (sym (flat_map-append chain_line (map f tree) (map f rest)) ∙ ap (flat_map chain_line) (sym (map-append f tree rest)))

-- one group more, with its chains
pub group_more : {T : Type 0} (f : T → List (List NodeName)) (groups : List NamedGroup) (trees : List T) (i : ℕ) (group : NamedGroup) (tree : T)
    → slice_get groups i ≡ Some group → slice_get trees i ≡ Some tree
    → explained_groups (take (suc i) groups) (map f (take (suc i) trees)) ≡ explained_groups (take i groups) (map f (take i trees)) ++ explained_group (group, f tree)
group_more f [] trees i group tree at there = cc
group_more f (g ∷ groups) [] i group tree at there = cc
group_more f (g ∷ groups) (t ∷ trees) zero group tree at there =
    let one : g ≡ group = cc in
    let other : t ≡ tree = cc in
    append-nil (explained_group (g, f t)) ∙ ap (λ (h : NamedGroup). explained_group (h, f t)) one ∙ ap (λ s. explained_group (group, f s)) other
group_more f (g ∷ groups) (t ∷ trees) (suc i) group tree at there =
    ap (λ (l : List ℕ). explained_group (g, f t) ++ l) (group_more f groups trees i group tree at there)
    ∙ sym (append_assoc (explained_group (g, f t)) (explained_groups (take i groups) (map f (take i trees))) (explained_group (group, f tree)))

-- the same with the group and its chains written apart
pub group_added : {T : Type 0} (f : T → List (List NodeName)) (groups : List NamedGroup) (trees : List T) (i : ℕ) (group : NamedGroup) (tree : T)
    → slice_get groups i ≡ Some group → slice_get trees i ≡ Some tree
    → explained_groups (take i groups) (map f (take i trees)) ++ group_line group ++ flat_map chain_line (f tree) ≡ explained_groups (take (i + 1) groups) (map f (take (i + 1) trees))
group_added f groups trees i group tree at there =
    let one : suc i ≡ i + 1 = omega arith in
    append_assoc (explained_groups (take i groups) (map f (take i trees))) (group_line group) (flat_map chain_line (f tree))
    ∙ (sym (group_more f groups trees i group tree at there) ∙ ap (λ k. explained_groups (take k groups) (map f (take k trees))) one)

-- chains that fit into a path fit into a longer one
pub still_fit : (most more : ℕ) → most ≤ more → (trees : List (List (List ℕ))) → All (All (λ (chain : List ℕ). length chain ≤ most)) trees
    → All (All (λ (chain : List ℕ). length chain ≤ more)) trees
still_fit most more low trees =
    All-weaker (All (λ (chain : List ℕ). length chain ≤ most)) (All (λ (chain : List ℕ). length chain ≤ more))
    (λ tree. All-weaker (λ (chain : List ℕ). length chain ≤ most) (λ (chain : List ℕ). length chain ≤ more) (λ chain short. omega arith) tree) trees

pub groups_still_fit : (most more : ℕ) → most ≤ more → (groups : List (List (List (List ℕ)))) → All (All (All (λ (chain : List ℕ). length chain ≤ most))) groups
    → All (All (All (λ (chain : List ℕ). length chain ≤ more))) groups
groups_still_fit most more low groups =
    All-weaker (All (All (λ (chain : List ℕ). length chain ≤ most))) (All (All (λ (chain : List ℕ). length chain ≤ more))) (still_fit most more low) groups

-- chains that fit, of nodes with names
pub can_be_written : (names : List (Option NodeName)) (capacity : ℕ) (groups : List (List (List (List ℕ))))
    → All (All (All (λ (chain : List ℕ). length chain ≤ capacity))) groups → All (All (All (All (IsNamedNumber names)))) groups
    → All (All (All (FitsPath names capacity))) groups
can_be_written names capacity groups fit named i d low j e within k f inside =
    record { fits = fit i d low j e within k f inside; named = named i d low j e within k f inside }

-- three pieces of a line after its beginning
pub line_whole : (a b c d : List ℕ) → a ++ b ++ c ++ d ≡ a ++ b ++ (c ++ d)
line_whole a b c d = append_assoc (a ++ b) c d
