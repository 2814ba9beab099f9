-- Levels are known by their lines.
use Rattle.std.proofs.Common.{◌≡◌, List, [], ◌∷◌, ◌++◌, length, map, refl, sym, ◌∙◌, arith}
use Rattle.std.proofs.lemmas.List.{append_assoc, append-nil}
use Rattle.cb_model.specs.declared.node.NodeName.{NodeName}
use Rattle.cb_levels.specs.declared.levels.LevelEntry.{LevelEntry}
use Rattle.cb_levels.specs.declared.levels.Levels.{Levels}
use Rattle.cb_levels.specs.declared.line.LevelLine.{LevelLine}
use Rattle.cb_levels.specs.declared.line.LevelLine.TheVariants as line
use Rattle.cb_levels.specs.Text.{node_part, entry_part, level_lines}

pub heads : {X : Type 0} (x y : X) (xs ys : List X) → x ∷ xs ≡ y ∷ ys → (x ≡ y) × (xs ≡ ys)
heads x y xs ys e = (cc, cc)

-- two lists of one length, each followed by something, are one if the whole is
pub cut : {X Y : Type 0} (f : X → Y) → ((x x' : X) → f x ≡ f x' → x ≡ x') → (xs ys : List X) (us vs : List Y) → length xs ≡ length ys
    → map f xs ++ us ≡ map f ys ++ vs → (xs ≡ ys) × (us ≡ vs)
cut f one [] [] us vs l e = (refl, e)
cut f one [] (y ∷ ys) us vs l e = absurd (cc)
cut f one (x ∷ xs) [] us vs l e = absurd (cc)
cut f one (x ∷ xs) (y ∷ ys) us vs l e =
    let h = heads (f x) (f y) (map f xs ++ us) (map f ys ++ vs) e in
    let same = one x y h.0 in
    let rest = cut f one xs ys us vs (omega arith) h.1 in
    let tails = rest.0 in
    (cc, rest.1)

-- nodes and what follows them
pub cut_nodes : (xs ys : List NodeName) (us vs : List LevelLine) → node_part xs ++ us ≡ node_part ys ++ vs → (xs ≡ ys) × (us ≡ vs)
cut_nodes xs ys us vs e =
    let h = heads (line.Nodes (length xs)) (line.Nodes (length ys)) (map line.Node xs ++ us) (map line.Node ys ++ vs) e in
    let count = h.0 in
    let short : length xs ≡ length ys = cc in
    cut line.Node (λ x y same. cc) xs ys us vs short h.1

-- entries and what follows them
pub cut_entries : (xs ys : List LevelEntry) (us vs : List LevelLine) → entry_part xs ++ us ≡ entry_part ys ++ vs → (xs ≡ ys) × (us ≡ vs)
cut_entries xs ys us vs e =
    let h = heads (line.Entries (length xs)) (line.Entries (length ys)) (map line.Entry xs ++ us) (map line.Entry ys ++ vs) e in
    let count = h.0 in
    let short : length xs ≡ length ys = cc in
    cut line.Entry (λ x y same. cc) xs ys us vs short h.1

-- no levels have further lines after all those of others
pub goes_on : (a b : Levels) (us : List LevelLine) → level_lines a ≡ level_lines b ++ us → (a ≡ b) × (us ≡ [])
goes_on a b us e =
    let end = line.End ∷ [] in
    let tail = entry_part a.entries ++ end in
    let tail' = entry_part b.entries ++ end in
    let body = heads line.Header line.Header (node_part a.nodes ++ tail) ((node_part b.nodes ++ tail') ++ us) e in
    let nodes = cut_nodes a.nodes b.nodes tail (tail' ++ us) (body.1 ∙ append_assoc (node_part b.nodes) tail' us) in
    let entries = cut_entries a.entries b.entries end (line.End ∷ us) (nodes.1 ∙ append_assoc (entry_part b.entries) end us) in
    let last = heads line.End line.End [] us entries.1 in
    let n = nodes.0 in
    let m = entries.0 in
    ((λ i. record { nodes = n i; entries = m i }), sym last.1)

pub lines_are_of_one : (a b : Levels) → level_lines a ≡ level_lines b → a ≡ b
lines_are_of_one a b e = (goes_on a b [] (e ∙ sym (append-nil (level_lines b)))).0
