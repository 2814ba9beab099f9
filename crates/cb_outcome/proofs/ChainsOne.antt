-- What `explain`, `levels` and `prove` give is one.
use Rattle.std.proofs.Common.{◌≡◌, ℕ, List, [], ◌∷◌, refl, sym, ap, subst, ◌∙◌, inl, inr, arith}
use Rattle.std.specs.Prelude.{Option, None, Some}
use Rattle.std.specs.List.{AllZip, flat_map}
use Rattle.cb_text.proofs.Cuts.{node_read_once}
use Rattle.cb_model.specs.declared.node.NamedGroup.{NamedGroup}
use Rattle.cb_model.specs.declared.node.NodeName.{NodeName}
use Rattle.cb_finding.specs.declared.finding.Finding.{Finding}
use Rattle.cb_finding.proofs.One.{burst_is_one, matrix_is_one}
use Rattle.cb_network.specs.Topology.{Topology}
use Rattle.cb_network.specs.Causes.{Causes}
use Rattle.cb_validity.specs.Spans.{StandsFor}
use Rattle.cb_validity.proofs.SpanLaws.{stands_for_one}
use Rattle.cb_levels.specs.declared.levels.LevelEntry.{LevelEntry}
use Rattle.cb_levels.specs.declared.levels.Levels.{Levels}
use Rattle.cb_levels.specs.declared.verdict.Proved.{Proved}
use Rattle.cb_levels.specs.Canonical.{AreCanonicalLevels}
use Rattle.cb_levels.specs.Checks.{ShowsReach}
use Rattle.cb_levels.specs.Level.{IsShortChain}
use Rattle.cb_levels.specs.Text.{levels_text}
use Rattle.cb_levels.specs.Valid.{BeginsAtProblem}
use Rattle.cb_levels.proofs.One.{short_chain_is_one, short_chain_is_shortest}
use Rattle.cb_levels.proofs.Uniques.{canonical_is_one}
use Rattle.cb_report.specs.ChainTexts.{explained_text}
use Rattle.cb_report.specs.LevelTexts.{proved_text}
use Rattle.cb_chains.specs.Explained.{ExplainsColumn, ExplainsColumns, chains_in}
use Rattle.cb_outcome.specs.Explained.{ExplainsMembers, ExplainsGroups}
use Rattle.cb_outcome.specs.Outcome.{Outcome, done}
use Rattle.cb_outcome.specs.Jobs.{ExplainGives, NamesNode, WritesLevels, RefusesProblem, LevelsGives, ProveGives}

-- where each item has one partner, a list has one list of partners
pub zip_is_one : {X Y : Type 0} (R : X → Y → Type 0) → ((x : X) (y z : Y) → R x y → R x z → y ≡ z) → (xs : List X) (ys zs : List Y)
    → AllZip R xs ys → AllZip R xs zs → ys ≡ zs
zip_is_one R one [] [] [] p q = refl
zip_is_one R one [] [] (z ∷ zs) p q = absurd q
zip_is_one R one [] (y ∷ ys) zs p q = absurd p
zip_is_one R one (x ∷ xs) [] zs p q = absurd p
zip_is_one R one (x ∷ xs) (y ∷ ys) [] p q = absurd q
zip_is_one R one (x ∷ xs) (y ∷ ys) (z ∷ zs) p q =
    let here = one x y z p.0 q.0 in
    let later = zip_is_one R one xs ys zs p.1 q.1 in
    λ i. here i ∷ later i

module _ (t : Topology) where
  -- a short chain shows that its problem causes its column
  chain_shows : (problem column : NodeName) (chain : List NodeName) → IsShortChain t problem column chain → Causes t problem column
  chain_shows problem column chain is = let (n, level, long) = short_chain_is_shortest t problem column chain is in (level.between, level.chain)

  chain_is_one : (problem column : NodeName) (a b : Option (List NodeName)) → ExplainsColumn t problem column a → ExplainsColumn t problem column b → a ≡ b
  chain_is_one problem column None None p q = refl
  chain_is_one problem column None (Some ys) p q = absurd (p (chain_shows problem column ys q))
  chain_is_one problem column (Some xs) None p q = absurd (q (chain_shows problem column xs p))
  chain_is_one problem column (Some xs) (Some ys) p q = ap Some (short_chain_is_one t problem column xs ys p q)

  module _ (columns : List NodeName) where
    found_is_one : (problem : NodeName) (a b : List (Option (List NodeName))) → ExplainsColumns t columns problem a → ExplainsColumns t columns problem b → a ≡ b
    found_is_one problem a b p q = zip_is_one (ExplainsColumn t problem) (chain_is_one problem) columns a b p q

    members_are_one : (members : List NodeName) (a b : List (List NodeName)) → ExplainsMembers t columns members a → ExplainsMembers t columns members b → a ≡ b
    members_are_one members a b p q =
        p.are ∙ (ap (λ (found : List (List (Option (List NodeName)))). flat_map chains_in found)
        (zip_is_one (ExplainsColumns t columns) found_is_one members p.found q.found p.each q.each) ∙ sym q.are)

    pub groups_are_explained_once : (groups : List NamedGroup) (a b : List (List (List NodeName))) → ExplainsGroups t columns groups a
        → ExplainsGroups t columns groups b → a ≡ b
    groups_are_explained_once groups a b p q =
        zip_is_one (λ (group : NamedGroup). ExplainsMembers t columns group.members) (λ group x y. members_are_one group.members x y) groups a b p q

pub explain_one : (t : Topology) (nodes : List NodeName) (whole : ℕ) (a b : Outcome) → ExplainGives t nodes whole a → ExplainGives t nodes whole b → a ≡ b
explain_one t nodes whole a b p q =
    let columns = (matrix_is_one t p.burst.columns q.burst.columns p.burst.groups q.burst.groups p.burst.matrix q.burst.matrix).0 in
    let finding = burst_is_one t nodes p.finding q.finding p.burst q.burst in
    let over : ExplainsGroups t p.burst.columns p.finding.groups q.chains =
    subst (λ (cs : List NodeName). ExplainsGroups t cs p.finding.groups q.chains) (sym columns)
    (subst (λ (f : Finding). ExplainsGroups t q.burst.columns f.groups q.chains) (sym finding) q.explains)
    in
    let chains = groups_are_explained_once t p.burst.columns p.finding.groups p.chains q.chains p.explains over in
    p.gives ∙ ((λ i. done (explained_text (finding i) (chains i)) whole) ∙ sym q.gives)

-- ---- levels

-- a word names one node
name_is_one : (word : List ℕ) (m n : NodeName) → NamesNode word m → NamesNode word n → m ≡ n
name_is_one word m n p q =
    let same = node_read_once word m.event m.instance n.event n.instance p q in
    λ i. record { event = same.0 i; instance = same.1 i }

written_is_one : (t : Topology) (word : List ℕ) (whole : ℕ) (a b : Outcome) → WritesLevels t word whole a → WritesLevels t word whole b → a ≡ b
written_is_one t word whole a b p q =
    let same = name_is_one word p.problem q.problem p.named q.named in
    let over : AreCanonicalLevels t p.problem q.levels = subst (λ (n : NodeName). AreCanonicalLevels t n q.levels) (sym same) q.canonical in
    let levels = canonical_is_one t p.problem p.levels q.levels p.canonical over in
    p.gives ∙ (ap (λ (l : Levels). done (levels_text l) whole) levels ∙ sym q.gives)

written_or_refused : (t : Topology) (word : List ℕ) (whole : ℕ) (a b : Outcome) → WritesLevels t word whole a → RefusesProblem t word whole b → ⊥
written_or_refused t word whole a b p q = q.none p.problem p.named p.is

pub levels_one : (t : Topology) (word : List ℕ) (whole : ℕ) (a b : Outcome) → LevelsGives t word whole a → LevelsGives t word whole b → a ≡ b
levels_one t word whole a b (inl p) (inl q) = written_is_one t word whole a b p q
levels_one t word whole a b (inl p) (inr q) = absurd (written_or_refused t word whole a b p q)
levels_one t word whole a b (inr p) (inl q) = absurd (written_or_refused t word whole b a q p)
levels_one t word whole a b (inr p) (inr q) = p.gives ∙ sym q.gives

-- ---- what levels show

pub root_is_one : (t : Topology) (levels : Levels) (p q : NodeName) → BeginsAtProblem t levels p → BeginsAtProblem t levels q → p ≡ q
root_is_one t levels p q a b =
    let one = a.first.is in
    let other = b.first.is in
    let same : b.entry ≡ a.entry = cc in
    stands_for_one levels.nodes a.entry.node p q a.first.names (subst (λ (e : LevelEntry). StandsFor levels.nodes e.node q) same b.first.names)

shown_is_one : (t : Topology) (levels : Levels) (a b : Proved) → ShowsReach t levels a → ShowsReach t levels b → a ≡ b
shown_is_one t levels a b p q =
    let root = root_is_one t levels a.root b.root p.root q.root in
    let reached = p.reached ∙ sym q.reached in
    let (i, x, x_is, x_deepest) = p.attained in
    let (j, y, y_is, y_deepest) = q.attained in
    let low = q.deepest i x x_is in
    let high = p.deepest j y y_is in
    let deepest : a.deepest ≡ b.deepest = omega (arith, low, high, x_deepest, y_deepest) in
    λ i. record { root = root i; reached = reached i; deepest = deepest i }

pub prove_one : (t : Topology) (levels : Levels) (whole : ℕ) (a b : Outcome) → ProveGives t levels whole a → ProveGives t levels whole b → a ≡ b
prove_one t levels whole a b p q =
    p.gives ∙ (ap (λ (proved : Proved). done (proved_text proved) whole) (shown_is_one t levels p.proved q.proved p.shows q.shows) ∙ sym q.gives)
