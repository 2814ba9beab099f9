-- The nodes of the lines of a symptom file, as far as it is read.
use Rattle.std.proofs.Common.{◌≡◌, ◌↔◌, ℕ, List, [], ◌∷◌, ◌++◌, sym, subst, ◌∙◌, inl, inr, true, Some}
use Rattle.std.specs.Prelude.{⊤, MatchOption}
use Rattle.std.specs.List.{All, Contains, slice_get}
use Rattle.std.proofs.lemmas.List.Elements.{All-nil, All-push, Contains-append_left, Contains-push, Contains-push_cases}
use Rattle.cb_text.specs.Names.{IsRun, IsNodeText, is_letter}
use Rattle.cb_text.specs.Words.{IsPassedOver}
use Rattle.cb_text.specs.Lines.{lines_of}
use Rattle.cb_text.proofs.Cuts.{node_read_once}
use Rattle.cb_model.specs.declared.node.NodeName.{NodeName}
use Rattle.cb_model.specs.Order.{Rises}
use Rattle.cb_model.specs.NodeOrder.{node_cmp}
use Rattle.cb_model.proofs.Rising.{nothing_in_empty}
use Rattle.cb_text.specs.Lines.{HasShortLines}
use Rattle.cb_line_files.specs.Symptoms.{SpellsNode, IsSymptomLine, ListsNodes}
use Rattle.cb_line_files.specs.Steps.{AddsNodes}

same_Some : (x y : ℕ) → Some x ≡ Some y → x ≡ y
same_Some x y e = cc

-- what begins with a letter does not begin with `#`
letter_first : (event at instance : List ℕ) → IsRun event → slice_get ((event ++ at) ++ instance) 0 ≡ Some 35 → ⊥
letter_first [] at instance run is = run
letter_first (b ∷ bs) at instance run is =
    let letter = subst (λ c. is_letter c ≡ true) (same_Some b 35 is) run.0 in
    cc

-- a line that is ignored is no node
pub passed_over_is_no_node : (line : List ℕ) (node : NodeName) → IsPassedOver line → ¬ SpellsNode line node
passed_over_is_no_node line node passed spells =
    let first = subst (λ (words : List (List ℕ)). MatchOption (slice_get words 0) ⊤ (λ word. slice_get word 0 ≡ Some 35)) spells.words passed in
    let written = subst (λ (word : List ℕ). slice_get word 0 ≡ Some 35) spells.is.written first in
    letter_first node.event (64 ∷ []) node.instance spells.is.event_is.run written

-- so it adds none
pub passed_over_adds_none : (line : List ℕ) (nodes : List NodeName) → IsPassedOver line → AddsNodes (SpellsNode line) nodes nodes
passed_over_adds_none line nodes passed n = (λ c. inl c, λ h. elim h [ inl c ↦ c | inr spells ↦ absurd (passed_over_is_no_node line n passed spells) ])

-- a line is one node at most
one_node : (line : List ℕ) (m n : NodeName) → SpellsNode line m → SpellsNode line n → m ≡ n
one_node line m n a b =
    let words = sym a.words ∙ b.words in
    let word : a.word ≡ b.word = cc words in
    let is = subst (λ (w : List ℕ). IsNodeText w m.event m.instance) word a.is in
    let parts = node_read_once b.word m.event m.instance n.event n.instance is b.is in
    λ i. record { event = parts.0 i; instance = parts.1 i }

-- so it adds that one
pub spelled_is_added : (line : List ℕ) (node : NodeName) (old new : List NodeName) → SpellsNode line node → AddsNodes (λ n. n ≡ node) old new
    → AddsNodes (SpellsNode line) old new
spelled_is_added line node old new spells adds n = (
  λ c. elim ((adds n).0 c) [ inl before ↦ inl before | inr same ↦ inr (subst (SpellsNode line) (sym same) spells) ],
  λ h. (adds n).1 (elim h [ inl before ↦ inl before | inr it ↦ inr (one_node line n node it spells) ]),
)

-- the lines are good, and these are their nodes
pub record AreNodesOf (nodes : List NodeName) (lines : List (List ℕ)) : Type 0 where
  pub good : All IsSymptomLine lines
  pub exact : (n : NodeName) → Contains nodes n ↔ ((line : List ℕ) × Contains lines line × SpellsNode line n)

pub none_of_none : (nodes : List NodeName) → nodes ≡ [] → AreNodesOf nodes []
none_of_none nodes none = record {
  good = All-nil IsSymptomLine;
  exact = λ n. (
    λ c. absurd (nothing_in_empty n (subst (λ (ns : List NodeName). Contains ns n) none c)),
    λ (line, in_none, _). absurd (nothing_in_empty line in_none),
  );
}

-- one line more
pub one_more : (lines : List (List ℕ)) (old new : List NodeName) (line : List ℕ) → IsSymptomLine line → AddsNodes (SpellsNode line) old new
    → AreNodesOf old lines → AreNodesOf new (lines ++ line ∷ [])
one_more lines old new line good adds read = record {
  good = All-push IsSymptomLine lines line read.good good;
  exact = λ n. (
    λ c. elim ((adds n).0 c) [
      | inl before ↦ let (met, in_lines, spells) = (read.exact n).0 before in (met, Contains-append_left lines (line ∷ []) met in_lines, spells)
      | inr spells ↦ (line, Contains-push lines line, spells)
    ],
    λ (met, in_all, spells). (adds n).1 (elim (Contains-push_cases lines line met in_all) [
      | inl in_lines ↦ inl ((read.exact n).1 (met, in_lines, spells))
      | inr same ↦ inr (subst (λ (l : List ℕ). SpellsNode l n) (sym same) spells)
    ]),
  );
}

-- the whole file was read
pub all_listed : (text : List ℕ) (nodes : List NodeName) → HasShortLines text → Rises node_cmp nodes → AreNodesOf nodes (lines_of text)
    → ListsNodes text nodes
all_listed text nodes short rise read = record {
  short = short;
  rise = rise;
  lines = read.good;
  each = λ n c. (read.exact n).0 c;
  all = λ n line in_lines spells. (read.exact n).1 (line, in_lines, spells);
}
