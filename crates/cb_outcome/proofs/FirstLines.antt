-- A text of lines makes one topology or has one fault, and so a text of nodes.
use Rattle.std.proofs.Common.{◌≡◌, ◌≢◌, ℕ, List, [], ◌∷◌, ◌++◌, length, refl, sym, ap, subst, ◌∙◌, inl, inr, arith, Some, Ok, Err}
use Rattle.std.specs.Prelude.{⊤, MatchOption}
use Rattle.std.specs.List.{All, slice_get}
use Rattle.std.proofs.lemmas.List.Elements.{All-head, All-tail, All-contains, Contains-append_right}
use Rattle.cb_text.specs.Words.{words_of, IsPassedOver}
use Rattle.cb_text.specs.Lines.{lines_of}
use Rattle.cb_model.specs.declared.node.NodeName.{NodeName}
use Rattle.cb_model.specs.declared.tables.Tables.{Tables}
use Rattle.cb_model.specs.NodeOrder.{node_cmp}
use Rattle.cb_model.proofs.Rising.{same_rising, node_strict, contains_head}
use Rattle.cb_network.specs.declared.edit.Edit.{Edit}
use Rattle.cb_network.specs.declared.edit.Edit.TheVariants.{Create, Delete, Link, Unlink, Mute, Unmute}
use Rattle.cb_network.specs.Topology.{Topology, empty_topology}
use Rattle.cb_network.specs.Edits.{IsAfter}
use Rattle.cb_network.specs.Regular.{IsRegular}
use Rattle.cb_network.proofs.Accepted.{after_is_one, model_stays}
use Rattle.cb_edits.specs.Spelled.{SpellsEdit}
use Rattle.cb_edits.proofs.Decoded.{spelled_once}
use Rattle.cb_line_files.specs.declared.topology.LineFault.{LineFault}
use Rattle.cb_line_files.specs.declared.topology.LineFault.TheVariants.{BadWords, Refused}
use Rattle.cb_text.specs.Lines.{IsShort, HasShortLines, IsFirstLong}
use Rattle.cb_line_files.specs.Topologies.{LineMakes, LinesMake, MakesTopology, IsWrong, IsFirstWrong}
use Rattle.cb_line_files.specs.Symptoms.{IsSymptomLine, ListsNodes, IsFirstBad}

-- what holds of all items holds of one among them
pub of_all : {X : Type 0} (P : X → Type 0) (xs before : List X) (x : X) (after : List X) → xs ≡ before ++ x ∷ after → All P xs → P x
of_all {X} P xs before x after cut all =
    All-contains P (before ++ x ∷ after) x (subst (λ (ys : List X). All P ys) cut all) (Contains-append_right before (x ∷ after) x (contains_head x after))

-- the first item of which something doesn't hold has one place
pub one_first : {X : Type 0} (P : X → Type 0) (before before' : List X) (x x' : X) (after after' : List X) → before ++ x ∷ after ≡ before' ++ x' ∷ after'
    → All P before → ¬ P x → All P before' → ¬ P x' → length before ≡ length before'
one_first P [] [] x x' after after' e all none all' none' = refl
one_first P [] (y ∷ ys) x x' after after' e all none all' none' =
    let same : x ≡ y = cc e in absurd (none (subst P (sym same) (All-head P y ys all')))
one_first P (y ∷ ys) [] x x' after after' e all none all' none' =
    let same : y ≡ x' = cc e in absurd (none' (subst P same (All-head P y ys all)))
one_first P (y ∷ ys) (z ∷ zs) x x' after after' e all none all' none' =
    let rest : ys ++ x ∷ after ≡ zs ++ x' ∷ after' = cc e in
    let same = one_first P ys zs x x' after after' rest (All-tail P y ys all) none (All-tail P z zs all') none' in
    omega arith

-- the first line that is too long is one
pub long_is_one : (text : List ℕ) (m n : ℕ) → IsFirstLong text m → IsFirstLong text n → m ≡ n
long_is_one text m n a b =
    let long = a.long in
    let long' = b.long in
    let same = one_first IsShort a.before b.before a.line b.line a.is.after b.is.after (sym a.is.lines ∙ b.is.lines) a.short (λ short. omega (arith, long, short)) b.short (λ short. omega (arith, long', short)) in
    let m_is = a.is.number_is in
    let n_is = b.is.number_is in
    omega arith

-- and there is none where all lines are short
pub long_or_short : (text : List ℕ) (n : ℕ) → IsFirstLong text n → HasShortLines text → ⊥
long_or_short text n a short =
    let of_line = of_all IsShort (lines_of text) a.before a.line a.is.after a.is.lines short in
    let long = a.long in
    omega (arith, long, of_line)

-- the first line that is no node is one
pub bad_is_one : (text : List ℕ) (m n : ℕ) → IsFirstBad text m → IsFirstBad text n → m ≡ n
bad_is_one text m n a b =
    let same = one_first IsSymptomLine a.before b.before a.line b.line a.is.after b.is.after (sym a.is.lines ∙ b.is.lines) a.good a.bad b.good b.bad in
    let m_is = a.is.number_is in
    let n_is = b.is.number_is in
    omega arith

-- and there is none where the text lists nodes
pub bad_or_listed : (text : List ℕ) (n : ℕ) (nodes : List NodeName) → IsFirstBad text n → ListsNodes text nodes → ⊥
bad_or_listed text n nodes a lists = a.bad (of_all IsSymptomLine (lines_of text) a.before a.line a.is.after a.is.lines lists.lines)

-- a text lists nodes in one way
pub nodes_are_one : (text : List ℕ) (xs ys : List NodeName) → ListsNodes text xs → ListsNodes text ys → xs ≡ ys
nodes_are_one text xs ys a b =
    same_rising node_cmp node_strict xs ys a.rise b.rise
    (λ n c. let (line, in_lines, spells) = a.each n c in b.all n line in_lines spells)
    (λ n c. let (line, in_lines, spells) = b.each n c in a.all n line in_lines spells)

-- a line whose first word begins with another byte than `#` isn't ignored
pub not_passed : (line word : List ℕ) (words : List (List ℕ)) (b : ℕ) → words_of line ≡ word ∷ words → slice_get word 0 ≡ Some b → b ≢ 35 → ¬ IsPassedOver line
not_passed line word words b is first other passed =
    let hash : slice_get word 0 ≡ Some 35 = subst (λ (ws : List (List ℕ)). MatchOption (slice_get ws 0) ⊤ (λ w. slice_get w 0 ≡ Some 35)) is passed in
    other (same_Some b 35 (sym first ∙ hash))
  where
    same_Some : (x y : ℕ) → Some x ≡ Some y → x ≡ y
    same_Some x y e = cc

-- a line that is ignored spells no edit
pub passed_is_no_edit : (line : List ℕ) (edit : Edit) → IsPassedOver line → ¬ SpellsEdit line edit
passed_is_no_edit line (Create name class) passed spells = not_passed line _ _ 99 spells.says refl (λ e. omega arith) passed
passed_is_no_edit line (Delete name) passed spells = not_passed line _ _ 100 spells.says refl (λ e. omega arith) passed
passed_is_no_edit line (Link a rel b) passed spells = not_passed line _ _ 108 spells.says refl (λ e. omega arith) passed
passed_is_no_edit line (Unlink a rel b) passed spells = not_passed line _ _ 117 spells.says refl (λ e. omega arith) passed
passed_is_no_edit line (Mute event name) passed spells = not_passed line _ _ 109 spells.says refl (λ e. omega arith) passed
passed_is_no_edit line (Unmute event name) passed spells = not_passed line _ _ 117 spells.says refl (λ e. omega arith) passed

module _ (t : Topology) (line : List ℕ) (regular : IsRegular t.model) where
  -- a line makes one topology
  line_is_one : (u v : Topology) → LineMakes t line u → LineMakes t line v → u ≡ v
  line_is_one u v (inl (passed, same)) (inl (_, same')) = sym same ∙ same'
  line_is_one u v (inl (passed, same)) (inr (edit, spells, _)) = absurd (passed_is_no_edit line edit passed spells)
  line_is_one u v (inr (edit, spells, _)) (inl (passed, same)) = absurd (passed_is_no_edit line edit passed spells)
  line_is_one u v (inr (edit, spells, after)) (inr (other, spells', after')) =
      let same = spelled_once (words_of line) other edit spells' spells in
      let one = after_is_one t edit (Ok u) (Ok v) regular after (subst (λ (e : Edit). IsAfter t e (Ok v)) same after') in
      cc one

  -- a wrong line makes none
  wrong_or_made : (fault : LineFault) (u : Topology) → IsWrong t line fault → LineMakes t line u → ⊥
  wrong_or_made BadWords u (not_passed_over, none) (inl (passed, _)) = not_passed_over passed
  wrong_or_made BadWords u (not_passed_over, none) (inr (edit, spells, _)) = none edit spells
  wrong_or_made (Refused why) u (edit, spells, _) (inl (passed, _)) = passed_is_no_edit line edit passed spells
  wrong_or_made (Refused why) u (edit, spells, refused) (inr (other, spells', after)) =
      let same = spelled_once (words_of line) other edit spells' spells in
      let one = after_is_one t edit (Err why) (Ok u) regular refused (subst (λ (e : Edit). IsAfter t e (Ok u)) same after) in
      cc

  -- one thing is wrong with it
  wrong_fault_is_one : (one other : LineFault) → IsWrong t line one → IsWrong t line other → one ≡ other
  wrong_fault_is_one BadWords BadWords a b = refl
  wrong_fault_is_one BadWords (Refused why) (_, none) (edit, spells, _) = absurd (none edit spells)
  wrong_fault_is_one (Refused why) BadWords (edit, spells, _) (_, none) = absurd (none edit spells)
  wrong_fault_is_one (Refused why) (Refused why') (edit, spells, refused) (other, spells', refused') =
      let same = spelled_once (words_of line) other edit spells' spells in
      let one = after_is_one t edit (Err why) (Err why') regular refused (subst (λ (e : Edit). IsAfter t e (Err why')) same refused') in
      let why_is : why ≡ why' = cc one in
      ap (λ w. Refused w) why_is

-- a line leaves the model
line_keeps_model : (t : Topology) (line : List ℕ) (u : Topology) → LineMakes t line u → u.model ≡ t.model
line_keeps_model t line u (inl (_, same)) = ap (λ (v : Topology). v.model) (sym same)
line_keeps_model t line u (inr (edit, _, after)) = model_stays t u edit after.1

regular_next : (t : Topology) (line : List ℕ) (u : Topology) → IsRegular t.model → LineMakes t line u → IsRegular u.model
regular_next t line u regular makes = subst IsRegular (sym (line_keeps_model t line u makes)) regular

lines_keep_model : (t : Topology) (lines : List (List ℕ)) (u : Topology) → LinesMake t lines u → u.model ≡ t.model
lines_keep_model t [] u same = ap (λ (v : Topology). v.model) (sym same)
lines_keep_model t (line ∷ lines) u (x, makes, rest) = lines_keep_model x lines u rest ∙ line_keeps_model t line x makes

-- a text makes a topology of the model that it begins with
pub made_of : (tables : Tables) (text : List ℕ) (u : Topology) → MakesTopology tables text u → u.model ≡ tables
made_of tables text u m = lines_keep_model (empty_topology tables) (lines_of text) u m.makes

-- lines make one topology
lines_are_one : (t : Topology) (lines : List (List ℕ)) (u v : Topology) → IsRegular t.model → LinesMake t lines u → LinesMake t lines v → u ≡ v
lines_are_one t [] u v regular a b = sym a ∙ b
lines_are_one t (line ∷ lines) u v regular (x, makes, rest) (y, makes', rest') =
    let same = line_is_one t line regular x y makes makes' in
    lines_are_one x lines u v (regular_next t line x regular makes) rest (subst (λ (z : Topology). LinesMake z lines v) (sym same) rest')

-- lines of which one is wrong make none
wrong_among : (t : Topology) (before : List (List ℕ)) (line : List ℕ) (after : List (List ℕ)) (made u : Topology) (fault : LineFault) → IsRegular t.model
    → LinesMake t before made → IsWrong made line fault → LinesMake t (before ++ line ∷ after) u → ⊥
wrong_among t [] line after made u fault regular makes wrong (x, makes_x, _) =
    wrong_or_made t line regular fault x (subst (λ (z : Topology). IsWrong z line fault) (sym makes) wrong) makes_x
wrong_among t (y ∷ ys) line after made u fault regular (x, makes_x, rest) wrong (x', makes_x', rest') =
    let same = line_is_one t y regular x x' makes_x makes_x' in
    wrong_among x ys line after made u fault (regular_next t y x regular makes_x) rest wrong
    (subst (λ (z : Topology). LinesMake z (ys ++ line ∷ after) u) (sym same) rest')

-- the first wrong line has one place, and one thing is wrong there
one_wrong : (t : Topology) (before before' : List (List ℕ)) (line line' : List ℕ) (after after' : List (List ℕ)) (made made' : Topology) (fault fault' : LineFault) → IsRegular t.model
    → before ++ line ∷ after ≡ before' ++ line' ∷ after' → LinesMake t before made → IsWrong made line fault → LinesMake t before' made' → IsWrong made' line' fault'
    → (length before ≡ length before') × (fault ≡ fault')
one_wrong t [] [] line line' after after' made made' fault fault' regular e makes wrong makes' wrong' =
    let same : line ≡ line' = cc e in
    let here = subst (λ (z : Topology). IsWrong z line fault) (sym makes) wrong in
    let there = subst (λ (l : List ℕ). IsWrong t l fault') (sym same) (subst (λ (z : Topology). IsWrong z line' fault') (sym makes') wrong') in
    (refl, wrong_fault_is_one t line regular fault fault' here there)
one_wrong t [] (y ∷ ys) line line' after after' made made' fault fault' regular e makes wrong (x, makes_x, _) wrong' =
    let same : line ≡ y = cc e in
    let here = subst (λ (z : Topology). IsWrong z line fault) (sym makes) wrong in
    absurd (wrong_or_made t line regular fault x here (subst (λ (l : List ℕ). LineMakes t l x) (sym same) makes_x))
one_wrong t (y ∷ ys) [] line line' after after' made made' fault fault' regular e (x, makes_x, _) wrong makes' wrong' =
    let same : y ≡ line' = cc e in
    let there = subst (λ (z : Topology). IsWrong z line' fault') (sym makes') wrong' in
    absurd (wrong_or_made t line' regular fault' x there (subst (λ (l : List ℕ). LineMakes t l x) same makes_x))
one_wrong t (y ∷ ys) (z ∷ zs) line line' after after' made made' fault fault' regular e (x, makes_x, rest) wrong (x', makes_x', rest') wrong' =
    let head : z ≡ y = cc e in
    let tail : ys ++ line ∷ after ≡ zs ++ line' ∷ after' = cc e in
    let same : x' ≡ x = line_is_one t y regular x' x (subst (λ (l : List ℕ). LineMakes t l x') head makes_x') makes_x in
    let one = one_wrong x ys zs line line' after after' made made' fault fault' (regular_next t y x regular makes_x) tail rest wrong
    (subst (λ (u : Topology). LinesMake u zs made') same rest') wrong' in
    let place = one.0 in
    (omega (arith, place), one.1)

module _ (tables : Tables) (regular : IsRegular tables) (text : List ℕ) where
  -- a text makes one topology
  pub topology_is_one : (u v : Topology) → MakesTopology tables text u → MakesTopology tables text v → u ≡ v
  topology_is_one u v a b = lines_are_one (empty_topology tables) (lines_of text) u v regular a.makes b.makes

  -- its first wrong line is one, and one thing is wrong there
  pub wrong_is_one : (m n : ℕ) (fault fault' : LineFault) → IsFirstWrong tables text m fault → IsFirstWrong tables text n fault' → (m ≡ n) × (fault ≡ fault')
  wrong_is_one m n fault fault' a b =
      let one = one_wrong (empty_topology tables) a.before b.before a.line b.line a.is.after b.is.after a.made b.made fault fault' regular
      (sym a.is.lines ∙ b.is.lines) a.makes a.wrong b.makes b.wrong in
      let place = one.0 in
      let m_is = a.is.number_is in
      let n_is = b.is.number_is in
      (omega arith, one.1)

  -- and there is none where the text makes a topology
  pub wrong_or_makes : (n : ℕ) (fault : LineFault) (u : Topology) → IsFirstWrong tables text n fault → MakesTopology tables text u → ⊥
  wrong_or_makes n fault u a makes =
      wrong_among (empty_topology tables) a.before a.line a.is.after a.made u fault regular a.makes a.wrong
      (subst (λ (ls : List (List ℕ)). LinesMake (empty_topology tables) ls u) a.is.lines makes.makes)
