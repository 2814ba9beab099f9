-- The word of raised nodes over columns that are known by numbers, one node after the other.
use Rattle.std.proofs.Common.{◌≡◌, ℕ, ◌+◌, ◌<◌, ◌≤◌, ◌++◌, List, [], ◌∷◌, length, replicate, slice_set, Bool, true, false, not, None, Some, cond, refl, ap, ◌∙◌, arith}
use Rattle.std.proofs.lemmas.List.{length-set, length-replicate, length_push}
use Rattle.std.proofs.lemmas.List.Sums.{sum_by_push}
use Rattle.cb_model.specs.declared.node.NodeName.{NodeName}
use Rattle.cb_model.specs.NodeOrder.{node_cmp}
use Rattle.cb_model.specs.Order.{Rises}
use Rattle.cb_finding.specs.Finding.{is_among, unknown_of}
use Rattle.cb_nodes.specs.declared.id.NodeId.{NodeId}
use Rattle.cb_topo.specs.Numbered.{Numbered, AreNamed}
use Rattle.cb_decode.specs.declared.word.RaisedWord.{RaisedWord}
use Rattle.cb_decode.specs.Found.{IsPlaceAmong, IsWordOf}
use Rattle.cb_decode.proofs.Heard.{IsHeard, none_heard, heard_there, heard_nowhere, heard_all}
use Rattle.cb_decode.proofs.Placed.{is_known, is_unknown}

length_named : (n : Numbered) (ids : List NodeId) (names : List NodeName) → AreNamed n ids names → length ids ≡ length names
length_named n [] [] zip = refl
length_named n [] (x ∷ names) zip = absurd zip
length_named n (a ∷ ids) [] zip = absurd zip
length_named n (a ∷ ids) (x ∷ names) zip = (let rest = length_named n ids names zip.1 in omega arith)

-- the word and the number of unknown nodes, once these nodes were raised
pub record AreRaised (n : Numbered) (ids : List NodeId) (nodes : List NodeName) (word : List Bool) (unknown : ℕ) : Type 0 where
  pub long : length word ≡ length ids
  pub few : unknown ≤ length nodes
  pub heard : (names : List NodeName) → AreNamed n ids names → IsHeard node_cmp names nodes word
  pub counted : (names : List NodeName) → AreNamed n ids names → unknown ≡ unknown_of names nodes

module _ (n : Numbered) (ids : List NodeId) where
  pub none_raised : (word : List Bool) → word ≡ replicate (length ids) false → AreRaised n ids [] word 0
  none_raised word is = record {
    long = ap length is ∙ length-replicate (length ids) false;
    few = omega arith;
    heard = λ names named. none_heard node_cmp names word (is ∙ ap (λ k. replicate k false) (length_named n ids names named));
    counted = λ names named. refl;
  }

  module _ (nodes more : List NodeName) (node : NodeName) (joins : more ≡ nodes ++ node ∷ []) (word : List Bool) (unknown : ℕ) (raised : AreRaised n ids nodes word unknown) where
    one_more : (names : List NodeName) → unknown_of names more ≡ unknown_of names nodes + cond (not (is_among names node)) 1 0
    one_more names = ap (unknown_of names) joins ∙ sum_by_push (λ x. cond (not (is_among names x)) 1 0) nodes node

    longer : length more ≡ length nodes + 1
    longer = ap length joins ∙ length_push nodes node

    -- a column is raised
    pub column_raised : (place : ℕ) → place < length ids → ((names : List NodeName) → AreNamed n ids names → IsPlaceAmong names node (Some place))
        → AreRaised n ids more (slice_set word place true) unknown
    column_raised place within there = record {
      long = length-set word place true ∙ raised.long;
      few = (let few = raised.few in let long = longer in omega arith);
      heard = λ names named. heard_there node_cmp names nodes more node joins word (raised.heard names named) place (there names named);
      counted = λ names named.
          let one : unknown_of names more ≡ unknown_of names nodes + 0 =
          one_more names ∙ ap (λ b. unknown_of names nodes + cond (not b) 1 0) (is_known names node place (there names named)) in
          let so_far = raised.counted names named in
          omega arith;
    }

    -- a node that is no column
    pub other_raised : ((names : List NodeName) → AreNamed n ids names → IsPlaceAmong names node None) → AreRaised n ids more word (unknown + 1)
    other_raised nowhere = record {
      long = raised.long;
      few = (let few = raised.few in let long = longer in omega arith);
      heard = λ names named. heard_nowhere node_cmp names nodes more node joins word (raised.heard names named) (nowhere names named);
      counted = λ names named.
          let one : unknown_of names more ≡ unknown_of names nodes + 1 =
          one_more names ∙ ap (λ b. unknown_of names nodes + cond (not b) 1 0) (is_unknown names node (nowhere names named)) in
          let so_far = raised.counted names named in
          omega arith;
    }

  pub all_raised : (nodes : List NodeName) (said : RaisedWord) → Rises node_cmp nodes → AreRaised n ids nodes said.word said.unknown → said.raised ≡ length nodes
      → (names : List NodeName) → AreNamed n ids names → IsWordOf names nodes said
  all_raised nodes said rise raised count names named = record {
    rise = rise;
    word = heard_all node_cmp names nodes said.word (raised.heard names named);
    raised = count;
    unknown = raised.counted names named;
  }
