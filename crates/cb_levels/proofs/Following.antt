-- Parents that are followed.
use Rattle.std.proofs.Common.{◌≡◌, ℕ, ◌<◌, ◌≤◌, List, [], ◌∷◌, ◌++◌, length, reverse, refl, sym, subst, arith}
use Rattle.std.specs.List.{AllZip}
use Rattle.std.proofs.lemmas.Option.{slice_get_within}
use Rattle.cb_model.specs.declared.node.NodeName.{NodeName}
use Rattle.cb_model.proofs.Numbers.{zip_push}
use Rattle.cb_levels.specs.declared.levels.Levels.{Levels}
use Rattle.cb_levels.specs.Listed.{ListsInLevels}
use Rattle.cb_levels.specs.Trails.{HasParentAt, PositionsBack, IsNodeAt, IsTrail}
use Rattle.cb_levels.proofs.Lists.{listed_one}

-- parents were followed from a position to another, by these nodes
pub record IsFollowed (levels : Levels) (position at : ℕ) (names : List NodeName) : Type 0 where
  pub positions : List ℕ
  pub back : PositionsBack levels position positions at
  pub names_are : AllZip (IsNodeAt levels) (position ∷ positions) names
  pub low : at < length levels.entries

one_position_more : (levels : Levels) (positions : List ℕ) (position at parent : ℕ) → PositionsBack levels position positions at → HasParentAt levels at parent
    → PositionsBack levels position (positions ++ parent ∷ []) parent
one_position_more levels [] position at parent back has = (subst (λ k. HasParentAt levels k parent) (sym back) has, refl)
one_position_more levels (p ∷ rest) position at parent back has = (back.0, one_position_more levels rest p at parent back.1 has)

pub followed_none : (levels : Levels) (position : ℕ) (names : List NodeName) (name : NodeName) → position < length levels.entries → IsNodeAt levels position name
    → names ≡ [] ++ name ∷ [] → IsFollowed levels position position names
followed_none levels position names name low at is = record {
  positions = [];
  back = refl;
  names_are = subst (AllZip (IsNodeAt levels) (position ∷ [])) (sym is) (at, tt);
  low = low;
}

pub followed_more : (levels : Levels) (position at parent : ℕ) (names names' : List NodeName) (name : NodeName) → IsFollowed levels position at names
    → HasParentAt levels at parent → parent < at → IsNodeAt levels parent name → names' ≡ names ++ name ∷ [] → IsFollowed levels position parent names'
followed_more levels position at parent names names' name so_far has below at_parent is =
    let low = so_far.low in
    record {
      positions = so_far.positions ++ parent ∷ [];
      back = one_position_more levels so_far.positions position at parent so_far.back has;
      names_are = subst (AllZip (IsNodeAt levels) (position ∷ (so_far.positions ++ parent ∷ []))) (sym is)
          (zip_push (IsNodeAt levels) (position ∷ so_far.positions) names parent name so_far.names_are at_parent);
      low = omega arith;
    }

pub followed_all : (levels : Levels) (position at : ℕ) (names nodes : List NodeName) → IsFollowed levels position at names → at ≡ 0 → nodes ≡ reverse names
    → IsTrail levels position nodes
followed_all levels position at names nodes so_far end is = record {
  positions = so_far.positions;
  back = subst (λ k. PositionsBack levels position so_far.positions k) end so_far.back;
  names = names;
  names_are = so_far.names_are;
  is = is;
}

-- an entry lists one node
pub one_node_at : (levels : Levels) (position : ℕ) (m n : NodeName) → IsNodeAt levels position m → IsNodeAt levels position n → m ≡ n
one_node_at levels position m n a b = listed_one levels position a.0 b.0 m n a.1 b.1

-- none of the entries before a position lists the node
abbrev pub ListNot : Levels → NodeName → ℕ → Type 0
ListNot levels node position = (before : ℕ) → before < position → ¬ IsNodeAt levels before node

pub lists_nowhere : (levels : Levels) (node : NodeName) (position : ℕ) → length levels.entries ≤ position → ListNot levels node position → ¬ ListsInLevels levels node
lists_nowhere levels node position all none (at, entry, listed) =
    let low = slice_get_within levels.entries at entry listed.is in
    none at (omega arith) (entry, listed)
