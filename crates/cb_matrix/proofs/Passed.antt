-- The code of a set of nodes, as nodes join the set and leave it.
use Rattle.std.proofs.Common.{◌≡◌, ◌↔◌, ℕ, ◌+◌, ◌<◌, ◌≤◌, ◌&&◌, List, Bool, false, true, not, length, replicate, None, Some, slice_get, slice_index_or, refl, sym, ap, subst, ◌∙◌, ◌⊎◌, inl, inr, arith}
use Rattle.std.specs.Prelude.{slice_set}
use Rattle.std.proofs.lemmas.Bool.{cases_eq, cases_lt}
use Rattle.std.proofs.lemmas.List.{length-set, length-replicate, get_or-set_same, get_or-set_other}
use Rattle.std.proofs.lemmas.Option.{slice_get_within}
use Rattle.cb_nodes.specs.declared.id.NodeId.{NodeId}
use Rattle.cb_bits.specs.Bits.{difference, IsNextOne, HasNoneFrom}
use Rattle.cb_bits.proofs.NextOnes.{without_at}
use Rattle.cb_successors.specs.Rows.{Has}
use Rattle.cb_successors.proofs.Marks.{has_set, set_cases, nothing}
use Rattle.cb_graph.specs.Edges.{number}
use Rattle.cb_topo.specs.Columns.{IsPositionOf}
use Rattle.cb_matrix.specs.Codes.{IsCodeWhere, IsCodeOf, IsCodeOfEither}

-- of each column: it is among these exactly where its node is in the set
abbrev pub Agrees : List NodeId → (ℕ → Type 0) → (ℕ → Type 0) → Type 0
Agrees columns Among Set = (place node : ℕ) → slice_get columns place ≡ Some (number node) → Among place ↔ Set node

pub still : (code : List Bool) (p k : ℕ) → p < length code → Has code k → Has (slice_set code p true) k
still code p k low has = elim (cases_eq k p) [
  | inl same ↦ subst (Has (slice_set code p true)) (sym same) (has_set code p low)
  | inr other ↦ get_or-set_other code p k true false other ∙ has
]

set_there : (code : List Bool) (place : ℕ) → place < length code → (k : ℕ) → Has (slice_set code place true) k ↔ (Has code k ⊎ (k ≡ place))
set_there code place low k = (
  λ has. elim (set_cases code place k has) [ inl same ↦ inr same | inr had ↦ inl had ],
  λ is. elim is [ inl had ↦ still code place k low had | inr same ↦ subst (Has (slice_set code place true)) (sym same) (has_set code place low) ],
)

pub same_number : (columns : List NodeId) (place a b : ℕ) → slice_get columns place ≡ Some (number a) → slice_get columns place ≡ Some (number b) → a ≡ b
same_number columns place a b is at =
    let both : Some (number a) ≡ Some (number b) = sym is ∙ at in
    let e : number a ≡ number b = cc in
    ap (λ (x : NodeId). x.0) e

-- the node's column has this position, and no other node's has
module _ (columns : List NodeId) (node place : ℕ) (at : IsPositionOf columns (number node) (Some place)) where
  pub is_there : slice_get columns place ≡ Some (number node)
  is_there = (at place).1 refl

  this_one : (k m : ℕ) → slice_get columns k ≡ Some (number m) → (k ≡ place → m ≡ node) × (m ≡ node → k ≡ place)
  this_one k m there = (
    λ same. sym (same_number columns place node m is_there (subst (λ p. slice_get columns p ≡ Some (number m)) same there)),
    λ same. (at k).0 (subst (λ n. slice_get columns k ≡ Some (number n)) same there),
  )

  -- it joins the set
  pub joins : (Among After Old New : ℕ → Type 0) → Agrees columns Among Old → ((k : ℕ) → After k ↔ (Among k ⊎ (k ≡ place)))
      → ((m : ℕ) → New m ↔ (Old m ⊎ (m ≡ node))) → Agrees columns After New
  joins Among After Old New old one more k m there = (
    λ is. (more m).1 (elim ((one k).0 is) [ inl among ↦ inl ((old k m there).0 among) | inr same ↦ inr ((this_one k m there).0 same) ]),
    λ is. (one k).1 (elim ((more m).0 is) [ inl before ↦ inl ((old k m there).1 before) | inr same ↦ inr ((this_one k m there).1 same) ]),
  )

-- a node that is no column joins or leaves the set
pub passes : (columns : List NodeId) (Among Old New : ℕ → Type 0) (node : ℕ) → IsPositionOf columns (number node) None
    → Agrees columns Among Old → ((m : ℕ) → ¬ (m ≡ node) → New m ↔ Old m) → Agrees columns Among New
passes columns Among Old New node none old same k m there =
    let alike = same m (λ is. none k (subst (λ n. slice_get columns k ≡ Some (number n)) is there)) in
    (λ has. alike.1 ((old k m there).0 has), λ is. (old k m there).1 (alike.0 is))

-- one set, and another that differs at one node alone
module _ (columns : List NodeId) (Old New : ℕ → Type 0) (code : List Bool) (node : ℕ) (old : IsCodeWhere columns Old code) where
  module _ (place : ℕ) (at : IsPositionOf columns (number node) (Some place)) where
    pub place_low : place < length code
    place_low = let e = slice_get_within columns place (number node) (is_there columns node place at) in let f = old.width in omega arith

    -- it joins the set
    pub joined : ((m : ℕ) → New m ↔ (Old m ⊎ (m ≡ node))) → IsCodeWhere columns New (slice_set code place true)
    joined more = record {
      width = length-set code place true ∙ old.width;
      each = joins columns node place at (Has code) (Has (slice_set code place true)) Old New old.each (set_there code place place_low) more;
    }

    -- it leaves the set
    pub left : ((m : ℕ) → New m ↔ (Old m × ¬ (m ≡ node))) → IsCodeWhere columns New (slice_set code place false)
    left less = record {
      width = length-set code place false ∙ old.width;
      each = λ k m there. (
        λ has. elim (cases_eq k place) [
          | inl same ↦
              let off : Has (slice_set code place false) place = subst (Has (slice_set code place false)) same has in
              let no = get_or-set_same code place false false place_low in
              absurd (cc)
          | inr other ↦
              (less m).1 ((old.each k m there).0 (sym (get_or-set_other code place k false false other) ∙ has), λ same. other ((this_one columns node place at k m there).1 same))
        ],
        λ is.
            let both = (less m).0 is in
            get_or-set_other code place k false false (λ same. both.1 ((this_one columns node place at k m there).0 same)) ∙ (old.each k m there).1 both.0,
      );
    }

  -- it is no column
  pub no_column : IsPositionOf columns (number node) None → ((m : ℕ) → ¬ (m ≡ node) → New m ↔ Old m) → IsCodeWhere columns New code
  no_column none same = record { width = old.width; each = passes columns (Has code) Old New node none old.each same }

both_of : (a b : Bool) → (a && not b) ≡ true → (a ≡ true) × (b ≡ false)
both_of true true is = absurd (cc is)
both_of true false is = (refl, refl)
both_of false b is = absurd (cc is)

pub then_other : (a b : Bool) → (a && not b) ≡ false → a ≡ true → b ≡ true
then_other true true is on = refl
then_other true false is on = absurd (cc is)
then_other false b is on = absurd (cc on)

-- the nodes of the last row, and those of the other below a number
abbrev pub AddedTo : List Bool → List Bool → ℕ → ℕ → Type 0
AddedTo row last to m = Has last m ⊎ (Has row m × (m < to))

-- the nodes of the other row, and those of the last from a number on
abbrev pub TakenTo : List Bool → List Bool → ℕ → ℕ → Type 0
TakenTo row last to m = Has row m ⊎ (Has last m × (to ≤ m))

-- of two rows of one length
module _ (columns : List NodeId) (row last : List Bool) (size : length row ≡ length last) where
  module _ (to node : ℕ) (next : IsNextOne (difference row last) to node) where
    new_there : Has row node
    new_there = (both_of _ _ (sym (without_at row last size node) ∙ next.is)).0

    in_last : (m : ℕ) → to ≤ m → m < node → Has row m → Has last m
    in_last m low high has = then_other _ _ (sym (without_at row last size m) ∙ next.first m low high) has

    pub one_added : (m : ℕ) → AddedTo row last (node + 1) m ↔ (AddedTo row last to m ⊎ (m ≡ node))
    one_added m = (
      λ is. elim is [
        | inl had ↦ inl (inl had)
        | inr both ↦ elim (cases_lt m to) [
          | inl low ↦ inl (inr (both.0, low))
          | inr on ↦ elim (cases_lt m node) [
            | inl before ↦ inl (inl (in_last m on before both.0))
            | inr after ↦ inr (let lt = both.1 in omega arith)
          ]
        ]
      ],
      λ is. elim is [
        | inl old ↦ elim old [
          | inl had ↦ inl had
          | inr both ↦ inr (both.0, let lt = both.1 in let on = next.on in omega arith)
        ]
        | inr same ↦ inr (subst (Has row) (sym same) new_there, omega arith)
      ],
    )

    pub none_added : (m : ℕ) → ¬ (m ≡ node) → AddedTo row last (node + 1) m ↔ AddedTo row last to m
    none_added m other = (
      λ is. elim ((one_added m).0 is) [ inl old ↦ old | inr same ↦ absurd (other same) ],
      λ old. (one_added m).1 (inl old),
    )

  module _ (to node : ℕ) (next : IsNextOne (difference last row) to node) where
    old_gone : slice_index_or row node false ≡ false
    old_gone = (both_of _ _ (sym (without_at last row (sym size) node) ∙ next.is)).1

    in_row : (m : ℕ) → to ≤ m → m < node → Has last m → Has row m
    in_row m low high has = then_other _ _ (sym (without_at last row (sym size) m) ∙ next.first m low high) has

    pub one_taken : (m : ℕ) → TakenTo row last (node + 1) m ↔ (TakenTo row last to m × ¬ (m ≡ node))
    one_taken m = (
      λ is. elim is [
        | inl has ↦ (inl has, λ same. let on = subst (Has row) same has in let off = old_gone in absurd (cc))
        | inr both ↦ (inr (both.0, let le = both.1 in let on = next.on in omega arith), λ same. let le = both.1 in omega arith)
      ],
      λ is. elim is.0 [
        | inl has ↦ inl has
        | inr both ↦ elim (cases_lt m node) [
          | inl before ↦ inl (in_row m both.1 before both.0)
          | inr after ↦ inr (both.0, let other = is.1 in elim (cases_eq m node) [ inl same ↦ absurd (other same) | inr unlike ↦ omega arith ])
        ]
      ],
    )

    pub none_taken : (m : ℕ) → ¬ (m ≡ node) → TakenTo row last (node + 1) m ↔ TakenTo row last to m
    none_taken m other = (λ is. ((one_taken m).0 is).0, λ is. (one_taken m).1 (is, other))

  pub none_yet : (code : List Bool) → IsCodeOf columns last code → IsCodeWhere columns (AddedTo row last 0) code
  none_yet code old = record {
    width = old.width;
    each = λ k m there. (
      λ has. inl ((old.each k m there).0 has),
      λ is. elim is [ inl had ↦ (old.each k m there).1 had | inr both ↦ absurd (let lt = both.1 in omega arith) ],
    );
  }

  pub all_added : (to : ℕ) (code : List Bool) → HasNoneFrom (difference row last) to → IsCodeWhere columns (AddedTo row last to) code → IsCodeOfEither columns row last code
  all_added to code none old = record {
    width = old.width;
    each = λ k m there. (
      λ has. elim ((old.each k m there).0 has) [ inl had ↦ inr had | inr both ↦ inl both.0 ],
      λ is. (old.each k m there).1 (elim is [
        | inl has ↦ elim (cases_lt m to) [
          | inl low ↦ inr (has, low)
          | inr on ↦ inl (then_other _ _ (sym (without_at row last size m) ∙ none m on) has)
        ]
        | inr had ↦ inl had
      ]),
    );
  }

  pub none_taken_yet : (code : List Bool) → IsCodeOfEither columns row last code → IsCodeWhere columns (TakenTo row last 0) code
  none_taken_yet code old = record {
    width = old.width;
    each = λ k m there. (
      λ has. elim ((old.each k m there).0 has) [ inl is ↦ inl is | inr had ↦ inr (had, omega arith) ],
      λ is. (old.each k m there).1 (elim is [ inl has ↦ inl has | inr both ↦ inr both.0 ]),
    );
  }

  pub all_taken : (to : ℕ) (code : List Bool) → HasNoneFrom (difference last row) to → IsCodeWhere columns (TakenTo row last to) code → IsCodeOf columns row code
  all_taken to code none old = record {
    width = old.width;
    each = λ k m there. (
      λ has. elim ((old.each k m there).0 has) [ inl is ↦ is | inr both ↦ then_other _ _ (sym (without_at last row (sym size) m) ∙ none m both.1) both.0 ],
      λ is. (old.each k m there).1 (inl is),
    );
  }

-- a row without a node has no column
pub none_coded : (columns : List NodeId) (row : List Bool) → ((k : ℕ) → ¬ Has row k) → IsCodeOf columns row (replicate (length columns) false)
none_coded columns row none = record {
  width = length-replicate (length columns) false;
  each = λ place node is. (λ has. absurd (nothing (length columns) place has), λ has. absurd (none node has));
}

-- beside a row without a node the code is the other's
pub alone_coded : (columns : List NodeId) (row last code : List Bool) → ((k : ℕ) → ¬ Has last k) → IsCodeOfEither columns row last code → IsCodeOf columns row code
alone_coded columns row last code none old = record {
  width = old.width;
  each = λ place node is. (
    λ has. elim ((old.each place node is).0 has) [ inl on ↦ on | inr had ↦ absurd (none node had) ],
    λ has. (old.each place node is).1 (inl has),
  );
}

-- of nothing no column is coded
pub nothing_coded : (columns : List NodeId) (P : ℕ → Type 0) → ((k : ℕ) → ¬ P k) → IsCodeWhere columns P (replicate (length columns) false)
nothing_coded columns P none = record {
  width = length-replicate (length columns) false;
  each = λ place node is. (λ has. absurd (nothing (length columns) place has), λ holds. absurd (none node holds));
}

-- what is the same of each node has the same code
pub as_coded : (columns : List NodeId) (P Q : ℕ → Type 0) (code : List Bool) → ((m : ℕ) → P m ↔ Q m) → IsCodeWhere columns P code → IsCodeWhere columns Q code
as_coded columns P Q code alike coded = record {
  width = coded.width;
  each = λ k m there. (λ has. (alike m).0 ((coded.each k m there).0 has), λ is. (coded.each k m there).1 ((alike m).1 is));
}
