-- Walks by numbers to links that move are walks by names to links that an edit moves.
use Rattle.std.proofs.Common.{◌≡◌, ◌⊎◌, inl, inr, ℕ, List, [], ◌∷◌, Bool, true, false, is_some, refl, sym, ap, subst, ◌∙◌}
use Rattle.std.specs.FinMap as map
use Rattle.std.proofs.lemmas.Bool.{cases_eq}
use Rattle.cb_model.specs.declared.id.ClassId.{ClassId}
use Rattle.cb_model.specs.declared.id.RelId.{RelId}
use Rattle.cb_model.specs.declared.tables.Place.{Place}
use Rattle.cb_model.proofs.Rising.{name_cmp_total, name_cmp_exact}
use Rattle.cb_network.specs.declared.edit.Edit.{Edit}
use Rattle.cb_network.specs.declared.edit.Edit.TheVariants.{Create, Delete, Link, Unlink, Mute, Unmute}
use Rattle.cb_network.specs.Topology.{Topology, HasLink, HasClass, IsLive as IsLiveName}
use Rattle.cb_network.specs.Edits.{NamesPair, without_instance}
use Rattle.cb_network.specs.Causes.{Run, Ahead}
use Rattle.cb_network.specs.Regular.{IsRegular}
use Rattle.cb_network.proofs.Kept.{class_of}
use Rattle.cb_network.proofs.Sets.{got_remove}
use Rattle.cb_change.specs.Before.{MovesLink, LeadsToChange, IsEitherWay}
use Rattle.cb_change.specs.Laws.{IsStep}
use Rattle.cb_change.proofs.Moved.{one_pair}
use Rattle.cb_instances.specs.declared.id.InstanceId.{InstanceId}
use Rattle.cb_instances.specs.Net.{Net, IsNamed, LinkAt, IsWholeNet}
use Rattle.cb_graph.specs.declared.moves.Moves.{Moves}
use Rattle.cb_graph.specs.declared.moves.Moves.TheVariants.{Pair, AllOf}
use Rattle.cb_graph.specs.Touched.{ArePair, AreMovedBy, StartsAt, ComesAt, Remains}
use Rattle.cb_graph.proofs.Listing.{same_instance}
use Rattle.cb_graph.specs.Walks.{RunsAt}
use Rattle.cb_graph.proofs.Walking.{one_name, runs_names, link_named, link_numbered}

-- the links that move are these, by names, and make this topology of the one before
pub record MoveThese (n : Net) (moves : Moves) (by_name : List ℕ → RelId → List ℕ → Type 0) (new : Topology) : Type 0 where
  pub started : (i : InstanceId) (a : List ℕ) (q : RelId) → IsNamed n i a → StartsAt n moves q i → (b : List ℕ) × by_name a q b
  pub starts : (i : InstanceId) (a : List ℕ) (q : RelId) (b : List ℕ) → IsNamed n i a → Remains moves i → by_name a q b → StartsAt n moves q i
  pub ends : (j : InstanceId) → Remains moves j ⊎ ((i : InstanceId) (q : RelId) → LinkAt n i q j → StartsAt n moves q i)
  pub left : (i : InstanceId) (a : List ℕ) (c : ClassId) → IsNamed n i a → HasClass n.topology a c → Remains moves i → IsLiveName new a
  pub leaves : (i : InstanceId) (a : List ℕ) → IsNamed n i a → IsLiveName new a → Remains moves i

module _ (n : Net) (whole : IsWholeNet n) (moves : Moves) (by_name : List ℕ → RelId → List ℕ → Type 0) (new : Topology) (these : MoveThese n moves by_name new) where
  pub comes_by_name : (i : InstanceId) (a : List ℕ) (path : List Place) → IsNamed n i a → ComesAt n moves i path → LeadsToChange n.topology by_name a path
  comes_by_name i a [] named none = none
  comes_by_name i a (place ∷ rest) named (last, run, comes) =
      let (b, last_named, ahead) = runs_names n whole place.rel place.plus i last run a named in
      elim comes [
        | inl start ↦ let s = these.started last b place.rel last_named start in (b, ahead, s.0, inl s.1)
        | inr (j, link, later) ↦ (b, ahead, link.to, inr (link_named n whole place.rel last j link b last_named, comes_by_name j link.to rest link.to_is later))
      ]

  -- a run of links passes an instance where a link that moves starts, or ends at an instance that stays
  module _ (r : RelId) where
    abbrev Ends : Bool → InstanceId → List ℕ → Type 0
    Ends plus i b = ((last : InstanceId) × RunsAt n r plus i last × StartsAt n moves r last)
        ⊎ ((last : InstanceId) × RunsAt n r plus i last × IsNamed n last b × Remains moves last)

    run_ends : (i : InstanceId) (a : List ℕ) (between : List (List ℕ)) (b : List ℕ) → IsNamed n i a → Remains moves i → Run (λ x y. HasLink n.topology x r y) a between b → Ends true i b
    run_ends i a [] b named remains same = inr (i, ([], refl), subst (IsNamed n i) same named, remains)
    run_ends i a (x ∷ xs) b named remains run =
        let (j, j_named, link) = link_numbered n whole r i a x run.0 named in
        elim (these.ends j) [
          | inr goes ↦ inl (i, ([], refl), goes i r link)
          | inl there ↦ elim (run_ends j x xs b j_named there run.1) [
            | inl (last, (between, later), starts) ↦ inl (last, (j ∷ between, (link, later)), starts)
            | inr (last, (between, later), is, stays) ↦ inr (last, (j ∷ between, (link, later)), is, stays)
          ]
        ]

    ahead_ends : (plus : Bool) (i : InstanceId) (a b : List ℕ) → IsNamed n i a → Remains moves i → Ahead (λ x y. HasLink n.topology x r y) plus a b → Ends plus i b
    ahead_ends true i a b named remains ahead = run_ends i a ahead.0 b named remains ahead.1
    ahead_ends false i a b named remains same = inr (i, refl, subst (IsNamed n i) same named, remains)

  pub comes_by_number : (i : InstanceId) (a : List ℕ) (path : List Place) → IsNamed n i a → Remains moves i → LeadsToChange n.topology by_name a path → ComesAt n moves i path
  comes_by_number i a [] named remains none = none
  comes_by_number i a (place ∷ rest) named remains (x, ahead, y, comes) =
      elim (ahead_ends place.rel place.plus i a x named remains ahead) [
        | inl (last, run, starts) ↦ (last, run, inl starts)
        | inr (last, run, last_named, there) ↦ elim comes [
          | inl moved ↦ (last, run, inl (these.starts last x place.rel y last_named there moved))
          | inr (has, later) ↦
              let (j, j_named, link) = link_numbered n whole place.rel last x y has last_named in
              elim (these.ends j) [
                | inl stays ↦ (last, run, inr (j, link, comes_by_number j y rest j_named stays later))
                | inr goes ↦ (last, run, inl (goes last place.rel link))
              ]
        ]
      ]

-- a link that is named, and its inverse
abbrev MovesPair : Topology → List ℕ → List ℕ → List ℕ → List ℕ → RelId → List ℕ → Type 0
MovesPair t a rel b x q y = (r : RelId) × (s : RelId) × NamesPair t a rel r s × IsEitherWay x q y a r s b

module _ (n : Net) (whole : IsWholeNet n) (regular : IsRegular n.topology.model) where
  module _ (a rel b : List ℕ) (from : InstanceId) (r : RelId) (to : InstanceId) (s : RelId) (pair : ArePair n a rel b from r to s) where
    pair_starts : (i : InstanceId) (x : List ℕ) (q : RelId) (y : List ℕ) → IsNamed n i x → MovesPair n.topology a rel b x q y → StartsAt n (Pair from r to s) q i
    pair_starts i x q y named (r', s', names, either) =
        let same = one_pair n.topology regular a rel r s r' s' pair.names names in
        elim either [
          | inl (is_a, is_r, is_b) ↦ inl (is_r ∙ sym same.0, whole.one i from a (subst (IsNamed n i) is_a named) pair.from_is)
          | inr (is_b, is_s, is_a) ↦ inr (is_s ∙ sym same.1, whole.one i to b (subst (IsNamed n i) is_b named) pair.to_is)
        ]

    pair_started : (i : InstanceId) (x : List ℕ) (q : RelId) → IsNamed n i x → StartsAt n (Pair from r to s) q i → (y : List ℕ) × MovesPair n.topology a rel b x q y
    pair_started i x q named (inl (rel_is, at)) =
        (b, (r, s, pair.names, inl (one_name n from x a (subst (λ z. IsNamed n z x) at named) pair.from_is, rel_is, refl)))
    pair_started i x q named (inr (rel_is, at)) =
        (a, (r, s, pair.names, inr (one_name n to x b (subst (λ z. IsNamed n z x) at named) pair.to_is, rel_is, refl)))

    pub pair_moves : (new : Topology) → n.topology.instances ≡ new.instances → MoveThese n (Pair from r to s) (MovesPair n.topology a rel b) new
    pair_moves new same = record {
      started = pair_started;
      starts = λ i x q y named _ moved. pair_starts i x q y named moved;
      ends = λ j. inl tt;
      left = λ i x c named of_class _. subst (λ m. is_some (map.get m x) ≡ true) same (ap is_some of_class);
      leaves = λ i x named live. tt;
    }

  module _ (name : List ℕ) (id : InstanceId) (named : IsNamed n id name) where
    pub all_move : MoveThese n (AllOf id) (MovesLink n.topology (Delete name)) (without_instance n.topology name)
    all_move = record {
      started = λ i x q at link. (
        name,
        (
          subst (λ z. HasLink n.topology z q name) (one_name n i link.from x link.from_is at)
              (subst (λ z. HasLink n.topology link.from q z) (one_name n id link.to name link.to_is named) link.linked),
          inr refl,
        ),
      );
      starts = λ i x q y at remains moved. elim moved.1 [
        | inl gone ↦ absurd (remains (whole.one i id name (subst (IsNamed n i) gone at) named))
        | inr to ↦ record { from = x; to = name; from_is = at; to_is = named; linked = subst (HasLink n.topology x q) to moved.0 }
      ];
      ends = λ j. elim (cases_eq j.0 id.0) [
        | inl same ↦ inr (λ i q link. subst (LinkAt n i q) (same_instance j id same) link)
        | inr other ↦ inl (λ e. other (ap (λ (z : InstanceId). z.0) e))
      ];
      left = λ i x c at of_class remains.
          ap is_some ((got_remove name_cmp_total name_cmp_exact n.topology.instances name x c).1
          (λ e. remains (whole.one i id name (subst (IsNamed n i) e at) named), of_class));
      leaves = λ i x at live e.
          let (c, is) = class_of (without_instance n.topology name) x live in
          let other = ((got_remove name_cmp_total name_cmp_exact n.topology.instances name x c).0 is).0 in
          other (one_name n id x name (subst (λ z. IsNamed n z x) e at) named);
    }

  -- the links that an accepted edit moves
  pub edit_moves : (edit : Edit) (moves : Moves) (new : Topology) → AreMovedBy n edit moves → IsStep n.topology edit new → MoveThese n moves (MovesLink n.topology edit) new
  edit_moves (Create name class) moves new none step = absurd none
  edit_moves (Mute event name) moves new none step = absurd none
  edit_moves (Unmute event name) moves new none step = absurd none
  edit_moves (Delete name) (Pair from r to s) new none step = absurd none
  edit_moves (Delete name) (AllOf id) new named step =
      subst (MoveThese n (AllOf id) (MovesLink n.topology (Delete name))) (sym step.accepted.1) (all_move name id named)
  edit_moves (Link a rel b) (AllOf id) new none step = absurd none
  edit_moves (Link a rel b) (Pair from r to s) new pair step =
      pair_moves a rel b from r to s pair new (sym (ap (λ (t : Topology). t.instances) step.accepted.1.3))
  edit_moves (Unlink a rel b) (AllOf id) new none step = absurd none
  edit_moves (Unlink a rel b) (Pair from r to s) new pair step =
      pair_moves a rel b from r to s pair new (sym (ap (λ (t : Topology). t.instances) step.accepted.1.3))
