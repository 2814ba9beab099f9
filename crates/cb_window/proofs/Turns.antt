-- Turns that are taken out of the queue, and the windows that go with them.
use Rattle.std.proofs.Common.{◌≡◌, ◌≢◌, ◌⊎◌, ◌+◌, ◌<◌, ◌≤◌, ℕ, List, refl, sym, ap, subst, ◌∙◌, inl, inr, arith, rules, Bool, true, false, cond, Option, None, Some, IfSome}
use Rattle.std.specs.BTreeMap as tree
use Rattle.std.specs.BTreeMap.{BTreeMap, is_at}
use Rattle.std.specs.BTreeSet as tree_set
use Rattle.std.specs.BTreeSet.{BTreeSet}
use Rattle.std.specs.Cmp.{IsTotalOrder}
use Rattle.std.specs.Cmp.Rules.{comparing}
use Rattle.std.specs.declared.cmp.Ordering.{Ordering}
use Rattle.std.specs.FinSet as set
use Rattle.std.specs.List.{list_any}
use Rattle.std.specs.Ordering.{nat_cmp}
use Rattle.cb_model.specs.declared.node.NodeName.{NodeName}
use Rattle.cb_model.specs.Order.{name_cmp}
use Rattle.cb_model.proofs.Rising.{then_ties, name_cmp_total, name_cmp_exact}
use Rattle.cb_network.proofs.Sets.{tied, tied_same, decide_key}
use Rattle.cb_window.specs.Kept.{turn_cmp, IsQueued, TakesOut, NoneIsDue, GoesOrStays, GoesIfDue, LosesNode, ClearsIn, IsWindowOpen}
use Rattle.cb_window.specs.declared.turn.Turn.{Turn}
use Rattle.cb_window.specs.declared.windows.Open.{Open}

pub turn_total : IsTotalOrder turn_cmp
turn_total = search (comparing, rules)

-- only equal turns tie
pub turn_exact : set.IsAntisymmetric turn_cmp
turn_exact s t e =
    let by_time : Turn → Turn → Ordering = λ s t. nat_cmp s.opened t.opened in
    let by_source : Turn → Turn → Ordering = λ s t. name_cmp s.from t.from in
    let ties = then_ties by_time by_source s t e in
    let opened = set.nat_cmp-IsAntisymmetric s.opened t.opened ties.0 in
    let from = name_cmp_exact s.from t.from ties.1 in
    λ i. record { opened = opened i; from = from i }

pub if_some : {X : Type 0} (P Q : X → Type 0) (o : Option X) → ((x : X) → P x → Q x) → IfSome o P → IfSome o Q
if_some P Q None to h = h
if_some P Q (Some x) to h = to x h

-- a test that is false
pub not_same : (b : Bool) → (b ≡ true → ⊥) → b ≡ false
not_same true ne = absurd (ne refl)
not_same false ne = refl

pub takes_out : (s n : BTreeSet Turn) (k : Turn) → tree_set.Updates turn_cmp s n k false → TakesOut s n k
takes_out s n k u other =
    let is = u.0 other in
    elim (decide_key turn_total turn_exact k other) [
      | inl same ↦
          let at : is_at (turn_cmp k) other ≡ true = tied_same turn_total turn_exact k other same in
          let gone : tree_set.contains turn_cmp n other ≡ false = is ∙ ap (λ (b : Bool). cond b false (tree_set.contains turn_cmp s other)) at in
          (λ has. absurd (cc), λ both. absurd (both.0 (sym same)))
      | inr ne ↦
          let at : is_at (turn_cmp k) other ≡ false = not_same (is_at (turn_cmp k) other) (λ e. ne (tied turn_total turn_exact k other e)) in
          let stays : tree_set.contains turn_cmp n other ≡ tree_set.contains turn_cmp s other = is ∙ ap (λ (b : Bool). cond b false (tree_set.contains turn_cmp s other)) at in
          (λ has. (λ e. ne (sym e), sym stays ∙ has), λ both. stays ∙ both.1)
    ]

-- so far a window stays, or went since it was due
abbrev pub Went : ℕ → ℕ → Option Open → Option Open → Type 0
Went w time old new = (new ≡ old) ⊎ ((o : Open) × (old ≡ Some o) × (o.opened + w ≤ time) × (new ≡ None))

-- what is so far
pub record SoFar (w time : ℕ) (old live : BTreeMap (List ℕ) Open) (queue : BTreeSet Turn) : Type 0 where
  pub queued : IsQueued live queue
  pub went : (source : List ℕ) → Went w time (tree.get name_cmp old source) (tree.get name_cmp live source)

module _ (w time : ℕ) (old live new : BTreeMap (List ℕ) Open) (queue rest : BTreeSet Turn) (turn : Turn) (updates : tree.Updates name_cmp live new turn.from None) where
  removed : (q : List ℕ) → q ≡ turn.from → tree.get name_cmp new q ≡ None
  removed q same =
      let at : is_at (name_cmp turn.from) q ≡ true = tied_same name_cmp_total name_cmp_exact turn.from q (sym same) in
      updates.0 q ∙ ap (λ (b : Bool). cond b None (tree.get name_cmp live q)) at

  kept : (q : List ℕ) → q ≢ turn.from → tree.get name_cmp new q ≡ tree.get name_cmp live q
  kept q ne =
      let at : is_at (name_cmp turn.from) q ≡ false = not_same (is_at (name_cmp turn.from) q) (λ e. ne (sym (tied name_cmp_total name_cmp_exact turn.from q e))) in
      updates.0 q ∙ ap (λ (b : Bool). cond b None (tree.get name_cmp live q)) at

  pub so_far_step : SoFar w time old live queue → turn.opened + w ≤ time → tree_set.contains turn_cmp queue turn ≡ true → TakesOut queue rest turn
      → SoFar w time old new rest
  so_far_step so due was out =
      let it = (so.queued turn).0 was in
      record {
        queued = λ other. (
          λ has.
              let both = (out other).0 has in
              let of = (so.queued other).0 both.1 in
              elim (decide_key name_cmp_total name_cmp_exact other.from turn.from) [
                | inl same ↦
                    let one : of.0 ≡ it.0 = let e : tree.get name_cmp live other.from ≡ tree.get name_cmp live turn.from = ap (tree.get name_cmp live) same in let f = of.1 in let g = it.1 in cc in
                    let opened : other.opened ≡ turn.opened = sym of.2 ∙ (ap (λ (o : Open). o.opened) one ∙ it.2) in
                    absurd (both.0 (λ i. record { opened = opened i; from = same i }))
                | inr ne ↦ (of.0, kept other.from ne ∙ of.1, of.2)
              ],
          λ of.
              elim (decide_key name_cmp_total name_cmp_exact other.from turn.from) [
                | inl same ↦ let e = removed other.from same in let f = of.1 in absurd (cc)
                | inr ne ↦ (out other).1 (λ e. ne (ap (λ (t : Turn). t.from) e), (so.queued other).1 (of.0, sym (kept other.from ne) ∙ of.1, of.2))
              ],
        );
        went = λ source. elim (decide_key name_cmp_total name_cmp_exact source turn.from) [
          | inl same ↦
              let here : tree.get name_cmp live source ≡ Some it.0 = ap (tree.get name_cmp live) same ∙ it.1 in
              elim (so.went source) [
                | inl stays ↦ inr (it.0, sym stays ∙ here, let e = it.2 in omega arith, removed source same)
                | inr gone ↦ let e = gone.3 in absurd (cc)
              ]
          | inr ne ↦ elim (so.went source) [
            | inl stays ↦ inl (kept source ne ∙ stays)
            | inr gone ↦ inr (gone.0, gone.1, gone.2, kept source ne ∙ gone.3)
          ]
        ];
      }

goes : (w time : ℕ) (o n : Option Open) → Went w time o n → ((k : Open) → n ≡ Some k → time < k.opened + w) → GoesOrStays w time o n
goes w time None n (inl same) later = same
goes w time None n (inr gone) later = gone.3
goes w time (Some k) n (inl same) later = inr (later k same, same)
goes w time (Some k) n (inr gone) later = inl (let e : k ≡ gone.0 = let f = gone.1 in cc in let d = gone.2 in subst (λ (o : Open). o.opened + w ≤ time) (sym e) d, gone.3)

pub goes_if_due : (w time : ℕ) (old live : BTreeMap (List ℕ) Open) (queue : BTreeSet Turn) → SoFar w time old live queue → NoneIsDue queue w time
    → GoesIfDue old live w time
goes_if_due w time old live queue so none source =
    goes w time (tree.get name_cmp old source) (tree.get name_cmp live source) (so.went source)
    (λ k is. none (record { opened = k.opened; from = source }) ((so.queued (record { opened = k.opened; from = source })).1 (k, is, refl)))

-- a queue of the same keys has the same turns
pub same_queue : (live : BTreeMap (List ℕ) Open) (s n : BTreeSet Turn) → n.keys ≡ s.keys → IsQueued live s → IsQueued live n
same_queue live s n same queued turn =
    let e : tree_set.contains turn_cmp n turn ≡ tree_set.contains turn_cmp s turn = ap (list_any (is_at (turn_cmp turn))) same in (
      λ has. (queued turn).0 (sym e ∙ has),
      λ of. e ∙ (queued turn).1 of,
    )

-- a map in which a source's window is another
module _ (old new : BTreeMap (List ℕ) Open) (from : List ℕ) (w : Open) (updates : tree.Updates name_cmp old new from (Some w)) where
  pub written : tree.get name_cmp new from ≡ Some w
  written =
      let at : is_at (name_cmp from) from ≡ true = tied_same name_cmp_total name_cmp_exact from from refl in
      updates.0 from ∙ ap (λ (b : Bool). cond b (Some w) (tree.get name_cmp old from)) at

  pub unwritten : (q : List ℕ) → q ≢ from → tree.get name_cmp new q ≡ tree.get name_cmp old q
  unwritten q ne =
      let at : is_at (name_cmp from) q ≡ false = not_same (is_at (name_cmp from) q) (λ e. ne (sym (tied name_cmp_total name_cmp_exact from q e))) in
      updates.0 q ∙ ap (λ (b : Bool). cond b (Some w) (tree.get name_cmp old q)) at

  pub clears_in : (node : NodeName) (o : Open) → tree.get name_cmp old from ≡ Some o → LosesNode o w node → ClearsIn old new from node
  clears_in node o is loses = record {
    own = λ k there. (w, written, subst (λ (p : Open). LosesNode p w node) (let e : o ≡ k = cc in e) loses);
    none = λ none. absurd (cc);
    others = unwritten;
  }

-- a node that is taken out leaves the queue as it is
pub queued_still : (old new : BTreeMap (List ℕ) Open) (queue : BTreeSet Turn) (from : List ℕ) (node : NodeName) → IsQueued old queue → ClearsIn old new from node → IsQueued new queue
queued_still old new queue from node queued clears turn =
    elim (decide_key name_cmp_total name_cmp_exact turn.from from) [
      | inl same ↦ (
        λ has.
            let it = (queued turn).0 has in
            let n = clears.own it.0 (sym (ap (tree.get name_cmp old) same) ∙ it.1) in
            (n.0, ap (tree.get name_cmp new) same ∙ n.1, n.2.opened ∙ it.2),
        λ of. back (tree.get name_cmp old from) refl same of,
      )
      | inr ne ↦ (
        λ has. let it = (queued turn).0 has in (it.0, clears.others turn.from ne ∙ it.1, it.2),
        λ of. (queued turn).1 (of.0, sym (clears.others turn.from ne) ∙ of.1, of.2),
      )
    ]
  where
    back : (o : Option Open) → tree.get name_cmp old from ≡ o → turn.from ≡ from → IsWindowOpen new turn → tree_set.contains turn_cmp queue turn ≡ true
    back None is same of = let none = clears.none is in let some = sym (ap (tree.get name_cmp new) same) ∙ of.1 in absurd (cc)
    back (Some o) is same of =
        let n = clears.own o is in
        let some = sym (ap (tree.get name_cmp new) same) ∙ of.1 in
        let one : n.0 ≡ of.0 = let e = n.1 in cc in
        (queued turn).1 (o, ap (tree.get name_cmp old) same ∙ is, sym n.2.opened ∙ (ap (λ (p : Open). p.opened) one ∙ of.2))
