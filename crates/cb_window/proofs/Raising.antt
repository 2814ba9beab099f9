-- A node that is raised: in the source's window, or in a new one.
use Rattle.std.proofs.Common.{◌≡◌, ◌≢◌, ◌⊎◌, ◌↔◌, ◌+◌, ◌<◌, ◌≤◌, ◌||◌, ℕ, List, [], ◌∷◌, max, refl, sym, ap, subst, ◌∙◌, inl, inr, arith, Bool, true, false, cond, Option, None, Some, Ok, Err, Result}
use Rattle.std.proofs.lemmas.Bool.{cases_lt}
use Rattle.std.specs.Prelude.{OnOk, OnErr}
use Rattle.std.specs.BTreeMap as tree
use Rattle.std.specs.BTreeMap.{BTreeMap, is_at}
use Rattle.std.specs.BTreeSet as tree_set
use Rattle.std.specs.BTreeSet.{BTreeSet}
use Rattle.std.specs.Cmp.{eq_by_cmp_equiv}
use Rattle.std.specs.FinMap as fin
use Rattle.std.specs.FinSet as set
use Rattle.std.specs.List.{list_any}
use Rattle.std.specs.Map.{lookup}
use Rattle.std.specs.Option.{option_map}
use Rattle.std.specs.Ordering.{eq_by_cmp}
use Rattle.cb_model.specs.declared.node.NodeName.{NodeName}
use Rattle.cb_model.specs.NodeOrder.{node_cmp}
use Rattle.cb_model.specs.Order.{name_cmp}
use Rattle.cb_model.proofs.Rising.{name_cmp_total, name_cmp_exact, node_cmp_total, node_cmp_exact}
use Rattle.cb_network.proofs.Sets.{tied, tied_same, decide_key}
use Rattle.cb_log.specs.Kept.{Kept, OpenWindow}
use Rattle.cb_log.specs.Passing.{StaysUnlessDue, TimePasses, Raises, with_node}
use Rattle.cb_window.specs.declared.turn.Turn.{Turn}
use Rattle.cb_window.specs.declared.windows.Open.{Open}
use Rattle.cb_window.specs.Kept.{turn_cmp, shown, shown_map, IsQueued, TakesOut, GainsNode, GainsIn, OpensIn, LooksSame, OpenedSame, OpenedBefore, IsOpenStill, PutsNode}
use Rattle.cb_window.proofs.Seen.{seen, kept_of}
use Rattle.cb_window.proofs.Turns.{turn_total, turn_exact, not_same, written, unwritten}

-- what holds, holds of each error
pub on_err : {X Y : Type 0} (P : Type 0) (result : Result X Y) → P → OnErr result P
on_err P (Ok x) p = tt
on_err P (Err y) p = p

-- what follows from what holds of each answer
pub on_ok_to : {X Y : Type 0} (P Q : Type 0) (result : Result X Y) → (P → Q) → OnOk result P → OnOk result Q
on_ok_to P Q (Ok x) to p = to p
on_ok_to P Q (Err y) to p = tt

pub on_err_to : {X Y : Type 0} (P Q : Type 0) (result : Result X Y) → (P → Q) → OnErr result P → OnErr result Q
on_err_to P Q (Ok x) to p = tt
on_err_to P Q (Err y) to p = to p

decide_name : (x y : List ℕ) → (x ≡ y) ⊎ (x ≢ y)
decide_name = decide_key name_cmp_total name_cmp_exact

-- a map in which a source's window is another
module _ (old new : BTreeMap (List ℕ) Open) (from : List ℕ) (w : Open) (updates : tree.Updates name_cmp old new from (Some w)) where
  pub same_under : {Y : Type 0} (f : Open → Y) (o : Open) → tree.get name_cmp old from ≡ Some o → f w ≡ f o → (source : List ℕ)
      → option_map f (tree.get name_cmp new source) ≡ option_map f (tree.get name_cmp old source)
  same_under f o is same source = elim (decide_name source from) [
    | inl here ↦
        ap (option_map f) (ap (tree.get name_cmp new) here ∙ written old new from w updates)
        ∙ (ap Some same ∙ sym (ap (option_map f) (ap (tree.get name_cmp old) here ∙ is)))
    | inr ne ↦ ap (option_map f) (unwritten old new from w updates source ne)
  ]

  pub gains_in : (node : NodeName) (o : Open) → tree.get name_cmp old from ≡ Some o → GainsNode o w node → GainsIn old new from node
  gains_in node o is gains = record {
    own = λ k there. (w, written old new from w updates, subst (λ (p : Open). GainsNode p w node) (let e : o ≡ k = cc in e) gains);
    others = unwritten old new from w updates;
  }

  pub opens_in : (time : ℕ) (node : NodeName) → w.opened ≡ time → w.nodes.keys ≡ node ∷ [] → OpensIn old new from time node
  opens_in time node opened nodes = record {
    window = w;
    own = written old new from w updates;
    opened = opened;
    nodes = nodes;
    others = unwritten old new from w updates;
  }

  -- the queue with the window's turn, and without that of the one before
  pub queued_with : (queue after : BTreeSet Turn) (turn : Turn) → turn.from ≡ from → turn.opened ≡ w.opened → IsQueued old queue
      → ((t : Turn) → (tree_set.contains turn_cmp after t ≡ true) ↔ ((t ≡ turn) ⊎ ((t.from ≢ from) × (tree_set.contains turn_cmp queue t ≡ true))))
      → IsQueued new after
  queued_with queue after turn its at queued has t = (
    λ h. elim ((has t).0 h) [
      | inl e ↦ (w, ap (tree.get name_cmp new) (ap (λ (s : Turn). s.from) e ∙ its) ∙ written old new from w updates, sym at ∙ ap (λ (s : Turn). s.opened) (sym e))
      | inr both ↦ let of = (queued t).0 both.1 in (of.0, unwritten old new from w updates t.from both.0 ∙ of.1, of.2)
    ],
    λ of. (has t).1 (elim (decide_name t.from from) [
      | inl here ↦
          let own : tree.get name_cmp new t.from ≡ Some w = ap (tree.get name_cmp new) here ∙ written old new from w updates in
          let one : of.0 ≡ w = let e = of.1 in cc in
          let opened : t.opened ≡ turn.opened = sym of.2 ∙ (ap (λ (o : Open). o.opened) one ∙ sym at) in
          let source : t.from ≡ turn.from = here ∙ sym its in
          inl (λ i. record { opened = opened i; from = source i })
      | inr ne ↦ inr (ne, (queued t).1 (of.0, sym (unwritten old new from w updates t.from ne) ∙ of.1, of.2))
    ]),
  )

-- a turn that is put into the queue
pub puts_in : (s n : BTreeSet Turn) (k : Turn) → tree_set.Updates turn_cmp s n k true → (t : Turn)
    → (tree_set.contains turn_cmp n t ≡ true) ↔ ((t ≡ k) ⊎ (tree_set.contains turn_cmp s t ≡ true))
puts_in s n k u t =
    let is = u.0 t in
    elim (decide_key turn_total turn_exact k t) [
      | inl same ↦
          let at : is_at (turn_cmp k) t ≡ true = tied_same turn_total turn_exact k t same in
          let has : tree_set.contains turn_cmp n t ≡ true = is ∙ ap (λ (b : Bool). cond b true (tree_set.contains turn_cmp s t)) at in
          (λ h. inl (sym same), λ e. has)
      | inr ne ↦
          let at : is_at (turn_cmp k) t ≡ false = not_same (is_at (turn_cmp k) t) (λ e. ne (tied turn_total turn_exact k t e)) in
          let stays : tree_set.contains turn_cmp n t ≡ tree_set.contains turn_cmp s t = is ∙ ap (λ (b : Bool). cond b true (tree_set.contains turn_cmp s t)) at in
          (λ h. inr (sym stays ∙ h), λ e. elim e [ inl same ↦ absurd (ne (sym same)) | inr had ↦ stays ∙ had ])
    ]

-- a queue to which a turn of the source was added
module _ (live : BTreeMap (List ℕ) Open) (queue more : BTreeSet Turn) (turn : Turn) (from : List ℕ) (its : turn.from ≡ from)
    (queued : IsQueued live queue) (updates : tree_set.Updates turn_cmp queue more turn true) where
  -- the source had no window
  pub first_turn : tree.get name_cmp live from ≡ None → (t : Turn)
      → (tree_set.contains turn_cmp more t ≡ true) ↔ ((t ≡ turn) ⊎ ((t.from ≢ from) × (tree_set.contains turn_cmp queue t ≡ true)))
  first_turn none t =
      let puts = puts_in queue more turn updates t in (
        λ h. elim (puts.0 h) [
          | inl e ↦ inl e
          | inr had ↦ inr (
            λ here. let of = (queued t).0 had in let e : tree.get name_cmp live t.from ≡ None = ap (tree.get name_cmp live) here ∙ none in let f = of.1 in absurd (cc),
            had,
          )
        ],
        λ e. puts.1 (elim e [ inl same ↦ inl same | inr both ↦ inr both.1 ]),
      )

  -- the source had a window, whose turn is taken out
  pub next_turn : (less : BTreeSet Turn) (gone : Turn) (o : Open) → tree.get name_cmp live from ≡ Some o → o.opened < turn.opened
      → gone.from ≡ from → gone.opened ≡ o.opened → TakesOut more less gone → (t : Turn)
      → (tree_set.contains turn_cmp less t ≡ true) ↔ ((t ≡ turn) ⊎ ((t.from ≢ from) × (tree_set.contains turn_cmp queue t ≡ true)))
  next_turn less gone o is before source opened out t =
      let puts = puts_in queue more turn updates t in (
        λ h.
            let both = (out t).0 h in
            elim (puts.0 both.1) [
              | inl e ↦ inl e
              | inr had ↦ inr (
                λ here.
                    let of = (queued t).0 had in
                    let one : of.0 ≡ o = let e : tree.get name_cmp live t.from ≡ Some o = ap (tree.get name_cmp live) here ∙ is in let f = of.1 in cc in
                    let at : t.opened ≡ gone.opened = sym of.2 ∙ (ap (λ (k : Open). k.opened) one ∙ sym opened) in
                    let by : t.from ≡ gone.from = here ∙ sym source in
                    both.0 (λ i. record { opened = at i; from = by i }),
                had,
              )
            ],
        λ e. elim e [
          | inl same ↦ (out t).1 (
            λ f. let at : turn.opened ≡ gone.opened = ap (λ (s : Turn). s.opened) (sym same ∙ f) in absurd (omega arith),
            puts.1 (inl same),
          )
          | inr both ↦ (out t).1 (λ f. both.0 (ap (λ (s : Turn). s.from) f ∙ source), puts.1 (inr both.1))
        ],
      )

  -- the turn is taken out again
  pub no_turn : (less : BTreeSet Turn) (gone : Turn) → OpenedBefore live from turn.opened → gone ≡ turn → TakesOut more less gone → IsQueued live less
  no_turn less gone before same out t =
      let puts = puts_in queue more turn updates t in
      let new : t ≡ turn → tree_set.contains turn_cmp queue t ≡ true → ⊥ = λ e had.
      let of = (queued t).0 had in
      let there : tree.get name_cmp live from ≡ Some of.0 = ap (tree.get name_cmp live) (sym (ap (λ (s : Turn). s.from) e ∙ its)) ∙ of.1 in
      let early = before of.0 there in
      let at : of.0.opened ≡ turn.opened = of.2 ∙ ap (λ (s : Turn). s.opened) e in
      absurd (omega arith)
      in (
        λ h.
            let both = (out t).0 h in
            elim (puts.0 both.1) [
              | inl e ↦ absurd (both.0 (e ∙ sym same))
              | inr had ↦ (queued t).0 had
            ],
        λ of. let had = (queued t).1 of in (out t).1 (λ e. new (e ∙ same) had, puts.1 (inr had)),
      )

-- a map of the same entries has the same windows
pub same_windows : (old new : BTreeMap (List ℕ) Open) → new.entries ≡ old.entries → (source : List ℕ)
    → tree.get name_cmp new source ≡ tree.get name_cmp old source
same_windows old new e source = ap (lookup (is_at (name_cmp source))) e

-- windows that opened when they did have the same turns
pub queued_alike : (old new : BTreeMap (List ℕ) Open) (queue : BTreeSet Turn) → OpenedSame old new → IsQueued old queue → IsQueued new queue
queued_alike old new queue same queued t = (
  λ h. let of = (queued t).0 h in opened_so (tree.get name_cmp new t.from) (same t.from ∙ (ap (option_map (λ (o : Open). o.opened)) of.1 ∙ ap Some of.2)),
  λ of. (queued t).1 (opened_so (tree.get name_cmp old t.from) (sym (same t.from) ∙ (ap (option_map (λ (o : Open). o.opened)) of.1 ∙ ap Some of.2))),
)
  where
    opened_so : (k : Option Open) {n : ℕ} → option_map (λ (o : Open). o.opened) k ≡ Some n → (o : Open) × (k ≡ Some o) × (o.opened ≡ n)
    opened_so None e = absurd (cc)
    opened_so (Some o) e = (o, refl, cc)

pub queued_same : (old new : BTreeMap (List ℕ) Open) (queue : BTreeSet Turn) → new.entries ≡ old.entries → IsQueued old queue → IsQueued new queue
queued_same old new queue e queued = queued_alike old new queue (λ source. ap (option_map (λ (o : Open). o.opened)) (same_windows old new e source)) queued

-- what is kept, seen as sets

gained_nodes : (o n : Open) (node : NodeName) → GainsNode o n node → set.from_list {R = node_cmp} n.nodes.keys ≡ set.insert (set.from_list o.nodes.keys) node
gained_nodes o n node gains = set.same_set node_cmp_total node_cmp_exact _ _ (λ q.
    set.contains-from_list node_cmp_total n.nodes.keys q
    ∙ (gains.nodes.0 q
    ∙ (turned (eq_by_cmp node_cmp node q) (eq_by_cmp node_cmp q node) (list_any (eq_by_cmp node_cmp q) o.nodes.keys) ((eq_by_cmp_equiv node_cmp_total).symm node q)
    ∙ sym (set.contains-insert node_cmp_total (set.from_list o.nodes.keys) node q ∙ ap (λ (b : Bool). eq_by_cmp node_cmp q node || b) (set.contains-from_list node_cmp_total o.nodes.keys q)))))
  where
    turned : (a b x : Bool) → a ≡ b → cond a true x ≡ (b || x)
    turned true true x e = refl
    turned true false x e = absurd (cc)
    turned false true x e = absurd (cc)
    turned false false x e = refl

first_node : (keys : List NodeName) (node : NodeName) → keys ≡ node ∷ [] → set.from_list {R = node_cmp} keys ≡ set.insert set.empty node
first_node keys node is = ap (λ (ks : List NodeName). set.from_list {R = node_cmp} ks) is ∙ set.same_set node_cmp_total node_cmp_exact _ _ (λ q.
    set.contains-from_list node_cmp_total (node ∷ []) q
    ∙ sym (set.contains-insert node_cmp_total set.empty node q ∙ ap (λ (b : Bool). eq_by_cmp node_cmp q node || b) (set.contains-empty node_cmp q)))

module _ (w now time : ℕ) (old new : BTreeMap (List ℕ) Open) (from : List ℕ) (node : NodeName) where
  pub puts_into : IsOpenStill old from w time → GainsIn old new from node → PutsNode (kept_of w now old) (kept_of w now new) time from node
  puts_into still gains =
      let grown = gains.own still.0 still.1 in
      record {
        length = refl;
        now = refl;
        left = Some (shown still.0);
        stays = subst (λ (k : Option OpenWindow). StaysUnlessDue w time k (Some (shown still.0))) (sym (seen old from ∙ ap (option_map shown) still.1)) (inr (still.2, refl));
        own =
            let opened = grown.2.opened in
            let nodes = gained_nodes still.0 grown.0 node grown.2 in
            let same : shown grown.0 ≡ with_node time node (Some (shown still.0)) = λ i. record { opened = opened i; nodes = nodes i } in
            seen new from ∙ (ap (option_map shown) grown.1 ∙ ap Some same);
        others = λ other ne. seen new other ∙ (ap (option_map shown) (gains.others other ne) ∙ sym (seen old other));
      }

  pub puts_first : (¬ IsOpenStill old from w time) → OpensIn old new from time node → PutsNode (kept_of w now old) (kept_of w now new) time from node
  puts_first over opens = record {
    length = refl;
    now = refl;
    left = None;
    stays = subst (λ (k : Option OpenWindow). StaysUnlessDue w time k None) (sym (seen old from)) (none_left (tree.get name_cmp old from) (λ o is late. over (o, is, late)));
    own =
        let opened = opens.opened in
        let nodes = first_node opens.window.nodes.keys node opens.nodes in
        let same : shown opens.window ≡ with_node time node None = λ i. record { opened = opened i; nodes = nodes i } in
        seen new from ∙ (ap (option_map shown) opens.own ∙ ap Some same);
    others = λ other ne. seen new other ∙ (ap (option_map shown) (opens.others other ne) ∙ sym (seen old other));
  }
    where
      none_left : (k : Option Open) → ((o : Open) → k ≡ Some o → time < o.opened + w → ⊥) → StaysUnlessDue w time (option_map shown k) None
      none_left None never = refl
      none_left (Some o) never = inl (let late = never o refl in omega (arith, late), refl)

  pub looks_same : LooksSame old new → kept_of w now new ≡ kept_of w now old
  looks_same looks =
      let windows : shown_map new ≡ shown_map old = fin.same_map name_cmp_total name_cmp_exact (shown_map new) (shown_map old) (λ q. seen new q ∙ (looks q ∙ sym (seen old q))) in
      λ i. record { length = w; now = now; windows = windows i }

-- a window that isn't open still was opened before
pub over_before : (w time : ℕ) (windows : BTreeMap (List ℕ) Open) (from : List ℕ) → 1 ≤ w → (¬ IsOpenStill windows from w time) → OpenedBefore windows from time
over_before w time windows from some over o is =
    elim (cases_lt time (o.opened + w)) [ inl late ↦ absurd (over (o, is, late)) | inr due ↦ omega arith ]

-- the node is put in, and then time goes by
pub put_then_passed : (old mid new : Kept) (at time : ℕ) (source : List ℕ) (node : NodeName) → 1 ≤ old.length → time ≡ max old.now at
    → PutsNode old mid time source node → TimePasses mid new at → Raises old new at source node
put_then_passed old mid new at time source node some is puts passes =
    let now : new.now ≡ max old.now at = passes.now ∙ ap (λ (t : ℕ). max t at) puts.now in
    let by : time ≡ new.now = is ∙ sym now in
    let stays : StaysUnlessDue old.length new.now (fin.get old.windows source) puts.left = subst (λ (t : ℕ). StaysUnlessDue old.length t (fin.get old.windows source) puts.left) by puts.stays in
    let put : fin.get mid.windows source ≡ Some (with_node new.now node puts.left) = puts.own ∙ ap (λ (t : ℕ). Some (with_node t node puts.left)) by in
    let passed : (other : List ℕ) → StaysUnlessDue old.length new.now (fin.get mid.windows other) (fin.get new.windows other) = λ other.
    subst (λ (w : ℕ). StaysUnlessDue w new.now (fin.get mid.windows other) (fin.get new.windows other)) puts.length (passes.windows other)
    in
    record {
      length = passes.length ∙ puts.length;
      now = now;
      left = puts.left;
      stays = stays;
      own = stays_in old.length new.now (with_node new.now node puts.left) (fin.get new.windows source)
          (still old.length new.now (fin.get old.windows source) puts.left some stays)
          (subst (λ (k : Option OpenWindow). StaysUnlessDue old.length new.now k (fin.get new.windows source)) put (passed source));
      others = λ other ne. subst (λ (k : Option OpenWindow). StaysUnlessDue old.length new.now k (fin.get new.windows other)) (puts.others other ne) (passed other);
    }
  where
    -- the window with the node isn't due
    still : (w t : ℕ) (was left : Option OpenWindow) → 1 ≤ w → StaysUnlessDue w t was left → t < (with_node t node left).opened + w
    still w t was None some stays = omega arith
    still w t None (Some k) some stays = absurd (cc)
    still w t (Some o) (Some k) some (inl due) = let e = due.1 in absurd (cc)
    still w t (Some o) (Some k) some (inr late) = let e : k ≡ o = let f = late.1 in cc in subst (λ (p : OpenWindow). t < p.opened + w) (sym e) late.0

    stays_in : (w t : ℕ) (k : OpenWindow) (new : Option OpenWindow) → t < k.opened + w → StaysUnlessDue w t (Some k) new → new ≡ Some k
    stays_in w t k new late (inl due) = let d = due.0 in absurd (omega arith)
    stays_in w t k new late (inr stays) = stays.1
