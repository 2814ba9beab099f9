-- What is kept stands for the records, as the log goes on.
use Rattle.std.proofs.Common.{◌≡◌, ◌≢◌, ◌↔◌, ℕ, max, ◌⊎◌, ◌++◌, List, [], ◌∷◌, refl, sym, ap, subst, ◌∙◌, inl, inr, arith, true, Option, None, Some}
use Rattle.std.specs.FinMap as map
use Rattle.std.specs.FinSet as set
use Rattle.cb_model.specs.declared.node.NodeName.{NodeName}
use Rattle.cb_model.specs.NodeOrder.{node_cmp}
use Rattle.cb_model.specs.Order.{name_cmp}
use Rattle.cb_model.proofs.Rising.{nothing_in_empty, name_cmp_total, name_cmp_exact, node_cmp_total, node_cmp_exact}
use Rattle.cb_network.proofs.Sets.{in_insert, in_remove, decide_key}
use Rattle.cb_log.specs.declared.record.Body.TheVariants.{Raise, Clear}
use Rattle.cb_log.specs.declared.record.Record.{Record}
use Rattle.cb_log.specs.Kept.{Kept, fresh, OpenWindow, IsOpen, KeepsSource, StandsForRecords}
use Rattle.cb_log.specs.Passing.{StaysUnlessDue, TimePasses, Raises, with_node, Clears}
use Rattle.cb_log.specs.Records.{log_time, IsNotBy, IsByNone}
use Rattle.cb_log.proofs.Longer.{longer, log_time_push}
use Rattle.cb_log.proofs.KeptSteps.{IsUpdated, IsBegun, stays_closed, opens_new, stays_open, closes_open, reopens}

none_in_empty : (source : List ℕ) → map.get (map.empty {X = OpenWindow} {R = name_cmp}) source ≡ None
none_in_empty source = rw map.get-empty

pub fresh_stands : (w : ℕ) → StandsForRecords (fresh w) []
fresh_stands w = record {
  now = refl;
  windows = λ source. subst (KeepsSource [] w source) (sym (none_in_empty source)) (record {
    windows = [];
    are = λ place from raise. absurd (let e = raise.1.1 in cc);
    closed = λ x has. absurd (nothing_in_empty x has);
  });
}

same_nodes : (source : List ℕ) (r : Record) → IsNotBy source r → (nodes : set.FinSet node_cmp) → IsUpdated source r nodes nodes
same_nodes source r aside nodes node = (
  λ has. inr (has, (aside node).1),
  λ either. elim either [ inl raises ↦ absurd ((aside node).0 raises) | inr both ↦ both.0 ],
)

-- a source of which the record says nothing
pub aside_keeps : (records : List Record) (r : Record) (w now : ℕ) (source : List ℕ) (old new : Option OpenWindow)
    → now ≡ max (log_time records) r.at → IsNotBy source r → StaysUnlessDue w now old new
    → KeepsSource records w source old → KeepsSource (longer records r) w source new
aside_keeps records r w now source None new at aside stays keeps =
    subst (KeepsSource (longer records r) w source) (sym stays) (stays_closed records r w source keeps (λ raise. (aside raise.0).0 raise.1))
aside_keeps records r w now source (Some kept) new at aside (inl due) keeps =
    subst (KeepsSource (longer records r) w source) (sym due.1)
    (closes_open records r w source kept keeps (let d = due.0 in omega arith) (λ raise. (aside raise.0).0 raise.1))
aside_keeps records r w now source (Some kept) new at aside (inr not_due) keeps =
    subst (KeepsSource (longer records r) w source) (sym not_due.1)
    (stays_open records r w source kept keeps (λ past. let d = not_due.0 in absurd (omega arith)) kept.nodes (same_nodes source r aside kept.nodes))

pub passing_stands : (old new : Kept) (records : List Record) (r : Record) → TimePasses old new r.at
    → IsByNone r
    → StandsForRecords old records → StandsForRecords new (records ++ r ∷ [])
passing_stands old new records r passes aside stands =
    let now : new.now ≡ max (log_time records) r.at = passes.now ∙ ap (λ (t : ℕ). max t r.at) stands.now in
    record {
      now = now ∙ sym (log_time_push records r);
      windows = λ source. subst (λ (w : ℕ). KeepsSource (longer records r) w source (map.get new.windows source)) (sym passes.length)
          (aside_keeps records r old.length new.now source (map.get old.windows source) (map.get new.windows source) now (aside source)
          (passes.windows source) (stands.windows source));
    }

in_more : (s : set.FinSet node_cmp) (k q : NodeName) → (set.contains (set.insert s k) q ≡ true) ↔ ((q ≡ k) ⊎ (set.contains s q ≡ true))
in_more = in_insert node_cmp_total node_cmp_exact

in_less : (s : set.FinSet node_cmp) (k q : NodeName) → (set.contains (set.remove s k) q ≡ true) ↔ ((q ≢ k) × (set.contains s q ≡ true))
in_less = in_remove node_cmp_total node_cmp_exact

module _ (source : List ℕ) (r : Record) (node : NodeName) where
  begun_with : r.body ≡ Raise source node → IsBegun source r (set.insert set.empty node)
  begun_with raise other = (
    λ has. elim ((in_more set.empty node other).0 has) [
      | inl same ↦ cc
      | inr none ↦ absurd (let e = set.contains-empty node_cmp other in cc)
    ],
    λ raises. (in_more set.empty node other).1 (inl (cc)),
  )

  raised_with : r.body ≡ Raise source node → (nodes : set.FinSet node_cmp) → IsUpdated source r nodes (set.insert nodes node)
  raised_with raise nodes other = (
    λ has. elim ((in_more nodes node other).0 has) [
      | inl same ↦ inl (cc)
      | inr had ↦ inr (had, λ clear. absurd (cc))
    ],
    λ either. (in_more nodes node other).1 (elim either [
      | inl raises ↦ inl (cc)
      | inr both ↦ inr both.0
    ]),
  )

  cleared_with : r.body ≡ Clear source node → (nodes : set.FinSet node_cmp) → IsUpdated source r nodes (set.remove nodes node)
  cleared_with clear nodes other = (
    λ has. let both = (in_less nodes node other).0 has in inr (both.1, λ other_clear. both.0 (cc)),
    λ either. (in_less nodes node other).1 (elim either [
      | inl raises ↦ absurd (cc)
      | inr both ↦ (λ same. both.1 (cc), both.0)
    ]),
  )

  -- the source that raises
  own_raises : (records : List Record) (w now : ℕ) (old new : Option OpenWindow) → now ≡ max (log_time records) r.at
      → r.body ≡ Raise source node → StaysUnlessDue w now old new
      → KeepsSource records w source old → KeepsSource (longer records r) w source (Some (with_node now node new))
  own_raises records w now None new at raise stays keeps =
      subst (λ (o : Option OpenWindow). KeepsSource (longer records r) w source (Some (with_node now node o))) (sym stays)
      (subst (λ (t : ℕ). IsOpen (longer records r) w source (record { opened = t; nodes = set.insert set.empty node })) (sym at)
      (opens_new records r w source keeps (node, raise) (set.insert set.empty node) (begun_with raise)))
  own_raises records w now (Some kept) new at raise (inl due) keeps =
      subst (λ (o : Option OpenWindow). KeepsSource (longer records r) w source (Some (with_node now node o))) (sym due.1)
      (subst (λ (t : ℕ). IsOpen (longer records r) w source (record { opened = t; nodes = set.insert set.empty node })) (sym at)
      (reopens records r w source kept keeps (let d = due.0 in omega arith) (node, raise) (set.insert set.empty node) (begun_with raise)))
  own_raises records w now (Some kept) new at raise (inr not_due) keeps =
      subst (λ (o : Option OpenWindow). KeepsSource (longer records r) w source (Some (with_node now node o))) (sym not_due.1)
      (stays_open records r w source kept keeps (λ past. let d = not_due.0 in absurd (omega arith)) (set.insert kept.nodes node) (raised_with raise kept.nodes))

  -- the source that clears
  own_clears : (records : List Record) (w now : ℕ) (old passed new : Option OpenWindow) → now ≡ max (log_time records) r.at
      → r.body ≡ Clear source node → StaysUnlessDue w now old passed
      → (passed ≡ None → new ≡ None)
      → ((kept : OpenWindow) → passed ≡ Some kept → new ≡ Some (record kept { nodes = set.remove kept.nodes node }))
      → KeepsSource records w source old → KeepsSource (longer records r) w source new
  own_clears records w now None passed new at clear stays none some keeps =
      subst (KeepsSource (longer records r) w source) (sym (none stays))
      (stays_closed records r w source keeps (λ raise. let e = raise.1 in absurd (cc)))
  own_clears records w now (Some kept) passed new at clear (inl due) none some keeps =
      subst (KeepsSource (longer records r) w source) (sym (none due.1))
      (closes_open records r w source kept keeps (let d = due.0 in omega arith) (λ raise. let e = raise.1 in absurd (cc)))
  own_clears records w now (Some kept) passed new at clear (inr not_due) none some keeps =
      subst (KeepsSource (longer records r) w source) (sym (some kept not_due.1))
      (stays_open records r w source kept keeps (λ past. let d = not_due.0 in absurd (omega arith)) (set.remove kept.nodes node) (cleared_with clear kept.nodes))

decide_name : (x y : List ℕ) → (x ≡ y) ⊎ (x ≢ y)
decide_name = decide_key name_cmp_total name_cmp_exact

pub clearing_stands : (old passed new : Kept) (records : List Record) (r : Record) (source : List ℕ) (node : NodeName) → TimePasses old passed r.at
    → Clears passed new source node → r.body ≡ Clear source node → StandsForRecords old records → StandsForRecords new (records ++ r ∷ [])
clearing_stands old passed new records r source node passes clears clear stands =
    let now : passed.now ≡ max (log_time records) r.at = passes.now ∙ ap (λ (t : ℕ). max t r.at) stands.now in
    let keeps : (other : List ℕ) → KeepsSource (longer records r) old.length other (map.get new.windows other) = λ other.
    elim (decide_name other source) [
      | inl same ↦ subst (λ (o : List ℕ). KeepsSource (longer records r) old.length o (map.get new.windows o)) (sym same)
          (own_clears source r node records old.length passed.now (map.get old.windows source) (map.get passed.windows source) (map.get new.windows source) now clear
          (passes.windows source) clears.none clears.own (stands.windows source))
      | inr ne ↦ subst (KeepsSource (longer records r) old.length other) (sym (clears.others other ne))
          (aside_keeps records r old.length passed.now other (map.get old.windows other) (map.get passed.windows other) now
          (λ m. (λ e. absurd (cc), λ e. ne (cc))) (passes.windows other) (stands.windows other))
    ]
    in
    record {
      now = clears.now ∙ (now ∙ sym (log_time_push records r));
      windows = λ other. subst (λ (w : ℕ). KeepsSource (longer records r) w other (map.get new.windows other)) (sym (clears.length ∙ passes.length)) (keeps other);
    }

pub raising_stands : (old new : Kept) (records : List Record) (r : Record) (source : List ℕ) (node : NodeName) → Raises old new r.at source node
    → r.body ≡ Raise source node → StandsForRecords old records → StandsForRecords new (records ++ r ∷ [])
raising_stands old new records r source node raises raise stands =
    let now : new.now ≡ max (log_time records) r.at = raises.now ∙ ap (λ (t : ℕ). max t r.at) stands.now in
    let keeps : (other : List ℕ) → KeepsSource (longer records r) old.length other (map.get new.windows other) = λ other.
    elim (decide_name other source) [
      | inl same ↦ subst (λ (o : List ℕ). KeepsSource (longer records r) old.length o (map.get new.windows o)) (sym same)
          (subst (KeepsSource (longer records r) old.length source) (sym raises.own)
          (own_raises source r node records old.length new.now (map.get old.windows source) raises.left now raise raises.stays (stands.windows source)))
      | inr ne ↦ aside_keeps records r old.length new.now other (map.get old.windows other) (map.get new.windows other) now
          (λ m. (λ e. ne (cc), λ e. absurd (cc))) (raises.others other ne) (stands.windows other)
    ]
    in
    record {
      now = now ∙ sym (log_time_push records r);
      windows = λ other. subst (λ (w : ℕ). KeepsSource (longer records r) w other (map.get new.windows other)) (sym raises.length) (keeps other);
    }
