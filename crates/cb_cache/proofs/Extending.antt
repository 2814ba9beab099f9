-- Rows that are extended one place after the other, and what that costs.
use Rattle.std.proofs.Common.{◌≡◌, ◌≢◌, ◌⊎◌, ◌↔◌, ℕ, ◌+◌, ◌<◌, ◌≤◌, List, [], ◌∷◌, ◌++◌, Bool, false, Option, sum, length, slice_index_or, refl, sym, ap, subst, inl, inr, ◌∙◌, arith}
use Rattle.std.specs.List.{AllPairs, AllZip, Contains}
use Rattle.std.proofs.lemmas.Bool.{cases_eq}
use Rattle.std.proofs.lemmas.List.Elements.{Contains-get_or, Contains-push, Contains-push_cases, Contains-append_left}
use Rattle.std.proofs.lemmas.List.Quantifiers.{all_pairs_push}
use Rattle.std.proofs.lemmas.List.Sums.{sum_by-cons, sum_by_push}
use Rattle.cb_model.proofs.Numbers.{zip_push}
use Rattle.cb_model.proofs.Rising.{nothing_in_empty}
use Rattle.cb_model.specs.declared.node.NodeName.{NodeName}
use Rattle.cb_network.specs.declared.edit.Edit.{Edit}
use Rattle.cb_change.specs.Costs.{IsEditCost, IsTotal, IsNewlyCaused, IsTouchedBelow, CountsAtMost}
use Rattle.cb_change.specs.Touched.{IsDirty}
use Rattle.cb_network.specs.Nodes.{IsCount}
use Rattle.cb_network.specs.Topology.{Topology}
use Rattle.cb_nodes.specs.declared.id.NodeId.{NodeId}
use Rattle.cb_pool.specs.declared.slot.Slot.{Slot}
use Rattle.cb_pool.specs.Pool.{Pool, IsTaken, SameOthers, slot_row}
use Rattle.cb_successors.specs.Rows.{Has, ones}
use Rattle.cb_topo.specs.Numbered.{Numbered, topology_of, IsNodeNamed, IsWhole}
use Rattle.cb_graph.specs.Edges.{EdgeAt, number}
use Rattle.cb_graph.proofs.Chains.{named_once}
use Rattle.cb_cache.specs.Extended.{IsAfterLink, IsExpanded, HasLed, HasTouched, CountsExpanded}
use Rattle.cb_cache.specs.Kept.{OwnSlots}
use Rattle.cb_cache.specs.Reached.{HasSlot, CountsOnly}
use Rattle.cb_cache.proofs.Linked.{link_cost, who_later, is_dirty, dirty_row, expanded_few, exactly_expanded}
use Rattle.cb_cache.proofs.Slots.{one_slot, slot_low}

-- how many nodes of the row of the node of this name were expanded
pub record HasExpanded (n : Numbered) (touched : List Bool) (slots : List (Option Slot)) (p : Pool) (name : NodeName) (size : ℕ) : Type 0 where
  pub place : ℕ
  pub named : IsNodeNamed n (number place) name
  pub slot : Slot
  pub has : HasSlot slots place slot
  pub nodes : List Bool
  pub each : (k : ℕ) → Has nodes k → IsExpanded (EdgeAt n) touched (slot_row p slot) k
  pub size_is : ones nodes ≡ size

-- the row at such a place has a touched node
pub record IsStale (n : Numbered) (touched : List Bool) (slots : List (Option Slot)) (p : Pool) (end : ℕ) (name : NodeName) : Type 0 where
  pub place : ℕ
  pub early : place < end
  pub named : IsNodeNamed n (number place) name
  pub slot : Slot
  pub has : HasSlot slots place slot
  pub stale : HasTouched touched (slot_row p slot)

-- no more steps were made than nodes of stale rows before this place were expanded
pub record CostsUpto (n : Numbered) (touched : List Bool) (slots : List (Option Slot)) (p : Pool) (end first now : ℕ) : Type 0 where
  pub names : List NodeName
  pub once : AllPairs (λ a b. a ≢ b) names
  pub each : (q : NodeName) → Contains names q ↔ IsStale n touched slots p end q
  pub sizes : List ℕ
  pub sized : AllZip (HasExpanded n touched slots p) names sizes
  pub few : now ≤ first + sum sizes

-- the rows before this place are extended, and the others are as they were
pub record IsExtended (n : Numbered) (touched : List Bool) (slots : List (Option Slot)) (p after : Pool) (end first now : ℕ) : Type 0 where
  pub width : after.width ≡ p.width
  pub taken : after.taken ≡ p.taken
  pub spare : after.spare ≡ p.spare
  pub led : (i : ℕ) (slot : Slot) → i < end → HasSlot slots i slot → HasLed (EdgeAt n) after slot (slot_row p slot)
  pub left : (i : ℕ) (slot : Slot) → end ≤ i → HasSlot slots i slot → slot_row after slot ≡ slot_row p slot
  pub cost : CostsUpto n touched slots p end first now

module _ (n : Numbered) (touched : List Bool) (slots : List (Option Slot)) (p : Pool) where
  pub none_extended : (first : ℕ) → IsExtended n touched slots p p 0 first first
  none_extended first = record {
    width = refl;
    taken = refl;
    spare = refl;
    led = λ i slot lt has. absurd (omega arith);
    left = λ i slot le has. refl;
    cost = record {
      names = [];
      once = λ i j d lt within. absurd (omega arith);
      each = λ q. (λ has. absurd (nothing_in_empty q has), λ stale. absurd (let lt = stale.early in omega arith));
      sizes = [];
      sized = tt;
      few = let e : sum [] ≡ 0 = refl in omega arith;
    };
  }

  later : (end : ℕ) (q : NodeName) → IsStale n touched slots p end q → IsStale n touched slots p (end + 1) q
  later end q stale = record { place = stale.place; early = (let lt = stale.early in omega arith); named = stale.named; slot = stale.slot; has = stale.has; stale = stale.stale }

  -- a stale row at an earlier place, or at this one
  earlier : (end : ℕ) (q : NodeName) (stale : IsStale n touched slots p (end + 1) q) → IsStale n touched slots p end q ⊎ (stale.place ≡ end)
  earlier end q stale = elim (cases_eq stale.place end) [
    | inl same ↦ inr same
    | inr other ↦ inl (record { place = stale.place; early = (let lt = stale.early in omega arith); named = stale.named; slot = stale.slot; has = stale.has; stale = stale.stale })
  ]

  -- the row at a place, if there is one, has no touched node
  abbrev IsQuiet : ℕ → Type 0
  IsQuiet end = (slot : Slot) → HasSlot slots end slot → ¬ HasTouched touched (slot_row p slot)

  costs_past : (end first now : ℕ) → IsQuiet end → CostsUpto n touched slots p end first now → CostsUpto n touched slots p (end + 1) first now
  costs_past end first now quiet costs = record {
    names = costs.names;
    once = costs.once;
    each = λ q. (
      λ has. later end q ((costs.each q).0 has),
      λ stale. elim (earlier end q stale) [
        | inl before ↦ (costs.each q).1 before
        | inr same ↦ absurd (quiet stale.slot (subst (λ k. HasSlot slots k stale.slot) same stale.has) stale.stale)
      ],
    );
    sizes = costs.sizes;
    sized = costs.sized;
    few = costs.few;
  }

  -- a place without a slot
  pub extended_past : (after : Pool) (end first now : ℕ) → ((slot : Slot) → ¬ HasSlot slots end slot) → IsExtended n touched slots p after end first now
      → IsExtended n touched slots p after (end + 1) first now
  extended_past after end first now none old = record {
    width = old.width;
    taken = old.taken;
    spare = old.spare;
    led = λ i slot lt has. elim (cases_eq i end) [
      | inl same ↦ absurd (none slot (subst (λ k. HasSlot slots k slot) same has))
      | inr other ↦ old.led i slot (omega arith) has
    ];
    left = λ i slot le has. old.left i slot (omega arith) has;
    cost = costs_past end first now (λ slot has. absurd (none slot has)) old.cost;
  }

  module _ (whole : IsWhole n) (apart : OwnSlots slots) (end : ℕ) (slot : Slot) (has : HasSlot slots end slot) (name : NodeName) (named : IsNodeNamed n (number end) name) where
    costs_more : (first now next count : ℕ) → CostsUpto n touched slots p end first now → HasTouched touched (slot_row p slot)
        → CountsOnly (IsExpanded (EdgeAt n) touched (slot_row p slot)) count now next → CostsUpto n touched slots p (end + 1) first next
    costs_more first now next count costs stale counts =
        let size = ones counts.row in
        let expanded : HasExpanded n touched slots p name size = record { place = end; named = named; slot = slot; has = has; nodes = counts.row; each = counts.each; size_is = refl } in
        record {
          names = costs.names ++ name ∷ [];
          once = all_pairs_push (λ a b. a ≢ b) costs.names name costs.once (λ k d lt same.
              let before = (costs.each (slice_index_or costs.names k d)).0 (Contains-get_or costs.names k d lt) in
              let twice : number before.place ≡ number end = whole.one (number before.place) (number end) name (subst (IsNodeNamed n (number before.place)) same before.named) named in
              let place = ap (λ (z : NodeId). z.0) twice in
              let early = before.early in
              omega arith);
          each = λ q. (
            λ in_names. elim (Contains-push_cases costs.names name q in_names) [
              | inl old ↦ later end q ((costs.each q).0 old)
              | inr same ↦ subst (IsStale n touched slots p (end + 1)) same (record { place = end; early = omega arith; named = named; slot = slot; has = has; stale = stale })
            ],
            λ late. elim (earlier end q late) [
              | inl before ↦ Contains-append_left costs.names (name ∷ []) q ((costs.each q).1 before)
              | inr here ↦
                  let same = named_once n (number end) name q named (subst (λ k. IsNodeNamed n (number k) q) here late.named) in
                  subst (Contains (costs.names ++ name ∷ [])) same (Contains-push costs.names name)
            ],
          );
          sizes = costs.sizes ++ size ∷ [];
          sized = zip_push (HasExpanded n touched slots p) costs.names costs.sizes name size costs.sized expanded;
          few = (let e = sum_by_push (λ k. k) costs.sizes size in let f = costs.few in let g = counts.few in omega arith);
        }

    costs_next : (first now next count : ℕ) → CostsUpto n touched slots p end first now → CountsExpanded (EdgeAt n) touched (slot_row p slot) count now next
        → CostsUpto n touched slots p (end + 1) first next
    costs_next first now next count costs (inl (clean, still)) =
        let quiet : IsQuiet end = λ other its. subst (λ s. ¬ HasTouched touched (slot_row p s)) (one_slot slots end slot other has its) clean in
        subst (CostsUpto n touched slots p (end + 1) first) (sym still) (costs_past end first now quiet costs)
    costs_next first now next count costs (inr (stale, counts)) = costs_more first now next count costs stale counts

    -- a place with a slot, whose row is extended
    pub extended_more : (after new : Pool) (first now next count : ℕ) → IsExtended n touched slots p after end first now → new.width ≡ after.width → new.taken ≡ after.taken → new.spare ≡ after.spare
        → SameOthers after new slot → HasLed (EdgeAt n) new slot (slot_row after slot) → CountsExpanded (EdgeAt n) touched (slot_row after slot) count now next
        → ((i : ℕ) (other : Slot) → HasSlot slots i other → IsTaken p other) → IsExtended n touched slots p new (end + 1) first next
    extended_more after new first now next count old width taken spare others led counts out =
        let same = old.left end slot (omega arith) has in
        let differs : (i : ℕ) (other : Slot) → HasSlot slots i other → i ≢ end → other ≢ slot =
        λ i other its apart_from e. apart_from (apart i end slot (subst (λ s. HasSlot slots i s) e its) has) in
        record {
          width = width ∙ old.width;
          taken = taken ∙ old.taken;
          spare = spare ∙ old.spare;
          led = λ i other lt its. elim (cases_eq i end) [
            | inl here ↦
                let one = one_slot slots end slot other has (subst (λ k. HasSlot slots k other) here its) in
                subst (λ s. HasLed (EdgeAt n) new s (slot_row p s)) one (subst (HasLed (EdgeAt n) new slot) same led)
            | inr apart_from ↦
                let (row, there, is) = old.led i other (omega arith) its in
                (row, (others other (differs i other its apart_from) row).1 there, is)
          ];
          left = λ i other le its.
              let mine = old.left i other (omega arith) its in
              let held : IsTaken after other = ap (λ t. slice_index_or t other.0 false) old.taken ∙ out i other its in
              let there = (others other (differs i other its (λ e. absurd (omega arith))) (slot_row after other)).1 (held, refl) in
              sym there.1 ∙ mine;
          cost = costs_next first now next count old.cost (subst (λ words. CountsExpanded (EdgeAt n) touched words count now next) same counts);
        }

-- where what stands beside each item is no more than something else that does, the sums are so
raised : {X : Type 0} (S T : X → ℕ → Type 0) → ((x : X) (m : ℕ) → S x m → (n : ℕ) × T x n × (m ≤ n)) → (xs : List X) (ms : List ℕ) → AllZip S xs ms
    → (ns : List ℕ) × AllZip T xs ns × (sum ms ≤ sum ns)
raised S T more [] [] zip = ([], tt, omega arith)
raised S T more [] (m ∷ ms) zip = absurd zip
raised S T more (x ∷ xs) [] zip = absurd zip
raised S T more (x ∷ xs) (m ∷ ms) zip =
    let first = more x m zip.0 in
    let rest = raised S T more xs ms zip.1 in (
      first.0 ∷ rest.0,
      (first.1, rest.1),
      (let a = sum_by-cons (λ k. k) m ms in let b = sum_by-cons (λ k. k) first.0 rest.0 in let c = first.2 in let d = rest.2 in omega arith),
    )

-- once all rows are extended, what was expanded is no more than the edit costs
module _ (old new : Numbered) (edit : Edit) (touched : List Bool) (slots : List (Option Slot)) (p : Pool) (linked : IsAfterLink old edit new touched slots p) (after : Pool)
    (led : (i : ℕ) (slot : Slot) → HasSlot slots i slot → HasLed (EdgeAt new) after slot (slot_row p slot)) where
  abbrev t : Topology
  t = topology_of old

  abbrev u : Topology
  u = topology_of new

  abbrev IsCounted : NodeName → NodeName → Type 0
  IsCounted q x = IsNewlyCaused t u q x ⊎ IsTouchedBelow t u q x

  counted : (q : NodeName) (m : ℕ) → HasExpanded new touched slots p q m → (k : ℕ) × IsCount (IsCounted q) k × (m ≤ k)
  counted q m expanded =
      let owner = who_later old new edit touched slots p linked expanded.place expanded.slot expanded.has in
      let same = named_once new (number expanded.place) owner.0 q owner.1 expanded.named in
      let (row, there, is) = led expanded.place expanded.slot expanded.has in
      let exact = exactly_expanded old new edit touched slots p linked expanded.place expanded.slot expanded.has row is in
      let few = expanded_few old new edit touched slots p linked expanded.place expanded.slot expanded.has expanded.nodes exact.0 expanded.each exact.1 in
      let size = expanded.size_is in
      (exact.0, subst (λ z. IsCount (IsCounted z) exact.0) same exact.1, omega arith)

  module _ (end first now : ℕ) (costs : CostsUpto new touched slots p end first now) (all : length slots ≤ end) where
    stale_are_dirty : (q : NodeName) → Contains costs.names q ↔ IsDirty t u q
    stale_are_dirty q = (
      λ has.
          let stale = (costs.each q).0 has in
          let owner = who_later old new edit touched slots p linked stale.place stale.slot stale.has in
          let same = named_once new (number stale.place) owner.0 q owner.1 stale.named in
          subst (IsDirty t u) same (is_dirty old new edit touched slots p linked stale.place stale.slot stale.has stale.stale),
      λ dirty.
          let (i, slot, named, has, stale) = dirty_row old new edit touched slots p linked q dirty in
          (costs.each q).1 (record { place = i; early = (let low = slot_low slots i slot has in omega arith); named = named; slot = slot; has = has; stale = stale }),
    )

    pub within_link : CountsAtMost (IsEditCost t edit u) first now
    within_link =
        let sizes = raised (HasExpanded new touched slots p) (λ q k. IsCount (IsCounted q) k) counted costs.names costs.sizes costs.sized in
        let total : IsTotal (IsDirty t u) IsCounted (sum sizes.0) = record {
          names = costs.names;
          once = costs.once;
          each = stale_are_dirty;
          sizes = sizes.0;
          sized = sizes.1;
          total_is = refl;
        } in
        link_cost t u edit linked.link first now
        (record { cost = sum sizes.0; is_cost = total; few = (let few = costs.few in let more = sizes.2 in omega arith) })
