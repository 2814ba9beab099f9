-- What a row gains of the nodes that an edit touches.
use Rattle.std.proofs.Common.{◌≡◌, ◌↔◌, ◌⊎◌, inl, inr, ℕ, ◌+◌, ◌<◌, Bool, List, length, Some, refl, sym, ap, subst, ◌∙◌, arith}
use Rattle.std.specs.List.{All, Contains}
use Rattle.std.specs.Prelude.{slice_get}
use Rattle.std.proofs.lemmas.Bool.{cases_eq}
use Rattle.std.proofs.lemmas.Option.{slice_get_within}
use Rattle.cb_model.specs.declared.id.ClassId.{ClassId}
use Rattle.cb_model.specs.declared.tables.RuleRow.{RuleRow}
use Rattle.cb_model.specs.declared.tables.Tables.{Tables}
use Rattle.cb_model.specs.Classes.{HasRule, NamesEvent}
use Rattle.cb_model.specs.WellTyped.{IsClass, IsEvent, IsPlace, WellTyped}
use Rattle.cb_model.proofs.Numbers.{all_at}
use Rattle.cb_network.specs.declared.edit.Edit.{Edit}
use Rattle.cb_network.specs.declared.edit.Edit.TheVariants.{Create, Delete, Link, Unlink, Mute, Unmute}
use Rattle.cb_network.specs.Topology.{Topology, HasClass}
use Rattle.cb_network.specs.Regular.{IsRegular}
use Rattle.cb_change.specs.Before.{MovesLink}
use Rattle.cb_change.specs.Laws.{IsStep, KeepsLinks}
use Rattle.cb_change.proofs.Comes.{comes, meets}
use Rattle.cb_change.proofs.Kept.{never_meets}
use Rattle.cb_change.proofs.Moved.{moved}
use Rattle.cb_change.proofs.Steps.{links_kept}
use Rattle.cb_instances.specs.declared.id.InstanceId.{InstanceId}
use Rattle.cb_instances.specs.Net.{Net, IsNamed, IsLiveInstance, name_at, name_or, event_name}
use Rattle.cb_nodes.specs.declared.node.Node.{Node}
use Rattle.cb_nodes.specs.Table.{node_of}
use Rattle.cb_successors.specs.Rows.{Has}
use Rattle.cb_topo.specs.Numbered.{Numbered, topology_of, IsWhole}
use Rattle.cb_network.proofs.Typed.{typed_is_regular}
use Rattle.cb_graph.specs.declared.moves.Moves.{Moves}
use Rattle.cb_graph.specs.declared.moves.Moves.TheVariants.{Pair, AllOf}
use Rattle.cb_graph.specs.Edges.{number}
use Rattle.cb_graph.specs.Instances.{RowGains}
use Rattle.cb_graph.specs.Touched.{IsTouchedNumber, AreMovedBy, HaveEnds, ComesAt, IsWhereComes, Remains, RemainsWith, IsCauseNumber, TouchesBy}
use Rattle.cb_graph.specs.Walks.{IsEventNumber}
use Rattle.cb_graph.proofs.Bridge.{one_class, one_event, one_at, event_at}
use Rattle.cb_graph.proofs.Named.{edit_moves, comes_by_name, comes_by_number}

-- an instance has the rules of its class
module _ (n : Net) (moves : Moves) (rule : ℕ) (i : InstanceId) (live : IsLiveInstance n i) (class : ClassId) (known : (name : List ℕ) → IsNamed n i name → HasClass n.topology name class) where
  class_here : HasClass n.topology (name_at n i) class
  class_here = subst (λ a. HasClass n.topology a class) (sym (ap name_or live.1)) (known live.0 live.1)

  pub stays_with : HasRule n.topology.model class rule → Remains moves i → RemainsWith n moves rule i
  stays_with has remains = record { class = class; of_class = class_here; has = has; remains = remains }

  pub class_has : RemainsWith n moves rule i → HasRule n.topology.model class rule
  class_has stays = subst (λ (c : ClassId). HasRule n.topology.model c rule) (one_class n.topology (name_at n i) stays.class class stays.of_class class_here) stays.has

module _ (n : Numbered) (moves : Moves) where
  abbrev tables : Tables
  tables = n.net.topology.model

  module _ (rule : ℕ) (row : RuleRow) (row_is : slice_get tables.rules rule ≡ Some row) where
    -- the paths of rules are of relations
    pub path_is : WellTyped tables → All (IsPlace tables) row.path
    path_is typed =
        let places = all_at (λ (row : RuleRow). IsClass tables row.class × IsEvent tables row.cause × All (IsPlace tables) row.path × IsEvent tables row.effect)
        tables.rules rule row row_is typed.places.rules in
        places.2

    -- a row gains what one rule touches
    pub rule_gained : (here : List Bool) → IsWhereComes n.net moves row.path here → (members : List InstanceId)
        → ((id : InstanceId) → Contains members id ↔ Has here id.0) → (old new : List Bool) → RowGains old new members (IsCauseNumber n moves rule row.cause)
        → (k : ℕ) → Has new k ↔ (Has old k ⊎ TouchesBy n moves rule k)
    rule_gained here where_comes members are old new gains k = (
      λ h. elim ((gains k).0 h) [
        | inl g ↦ inl g
        | inr g ↦ inr (record { row = row; of_row = row_is; at = g.0; comes = (where_comes g.0.0).0 ((are g.0).0 g.1); is = g.2 })
      ],
      λ s. (gains k).1 (elim s [
        | inl g ↦ inl g
        | inr b ↦
            let same : b.row ≡ row = cc (sym b.of_row ∙ row_is) in
            let comes = subst (λ (r : RuleRow). ComesAt n.net moves b.at r.path) same b.comes in
            inr (b.at, (are b.at).1 ((where_comes b.at.0).1 comes), subst (λ (r : RuleRow). IsCauseNumber n moves rule r.cause b.at k) same b.is)
      ]),
    )

  -- the row has gained what the rules of the first rows touch
  pub record HasGainedBelow (old now : List Bool) (m : ℕ) : Type 0 where
    pub len : length now ≡ length old
    pub each : (k : ℕ) → Has now k ↔ (Has old k ⊎ ((rule : ℕ) × (rule < m) × TouchesBy n moves rule k))

  pub below_none : (row : List Bool) → HasGainedBelow row row 0
  below_none row = record {
    len = refl;
    each = λ k. (λ h. inl h, λ s. elim s [ inl h ↦ h | inr t ↦ absurd (let lt = t.1 in omega arith) ]);
  }

  pub below_more : (old now new : List Bool) (m : ℕ) → HasGainedBelow old now m → length new ≡ length now
      → ((k : ℕ) → Has new k ↔ (Has now k ⊎ TouchesBy n moves m k)) → HasGainedBelow old new (m + 1)
  below_more old now new m gained len more = record {
    len = len ∙ gained.len;
    each = λ k. (
      λ h. elim ((more k).0 h) [
        | inl g ↦ elim ((gained.each k).0 g) [
          | inl w ↦ inl w
          | inr t ↦ inr (t.0, let lt = t.1 in omega arith, t.2)
        ]
        | inr t ↦ inr (m, omega arith, t)
      ],
      λ s. (more k).1 (elim s [
        | inl w ↦ inl ((gained.each k).1 (inl w))
        | inr t ↦ elim (cases_eq t.0 m) [
          | inl same ↦ inr (subst (λ (j : ℕ). TouchesBy n moves j k) same t.2)
          | inr other ↦ inl ((gained.each k).1 (inr (t.0, let lt = t.1 in omega arith, t.2)))
        ]
      ]),
    );
  }

  module _ (whole : IsWhole n) (typed : WellTyped tables) (edit : Edit) (new : Topology) (by : AreMovedBy n.net edit moves) (step : IsStep (topology_of n) edit new) where
    regular : IsRegular tables
    regular = typed_is_regular tables typed

    touched_of : (k rule : ℕ) → TouchesBy n moves rule k → IsTouchedNumber n new k
    touched_of k rule touches =
        let these = edit_moves n.net whole.net regular edit moves new by step in
        let at = touches.at in
        let stays = touches.is.remains in
        let c = stays.class in
        let had = stays.has in
        let same : touches.row ≡ had.row = cc (sym touches.of_row ∙ had.is) in
        let cause = had.row.cause in
        let is = subst (λ (r : RuleRow). IsEventNumber n r.cause at k) same touches.is.is in
        let to = whole.node_named (number k) (node_of at cause) is in
        let to_node : to.1.node ≡ node_of at cause = one_at n whole (number k) to.1.node (node_of at cause) to.1.is is in
        let named : IsNamed n.net at to.0.instance = subst (λ (z : Node). IsNamed n.net z.instance to.0.instance) to_node to.1.instance in
        let event : event_name tables cause ≡ to.0.event = subst (λ (z : Node). event_name tables z.event ≡ to.0.event) to_node to.1.event in
        let of_class : HasClass (topology_of n) to.0.instance c = subst (λ a. HasClass (topology_of n) a c) (ap name_or named) stays.of_class in
        let here = event_at n whole (number k) (node_of at cause) to.0 is named event in (
          to.0,
          to.1,
          record {
            class = c;
            of_class = of_class;
            stays = these.left at to.0.instance c named of_class stays.remains;
            rule = rule;
            has = had;
            cause = subst (λ d. NamesEvent tables d to.0.event cause) (one_class (topology_of n) to.0.instance here.class c here.of_class of_class) here.named;
            meets = meets (topology_of n) new (MovesLink (topology_of n) edit) (moved (topology_of n) new edit regular step) had.row.path to.0.instance
                (comes_by_name n.net whole.net moves (MovesLink (topology_of n) edit) new these at to.0.instance had.row.path named
                (subst (λ (r : RuleRow). ComesAt n.net moves at r.path) same touches.comes));
          },
        )

    touched_by : (k : ℕ) → IsTouchedNumber n new k → (rule : ℕ) × (rule < length tables.rules) × TouchesBy n moves rule k
    touched_by k (name, named, touched) =
        let these = edit_moves n.net whole.net regular edit moves new by step in
        let at = named.node.instance in
        let c = touched.class in
        let cause = touched.has.row.cause in
        let here = event_at n whole (number k) named.node name named.is named.instance named.event in
        let own : NamesEvent tables c name.event named.node.event =
        subst (λ d. NamesEvent tables d name.event named.node.event) (one_class (topology_of n) name.instance here.class c here.of_class touched.of_class) here.named in
        let event : named.node.event ≡ cause = one_event tables typed c name.event named.node.event cause own touched.cause in
        let remains = these.leaves at name.instance named.instance touched.stays in (
          touched.rule,
          slice_get_within tables.rules touched.rule touched.has.row touched.has.is,
          record {
            row = touched.has.row;
            of_row = touched.has.is;
            at = at;
            comes = comes_by_number n.net whole.net moves (MovesLink (topology_of n) edit) new these at name.instance touched.has.row.path named.instance remains
                (comes (topology_of n) new (MovesLink (topology_of n) edit) (moved (topology_of n) new edit regular step) touched.has.row.path name.instance touched.meets);
            is = record {
              remains = record {
                class = c;
                of_class = subst (λ a. HasClass (topology_of n) a c) (sym (ap name_or named.instance)) touched.of_class;
                has = touched.has;
                remains = remains;
              };
              is = named.is ∙ ap (λ e. Some (node_of at e)) event;
            };
          },
        )

    -- a row that gains what all rules touch gains what the edit touches
    pub touched_gained : (old now : List Bool) (m : ℕ) → m ≡ length tables.rules → HasGainedBelow old now m → (k : ℕ) → Has now k ↔ (Has old k ⊎ IsTouchedNumber n new k)
    touched_gained old now m all gained k = (
      λ h. elim ((gained.each k).0 h) [ inl g ↦ inl g | inr t ↦ inr (touched_of k t.0 t.2) ],
      λ s. (gained.each k).1 (elim s [
        | inl g ↦ inl g
        | inr t ↦ let f = touched_by k t in inr (f.0, let lt = f.1 in omega arith, f.2)
      ]),
    )

-- where no link moves, a row that has nothing has all that the edit touches
pub nothing_touched : (n : Numbered) (new : Topology) (edit : Edit) → IsStep (topology_of n) edit new → KeepsLinks edit → (row : List Bool) → ((k : ℕ) → ¬ Has row k)
    → (k : ℕ) → Has row k ↔ IsTouchedNumber n new k
nothing_touched n new edit step keeps row none k = (
  λ h. absurd (none k h),
  λ (name, _, touched).
      absurd (never_meets (topology_of n) new (links_kept (topology_of n) new edit step.accepted keeps) touched.has.row.path name.instance touched.meets),
)

-- the links that an edit moves are between live instances
pub moved_end : (n : Net) (edit : Edit) (moves : Moves) → AreMovedBy n edit moves → HaveEnds n moves
moved_end n (Create name class) moves none = absurd none
moved_end n (Mute event name) moves none = absurd none
moved_end n (Unmute event name) moves none = absurd none
moved_end n (Delete name) (Pair from r to s) none = absurd none
moved_end n (Delete name) (AllOf id) named = (name, named)
moved_end n (Link a rel b) (AllOf id) none = absurd none
moved_end n (Link a rel b) (Pair from r to s) pair = ((a, pair.from_is), (b, pair.to_is))
moved_end n (Unlink a rel b) (AllOf id) none = absurd none
moved_end n (Unlink a rel b) (Pair from r to s) pair = ((a, pair.from_is), (b, pair.to_is))
