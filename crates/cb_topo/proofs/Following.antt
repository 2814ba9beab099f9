-- Nodes in order, once an edit is made.
use Rattle.std.proofs.Common.{◌≡◌, ◌≢◌, ◌⊎◌, ℕ, ◌+◌, ◌<◌, ◌≤◌, List, slice_index_or, suc, [], ◌∷◌, cond, Bool, true, false, Option, Some, None, is_some, refl, sym, ap, subst, ◌∙◌, inl, inr, arith}
use Rattle.std.specs.Prelude.{IfSome, IfNone}
use Rattle.std.specs.Global.{Global}
use Rattle.std.specs.List.{Contains, filter}
use Rattle.std.specs.declared.vec.Vec.{Vec}
use Rattle.std.proofs.lemmas.Bool.{cases_order, cond_both, false≢true}
use Rattle.std.proofs.lemmas.List.Elements.{All-weaker, filter_passes, All-contains}
use Rattle.std.proofs.lemmas.List.Kept.{AllPairs-filter}
use Rattle.cb_model.specs.declared.node.NodeName.{NodeName}
use Rattle.cb_model.specs.NodeOrder.{node_cmp}
use Rattle.cb_model.proofs.Rising.{contains_cases}
use Rattle.std.specs.declared.cmp.Ordering.TheVariants.{Less}
use Rattle.cb_network.specs.declared.edit.Edit.{Edit}
use Rattle.cb_network.specs.declared.edit.Edit.TheVariants.{Create, Delete, Link, Unlink, Mute, Unmute}
use Rattle.cb_network.specs.declared.edit.EditRefusal.TheVariants.{Exists}
use Rattle.cb_network.specs.Edits.{with_link, without_link, with_mute, without_mute, node_name_of}
use Rattle.cb_network.specs.Nodes.{IsNodeOf}
use Rattle.cb_network.specs.Topology.{IsLive as IsLiveName}
use Rattle.cb_network.proofs.Counts.{nodes_are}
use Rattle.cb_network.proofs.Kept.{live_of}
use Rattle.cb_instances.specs.declared.id.InstanceId.{InstanceId}
use Rattle.cb_instances.specs.Net.{IsNamed, slot}
use Rattle.cb_instances.proofs.Placing.{decide_id}
use Rattle.cb_instances.proofs.Showing.{same_inside}
use Rattle.cb_nodes.specs.declared.id.NodeId.{NodeId}
use Rattle.cb_nodes.specs.declared.node.Node.{Node}
use Rattle.cb_nodes.specs.Table.{Table, IsNode, HasNumber}
use Rattle.cb_topo.specs.Applied.{Applies}
use Rattle.cb_topo.specs.Numbered.{Numbered, topology_of, IsNodeNamed, IsLiveNode, IsWhole}
use Rattle.cb_topo.specs.Settled.{IsBefore, AreRisingNodes, IsSettled, IsAt, has_node, LacksInstance, MayBeGone, PutsIn, WereSettled, IsSettledOrder, WasOrderOf}
use Rattle.cb_topo.proofs.Creating.{class_stays, class_before}
use Rattle.cb_topo.proofs.Deleting.{class_was}
use Rattle.cb_topo.proofs.Named.{one_name as one_instance_name}
use Rattle.cb_topo.proofs.Naming.{one_name}

module _ (old new : Numbered) (edit : Edit) (ids : List NodeId) (old_whole : IsWhole old) (whole : IsWhole new) (settled : IsSettled old ids) (applies : Applies old edit new) where
  -- no node is new
  module _ (were : (x : NodeName) → IsNodeOf (topology_of new) x → IsNodeOf (topology_of old) x) where
    named_was : (id : NodeId) (x : NodeName) → IsNodeNamed new id x → IsNodeNamed old id x
    named_was id x named =
        let is = whole.live id x named in
        let (j, was) = old_whole.named x (were x is) in
        subst (λ k. IsNodeNamed old k x) (whole.one j id x (applies.nodes j x was is) named) was

    pub may_be_gone : MayBeGone new ids
    may_be_gone = record {
      rise = λ i j d lt inside x y is_x is_y.
          settled.rising.rise i j d lt inside x y (named_was (slice_index_or ids i d) x is_x) (named_was (slice_index_or ids j d) y is_y);
      all = λ id (x, named). settled.all id (x, named_was id x named);
    }

    -- nor is one gone
    pub stays_settled : ((x : NodeName) → IsNodeOf (topology_of old) x → IsNodeOf (topology_of new) x) → IsSettled new ids
    stays_settled stay = record {
      rising = record {
        live = λ k d lt.
            let (x, was) = settled.rising.live k d lt in
            (x, applies.nodes (slice_index_or ids k d) x was (stay x (old_whole.live (slice_index_or ids k d) x was)));
        rise = may_be_gone.rise;
      };
      all = may_be_gone.all;
    }

-- an edit of links or mutes alone
pub rewired_settled : (new : Numbered) (edit : Edit) (ids : List NodeId) → WereSettled new edit ids
    → ((name class : List ℕ) → edit ≢ Create name class) → ((name : List ℕ) → edit ≢ Delete name) → IsSettled new ids
rewired_settled new (Create name class) ids were no_create no_delete = absurd (no_create name class refl)
rewired_settled new (Delete name) ids were no_create no_delete = absurd (no_delete name refl)
rewired_settled new (Link a rel b) ids were no_create no_delete =
    let t = topology_of were.old in
    let u = topology_of new in
    let (r, s, pair, is) = were.applies.after.1 in
    stays_settled were.old new (Link a rel b) ids were.old_whole were.whole were.settled were.applies
    (λ x at. (nodes_are t x).1 ((nodes_are (with_link t a r s b) x).0 (subst (λ v. IsNodeOf v x) is at)))
    (λ x at. subst (λ v. IsNodeOf v x) (sym is) ((nodes_are (with_link t a r s b) x).1 ((nodes_are t x).0 at)))
rewired_settled new (Unlink a rel b) ids were no_create no_delete =
    let t = topology_of were.old in
    let (r, s, pair, is) = were.applies.after.1 in
    stays_settled were.old new (Unlink a rel b) ids were.old_whole were.whole were.settled were.applies
    (λ x at. (nodes_are t x).1 ((nodes_are (without_link t a r s b) x).0 (subst (λ v. IsNodeOf v x) is at)))
    (λ x at. subst (λ v. IsNodeOf v x) (sym is) ((nodes_are (without_link t a r s b) x).1 ((nodes_are t x).0 at)))
rewired_settled new (Mute event name) ids were no_create no_delete =
    let t = topology_of were.old in
    let is = were.applies.after.1 in
    stays_settled were.old new (Mute event name) ids were.old_whole were.whole were.settled were.applies
    (λ x at. (nodes_are t x).1 ((nodes_are (with_mute t (node_name_of event name)) x).0 (subst (λ v. IsNodeOf v x) is at)))
    (λ x at. subst (λ v. IsNodeOf v x) (sym is) ((nodes_are (with_mute t (node_name_of event name)) x).1 ((nodes_are t x).0 at)))
rewired_settled new (Unmute event name) ids were no_create no_delete =
    let t = topology_of were.old in
    let is = were.applies.after.1 in
    stays_settled were.old new (Unmute event name) ids were.old_whole were.whole were.settled were.applies
    (λ x at. (nodes_are t x).1 ((nodes_are (without_mute t (node_name_of event name)) x).0 (subst (λ v. IsNodeOf v x) is at)))
    (λ x at. subst (λ v. IsNodeOf v x) (sym is) ((nodes_are (without_mute t (node_name_of event name)) x).1 ((nodes_are t x).0 at)))

-- a deletion
pub deleted_may_be_gone : (new : Numbered) (name : List ℕ) (ids : List NodeId) → WereSettled new (Delete name) ids → MayBeGone new ids
deleted_may_be_gone new name ids were =
    let t = topology_of were.old in
    let is = were.applies.after.1 in
    may_be_gone were.old new (Delete name) ids were.old_whole were.whole were.settled were.applies
    (λ x at.
    let (e, there) = subst (λ v. IsNodeOf v x) is at in
    (e, record { class = there.class; of_class = (class_was t name x.instance there.class there.of_class).1; named = there.named }))

-- a creation
pub created_lacks : (new : Numbered) (name class : List ℕ) (i : InstanceId) (ids : List NodeId) → IsNamed new.net i name
    → WereSettled new (Create name class) ids → LacksInstance new i ids
created_lacks new name class i ids named were =
    let whole = were.whole in
    let old = were.old in
    let t = topology_of old in
    let fresh = were.applies.after.0 Exists in
    let (c, names, is) = were.applies.after.1 in
    let stay : (x : NodeName) → IsNodeOf t x → IsNodeOf (topology_of new) x = λ x (e, at).
    subst (λ v. IsNodeOf v x) (sym is) (e, record { class = at.class; of_class = class_stays t name c fresh x.instance at.class at.of_class; named = at.named }) in
    let now : (id : NodeId) (x : NodeName) → IsNodeNamed old id x → IsNodeNamed new id x = λ id x was. were.applies.nodes id x was (stay x (were.old_whole.live id x was)) in
    record {
      rising = record {
        live = λ k d lt. let (x, was) = were.settled.rising.live k d lt in (x, now (slice_index_or ids k d) x was);
        rise = λ j k d lt inside x y is_x is_y.
            let (a, was_a) = were.settled.rising.live j d (omega arith) in
            let (b, was_b) = were.settled.rising.live k d inside in
            let e = one_name new (slice_index_or ids j d) a x (now (slice_index_or ids j d) a was_a) is_x in
            let f = one_name new (slice_index_or ids k d) b y (now (slice_index_or ids k d) b was_b) is_y in
            subst (λ r. node_cmp x r ≡ Less) f (subst (λ r. node_cmp r b ≡ Less) e (were.settled.rising.rise j k d lt inside a b was_a was_b));
      };
      others = λ id (x, its) elsewhere.
          let (e, at) = subst (λ v. IsNodeOf v x) is (whole.live id x its) in
          elim (class_before t name c fresh x.instance at.class at.of_class) [
            | inl here ↦
                let own : IsNamed new.net its.node.instance name = subst (IsNamed new.net its.node.instance) here.0 its.instance in
                absurd (elsewhere (its.node, its.is, whole.net.one its.node.instance i name own named))
            | inr was ↦
                let node : IsNodeOf t x = (e, record { class = at.class; of_class = was; named = at.named }) in
                let (j, before) = were.old_whole.named x node in
                were.settled.all id (x, subst (λ k. IsNodeNamed old k x) (whole.one j id x (now j x before) its) before)
          ];
      none = λ id there (node, its, at).
          let (x, was) = All-contains (IsLiveNode old) ids id were.settled.rising.live there in
          let later = now id x was in
          let same : later.node ≡ node = same_inside later.node node (sym later.is ∙ its) in
          let own : IsNamed new.net i x.instance = subst (λ k. IsNamed new.net k x.instance) (ap (λ (k : Node). k.instance) same ∙ at) later.instance in
          let (e, old_at) = were.old_whole.live id x was in
          fresh (subst (IsLiveName t) (one_instance_name new.net i x.instance name own named) (live_of t x.instance old_at.class old_at.of_class));
    }

-- what a look-up found says whether there is a node
pub reported_node : (nodes : Table) (id : NodeId) (r : Option Node) → IfSome r (IsNode nodes id) → IfNone r (¬ HasNumber nodes id) → is_some r ≡ has_node nodes id
reported_node nodes id (Some node) found absent = sym (ap is_some found)
reported_node nodes id None found absent = none_is (slot nodes id.0) refl
  where
    none_is : (o : Option Node) → slot nodes id.0 ≡ o → false ≡ has_node nodes id
    none_is None is = sym (ap is_some is)
    none_is (Some node) is = absurd (absent (node, is))

filter_has : {X : Type 0} (p : X → Bool) (xs : List X) (x : X) → p x ≡ true → Contains xs x → Contains (filter p xs) x
filter_has p [] x passes (k, lt, e) = absurd (omega arith)
filter_has p (y ∷ ys) x passes there = elim (contains_cases y ys x there) [
  | inl e ↦ subst (λ b. Contains (cond b (y ∷ filter p ys) (filter p ys)) x) (sym (ap p e ∙ passes)) (0, omega arith, e)
  | inr later ↦
      let rest = filter_has p ys x passes later in
      cond_both (p y) (y ∷ filter p ys) (filter p ys) (λ zs. Contains zs x) (λ _. (suc rest.0, omega (arith, rest.1), rest.2)) (λ _. rest)
]

-- those that aren't nodes any more are taken out
pub gone_settled : (n : Numbered) (ids : List NodeId) → IsWhole n → MayBeGone n ids → IsSettled n (filter (has_node n.nodes) ids)
gone_settled n ids whole may = record {
  rising = record {
    live = All-weaker (λ id. has_node n.nodes id ≡ true) (IsLiveNode n) (λ id passes. live_if n whole id (slot n.nodes id.0) refl passes) (filter (has_node n.nodes) ids) (filter_passes (has_node n.nodes) ids);
    rise = AllPairs-filter (IsBefore n) (has_node n.nodes) ids may.rise;
  };
  all = λ id (x, named). filter_has (has_node n.nodes) ids id (ap is_some named.is) (may.all id (x, named));
}
  where
    live_if : (n : Numbered) → IsWhole n → (id : NodeId) (o : Option Node) → slot n.nodes id.0 ≡ o → is_some (slot n.nodes id.0) ≡ true → IsLiveNode n id
    live_if n whole id None is passes = absurd (false≢true (sym (ap is_some is) ∙ passes))
    live_if n whole id (Some node) is passes = whole.node_named id node is

-- the nodes of the instance whose numbers are below k were put in
pub record IsPartly (n : Numbered) (i : InstanceId) (k : ℕ) (ids : List NodeId) : Type 0 where
  pub rising : AreRisingNodes n ids
  pub later : (id : NodeId) → IsAt n i id → k ≤ id.0 → ¬ Contains ids id
  pub all : (id : NodeId) → IsLiveNode n id → Contains ids id ⊎ (IsAt n i id × (k ≤ id.0))

module _ (n : Numbered) (i : InstanceId) where
  decide_at : (nodes : Table) (o : Option Node) (id : NodeId) → slot nodes id.0 ≡ o → ((node : Node) × IsNode nodes id node × (node.instance ≡ i)) ⊎ ¬ ((node : Node) × IsNode nodes id node × (node.instance ≡ i))
  decide_at nodes None id is = inr (λ (node, its, at). absurd (let f : None ≡ Some node = sym is ∙ its in cc))
  decide_at nodes (Some node) id is = elim (decide_id node.instance i) [
    | inl same ↦ inl (node, is, same)
    | inr other ↦ inr (λ (m, its, at). other (ap (λ (k : Node). k.instance) (same_inside node m (sym is ∙ its)) ∙ at))
  ]

  pub partly_none : (ids : List NodeId) → LacksInstance n i ids → IsPartly n i 0 ids
  partly_none ids lacks = record {
    rising = lacks.rising;
    later = λ id at _ there. lacks.none id there at;
    all = λ id live. elim (decide_at n.nodes (slot n.nodes id.0) id refl) [
      | inl at ↦ inr (at, omega arith)
      | inr other ↦ inl (lacks.others id live other)
    ];
  }

  module _ (k : ℕ) (ids : List NodeId) (partly : IsPartly n i k ids) (id : NodeId) (here : id.0 ≡ k) where
    same_number : (j : NodeId) → j.0 ≡ k → j ≡ id
    same_number j e = let f : j.0 ≡ id.0 = e ∙ sym here in λ x. record { 0 = f x }

    pub partly_past : ¬ IsAt n i id → IsPartly n i (k + 1) ids
    partly_past elsewhere = record {
      rising = partly.rising;
      later = λ j at high there. partly.later j at (omega arith) there;
      all = λ j live. elim (partly.all j live) [
        | inl there ↦ inl there
        | inr (at, high) ↦ elim (cases_order j.0 k) [
          | inl e ↦ absurd (elsewhere (subst (IsAt n i) (same_number j e) at))
          | inr (inl low) ↦ absurd (omega arith)
          | inr (inr above) ↦ inr (at, omega arith)
        ]
      ];
    }

    pub partly_more : (more : List NodeId) → PutsIn n ids more id → IsPartly n i (k + 1) more
    partly_more more puts = record {
      rising = puts.rising;
      later = λ j at high there. elim (puts.others j there) [
        | inl was ↦ partly.later j at (omega arith) was
        | inr e ↦ let f = ap (λ (m : NodeId). m.0) e in absurd (omega arith)
      ];
      all = λ j live. elim (partly.all j live) [
        | inl there ↦ inl (puts.kept j there)
        | inr (at, high) ↦ elim (cases_order j.0 k) [
          | inl e ↦ inl (subst (Contains more) (sym (same_number j e)) puts.this)
          | inr (inl low) ↦ absurd (omega arith)
          | inr (inr above) ↦ inr (at, omega arith)
        ]
      ];
    }

  pub partly_all : (k : ℕ) (ids : List NodeId) → IsPartly n i k ids → ((id : NodeId) → IsLiveNode n id → id.0 < k) → IsSettled n ids
  partly_all k ids partly below = record {
    rising = partly.rising;
    all = λ id live. elim (partly.all id live) [
      | inl there ↦ there
      | inr (at, high) ↦ let low = below id live in absurd (omega arith)
    ];
  }

-- what is known of nodes in order, once an edit is made
pub were_order : (old new : Numbered) (edit : Edit) (order : Option (Vec NodeId Global)) → IsWhole old → IsWhole new → Applies old edit new → IsSettledOrder old order → WasOrderOf new edit order
were_order old new edit None old_whole whole applies is = tt
were_order old new edit (Some order) old_whole whole applies is = record { old = old; old_whole = old_whole; whole = whole; settled = is; applies = applies }
