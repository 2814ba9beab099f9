use Rattle.std.proofs.Common.{◌≡◌, ◌∷◌, ◌+◌, ℕ, List, take, min, sym, ap, subst, ◌∙◌}
use Rattle.std.specs.VecDeque.{deque_len, deque_capacity}
use Rattle.cb_model.specs.WellTyped.{WellTyped}
use Rattle.cb_network.specs.Sound.{Sound}
use Rattle.cb_network.specs.Regular.{IsRegular}
use Rattle.cb_network.proofs.Typed.{typed_is_regular}
use Rattle.cb_history.specs.Inverse.{Inverts}
use Rattle.cb_inverse.specs.declared.inverse.Inverse.{Inverse}
use Rattle.cb_inverse.specs.Inverses.{inverse_edits}
use Rattle.cb_topo.specs.Accepted.{IsDecided}
use Rattle.cb_topo.specs.Numbered.{Numbered, topology_of}
use Rattle.cb_undo.proofs.Keeping.{edit_keeps}
use Rattle.cb_undo.proofs.record.record_accepted.Goals as goal

pub inverse_of-requires : goal.inverse_of-requires
inverse_of-requires g c =
    let path : c.topology-topology.result.now ≡ g.N.EditedTopology.numbered c.args.network.now = c.topology-topology.ensures in
    subst (λ (m : Numbered). IsDecided m c.args.accepted.now) (sym path) c.requires.decided

pub returns-in-Ok-clause-kept : goal.returns-in-Ok-clause-kept
returns-in-Ok-clause-kept g c =
    let n = g.N.EditedTopology.numbered c.args.network.now in
    let edit = c.args.accepted.now.edit.now in
    let path : c.topology-topology.result.now ≡ n = c.topology-topology.ensures in
    let sound = subst (λ (m : Numbered). Sound (topology_of m)) path c.model-model.ensures.sound in
    let typed = subst (λ (m : Numbered). WellTyped (topology_of m).model) path c.model-model.ensures.typed in
    let regular : IsRegular (topology_of n).model = typed_is_regular (topology_of n).model typed in
    let i = c.in_ok-inverse.inverse in
    let inverts = subst (λ (m : Numbered). Inverts (topology_of m) edit (inverse_edits i)) path c.in_ok-inverse.ensures.inverts in
    let old = c.args.inverses.now in
    let new = c.truncate.new.self in
    let items : new.items ≡ take c.args.depth (i ∷ old.items) = c.truncate.ensures.items ∙ ap (λ (xs : List Inverse). take c.args.depth xs) c.push_front_reserved.ensures.items in
    let count : deque_len new ≡ min c.args.depth (deque_len old + 1) = c.truncate.ensures.len ∙ ap (λ (k : ℕ). min c.args.depth k) c.push_front_reserved.ensures.len in
    let capacity : deque_capacity new ≡ deque_capacity old = c.truncate.ensures.capacity ∙ c.push_front_reserved.ensures.capacity in
    edit_keeps (topology_of n) (topology_of (g.N.EditedTopology.numbered c.apply_accepted.new.self)) c.args.depth edit old.items new.items (deque_len old) (deque_capacity old) (deque_len new) (deque_capacity new) i
    c.requires.kept sound regular c.in-Ok.ensures.made.after c.in_ok-inverse.ensures.again inverts items count capacity

pub returns-in-Ok-clause-keeps : goal.returns-in-Ok-clause-keeps
returns-in-Ok-clause-keeps g c =
    let n = g.N.EditedTopology.numbered c.args.network.now in
    let edit = c.args.accepted.now.edit.now in
    let path : c.topology-topology.result.now ≡ n = c.topology-topology.ensures in
    let typed = subst (λ (m : Numbered). WellTyped (topology_of m).model) path c.model-model.ensures.typed in
    let i = c.in_ok-inverse.inverse in
    let items : c.truncate.new.self.items ≡ take c.args.depth (i ∷ c.args.inverses.now.items) =
    c.truncate.ensures.items ∙ ap (λ (xs : List Inverse). take c.args.depth xs) c.push_front_reserved.ensures.items in
    record {
      sound = subst (λ (m : Numbered). Sound (topology_of m)) path c.model-model.ensures.sound;
      regular = typed_is_regular (topology_of n).model typed;
      inverse = i;
      again = c.in_ok-inverse.ensures.again;
      inverts = subst (λ (m : Numbered). Inverts (topology_of m) edit (inverse_edits i)) path c.in_ok-inverse.ensures.inverts;
      is = items;
    }
