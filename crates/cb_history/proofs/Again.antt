-- An instance of which a part was made again is deleted again.
use Rattle.std.proofs.Common.{◌≡◌, ℕ, List, [], ◌∷◌, ◌++◌, refl, sym, ap, subst, ◌∙◌, inl, Ok, true, is_some}
use Rattle.std.specs.FinMap as map
use Rattle.std.specs.List.{AllZip, Contains}
use Rattle.cb_model.specs.declared.node.NodeName.{NodeName}
use Rattle.cb_model.proofs.Rising.{name_cmp_total, name_cmp_exact, contains_head, contains_tail}
use Rattle.cb_network.specs.declared.edit.Edit.{Edit}
use Rattle.cb_network.specs.declared.edit.Edit.TheVariants.{Create, Delete, Link, Unlink, Mute, Unmute}
use Rattle.cb_network.specs.declared.edit.EditRefusal.{EditRefusal}
use Rattle.cb_network.specs.declared.edit.EditRefusal.TheVariants.{NoClass, Exists, NoInstance, NoRelation, WrongKind, Linked, Occupied, NotLinked, NoSymptom, AlreadyMuted, NotMuted, InstanceLimit, NodeLimit, ProblemLimit, SymptomLimit}
use Rattle.cb_network.specs.Topology.{Topology, Link as TheLink, IsLive}
use Rattle.cb_network.specs.Sound.{Sound}
use Rattle.cb_network.specs.Regular.{IsRegular}
use Rattle.cb_network.specs.Edits.{IsAfter, Changes, Refuses, without_instance, with_instance, with_link, node_name_of}
use Rattle.cb_network.proofs.Sets.{got_insert}
use Rattle.cb_history.specs.Inverse.{AllMake, Inverts, Rebuilds, CreatesAgain, LinksAgain, MutesAgain, AreLinksOf, AreMutesOf}
use Rattle.cb_history.proofs.Off.{AgreeOff, off_join, off_itself, off_deleted, off_created, off_linked, off_muted, same_without}

-- P holds of each edit
abbrev pub Each : (Edit → Type 0) → List Edit → Type 0
Each P [] = Unit {0}
Each P (edit ∷ edits) = P edit × Each P edits

pub each_joined : (P : Edit → Type 0) (xs ys : List Edit) → Each P xs → Each P ys → Each P (xs ++ ys)
each_joined P [] ys p q = q
each_joined P (x ∷ xs) ys p q = (p.0, each_joined P xs ys p.1 q)

pub each_prefix : (P : Edit → Type 0) (xs ys : List Edit) → Each P (xs ++ ys) → Each P xs
each_prefix P [] ys p = tt
each_prefix P (x ∷ xs) ys p = (p.0, each_prefix P xs ys p.1)

-- what follows of each pair holds of each edit
pub each_of : {X : Type 0} (R : X → Edit → Type 0) (P : Edit → Type 0) (xs : List X) (edits : List Edit)
    → ((x : X) (edit : Edit) → Contains xs x → R x edit → P edit) → AllZip R xs edits → Each P edits
each_of R P [] [] to zip = tt
each_of R P [] (edit ∷ edits) to zip = absurd zip
each_of R P (x ∷ xs) [] to zip = absurd zip
each_of R P (x ∷ xs) (edit ∷ edits) to zip =
    (to x edit (contains_head x xs) zip.0, each_of R P xs edits (λ y e c r. to y e (contains_tail x xs y c) r) zip.1)

-- the edit links from the instance or mutes a node of it
abbrev pub IsAtInstance : List ℕ → Edit → Type 0
IsAtInstance name (Link a rel b) = a ≡ name
IsAtInstance name (Mute event instance) = instance ≡ name
IsAtInstance name edit = ⊥

-- such an edit changes nothing else, and the instance stays
pub at_instance : (name : List ℕ) (v w : Topology) (edit : Edit) → IsAtInstance name edit → Changes v edit w
    → AgreeOff name w v × (w.instances ≡ v.instances)
at_instance name v w (Create n class) at changes = absurd at
at_instance name v w (Delete n) at changes = absurd at
at_instance name v w (Unlink a rel b) at changes = absurd at
at_instance name v w (Unmute event n) at changes = absurd at
at_instance name v w (Link a rel b) at (r, s, names, is) = (
  subst (λ z. AgreeOff name z v) (sym is) (subst (λ n. AgreeOff n (with_link v a r s b) v) at (off_linked a v r s b)),
  ap (λ (z : Topology). z.instances) is,
)
at_instance name v w (Mute event n) at is = (
  subst (λ z. AgreeOff name z v) (sym is) (off_muted name v (node_name_of event n) at),
  ap (λ (z : Topology). z.instances) is,
)

-- so do all such edits
pub all_at_instance : (name : List ℕ) (edits : List Edit) (v w : Topology) → Each (IsAtInstance name) edits → AllMake v edits w
    → AgreeOff name w v × (w.instances ≡ v.instances)
all_at_instance name [] v w each same = (subst (λ z. AgreeOff name z v) same (off_itself name v), ap (λ (z : Topology). z.instances) (sym same))
all_at_instance name (edit ∷ edits) v w each (next, after, rest) =
    let here = at_instance name v next edit each.0 after.1 in
    let later = all_at_instance name edits next w each.1 rest in
    (off_join name w next v later.0 here.0, later.1 ∙ here.1)

link_at : (t : Topology) (name : List ℕ) (links : List TheLink) → AreLinksOf t name links → (l : TheLink) (edit : Edit) → Contains links l → LinksAgain t l edit
    → IsAtInstance name edit
link_at t name links are l (Create n class) c again = absurd again
link_at t name links are l (Delete n) c again = absurd again
link_at t name links are l (Unlink a rel b) c again = absurd again
link_at t name links are l (Mute event n) c again = absurd again
link_at t name links are l (Unmute event n) c again = absurd again
link_at t name links are l (Link a rel b) c (r, at_a, is) = ap (λ (m : TheLink). m.from) (sym is) ∙ are.from l c

mute_at : (t : Topology) (name : List ℕ) (nodes : List NodeName) → AreMutesOf t name nodes → (n : NodeName) (edit : Edit) → Contains nodes n → MutesAgain n edit
    → IsAtInstance name edit
mute_at t name nodes are n (Create m class) c again = absurd again
mute_at t name nodes are n (Delete m) c again = absurd again
mute_at t name nodes are n (Link a rel b) c again = absurd again
mute_at t name nodes are n (Unlink a rel b) c again = absurd again
mute_at t name nodes are n (Unmute event m) c again = absurd again
mute_at t name nodes are n (Mute event m) c again = ap (λ (k : NodeName). k.instance) (sym again) ∙ (are.each n c).1

-- all edits after the first are of the instance
pub rest_at_instance : (t : Topology) (name : List ℕ) (edits : List Edit) (b : Rebuilds t name edits) → Each (IsAtInstance name) (b.link_edits ++ b.mute_edits)
rest_at_instance t name edits b =
    each_joined _ b.link_edits b.mute_edits
    (each_of (LinksAgain t) _ b.links b.link_edits (link_at t name b.links b.are_links) b.link)
    (each_of MutesAgain _ b.nodes b.mute_edits (mute_at t name b.nodes b.are_mutes) b.mute)

-- the first one brings the instance alone
created_off : (t v w : Topology) (name : List ℕ) (edit : Edit) → CreatesAgain t name edit → Changes v edit w
    → AgreeOff name w v × IsLive w name
created_off t v w name (Delete n) again changes = absurd again
created_off t v w name (Link a rel b) again changes = absurd again
created_off t v w name (Unlink a rel b) again changes = absurd again
created_off t v w name (Mute event n) again changes = absurd again
created_off t v w name (Unmute event n) again changes = absurd again
created_off t v w name (Create n class) (same, _) (c, named, is) =
    let made : w ≡ with_instance v name c = is ∙ ap (λ z. with_instance v z c) (sym same) in (
      subst (λ z. AgreeOff name z v) (sym made) (off_created name v c),
      subst (λ z. IsLive z name) (sym made) (ap is_some ((got_insert name_cmp_total name_cmp_exact v.instances name c name c).1 (inl (refl, refl)))),
    )

delete_accepted : (v : Topology) (name : List ℕ) → IsLive v name → (why : EditRefusal) → ¬ Refuses v (Delete name) why
delete_accepted v name live NoClass h = h
delete_accepted v name live Exists h = h
delete_accepted v name live NoInstance h = h live
delete_accepted v name live NoRelation h = h
delete_accepted v name live WrongKind h = h
delete_accepted v name live Linked h = h
delete_accepted v name live Occupied h = h
delete_accepted v name live NotLinked h = h
delete_accepted v name live NoSymptom h = h
delete_accepted v name live AlreadyMuted h = h
delete_accepted v name live NotMuted h = h
delete_accepted v name live InstanceLimit h = h
delete_accepted v name live NodeLimit h = h
delete_accepted v name live ProblemLimit h = h
delete_accepted v name live SymptomLimit h = h

-- a live instance may be deleted
pub live_is_deleted : (v u : Topology) (name : List ℕ) → IsLive v name → u ≡ without_instance v name → IsAfter v (Delete name) (Ok u)
live_is_deleted v u name live is = (delete_accepted v name live, is)

pub part_is_deleted_again : (t between : Topology) (name : List ℕ) (first : Edit) (prefix rest : List Edit) → IsRegular t.model → Sound t
    → Rebuilds t name (first ∷ (prefix ++ rest)) → AllMake (without_instance t name) (first ∷ prefix) between
    → IsAfter between (Delete name) (Ok (without_instance t name))
part_is_deleted_again t between name first prefix rest regular sound b (next, after, made) =
    let heads : first ≡ b.create = first_is first b.create (prefix ++ rest) (b.link_edits ++ b.mute_edits) b.is in
    let tails : prefix ++ rest ≡ b.link_edits ++ b.mute_edits = rest_is first b.create (prefix ++ rest) (b.link_edits ++ b.mute_edits) b.is in
    let each : Each (IsAtInstance name) prefix = each_prefix _ prefix rest (subst (λ es. Each (IsAtInstance name) es) (sym tails) (rest_at_instance t name _ b)) in
    let created = created_off t (without_instance t name) next name first (subst (CreatesAgain t name) (sym heads) b.creates) after.1 in
    let later = all_at_instance name prefix next between each made in
    let live : IsLive between name = subst (λ m. map.contains_key m name ≡ true) (sym later.1) created.1 in
    let off : AgreeOff name between t = off_join name between next t later.0 (off_join name next (without_instance t name) t created.0 (off_deleted name t)) in
    live_is_deleted between (without_instance t name) name live (sym (same_without name between t off))
  where
    first_is : (x y : Edit) (xs ys : List Edit) → x ∷ xs ≡ y ∷ ys → x ≡ y
    first_is x y xs ys e = cc

    rest_is : (x y : Edit) (xs ys : List Edit) → x ∷ xs ≡ y ∷ ys → xs ≡ ys
    rest_is x y xs ys e = cc

-- a list of one edit has no prefix with an edit after it
one_has_no_proper_prefix : (first back next : Edit) (prefix rest : List Edit) → first ∷ (prefix ++ next ∷ rest) ≡ back ∷ [] → ⊥
one_has_no_proper_prefix first back next [] rest e = cc
one_has_no_proper_prefix first back next (x ∷ prefix) rest e = cc

pub part_is_made_again : (t u between : Topology) (edit first next : Edit) (prefix rest : List Edit) → IsRegular t.model → Sound t → IsAfter t edit (Ok u)
    → Inverts t edit (first ∷ (prefix ++ next ∷ rest)) → AllMake u (first ∷ prefix) between → IsAfter between edit (Ok u)
part_is_made_again t u between (Create name class) first next prefix rest regular sound after inverts made = absurd (one_has_no_proper_prefix first _ next prefix rest inverts)
part_is_made_again t u between (Link a rel b) first next prefix rest regular sound after inverts made = absurd (one_has_no_proper_prefix first _ next prefix rest inverts)
part_is_made_again t u between (Unlink a rel b) first next prefix rest regular sound after inverts made = absurd (one_has_no_proper_prefix first _ next prefix rest inverts)
part_is_made_again t u between (Mute event name) first next prefix rest regular sound after inverts made = absurd (one_has_no_proper_prefix first _ next prefix rest inverts)
part_is_made_again t u between (Unmute event name) first next prefix rest regular sound after inverts made = absurd (one_has_no_proper_prefix first _ next prefix rest inverts)
part_is_made_again t u between (Delete name) first next prefix rest regular sound (accepted, is) b made =
    subst (λ z. IsAfter between (Delete name) (Ok z)) (sym is)
    (part_is_deleted_again t between name first prefix (next ∷ rest) regular sound b (subst (λ z. AllMake z (first ∷ prefix) between) is made))
