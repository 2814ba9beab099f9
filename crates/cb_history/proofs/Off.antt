-- Topologies that are the same but for one instance.
use Rattle.std.proofs.Common.{◌≡◌, ◌≢◌, ◌↔◌, ℕ, List, refl, sym, ap, subst, ◌∙◌, inl, inr, Bool, true, not, ◌||◌, None, Some}
use Rattle.std.specs.FinMap as map
use Rattle.std.specs.FinSet as set
use Rattle.cb_model.specs.declared.id.ClassId.{ClassId}
use Rattle.cb_model.specs.declared.id.RelId.{RelId}
use Rattle.cb_model.specs.declared.node.NodeName.{NodeName}
use Rattle.cb_model.proofs.Rising.{name_cmp_total, name_cmp_exact, node_cmp_total, node_cmp_exact}
use Rattle.cb_network.specs.Topology.{Topology, Link as TheLink, IsLive, HasClass, IsMuted}
use Rattle.cb_network.specs.Sound.{Sound}
use Rattle.cb_network.specs.Edits.{same_name, with_instance, without_instance, with_link, with_mute, link_of}
use Rattle.cb_network.proofs.Counts.{same_name_is, same_name_of}
use Rattle.cb_network.proofs.Kept.{live_of}
use Rattle.cb_network.proofs.Sets.{link_cmp_total, link_cmp_exact, in_insert, in_retain, or_cases, or_first, or_second, not_true, true_of_not}
use Rattle.cb_history.specs.Inverse.{IsLinkAtEnd}
use Rattle.cb_history.proofs.Same.{same_members, same_without_key, nothing_taken, seen_elsewhere, left_elsewhere}

-- the link stands in it
abbrev pub In : Topology → TheLink → Type 0
In t l = set.contains t.links l ≡ true

-- the test that a deletion makes
abbrev pub at_end : List ℕ → TheLink → Bool
at_end name l = same_name name l.from || same_name name l.to

pub end_is : (name : List ℕ) (l : TheLink) → at_end name l ≡ true → IsLinkAtEnd name l
end_is name l e = elim (or_cases (same_name name l.from) (same_name name l.to) e) [
  | inl f ↦ inl (sym (same_name_is name l.from f))
  | inr f ↦ inr (sym (same_name_is name l.to f))
]

pub end_of : (name : List ℕ) (l : TheLink) → IsLinkAtEnd name l → at_end name l ≡ true
end_of name l (inl e) = or_first (same_name name l.from) (same_name name l.to) (same_name_of name l.from (sym e))
end_of name l (inr e) = or_second (same_name name l.from) (same_name name l.to) (same_name_of name l.to (sym e))

-- a link that is left by a deletion
pub link_left : (t : Topology) (name : List ℕ) (l : TheLink) → In (without_instance t name) l ↔ (In t l × (¬ IsLinkAtEnd name l))
link_left t name l =
    let within = in_retain link_cmp_total link_cmp_exact t.links (λ m. not (same_name name m.from || same_name name m.to)) l in (
      λ h. let both = within.0 h in (both.0, λ e. not_true (at_end name l) both.1 (end_of name l e)),
      λ h. within.1 (h.0, true_of_not (at_end name l) (λ e. h.1 (end_is name l e))),
    )

pub mute_left : (t : Topology) (name : List ℕ) (n : NodeName) → IsMuted (without_instance t name) n ↔ (IsMuted t n × (n.instance ≢ name))
mute_left t name n =
    let within = in_retain node_cmp_total node_cmp_exact t.mutes (λ m. not (same_name name m.instance)) n in (
      λ h. let both = within.0 h in (both.0, λ e. not_true (same_name name n.instance) both.1 (same_name_of name n.instance (sym e))),
      λ h. within.1 (h.0, true_of_not (same_name name n.instance) (λ e. h.1 (sym (same_name_is name n.instance e)))),
    )

-- the two have one model, and all that is neither the instance nor its link or mute is in both
pub record AgreeOff (name : List ℕ) (v w : Topology) : Type 0 where
  pub model : v.model ≡ w.model
  pub instances : (q : List ℕ) → q ≢ name → map.get v.instances q ≡ map.get w.instances q
  pub links : (l : TheLink) → ¬ IsLinkAtEnd name l → In v l ↔ In w l
  pub mutes : (n : NodeName) → n.instance ≢ name → IsMuted v n ↔ IsMuted w n

pub off_back : (name : List ℕ) (v w : Topology) → AgreeOff name v w → AgreeOff name w v
off_back name v w a = record {
  model = sym a.model;
  instances = λ q ne. sym (a.instances q ne);
  links = λ l off. let e = a.links l off in (e.1, e.0);
  mutes = λ n off. let e = a.mutes n off in (e.1, e.0);
}

pub off_join : (name : List ℕ) (u v w : Topology) → AgreeOff name u v → AgreeOff name v w → AgreeOff name u w
off_join name u v w a b = record {
  model = a.model ∙ b.model;
  instances = λ q ne. a.instances q ne ∙ b.instances q ne;
  links = λ l off. let e = a.links l off in let f = b.links l off in (λ h. f.0 (e.0 h), λ h. e.1 (f.1 h));
  mutes = λ n off. let e = a.mutes n off in let f = b.mutes n off in (λ h. f.0 (e.0 h), λ h. e.1 (f.1 h));
}

pub off_itself : (name : List ℕ) (t : Topology) → AgreeOff name t t
off_itself name t = record { model = refl; instances = λ q ne. refl; links = λ l off. (λ h. h, λ h. h); mutes = λ n off. (λ h. h, λ h. h) }

-- without the instance they are one
pub same_without : (name : List ℕ) (v w : Topology) → AgreeOff name v w → without_instance v name ≡ without_instance w name
same_without name v w a =
    let instances = same_without_key name_cmp_total name_cmp_exact v.instances w.instances name a.instances in
    let links : (without_instance v name).links ≡ (without_instance w name).links = same_members link_cmp_total link_cmp_exact _ _ (λ l.
    let left = link_left v name l in
    let right = link_left w name l in (
      λ h. let both = left.0 h in right.1 ((a.links l both.1).0 both.0, both.1),
      λ h. let both = right.0 h in left.1 ((a.links l both.1).1 both.0, both.1),
    )) in
    let mutes : (without_instance v name).mutes ≡ (without_instance w name).mutes = same_members node_cmp_total node_cmp_exact _ _ (λ n.
    let left = mute_left v name n in
    let right = mute_left w name n in (
      λ h. let both = left.0 h in right.1 ((a.mutes n both.1).0 both.0, both.1),
      λ h. let both = right.0 h in left.1 ((a.mutes n both.1).1 both.0, both.1),
    )) in
    let model = a.model in
    λ i. record { model = model i; instances = instances i; links = links i; mutes = mutes i }

-- what a deletion leaves
pub off_deleted : (name : List ℕ) (t : Topology) → AgreeOff name (without_instance t name) t
off_deleted name t = record {
  model = refl;
  instances = λ q ne. left_elsewhere name_cmp_total name_cmp_exact t.instances name q ne;
  links = λ l off. let left = link_left t name l in (λ h. (left.0 h).0, λ h. left.1 (h, off));
  mutes = λ n off. let left = mute_left t name n in (λ h. (left.0 h).0, λ h. left.1 (h, off));
}

pub off_created : (name : List ℕ) (t : Topology) (c : ClassId) → AgreeOff name (with_instance t name c) t
off_created name t c = record {
  model = refl;
  instances = λ q ne. seen_elsewhere name_cmp_total name_cmp_exact t.instances name c q ne;
  links = λ l off. (λ h. h, λ h. h);
  mutes = λ n off. (λ h. h, λ h. h);
}

-- a link of the instance
pub off_linked : (name : List ℕ) (t : Topology) (r s : RelId) (b : List ℕ) → AgreeOff name (with_link t name r s b) t
off_linked name t r s b = record {
  model = refl;
  instances = λ q ne. refl;
  links = λ l off.
      let outer = in_insert link_cmp_total link_cmp_exact (set.insert t.links (link_of name r b)) (link_of b s name) l in
      let inner = in_insert link_cmp_total link_cmp_exact t.links (link_of name r b) l in (
        λ h. elim (outer.0 h) [
          | inl e ↦ absurd (off (inr (ap (λ (m : TheLink). m.to) e)))
          | inr h' ↦ elim (inner.0 h') [ inl e ↦ absurd (off (inl (ap (λ (m : TheLink). m.from) e))) | inr old ↦ old ]
        ],
        λ old. outer.1 (inr (inner.1 (inr old))),
      );
  mutes = λ n off. (λ h. h, λ h. h);
}

-- a mute of the instance
pub off_muted : (name : List ℕ) (t : Topology) (n : NodeName) → n.instance ≡ name → AgreeOff name (with_mute t n) t
off_muted name t n here = record {
  model = refl;
  instances = λ q ne. refl;
  links = λ l off. (λ h. h, λ h. h);
  mutes = λ m off.
      let within = in_insert node_cmp_total node_cmp_exact t.mutes n m in (
        λ h. elim (within.0 h) [ inl e ↦ absurd (off (ap (λ (k : NodeName). k.instance) e ∙ here)) | inr old ↦ old ],
        λ old. within.1 (inr old),
      );
}

-- an instance that isn't live is at no end of a link, and has no mute
pub without_absent : (name : List ℕ) (t : Topology) → Sound t → ¬ IsLive t name → without_instance t name ≡ t
without_absent name t sound dead =
    let none : map.get t.instances name ≡ None = elim (map.get t.instances name) as (λ o. map.get t.instances name ≡ o → map.get t.instances name ≡ None) [
      | None ↦ λ e. e
      | Some c ↦ λ e. absurd (dead (live_of t name c e))
    ] refl in
    let instances = nothing_taken name_cmp_total name_cmp_exact t.instances name none in
    let gone : (l : TheLink) → In t l → ¬ IsLinkAtEnd name l = λ l h end.
    let f = sound.fit l.from l.rel l.to h in
    elim end [
      | inl e ↦ dead (live_of t name f.class_a (subst (λ z. HasClass t z f.class_a) e f.a_is))
      | inr e ↦ dead (live_of t name f.class_b (subst (λ z. HasClass t z f.class_b) e f.b_is))
    ] in
    let links : (without_instance t name).links ≡ t.links = same_members link_cmp_total link_cmp_exact _ _ (λ l.
    let left = link_left t name l in (λ h. (left.0 h).0, λ h. left.1 (h, gone l h))) in
    let mutes : (without_instance t name).mutes ≡ t.mutes = same_members node_cmp_total node_cmp_exact _ _ (λ n.
    let left = mute_left t name n in (
      λ h. (left.0 h).0,
      λ h. left.1 (h, λ e. let s = sound.mutes n h in dead (live_of t name s.class (subst (λ z. HasClass t z s.class) e s.of_class))),
    )) in
    λ i. record { model = t.model; instances = instances i; links = links i; mutes = mutes i }
