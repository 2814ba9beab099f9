-- Links that are added and taken away in two steps.
use Rattle.std.proofs.Common.{◌≡◌, List, sym, ◌∙◌, inl, inr}
use Rattle.cb_model.specs.declared.id.RelId.{RelId}
use Rattle.cb_instances.specs.Items.{Gains, Loses}
use Rattle.cb_instances.specs.declared.id.InstanceId.{InstanceId}
use Rattle.cb_instances.specs.declared.instance.Instance.{Instance}
use Rattle.cb_instances.specs.Joined.{Rewires, SameLinks, JoinsInstances, PartsInstances}
use Rattle.cb_instances.specs.Slots.{Slots, At, ListsInstance}
use Rattle.cb_instances.proofs.Rewiring.{same_head, gains_lists, gains_tidy, loses_lists, loses_tidy}

pub same_twice : (old mid new : Slots) → SameLinks old mid → SameLinks mid new → SameLinks old new
same_twice old mid new a b = record {
  heads = b.heads ∙ a.heads;
  lists = λ i r j. (λ l. (a.lists i r j).0 ((b.lists i r j).0 l), λ l. (b.lists i r j).1 ((a.lists i r j).1 l));
  tidy = λ t. b.tidy (a.tidy t);
}

-- what was there is there still
pub remains : (old new : Slots) (at : InstanceId) (rel : RelId) (Step : List InstanceId → List InstanceId → Type 0) → Rewires old new at rel Step → (i : InstanceId) (x : Instance) → At old i x → (y : Instance) × At new i y
remains old new at rel Step w i x is = let h = same_head new old (sym w.heads) i x is in (h.0, h.1)

-- a link that is its own inverse
pub joins_once : (old mid new : Slots) (from : InstanceId) (rel : RelId) (to : InstanceId) (back : RelId) → from ≡ to → rel ≡ back → (x : Instance) → At mid from x
    → SameLinks old mid → Rewires mid new from rel (Gains to) → JoinsInstances old new from rel to back
joins_once old mid new from rel to back e f x is same w = record {
  heads = w.heads ∙ same.heads;
  lists = λ i r j.
      let step = gains_lists mid new from rel to x is w i r j in
      let was = same.lists i r j in (
        λ l. elim (step.0 l) [ inl m ↦ inl (was.0 m) | inr n ↦ inr (inl n) ],
        λ s. step.1 (elim s [
          | inl l ↦ inl (was.1 l)
          | inr n ↦ inr (elim n [ inl a ↦ a | inr b ↦ (b.0 ∙ sym e, b.1 ∙ sym f, b.2 ∙ e) ])
        ]),
      );
  tidy = λ none _ tidy. gains_tidy mid new from rel to w (λ l. none ((same.lists from rel to).0 l)) (same.tidy tidy);
}

pub joins_twice : (old mid one new : Slots) (from : InstanceId) (rel : RelId) (to : InstanceId) (back : RelId) → ((from ≡ to) × (rel ≡ back) → ⊥)
    → (x : Instance) → At mid from x → (y : Instance) → At one to y
    → SameLinks old mid → Rewires mid one from rel (Gains to) → Rewires one new to back (Gains from) → JoinsInstances old new from rel to back
joins_twice old mid one new from rel to back apart x is y is_y same v w =
    let first = gains_lists mid one from rel to x is v in
    let second = gains_lists one new to back from y is_y w in
    record {
      heads = w.heads ∙ (v.heads ∙ same.heads);
      lists = λ i r j. (
        λ l. elim ((second i r j).0 l) [
          | inl m ↦ elim ((first i r j).0 m) [ inl n ↦ inl ((same.lists i r j).0 n) | inr n ↦ inr (inl n) ]
          | inr m ↦ inr (inr m)
        ],
        λ s. (second i r j).1 (elim s [
          | inl l ↦ inl ((first i r j).1 (inl ((same.lists i r j).1 l)))
          | inr n ↦ elim n [ inl a ↦ inl ((first i r j).1 (inr a)) | inr b ↦ inr b ]
        ]),
      );
      tidy = λ none none_back tidy.
          let tidy_one = gains_tidy mid one from rel to v (λ l. none ((same.lists from rel to).0 l)) (same.tidy tidy) in
          let fresh : ¬ ListsInstance one to back from = λ l. elim ((first to back from).0 l) [
            | inl m ↦ none_back ((same.lists to back from).0 m)
            | inr n ↦ apart (sym n.0, sym n.1)
          ] in
          gains_tidy one new to back from w fresh tidy_one;
    }

pub parted : (old mid new : Slots) (from : InstanceId) (rel : RelId) (to : InstanceId) (back : RelId)
    → Rewires old mid from rel (Loses to) → Rewires mid new to back (Loses from) → PartsInstances old new from rel to back
parted old mid new from rel to back v w = record {
  heads = w.heads ∙ v.heads;
  lists = λ tidy i r j.
      let first = loses_lists old mid from rel to tidy v i r j in
      let second = loses_lists mid new to back from (loses_tidy old mid from rel to v tidy) w i r j in (
        λ l.
            let m = second.0 l in
            let n = first.0 m.0 in
            (n.0, λ s. elim s [ inl a ↦ n.1 a | inr b ↦ m.1 b ]),
        λ s. second.1 (first.1 (s.0, λ a. s.1 (inl a)), λ b. s.1 (inr b)),
      );
  tidy = λ tidy. loses_tidy mid new to back from w (loses_tidy old mid from rel to v tidy);
}
