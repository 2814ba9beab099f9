-- Whether a text spells an edit can be decided.
use Rattle.std.proofs.Common.{◌≡◌, ℕ, List, [], ◌∷◌, ap, subst, inl, inr}
use Rattle.std.specs.Prelude.{codes}
use Rattle.cb_text.specs.Names.{IsName, IsInstance}
use Rattle.cb_text.specs.Words.{words_of}
use Rattle.cb_edits.specs.Spelled.{node_spelling, SpellsEditWords, SpellsEdit}
use Rattle.cb_network.specs.declared.edit.Edit.{Edit}
use Rattle.cb_network.specs.declared.edit.Edit.TheVariants.{Create, Delete, Link, Unlink, Mute, Unmute}
use Rattle.cb_network.proofs.Decided.{Decision, decide_both, decide_same}
use Rattle.cb_change.proofs.Deciding.{decide_name}
use Rattle.cb_existence.proofs.Names.{decide_is_instance, decide_is_name, decide_node_text}

module _ (verb : List ℕ) where
  -- the verb and the name of an instance
  abbrev SaysOne : List (List ℕ) → Type 0
  SaysOne words = (name : List ℕ) × (words ≡ verb ∷ name ∷ []) × IsInstance name

  decide_one : (words : List (List ℕ)) → Decision (SaysOne words)
  decide_one [] = inr (λ (n, is, good). absurd (cc))
  decide_one (a ∷ []) = inr (λ (n, is, good). absurd (cc))
  decide_one (a ∷ b ∷ []) =
      decide_same ((a ≡ verb) × IsInstance b) (SaysOne (a ∷ b ∷ [])) (λ (same, good). (b, ap (λ (v : List ℕ). v ∷ b ∷ []) same, good))
      (λ (n, is, good). (let e : a ≡ verb = cc in e, subst IsInstance (let e : n ≡ b = cc in e) good)) (decide_both _ _ (decide_name a verb) (decide_is_instance b))
  decide_one (a ∷ b ∷ c ∷ words) = inr (λ (n, is, good). absurd (cc))

  -- the verb and a node
  abbrev SaysNode : List (List ℕ) → Type 0
  SaysNode words = (event : List ℕ) × (name : List ℕ) × (words ≡ verb ∷ node_spelling event name ∷ []) × (IsName event × IsInstance name)

  decide_node_word : (words : List (List ℕ)) → Decision (SaysNode words)
  decide_node_word [] = inr (λ (e, n, is, good). absurd (cc))
  decide_node_word (a ∷ []) = inr (λ (e, n, is, good). absurd (cc))
  decide_node_word (a ∷ b ∷ []) =
      decide_same ((a ≡ verb) × ((event : List ℕ) × (name : List ℕ) × Rattle.cb_text.specs.Names.IsNodeText b event name)) (SaysNode (a ∷ b ∷ []))
      (λ (same, (event, name, node)). (event, name, (λ i. same i ∷ node.written i ∷ []), (node.event_is, node.instance_is)))
      (λ (event, name, is, good). (
        let e : a ≡ verb = cc in e,
        (event, name, record { written = let e : b ≡ node_spelling event name = cc in e; event_is = good.0; instance_is = good.1 }),
      ))
      (decide_both _ _ (decide_name a verb) (decide_node_text b))
  decide_node_word (a ∷ b ∷ c ∷ words) = inr (λ (e, n, is, good). absurd (cc))

  -- the verb, the name of an instance, and that of a class
  abbrev SaysTwo : List (List ℕ) → Type 0
  SaysTwo words = (name : List ℕ) × (class : List ℕ) × (words ≡ verb ∷ name ∷ class ∷ []) × (IsInstance name × IsName class)

  decide_two : (words : List (List ℕ)) → Decision (SaysTwo words)
  decide_two [] = inr (λ (n, c, is, good). absurd (cc))
  decide_two (a ∷ []) = inr (λ (n, c, is, good). absurd (cc))
  decide_two (a ∷ b ∷ []) = inr (λ (n, c, is, good). absurd (cc))
  decide_two (a ∷ b ∷ c ∷ []) =
      decide_same ((a ≡ verb) × (IsInstance b × IsName c)) (SaysTwo (a ∷ b ∷ c ∷ [])) (λ (same, good). (b, c, ap (λ (v : List ℕ). v ∷ b ∷ c ∷ []) same, good))
      (λ (n, k, is, good). (
        let e : a ≡ verb = cc in e,
        (subst IsInstance (let e : n ≡ b = cc in e) good.0, subst IsName (let e : k ≡ c = cc in e) good.1),
      ))
      (decide_both _ _ (decide_name a verb) (decide_both _ _ (decide_is_instance b) (decide_is_name c)))
  decide_two (a ∷ b ∷ c ∷ d ∷ words) = inr (λ (n, k, is, good). absurd (cc))

  -- the verb, and a link
  abbrev SaysThree : List (List ℕ) → Type 0
  SaysThree words = (from : List ℕ) × (rel : List ℕ) × (to : List ℕ) × (words ≡ verb ∷ from ∷ rel ∷ to ∷ []) × (IsInstance from × (IsName rel × IsInstance to))

  decide_three : (words : List (List ℕ)) → Decision (SaysThree words)
  decide_three [] = inr (λ (f, r, t, is, good). absurd (cc))
  decide_three (a ∷ []) = inr (λ (f, r, t, is, good). absurd (cc))
  decide_three (a ∷ b ∷ []) = inr (λ (f, r, t, is, good). absurd (cc))
  decide_three (a ∷ b ∷ c ∷ []) = inr (λ (f, r, t, is, good). absurd (cc))
  decide_three (a ∷ b ∷ c ∷ d ∷ []) =
      decide_same ((a ≡ verb) × (IsInstance b × (IsName c × IsInstance d))) (SaysThree (a ∷ b ∷ c ∷ d ∷ []))
      (λ (same, good). (b, c, d, ap (λ (v : List ℕ). v ∷ b ∷ c ∷ d ∷ []) same, good))
      (λ (f, r, t, is, good). (
        let e : a ≡ verb = cc in e,
        (subst IsInstance (let e : f ≡ b = cc in e) good.0, (subst IsName (let e : r ≡ c = cc in e) good.1.0, subst IsInstance (let e : t ≡ d = cc in e) good.1.1)),
      ))
      (decide_both _ _ (decide_name a verb) (decide_both _ _ (decide_is_instance b) (decide_both _ _ (decide_is_name c) (decide_is_instance d))))
  decide_three (a ∷ b ∷ c ∷ d ∷ e ∷ words) = inr (λ (f, r, t, is, good). absurd (cc))

module _ (words : List (List ℕ)) where
  -- what no edit of any kind spells, none spells
  no_edit : (¬ SaysTwo (codes "create") words) → (¬ SaysOne (codes "delete") words) → (¬ SaysThree (codes "link") words) → (¬ SaysThree (codes "unlink") words)
      → (¬ SaysNode (codes "mute") words) → (¬ SaysNode (codes "unmute") words) → (edit : Edit) → ¬ SpellsEditWords words edit
  no_edit create delete link unlink mute unmute (Create name class) is = create (name, class, is.says, is.names)
  no_edit create delete link unlink mute unmute (Delete name) is = delete (name, is.says, is.names)
  no_edit create delete link unlink mute unmute (Link a rel b) is = link (a, rel, b, is.says, (is.names.0, (is.names.1, is.names.2)))
  no_edit create delete link unlink mute unmute (Unlink a rel b) is = unlink (a, rel, b, is.says, (is.names.0, (is.names.1, is.names.2)))
  no_edit create delete link unlink mute unmute (Mute event name) is = mute (event, name, is.says, is.names)
  no_edit create delete link unlink mute unmute (Unmute event name) is = unmute (event, name, is.says, is.names)

  decide_edit_words : Decision ((edit : Edit) × SpellsEditWords words edit)
  decide_edit_words = elim (decide_two (codes "create") words) [
    | inl (name, class, is, good) ↦ inl (Create name class, record { says = is; names = good })
    | inr create ↦ elim (decide_one (codes "delete") words) [
      | inl (name, is, good) ↦ inl (Delete name, record { says = is; names = good })
      | inr delete ↦ elim (decide_three (codes "link") words) [
        | inl (a, rel, b, is, good) ↦ inl (Link a rel b, record { says = is; names = (good.0, good.1.0, good.1.1) })
        | inr link ↦ elim (decide_three (codes "unlink") words) [
          | inl (a, rel, b, is, good) ↦ inl (Unlink a rel b, record { says = is; names = (good.0, good.1.0, good.1.1) })
          | inr unlink ↦ elim (decide_node_word (codes "mute") words) [
            | inl (event, name, is, good) ↦ inl (Mute event name, record { says = is; names = good })
            | inr mute ↦ elim (decide_node_word (codes "unmute") words) [
              | inl (event, name, is, good) ↦ inl (Unmute event name, record { says = is; names = good })
              | inr unmute ↦ inr (λ (edit, is). no_edit create delete link unlink mute unmute edit is)
            ]
          ]
        ]
      ]
    ]
  ]

pub decide_spells_edit : (text : List ℕ) → Decision ((edit : Edit) × SpellsEdit text edit)
decide_spells_edit text = decide_edit_words (words_of text)
