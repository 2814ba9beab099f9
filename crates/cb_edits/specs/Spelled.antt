-- Edits as lines of words.
use Rattle.std.specs.Prelude.{◌≡◌, ℕ, List, [], ◌∷◌, ◌++◌, codes}
use Rattle.cb_text.specs.Names.{IsName, IsInstance}
use Rattle.cb_text.specs.Words.{words_of}
use Rattle.cb_network.specs.declared.edit.Edit.{Edit}
use Rattle.cb_network.specs.declared.edit.Edit.TheVariants.{Create, Delete, Link, Unlink, Mute, Unmute}
use Rattle.cb_network.specs.Words.{InstanceName, Word}

-- a node's text: its event, `@`, and its instance
abbrev pub node_spelling : Word → InstanceName → List ℕ
node_spelling event name = event ++ codes "@" ++ name

-- the words that say an edit
abbrev pub edit_words : Edit → List (List ℕ)
edit_words (Create name class) = codes "create" ∷ name ∷ class ∷ []
edit_words (Delete name) = codes "delete" ∷ name ∷ []
edit_words (Link a rel b) = codes "link" ∷ a ∷ rel ∷ b ∷ []
edit_words (Unlink a rel b) = codes "unlink" ∷ a ∷ rel ∷ b ∷ []
edit_words (Mute event name) = codes "mute" ∷ node_spelling event name ∷ []
edit_words (Unmute event name) = codes "unmute" ∷ node_spelling event name ∷ []

-- each of its names is one by the grammar
abbrev pub EditHasNames : Edit → Type 0
EditHasNames (Create name class) = IsInstance name × IsName class
EditHasNames (Delete name) = IsInstance name
EditHasNames (Link a rel b) = IsInstance a × IsName rel × IsInstance b
EditHasNames (Unlink a rel b) = IsInstance a × IsName rel × IsInstance b
EditHasNames (Mute event name) = IsName event × IsInstance name
EditHasNames (Unmute event name) = IsName event × IsInstance name

-- these words spell the edit
pub record SpellsEditWords (words : List (List ℕ)) (edit : Edit) : Type 0 where
  pub says : words ≡ edit_words edit
  pub names : EditHasNames edit

-- the words of the line spell the edit
abbrev pub SpellsEdit : List ℕ → Edit → Type 0
SpellsEdit line edit = SpellsEditWords (words_of line) edit
