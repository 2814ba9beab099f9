-- Words tell their edit.
use Rattle.std.proofs.Common.{◌≡◌, ℕ, List, [], ◌++◌, length, cond, drop, nat_eq, refl, sym, ap, ◌∙◌, rules}
use Rattle.std.specs.Prelude.{codes, slice_index_or}
use Rattle.std.specs.List.{slice_split}
use Rattle.std.specs.Str.{bytes_eq}
use Rattle.std.proofs.Math.Seq.{drop-append_seam}
use Rattle.std.proofs.lemmas.List.{append_assoc}
use Rattle.std.proofs.lemmas.List.Splits.{slice_split_at}
use Rattle.cb_text.specs.Names.{IsName}
use Rattle.cb_text.proofs.Cuts.{name_lacks_at}
use Rattle.cb_network.specs.declared.edit.Edit.{Edit}
use Rattle.cb_network.specs.declared.edit.Edit.TheVariants.{Create, Delete, Link, Unlink, Mute, Unmute}
use Rattle.cb_edits.specs.Spelled.{SpellsEditWords, EditHasNames, edit_words, node_spelling}

-- the word of this place
abbrev word : List (List ℕ) → ℕ → List ℕ
word words i = slice_index_or words i []

-- what stands before the first `@`, and what stands after it
abbrev event_of : List ℕ → List ℕ
event_of text = word (slice_split (λ b. nat_eq b 64) text) 0

abbrev name_of : List ℕ → List ℕ
name_of text = drop (length (event_of text ++ codes "@")) text

event_is : (event name : List ℕ) → IsName event → event_of (node_spelling event name) ≡ event
event_is event name is =
    let cut = ap (slice_split (λ b. nat_eq b 64)) (append_assoc event (codes "@") name) in
    let parts = slice_split_at (λ b. nat_eq b 64) event 64 name (name_lacks_at event is.run) (search rules) in
    ap (λ (words : List (List ℕ)). word words 0) (cut ∙ parts)

name_is : (event name : List ℕ) → IsName event → name_of (node_spelling event name) ≡ name
name_is event name is =
    ap (λ (e : List ℕ). drop (length (e ++ codes "@")) (node_spelling event name)) (event_is event name is) ∙ drop-append_seam (event ++ codes "@") name

-- the edit of words
decoded : List (List ℕ) → Edit
decoded words =
    let verb = word words 0 in
    cond (bytes_eq verb (codes "create")) (Create (word words 1) (word words 2))
    (cond (bytes_eq verb (codes "delete")) (Delete (word words 1))
    (cond (bytes_eq verb (codes "link")) (Link (word words 1) (word words 2) (word words 3))
    (cond (bytes_eq verb (codes "unlink")) (Unlink (word words 1) (word words 2) (word words 3))
    (cond (bytes_eq verb (codes "mute")) (Mute (event_of (word words 1)) (name_of (word words 1)))
    (Unmute (event_of (word words 1)) (name_of (word words 1)))))))

decoded_is : (edit : Edit) → EditHasNames edit → decoded (edit_words edit) ≡ edit
unfolding decoded
decoded_is (Create name class) names = refl
decoded_is (Delete name) names = refl
decoded_is (Link a rel b) names = refl
decoded_is (Unlink a rel b) names = refl
decoded_is (Mute event name) names = λ i. Mute (event_is event name names.0 i) (name_is event name names.0 i)
decoded_is (Unmute event name) names = λ i. Unmute (event_is event name names.0 i) (name_is event name names.0 i)

-- so words spell one edit at most
pub spelled_once : (words : List (List ℕ)) (edit other : Edit) → SpellsEditWords words edit → SpellsEditWords words other → edit ≡ other
spelled_once words edit other one two =
    sym (decoded_is edit one.names) ∙ (ap decoded (sym one.says ∙ two.says) ∙ decoded_is other two.names)
