-- An instance that is listed no more.
use Rattle.std.proofs.Common.{ℕ, List, [], ◌∷◌, ◌++◌, refl, sym, subst, ◌∙◌, inl, inr}
use Rattle.std.specs.List.{Contains}
use Rattle.std.proofs.lemmas.List.Elements.{Contains-push_cases}
use Rattle.cb_model.specs.declared.id.RelId.{RelId}
use Rattle.cb_model.specs.declared.tables.Tables.{Tables}
use Rattle.cb_model.proofs.Rising.{nothing_in_empty}
use Rattle.cb_instances.specs.Items.{Loses}
use Rattle.cb_instances.specs.declared.id.InstanceId.{InstanceId}
use Rattle.cb_instances.specs.declared.links.LinkRow.{LinkRow}
use Rattle.cb_instances.specs.Forgotten.{Sheds, ForgetsRow, ForgetsAll}
use Rattle.cb_instances.specs.Joined.{Rewires, AllTidy}
use Rattle.cb_instances.specs.Net.{inverse_of}
use Rattle.cb_instances.specs.Rows.{items_of}
use Rattle.cb_instances.specs.Slots.{Slots, At, ListsInstance}
use Rattle.cb_instances.specs.Sound.{IsNetOf}
use Rattle.cb_instances.specs.Places.{Entries}
use Rattle.cb_instances.specs.declared.instance.Instance.{Instance}
use Rattle.cb_model.specs.WellTyped.{IsRelation}
use Rattle.cb_instances.proofs.RowLemmas.{own_row}
use Rattle.cb_instances.proofs.Rewiring.{loses_lists, loses_tidy}

pub sheds_more : (old mid new : Slots) (id : InstanceId) → Sheds old mid id → Sheds mid new id → Sheds old new id
sheds_more old mid new id a b = record {
  heads = b.heads ∙ a.heads;
  fewer = λ i r j l. a.fewer i r j (b.fewer i r j l);
  others = λ i r j ne l. b.others i r j ne (a.others i r j ne l);
  tidy = λ t. b.tidy (a.tidy t);
}

pub sheds_one : (old new : Slots) (at : InstanceId) (back : RelId) (id : InstanceId) → AllTidy old → Rewires old new at back (Loses id) → Sheds old new id
sheds_one old new at back id tidy w = record {
  heads = w.heads;
  fewer = λ i r j l. ((loses_lists old new at back id tidy w i r j).0 l).0;
  others = λ i r j ne l. (loses_lists old new at back id tidy w i r j).1 (l, λ e. ne e.2);
  tidy = loses_tidy old new at back id w;
}

pub forgets_one : (old mid new : Slots) (id : InstanceId) (back : RelId) (list : List InstanceId) (at : InstanceId) → ForgetsRow old mid id back list
    → Rewires mid new at back (Loses id) → ForgetsRow old new id back (list ++ at ∷ [])
forgets_one old mid new id back list at so_far w = record {
  sheds = λ t. sheds_more old mid new id (so_far.sheds t) (sheds_one mid new at back id ((so_far.sheds t).tidy t) w);
  gone = λ t i has l.
      let before = (loses_lists mid new at back id ((so_far.sheds t).tidy t) w i back id).0 l in
      elim (Contains-push_cases list at i has) [
        | inl was ↦ so_far.gone t i was before.0
        | inr e ↦ before.1 (sym e, refl, refl)
      ];
}

pub forgets_row : (tables : Tables) (old mid new : Slots) (id : InstanceId) (rows : List LinkRow) (row : LinkRow) → ForgetsAll tables old mid id rows
    → ForgetsRow mid new id (inverse_of tables row.rel) row.to.items → ForgetsAll tables old new id (rows ++ row ∷ [])
forgets_row tables old mid new id rows row so_far more = record {
  sheds = λ t. sheds_more old mid new id (so_far.sheds t) (more.sheds ((so_far.sheds t).tidy t));
  gone = λ t r at has in_r l.
      let tidy = (so_far.sheds t).tidy t in
      elim (Contains-push_cases rows row r has) [
        | inl was ↦ so_far.gone t r at was in_r ((more.sheds tidy).fewer at (inverse_of tables r.rel) id l)
        | inr e ↦ more.gone tidy at (subst (λ (z : LinkRow). Contains z.to.items at) (sym e) in_r) (subst (λ (z : LinkRow). ListsInstance new at (inverse_of tables z.rel) id) (sym e) l)
      ];
}

-- the relation of a row that lists somebody is one of the tables
pub rows_of_tables : (tables : Tables) (slots : Slots) (entries : Entries) (capacity : ℕ) → IsNetOf tables slots entries capacity → (i : InstanceId) (x : Instance) → At slots i x
    → (row : LinkRow) (j : InstanceId) → Contains x.links.rows.items row → Contains row.to.items j → IsRelation tables row.rel
rows_of_tables tables slots entries capacity sound i x at row j of_x in_row =
    let own = own_row x.links.rows.items row (sound.tidy i x at).apart of_x in
    (sound.both_ways i row.rel j (record { lister = x; is = at; listed = subst (λ o. Contains (items_of o) j) (sym own) in_row })).0
