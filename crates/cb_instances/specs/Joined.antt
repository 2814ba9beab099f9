-- Slots in which links come and go.
use Rattle.std.specs.Prelude.{◌≡◌, ◌≢◌, ◌↔◌, ◌⊎◌, ◌∷◌, ◌++◌, [], List, Option, Some, None, map}
use Rattle.cb_model.specs.declared.id.RelId.{RelId}
use Rattle.cb_instances.specs.declared.id.InstanceId.{InstanceId}
use Rattle.cb_instances.specs.declared.instance.Instance.{Instance}
use Rattle.cb_instances.specs.Net.{slot}
use Rattle.cb_instances.specs.Rows.{row_of, HasSpare, Puts}
use Rattle.cb_instances.specs.Slots.{Head, head_of, Slots, At, ListsInstance}
use Rattle.cb_instances.specs.Sound.{IsTidy}

abbrev pub head_in : Option Instance → Option Head
head_in None = None
head_in (Some x) = Some (head_of x)

-- the slots have the same instances, but for their links
abbrev pub SameHeads : Slots → Slots → Type 0
SameHeads old new = map head_in new ≡ map head_in old

-- of one instance one relation's list takes this step
pub record Rewires (old new : Slots) (at : InstanceId) (rel : RelId) (Step : List InstanceId → List InstanceId → Type 0) : Type 0 where
  pub heads : SameHeads old new
  pub others : (i : InstanceId) → i ≢ at → slot new i.0 ≡ slot old i.0
  pub this : (x : Instance) → At old at x → (y : Instance) × At new at y
      × Puts x.links.rows.items y.links.rows.items rel (row_of y.links.rows.items rel)
      × Step (row_of x.links.rows.items rel) (row_of y.links.rows.items rel)

-- one list is the other
abbrev pub Stays : List InstanceId → List InstanceId → Type 0
Stays old new = new ≡ old

-- one instance more fits in the list of this one without memory
abbrev pub HasSpareAt : Slots → InstanceId → RelId → Type 0
HasSpareAt slots at rel = (x : Instance) → At slots at x → HasSpare x.links.rows.items rel

-- the link, or its inverse
abbrev pub IsJoin : InstanceId → RelId → InstanceId → RelId → InstanceId → RelId → InstanceId → Type 0
IsJoin from rel to back i r j = ((i ≡ from) × (r ≡ rel) × (j ≡ to)) ⊎ ((i ≡ to) × (r ≡ back) × (j ≡ from))

-- each relation has one row, in which no instance stands twice
abbrev pub AllTidy : Slots → Type 0
AllTidy slots = (i : InstanceId) (x : Instance) → At slots i x → IsTidy x.links.rows.items

-- the same instances list each other
pub record SameLinks (old new : Slots) : Type 0 where
  pub heads : SameHeads old new
  pub lists : (i : InstanceId) (r : RelId) (j : InstanceId) → ListsInstance new i r j ↔ ListsInstance old i r j
  pub tidy : AllTidy old → AllTidy new

-- the two list each other, and others as they did
pub record JoinsInstances (old new : Slots) (from : InstanceId) (rel : RelId) (to : InstanceId) (back : RelId) : Type 0 where
  pub heads : SameHeads old new
  pub lists : (i : InstanceId) (r : RelId) (j : InstanceId) → ListsInstance new i r j ↔ (ListsInstance old i r j ⊎ IsJoin from rel to back i r j)
  pub tidy : ¬ ListsInstance old from rel to → ¬ ListsInstance old to back from → AllTidy old → AllTidy new

-- the two do not list each other, and others do as they did
pub record PartsInstances (old new : Slots) (from : InstanceId) (rel : RelId) (to : InstanceId) (back : RelId) : Type 0 where
  pub heads : SameHeads old new
  pub lists : AllTidy old → (i : InstanceId) (r : RelId) (j : InstanceId) → ListsInstance new i r j ↔ (ListsInstance old i r j × ¬ IsJoin from rel to back i r j)
  pub tidy : AllTidy old → AllTidy new
