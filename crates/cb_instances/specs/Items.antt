-- Lists that gain or lose an item.
use Rattle.std.specs.Prelude.{◌≡◌, ◌≢◌, ◌↔◌, ◌++◌, ◌∷◌, [], List}
use Rattle.std.specs.List.{Contains}
use Rattle.cb_instances.specs.Net.{Once}

-- the list has the item more, at its end
abbrev pub Gains : {X : Type 0} → X → List X → List X → Type 0
Gains item old new = new ≡ old ++ item ∷ []

-- the list has lost the item, and nothing else
pub record Loses {X : Type 0} (item : X) (old new : List X) : Type 0 where
  pub others : (x : X) → x ≢ item → Contains new x ↔ Contains old x
  pub gone : Once old → ¬ Contains new item
  pub once : Once old → Once new
