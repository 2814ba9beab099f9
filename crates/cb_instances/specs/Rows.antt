-- The rows of an instance's links.
use Rattle.std.specs.Prelude.{◌≡◌, ◌≢◌, ◌<◌, List, [], Option, Some, None, Bool, nat_eq, vec_len, vec_capacity, ◌↔◌, map}
use Rattle.std.specs.List.{Contains, find}
use Rattle.cb_instances.specs.Items.{Loses}
use Rattle.cb_instances.specs.Net.{Once}
use Rattle.cb_model.specs.declared.id.RelId.{RelId}
use Rattle.cb_instances.specs.declared.id.InstanceId.{InstanceId}
use Rattle.cb_instances.specs.declared.links.LinkRow.{LinkRow}

-- whether the row is that of the relation
abbrev pub is_of : RelId → LinkRow → Bool
is_of r row = nat_eq row.rel.0 r.0

-- the row of the relation
abbrev pub find_row : List LinkRow → RelId → Option LinkRow
find_row rows r = find (is_of r) rows

abbrev pub items_of : Option LinkRow → List InstanceId
items_of None = []
items_of (Some row) = row.to.items

-- the instances that the relation leads to
abbrev pub row_of : List LinkRow → RelId → List InstanceId
row_of rows r = items_of (find_row rows r)

-- no relation has two rows
abbrev pub OneRowEach : List LinkRow → Type 0
OneRowEach rows = Once (map (λ row. row.rel) rows)

-- one instance more fits under the relation without memory
abbrev pub HasSpare : List LinkRow → RelId → Type 0
HasSpare rows r = (row : LinkRow) × (find_row rows r ≡ Some row) × (vec_len row.to < vec_capacity row.to)

-- the relation leads to these instances now, and each other relation has the row that it had
pub record Puts (old new : List LinkRow) (rel : RelId) (to : List InstanceId) : Type 0 where
  pub this : row_of new rel ≡ to
  pub others : (r : RelId) → r ≢ rel → find_row new r ≡ find_row old r
  pub apart : OneRowEach old → OneRowEach new

-- the relation has lost the instance, and each other relation has the row that it had
pub record RemovesLink (old new : List LinkRow) (rel : RelId) (to : InstanceId) : Type 0 where
  pub puts : Puts old new rel (row_of new rel)
  pub loses : Loses to (row_of old rel) (row_of new rel)
