-- How a table keeps its nodes, its free numbers, and the events of each instance.
use Rattle.std.specs.Prelude.{◌≡◌, ◌≢◌, ◌↔◌, ℕ, ◌+◌, ◌<◌, ◌≤◌, List, [], length, Option, Some, None, slice_get, vec_len, vec_capacity}
use Rattle.std.specs.Global.{Global}
use Rattle.std.specs.List.{AllPairs, Contains}
use Rattle.std.specs.declared.vec.Vec.{Vec}
use Rattle.cb_model.specs.declared.id.EventId.{EventId}
use Rattle.cb_instances.specs.declared.id.InstanceId.{InstanceId}
use Rattle.cb_instances.specs.Net.{slot, Once}
use Rattle.cb_nodes.specs.declared.id.NodeId.{NodeId}
use Rattle.cb_nodes.specs.declared.listed.Listed.{Listed}
use Rattle.cb_nodes.specs.declared.node.Node.{Node}
use Rattle.cb_nodes.specs.declared.numbers.Numbers.{Numbers}
use Rattle.cb_nodes.specs.Table.{Table, IsNode, HasNumber, node_of, IsOne, Adds, count_of, capacity_with}

-- each number has a node or is free, once, and all of them fit among the free ones without memory
pub record AreKept (n : Numbers) : Type 0 where
  pub counted : length n.free.items + count_of n.slots.items ≡ length n.slots.items
  pub within : (id : NodeId) → Contains n.free.items id → id.0 < length n.slots.items
  pub vacant : (id : NodeId) → Contains n.free.items id → slot n.slots.items id.0 ≡ None
  pub once : Once n.free.items
  pub spare : length n.slots.items ≤ vec_capacity n.free

-- `more` further nodes fit without memory
pub record HasSpareFor (n : Numbers) (more : ℕ) : Type 0 where
  pub slots : capacity_with n.slots.items more ≤ vec_capacity n.slots
  pub free : capacity_with n.slots.items more ≤ vec_capacity n.free

-- as much fits without memory as did
pub record SameSpare (old new : Numbers) : Type 0 where
  pub slots : vec_capacity new.slots ≡ vec_capacity old.slots
  pub free : vec_capacity new.free ≡ vec_capacity old.free

-- the same numbers have the same nodes, and the same are free
pub record SameSlots (old new : Numbers) : Type 0 where
  pub slots : new.slots.items ≡ old.slots.items
  pub kept : AreKept new

-- a number that was free has the node
pub record TakesNumber (old new : Numbers) (id : NodeId) (node : Node) : Type 0 where
  pub kept : AreKept new
  pub same_spare : SameSpare old new
  pub free : slot old.slots.items id.0 ≡ None
  pub this : slot new.slots.items id.0 ≡ Some node
  pub others : (k : ℕ) → k ≢ id.0 → slot new.slots.items k ≡ slot old.slots.items k
  pub count : count_of new.slots.items ≡ count_of old.slots.items + 1
  pub capacity : length new.slots.items ≡ capacity_with old.slots.items 1

-- the number is free
pub record GivesBack (old new : Numbers) (id : NodeId) : Type 0 where
  pub kept : AreKept new
  pub this : slot new.slots.items id.0 ≡ None
  pub others : (k : ℕ) → k ≢ id.0 → slot new.slots.items k ≡ slot old.slots.items k
  pub count : count_of new.slots.items + 1 ≡ count_of old.slots.items
  pub capacity : length new.slots.items ≡ length old.slots.items

abbrev pub NodeLists : Type 0
NodeLists = List (Vec Listed Global)

abbrev pub items_in : Option (Vec Listed Global) → List Listed
items_in None = []
items_in (Some list) = list.items

-- what is listed of the instance
abbrev pub list_at : NodeLists → InstanceId → List Listed
list_at lists i = items_in (slice_get lists i.0)

abbrev pub SameLists : NodeLists → NodeLists → Type 0
SameLists old new = (i : InstanceId) → list_at new i ≡ list_at old i

-- the instance has a list, in which `more` further events fit without memory
pub record HasSpareIn (lists : NodeLists) (i : InstanceId) (more : ℕ) : Type 0 where
  pub list : Vec Listed Global
  pub is : slice_get lists i.0 ≡ Some list
  pub spare : vec_len list + more ≤ vec_capacity list

-- no number stands twice
abbrev pub AreDistinct : List Listed → Type 0
AreDistinct list = AllPairs (λ x y. x.id ≢ y.id) list

-- each listed number has a node
abbrev pub HaveNumbers : Table → List Listed → Type 0
HaveNumbers nodes list = (x : Listed) → Contains list x → HasNumber nodes x.id

-- the list has the events of the instance with their numbers, each once
pub record ListsEvents (nodes : Table) (i : InstanceId) (list : List Listed) : Type 0 where
  pub listed : (x : Listed) → Contains list x → IsNode nodes x.id (node_of i x.event)
  pub whole : (x : Listed) → IsNode nodes x.id (node_of i x.event) → Contains list x
  pub apart : AreDistinct list

-- the events have numbers, and are listed with them
pub record NumbersEvents (old new : Numbers) (i : InstanceId) (list : List Listed) (events : List EventId) : Type 0 where
  pub kept : AreKept new
  pub same_spare : SameSpare old new
  pub one : IsOne new.slots.items
  pub listed : ListsEvents new.slots.items i list
  pub adds : Adds old.slots.items new.slots.items i events

-- some item of the list has the number
abbrev pub IsAmongListed : List Listed → NodeId → Type 0
IsAmongListed list id = (x : Listed) × Contains list x × (x.id ≡ id)

-- the numbers of the list are free
pub record Frees (old new : Numbers) (list : List Listed) : Type 0 where
  pub kept : AreKept new
  pub each : (id : NodeId) (node : Node) → IsNode new.slots.items id node ↔ (IsNode old.slots.items id node × ¬ IsAmongListed list id)
  pub count : count_of new.slots.items + length list ≡ count_of old.slots.items
  pub capacity : length new.slots.items ≡ length old.slots.items

-- each number is kept, no node has two, and each instance's list has its events
pub record IsTableOf (numbers : Numbers) (lists : NodeLists) : Type 0 where
  pub kept : AreKept numbers
  pub one : IsOne numbers.slots.items
  pub listed : (i : InstanceId) → ListsEvents numbers.slots.items i (list_at lists i)
