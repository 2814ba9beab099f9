-- What a further instance needs and brings.
use Rattle.std.specs.Prelude.{◌≡◌, ◌≤◌, ◌++◌, ◌-◌, ℕ, List, Option, None, Some, length, replicate}
use Rattle.std.specs.List.{Contains}
use Rattle.cb_bits.specs.Bits.{words_for}
use Rattle.cb_model.specs.declared.id.EventId.{EventId}
use Rattle.cb_model.specs.declared.node.NodeName.{NodeName}
use Rattle.cb_model.specs.WellTyped.{WellTyped}
use Rattle.cb_network.specs.declared.edit.Edit.{Edit}
use Rattle.cb_network.specs.declared.edit.Edit.TheVariants.{Create}
use Rattle.cb_network.specs.Nodes.{IsProblem}
use Rattle.cb_instances.specs.declared.id.InstanceId.{InstanceId}
use Rattle.cb_nodes.specs.declared.id.NodeId.{NodeId}
use Rattle.cb_nodes.specs.Table.{IsNode, node_of}
use Rattle.cb_pool.specs.Pool.{Pool, WiderRows}
use Rattle.cb_topo.specs.Applied.{Applies}
use Rattle.cb_topo.specs.Numbered.{Numbered, topology_of, IsNodeNamed}
use Rattle.cb_cache.specs.declared.create.Further.{Further}
use Rattle.cb_cache.specs.declared.rows.Rows.{Rows}
use Rattle.cb_cache.specs.Most.{HasEventsWithin}
use Rattle.cb_cache.specs.Numbers.{IsProblemNumber}
use Rattle.cb_cache.specs.Capacity.{HasCapacityFor, HasAgendaFor}

-- the edit brings an instance
abbrev pub MakesInstance : Edit → Type 0
MakesInstance (Create name class) = Unit {0}
MakesInstance edit = ⊥

-- the number is that of one of these events of the instance, and that is a problem
abbrev pub IsProblemAmong : Numbered → InstanceId → List EventId → NodeId → Type 0
IsProblemAmong n instance events id = (e : EventId) × Contains events e × IsNode n.nodes id (node_of instance e) × IsProblemNumber n id

-- the number is that of a problem of the instance that the edit brings
abbrev pub IsNewProblem : Numbered → Edit → NodeId → Type 0
IsNewProblem n (Create name class) id = (problem : NodeName) × IsNodeNamed n id problem × IsProblem (topology_of n) problem × (problem.instance ≡ name)
IsNewProblem n edit id = ⊥

-- the pool has rows of that width and that many to spare; or there is a wider one with equal rows
abbrev pub IsPoolFor : ℕ → ℕ → Pool → Option Pool → Type 0
IsPoolFor width more p None = (p.width ≡ width) × (more ≤ p.spare)
IsPoolFor width more p (Some wider) = (wider.width ≡ width) × WiderRows p wider × (more ≤ wider.spare)

-- there are slots for `capacity` nodes, with those that numbers have, and rows for `more` further problems
pub record IsFurtherFor (capacity more : ℕ) (rows : Rows) (further : Further) : Type 0 where
  pub slots : further.slots.items ≡ rows.slots.items ++ replicate (capacity - length rows.slots.items) None
  pub scratch : HasCapacityFor capacity further.scratch
  pub agenda : HasAgendaFor capacity further.agenda
  pub pool : IsPoolFor (words_for capacity) more rows.pool further.pool

-- so it is once the edit is made, with rows for all events of the instance that it brings; its class has one name
abbrev pub IsCapacityWith : Numbered → Edit → Rows → Further → Type 0
IsCapacityWith n edit rows further = WellTyped (topology_of n).model × (more : ℕ) × HasEventsWithin (topology_of n).model edit more × ((new : Numbered) → Applies n edit new → IsFurtherFor (length new.nodes) more rows further)

-- the pool that takes another's position, if one does
abbrev pub pool_or : Pool → Option Pool → Pool
pool_or p None = p
pool_or p (Some wider) = wider
