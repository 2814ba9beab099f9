-- What is looked up to decide an edit.
use Rattle.std.specs.Prelude.{◌≡◌, ◌<◌, Some, slice_get}
use Rattle.cb_model.specs.declared.id.ClassId.{ClassId}
use Rattle.cb_model.specs.declared.id.EventId.{EventId}
use Rattle.cb_model.specs.declared.id.RelId.{RelId}
use Rattle.cb_model.specs.declared.tables.RelRow.{RelRow}
use Rattle.cb_model.specs.Classes.{IsA}
use Rattle.cb_model.specs.WellTyped.{IsClass}
use Rattle.cb_network.specs.declared.edit.EditRefusal.{EditRefusal}
use Rattle.cb_network.specs.declared.edit.EditRefusal.TheVariants.{NodeLimit, ProblemLimit, SymptomLimit}
use Rattle.cb_network.specs.Topology.{Topology, HasClass}
use Rattle.cb_network.specs.Nodes.{IsSymptomNode}
use Rattle.cb_network.specs.Sound.{node_limit, problem_limit, symptom_limit}
use Rattle.cb_network.specs.Edits.{refusal_number, node_name_of, IsRelationAt}
use Rattle.cb_instances.specs.declared.id.InstanceId.{InstanceId}
use Rattle.cb_instances.specs.Net.{Net, IsNamed, HasEventAt, node_at}
use Rattle.cb_accept.specs.declared.counts.NodeCounts.{NodeCounts}
use Rattle.cb_accept.specs.declared.link.Ends.{Ends}
use Rattle.cb_accept.specs.declared.mute.Symptom.{Symptom}
use Rattle.cb_network.specs.Words.{InstanceName, Word}

-- a number is above the limit that this refusal speaks of
abbrev pub IsAboveLimit : NodeCounts → EditRefusal → Type 0
IsAboveLimit counts NodeLimit = node_limit < counts.nodes
IsAboveLimit counts ProblemLimit = problem_limit < counts.problems
IsAboveLimit counts SymptomLimit = symptom_limit < counts.symptoms
IsAboveLimit counts why = ⊥

-- a number is above this limit, and none is above a limit that comes before it
pub record IsFirstLimit (counts : NodeCounts) (why : EditRefusal) : Type 0 where
  pub above : IsAboveLimit counts why
  pub first : (other : EditRefusal) → refusal_number other < refusal_number why → ¬ IsAboveLimit counts other

-- the instance is of this class, which is one of the model's
pub record IsClassAt (n : Net) (id : InstanceId) (class : ClassId) : Type 0 where
  pub name : InstanceName
  pub named : IsNamed n id name
  pub of_class : HasClass n.topology name class
  pub within : IsClass n.topology.model class

-- b's class is the target of the relation, or a descendant of that
pub record FitsTarget (t : Topology) (b : InstanceName) (rel : RelId) : Type 0 where
  pub class : ClassId
  pub of_class : HasClass t b class
  pub row : RelRow
  pub is : slice_get t.model.relations rel.0 ≡ Some row
  pub kind : IsA t.model class row.target

-- these are the instances a and b, and the relation of this name that a's class has
pub record AreEnds (n : Net) (a : InstanceName) (rel : Word) (b : InstanceName) (ends : Ends) : Type 0 where
  pub from : IsNamed n ends.from a
  pub to : IsNamed n ends.to b
  pub at_a : IsRelationAt n.topology a rel ends.rel

-- the event, of this name, is a symptom of the instance
pub record IsSymptomAt (n : Net) (id : InstanceId) (event : Word) (name : InstanceName) (e : EventId) : Type 0 where
  pub symptom : IsSymptomNode n.topology (node_name_of event name)
  pub has : HasEventAt n id e
  pub node : node_at n id e ≡ node_name_of event name

-- these are the instance and the event of these names, and the event is a symptom of the instance
pub record NamesSymptom (n : Net) (event : Word) (name : InstanceName) (s : Symptom) : Type 0 where
  pub named : IsNamed n s.id name
  pub symptom : IsSymptomAt n s.id event name s.event
