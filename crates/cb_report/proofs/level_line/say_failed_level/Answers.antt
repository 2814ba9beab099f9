use Rattle.cb_report.proofs.level_line.say_failed_level.Goals as goal

pub returns-in-BadNode : goal.returns-in-BadNode
returns-in-BadNode g c = rw c.in-BadNode.is c.say_number.ensures

pub returns-in-BadRoot : goal.returns-in-BadRoot
returns-in-BadRoot g c = rw c.in-BadRoot.is c.say_number-in-BadRoot.ensures

pub returns-in-BadParent : goal.returns-in-BadParent
returns-in-BadParent g c = rw c.in-BadParent.is c.say_number-in-BadParent.ensures

pub returns-in-NoEdge : goal.returns-in-NoEdge
returns-in-NoEdge g c = rw c.in-NoEdge.is c.say_number-in-NoEdge.ensures

pub returns-in-Repeated : goal.returns-in-Repeated
returns-in-Repeated g c = rw c.in-Repeated.is c.say_number-in-Repeated.ensures

pub returns-in-BadLevel : goal.returns-in-BadLevel
returns-in-BadLevel g c = rw c.in-BadLevel.is c.say_number-in-BadLevel.ensures

pub returns-in-NotClosed : goal.returns-in-NotClosed
returns-in-NotClosed g c = rw c.in-NotClosed.is c.say_successor.ensures

pub returns-in-NotShort : goal.returns-in-NotShort
returns-in-NotShort g c = rw c.in-NotShort.is c.say_successor-in-NotShort.ensures
