-- Numbers that outlive a line.
use Rattle.cb_topo.specs.Applied.{KeepsInstances, KeepsNodes}
use Rattle.cb_topo.specs.Numbered.{Numbered}

-- an instance that is live before and after keeps its number, and so does a node
abbrev pub KeepsNumbers : Numbered → Numbered → Type 0
KeepsNumbers old new = KeepsInstances old new × KeepsNodes old new
