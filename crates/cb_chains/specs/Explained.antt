-- Whether there is a chain from a problem to a column.
use Rattle.std.specs.Prelude.{List, [], ◌∷◌, Option, None, Some}
use Rattle.std.specs.List.{AllZip}
use Rattle.cb_model.specs.declared.node.NodeName.{NodeName}
use Rattle.cb_network.specs.Topology.{Topology}
use Rattle.cb_network.specs.Causes.{Causes}
use Rattle.cb_levels.specs.Level.{IsShortChain}

-- the short chain from the problem to the column, or none if the problem doesn't cause it
abbrev pub ExplainsColumn : Topology → NodeName → NodeName → Option (List NodeName) → Type 0
ExplainsColumn t problem column (Some chain) = IsShortChain t problem column chain
ExplainsColumn t problem column None = ¬ Causes t problem column

-- for each column in order, whether there is a chain from the problem to it
abbrev pub ExplainsColumns : Topology → List NodeName → NodeName → List (Option (List NodeName)) → Type 0
ExplainsColumns t columns problem found = AllZip (ExplainsColumn t problem) columns found

-- the chains that there are
abbrev pub chains_in : List (Option (List NodeName)) → List (List NodeName)
chains_in [] = []
chains_in (None ∷ found) = chains_in found
chains_in (Some chain ∷ found) = chain ∷ chains_in found
