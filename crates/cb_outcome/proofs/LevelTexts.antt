-- What `levels` writes is the text of valid levels.
use Rattle.cb_model.specs.declared.node.NodeName.{NodeName}
use Rattle.cb_network.specs.Nodes.{IsProblem}
use Rattle.cb_network.specs.Topology.{Topology}
use Rattle.cb_levels.specs.declared.levels.Levels.{Levels}
use Rattle.cb_levels.specs.Canonical.{AreCanonicalLevels}
use Rattle.cb_levels.specs.Format.{IsLevels}
use Rattle.cb_levels.specs.Text.{levels_text}
use Rattle.cb_levels.proofs.Canonicals.{canonical_is_valid}
use Rattle.cb_levels.proofs.Spelling.{level_text_spells, levels_text_is_short, spelled_levels_are_short}
use Rattle.cb_outcome.specs.Roles.{Role}
use Rattle.cb_outcome.specs.Texts.{IsLevelText}
use Rattle.cb_outcome.specs.Judged.{IsShortFor}

pub canonical_text_is_valid : (t : Topology) (problem : NodeName) (ls : Levels) → IsProblem t problem → AreCanonicalLevels t problem ls → IsLevels ls
    → IsLevelText t (levels_text ls) ls
canonical_text_is_valid t problem ls is canonical of_format =
    record { spelled = level_text_spells ls of_format; valid = (problem, canonical_is_valid t problem ls is canonical) }

pub level_text_fits : (ls : Levels) → IsLevels ls → IsShortFor Role.levels (levels_text ls)
level_text_fits ls of_format =
    record { bytes = levels_text_is_short ls of_format; lines = λ limited. spelled_levels_are_short (levels_text ls) ls (level_text_spells ls of_format) }
