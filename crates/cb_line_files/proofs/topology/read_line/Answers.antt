use Rattle.std.proofs.Common.{◌∙◌, sym}
use Rattle.std.proofs.lemmas.Bool.{false≢true}
use Rattle.cb_topo.specs.Numbered.{topology_of}
use Rattle.cb_line_files.proofs.Stops.{text_stops, edit_stops}
use Rattle.cb_line_files.proofs.topology.read_line.Goals as goal
