-- What files and a sink tell that never fail.
use Rattle.std.specs.Prelude.{None}
use Rattle.cb_io.specs.Outside.{FilesReport, SinkReport}
use Rattle.cb_io.specs.Memory.{FilesState, files_report}

-- files in memory that tell all that is left, and no faults
abbrev pub never_reported : FilesState → FilesReport
never_reported state = record (files_report state) { faults = λ name. 0 }

-- a sink that tells neither bytes nor faults
abbrev pub sink_never_reported : SinkReport
sink_never_reported = record { taken = None; faults = 0 }
