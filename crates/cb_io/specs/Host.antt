-- What the machine's files and outputs tell.
use Rattle.std.specs.Prelude.{ℕ, List, None, unwrap_or}
use Rattle.cb_io.specs.Pairs.{look_up}
use Rattle.cb_io.specs.Outside.{FilesReport}

-- files of the machine, by the faults of each name that was read: what is left isn't reported, and no other name has faults
abbrev pub host_report : List (List ℕ × ℕ) → FilesReport
host_report opened = record { left = None; faults = λ name. unwrap_or (look_up opened name) 0 }
