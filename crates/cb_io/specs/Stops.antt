-- How a refusal of a read goes on.
use Rattle.cb_io.specs.declared.outside.FileStop.{FileStop}
use Rattle.cb_io.specs.declared.outside.FileStop.TheVariants as file
use Rattle.cb_io.specs.declared.whole.ReadStop.{ReadStop}
use Rattle.cb_io.specs.declared.whole.ReadStop.TheVariants as whole

-- why a file isn't read whole, where a read of it is refused
abbrev pub stop_of : FileStop → ReadStop
stop_of file.Failed = whole.ReadFault
stop_of file.NoMemory = whole.NoMemory
