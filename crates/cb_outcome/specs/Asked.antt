-- The command that words ask for.
use Rattle.std.specs.Prelude.{List, Option, None, Some, String}
use Rattle.std.specs.declared.alloc.Global.{Global}
use Rattle.cb_request.specs.Commands.{request_of_arguments}
use Rattle.cb_request.specs.declared.request.Request.{Request}
use Rattle.cb_request.specs.declared.request.Request.TheVariants.{Burst, Model, Matrix, Codebook, Verify, Decode, Correlate, Grow, Pairs, Explain, Levels, Prove, Rewind}
use Rattle.cb_outcome.specs.Command.{Command}
use Rattle.cb_outcome.specs.Commands.Burst.{burst}
use Rattle.cb_outcome.specs.Commands.Model.{model}
use Rattle.cb_outcome.specs.Commands.Matrix.{matrix}
use Rattle.cb_outcome.specs.Commands.Codebook.{codebook}
use Rattle.cb_outcome.specs.Commands.Verify.{verify}
use Rattle.cb_outcome.specs.Commands.Decode.{decode}
use Rattle.cb_outcome.specs.Commands.Correlate.{correlate}
use Rattle.cb_outcome.specs.Commands.Grow.{grow}
use Rattle.cb_outcome.specs.Commands.Pairs.{pairs}
use Rattle.cb_outcome.specs.Commands.Explain.{explain}
use Rattle.cb_outcome.specs.Commands.Levels.{levels}
use Rattle.cb_outcome.specs.Commands.Prove.{prove}
use Rattle.cb_outcome.specs.Commands.Rewind.{rewind}
use Rattle.cb_outcome.specs.Commands.Usage.{usage}

-- the command of a request
abbrev pub command_of : Request → Command
command_of (Burst one two three) = burst one two three
command_of (Model one) = model one
command_of (Matrix one two) = matrix one two
command_of (Codebook one two wish) = codebook one two wish
command_of (Verify one two three) = verify one two three
command_of (Decode one two three log window) = decode one two three log window
command_of (Correlate one two log wish window) = correlate one two log wish window
command_of (Grow sites start) = grow sites start
command_of (Pairs one two three) = pairs one two three
command_of (Explain one two three) = explain one two three
command_of (Levels one two node) = levels one two node
command_of (Prove one two three) = prove one two three
command_of (Rewind one two three depth) = rewind one two three depth

-- of what words ask for, if they ask for something
abbrev pub command_for : Option Request → Command
command_for None = usage
command_for (Some request) = command_of request

-- of the words as the program gets them
abbrev pub command_in : List (String Global) → Command
command_in words = command_for (request_of_arguments words)
