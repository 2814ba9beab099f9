-- Each command keeps what commands keep.
use Rattle.std.proofs.Common.{refl}
use Rattle.std.specs.Prelude.{Option, None, Some}
use Rattle.cb_request.specs.declared.request.Request.{Request}
use Rattle.cb_request.specs.declared.request.Request.TheVariants.{Burst, Model, Matrix, Codebook, Verify, Decode, Correlate, Grow, Pairs, Explain, Levels, Prove, Rewind}
use Rattle.cb_outcome.specs.Asked.{command_of, command_for}
use Rattle.cb_outcome.proofs.Lawful.{IsLawful}
use Rattle.cb_outcome.proofs.Commands.Burst as burst
use Rattle.cb_outcome.proofs.Commands.Model as model
use Rattle.cb_outcome.proofs.Commands.Matrix as matrix
use Rattle.cb_outcome.proofs.Commands.Codebook as codebook
use Rattle.cb_outcome.proofs.Commands.Verify as verify
use Rattle.cb_outcome.proofs.Commands.Decode as decode
use Rattle.cb_outcome.proofs.Commands.Correlate as correlate
use Rattle.cb_outcome.proofs.Commands.Grow as grow
use Rattle.cb_outcome.proofs.Commands.Pairs as pairs
use Rattle.cb_outcome.proofs.Commands.Explain as explain
use Rattle.cb_outcome.proofs.Commands.Levels as levels
use Rattle.cb_outcome.proofs.Commands.Prove as prove
use Rattle.cb_outcome.proofs.Commands.Rewind as rewind

pub request_lawful : (request : Request) → IsLawful (command_of request)
request_lawful (Burst one two three) = burst.lawful one two three
request_lawful (Model one) = model.lawful one
request_lawful (Matrix one two) = matrix.lawful one two
request_lawful (Codebook one two wish) = codebook.lawful one two wish
request_lawful (Verify one two three) = verify.lawful one two three
request_lawful (Decode one two three log window) = decode.lawful one two three log window
request_lawful (Correlate one two log wish window) = correlate.lawful one two log wish window
request_lawful (Grow sites start) = grow.lawful sites start
request_lawful (Pairs one two three) = pairs.lawful one two three
request_lawful (Explain one two three) = explain.lawful one two three
request_lawful (Levels one two node) = levels.lawful one two node
request_lawful (Prove one two three) = prove.lawful one two three
request_lawful (Rewind one two three depth) = rewind.lawful one two three depth

pub lawful : (asked : Option Request) → IsLawful (command_for asked)
lawful None = (refl, refl)
lawful (Some request) = request_lawful request
