use Rattle.cb_request.specs.Commands.{texts}
use Rattle.cb_request.proofs.CommandWords.{other_asks_for_nothing}
use Rattle.cb_request.proofs.table.read.Goals as goal

pub returns-in_default : goal.returns-in_default
returns-in_default c =
    let is = c.in_default in
    other_asks_for_nothing c.args.command.now (texts c.args.words.now) (record {
      burst = is.not-burst;
      model = is.not-model;
      matrix = is.not-matrix;
      codebook = is.not-codebook;
      verify = is.not-verify;
      decode = is.not-decode;
      correlate = is.not-correlate;
      grow = is.not-grow;
      pairs = is.not-pairs;
      explain = is.not-explain;
      levels = is.not-levels;
      prove = is.not-prove;
      rewind = is.not-rewind;
    })
