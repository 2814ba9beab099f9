use Rattle.cb_text.specs.Words.{words_of}
use Rattle.cb_edits.proofs.Decoded.{spelled_once}
use Rattle.cb_edits.proofs.laws.edit_is_one.Goals as goal

pub returns : goal.returns
returns c = λ line. spelled_once (words_of line)
