use Rattle.std.proofs.Common.{◌≡◌, take}
use Rattle.cb_codes.specs.Marks.{mark_of}
use Rattle.cb_codes.proofs.marks.mark_of_words.Given as goal

abbrev pub invariant-loop-word : goal.invariant-loop-word
invariant-loop-word l = l.mark ≡ mark_of (take l.word-index l.words)
