use Rattle.std.proofs.Common.{◌↔◌, rules}
use Rattle.std.specs.Prelude.{IsTrue}
use Rattle.std.specs.List.{All}
use Rattle.cb_text.specs.Words.{is_blank}
use Rattle.cb_text.proofs.WordLemmas.{blank_line}
use Rattle.cb_text.proofs.word.has_no_word.Goals as goal

pub returns : goal.returns
returns c =
    let line = c.args.line.now in
    let all : IsTrue c.all.result ↔ All (λ b. IsTrue (is_blank b)) line = search rules in
    (λ yes. (blank_line line).0 (all.0 yes), λ none. all.1 ((blank_line line).1 none))
