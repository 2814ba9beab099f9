use Rattle.std.proofs.Common.{◌≡◌, List, ℕ, [], drop, take, sym, ap, ◌∙◌, arith}
use Rattle.std.specs.List.{prefix_len, position_or_len}
use Rattle.std.proofs.lemmas.List.{take_rest, drop_all, length-drop}
use Rattle.cb_text.specs.Words.{is_blank, words_of}
use Rattle.cb_text.proofs.WordLemmas.{words_of-drop, words_of-first}
use Rattle.cb_text.proofs.word.first_word.Goals as goal

pub returns-then-start-line-clause-none : goal.returns-then-start-line-clause-none
returns-then-start-line-clause-none c =
    let line = c.args.line.now in
    let none : drop (prefix_len is_blank line) line ≡ [] = drop_all _ line (omega arith) in
    sym (words_of-drop line) ∙ ap words_of none

pub returns-clause-some : goal.returns-clause-some
returns-clause-some c =
    let line = c.args.line.now in
    let start = c.blank_prefix-start.result in
    let rest : List ℕ = drop start line in
    let whole = take_rest line start in
    let first = words_of-first line rest (ap (λ n. drop n line) c.blank_prefix-start.ensures.value) (omega (arith, length-drop start line)) in
    let end_is : c.word_prefix.result ≡ position_or_len is_blank rest = c.word_prefix.ensures.value ∙ ap (position_or_len is_blank) whole in
    let word_is : c.split_at.result.0.now ≡ take (position_or_len is_blank rest) rest = c.split_at.ensures.front ∙ (ap (take c.word_prefix.result) whole ∙ ap (λ n. take n rest) end_is) in
    let later_is : c.split_at.result.1.now ≡ drop (position_or_len is_blank rest) rest = c.split_at.ensures.back ∙ (ap (drop c.word_prefix.result) whole ∙ ap (λ n. drop n rest) end_is) in
    rw (word_is, later_is) first
