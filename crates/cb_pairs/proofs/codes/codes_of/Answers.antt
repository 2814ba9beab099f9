use Rattle.std.proofs.Common.{◌++◌, ◌∷◌, [], List, Bool, map, take, sym, ap, ◌∙◌, arith}
use Rattle.std.proofs.lemmas.List.{take_all}
use Rattle.cb_model.proofs.Numbers.{take_more}
use Rattle.cb_pairs.specs.Guesses.{guess_code}
use Rattle.cb_pairs.proofs.Lists.{map_push}
use Rattle.cb_pairs.proofs.codes.codes_of.Goals as goal

pub loop-at-preserved : goal.loop-at-preserved
loop-at-preserved c =
    let rows = c.args.rows.now in
    let guesses = c.args.guesses.now in
    let at = c.loop-at.at in
    let g = c.at.result.now in
    c.in_ok-push.ensures.ok ∙ (ap (λ (cs : List (List Bool)). cs ++ c.in_ok-code_of.field-0 ∷ []) c.loop-at.invariant
    ∙ (ap (λ (code : List Bool). map (guess_code rows) (take at guesses) ++ code ∷ []) c.in_ok-code_of.ensures
    ∙ (sym (map_push (guess_code rows) (take at guesses) g) ∙ ap (map (guess_code rows)) (sym (take_more guesses at g c.at.ensures)))))

pub returns : goal.returns
returns c =
    let done = c.loop-at-test.false in
    let end = c.len-at-end.ensures in
    c.loop-at.invariant ∙ ap (map (guess_code c.args.rows.now)) (take_all c.loop-at.at c.args.guesses.now (omega arith))
