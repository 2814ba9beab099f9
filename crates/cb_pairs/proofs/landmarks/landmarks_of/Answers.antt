use Rattle.std.proofs.Common.{◌≡◌, ◌+◌, ◌++◌, ◌∷◌, [], List, Bool, length, take, sym, subst, arith}
use Rattle.std.proofs.lemmas.List.{take_all}
use Rattle.cb_model.proofs.Numbers.{all_at, take_more, zip_push}
use Rattle.cb_coding.specs.Distance.{HaveWidth}
use Rattle.cb_pairs.specs.declared.landmarks.Landmarks.{Landmarks}
use Rattle.cb_pairs.specs.Guesses.{IsOfGroups}
use Rattle.cb_pairs.specs.Landmarks.{AreLandmarks, HaveLandmarks, IsLandmark}
use Rattle.cb_pairs.proofs.landmarks.landmarks_of.Goals as goal

pub at-code-requires : goal.at-code-requires
at-code-requires c =
    let test = c.loop-at-test.true in
    let end = c.len-at-end.ensures in
    let all = c.requires.all in
    omega arith

pub as_seen-first-requires-clause-within : goal.as_seen-first-requires-clause-within
as_seen-first-requires-clause-within c =
    let is = all_at (IsOfGroups (length c.args.rows.now)) c.args.guesses.now c.loop-at.at c.at-guess.result.now c.at-guess.ensures c.requires.within in
    is.first

pub as_seen-first-requires-clause-wide : goal.as_seen-first-requires-clause-wide
as_seen-first-requires-clause-wide c =
    let long = all_at (λ row. length row ≡ c.args.width) c.args.codes.now c.loop-at.at c.at-code.result.now c.at-code.ensures c.requires.codes in
    subst (λ n. HaveWidth n c.args.rows.now) (sym long) c.requires.rows

pub as_seen-second-requires-clause-within : goal.as_seen-second-requires-clause-within
as_seen-second-requires-clause-within c =
    let is = all_at (IsOfGroups (length c.args.rows.now)) c.args.guesses.now c.loop-at.at c.at-guess.result.now c.at-guess.ensures c.requires.within in
    c.second_or_first.ensures (length c.args.rows.now) is

pub as_seen-second-requires-clause-wide : goal.as_seen-second-requires-clause-wide
as_seen-second-requires-clause-wide c =
    let long = all_at (λ row. length row ≡ c.args.width) c.args.codes.now c.loop-at.at c.at-code.result.now c.at-code.ensures c.requires.codes in
    subst (λ n. HaveWidth n c.args.rows.now) (sym long) c.requires.rows

pub loop-at-preserved : goal.loop-at-preserved
loop-at-preserved c =
    let width = c.args.width in
    let rows = c.args.rows.now in
    let codes = c.args.codes.now in
    let at = c.loop-at.at in
    let code = c.at-code.result.now in
    let long = all_at (λ row. length row ≡ width) codes at code c.at-code.ensures c.requires.codes in
    let marks : Landmarks = record { first = c.as_seen-first.result; second = c.as_seen-second.result } in
    let are : AreLandmarks width rows code marks = record {
      first = subst (λ n. IsLandmark n rows code c.as_seen-first.result) long c.as_seen-first.ensures;
      second = subst (λ n. IsLandmark n rows code c.as_seen-second.result) long c.as_seen-second.ensures;
    } in
    subst (λ (ms : List Landmarks). HaveLandmarks width rows (take (at + 1) codes) ms) (sym c.in_ok-push.ensures.ok)
    (subst (λ (cs : List (List Bool)). HaveLandmarks width rows cs (c.loop-at.marks ++ marks ∷ [])) (sym (take_more codes at code c.at-code.ensures))
    (zip_push (AreLandmarks width rows) (take at codes) c.loop-at.marks code marks c.loop-at.invariant are))

pub returns : goal.returns
returns c =
    let done = c.loop-at-test.false in
    let end = c.len-at-end.ensures in
    let all = c.requires.all in
    subst (λ (cs : List (List Bool)). HaveLandmarks c.args.width c.args.rows.now cs c.loop-at.marks) (take_all c.loop-at.at c.args.codes.now (omega arith)) c.loop-at.invariant
