use Rattle.std.proofs.Common.{length, sym, ap, subst, ◌∙◌, arith}
use Rattle.std.specs.List.{All}
use Rattle.std.proofs.lemmas.List.{length-map}
use Rattle.cb_coding.specs.Distance.{HaveWidth}
use Rattle.cb_pairs.specs.Guesses.{guesses_of, guess_code, IsOfGroups}
use Rattle.cb_pairs.specs.Kept.{IsLeastApart}
use Rattle.cb_pairs.proofs.Guessing.{guesses_of_groups}
use Rattle.cb_pairs.proofs.Made.{made_pairs, made_wide}
use Rattle.cb_pairs.proofs.pairs.pairs_of.Goals as goal

pub codes_of-requires-clause-wide : goal.codes_of-requires-clause-wide
codes_of-requires-clause-wide c =
    let groups = c.args.groups.now in
    (groups.width, subst (HaveWidth groups.width) (sym c.in_ok-rows.ensures) c.width-width.ensures.all)

pub codes_of-requires-clause-within : goal.codes_of-requires-clause-within
codes_of-requires-clause-within c =
    let n = length c.args.groups.now.rows in
    let is = c.in_ok-guesses.ensures ∙ ap guesses_of c.len.ensures in
    subst (λ rows. All (IsOfGroups (length rows)) c.in_ok-guesses.guesses) (sym c.in_ok-rows.ensures) (subst (All (IsOfGroups n)) (sym is) (guesses_of_groups n))

pub landmarks_of-requires-clause-rows : goal.landmarks_of-requires-clause-rows
landmarks_of-requires-clause-rows c =
    let groups = c.args.groups.now in
    subst (λ n. HaveWidth n c.in_ok-rows.rows) (sym c.width-width.ensures.width) (subst (HaveWidth groups.width) (sym c.in_ok-rows.ensures) c.width-width.ensures.all)

pub landmarks_of-requires-clause-codes : goal.landmarks_of-requires-clause-codes
landmarks_of-requires-clause-codes c =
    let groups = c.args.groups.now in
    subst (λ n. HaveWidth n c.in_ok-codes.codes) (sym c.width-width.ensures.width)
    (made_wide groups c.in_ok-guesses.guesses c.in_ok-rows.rows c.in_ok-codes.codes (c.in_ok-guesses.ensures ∙ ap guesses_of c.len.ensures) c.in_ok-rows.ensures
    c.in_ok-codes.ensures c.width-width.ensures.all)

pub landmarks_of-requires-clause-within : goal.landmarks_of-requires-clause-within
landmarks_of-requires-clause-within c =
    let n = length c.args.groups.now.rows in
    let is = c.in_ok-guesses.ensures ∙ ap guesses_of c.len.ensures in
    subst (λ rows. All (IsOfGroups (length rows)) c.in_ok-guesses.guesses) (sym c.in_ok-rows.ensures) (subst (All (IsOfGroups n)) (sym is) (guesses_of_groups n))

pub landmarks_of-requires-clause-all : goal.landmarks_of-requires-clause-all
landmarks_of-requires-clause-all c = ap length c.in_ok-codes.ensures ∙ length-map c.in_ok-guesses.guesses (guess_code c.in_ok-rows.rows)

pub separation_of-requires-clause-narrow : goal.separation_of-requires-clause-narrow
separation_of-requires-clause-narrow c = let narrow = c.requires.columns_fit in let wide = c.width-width.ensures.width in omega arith

pub separation_of-requires-clause-rows : goal.separation_of-requires-clause-rows
separation_of-requires-clause-rows c =
    let groups = c.args.groups.now in
    subst (λ n. HaveWidth n c.in_ok-rows.rows) (sym c.width-width.ensures.width) (subst (HaveWidth groups.width) (sym c.in_ok-rows.ensures) c.width-width.ensures.all)

pub separation_of-requires-clause-codes : goal.separation_of-requires-clause-codes
separation_of-requires-clause-codes c =
    let groups = c.args.groups.now in
    subst (λ n. HaveWidth n c.in_ok-codes.codes) (sym c.width-width.ensures.width)
    (made_wide groups c.in_ok-guesses.guesses c.in_ok-rows.rows c.in_ok-codes.codes (c.in_ok-guesses.ensures ∙ ap guesses_of c.len.ensures) c.in_ok-rows.ensures
    c.in_ok-codes.ensures c.width-width.ensures.all)

pub invariant_of-result : goal.invariant_of-result
invariant_of-result c =
    let groups = c.args.groups.now in
    made_pairs groups c.in_ok-guesses.guesses c.in_ok-rows.rows c.in_ok-codes.codes (c.in_ok-guesses.ensures ∙ ap guesses_of c.len.ensures) c.in_ok-rows.ensures
    c.in_ok-codes.ensures c.requires.some c.requires.columns_fit c.width-width.ensures.all c.in_ok-separation.separation
    (subst (λ n. IsLeastApart n c.in_ok-codes.codes c.in_ok-separation.separation) c.width-width.ensures.width c.in_ok-separation.ensures)
