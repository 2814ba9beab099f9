use Rattle.std.proofs.Common.{◌≡◌, ◌==◌, ◌+◌, length, take, sym, ap, subst, ◌∙◌, arith}
use Rattle.std.specs.Prelude.{leb}
use Rattle.std.specs.List.{filter}
use Rattle.cb_codes.specs.Codes.{Coded}
use Rattle.cb_coding.specs.Distance.{distance, all_columns, HaveWidth}
use Rattle.cb_model.proofs.Numbers.{all_at}
use Rattle.cb_pairs.specs.Fits.{AreFits}
use Rattle.cb_pairs.specs.Guesses.{guess_code}
use Rattle.cb_pairs.proofs.Coded.{pairs_codes, some_codes, codes_wide, as_many_guesses}
use Rattle.cb_pairs.proofs.Fitting.{near_fits, listed_more, fits_of}
use Rattle.cb_pairs.proofs.pairs.Pairs.fits.Goals as goal

pub least_from-distance-requires-clause-some : goal.least_from-distance-requires-clause-some
least_from-distance-requires-clause-some c =
    some_codes c.self.inside.groups.now.rows c.self.inside.codes (pairs_codes _ _ _ _ c.self.invariant) c.self.invariant.some

pub least_from-distance-requires-clause-wide : goal.least_from-distance-requires-clause-wide
least_from-distance-requires-clause-wide c =
    let groups = c.self.inside.groups.now in
    let long : length c.args.word.now ≡ groups.width = c.requires ∙ ap (λ (g : Coded). g.width) (sym c.self.view_is) in
    subst (λ n. HaveWidth n c.self.inside.codes) (sym long)
    (codes_wide groups.rows c.self.inside.codes (pairs_codes _ _ _ _ c.self.invariant) groups.width c.width-width.ensures.all)

pub at-requires : goal.at-requires
at-requires c =
    let many = as_many_guesses _ _ _ _ c.self.invariant in
    let test = c.loop-at-test.true in
    let end = c.len-at-end.ensures in
    omega arith

pub is_at-keep-requires : goal.is_at-keep-requires
is_at-keep-requires c =
    let groups = c.self.inside.groups.now in
    let codes = c.self.inside.codes in
    let long : length c.args.word.now ≡ groups.width = c.requires ∙ ap (λ (g : Coded). g.width) (sym c.self.view_is) in
    let wide = codes_wide groups.rows codes (pairs_codes _ _ _ _ c.self.invariant) groups.width c.width-width.ensures.all in
    long ∙ sym (all_at (λ row. length row ≡ groups.width) codes c.loop-at.at c.at.result.now c.at.ensures wide)

pub loop-at-preserved : goal.loop-at-preserved
loop-at-preserved c =
    let word = c.args.word.now in
    let near = c.least_from-distance.result in
    let guesses = c.self.inside.guesses in
    let groups = c.self.inside.groups.now in
    let before : c.loop-at.guesses.items ≡ filter (λ g. distance (all_columns (length word)) word (guess_code groups.rows g) == near) (take c.loop-at.at guesses) =
    subst (λ (s : Coded). c.loop-at.guesses.items ≡ filter (λ g. distance (all_columns (length word)) word (guess_code s.rows g) == near) (take c.loop-at.at guesses))
    (sym c.self.view_is) c.loop-at.invariant
    in
    let more = listed_more groups.rows c.self.inside.codes (pairs_codes _ _ _ _ c.self.invariant) word near c.least_from-distance.ensures guesses
    c.self.invariant.guesses_are c.loop-at.at c.at-in-loop-at.result.now c.at.result.now c.at-in-loop-at.ensures c.at.ensures c.is_at-keep.result
    c.is_at-keep.ensures c.loop-at.guesses.items c.keep_if.new.guesses.items before c.in_ok-keep_if.ensures
    in
    subst (λ (s : Coded). c.keep_if.new.guesses.items ≡ filter (λ g. distance (all_columns (length word)) word (guess_code s.rows g) == near) (take (c.loop-at.at + 1) guesses))
    c.self.view_is more

pub overflow_cast-result : goal.overflow_cast-result
overflow_cast-result c =
    let groups = c.self.inside.groups.now in
    let long : length c.args.word.now ≡ groups.width = c.requires ∙ ap (λ (g : Coded). g.width) (sym c.self.view_is) in
    let narrow = c.self.invariant.narrow in
    let fits = near_fits groups.rows c.self.inside.codes (pairs_codes _ _ _ _ c.self.invariant) c.args.word.now c.least_from-distance.result
    c.least_from-distance.ensures (omega arith)
    in
    omega arith

pub returns : goal.returns
returns c =
    let word = c.args.word.now in
    let groups = c.self.inside.groups.now in
    let long : length word ≡ groups.width = c.requires ∙ ap (λ (g : Coded). g.width) (sym c.self.view_is) in
    let near = c.least_from-distance.result in
    let guesses = c.self.inside.guesses in
    let listed : c.of.result ≡ filter (λ g. distance (all_columns (length word)) word (guess_code groups.rows g) == near) (take c.loop-at.at guesses) =
    c.of.ensures ∙ subst (λ (s : Coded). c.loop-at.guesses.items ≡ filter (λ g. distance (all_columns (length word)) word (guess_code s.rows g) == near) (take c.loop-at.at guesses))
    (sym c.self.view_is) c.loop-at.invariant
    in
    let done = c.loop-at-test.false in
    let end = c.len-at-end.ensures in
    let fits = fits_of groups.rows c.self.inside.codes (pairs_codes _ _ _ _ c.self.invariant) word near c.least_from-distance.ensures groups.width long
    c.self.inside.separation c.self.invariant.apart guesses c.self.invariant.guesses_are c.of.result c.loop-at.at listed (omega arith) c.radius.result c.radius.ensures
    in
    subst (λ (s : Coded). AreFits s.width s.rows word (record { distance = near; guesses = c.of.result; sure = leb near c.radius.result })) c.self.view_is fits
