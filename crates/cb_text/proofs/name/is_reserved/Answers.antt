use Rattle.std.proofs.Common.{◌≡◌, sym, ◌∙◌, rules, tests}
use Rattle.std.specs.Str.{bytes_eq}
use Rattle.std.specs.List.{list_any}
use Rattle.std.proofs.lemmas.Iterator.{YieldsList-from_slice}
use Rattle.std.proofs.lemmas.Iterator.Search.{any_from_yields_List}
use Rattle.std.proofs.lemmas.Map.Views.{Contains-from_any, list_any-from_Contains}
use Rattle.std.proofs.lemmas.Cmp.{nat_list_eq_equiv}
use Rattle.std.proofs.lemmas.Slice.Eq.{bytes_eq-Decides}
use Rattle.cb_text.specs.Names.{reserved_words}
use Rattle.cb_text.proofs.name.is_reserved.Goals as goal

pub returns : goal.returns
returns c =
    let bytes = c.args.bytes.now in
    let found = any_from_yields_List (λ w. bytes_eq bytes w.now) _ _ c.any.result c.any.ensures.ran (YieldsList-from_slice _ c.iter.ensures.rest) (λ x b q k. search (rules, tests)) in
    let any_is : c.any.result ≡ list_any (bytes_eq bytes) reserved_words = found in (
      λ is. Contains-from_any (λ x y. (bytes_eq-Decides x y).0) bytes reserved_words (sym any_is ∙ is),
      λ contains. any_is ∙ list_any-from_Contains nat_list_eq_equiv bytes reserved_words contains,
    )
