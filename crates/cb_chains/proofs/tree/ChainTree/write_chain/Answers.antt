use Rattle.std.proofs.Common.{◌≡◌, ◌<◌, ◌≤◌, ℕ, List, Some, length, slice_get, refl, sym, ap, subst, ◌∙◌, arith}
use Rattle.std.proofs.lemmas.List.{length-map}
use Rattle.std.proofs.lemmas.Option.{slice_get_read}
use Rattle.cb_model.proofs.Numbers.{all_at}
use Rattle.cb_model.proofs.Spread.{map_there}
use Rattle.cb_breadth.specs.declared.visit.Visit.{Visit}
use Rattle.cb_chains.specs.Trees.{chain_at}
use Rattle.cb_chains.proofs.tree.ChainTree.write_chain.Goals as goal

pub write_back-requires-clause-fits : goal.write_back-requires-clause-fits
write_back-requires-clause-fits c =
    let visits = c.self.inside.visits.items in
    let ends = c.self.inside.ends.items in
    let long = length-map ends (chain_at visits) in
    let same = ap length c.self.view_is in
    let low : c.args.at < length ends = let at = c.requires.at in omega arith in
    let chain = slice_get_read ends (length ends) c.args.at c.index.result.now refl low c.index.ensures in
    let there = subst (λ (chains : List (List ℕ)). slice_get chains c.args.at ≡ Some (chain_at visits c.index.result.now)) c.self.view_is
    (map_there (chain_at visits) ends c.args.at c.index.result.now chain)
    in
    subst (λ (vs : List Visit). length (chain_at vs c.index.result.now) ≤ length c.args.path.now.items) (sym c.deref.ensures.value)
    (all_at (λ (l : List ℕ). length l ≤ length c.args.path.now.items) c.args.self.now c.args.at (chain_at visits c.index.result.now) there c.requires.fits)

pub returns-clause-chain : goal.returns-clause-chain
returns-clause-chain c =
    let visits = c.self.inside.visits.items in
    let ends = c.self.inside.ends.items in
    let long = length-map ends (chain_at visits) in
    let same = ap length c.self.view_is in
    let low : c.args.at < length ends = let at = c.requires.at in omega arith in
    let chain = slice_get_read ends (length ends) c.args.at c.index.result.now refl low c.index.ensures in
    let there = subst (λ (chains : List (List ℕ)). slice_get chains c.args.at ≡ Some (chain_at visits c.index.result.now)) c.self.view_is
    (map_there (chain_at visits) ends c.args.at c.index.result.now chain)
    in
    there ∙ ap Some (ap (λ (vs : List Visit). chain_at vs c.index.result.now) (sym c.deref.ensures.value) ∙ sym c.write_back.ensures.chain)
