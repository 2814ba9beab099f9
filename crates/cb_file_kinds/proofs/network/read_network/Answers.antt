-- What each way out of reading a network shows.
use Rattle.std.proofs.Common.{[], ◌∷◌, refl, subst}
use Rattle.cb_outcome.specs.Roles.{Role}
use Rattle.cb_outcome.specs.Judged.{Known, nothing}
use Rattle.cb_file_kinds.specs.Ending.{Passed, network_files}
use Rattle.cb_file_kinds.proofs.Chain.{passed_none, passed_next, stops_there, err_is, if_ok_more, if_err_more}
use Rattle.cb_file_kinds.proofs.network.read_network.Goals as goal

pub returns-in_err-model-clause-stops : goal.returns-in_err-model-clause-stops
returns-in_err-model-clause-stops g c =
    let old = g.F.Files.tells c.args.files.now in
    let one = g.F.Files.tells c.read_as.new.files in
    let m = c.args.model in
    let t = c.args.topology in
    rw (err_is _ _ c.from_residual.ensures.1)
    (λ request later is. stops_there [] Role.model m nothing old old one (passed_none old) c.in_err-model.ensures.only request ((Role.topology, t) ∷ later) is
    _ _ refl c.in_err-model.ensures.stops)

pub returns-clause-passed : goal.returns-clause-passed
returns-clause-passed g c =
    let old = g.F.Files.tells c.args.files.now in
    let one = g.F.Files.tells c.read_as.new.files in
    let two = g.F.Files.tells c.read_as-2.new.files in
    let m = c.args.model in
    let t = c.args.topology in
    let first = c.in_ok-model.ensures.value in
    let (tree, tree_is, first_says) = first.says nothing refl in
    let after_model = passed_next [] Role.model m nothing old old one (passed_none old) c.in_ok-model.ensures.only first.text tree first.read first_says in
    if_ok_more c.read_as-2.result _ _ (λ made second.
    let (net, net_is, second_says) = second.says tree tree_is in
    subst (λ (known : Known). Passed (network_files m t) known old two) net_is
    (passed_next ((Role.model, m) ∷ []) Role.topology t tree old one two after_model c.read_as-2.ensures.only second.text net second.read second_says))
    c.read_as-2.ensures.value

pub returns-clause-stops : goal.returns-clause-stops
returns-clause-stops g c =
    let old = g.F.Files.tells c.args.files.now in
    let one = g.F.Files.tells c.read_as.new.files in
    let two = g.F.Files.tells c.read_as-2.new.files in
    let m = c.args.model in
    let t = c.args.topology in
    let first = c.in_ok-model.ensures.value in
    let (tree, tree_is, first_says) = first.says nothing refl in
    let after_model = passed_next [] Role.model m nothing old old one (passed_none old) c.in_ok-model.ensures.only first.text tree first.read first_says in
    if_err_more c.read_as-2.result _ _ (λ fault stops request later is.
    stops_there ((Role.model, m) ∷ []) Role.topology t tree old one two after_model c.read_as-2.ensures.only request later is _ fault tree_is stops)
    c.read_as-2.ensures.stops
