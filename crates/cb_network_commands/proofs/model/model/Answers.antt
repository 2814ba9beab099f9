-- What each way out of `model` shows.
use Rattle.std.proofs.Common.{List, ℕ, [], ◌∷◌, refl, ap, inl, subst}
use Rattle.cb_outcome.specs.Roles.{Role}
use Rattle.cb_outcome.specs.Commands.Model.{model}
use Rattle.cb_outcome.specs.Command.{reads_of}
use Rattle.cb_report.specs.declared.fault.Fault.TheVariants.{Memory}
use Rattle.cb_outcome.specs.Outcome.{done}
use Rattle.cb_outcome.specs.Judged.{Known, nothing, parsed, PassFrom}
use Rattle.cb_outcome.specs.Contents.{files_from}
use Rattle.cb_outcome.specs.Reading.{WhereReported}
use Rattle.cb_file_kinds.proofs.Chain.{passed_none, passed_next, stops_there, err_is, reads_all}
use Rattle.cb_network_commands.proofs.model.model.Goals as goal

pub returns-in_err-tree : goal.returns-in_err-tree
returns-in_err-tree g c =
    let old = g.F.Files.tells c.args.files.now in
    let new = g.F.Files.tells c.read_as.new.files in
    rw (err_is _ _ c.from_residual.ensures.1)
    (stops_there [] Role.model c.args.model nothing old old new (passed_none old) c.in_err-tree.ensures.only (reads_of (model c.args.model)) [] refl _ _ refl c.in_err-tree.ensures.stops)

pub returns-in_err-print : goal.returns-in_err-print
returns-in_err-print g c =
    let old = g.F.Files.tells c.args.files.now in
    let new = g.F.Files.tells c.read_as.new.files in
    let said = c.in_ok-tree.ensures.value in
    let (known, is, says) = said.says nothing refl in
    let passed = passed_next [] Role.model c.args.model nothing old old new (passed_none old) c.in_ok-tree.ensures.only said.text known said.read says in
    rw (err_is c.from_residual-in_err-print.result Memory c.from_residual-in_err-print.ensures.1)
    (inl (record { is = refl; whole = 1; read = reads_all old new (c.args.model ∷ []) passed.read }))

pub returns : goal.returns
returns g c =
    let old = g.F.Files.tells c.args.files.now in
    let new = g.F.Files.tells c.read_as.new.files in
    let said = c.in_ok-tree.ensures.value in
    let (known, is, says) = said.says nothing refl in
    let passed = passed_next [] Role.model c.args.model nothing old old new (passed_none old) c.in_ok-tree.ensures.only said.text known said.read says in
    record {
      known = parsed c.in_ok-tree.tree;
      said = subst (λ (k : Known). WhereReported old (λ left. PassFrom nothing (files_from left (reads_of (model c.args.model))) k)) is passed.said;
      gives = λ left whole. ap (λ (bytes : List ℕ). done bytes whole) c.in_ok-print.ensures;
      read = passed.read;
      alone = refl;
    }
