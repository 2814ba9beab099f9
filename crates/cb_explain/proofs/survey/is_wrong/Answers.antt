use Rattle.std.proofs.Common.{length, refl, sym, ap, subst, ◌∙◌, Some, true, false, IsTrue, arith}
use Rattle.std.proofs.lemmas.Bool.{false≢true}
use Rattle.std.proofs.lemmas.Option.{slice_get_read, slice_get_within}
use Rattle.cb_graph.specs.Edges.{number}
use Rattle.cb_explain.specs.declared.survey.SuccessorFault.{SuccessorFault}
use Rattle.cb_explain.specs.Surveyed.{IsWrongAt}
use Rattle.cb_explain.proofs.Listing.{none_there}
use Rattle.cb_explain.proofs.Lacking.{far_is}
use Rattle.cb_explain.proofs.survey.is_wrong.Goals as goal

pub at-requires : goal.at-requires
at-requires c =
    let nodes = c.args.listed.now.nodes.items in
    let positions = c.args.listed.now.positions.items in
    let node = c.args.node in
    let at = slice_get_read positions (length positions) node c.index.result.now refl c.requires.node c.index.ensures ∙ ap Some c.in-Some.is in
    let low = slice_get_within nodes c.in-Some.position (number node) (c.requires.table.only node c.in-Some.position at) in
    let within = c.requires.within in
    omega arith

pub returns-in-Unlisted : goal.returns-in-Unlisted
returns-in-Unlisted c =
    let nodes = c.args.listed.now.nodes.items in
    let positions = c.args.listed.now.positions.items in
    let node = c.args.node in
    let at = slice_get_read positions (length positions) node c.index.result.now refl c.requires.node c.index.ensures ∙ ap Some c.in-None.is in
    let P = λ (w : SuccessorFault). IsWrongAt c.args.levels.now nodes c.args.level w node in
    subst (λ (w : SuccessorFault). (IsTrue true → P w) × (P w → IsTrue true)) (sym c.in-Unlisted.is) (λ yes. none_there nodes positions c.requires.table node at, λ wrong. refl)

pub returns-in-Far : goal.returns-in-Far
returns-in-Far c =
    let nodes = c.args.listed.now.nodes.items in
    let positions = c.args.listed.now.positions.items in
    let node = c.args.node in
    let at = slice_get_read positions (length positions) node c.index.result.now refl c.requires.node c.index.ensures ∙ ap Some c.in-None.is in
    let P = λ (w : SuccessorFault). IsWrongAt c.args.levels.now nodes c.args.level w node in
    subst (λ (w : SuccessorFault). (IsTrue false → P w) × (P w → IsTrue false)) (sym c.in-Far.is)
    (λ yes. absurd (false≢true yes), λ far. absurd (none_there nodes positions c.requires.table node at far.position far.id_is))

pub returns-in-Unlisted-fault : goal.returns-in-Unlisted-fault
returns-in-Unlisted-fault c =
    let nodes = c.args.listed.now.nodes.items in
    let positions = c.args.listed.now.positions.items in
    let node = c.args.node in
    let at = slice_get_read positions (length positions) node c.index.result.now refl c.requires.node c.index.ensures ∙ ap Some c.in-Some.is in
    let P = λ (w : SuccessorFault). IsWrongAt c.args.levels.now nodes c.args.level w node in
    subst (λ (w : SuccessorFault). (IsTrue false → P w) × (P w → IsTrue false)) (sym c.in-Unlisted-fault.is)
    (λ yes. absurd (false≢true yes), λ none. absurd (none c.in-Some.position (c.requires.table.only node c.in-Some.position at)))

pub returns-in-Far-fault : goal.returns-in-Far-fault
returns-in-Far-fault c =
    let nodes = c.args.listed.now.nodes.items in
    let positions = c.args.listed.now.positions.items in
    let node = c.args.node in
    let at = slice_get_read positions (length positions) node c.index.result.now refl c.requires.node c.index.ensures ∙ ap Some c.in-Some.is in
    let is = far_is c.args.levels.now nodes positions c.requires.table c.args.level node c.in-Some.position at c.at.result.now c.at.ensures in
    let P = λ (w : SuccessorFault). IsWrongAt c.args.levels.now nodes c.args.level w node in
    subst (λ (w : SuccessorFault). (IsTrue c.is_far.result → P w) × (P w → IsTrue c.is_far.result)) (sym c.in-Far-fault.is)
    (λ yes. is.0 (c.is_far.ensures.0 yes), λ far. c.is_far.ensures.1 (is.1 far))
