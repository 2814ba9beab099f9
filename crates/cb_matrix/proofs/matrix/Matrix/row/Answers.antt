use Rattle.std.proofs.Common.{◌≡◌, List, Bool, length, slice_get, Some, ap, subst, arith}
use Rattle.std.proofs.lemmas.Option.{slice_get_within, get_or_from_slice_get}
use Rattle.std.proofs.lemmas.List.{length-map}
use Rattle.cb_coding.specs.declared.group.Group.{Group}
use Rattle.cb_coding.specs.Groups.{codes_of}
use Rattle.cb_matrix.specs.Parts.{Parts}
use Rattle.cb_matrix.proofs.Rows.{code_there}
use Rattle.cb_matrix.proofs.matrix.Matrix.row.Goals as goal

pub at-requires : goal.at-requires
at-requires c =
    let size = c.self.invariant.all in
    let same = ap (λ (p : Parts). length p.problems) c.self.view_is in
    let lt = c.requires in
    omega arith

pub row-requires : goal.row-requires
row-requires c =
    let inside = c.self.inside in
    let i = c.args.problem in
    let place = c.at.result.now in
    let low = c.self.invariant.within i place (slice_get_within inside.places i place c.at.ensures) in
    let is = get_or_from_slice_get inside.places i place place c.at.ensures in
    let size = ap length c.codes.ensures.rows in
    let all = length-map inside.groups.groups (λ (g : Group). g.code) in
    omega arith

pub returns : goal.returns
returns c =
    let inside = c.self.inside in
    subst (λ (p : Parts). slice_get p.codes c.args.problem ≡ Some c.row.result.now) c.self.view_is
    (code_there (codes_of inside.groups.groups) inside.places c.args.problem c.at.result.now c.row.result.now c.at.ensures
    (subst (λ (codes : List (List Bool)). slice_get codes c.at.result.now ≡ Some c.row.result.now) c.codes.ensures.rows c.row.ensures))
