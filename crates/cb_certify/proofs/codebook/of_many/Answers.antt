use Rattle.std.proofs.Common.{IfOk, length, sym, subst}
use Rattle.cb_model.specs.declared.wish.Wish.{Wish}
use Rattle.cb_model.specs.declared.wish.Wish.TheVariants.{Cap}
use Rattle.cb_coding.specs.Groups.{codes_of}
use Rattle.cb_coding.proofs.RadiusLaws.{cap_is_met}
use Rattle.cb_topo.specs.Numbered.{topology_of}
use Rattle.cb_validity.specs.Codebooks.{HasCodebook}
use Rattle.cb_certify.specs.Made.{IsMadeOf}
use Rattle.cb_certify.proofs.codebook.of_many.Goals as goal

pub returns-in-Plain : goal.returns-in-Plain
returns-in-Plain g c =
    subst (λ (wish : Wish). IfOk c.by_searches.result (IsMadeOf (topology_of c.args.graph) wish)) (sym c.in-Plain.is) c.by_searches.ensures

-- for a cap there is a codebook
pub returns-in-Cap : goal.returns-in-Cap
returns-in-Cap g c =
    let cap = c.in-Cap.field-0 in
    let met : HasCodebook (topology_of c.args.graph) (Cap cap) = λ columns groups matrix. cap_is_met (length columns) (codes_of groups) cap in
    (subst (HasCodebook (topology_of c.args.graph)) (sym c.in-Cap.is) met, c.requires.many)
