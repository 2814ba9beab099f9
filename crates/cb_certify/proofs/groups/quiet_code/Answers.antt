use Rattle.std.proofs.Common.{List, Bool, [], ◌∷◌, ap, subst, ◌∙◌}
use Rattle.cb_codes.specs.EachOnce.{FindsPlace}
use Rattle.cb_codes.proofs.Added.{first_code}
use Rattle.cb_certify.proofs.groups.quiet_code.Goals as goal

pub returns : goal.returns
returns c =
    let code = c.in_ok-quiet.quiet in
    let rows = c.place_of.new.self.codes.rows in
    let place = c.in_ok-place_of.field-0 in
    record {
      width_is = c.in_ok-place_of.ensures.width ∙ c.new-codes.ensures.width;
      quiet = first_code code rows place (subst (λ (old : List (List Bool)). FindsPlace code old rows place) c.new-codes.ensures.none c.in_ok-place_of.ensures.place)
          ∙ ap (λ (v : List Bool). v ∷ []) (c.in_ok-quiet.ensures ∙ c.in_ok-zeroed.ensures);
      marks = c.in_ok-place_of.ensures.marks;
    }
