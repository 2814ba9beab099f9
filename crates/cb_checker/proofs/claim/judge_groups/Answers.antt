use Rattle.std.proofs.Common.{◌≡◌, subst, None}
use Rattle.cb_coding.specs.Groups.{codes_of}
use Rattle.cb_coding.specs.Needs.{need_of}
use Rattle.cb_distance.specs.Close.{IsFirstShortIfAny}
use Rattle.cb_checker.proofs.claim.judge_groups.Goals as goal

pub returns : goal.returns
returns c =
    let groups = c.args.groups.now in
    let codes = codes_of groups.groups in
    let places = c.in_ok-places.places.items in
    let is = c.in_default.is in
    let none : c.in_ok-close.close ≡ None = cc in
    record {
      places = places;
      places_are = c.in_ok-places.ensures;
      good = subst (IsFirstShortIfAny places codes (need_of groups.width codes c.args.wish)) none
          (subst (λ ps. IsFirstShortIfAny ps codes (need_of groups.width codes c.args.wish) c.in_ok-close.close) c.deref.ensures.value c.in_ok-close.ensures);
    }
