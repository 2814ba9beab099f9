use Rattle.std.proofs.Common.{◌≡◌, ◌++◌, ◌∷◌, [], ℕ, slice_get, Some, sym, subst, ◌∙◌}
use Rattle.std.specs.List.{AllZip}
use Rattle.cb_model.proofs.Numbers.{zip_push}
use Rattle.cb_coding.specs.declared.group.Problem.{Problem}
use Rattle.cb_codes.specs.Grouped.{problem_of}
use Rattle.cb_codes.proofs.Added.{is_added, still_fit, place_low, zip_weaker, stands_there, stays_there}
use Rattle.cb_codes.proofs.grouping.Grouping.add.Goals as goal

pub take_member-requires : goal.take_member-requires
take_member-requires c =
    place_low c.args.code c.args.self.now.codes.codes.rows c.place_of.new.self.codes.rows c.args.self.now.named.items c.in_ok-place.place c.requires.sound.fit
    c.in_ok-place.ensures.place

pub returns-clause-sound : goal.returns-clause-sound
returns-clause-sound c =
    let old = c.args.self.now in
    let groups = c.take_member.new.named.items in
    record {
      wide = c.in_ok-place.ensures.width ∙ c.requires.sound.wide;
      marks = c.in_ok-place.ensures.marks;
      fit = still_fit (problem_of c.args.name c.args.code) old.codes.codes.rows c.place_of.new.self.codes.rows old.named.items groups c.requires.sound.fit c.in_ok-place.place
          c.in_ok-place.ensures.place c.in_ok-take_member.ensures;
    }

pub returns-clause-added : goal.returns-clause-added
returns-clause-added c =
    let old = c.args.self.now in
    let groups = c.take_member.new.named.items in
    is_added (problem_of c.args.name c.args.code) old.codes.codes.rows c.place_of.new.self.codes.rows old.named.items groups c.requires.sound.fit c.in_ok-place.place c.in_ok-place.ensures.place c.in_ok-take_member.ensures

pub returns-clause-holds : goal.returns-clause-holds
returns-clause-holds c = λ before held.
    let old = c.args.self.now in
    let p = problem_of c.args.name c.args.code in
    let place = c.in_ok-place.place in
    let codes = c.place_of.new.self.codes.rows in
    let finds = c.in_ok-place.ensures.place in
    let Stands : ℕ → Problem → Type 0 = λ k q. slice_get codes k ≡ Some q.code in
    let stay = zip_weaker (λ k (q : Problem). slice_get old.codes.codes.rows k ≡ Some q.code) Stands
    (λ k q at. stays_there p.code old.codes.codes.rows codes place finds k q.code at) old.places before held in
    subst (λ places. AllZip Stands places (before ++ p ∷ [])) (sym c.in_ok-push.ensures.ok)
    (zip_push Stands old.places before place p stay (stands_there p.code old.codes.codes.rows codes place finds))
