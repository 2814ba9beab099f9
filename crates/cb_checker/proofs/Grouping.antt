-- Problems that are read off spans, in the groups of their codes.
use Rattle.std.proofs.Common.{◌≡◌, suc, ℕ, ◌+◌, List, [], ◌∷◌, ◌++◌, Bool, length, take, refl, sym, ap, subst, ◌∙◌, Some, arith}
use Rattle.std.specs.Prelude.{slice_get, Result, Ok, Err, OnOk}
use Rattle.std.proofs.lemmas.List.{take_all}
use Rattle.cb_coding.specs.declared.group.Problem.{Problem}
use Rattle.cb_coding.specs.Groups.{AreCodedProblems, zeros}
use Rattle.cb_codes.specs.declared.grouping.Grouping.{Grouping}
use Rattle.cb_codes.specs.Groups.{Grouped}
use Rattle.cb_codes.specs.Grouped.{group, AddsProblem, FitsTogether, groups_in}
use Rattle.cb_codes.proofs.Grouped.{AreGrouped, quiet_grouped, one_more_grouped, all_grouped}
use Rattle.cb_cert.specs.declared.certificate.Span.{Span}
use Rattle.cb_nodes.specs.declared.id.NodeId.{NodeId}
use Rattle.cb_topo.specs.Numbered.{Numbered}
use Rattle.cb_checker.specs.Books.{IsCodedBy, IsReadOff, AreReadTo, AddsCoded, AreGroupsReadTo}
use Rattle.cb_checker.proofs.Spanning.{none_read, read_more}

-- a list that begins with a prefix and an item
begins : {X : Type 0} (all xs : List X) (x : X) → take (suc (length xs)) all ≡ xs ++ x ∷ [] → (take (length xs) all ≡ xs) × (slice_get all (length xs) ≡ Some x)
begins [] [] x e = absurd (cc e)
begins (a ∷ all) [] x e = (refl, cc e)
begins [] (y ∷ xs) x e = absurd (cc e)
begins (a ∷ all) (y ∷ xs) x e =
    let head : a ≡ y = cc e in
    let tail : take (suc (length xs)) all ≡ xs ++ x ∷ [] = cc e in
    let rest = begins all xs x tail in
    (ap (λ zs. a ∷ zs) rest.0 ∙ ap (λ z. z ∷ xs) head, rest.1)

-- a problem with the code that a row makes is added, unless memory runs out
pub adds_coded : {X E : Type 0} (n : Numbered) (columns : List NodeId) (id : NodeId) (listed : List Bool) (old new : Grouping) (p : Problem) (result : Result X E)
    → IsCodedBy n columns id listed p → OnOk result (AddsProblem p (groups_in old) (groups_in new)) → OnOk result (FitsTogether (length p.code) new)
    → OnOk result (AddsCoded n columns id listed old new)
adds_coded n columns id listed old new p (Ok done) coded adds sound = record {
  problem = p;
  coded = coded;
  adds = adds;
  sound = subst (λ width. FitsTogether width new) coded.code.width sound;
}
adds_coded n columns id listed old new p (Err why) coded adds sound = tt

module _ (n : Numbered) (ids problems columns : List NodeId) (spans : List Span) where
  -- the groups of the first problems, whatever problems come after them
  pub record AreHeldTo (to : ℕ) (grouping : Grouping) : Type 0 where
    pub coded : List Problem
    pub read : AreReadTo n ids problems columns spans to coded
    pub sound : FitsTogether (length columns) grouping
    pub groups : (all : List Problem) → AreCodedProblems (length columns) all → take to all ≡ coded → AreGrouped (length columns) all to (groups_in grouping)

  pub none_held : (grouping : Grouping) → FitsTogether (length columns) grouping → groups_in grouping ≡ group (zeros (length columns)) [] ∷ [] → AreHeldTo 0 grouping
  none_held grouping sound quiet = record {
    coded = [];
    read = none_read n ids problems columns spans;
    sound = sound;
    groups = λ all are same. subst (AreGrouped (length columns) all 0) (sym quiet) (quiet_grouped (length columns) all);
  }

  pub one_more_held : (to : ℕ) (old new : Grouping) (id : NodeId) (span : Span) (listed : List Bool) (adds : AddsCoded n columns id listed old new)
      → AreHeldTo to old → slice_get problems to ≡ Some id → slice_get spans to ≡ Some span → IsReadOff n ids columns id span adds.problem → AreHeldTo (to + 1) new
  one_more_held to old new id span listed adds held at_id at_span is =
      let p = adds.problem in
      record {
        coded = held.coded ++ p ∷ [];
        read = read_more n ids problems columns spans to held.coded p id span held.read at_id at_span is;
        sound = adds.sound;
        groups = λ all are same.
            let size = held.read.count in
            let next : suc (length held.coded) ≡ to + 1 = omega arith in
            let parts = begins all held.coded p (ap (λ k. take k all) next ∙ same) in
            one_more_grouped (length columns) all are to p (subst (λ k. slice_get all k ≡ Some p) size parts.1) (groups_in old) (groups_in new)
            (held.groups all are (subst (λ k. take k all ≡ held.coded) size parts.0)) adds.adds;
      }

  pub all_held : (to : ℕ) (grouping : Grouping) (made : Grouped) → AreHeldTo to grouping → made.width ≡ grouping.codes.codes.width → made.groups ≡ groups_in grouping
      → AreGroupsReadTo n ids problems columns spans to made
  all_held to grouping made held width is =
      let count = held.read.count in
      let same : take to held.coded ≡ held.coded = take_all to held.coded (omega arith) in
      record {
        coded = held.coded;
        read = held.read;
        wide = width ∙ held.sound.wide;
        are = λ are. rw is (all_grouped (length columns) held.coded to (omega arith) (groups_in grouping) (held.groups held.coded are same));
        few = λ are. (let few = (held.groups held.coded are same).few in let e = ap length is in omega arith);
      }
