use Rattle.std.proofs.Common.{◌↔◌, ℕ, List, subst, inl, inr}
use Rattle.std.specs.List.{AllZip}
use Rattle.cb_successors.specs.Rows.{Has}
use Rattle.cb_successors.proofs.Marks.{nothing}
use Rattle.cb_explain.specs.Levelled.{IsRankVisited, IsNumberedEntry}
use Rattle.cb_explain.proofs.Levelling.{levels_are}
use Rattle.cb_explain.proofs.written.levels_by.Goals as goal

pub returns : goal.returns
returns c =
    let order = c.args.order.now in
    let visits = c.args.visits.now in
    let used = c.use_visits.new.used in
    let marked : (rank : ℕ) → Has used rank ↔ IsRankVisited visits rank = λ rank. (
      λ has. elim ((c.use_visits.ensures.used rank).0 has) [ inl had ↦ absurd (nothing _ rank (subst (λ row. Has row rank) c.in_ok-used.ensures had)) | inr visited ↦ visited ],
      λ visited. (c.use_visits.ensures.used rank).1 (inr visited),
    ) in
    let entries = c.in_ok-entries.entries in
    let zip = subst (λ (xs : List ℕ). AllZip (IsNumberedEntry xs) visits entries) c.deref.ensures.value c.in_ok-entries.ensures in
    levels_are c.args.topology.now order c.requires.order visits used c.in_ok-numbering.numbering entries c.requires.ranks marked c.in_ok-numbering.ensures zip
