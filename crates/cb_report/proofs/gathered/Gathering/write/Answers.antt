use Rattle.std.proofs.Common.{◌≡◌, ◌++◌, List, ℕ, Bool, [], false, ap, subst, sym, ◌∙◌}
use Rattle.cb_report.specs.Gathered.{Gathered, WritesOn}
use Rattle.cb_report.proofs.Gathers.{gathers_more, written_now}
use Rattle.cb_report.proofs.gathered.Gathering.write.Goals as goal

pub returns-then-not-self : goal.returns-then-not-self
returns-then-not-self g c =
    let inside = c.self.inside in
    let flushed = g.O.Sink.tells c.flush.new.out in
    let written = g.O.Sink.tells c.write_all.new.sink in
    let waiting : List ℕ = inside.waiting.items in
    let bytes : List ℕ = c.args.bytes.now in
    let failed : Bool = c.is_err-self-inside.result in
    let no_fault : c.flush.new.self.failed ≡ false = ap (λ (t : Gathered). t.failed) (sym c.self.view_is) ∙ c.if-not-self.true in
    let no_bytes : waiting ≡ [] = ap (λ (t : Gathered). t.waiting) c.self.view_is ∙ c.flush.ensures.none no_fault in
    let now = written_now c.write_all.result flushed written waiting bytes no_bytes c.write_all.ensures.all c.write_all.ensures.prefix
    c.write_all.ensures.counts c.write_all.ensures.failed
    in
    gathers_more (g.O.Sink.tells c.args.out.now) flushed written c.args.self.now c.flush.new.self (record { waiting = waiting; failed = failed }) [] bytes
    c.flush.ensures.written
    (subst (λ (t : Gathered). WritesOn t.failed failed flushed written (t.waiting ++ bytes) waiting) c.self.view_is
    (subst (λ (f : Bool). WritesOn f failed flushed written (waiting ++ bytes) waiting) (sym c.if-not-self.true)
    (subst (λ (e : Bool). WritesOn false e flushed written (waiting ++ bytes) waiting) (sym c.is_err-self-inside.ensures.value) now)))
