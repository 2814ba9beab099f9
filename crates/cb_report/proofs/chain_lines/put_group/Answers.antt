use Rattle.std.proofs.Common.{◌++◌, codes, List, ℕ, subst}
use Rattle.std.specs.List.{flat_map}
use Rattle.cb_report.specs.Gathered.{Gathers}
use Rattle.cb_report.specs.Lines.{group_start, spaced_text}
use Rattle.cb_report.proofs.Gathers.{gathers_more}
use Rattle.cb_report.proofs.chain_lines.put_group.Goals as goal

pub returns : goal.returns
returns g c =
    let start = g.O.Sink.tells c.args.out.now in
    let begun = g.O.Sink.tells c.put.new.out in
    let listed = g.O.Sink.tells c.put_members.new.out in
    let old = c.args.gathering.now in
    let word = group_start c.args.group.now.quiet in
    let members = flat_map spaced_text c.args.group.now.members in
    let first = subst (λ (w : List ℕ). Gathers start begun old c.put.new.self w) c.start_of_group.ensures c.put.ensures in
    gathers_more start listed (g.O.Sink.tells c.put-2.new.out) old c.put_members.new.gathering c.put-2.new.self (word ++ members) (codes "\n")
    (gathers_more start begun listed old c.put.new.self c.put_members.new.gathering word members first c.put_members.ensures) c.put-2.ensures
