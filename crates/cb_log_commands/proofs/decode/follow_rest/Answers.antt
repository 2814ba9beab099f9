use Rattle.std.proofs.Common.{List, ℕ, sym, subst, ◌∙◌}
use Rattle.cb_io.specs.Outside.{WritesPrefix}
use Rattle.cb_log_commands.proofs.Opening.{cannot_open, where_failed}
use Rattle.cb_log_commands.proofs.decode.follow_rest.Goals as goal

pub returns-then-is_err : goal.returns-then-is_err
returns-then-is_err g c =
    λ watch opens.
    let out = g.O.Sink.tells c.args.out.now in
    let out' = g.O.Sink.tells c.write_all.new.sink in
    cannot_open watch c.args.log (g.F.Files.tells c.args.files.now) out out'
    (subst (λ (bytes : List ℕ). WritesPrefix out out' bytes) opens.opening_is c.write_all.ensures.prefix)
    (where_failed c.write_all.result _ c.write_all.ensures.failed (sym c.is_err.ensures.value ∙ c.if-is_err.true))
