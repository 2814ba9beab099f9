use Rattle.std.proofs.Common.{◌≡◌, ◌∙◌, subst}
use Rattle.cb_log.specs.Kept.{Kept}
use Rattle.cb_window.specs.Kept.{GainsIn, OpensIn, LooksSame, IsOpenStill, PutsNode}
use Rattle.cb_window.proofs.Seen.{kept_of}
use Rattle.cb_window.proofs.Raising.{on_ok_to, on_err_to, puts_into, puts_first, looks_same}
use Rattle.cb_window.proofs.windows.Windows.put_node.Goals as goal

pub returns-then-is_open_still-clause-put : goal.returns-then-is_open_still-clause-put
returns-then-is_open_still-clause-put c =
    let w = c.self.inside.length in
    let now = c.self.inside.time in
    let still = c.is_open_still.ensures.0 c.if-is_open_still.true in
    on_ok_to (GainsIn c.self.inside.live c.add_node.new.live c.args.from.now c.args.node.now)
    (PutsNode c.args.self.now (kept_of w now c.add_node.new.live) c.args.time c.args.from.now c.args.node.now) c.add_node.result
    (λ gains. subst (λ (k : Kept). PutsNode k (kept_of w now c.add_node.new.live) c.args.time c.args.from.now c.args.node.now) c.self.view_is
    (puts_into w now c.args.time c.self.inside.live c.add_node.new.live c.args.from.now c.args.node.now still gains))
    c.add_node.ensures.gains

pub returns-then-is_open_still-clause-same : goal.returns-then-is_open_still-clause-same
returns-then-is_open_still-clause-same c =
    let w = c.self.inside.length in
    let now = c.self.inside.time in
    on_err_to (LooksSame c.self.inside.live c.add_node.new.live) (kept_of w now c.add_node.new.live ≡ c.args.self.now) c.add_node.result
    (λ looks. looks_same w now c.args.time c.self.inside.live c.add_node.new.live c.args.from.now c.args.node.now looks ∙ c.self.view_is)
    c.add_node.ensures.same

pub returns-else-is_open_still-clause-put : goal.returns-else-is_open_still-clause-put
returns-else-is_open_still-clause-put c =
    let w = c.self.inside.length in
    let now = c.self.inside.time in
    let over : IsOpenStill c.self.inside.live c.args.from.now w c.args.time → ⊥ = λ still.
    let says = c.is_open_still.ensures.1 still in let says_not = c.if-is_open_still.false in absurd (cc)
    in
    on_ok_to (OpensIn c.self.inside.live c.open_window.new.live c.args.from.now c.args.time c.args.node.now)
    (PutsNode c.args.self.now (kept_of w now c.open_window.new.live) c.args.time c.args.from.now c.args.node.now) c.open_window.result
    (λ opens. subst (λ (k : Kept). PutsNode k (kept_of w now c.open_window.new.live) c.args.time c.args.from.now c.args.node.now) c.self.view_is
    (puts_first w now c.args.time c.self.inside.live c.open_window.new.live c.args.from.now c.args.node.now over opens))
    c.open_window.ensures.opens
