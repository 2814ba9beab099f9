use Rattle.std.proofs.Common.{◌+◌, ◌-◌, length, take, drop, ap, ◌∙◌, arith}
use Rattle.std.proofs.lemmas.List.{get_or_default}
use Rattle.cb_codes.specs.Codes.{Coded}
use Rattle.cb_codes.specs.Holders.{holders_of}
use Rattle.cb_codes.proofs.ByColumn.{are_there, entry_after, list_end, list_within, list_is}
use Rattle.cb_codes.proofs.codes.Codes.holders.Goals as goal

pub slice_bounds-result-count : goal.slice_bounds-result-count
slice_bounds-result-count c =
    let inside = c.self.inside in
    let starts = inside.holders.starts.items in
    let are = are_there inside.rows.items inside.width inside.holders c.self.invariant.1 (grind (arith, c.is_empty.ensures, c.if-is_empty.false)) in
    let after = entry_after inside.rows.items inside.width inside.holders are c.args.column c.if-self-column.false in
    let start = c.index.ensures ∙ get_or_default starts c.args.column c.index.result.now 0 (omega arith) in
    let end = c.index-2.ensures ∙ get_or_default starts (c.args.column + 1) c.index-2.result.now 0 after in
    let long = list_end inside.rows.items inside.width inside.holders are c.args.column c.if-self-column.false in
    omega arith

pub slice_bounds-result-start : goal.slice_bounds-result-start
slice_bounds-result-start c =
    let inside = c.self.inside in
    let starts = inside.holders.starts.items in
    let are = are_there inside.rows.items inside.width inside.holders c.self.invariant.1 (grind (arith, c.is_empty.ensures, c.if-is_empty.false)) in
    let after = entry_after inside.rows.items inside.width inside.holders are c.args.column c.if-self-column.false in
    let end = c.index-2.ensures ∙ get_or_default starts (c.args.column + 1) c.index-2.result.now 0 after in
    let within = list_within inside.rows.items inside.width inside.holders are c.args.column c.if-self-column.false in
    let low = slice_bounds-result-count c in
    let size = c.deref.ensures.value in
    let same = ap length size in
    omega arith

pub slice_bounds-result-end : goal.slice_bounds-result-end
slice_bounds-result-end c =
    let inside = c.self.inside in
    let starts = inside.holders.starts.items in
    let are = are_there inside.rows.items inside.width inside.holders c.self.invariant.1 (grind (arith, c.is_empty.ensures, c.if-is_empty.false)) in
    let after = entry_after inside.rows.items inside.width inside.holders are c.args.column c.if-self-column.false in
    let end = c.index-2.ensures ∙ get_or_default starts (c.args.column + 1) c.index-2.result.now 0 after in
    let within = list_within inside.rows.items inside.width inside.holders are c.args.column c.if-self-column.false in
    let low = slice_bounds-result-count c in
    let size = c.deref.ensures.value in
    let same = ap length size in
    omega arith

pub returns : goal.returns
returns c =
    let inside = c.self.inside in
    let starts = inside.holders.starts.items in
    let are = are_there inside.rows.items inside.width inside.holders c.self.invariant.1 (grind (arith, c.is_empty.ensures, c.if-is_empty.false)) in
    let after = entry_after inside.rows.items inside.width inside.holders are c.args.column c.if-self-column.false in
    let start = c.index.ensures ∙ get_or_default starts c.args.column c.index.result.now 0 (omega arith) in
    let end = c.index-2.ensures ∙ get_or_default starts (c.args.column + 1) c.index-2.result.now 0 after in
    let long = list_end inside.rows.items inside.width inside.holders are c.args.column c.if-self-column.false in
    let is = list_is inside.rows.items inside.width inside.holders are c.args.column c.if-self-column.false (c.index-2.result.now - c.index.result.now) (omega arith) in
    ap (λ places. take (c.index-2.result.now - c.index.result.now) (drop c.index.result.now places)) c.deref.ensures.value
    ∙ ap (λ k. take (c.index-2.result.now - c.index.result.now) (drop k inside.holders.places.items)) start
    ∙ is ∙ ap (λ (v : Coded). holders_of v.rows c.args.column) c.self.view_is
