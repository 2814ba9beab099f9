use Rattle.std.proofs.Common.{◌≡◌, ◌+◌, true, false, slice_index_or, sym, ◌∙◌, arith}
use Rattle.cb_compact.proofs.Cursors.{cursor_is, stays, tells, one_passed, few_passed, only_there}
use Rattle.cb_compact.proofs.cursor.Cursor.pass.Goals as goal

pub overflow_add-self : goal.overflow_add-self
overflow_add-self c =
    let row = c.args.row.now in
    let place = c.args.place in
    let next = c.args.self.now.next in
    let is : slice_index_or row place false ≡ true = sym (tells row place next c.requires.cursor) ∙ sym c.stands_at-is.ensures ∙ c.if-is.true in
    let few = few_passed row place c.args.self.now.before c.requires.passed is in
    let long = c.len-len.ensures in
    omega arith

pub one_after-self-requires : goal.one_after-self-requires
one_after-self-requires c =
    let row = c.args.row.now in
    let place = c.args.place in
    let next = c.args.self.now.next in
    one_passed row place c.args.self.now.before c.requires.passed (sym (tells row place next c.requires.cursor) ∙ sym c.stands_at-is.ensures ∙ c.if-is.true)

pub returns-then-is-clause-cursor : goal.returns-then-is-clause-cursor
returns-then-is-clause-cursor c =
    let row = c.args.row.now in
    let place = c.args.place in
    let next = c.args.self.now.next in
    record {
      cursor = cursor_is row (place + 1) c.one_after-self.result c.one_after-self.ensures.next c.one_after-self.ensures.none;
      passed = one_passed row place c.args.self.now.before c.requires.passed (sym (tells row place next c.requires.cursor) ∙ sym c.stands_at-is.ensures ∙ c.if-is.true);
    }

pub returns-else-is-clause-cursor : goal.returns-else-is-clause-cursor
returns-else-is-clause-cursor c =
    let row = c.args.row.now in
    let place = c.args.place in
    let next = c.args.self.now.next in
    let isnt : slice_index_or row place false ≡ false = sym (tells row place next c.requires.cursor) ∙ sym c.stands_at-is.ensures ∙ c.if-is.false in
    stays row place (place + 1) c.args.self.now.before next (omega arith) (only_there row place isnt) c.requires
