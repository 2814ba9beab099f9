use Rattle.std.proofs.Common.{arith, sym, ◌∙◌, refl, inl, inr, take, drop, length, ◌++◌, Some, Ok, ◌≡◌, subst}
use Rattle.cb_io.specs.declared.outside.FileStop.{FileStop}
use Rattle.cb_io.specs.Pairs.{look_up}
use Rattle.std.specs.Io.KnownBytes.{Keeps}
use Rattle.cb_io.specs.Outside.{left_of, ReadsBytes, KeepsOthers, NoCountFalls, ReadFailed}
use Rattle.cb_io.specs.Memory.{files_report, file_of}
use Rattle.cb_io.proofs.Pairs.{at_place, look_up-at, look_up-absent}
use Rattle.cb_io.proofs.Memory.{given, blamed, blamed-unknown, moved_none, KeepsOthers-with, NoCountFalls-with, Reads-after, Keeps-after_fault, NoCountFalls-after_fault, ReadFailed-after_fault}
use Rattle.cb_io.proofs.mem_files.MemFilesFiles.read.Goals as goal

-- ---- a name that wasn't added

pub returns-in_default-clause-err : goal.returns-in_default-clause-err
returns-in_default-clause-err c =
    let absent = look_up-absent c.self.inside.entries.items c.args.name.now
    (rw c.deref.ensures.value at (sym c.in_default.ensures)) in
    rw (← c.self.view_is, c.count-due.ensures.counted, c.saturating_add-self-inside.ensures)
    (blamed-unknown _ c.args.name.now absent)

pub returns-in_default-clause-failed : goal.returns-in_default-clause-failed
returns-in_default-clause-failed c =
    λ _. subst (λ state. ReadFailed (files_report c.args.self.now) (files_report state) c.args.name.now)
    (sym (returns-in_default-clause-err c)) (ReadFailed-after_fault c.args.self.now c.args.name.now)

pub returns-in_default-clause-fails : goal.returns-in_default-clause-fails
returns-in_default-clause-fails c =
    let absent = look_up-absent c.self.inside.entries.items c.args.name.now
    (rw c.deref.ensures.value at (sym c.in_default.ensures)) in
    (λ _. inr (rw (← c.self.view_is, absent) refl), λ _. refl)

-- ---- a call that is to fail

pub returns-then-due-clause-err : goal.returns-then-due-clause-err
returns-then-due-clause-err c =
    let at = at_place c.index_mut-entry.result.now
    (rw c.deref.ensures.value at (sym c.in-Some.ensures)) c.index_mut-entry.ensures.value in
    rw (← c.self.view_is, c.count-due.ensures.counted) (blamed _ at c.add_fault.new.self c.add_fault.ensures.counted)

pub returns-then-due-clause-bytes : goal.returns-then-due-clause-bytes
returns-then-due-clause-bytes c =
    subst (λ state. Keeps (left_of (files_report c.args.self.now) c.args.name.now)
    (left_of (files_report state) c.args.name.now)) (sym
    (returns-then-due-clause-err c)) (Keeps-after_fault c.args.self.now c.args.name.now c.args.name.now)

pub returns-then-due-clause-others : goal.returns-then-due-clause-others
returns-then-due-clause-others c =
    subst (λ state. KeepsOthers (files_report c.args.self.now) (files_report state) c.args.name.now)
    (sym (returns-then-due-clause-err c)) (λ other _. Keeps-after_fault c.args.self.now c.args.name.now other)

pub returns-then-due-clause-counts : goal.returns-then-due-clause-counts
returns-then-due-clause-counts c =
    let at = at_place c.index_mut-entry.result.now
    (rw c.deref.ensures.value at (sym c.in-Some.ensures)) c.index_mut-entry.ensures.value in
    let found : look_up c.args.self.now.files c.args.name.now ≡ Some c.index_mut-entry.result.now.1 = rw
    (← c.self.view_is) (look_up-at at) in
    subst (λ state. NoCountFalls (files_report c.args.self.now) (files_report state))
    (sym (returns-then-due-clause-err c))
    (NoCountFalls-after_fault c.args.self.now c.args.name.now _ found
    (rw c.add_fault.ensures.counted at c.add_fault.ensures.later))

pub returns-then-due-clause-failed : goal.returns-then-due-clause-failed
returns-then-due-clause-failed c =
    λ _. subst (λ state. ReadFailed (files_report c.args.self.now) (files_report state) c.args.name.now)
    (sym (returns-then-due-clause-err c)) (ReadFailed-after_fault c.args.self.now c.args.name.now)

-- ---- bytes that are moved

pub returns-clause-ok : goal.returns-clause-ok
returns-clause-ok c =
    let at = at_place c.index_mut-entry.result.now
    (rw c.deref.ensures.value at (sym c.in-Some.ensures)) c.index_mut-entry.ensures.value in
    rw (← c.self.view_is, c.count-due.ensures.counted) (given _ at c.take_bytes.new.self c.take_bytes.result c.take_bytes.ensures.left)

pub returns-clause-fails : goal.returns-clause-fails
returns-clause-fails c =
    let at = at_place c.index_mut-entry.result.now
    (rw c.deref.ensures.value at (sym c.in-Some.ensures)) c.index_mut-entry.ensures.value in
    rw (← c.self.view_is, look_up-at at) (
      λ e. cc (e),
      λ fails. elim fails [
        | inl due ↦ sym c.if-due.false
            ∙ c.count-due.ensures.due.1 due
        | inr absent ↦ sym absent
      ],
    )

pub returns-clause-count : goal.returns-clause-count
returns-clause-count c =
    let at = at_place c.index_mut-entry.result.now
    (rw c.deref.ensures.value at (sym c.in-Some.ensures)) c.index_mut-entry.ensures.value in
    rw (← c.self.view_is, look_up-at at) c.take_bytes.ensures.count

pub returns-clause-bytes : goal.returns-clause-bytes
returns-clause-bytes c =
    let at = at_place c.index_mut-entry.result.now
    (rw c.deref.ensures.value at (sym c.in-Some.ensures)) c.index_mut-entry.ensures.value in
    let moved : (file_of c.args.self.now c.args.name.now).left ≡ take c.take_bytes.result c.take_bytes.new.buf ++ drop c.take_bytes.result (file_of c.args.self.now c.args.name.now).left =
    rw (← c.self.view_is, look_up-at at) (rw c.take_bytes.ensures.left at c.take_bytes.ensures.given) in
    subst (λ state. ReadsBytes {E = FileStop} (files_report c.args.self.now) (files_report state) c.args.name.now
    (Ok c.take_bytes.result) c.take_bytes.new.buf) (sym (returns-clause-ok c))
    (Reads-after c.args.self.now c.args.name.now c.take_bytes.new.buf c.take_bytes.result moved
    (λ zero capacity. moved_none (file_of c.args.self.now c.args.name.now).left c.take_bytes.result c.args.self.now.piece
    (length c.args.buf.now) (returns-clause-count c) (rw (← c.self.view_is) c.self.invariant) c.requires zero))

pub returns-clause-others : goal.returns-clause-others
returns-clause-others c =
    subst (λ state. KeepsOthers (files_report c.args.self.now) (files_report state) c.args.name.now)
    (sym (returns-clause-ok c)) (KeepsOthers-with c.args.self.now c.args.name.now _)

pub returns-clause-counts : goal.returns-clause-counts
returns-clause-counts c =
    subst (λ state. NoCountFalls (files_report c.args.self.now) (files_report state)) (sym (returns-clause-ok c))
    (NoCountFalls-with c.args.self.now c.args.name.now _ (omega arith))
