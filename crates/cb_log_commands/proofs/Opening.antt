-- What is left where the line that a log opens with isn't written.
use Rattle.std.proofs.Common.{◌≡◌, ◌∙◌, ◌≤◌, ◌+◌, ℕ, List, [], ◌++◌, length, refl, sym, ap, inl, arith, append-nil, Result, Ok, Err, is_err, true}
use Rattle.std.specs.Prelude.{Some, OnErr}
use Rattle.std.proofs.lemmas.List.{length-append}
use Rattle.cb_io.specs.Outside.{FilesReport, SinkReport, left_of, WritesPrefix, WriteFailed}
use Rattle.cb_report.specs.declared.fault.Fault.TheVariants as faults
use Rattle.cb_outcome.specs.LogJobs.{Watch}
use Rattle.cb_log_commands.specs.Following.{IsDueUpto, EndsLog}
use Rattle.cb_log_commands.proofs.Following.{reads_nothing, reported_by}

same_bytes : (a b : List ℕ) → Some a ≡ Some b → a ≡ b
same_bytes a b e = cc

-- where all is left, nothing was read
none_read : (log read rest : List ℕ) → log ≡ rest → log ≡ read ++ rest → length read ≤ 0 + 65536
none_read log read rest all log_is =
    let parts = ap length log_is in
    let sum = length-append read rest in
    let whole = ap length all in
    omega (arith, parts, sum, whole)

-- before the first line the opening alone is due
opening_is_due : (watch : Watch) (log : List ℕ) → IsDueUpto watch log 0 watch.opening
opening_is_due watch log = ([], ([], tt, refl), sym (append-nil watch.opening))

pub cannot_open : (watch : Watch) (name : List ℕ) (files : FilesReport) (out out' : SinkReport) → WritesPrefix out out' watch.opening → WriteFailed out out'
    → EndsLog watch name files files out out' (Some faults.WriteFault)
cannot_open watch name files out out' prefix failed = record {
  only = reads_nothing files name;
  wrong = failed;
  tells = reported_by (left_of files name) _ (λ log is. record {
    part = (
      watch.opening,
      inl (0, λ read rest log_is left_is. none_read log read rest (same_bytes log rest (sym is ∙ left_is)) log_is, opening_is_due watch log),
      prefix,
    );
    near = λ some upto read rest due written log_is left_is is_due all less.
        let parts = ap length log_is in
        let sum = length-append read rest in
        let whole = ap length (same_bytes log rest (sym is ∙ left_is)) in
        omega (arith, parts, sum, whole);
  });
}

-- what holds where a call fails holds where it is said to have failed
pub where_failed : {V E : Type 0} (result : Result V E) (P : Type 0) → OnErr result P → is_err result ≡ true → P
where_failed (Ok x) P failed said = absurd (cc)
where_failed (Err e) P failed said = failed
