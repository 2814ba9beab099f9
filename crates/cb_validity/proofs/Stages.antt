-- Checks one after another.
use Rattle.std.proofs.Common.{List, ◌∷◌, ◌++◌, ap, sym, ◌∙◌}
use Rattle.std.specs.Prelude.{Result, Ok, Err}
use Rattle.std.specs.List.{All}
use Rattle.std.proofs.lemmas.List.{append_assoc}
use Rattle.std.proofs.lemmas.List.Elements.{All-append}
use Rattle.cb_network.specs.Topology.{Topology}
use Rattle.cb_cert.specs.declared.certificate.Certificate.{Certificate}
use Rattle.cb_validity.specs.declared.verdict.Rejected.{Rejected}
use Rattle.cb_validity.specs.declared.verdict.Rejected.TheVariants as why
use Rattle.cb_validity.specs.Checks.{Check, AreChecks, Passes, FailsFirst, Judges}
use Rattle.cb_validity.specs.Verdicts.{TellsWhy}

module _ (t : Topology) (c : Certificate) (xs ys : List Check) where
  fails_later : (reported : Rejected) → All (Passes t c) xs → FailsFirst t c ys reported → FailsFirst t c (xs ++ ys) reported
  fails_later reported passed f = record {
    before = xs ++ f.before;
    check = f.check;
    after = f.after;
    are = ap (λ (zs : List Check). xs ++ zs) f.are ∙ sym (append_assoc xs f.before (f.check ∷ f.after));
    passed = All-append (Passes t c) xs f.before passed f.passed;
    fails = f.fails;
    tells = f.tells;
  }

  fails_already : (reported : Rejected) → FailsFirst t c xs reported → FailsFirst t c (xs ++ ys) reported
  fails_already reported f = record {
    before = f.before;
    check = f.check;
    after = f.after ++ ys;
    are = ap (λ (zs : List Check). zs ++ ys) f.are ∙ append_assoc f.before (f.check ∷ f.after) ys;
    passed = f.passed;
    fails = f.fails;
    tells = f.tells;
  }

pub passed_go_on : (t : Topology) (c : Certificate) (xs ys : List Check) (result : Result (Unit {0}) Rejected) → All (Passes t c) xs
    → Judges t c ys result → Judges t c (xs ++ ys) result
passed_go_on t c xs ys (Ok done) passed rest = All-append (Passes t c) xs ys passed rest
passed_go_on t c xs ys (Err why.NoMemory) passed rest = tt
passed_go_on t c xs ys (Err (why.BadNode a)) passed rest = fails_later t c xs ys (why.BadNode a) passed rest
passed_go_on t c xs ys (Err (why.BadColumn a)) passed rest = fails_later t c xs ys (why.BadColumn a) passed rest
passed_go_on t c xs ys (Err (why.NoSpan a)) passed rest = fails_later t c xs ys (why.NoSpan a) passed rest
passed_go_on t c xs ys (Err (why.ExtraSpan a)) passed rest = fails_later t c xs ys (why.ExtraSpan a) passed rest
passed_go_on t c xs ys (Err (why.BadRoot a)) passed rest = fails_later t c xs ys (why.BadRoot a) passed rest
passed_go_on t c xs ys (Err (why.BadParent a)) passed rest = fails_later t c xs ys (why.BadParent a) passed rest
passed_go_on t c xs ys (Err (why.NoEdge a)) passed rest = fails_later t c xs ys (why.NoEdge a) passed rest
passed_go_on t c xs ys (Err (why.Repeated a)) passed rest = fails_later t c xs ys (why.Repeated a) passed rest
passed_go_on t c xs ys (Err (why.NotClosed a b)) passed rest = fails_later t c xs ys (why.NotClosed a b) passed rest
passed_go_on t c xs ys (Err (why.TooClose a b d)) passed rest = fails_later t c xs ys (why.TooClose a b d) passed rest
passed_go_on t c xs ys (Err (why.NotThin a)) passed rest = fails_later t c xs ys (why.NotThin a) passed rest
passed_go_on t c xs ys (Err (why.BadRadius a)) passed rest = fails_later t c xs ys (why.BadRadius a) passed rest

pub failed_stop : (t : Topology) (c : Certificate) (xs ys : List Check) (reported : Rejected) → Judges t c xs (Err reported) → Judges t c (xs ++ ys) (Err reported)
failed_stop t c xs ys why.NoMemory failed = tt
failed_stop t c xs ys (why.BadNode a) failed = fails_already t c xs ys (why.BadNode a) failed
failed_stop t c xs ys (why.BadColumn a) failed = fails_already t c xs ys (why.BadColumn a) failed
failed_stop t c xs ys (why.NoSpan a) failed = fails_already t c xs ys (why.NoSpan a) failed
failed_stop t c xs ys (why.ExtraSpan a) failed = fails_already t c xs ys (why.ExtraSpan a) failed
failed_stop t c xs ys (why.BadRoot a) failed = fails_already t c xs ys (why.BadRoot a) failed
failed_stop t c xs ys (why.BadParent a) failed = fails_already t c xs ys (why.BadParent a) failed
failed_stop t c xs ys (why.NoEdge a) failed = fails_already t c xs ys (why.NoEdge a) failed
failed_stop t c xs ys (why.Repeated a) failed = fails_already t c xs ys (why.Repeated a) failed
failed_stop t c xs ys (why.NotClosed a b) failed = fails_already t c xs ys (why.NotClosed a b) failed
failed_stop t c xs ys (why.TooClose a b d) failed = fails_already t c xs ys (why.TooClose a b d) failed
failed_stop t c xs ys (why.NotThin a) failed = fails_already t c xs ys (why.NotThin a) failed
failed_stop t c xs ys (why.BadRadius a) failed = fails_already t c xs ys (why.BadRadius a) failed

pub judged_is_first_fail : (t : Topology) (c : Certificate) (checks : List Check) → AreChecks t c checks → (reported : Rejected)
    → Judges t c checks (Err reported) → TellsWhy t c reported
judged_is_first_fail t c checks are why.NoMemory failed = tt
judged_is_first_fail t c checks are (why.BadNode a) failed = (checks, are, failed)
judged_is_first_fail t c checks are (why.BadColumn a) failed = (checks, are, failed)
judged_is_first_fail t c checks are (why.NoSpan a) failed = (checks, are, failed)
judged_is_first_fail t c checks are (why.ExtraSpan a) failed = (checks, are, failed)
judged_is_first_fail t c checks are (why.BadRoot a) failed = (checks, are, failed)
judged_is_first_fail t c checks are (why.BadParent a) failed = (checks, are, failed)
judged_is_first_fail t c checks are (why.NoEdge a) failed = (checks, are, failed)
judged_is_first_fail t c checks are (why.Repeated a) failed = (checks, are, failed)
judged_is_first_fail t c checks are (why.NotClosed a b) failed = (checks, are, failed)
judged_is_first_fail t c checks are (why.TooClose a b d) failed = (checks, are, failed)
judged_is_first_fail t c checks are (why.NotThin a) failed = (checks, are, failed)
judged_is_first_fail t c checks are (why.BadRadius a) failed = (checks, are, failed)
