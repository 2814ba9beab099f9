-- What `decode` keeps.
use Rattle.std.proofs.Common.{◌≡◌, ℕ, List, [], ◌∷◌, refl, sym, subst}
use Rattle.cb_io.specs.Outside.{contents}
use Rattle.cb_network.specs.Regular.{IsRegular}
use Rattle.cb_network.specs.Topology.{Topology}
use Rattle.cb_cert.specs.declared.certificate.Certificate.{Certificate}
use Rattle.cb_cert.specs.Format.{IsCertificate}
use Rattle.cb_validity.specs.Valid.{IsValid}
use Rattle.cb_log.specs.Basis.{fixed}
use Rattle.cb_outcome.specs.Contents.{Left, files_from}
use Rattle.cb_outcome.specs.Judged.{Known, nothing, certified, PassFrom}
use Rattle.cb_outcome.specs.LogJobs.{Watch}
use Rattle.cb_outcome.specs.Command.{reads_of}
use Rattle.cb_outcome.specs.Commands.Decode.{DecodeWatches, decode}
use Rattle.cb_outcome.proofs.Apart.{AllApart, fixed_apart, given_keeps_apart, known_is_valid}
use Rattle.cb_outcome.proofs.Lawful.{IsLawful}
use Rattle.cb_outcome.proofs.LogsOne.{fixed_is_one}
use Rattle.cb_outcome.proofs.Once.{IsSound}

module _ (window : ℕ) where
  one : (known : Known) (a b : Watch) → DecodeWatches window known a → DecodeWatches window known b → a ≡ b
  one (certified t c) a b p q = fixed_is_one t c window a b p q
  one known a b p q = absurd p

  regular : (known : Known) (watch : Watch) → IsSound known → DecodeWatches window known watch → IsRegular watch.from.model
  regular (certified t c) watch sound p = subst (λ (x : Watch). IsRegular x.from.model) (sym p.is) sound
  regular known watch sound p = absurd p

module _ (model topology certificate log : List ℕ) (window : ℕ) (left : Left) where
  -- what is known from the files is valid
  is_valid : (t : Topology) (c : Certificate) → PassFrom nothing (files_from left (reads_of (decode model topology certificate log window))) (certified t c)
      → IsValid t c × IsCertificate c
  is_valid t c (first, says, (second, says', (third, says'', same))) =
      known_is_valid second (contents left (model ∷ topology ∷ []) certificate) third t c says''.means same

  apart : (known : Known) (watch : Watch) → PassFrom nothing (files_from left (reads_of (decode model topology certificate log window))) known
      → DecodeWatches window known watch → AllApart watch.from watch.mode
  apart (certified t c) watch passed watches =
      let valid = is_valid t c passed in
      subst (λ (x : Watch). AllApart x.from x.mode) (sym watches.is)
      (fixed_apart t (fixed watches.kept watches.used) watches.kept watches.used refl
      (given_keeps_apart t c watches.kept watches.used valid.0 valid.1 watches.states))
  apart known watch passed watches = absurd watches

pub lawful : (model topology certificate log : List ℕ) (window : ℕ) → IsLawful (decode model topology certificate log window)
lawful model topology certificate log window = record {
  one = one window;
  regular = regular window;
  apart = λ range left known passed watch is. apart model topology certificate log window left known watch passed is;
}
