-- What `correlate` keeps.
use Rattle.std.proofs.Common.{◌≡◌, ◌∙◌, ℕ, List, sym, ap, subst}
use Rattle.cb_model.specs.declared.wish.Wish.{Wish}
use Rattle.cb_model.specs.declared.wish.Wish.TheVariants.{Plain, Cap}
use Rattle.cb_coding.specs.Used.{AsksSomething}
use Rattle.cb_network.specs.Regular.{IsRegular}
use Rattle.cb_outcome.specs.Judged.{Known, network}
use Rattle.cb_outcome.specs.LogJobs.{Watch}
use Rattle.cb_outcome.specs.Commands.Correlate.{CorrelateWatches, correlate}
use Rattle.cb_outcome.specs.Command.{IsWishWithin}
use Rattle.cb_outcome.proofs.Apart.{AllApart, wanted_apart}
use Rattle.cb_outcome.proofs.Lawful.{IsLawful}
use Rattle.cb_outcome.proofs.Once.{IsSound}

asks_something : (wish : Wish) → IsWishWithin 1 9999 wish → AsksSomething wish
asks_something (Plain d) within = within.0
asks_something (Cap cap) within = within.0

module _ (wish : Wish) (window : ℕ) where
  one : (known : Known) (a b : Watch) → CorrelateWatches wish window known a → CorrelateWatches wish window known b → a ≡ b
  one (network t) a b p q = p ∙ sym q
  one known a b p q = absurd p

  regular : (known : Known) (watch : Watch) → IsSound known → CorrelateWatches wish window known watch → IsRegular watch.from.model
  regular (network t) watch sound e = subst (λ (x : Watch). IsRegular x.from.model) (sym e) sound
  regular known watch sound e = absurd e

  apart : (known : Known) (watch : Watch) → IsWishWithin 1 9999 wish → CorrelateWatches wish window known watch → AllApart watch.from watch.mode
  apart (network t) watch within e = wanted_apart watch.from watch.mode wish (ap (λ (x : Watch). x.mode) e) (asks_something wish within)
  apart known watch within e = absurd e

pub lawful : (model topology log : List ℕ) (wish : Wish) (window : ℕ) → IsLawful (correlate model topology log wish window)
lawful model topology log wish window = record {
  one = one wish window;
  regular = regular wish window;
  apart = λ range left known passed watch is. apart wish window known watch range.0 is;
}
