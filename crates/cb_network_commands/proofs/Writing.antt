-- What is written of a codebook is what the command gives.
use Rattle.std.proofs.Common.{ℕ, List, inl, inr, sym, subst}
use Rattle.std.specs.Prelude.{Option}
use Rattle.cb_model.specs.declared.wish.Wish.{Wish}
use Rattle.cb_model.specs.declared.wish.Wish.TheVariants.{Plain, Cap}
use Rattle.cb_network.specs.Topology.{Topology}
use Rattle.cb_certify.specs.declared.codebook.Codebook.{Codebook}
use Rattle.cb_certify.specs.declared.codebook.Codebook.TheVariants.{Certified, TooManyEntries, TooClose}
use Rattle.cb_certify.specs.Made.{IsMadeOf, IsWantedWish}
use Rattle.cb_report.specs.declared.fault.Fault.{Fault}
use Rattle.cb_outcome.specs.Command.{IsWishWithin}
use Rattle.cb_outcome.specs.Jobs.{CodebookGives, RefusesWish}
use Rattle.cb_network_commands.specs.Written.{CanBeWritten, IsWritten}

-- a wish in the range of the command may be wanted
pub wish_may_be_wanted : (wish : Wish) → IsWishWithin 1 9999 wish → IsWantedWish wish
wish_may_be_wanted (Plain d) within = within
wish_may_be_wanted (Cap cap) within = within

pub can_be_written : (t : Topology) (wish : Wish) (made : Codebook) → IsMadeOf t wish made → CanBeWritten made
can_be_written t wish (Certified certificate) (is, few, of_format) = of_format
can_be_written t wish TooManyEntries made = tt
can_be_written t wish (TooClose wanted first second distance certificate) (same, is, of_format) = of_format

pub codebook_gives : (t : Topology) (wish : Wish) (whole : ℕ) (made : Codebook) (bytes : List ℕ) (fault : Option Fault) → IsMadeOf t wish made
    → IsWritten made bytes fault → CodebookGives t wish whole (record { out = bytes; fault = fault; whole = whole })
codebook_gives t wish whole (Certified certificate) bytes fault (is, few, of_format) (text, none) =
    inl (record {
      few = few;
      certificate = certificate;
      is = is;
      of_format = of_format;
      gives = λ i. record { out = text i; fault = none i; whole = whole };
    })
codebook_gives t wish whole TooManyEntries bytes fault (exists, many) (text, full) =
    inr (inl (record { exists = exists; many = many; gives = λ i. record { out = text i; fault = full i; whole = whole } }))
codebook_gives t wish whole (TooClose wanted first second distance certificate) bytes fault (same, is, of_format) (text, close) =
    let refuses : RefusesWish t (Plain wanted) whole (record { out = bytes; fault = fault; whole = whole }) = record {
      first = first;
      second = second;
      distance = distance;
      close = is.close;
      certificate = certificate;
      canonical = is.canonical;
      of_format = of_format;
      gives = λ i. record { out = text i; fault = close i; whole = whole };
    } in
    inr (inr (subst (λ (w : Wish). RefusesWish t w whole (record { out = bytes; fault = fault; whole = whole })) (sym same) refuses))
