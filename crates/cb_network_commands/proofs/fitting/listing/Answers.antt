use Rattle.std.proofs.Common.{refl}
use Rattle.cb_network_commands.proofs.fitting.listing.Goals as goal

pub returns : goal.returns
returns c = record { found = c.in_ok-found.found; is_found = c.in_ok-found.ensures; text = c.in_ok-fits_text.ensures; well = refl }
