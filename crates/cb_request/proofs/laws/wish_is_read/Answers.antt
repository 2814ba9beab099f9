use Rattle.cb_request.proofs.WishWords.{wish_is_read}
use Rattle.cb_request.proofs.laws.wish_is_read.Goals as goal

pub returns : goal.returns
returns c = wish_is_read
