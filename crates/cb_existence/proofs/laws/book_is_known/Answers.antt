use Rattle.cb_existence.proofs.BookKnown.{book_is_known}
use Rattle.cb_existence.proofs.EventsExist.{now_exists}
use Rattle.cb_existence.proofs.laws.book_is_known.Goals as goal

pub returns : goal.returns
returns c = λ t w records regular. let (u, now) = now_exists t regular records in book_is_known t regular w u records now
