use Rattle.cb_change.specs.Before.{MovesLink}
use Rattle.cb_change.proofs.Comes.{comes, meets}
use Rattle.cb_change.proofs.Moved.{moved}
use Rattle.cb_change.proofs.laws.touched_is_given_before.Goals as goal

pub returns : goal.returns
returns c = λ t u edit regular step a path. (
  comes t u (MovesLink t edit) (moved t u edit regular step) path a,
  meets t u (MovesLink t edit) (moved t u edit regular step) path a,
)
