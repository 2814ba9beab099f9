use Rattle.cb_outcome.proofs.SoundTopologies.{passed_are_sound}
use Rattle.cb_outcome.proofs.laws.passed_are_sound.Goals as goal

pub returns : goal.returns
returns c = passed_are_sound
