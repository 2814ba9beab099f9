use Rattle.cb_pairs.proofs.landmarks.are_far.Goals as goal

pub returns-then-is_far : goal.returns-then-is_far
returns-then-is_far c = λ so. λ one other seen. c.is_far.ensures so one other seen.first

pub returns-else-is_far : goal.returns-else-is_far
returns-else-is_far c = λ so. λ one other seen. c.is_far-else-is_far.ensures so one other seen.second
