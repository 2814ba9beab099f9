use Rattle.cb_validity.proofs.SpanLaws.{span_lists_caused as proved}
use Rattle.cb_validity.proofs.laws.span_lists_caused.Goals as goal

pub returns : goal.returns
returns c = proved
