use Rattle.std.proofs.Common.{◌<◌, ◌≤◌, ◌+◌, vec_len, vec_capacity, ap, arith, length, Some, ◌∙◌}
use Rattle.std.proofs.lemmas.List.{get_or-set_same, length-set}
use Rattle.std.proofs.lemmas.Option.{slice_get-get_or}
use Rattle.std.specs.Prelude.{slice_set}
use Rattle.cb_nodes.specs.Kept.{HasSpareIn}
use Rattle.cb_instances.proofs.RowLemmas.{on_ok}
use Rattle.cb_nodes.proofs.lists.reserve.Goals as goal

pub returns-clause-spare : goal.returns-clause-spare
returns-clause-spare c =
    let lists = c.grow.new.lists.items in
    let i = c.args.instance.0 in
    let list = c.reserve.new.self in
    let lt : i < length lists = omega (arith, c.grow.new.lists.ok.0, c.in_ok-grow.ensures.listed) in
    on_ok c.reserve.result (vec_len list + c.args.more ≤ vec_capacity list) (HasSpareIn (slice_set lists i list) c.args.instance c.args.more) (λ spare. record {
      list = list;
      is = slice_get-get_or (slice_set lists i list) i list (omega (arith, length-set lists i list)) ∙ ap Some (get_or-set_same lists i list list lt);
      spare = spare;
    }) c.reserve.ensures.ok
