use Rattle.std.proofs.Common.{ap, arith, length}
use Rattle.std.proofs.lemmas.List.{length-map}
use Rattle.cb_coding.specs.declared.group.Group.{Group}
use Rattle.cb_file_kinds.proofs.Chain.{if_ok_more}
use Rattle.cb_network_commands.proofs.judge.matrix_lines.Goals as goal

pub least-least-requires : goal.least-least-requires
least-least-requires c = record {
  places_fit =
      let few = c.requires.few_groups in
      let same = ap length c.codes.ensures.rows in
      let all = length-map c.args.matrix.groups.groups (λ (group : Group). group.code) in
      omega arith;
  columns_fit =
      let few = c.requires.few_columns in
      let wide = c.codes.ensures.width in
      let same = c.requires.width in
      omega arith;
}

pub returns : goal.returns
returns c =
    if_ok_more c.of.result _ _ (λ lines text. record {
      least = c.least-least.result;
      least_is = rw (c.codes.ensures.rows, c.codes.ensures.width, c.requires.width) at c.least-least.ensures;
      lines_are = text;
    }) c.of.ensures
