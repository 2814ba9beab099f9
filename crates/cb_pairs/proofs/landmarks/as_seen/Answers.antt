use Rattle.std.proofs.Common.{ap, sym, ◌∙◌, length, ◌≡◌}
use Rattle.cb_model.proofs.Numbers.{all_at}
use Rattle.cb_coding.specs.Distance.{distance, all_columns}
use Rattle.cb_pairs.proofs.Lists.{code_at_is}
use Rattle.cb_pairs.proofs.landmarks.as_seen.Goals as goal

pub distance-requires : goal.distance-requires
distance-requires c = all_at (λ row. length row ≡ length c.args.code.now) c.args.rows.now c.args.place c.at.result.now c.at.ensures c.requires.wide

pub returns : goal.returns
returns c =
    let row = c.at.result.now in
    let code = c.args.code.now in
    let long = all_at (λ r. length r ≡ length code) c.args.rows.now c.args.place row c.at.ensures c.requires.wide in
    record {
      within = c.requires.within;
      is = c.distance.ensures ∙ (ap (λ n. distance (all_columns n) row code) long
          ∙ ap (λ v. distance (all_columns (length code)) v code) (sym (code_at_is c.args.rows.now c.args.place row c.at.ensures)));
    }
