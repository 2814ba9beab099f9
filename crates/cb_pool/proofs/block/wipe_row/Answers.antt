use Rattle.std.proofs.Common.{◌≡◌, ◌*◌, ◌+◌, ◌-◌, length, replicate, ap, ◌∙◌, arith}
use Rattle.std.specs.Simd.Lanes.{put_chunk}
use Rattle.std.proofs.lemmas.Simd.{length-chunk}
use Rattle.std.proofs.lemmas.List.{length-replicate}
use Rattle.cb_pool.proofs.Rows.{mid_is_chunk, put_clears}
use Rattle.cb_pool.proofs.block.wipe_row.Goals as goal

pub returns : goal.returns
returns c =
    let a = c.args.width * c.args.i in
    let wide = length-chunk a (a + c.args.width - a) c.args.words.now (omega arith) ∙ omega arith in
    let zeros : c.wipe.new.words ≡ replicate c.args.width 0 = c.wipe.ensures ∙ ap (λ n. replicate n 0) wide in
    put_clears c.args.width c.args.i c.args.words.now _ c.requires
    (mid_is_chunk (c.args.width * c.args.i) c.args.width _ c.args.words.now c.wipe.new.words (omega arith) (ap length zeros ∙ length-replicate c.args.width 0) c.requires
    ∙ ap (put_chunk (c.args.width * c.args.i) c.args.words.now) zeros)
