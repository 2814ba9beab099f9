use Rattle.cb_file_kinds.proofs.Chain.{if_ok_more}
use Rattle.cb_chain_commands.proofs.levels.text_of_levels.Goals as goal

pub write_levels-text-requires : goal.write_levels-text-requires
write_levels-text-requires g c = c.in_ok-levels.ensures.made.of_format

pub returns-clause-text : goal.returns-clause-text
returns-clause-text g c =
    if_ok_more c.write_levels-text.result _ _ (λ bytes text. (c.in_ok-levels.levels, c.in_ok-levels.ensures.made, text)) c.write_levels-text.ensures.text
