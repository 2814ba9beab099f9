use Rattle.cb_network_commands.proofs.fitting.line_of.Goals as goal

pub group_name-requires : goal.group_name-requires
group_name-requires c = c.requires.names c.args.guess.first c.requires.within.first
