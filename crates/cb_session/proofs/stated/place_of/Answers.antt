use Rattle.cb_topo.proofs.Positions.{has_position}
use Rattle.cb_session.proofs.Places.{is_node, column_there, place_is}
use Rattle.cb_session.proofs.stated.place_of.Goals as goal

pub id_of-id-requires : goal.id_of-id-requires
id_of-id-requires c = is_node c.args.topology.now c.model-model.ensures.whole c.args.columns.now c.requires.all c.args.column.now c.requires.is

pub unwrap-requires : goal.unwrap-requires
unwrap-requires c =
    let ids = c.args.columns.now in
    let id = c.id_of-id.result in
    let (i, there, name) = column_there c.args.topology.now c.model-model.ensures.whole ids c.requires.all c.args.column.now c.requires.is id c.id_of-id.ensures in
    has_position ids id c.position.result i c.position.ensures there

pub returns : goal.returns
returns c =
    place_is c.args.topology.now c.model-model.ensures.whole c.args.columns.now c.requires.all c.args.column.now c.requires.is c.id_of-id.result c.id_of-id.ensures
    c.position.result c.unwrap.result c.position.ensures c.unwrap.ensures
