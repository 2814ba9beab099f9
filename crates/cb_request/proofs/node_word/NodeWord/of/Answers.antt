use Rattle.std.proofs.Common.{refl, sym}
use Rattle.cb_request.proofs.NodesRead.{node_is_read, no_node_is_read}
use Rattle.cb_request.proofs.node_word.NodeWord.of.Goals as goal

pub returns-in-Some : goal.returns-in-Some
returns-in-Some c =
    let word = c.args.word.now in
    let is = rw c.as_bytes.ensures.value at c.in-Some.ensures.parts in
    sym ((node_is_read word word).1 ((_, _, is), refl))

pub returns-in-None : goal.returns-in-None
returns-in-None c =
    let none = rw c.as_bytes.ensures.value at c.in-None.ensures.none in
    no_node_is_read c.args.word.now (λ (event, instance, node). none event instance node)
