use Rattle.cb_request.specs.Commands.{request_of_arguments}
use Rattle.cb_outcome.specs.Asked.{command_in}
use Rattle.cb_outcome.specs.Seen.{seen_from}
use Rattle.cb_file_kinds.specs.Ending.{wrong}
use Rattle.cb_outcome.proofs.Asked.{lawful}
use Rattle.cb_outcome.proofs.Complete.{complete}
use Rattle.cb_top.proofs.Clauses.{story, answer, prefix, quiet, line, ends, order, fault, finds}
use Rattle.cb_top.proofs.top.run.Goals as goal

pub returns-clause-answer : goal.returns-clause-answer
returns-clause-answer g c =
    let s = seen_from g.F.Files.tells g.O.Sink.tells g.E.Sink.tells c.args.files.now c.answer-end.new.files c.args.out.now c.answer-end.new.out c.args.err.now c.conclude.new.err in
    let asks = command_in c.args.words.now in
    let reported = story s c.conclude.result (wrong c.answer-end.result) c.conclude.ensures.status c.conclude.ensures.says asks c.answer-end.ensures.ends in
    answer asks (lawful (request_of_arguments c.args.words.now)) s c.conclude.result reported

pub returns-clause-prefix : goal.returns-clause-prefix
returns-clause-prefix g c =
    let s = seen_from g.F.Files.tells g.O.Sink.tells g.E.Sink.tells c.args.files.now c.answer-end.new.files c.args.out.now c.answer-end.new.out c.args.err.now c.conclude.new.err in
    let asks = command_in c.args.words.now in
    let reported = story s c.conclude.result (wrong c.answer-end.result) c.conclude.ensures.status c.conclude.ensures.says asks c.answer-end.ensures.ends in
    prefix asks (lawful (request_of_arguments c.args.words.now)) s c.conclude.result reported

pub returns-clause-quiet : goal.returns-clause-quiet
returns-clause-quiet g c =
    let s = seen_from g.F.Files.tells g.O.Sink.tells g.E.Sink.tells c.args.files.now c.answer-end.new.files c.args.out.now c.answer-end.new.out c.args.err.now c.conclude.new.err in
    let asks = command_in c.args.words.now in
    let reported = story s c.conclude.result (wrong c.answer-end.result) c.conclude.ensures.status c.conclude.ensures.says asks c.answer-end.ensures.ends in
    quiet asks (lawful (request_of_arguments c.args.words.now)) s c.conclude.result reported

pub returns-clause-line : goal.returns-clause-line
returns-clause-line g c =
    let s = seen_from g.F.Files.tells g.O.Sink.tells g.E.Sink.tells c.args.files.now c.answer-end.new.files c.args.out.now c.answer-end.new.out c.args.err.now c.conclude.new.err in
    let asks = command_in c.args.words.now in
    let reported = story s c.conclude.result (wrong c.answer-end.result) c.conclude.ensures.status c.conclude.ensures.says asks c.answer-end.ensures.ends in
    line asks (lawful (request_of_arguments c.args.words.now)) s c.conclude.result reported

pub returns-clause-ends : goal.returns-clause-ends
returns-clause-ends g c =
    let s = seen_from g.F.Files.tells g.O.Sink.tells g.E.Sink.tells c.args.files.now c.answer-end.new.files c.args.out.now c.answer-end.new.out c.args.err.now c.conclude.new.err in
    let asks = command_in c.args.words.now in
    let reported = story s c.conclude.result (wrong c.answer-end.result) c.conclude.ensures.status c.conclude.ensures.says asks c.answer-end.ensures.ends in
    ends asks (lawful (request_of_arguments c.args.words.now)) s c.conclude.result reported

pub returns-clause-order : goal.returns-clause-order
returns-clause-order g c =
    let s = seen_from g.F.Files.tells g.O.Sink.tells g.E.Sink.tells c.args.files.now c.answer-end.new.files c.args.out.now c.answer-end.new.out c.args.err.now c.conclude.new.err in
    let asks = command_in c.args.words.now in
    let reported = story s c.conclude.result (wrong c.answer-end.result) c.conclude.ensures.status c.conclude.ensures.says asks c.answer-end.ensures.ends in
    order asks (lawful (request_of_arguments c.args.words.now)) s c.conclude.result reported

pub returns-clause-fault : goal.returns-clause-fault
returns-clause-fault g c =
    let s = seen_from g.F.Files.tells g.O.Sink.tells g.E.Sink.tells c.args.files.now c.answer-end.new.files c.args.out.now c.answer-end.new.out c.args.err.now c.conclude.new.err in
    let asks = command_in c.args.words.now in
    let reported = story s c.conclude.result (wrong c.answer-end.result) c.conclude.ensures.status c.conclude.ensures.says asks c.answer-end.ensures.ends in
    fault asks (lawful (request_of_arguments c.args.words.now)) s c.conclude.result reported

pub returns-clause-finds : goal.returns-clause-finds
returns-clause-finds g c =
    let s = seen_from g.F.Files.tells g.O.Sink.tells g.E.Sink.tells c.args.files.now c.answer-end.new.files c.args.out.now c.answer-end.new.out c.args.err.now c.conclude.new.err in
    let asks = command_in c.args.words.now in
    let reported = story s c.conclude.result (wrong c.answer-end.result) c.conclude.ensures.status c.conclude.ensures.says asks c.answer-end.ensures.ends in
    finds asks (lawful (request_of_arguments c.args.words.now)) s c.conclude.result reported

pub returns-clause-complete : goal.returns-clause-complete
returns-clause-complete g c =
    let s = seen_from g.F.Files.tells g.O.Sink.tells g.E.Sink.tells c.args.files.now c.answer-end.new.files c.args.out.now c.answer-end.new.out c.args.err.now c.conclude.new.err in
    let asks = command_in c.args.words.now in
    let reported = story s c.conclude.result (wrong c.answer-end.result) c.conclude.ensures.status c.conclude.ensures.says asks c.answer-end.ensures.ends in
    let law = lawful (request_of_arguments c.args.words.now) in
    complete asks c.conclude.result s (answer asks law s c.conclude.result reported) (fault asks law s c.conclude.result reported)
