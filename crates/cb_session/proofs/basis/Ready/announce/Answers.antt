use Rattle.cb_log.specs.Basis.{wanted}
use Rattle.cb_session.proofs.basis.Ready.announce.Goals as goal

pub book_event-requires : goal.book_event-requires
book_event-requires c = (c.requires.0, (wanted c.args.wish, c.requires.1))

pub returns : goal.returns
returns c = λ n mode basis has.
    record {
      warnings = c.in_ok-events.events;
      are_warnings = c.in_ok-events.ensures n mode basis has;
      made = c.book_event.result;
      is_made = c.book_event.ensures n mode basis has;
      events_are = c.in_ok-push.ensures.ok;
    }
