use Rattle.std.proofs.Common.{◌∙◌, Bool, List, ℕ, ap, subst}
use Rattle.cb_io.specs.LineReading.{coming}
use Rattle.cb_session.specs.State.{network_of}
use Rattle.cb_log_commands.specs.Counting.{CountsGiven}
use Rattle.cb_log_commands.specs.Telling.{TellsGiven}
use Rattle.cb_file_kinds.proofs.Chain.{if_some}
use Rattle.cb_log_commands.proofs.Counting.{nothing_given, piece_takes, piece_counts}
use Rattle.cb_log_commands.proofs.Following.{reported_by}
use Rattle.cb_log_commands.proofs.Pieces.{EndsWith, goes_further, piece_says}
use Rattle.cb_log_commands.proofs.follow.next_piece.Goals.{then-has_ended+in_ok-text_of_end, else-has_ended}
use Rattle.cb_log_commands.proofs.follow.next_piece.Goals as goal

pub returns-clause-says : goal.returns-clause-says
returns-clause-says g c =
    let ends : EndsWith c.next_line.new.self.ended c.text_of_line.new.session c.in_ok-text.text.items c.if-has_ended.text.items =
    elim c.if-has_ended.branch [
      | then-has_ended+in_ok-text_of_end w ↦
          let (ends, tells_end, is) = w.in_ok-text_of_end.ensures in
          subst (λ (b : Bool). EndsWith b c.text_of_line.new.session c.in_ok-text.text.items c.if-has_ended.text.items) w.if-has_ended.ensures
          (ends, tells_end, ap (λ v. v.items) w.text-is ∙ is)
      | else-has_ended w ↦
          subst (λ (b : Bool). EndsWith b c.text_of_line.new.session c.in_ok-text.text.items c.if-has_ended.text.items) w.if-has_ended.ensures
          (ap (λ v. v.items) w.text-is)
    ] in
    let tells = subst (λ (bytes : List ℕ). TellsGiven c.args.session.now c.text_of_line.new.session c.in_ok-line.line bytes c.in_ok-text.text.items) c.text.ensures c.in_ok-text.ensures.tells in
    if_some (coming c.args.reader.now (g.F.Files.tells c.args.files.now)) _ _ (λ bytes said watch log reported regular is_at.
    piece_says c.args.reader.now c.next_line.new.self (g.F.Files.tells c.next_line.new.files) c.args.session.now c.text_of_line.new.session c.in_ok-text.text.items
    c.if-has_ended.text.items c.requires c.in_ok-text.ensures.mode c.in_ok-text.ensures.length ends watch log reported bytes regular is_at c.in_ok-line.line
    c.in_ok-line.ensures.number tells said) c.in_ok-line.ensures.says

pub returns-clause-advances : goal.returns-clause-advances
returns-clause-advances g c = goes_further c.args.reader.now c.next_line.new.self c.in_ok-line.line c.in_ok-line.ensures.advances

pub returns-in_err-line-clause-takes : goal.returns-in_err-line-clause-takes
returns-in_err-line-clause-takes g c =
    let files = g.F.Files.tells c.args.files.now in
    let after = g.F.Files.tells c.next_line.new.files in
    reported_by (coming c.args.reader.now files) _ (λ bytes comes watch log start at.
    nothing_given watch log c.args.reader.now bytes c.args.session.now start c.args.steps.now at files after comes c.next_line.ensures.prefix)

pub returns-in_err-text-clause-takes : goal.returns-in_err-text-clause-takes
returns-in_err-text-clause-takes g c =
    let old = c.args.reader.now in
    let new = c.next_line.new.self in
    let after = g.F.Files.tells c.next_line.new.files in
    let network = network_of c.args.session.now in
    let steps = c.args.steps.now in
    let steps' = c.text_of_line.new.steps in
    let counts = subst (λ (bytes : List ℕ). CountsGiven network c.in_ok-line.line bytes steps steps') c.text.ensures c.text_of_line.ensures.counts in
    if_some (coming old (g.F.Files.tells c.args.files.now)) _ _ (λ bytes said watch log start at.
    piece_takes watch log old bytes c.args.session.now start steps at new after c.next_line.ensures.same.name steps' c.requires c.in_ok-line.line
    c.in_ok-line.ensures.number counts said) c.in_ok-line.ensures.says

pub returns-in_err-text_of_end-clause-takes : goal.returns-in_err-text_of_end-clause-takes
returns-in_err-text_of_end-clause-takes g c =
    let old = c.args.reader.now in
    let new = c.next_line.new.self in
    let after = g.F.Files.tells c.next_line.new.files in
    let network = network_of c.args.session.now in
    let steps = c.args.steps.now in
    let steps' = c.text_of_line.new.steps in
    let counts = subst (λ (bytes : List ℕ). CountsGiven network c.in_ok-line.line bytes steps steps') c.text.ensures c.text_of_line.ensures.counts in
    if_some (coming old (g.F.Files.tells c.args.files.now)) _ _ (λ bytes said watch log start at.
    piece_takes watch log old bytes c.args.session.now start steps at new after c.next_line.ensures.same.name steps' c.requires c.in_ok-line.line
    c.in_ok-line.ensures.number counts said) c.in_ok-line.ensures.says

pub returns-clause-takes : goal.returns-clause-takes
returns-clause-takes g c =
    let old = c.args.reader.now in
    let new = c.next_line.new.self in
    let after = g.F.Files.tells c.next_line.new.files in
    let network = network_of c.args.session.now in
    let steps = c.args.steps.now in
    let steps' = c.text_of_line.new.steps in
    let counts = subst (λ (bytes : List ℕ). CountsGiven network c.in_ok-line.line bytes steps steps') c.text.ensures c.text_of_line.ensures.counts in
    if_some (coming old (g.F.Files.tells c.args.files.now)) _ _ (λ bytes said watch log start at.
    piece_takes watch log old bytes c.args.session.now start steps at new after c.next_line.ensures.same.name steps' c.requires c.in_ok-line.line
    c.in_ok-line.ensures.number counts said) c.in_ok-line.ensures.says

pub returns-clause-counts : goal.returns-clause-counts
returns-clause-counts g c =
    let old = c.args.reader.now in
    let new = c.next_line.new.self in
    let after = g.F.Files.tells c.next_line.new.files in
    let network = network_of c.args.session.now in
    let steps = c.args.steps.now in
    let steps' = c.text_of_line.new.steps in
    let counts = subst (λ (bytes : List ℕ). CountsGiven network c.in_ok-line.line bytes steps steps') c.text.ensures c.text_of_line.ensures.counts in
    if_some (coming old (g.F.Files.tells c.args.files.now)) _ _ (λ bytes said watch log start at.
    piece_counts watch log old bytes c.args.session.now start steps at new after c.next_line.ensures.same.name steps' c.requires c.in_ok-line.line
    c.in_ok-line.ensures.number counts said) c.in_ok-line.ensures.says
