-- A log has one list of events.
use Rattle.std.proofs.Common.{◌≡◌, ◌++◌, ℕ, List, [], ◌∷◌, length, refl, sym, ap, subst, ◌∙◌, inl, inr, arith, Bool, Result, Ok, Err}
use Rattle.std.specs.List.{AllZip}
use Rattle.cb_model.specs.declared.node.NodeName.{NodeName}
use Rattle.cb_model.specs.declared.wish.Wish.{Wish}
use Rattle.cb_model.specs.declared.wish.Wish.TheVariants.{Plain, Cap}
use Rattle.cb_coding.specs.declared.book.Pair.{Pair}
use Rattle.cb_coding.specs.declared.group.Group.{Group}
use Rattle.cb_coding.specs.Answers.{radius}
use Rattle.cb_coding.specs.Distance.{all_columns}
use Rattle.cb_coding.specs.Groups.{codes_of}
use Rattle.cb_coding.specs.Pairs.{IsFirstClose, Good}
use Rattle.cb_coding.specs.Used.{AreLeastAndGreatest}
use Rattle.cb_coding.proofs.One.{first_close_is_one}
use Rattle.cb_coding.proofs.BookLaws.{choice_in_use_is_one}
use Rattle.cb_coding.proofs.UsedLaws.{least_and_greatest_are_one}
use Rattle.cb_network.specs.declared.edit.Edit.{Edit}
use Rattle.cb_network.specs.declared.edit.EditRefusal.{EditRefusal}
use Rattle.cb_finding.specs.declared.finding.Finding.{Finding}
use Rattle.cb_network.specs.Edits.{IsAfter, IsAfterAll, result_or}
use Rattle.cb_finding.specs.Finding.{IsCalled, IsFindingFor}
use Rattle.cb_network.specs.Regular.{IsRegular}
use Rattle.cb_network.specs.Topology.{Topology}
use Rattle.cb_network.proofs.Accepted.{after_is_one, after_all_is_one, regular_stays}
use Rattle.cb_finding.proofs.One.{matrix_is_one, group_name_is_one}
use Rattle.cb_finding.proofs.InUse.{finding_for_is_one}
use Rattle.cb_log.specs.declared.closed.Closed.{Closed}
use Rattle.cb_log.specs.declared.event.Event.{Event}
use Rattle.cb_log.specs.declared.event.Event.TheVariants.{Diagnosis, Thin, BookMade, CapMade}
use Rattle.cb_log.specs.declared.record.Body.{Body}
use Rattle.cb_log.specs.declared.record.Body.TheVariants.{Raise, Clear, Change, Tick}
use Rattle.cb_log.specs.declared.record.Record.{Record}
use Rattle.cb_log.specs.Basis.{Mode, wanted, fixed, Basis, IsUsed, IsDiagnosis, IsThin, IsCapMade, IsMadeFor, IsMadeEvent, AreWarnings, IsAnnounced}
use Rattle.cb_log.specs.Entries.{LogEntry, said, skipped, blank, records_of}
use Rattle.cb_log.specs.Events.{IsNetwork, IsOpening, AreDiagnosed, Diagnoses, ClosingGives, IsRefusal, BodyGives, RecordGives, EntryGives, EntriesGive}
use Rattle.cb_log.specs.Network.{edits_of}
use Rattle.cb_log.proofs.ClosingOne.{closing_is_one}

module _ (network : Topology) (mode : Mode) (a b : Basis network mode) where
  pub columns_one : a.columns ≡ b.columns
  columns_one = (matrix_is_one network a.columns b.columns a.groups b.groups a.matrix b.matrix).0

  pub groups_one : a.groups ≡ b.groups
  groups_one = (matrix_is_one network a.columns b.columns a.groups b.groups a.matrix b.matrix).1

used_is_one : (mode : Mode) (width : ℕ) (codes : List (List Bool)) (ks ls : List ℕ) (u v : Wish) → IsUsed mode width codes ks u → IsUsed mode width codes ls v
    → (u ≡ v) × (ks ≡ ls)
used_is_one (wanted wish) width codes ks ls u v p q = choice_in_use_is_one width codes wish u v ks ls p q
used_is_one (fixed given met) width codes ks ls u v p q = (p.1 ∙ sym q.1, p.0 ∙ sym q.0)

module _ (network : Topology) (mode : Mode) (a b : Basis network mode) where
  in_use_is_one : (a.used ≡ b.used) × (a.kept ≡ b.kept)
  in_use_is_one =
      let in_use : IsUsed mode (length a.columns) (codes_of a.groups) b.kept b.used =
      subst (λ (cs : List NodeName). IsUsed mode (length cs) (codes_of a.groups) b.kept b.used) (sym (columns_one network mode a b))
      (subst (λ (gs : List Group). IsUsed mode (length b.columns) (codes_of gs) b.kept b.used) (sym (groups_one network mode a b)) b.in_use) in
      used_is_one mode (length a.columns) (codes_of a.groups) a.kept b.kept a.used b.used a.in_use in_use

  pub used_one : a.used ≡ b.used
  used_one = in_use_is_one.0

  pub kept_one : a.kept ≡ b.kept
  kept_one = in_use_is_one.1

  found_here : (nodes : List NodeName) (finding : Finding) → IsFindingFor b.columns b.groups b.kept b.used nodes finding
      → IsFindingFor a.columns a.groups a.kept a.used nodes finding
  found_here nodes finding found =
      subst (λ (cs : List NodeName). IsFindingFor cs a.groups a.kept a.used nodes finding) (sym (columns_one network mode a b))
      (subst (λ (gs : List Group). IsFindingFor b.columns gs a.kept a.used nodes finding) (sym (groups_one network mode a b))
      (subst (λ (ks : List ℕ). IsFindingFor b.columns b.groups ks a.used nodes finding) (sym kept_one)
      (subst (λ (w : Wish). IsFindingFor b.columns b.groups b.kept w nodes finding) (sym used_one) found)))

  pub diagnosis_is_one : (c : Closed) (x y : Event) → IsDiagnosis a c x → IsDiagnosis b c y → x ≡ y
  diagnosis_is_one c x y p q =
      let same : p.finding ≡ q.finding =
      finding_for_is_one a.columns a.groups a.kept a.used c.nodes p.finding q.finding p.found (found_here c.nodes q.finding q.found) in
      p.is ∙ (ap (λ (f : Finding). Diagnosis c.from c.opened c.closed f) same ∙ sym q.is)

  pub each_is_one : (closing : List Closed) (xs ys : List Event) → AllZip (IsDiagnosis a) closing xs → AllZip (IsDiagnosis b) closing ys → xs ≡ ys
  each_is_one [] [] [] p q = refl
  each_is_one [] [] (y ∷ ys) p q = absurd q
  each_is_one [] (x ∷ xs) ys p q = absurd p
  each_is_one (c ∷ closing) [] ys p q = absurd p
  each_is_one (c ∷ closing) (x ∷ xs) [] p q = absurd q
  each_is_one (c ∷ closing) (x ∷ xs) (y ∷ ys) p q =
      let first : x ≡ y = diagnosis_is_one c x y p.0 q.0 in
      let rest : xs ≡ ys = each_is_one closing xs ys p.1 q.1 in
      cc

  capped_one : (cap : ℕ) (x y : Event) → IsCapMade a cap x → IsCapMade b cap y → x ≡ y
  capped_one cap x y p q =
      let here : AreLeastAndGreatest (length a.columns) (codes_of a.groups) (Cap cap) q.least q.greatest =
      subst (λ (cs : List NodeName). AreLeastAndGreatest (length cs) (codes_of a.groups) (Cap cap) q.least q.greatest) (sym (columns_one network mode a b))
      (subst (λ (gs : List Group). AreLeastAndGreatest (length b.columns) (codes_of gs) (Cap cap) q.least q.greatest) (sym (groups_one network mode a b)) q.radii) in
      let both = least_and_greatest_are_one (length a.columns) (codes_of a.groups) (Cap cap) p.least p.greatest q.least q.greatest p.radii here in
      let cs = columns_one network mode a b in
      let gs = groups_one network mode a b in
      let ks = kept_one in
      let low : p.least ≡ q.least = both.0 in
      let high : p.greatest ≡ q.greatest = both.1 in
      let event : CapMade (length a.kept) (length a.columns) cap p.least p.greatest (length a.groups)
      ≡ CapMade (length b.kept) (length b.columns) cap q.least q.greatest (length b.groups)
      = λ i. CapMade (length (ks i)) (length (cs i)) cap (low i) (high i) (length (gs i)) in
      p.is ∙ (event ∙ sym q.is)

  made_for_one : (wish : Wish) (x y : Event) → IsMadeFor a wish x → IsMadeFor b wish y → x ≡ y
  made_for_one (Plain d) x y p q =
      let cs = columns_one network mode a b in
      let gs = groups_one network mode a b in
      let ks = kept_one in
      let event : BookMade (length a.kept) (length a.columns) d (radius d) (length a.groups) ≡ BookMade (length b.kept) (length b.columns) d (radius d) (length b.groups)
      = λ i. BookMade (length (ks i)) (length (cs i)) d (radius d) (length (gs i)) in
      p ∙ (event ∙ sym q)
  made_for_one (Cap cap) x y p q = capped_one cap x y p q

  made_one : (x y : Event) → IsMadeEvent a x → IsMadeEvent b y → x ≡ y
  made_one x y p q = made_for_one a.used x y p (subst (λ (w : Wish). IsMadeFor b w y) (sym used_one) q)

  thin_one : (d : ℕ) (x y : Event) → IsThin a d x → IsThin b d y → x ≡ y
  thin_one d x y p q =
      let here : IsFirstClose (all_columns (length a.columns)) (codes_of a.groups) d q.pair =
      subst (λ (cs : List NodeName). IsFirstClose (all_columns (length cs)) (codes_of a.groups) d q.pair) (sym (columns_one network mode a b))
      (subst (λ (gs : List Group). IsFirstClose (all_columns (length b.columns)) (codes_of gs) d q.pair) (sym (groups_one network mode a b)) q.is_first) in
      let pair : p.pair ≡ q.pair = first_close_is_one _ _ d p.pair q.pair p.is_first here in
      let first' : IsCalled a.groups p.pair.first q.first =
      subst (λ (gs : List Group). IsCalled gs p.pair.first q.first) (sym (groups_one network mode a b))
      (subst (λ (k : Pair). IsCalled b.groups k.first q.first) (sym pair) q.first_is) in
      let second' : IsCalled a.groups p.pair.second q.second =
      subst (λ (gs : List Group). IsCalled gs p.pair.second q.second) (sym (groups_one network mode a b))
      (subst (λ (k : Pair). IsCalled b.groups k.second q.second) (sym pair) q.second_is) in
      let first : p.first ≡ q.first = group_name_is_one a.groups p.pair.first p.first q.first p.first_is first' in
      let second : p.second ≡ q.second = group_name_is_one a.groups p.pair.second p.second q.second p.second_is second' in
      let event : Thin d p.first p.second p.pair.distance ≡ Thin d q.first q.second q.pair.distance = λ i. Thin d (first i) (second i) (pair i).distance in
      p.is ∙ (event ∙ sym q.is)

  not_both : (d : ℕ) (thin : Event) → Good (codes_of a.groups) (all_columns (length a.columns)) d → IsThin a d thin → ⊥
  not_both d thin good is =
      let far = good is.pair.first is.pair.second is.is_first.is_pair in
      let e = is.is_first.distance in
      let close = is.is_first.close in
      absurd (omega arith)

  thin_here : (d : ℕ) (thin : Event) → IsThin b d thin → IsThin a d thin
  thin_here d thin q = record {
    pair = q.pair;
    is_first = subst (λ (cs : List NodeName). IsFirstClose (all_columns (length cs)) (codes_of a.groups) d q.pair) (sym (columns_one network mode a b))
        (subst (λ (gs : List Group). IsFirstClose (all_columns (length b.columns)) (codes_of gs) d q.pair) (sym (groups_one network mode a b)) q.is_first);
    first = q.first;
    first_is = subst (λ (gs : List Group). IsCalled gs q.pair.first q.first) (sym (groups_one network mode a b)) q.first_is;
    second = q.second;
    second_is = subst (λ (gs : List Group). IsCalled gs q.pair.second q.second) (sym (groups_one network mode a b)) q.second_is;
    is = q.is;
  }

  good_here : (d : ℕ) → Good (codes_of b.groups) (all_columns (length b.columns)) d → Good (codes_of a.groups) (all_columns (length a.columns)) d
  good_here d good =
      subst (λ (cs : List NodeName). Good (codes_of a.groups) (all_columns (length cs)) d) (sym (columns_one network mode a b))
      (subst (λ (gs : List Group). Good (codes_of gs) (all_columns (length b.columns)) d) (sym (groups_one network mode a b)) good)

  warnings_are_one : (wish : Wish) (xs ys : List Event) → AreWarnings a wish xs → AreWarnings b wish ys → xs ≡ ys
  warnings_are_one (Plain d) xs ys (inl p) (inl q) = p.1 ∙ sym q.1
  warnings_are_one (Plain d) xs ys (inl p) (inr q) = absurd (not_both d q.0 p.0 (thin_here d q.0 q.1))
  warnings_are_one (Plain d) xs ys (inr p) (inl q) = absurd (not_both d p.0 (good_here d q.0) p.1)
  warnings_are_one (Plain d) xs ys (inr p) (inr q) =
      let thin : p.0 ≡ q.0 = thin_one d p.0 q.0 p.1 q.1 in
      p.2 ∙ (ap (λ (e : Event). e ∷ []) thin ∙ sym q.2)
  warnings_are_one (Cap cap) xs ys p q = p ∙ sym q

  pub announced_is_one : (wish : Wish) (xs ys : List Event) → IsAnnounced a wish xs → IsAnnounced b wish ys → xs ≡ ys
  announced_is_one wish xs ys p q =
      let warnings : p.warnings ≡ q.warnings = warnings_are_one wish p.warnings q.warnings p.are_warnings q.are_warnings in
      let made : p.made ≡ q.made = made_one p.made q.made p.is_made q.is_made in
      let both : p.warnings ++ p.made ∷ [] ≡ q.warnings ++ q.made ∷ [] = λ i. warnings i ++ made i ∷ [] in
      p.events_are ∙ (both ∙ sym q.events_are)

module _ (t : Topology) (regular : IsRegular t.model) where
  pub network_is_one : (mode : Mode) (records : List Record) (x y : Topology) → IsNetwork t mode records x → IsNetwork t mode records y → x ≡ y
  network_is_one (wanted wish) records x y p q = after_all_is_one t (edits_of records) x y regular p q
  network_is_one (fixed given met) records x y p q = p ∙ sym q

  opening_is_one : (mode : Mode) (w : ℕ) (records : List Record) (network : Topology) (a b : Basis network mode) (xs ys : List Event)
      → IsOpening t mode w records a xs → IsOpening t mode w records b ys → xs ≡ ys
  opening_is_one (wanted wish) w records network a b xs ys (inl p) (inl q) = p.1 ∙ sym q.1
  opening_is_one (wanted wish) w records network a b xs ys (inl p) (inr q) = absurd (q.0 p.0)
  opening_is_one (wanted wish) w records network a b xs ys (inr p) (inl q) = absurd (p.0 q.0)
  opening_is_one (wanted wish) w records network a b xs ys (inr p) (inr q) = announced_is_one network (wanted wish) a b wish xs ys p.1 q.1
  opening_is_one (fixed given met) w records network a b xs ys p q = p ∙ sym q

  -- diagnoses over one topology
  record Over (mode : Mode) (w : ℕ) (records : List Record) (closing : List Closed) (events : List Event) (network : Topology) : Type 0 where
    basis : Basis network mode
    opening : List Event
    is_opening : IsOpening t mode w records basis opening
    diagnoses : List Event
    each : AllZip (IsDiagnosis basis) closing diagnoses
    events_are : events ≡ opening ++ diagnoses

  over_is_one : (mode : Mode) (w : ℕ) (records : List Record) (closing : List Closed) (xs ys : List Event) (network : Topology)
      → Over mode w records closing xs network → Over mode w records closing ys network → xs ≡ ys
  over_is_one mode w records closing xs ys network p q =
      let opening : p.opening ≡ q.opening = opening_is_one mode w records network p.basis q.basis p.opening q.opening p.is_opening q.is_opening in
      let each : p.diagnoses ≡ q.diagnoses = each_is_one network mode p.basis q.basis closing p.diagnoses q.diagnoses p.each q.each in
      let both : p.opening ++ p.diagnoses ≡ q.opening ++ q.diagnoses = λ i. opening i ++ each i in
      p.events_are ∙ (both ∙ sym q.events_are)

  diagnosed_is_one : (mode : Mode) (w : ℕ) (records : List Record) (closing : List Closed) (xs ys : List Event)
      → AreDiagnosed t mode w records closing xs → AreDiagnosed t mode w records closing ys → xs ≡ ys
  diagnosed_is_one mode w records closing xs ys p q =
      let network = network_is_one mode records p.network q.network p.is_network q.is_network in
      let here : Over mode w records closing xs p.network = record {
        basis = p.basis;
        opening = p.opening;
        is_opening = p.is_opening;
        diagnoses = p.diagnoses;
        each = p.each;
        events_are = p.events_are;
      } in
      let there : Over mode w records closing ys q.network = record {
        basis = q.basis;
        opening = q.opening;
        is_opening = q.is_opening;
        diagnoses = q.diagnoses;
        each = q.each;
        events_are = q.events_are;
      } in
      over_is_one mode w records closing xs ys p.network here (subst (Over mode w records closing ys) (sym network) there)

  diagnoses_are_one : (mode : Mode) (w : ℕ) (records : List Record) (closing : List Closed) (xs ys : List Event)
      → Diagnoses t mode w records closing xs → Diagnoses t mode w records closing ys → xs ≡ ys
  diagnoses_are_one mode w records [] xs ys p q = p ∙ sym q
  diagnoses_are_one mode w records (c ∷ closing) xs ys p q = diagnosed_is_one mode w records (c ∷ closing) xs ys p q

  pub closing_gives_one : (mode : Mode) (w : ℕ) (records next : List Record) (xs ys : List Event)
      → ClosingGives t mode w records next xs → ClosingGives t mode w records next ys → xs ≡ ys
  closing_gives_one mode w records next xs ys p q =
      let same : p.closing ≡ q.closing = closing_is_one (records ++ next) w (length records) p.closing q.closing p.closes q.closes in
      diagnoses_are_one mode w records p.closing xs ys p.diagnoses
      (subst (λ (cs : List Closed). Diagnoses t mode w records cs ys) (sym same) q.diagnoses)

  refusal_is_one : (line : ℕ) (result : Result Topology EditRefusal) (xs ys : List Event) → IsRefusal line result xs → IsRefusal line result ys → xs ≡ ys
  refusal_is_one line (Ok network) xs ys p q = p ∙ sym q
  refusal_is_one line (Err why) xs ys p q = p ∙ sym q

  regular_later : (s : Topology) (edits : List Edit) (u : Topology) → IsRegular s.model → IsAfterAll s edits u → IsRegular u.model
  regular_later s [] u reg after = subst (λ (v : Topology). IsRegular v.model) after reg
  regular_later s (edit ∷ edits) u reg (result, is, rest) = regular_later (result_or s result) edits u (regular_stays s edit result reg is) rest

  edited_is_one : (records : List Record) (line : ℕ) (edit : Edit) (xs ys : List Event)
      → (p : BodyGives t (wanted (Plain 0)) records line (Change edit) xs) (q : BodyGives t (wanted (Plain 0)) records line (Change edit) ys) → xs ≡ ys
  edited_is_one records line edit xs ys (u, now, result, after, refusal) (v, now', result', after', refusal') =
      let network : u ≡ v = after_all_is_one t (edits_of records) u v regular now now' in
      let here : IsAfter u edit result' = subst (λ (n : Topology). IsAfter n edit result') (sym network) after' in
      let same : result ≡ result' = after_is_one u edit result result' (regular_later t (edits_of records) u regular now) after here in
      refusal_is_one line result xs ys refusal (subst (λ (o : Result Topology EditRefusal). IsRefusal line o ys) (sym same) refusal')

  body_is_one : (mode : Mode) (records : List Record) (line : ℕ) (body : Body) (xs ys : List Event)
      → BodyGives t mode records line body xs → BodyGives t mode records line body ys → xs ≡ ys
  body_is_one (wanted wish) records line (Raise source node) xs ys p q = p ∙ sym q
  body_is_one (wanted wish) records line (Clear source node) xs ys p q = p ∙ sym q
  body_is_one (wanted wish) records line Tick xs ys p q = p ∙ sym q
  body_is_one (wanted wish) records line (Change edit) xs ys p q = edited_is_one records line edit xs ys p q
  body_is_one (fixed given met) records line (Raise source node) xs ys p q = p ∙ sym q
  body_is_one (fixed given met) records line (Clear source node) xs ys p q = p ∙ sym q
  body_is_one (fixed given met) records line Tick xs ys p q = p ∙ sym q
  body_is_one (fixed given met) records line (Change edit) xs ys p q = p ∙ sym q

  record_is_one : (mode : Mode) (w : ℕ) (records : List Record) (line : ℕ) (r : Record) (xs ys : List Event)
      → RecordGives t mode w records line r xs → RecordGives t mode w records line r ys → xs ≡ ys
  record_is_one mode w records line r xs ys p q =
      let closings : p.closings ≡ q.closings = closing_gives_one mode w records (r ∷ []) p.closings q.closings p.closing q.closing in
      let refusals : p.refusals ≡ q.refusals = body_is_one mode records line r.body p.refusals q.refusals p.body q.body in
      let both : p.closings ++ p.refusals ≡ q.closings ++ q.refusals = λ i. closings i ++ refusals i in
      p.events_are ∙ (both ∙ sym q.events_are)

  pub entry_gives_one : (mode : Mode) (w : ℕ) (records : List Record) (entry : LogEntry) (xs ys : List Event)
      → EntryGives t mode w records entry xs → EntryGives t mode w records entry ys → xs ≡ ys
  entry_gives_one mode w records (said line r) xs ys p q = record_is_one mode w records line r xs ys p q
  entry_gives_one mode w records (skipped line why) xs ys p q = p ∙ sym q
  entry_gives_one mode w records blank xs ys p q = p ∙ sym q

  pub entries_give_one : (mode : Mode) (w : ℕ) (before entries : List LogEntry) (xs ys : List Event)
      → EntriesGive t mode w before entries xs → EntriesGive t mode w before entries ys → xs ≡ ys
  entries_give_one mode w before [] xs ys p q = p ∙ sym q
  entries_give_one mode w before (entry ∷ later) xs ys (x, xs', here, there, is) (y, ys', here', there', is') =
      let first : x ≡ y = entry_gives_one mode w (records_of before) entry x y here here' in
      let rest : xs' ≡ ys' = entries_give_one mode w (before ++ entry ∷ []) later xs' ys' there there' in
      let both : x ++ xs' ≡ y ++ ys' = λ i. first i ++ rest i in
      is ∙ (both ∙ sym is')
