-- A log that is followed gives one outcome, and what its first bytes tell is a prefix of it.
use Rattle.std.proofs.Common.{◌≡◌, ◌≤◌, ◌<◌, ℕ, zero, suc, take, drop, List, [], ◌∷◌, ◌++◌, append_assoc, length, refl, sym, ap, ◌∙◌, subst, inl, inr, arith}
use Rattle.std.proofs.lemmas.List.{take-append-drop}
use Rattle.std.proofs.lemmas.Grind.{flat_map-append}
use Rattle.cb_model.specs.declared.node.NodeName.{NodeName}
use Rattle.cb_model.specs.declared.wish.Wish.{Wish}
use Rattle.cb_network.specs.Regular.{IsRegular}
use Rattle.cb_network.specs.Topology.{Topology}
use Rattle.cb_network.proofs.One.{columns_are_one}
use Rattle.cb_cert.specs.declared.certificate.Certificate.{Certificate}
use Rattle.cb_cert.specs.declared.certificate.Certificate.TheVariants.{Book as BookClaim, Capped as CapClaim, Thin as ThinClaim}
use Rattle.cb_validity.specs.Reading.{ArePlaces}
use Rattle.cb_validity.proofs.Firsts.{places_found_once}
use Rattle.cb_log.specs.declared.event.Event.{Event}
use Rattle.cb_log.specs.Basis.{Mode, fixed}
use Rattle.cb_log.specs.Entries.{LogEntry}
use Rattle.cb_log.specs.Events.{EntriesGive}
use Rattle.cb_log.proofs.EventsOne.{entries_give_one}
use Rattle.cb_alarm.specs.Lines.{LogGives, PrefixGives, ended_lines}
use Rattle.cb_alarm.proofs.OneSkip.{come_to_one, log_gives_one}
use Rattle.cb_report.specs.CertificateTexts.{accepted_text}
use Rattle.cb_report.specs.EventTexts.{event_text, events_text}
use Rattle.cb_report.specs.declared.fault.Fault.TheVariants as faults
use Rattle.cb_outcome.specs.Outcome.{Outcome, done, done_with}
use Rattle.cb_outcome.specs.LogJobs.{Watch, StatesColumns, States, IsFixedWatch, WholeTells, PrefixTells, LogTells, log_limit}
use Rattle.cb_outcome.specs.Laws.{BeginsWith}
use Rattle.cb_outcome.proofs.JobsOne.{shows_is_one}
use Rattle.cb_outcome.proofs.LogPrefixes.{prefix_gives_prefix}

-- ---- a log is followed in one way

stated_are_one : (t : Topology) (nodes : List NodeName) (numbers a b : List ℕ) → StatesColumns t nodes numbers a → StatesColumns t nodes numbers b → a ≡ b
stated_are_one t nodes numbers a b p q =
    let columns = columns_are_one t p.columns q.columns p.columns_are q.columns_are in
    let over = subst (λ (cs : List NodeName). ArePlaces nodes cs numbers b) (sym columns) q.places in
    places_found_once nodes p.columns p.columns_are.rise numbers a b p.places over

states_one : (t : Topology) (c : Certificate) (a b : List ℕ) (u v : Wish) → States t c a u → States t c b v → (a ≡ b) × (u ≡ v)
states_one t (BookClaim d nodes numbers spans) a b u v p q = (stated_are_one t nodes numbers a b p.0 q.0, p.1 ∙ sym q.1)
states_one t (CapClaim cap nodes numbers radii spans) a b u v p q = (stated_are_one t nodes numbers a b p.0 q.0, p.1 ∙ sym q.1)
states_one t (ThinClaim wanted d nodes first second) a b u v p q = absurd p

pub fixed_is_one : (t : Topology) (c : Certificate) (w : ℕ) (a b : Watch) → IsFixedWatch t c w a → IsFixedWatch t c w b → a ≡ b
fixed_is_one t c w a b p q =
    let accepts = shows_is_one t c p.accepted q.accepted p.shows q.shows in
    let (kept, used) = states_one t c p.kept q.kept p.used q.used p.states q.states in
    p.is ∙ ((λ i. record { opening = accepted_text (accepts i); from = t; mode = fixed (kept i) (used i); window = w }) ∙ sym q.is)

-- ---- and gives one outcome

short_or_long : (m n : ℕ) → m ≤ n → n < m → ⊥
short_or_long m n le lt = omega (arith, le, lt)

prefix_gives_one : (t : Topology) (mode : Mode) (w : ℕ) (prefix : List ℕ) (xs ys : List Event) → IsRegular t.model → PrefixGives t mode w prefix xs
    → PrefixGives t mode w prefix ys → xs ≡ ys
prefix_gives_one t mode w prefix xs ys regular (some, come, gives) (other, come', gives') =
    let same = come_to_one (ended_lines prefix) other some come' come in
    entries_give_one t regular mode w [] some xs ys gives (subst (λ (es : List LogEntry). EntriesGive t mode w [] es ys) same gives')

module _ (watch : Watch) (regular : IsRegular watch.from.model) where
  whole_tells_one : (log x y : List ℕ) → WholeTells watch log x → WholeTells watch log y → x ≡ y
  whole_tells_one log x y (xs, g, e) (ys, h, f) =
      e ∙ (ap (λ (es : List Event). watch.opening ++ events_text es) (log_gives_one watch.from watch.mode watch.window log xs ys regular g h) ∙ sym f)

  prefix_tells_one : (prefix x y : List ℕ) → PrefixTells watch prefix x → PrefixTells watch prefix y → x ≡ y
  prefix_tells_one prefix x y (xs, g, e) (ys, h, f) =
      e ∙ (ap (λ (es : List Event). watch.opening ++ events_text es) (prefix_gives_one watch.from watch.mode watch.window prefix xs ys regular g h) ∙ sym f)

  pub tells_one : (name log : List ℕ) (whole : ℕ) (a b : Outcome) → LogTells watch name log whole a → LogTells watch name log whole b → a ≡ b
  tells_one name log whole a b (inl p) (inl q) =
      p.gives ∙ (ap (λ (out : List ℕ). done out (suc whole)) (whole_tells_one log p.out q.out p.tells q.tells) ∙ sym q.gives)
  tells_one name log whole a b (inl p) (inr q) = absurd (short_or_long (length log) log_limit p.short q.long)
  tells_one name log whole a b (inr p) (inl q) = absurd (short_or_long (length log) log_limit q.short p.long)
  tells_one name log whole a b (inr p) (inr q) =
      p.gives ∙ (ap (λ (out : List ℕ). done_with out (faults.LimitBytes name) whole) (prefix_tells_one (take log_limit log) p.out q.out p.tells q.tells) ∙ sym q.gives)

-- ---- the first bytes

take_of : (k m : ℕ) (xs : List ℕ) → k ≤ m → take k (take m xs) ≡ take k xs
take_of zero m xs le = refl
take_of (suc k) zero xs le = absurd (omega arith)
take_of (suc k) (suc m) [] le = refl
take_of (suc k) (suc m) (x ∷ xs) le = ap (λ (v : List ℕ). x ∷ v) (take_of k m xs (omega arith))

-- the text of events of which these are the first
text_prefix : (opening due out : List ℕ) (first rest all : List Event) → due ≡ opening ++ events_text first → out ≡ opening ++ events_text all
    → all ≡ first ++ rest → BeginsWith out due
text_prefix opening due out first rest all d o e =
    let joined : events_text all ≡ events_text first ++ events_text rest = ap events_text e ∙ flat_map-append event_text first rest in
    let text : out ≡ opening ++ (events_text first ++ events_text rest) = o ∙ ap (λ (v : List ℕ). opening ++ v) joined in
    let moved : opening ++ (events_text first ++ events_text rest) ≡ (opening ++ events_text first) ++ events_text rest = simp append_assoc in
    (events_text rest, text ∙ (moved ∙ ap (λ (v : List ℕ). v ++ events_text rest) (sym d)))

begins : (out due : List ℕ) (outcome : Outcome) → outcome.out ≡ out → BeginsWith out due → BeginsWith outcome.out due
begins out due outcome e (rest, is) = (rest, e ∙ is)

module _ (watch : Watch) (regular : IsRegular watch.from.model) (name log : List ℕ) (k whole : ℕ) (within : k ≤ log_limit) (due : List ℕ) (outcome : Outcome) where
  pub tells_prefix : PrefixTells watch (take k log) due → LogTells watch name log whole outcome → BeginsWith outcome.out due
  tells_prefix (first, f, d) (inl p) =
      let (all, g, o) = p.tells in
      let gives = subst (λ (v : List ℕ). LogGives watch.from watch.mode watch.window v all) (sym (take-append-drop k log)) g in
      let (rest, is) = prefix_gives_prefix watch.from watch.mode watch.window (take k log) (drop k log) first all regular f (inr gives) in
      begins p.out due outcome (ap (λ (v : Outcome). v.out) p.gives) (text_prefix watch.opening due p.out first rest all d o is)
  tells_prefix (first, f, d) (inr p) =
      let (all, g, o) = p.tells in
      let cut = take log_limit log in
      let parts : take k log ++ drop k cut ≡ cut = ap (λ (v : List ℕ). v ++ drop k cut) (sym (take_of k log_limit log within)) ∙ take-append-drop k cut in
      let gives = subst (λ (v : List ℕ). PrefixGives watch.from watch.mode watch.window v all) (sym parts) g in
      let (rest, is) = prefix_gives_prefix watch.from watch.mode watch.window (take k log) (drop k cut) first all regular f (inl gives) in
      begins p.out due outcome (ap (λ (v : Outcome). v.out) p.gives) (text_prefix watch.opening due p.out first rest all d o is)
