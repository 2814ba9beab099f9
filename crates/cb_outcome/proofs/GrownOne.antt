-- What `grow` gives is one outcome.
use Rattle.std.proofs.Common.{◌≡◌, ℕ, List, length, sym, ap, ◌∙◌, subst, inl, inr}
use Rattle.cb_model.specs.declared.node.NodeName.{NodeName}
use Rattle.cb_coding.specs.declared.group.Group.{Group}
use Rattle.cb_finding.proofs.One.{matrix_is_one}
use Rattle.cb_network.specs.Nodes.{IsNodeOf}
use Rattle.cb_network.specs.Regular.{IsRegular}
use Rattle.cb_network.specs.Topology.{Topology}
use Rattle.cb_network.proofs.Counts.{count_is_one}
use Rattle.cb_network.proofs.One.{problems_are_one}
use Rattle.cb_gen.specs.Model.{model_text}
use Rattle.cb_gen.specs.Topology.{topology_text}
use Rattle.cb_gen.specs.Log.{log_text}
use Rattle.cb_log.specs.declared.event.Event.{Event}
use Rattle.cb_log.specs.Basis.{Mode, wanted}
use Rattle.cb_log.specs.Entries.{LogEntry, records_of}
use Rattle.cb_log.specs.Events.{IsNetwork}
use Rattle.cb_log.proofs.EventsOne.{network_is_one}
use Rattle.cb_alarm.specs.Lines.{log_lines}
use Rattle.cb_alarm.proofs.OneSkip.{come_to_one, log_gives_one}
use Rattle.cb_outcome.specs.Roles.{Role}
use Rattle.cb_report.specs.declared.fault.Fault.{Fault}
use Rattle.cb_report.specs.declared.summary.Summary.{Summary}
use Rattle.cb_report.specs.SummaryText.{CountsEvents, grow_text}
use Rattle.cb_outcome.specs.Judged.{Known, nothing, network, Means, HasFault}
use Rattle.cb_outcome.specs.Grown.{MakesUp, HasMadeUpFault, CountsNetwork, SumsUpLog, SumsUp, PrintsSummary, GrowGives, grow_wish, grow_window}
use Rattle.cb_outcome.specs.Outcome.{Outcome, done, refused}
use Rattle.cb_outcome.proofs.Once.{IsSound, means_one, fault_one, means_or_fault, means_sound}

same_network : (t u : Topology) → network t ≡ network u → t ≡ u
same_network t u e = cc

-- ---- what is made up means one network, or has one fault

module _ (sites : ℕ) where
  same_known : (a b : Known) → Means Role.model nothing model_text a → Means Role.model nothing model_text b → a ≡ b
  same_known a b p q = means_one Role.model nothing model_text tt a b p q

  sound_of : (known : Known) → Means Role.model nothing model_text known → IsSound known
  sound_of known means = means_sound Role.model nothing model_text known tt means

  pub regular_of : (t : Topology) → MakesUp sites t → IsRegular t.model
  regular_of t (known, first, second) = means_sound Role.topology known (topology_text sites) (network t) (sound_of known first) second

  pub made_up_one : (t u : Topology) → MakesUp sites t → MakesUp sites u → t ≡ u
  made_up_one t u (a, m, p) (b, n, q) =
      let same = same_known b a n m in
      let over = subst (λ (known : Known). Means Role.topology known (topology_text sites) (network u)) same q in
      same_network t u (means_one Role.topology a (topology_text sites) (sound_of a m) (network t) (network u) p over)

  fault_is_one : (f g : Fault) → HasMadeUpFault sites f → HasMadeUpFault sites g → f ≡ g
  fault_is_one f g (inl p) (inl q) = fault_one Role.model nothing model_text tt f g p q
  fault_is_one f g (inl p) (inr (b, n, q)) = absurd (means_or_fault Role.model nothing model_text tt b f n p)
  fault_is_one f g (inr (a, m, p)) (inl q) = absurd (means_or_fault Role.model nothing model_text tt a g m q)
  fault_is_one f g (inr (a, m, p)) (inr (b, n, q)) =
      let same = same_known b a n m in
      let over = subst (λ (known : Known). HasFault Role.topology known (topology_text sites) g) same q in
      fault_one Role.topology a (topology_text sites) (sound_of a m) f g p over

  network_or_fault : (t : Topology) (f : Fault) → MakesUp sites t → HasMadeUpFault sites f → ⊥
  network_or_fault t f (a, m, p) (inl q) = means_or_fault Role.model nothing model_text tt a f m q
  network_or_fault t f (a, m, p) (inr (b, n, q)) =
      let same = same_known b a n m in
      let over = subst (λ (known : Known). HasFault Role.topology known (topology_text sites) f) same q in
      means_or_fault Role.topology a (topology_text sites) (sound_of a m) (network t) f p over

-- ---- a log that is summed up has one summary

record SameSizes (r s : Summary) : Type 0 where
  instances : r.instances ≡ s.instances
  nodes : r.nodes ≡ s.nodes
  problems : r.problems ≡ s.problems
  symptoms : r.symptoms ≡ s.symptoms
  groups : r.groups ≡ s.groups

sizes_are_one : (t : Topology) (r s : Summary) → CountsNetwork t r → CountsNetwork t s → SameSizes r s
sizes_are_one t r s a b =
    let matrix = matrix_is_one t a.columns b.columns a.coded b.coded a.matrix b.matrix in
    record {
      instances = a.instances ∙ sym b.instances;
      nodes = count_is_one (IsNodeOf t) r.nodes s.nodes a.nodes b.nodes;
      problems = a.problems ∙ (ap (λ (ns : List NodeName). length ns) (problems_are_one t a.names b.names a.are_problems b.are_problems) ∙ sym b.problems);
      symptoms = a.symptoms ∙ (ap (λ (ns : List NodeName). length ns) matrix.0 ∙ sym b.symptoms);
      groups = a.groups ∙ (ap (λ (gs : List Group). length gs) matrix.1 ∙ sym b.groups);
    }

record SameCounts (r s : Summary) : Type 0 where
  skipped : r.skipped ≡ s.skipped
  refused_are : r.refused ≡ s.refused
  diagnoses : r.diagnoses ≡ s.diagnoses
  sure : r.sure ≡ s.sure
  unknown : r.unknown ≡ s.unknown
  thin : r.thin ≡ s.thin
  books : r.books ≡ s.books

counts_are_one : (events : List Event) (r s : Summary) → CountsEvents events r → CountsEvents events s → SameCounts r s
counts_are_one events r s a b = record {
  skipped = a.skipped ∙ sym b.skipped;
  refused_are = a.refused ∙ sym b.refused;
  diagnoses = a.diagnoses ∙ sym b.diagnoses;
  sure = a.sure ∙ sym b.sure;
  unknown = a.unknown ∙ sym b.unknown;
  thin = a.thin ∙ sym b.thin;
  books = a.books ∙ sym b.books;
}

same_summary : (r s : Summary) → r.sites ≡ s.sites → r.start ≡ s.start → r.records ≡ s.records → SameSizes r s → SameCounts r s → r ≡ s
same_summary r s sites start records sizes counts =
    let a = sizes.instances in
    let b = sizes.nodes in
    let c = sizes.problems in
    let d = sizes.symptoms in
    let e = sizes.groups in
    let f = counts.skipped in
    let g = counts.refused_are in
    let h = counts.diagnoses in
    let j = counts.sure in
    let k = counts.unknown in
    let l = counts.thin in
    let m = counts.books in
    λ i. record {
      sites = sites i;
      start = start i;
      instances = a i;
      nodes = b i;
      problems = c i;
      symptoms = d i;
      groups = e i;
      records = records i;
      skipped = f i;
      refused = g i;
      diagnoses = h i;
      sure = j i;
      unknown = k i;
      thin = l i;
      books = m i;
    }

record SameLog (r s : Summary) : Type 0 where
  records : r.records ≡ s.records
  sizes : SameSizes r s
  counts : SameCounts r s

log_is_one : (t : Topology) (mode : Mode) (w : ℕ) (log : List ℕ) (r s : Summary) → IsRegular t.model → SumsUpLog t mode w log r → SumsUpLog t mode w log s
    → SameLog r s
log_is_one t mode w log r s regular a b =
    let events = log_gives_one t mode w log b.events a.events regular b.gives a.gives in
    let entries = come_to_one (log_lines log) b.gives.entries a.gives.entries b.gives.come a.gives.come in
    let last = subst (λ (es : List LogEntry). IsNetwork t mode (records_of es) b.last) entries b.last_is in
    let networks = network_is_one t regular mode (records_of a.gives.entries) b.last a.last last a.last_is in
    record {
      records = a.records ∙ (sym (ap (λ (es : List LogEntry). length (records_of es)) entries) ∙ sym b.records);
      sizes = sizes_are_one a.last r s a.sizes (subst (λ (u : Topology). CountsNetwork u s) networks b.sizes);
      counts = counts_are_one a.events r s a.counted (subst (λ (es : List Event). CountsEvents es s) events b.counted);
    }

summary_is_one : (sites start : ℕ) (t : Topology) (r s : Summary) → IsRegular t.model → SumsUp sites start t r → SumsUp sites start t s → r ≡ s
summary_is_one sites start t r s regular a b =
    let one = log_is_one t (wanted grow_wish) grow_window (log_text sites start) r s regular a.log b.log in
    same_summary r s (a.sites_are ∙ sym b.sites_are) (a.start_is ∙ sym b.start_is) one.records one.sizes one.counts

-- ---- and so there is one outcome

printed_one : (sites start whole : ℕ) (a b : Outcome) → PrintsSummary sites start whole a → PrintsSummary sites start whole b → a ≡ b
printed_one sites start whole a b p q =
    let from = made_up_one sites q.from p.from q.made_up p.made_up in
    let sums = subst (λ (t : Topology). SumsUp sites start t q.summary) from q.sums_up in
    let same = summary_is_one sites start p.from p.summary q.summary (regular_of sites p.from p.made_up) p.sums_up sums in
    p.gives ∙ (ap (λ (s : Summary). done (grow_text s) whole) same ∙ sym q.gives)

pub grow_one : (sites start whole : ℕ) (a b : Outcome) → GrowGives sites start whole a → GrowGives sites start whole b → a ≡ b
grow_one sites start whole a b (inl p) (inl q) = printed_one sites start whole a b p q
grow_one sites start whole a b (inl p) (inr q) = absurd (network_or_fault sites p.from q.fault p.made_up q.has)
grow_one sites start whole a b (inr p) (inl q) = absurd (network_or_fault sites q.from p.fault q.made_up p.has)
grow_one sites start whole a b (inr p) (inr q) =
    p.gives ∙ (ap (λ (f : Fault). refused f whole) (fault_is_one sites p.fault q.fault p.has q.has) ∙ sym q.gives)
