-- What judging the text of a file shows.
use Rattle.std.proofs.Common.{◌≡◌, ◌≤◌, ◌<◌, ℕ, List, length, refl, sym, subst, inl, inr, arith, length-append}
use Rattle.std.specs.Prelude.{Option, None, Some, IfSome, Err}
use Rattle.std.specs.Io.KnownBytes.{Consumes}
use Rattle.cb_io.specs.Outside.{FilesReport, left_of, TakesAll, ReadsAll, ReadsMoreThan, ReadFailed}
use Rattle.cb_io.specs.declared.whole.ReadStop.{ReadStop}
use Rattle.cb_io.specs.declared.whole.ReadStop.TheVariants as stops
use Rattle.cb_model.specs.declared.node.NodeName.{NodeName}
use Rattle.cb_model.specs.declared.tables.Tables.{Tables}
use Rattle.cb_grammar.specs.declared.tree.Tree.{Tree}
use Rattle.cb_syntax.specs.Spells.{SpellsModel}
use Rattle.cb_syntax.specs.Laws.{TellsFault}
use Rattle.cb_syntax.specs.declared.fault.SyntaxFault.{SyntaxFault}
use Rattle.cb_rules.specs.declared.rule.BrokenRule.{BrokenRule}
use Rattle.cb_rules.specs.Fault.{KeepsAll, IsFirstBroken as IsTypeFault}
use Rattle.cb_check.specs.declared.fault.TypeFault.{TypeFault}
use Rattle.cb_check.specs.declared.fault.TypeFault.TheVariants as types
use Rattle.cb_check.specs.Fault.{OnBroken}
use Rattle.cb_check.specs.Stands.{Stands}
use Rattle.cb_network.specs.Topology.{Topology}
use Rattle.cb_line_files.specs.declared.topology.LineFault.TheVariants.{BadWords, Refused}
use Rattle.cb_line_files.specs.declared.topology.TopologyStop.{TopologyStop}
use Rattle.cb_line_files.specs.declared.topology.TopologyStop.TheVariants as topology
use Rattle.cb_line_files.specs.declared.symptoms.SymptomStop.{SymptomStop}
use Rattle.cb_line_files.specs.declared.symptoms.SymptomStop.TheVariants as symptoms
use Rattle.cb_line_files.specs.Topologies.{MakesTopology, Stops as StopsTopology}
use Rattle.cb_line_files.specs.Symptoms.{ListsNodes, Stops as StopsSymptoms}
use Rattle.cb_outcome.specs.Roles.{Role, byte_limit}
use Rattle.cb_report.specs.declared.fault.Fault.{Fault}
use Rattle.cb_report.specs.declared.fault.Fault.TheVariants as faults
use Rattle.cb_report.specs.FaultSources.{fault_of_syntax, fault_of_types}
use Rattle.cb_outcome.specs.Judged.{Known, nothing, parsed, network, raised, Says, IsModelFault, RefusesFile}
use Rattle.cb_file_kinds.specs.Kinds.{file_in_role, SaysAfter, RefusesAfter, StopsJudging, StopsReading, IsTextOf}
use Rattle.cb_file_kinds.specs.Faults.{fault_of_stop, fault_of_topology, fault_of_symptoms}

-- ---- a text that was read

pub text_of_read : (old new : FilesReport) (name text : List ℕ) → ReadsAll old new name text → IsTextOf old name text
text_of_read old new name text read = by_case (left_of old name) (left_of new name) read
  where
    by_case : (a b : Option (List ℕ)) → TakesAll a b text → IfSome a (λ left. text ≡ left)
    by_case None b t = tt
    by_case (Some left) b t = t.0

-- more bytes came than are allowed
pub too_much : (old new : FilesReport) (name : List ℕ) (most : ℕ) → ReadsMoreThan old new name most → (text : List ℕ) × IsTextOf old name text × (most < length text)
too_much old new name most (prefix, long, came) = by_case (left_of old name) (left_of new name) came
  where
    by_case : (a b : Option (List ℕ)) → Consumes a b prefix → (text : List ℕ) × IfSome a (λ left. text ≡ left) × (most < length text)
    by_case None b c = (prefix, tt, long)
    by_case (Some xs) None c = absurd c
    by_case (Some xs) (Some ys) c = (xs, refl, rw c (omega (arith, long, length-append prefix ys)))

-- ---- a model

module _ (name text : List ℕ) (short : length text ≤ byte_limit Role.model) where
  abbrev Only : Known → Type 0
  Only known = known ≡ nothing

  pub tree_says : (tree : Tree) → SpellsModel text tree → KeepsAll tree → SaysAfter Only (λ known. known ≡ parsed tree) (file_in_role Role.model name text)
  tree_says tree spelled keeps known is =
      let means : Says nothing (file_in_role Role.model name text) (parsed tree) = record {
        short = record { bytes = short; lines = λ none. absurd none };
        means = (tree, record { spelled = spelled; keeps = keeps }, refl);
      } in
      (parsed tree, refl, subst (λ (k : Known). Says k (file_in_role Role.model name text) (parsed tree)) (sym is) means)

  pub model_says : (tree : Tree) (tables : Tables) → SpellsModel text tree → KeepsAll tree → Stands tree tables
      → SaysAfter Only (λ known. (t : Tree) × (known ≡ parsed t) × Stands t tables) (file_in_role Role.model name text)
  model_says tree tables spelled keeps stands known is =
      let (next, e, says) = tree_says tree spelled keeps known is in
      (next, (tree, e, stands), says)

  refuses : (fault : Fault) → RefusesFile nothing (file_in_role Role.model name text) fault → RefusesAfter Only (file_in_role Role.model name text) fault
  refuses fault r known is = subst (λ (k : Known). RefusesFile k (file_in_role Role.model name text) fault) (sym is) r

  faulty : (fault : Fault) → IsModelFault text fault → StopsJudging Only (file_in_role Role.model name text) fault
  faulty fault has = inr (refuses fault (inr (inr (record { short = record { bytes = short; lines = λ none. absurd none }; has = has }))))

  pub syntax_stops : (why : SyntaxFault) → TellsFault text why → StopsJudging Only (file_in_role Role.model name text) (fault_of_syntax why)
  syntax_stops why (inl want) = inl (rw want refl)
  syntax_stops why (inr is) = faulty (fault_of_syntax why) (inl (record { why = why; has = is; is = refl }))

  pub rule_stops : (tree : Tree) (broken : BrokenRule) → SpellsModel text tree → IsTypeFault tree broken
      → StopsJudging Only (file_in_role Role.model name text) (faults.Kind broken)
  rule_stops tree broken spelled is = faulty (faults.Kind broken) (inr (record { tree = tree; spells = spelled; broken = broken; breaks = is; is = refl }))

  pub type_stops : (tree : Tree) (why : TypeFault) → SpellsModel text tree → OnBroken {T = Tables} (Err why) (IsTypeFault tree)
      → StopsJudging Only (file_in_role Role.model name text) (fault_of_types why)
  type_stops tree (types.Broken broken) spelled is = rule_stops tree broken spelled is
  type_stops tree types.NoMemory spelled is = inl refl

-- ---- a topology, after the model of a tree

module _ (name text : List ℕ) (short : length text ≤ byte_limit Role.topology) (tables : Tables) where
  abbrev Model : Known → Type 0
  Model known = (t : Tree) × (known ≡ parsed t) × Stands t tables

  pub topology_says : (t : Topology) → MakesTopology tables text t → SaysAfter Model (λ known. known ≡ network t) (file_in_role Role.topology name text)
  topology_says t makes known (tree, is, stands) =
      let says : Says (parsed tree) (file_in_role Role.topology name text) (network t) = record {
        short = record { bytes = short; lines = λ limited. makes.short };
        means = (t, record { tables = tables; stands = stands; makes = makes }, refl);
      } in
      (network t, refl, subst (λ (k : Known). Says k (file_in_role Role.topology name text) (network t)) (sym is) says)

  pub topology_stops : (stop : TopologyStop) → StopsTopology tables text stop → StopsJudging Model (file_in_role Role.topology name text) (fault_of_topology name stop)
  topology_stops (topology.LongLine line) first = inr (λ known (tree, is, stands).
      subst (λ (k : Known). RefusesFile k (file_in_role Role.topology name text) (faults.LimitLine name line)) (sym is)
      (inr (inl (record { bytes = short; limited = tt; line = line; first = first; is = refl }))))
  topology_stops (topology.BadLine line BadWords) first = inr (λ known (tree, is, stands).
      subst (λ (k : Known). RefusesFile k (file_in_role Role.topology name text) (faults.EditWords line)) (sym is)
      (inr (inr (record { short = record { bytes = short; lines = λ limited. first.short }; has = (tables, stands, first) }))))
  topology_stops (topology.BadLine line (Refused why)) first = inr (λ known (tree, is, stands).
      subst (λ (k : Known). RefusesFile k (file_in_role Role.topology name text) (faults.Edit line why)) (sym is)
      (inr (inr (record { short = record { bytes = short; lines = λ limited. first.short }; has = (tables, stands, first) }))))
  topology_stops topology.NoMemory first = inl refl

-- ---- symptoms, after a topology

module _ (name text : List ℕ) (short : length text ≤ byte_limit Role.symptoms) (t : Topology) where
  abbrev Network : Known → Type 0
  Network known = known ≡ network t

  pub symptoms_say : (nodes : List NodeName) → ListsNodes text nodes
      → (known : Known) → Network known → (next : Known) × (next ≡ raised t nodes) × Says known (file_in_role Role.symptoms name text) next
  symptoms_say nodes lists known is =
      let says : Says (network t) (file_in_role Role.symptoms name text) (raised t nodes) = record {
        short = record { bytes = short; lines = λ limited. lists.short };
        means = (nodes, lists, refl);
      } in
      (raised t nodes, refl, subst (λ (k : Known). Says k (file_in_role Role.symptoms name text) (raised t nodes)) (sym is) says)

  pub symptoms_stop : (stop : SymptomStop) → StopsSymptoms text stop → StopsJudging Network (file_in_role Role.symptoms name text) (fault_of_symptoms name stop)
  symptoms_stop (symptoms.LongLine line) first = inr (λ known is.
      subst (λ (k : Known). RefusesFile k (file_in_role Role.symptoms name text) (faults.LimitLine name line)) (sym is)
      (inr (inl (record { bytes = short; limited = tt; line = line; first = first; is = refl }))))
  symptoms_stop (symptoms.BadName line) first = inr (λ known is.
      subst (λ (k : Known). RefusesFile k (file_in_role Role.symptoms name text) (faults.SymptomLine line)) (sym is)
      (inr (inr (record { short = record { bytes = short; lines = λ limited. first.short }; has = first }))))
  symptoms_stop symptoms.NoMemory first = inl refl

-- what judging a text that was read shows of the file
pub stops_reading : (role : Role) (name : List ℕ) (Before : Known → Type 0) (old new : FilesReport) (text : List ℕ) (fault : Fault) → ReadsAll old new name text
    → StopsJudging Before (file_in_role role name text) fault → StopsReading role name Before old new fault
stops_reading role name Before old new text fault read (inl want) = inl want
stops_reading role name Before old new text fault read (inr refuses) =
    inr (inr (record { text = text; text_is = text_of_read old new name text read; refuses = refuses }))

-- a file that isn't read whole stops the run
pub unread_stops : (role : Role) (name : List ℕ) (Before : Known → Type 0) (most : ℕ) → most ≡ byte_limit role → (old new : FilesReport) (stop : ReadStop)
    → (stop ≡ stops.TooMuch → ReadsMoreThan old new name most) → (stop ≡ stops.ReadFault → ReadFailed old new name)
    → StopsReading role name Before old new (fault_of_stop name stop)
unread_stops role name Before most same old new stops.TooMuch much failed =
    let (text, is, long) = too_much old new name most (much refl) in
    inr (inr (record {
      text = text;
      text_is = is;
      refuses = λ known before. inl (record { bytes = subst (λ (n : ℕ). n < length text) same long; is = refl });
    }))
unread_stops role name Before most same old new stops.ReadFault much failed = inr (inl (record { is = refl; failed = failed refl }))
unread_stops role name Before most same old new stops.NoMemory much failed = inl refl
