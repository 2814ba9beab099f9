-- What is made up, judged, and what `grow` makes of it.
use Rattle.std.proofs.Common.{◌≡◌, ◌⊎◌, ℕ, List, refl, sym, subst, inl, inr, Result, Ok, Err}
use Rattle.cb_io.specs.Outside.{FilesReport}
use Rattle.cb_io.proofs.Reported.{ReadsEach-nil}
use Rattle.cb_model.specs.declared.tables.Tables.{Tables}
use Rattle.cb_grammar.specs.declared.tree.Tree.{Tree}
use Rattle.cb_syntax.specs.Spells.{SpellsModel}
use Rattle.cb_syntax.specs.Laws.{TellsFault}
use Rattle.cb_syntax.specs.declared.fault.SyntaxFault.{SyntaxFault}
use Rattle.cb_rules.specs.Fault.{KeepsAll, IsFirstBroken as IsTypeFault}
use Rattle.cb_check.specs.Stands.{Stands}
use Rattle.cb_check.specs.Fault.{OnBroken}
use Rattle.cb_check.specs.declared.fault.TypeFault.{TypeFault}
use Rattle.cb_check.specs.declared.fault.TypeFault.TheVariants as types
use Rattle.cb_network.specs.Topology.{Topology}
use Rattle.cb_line_files.specs.declared.topology.LineFault.TheVariants.{BadWords, Refused}
use Rattle.cb_network.specs.declared.edit.EditRefusal.{EditRefusal}
use Rattle.cb_line_files.specs.Topologies.{MakesTopology, IsFirstWrong}
use Rattle.cb_gen.specs.Model.{model_text}
use Rattle.cb_gen.specs.Topology.{topology_text}
use Rattle.cb_outcome.specs.Roles.{Role}
use Rattle.cb_outcome.specs.Command.{file_words}
use Rattle.cb_outcome.specs.Commands.Grow.{grow}
use Rattle.cb_report.specs.declared.fault.Fault.{Fault}
use Rattle.cb_report.specs.declared.fault.Fault.TheVariants as faults
use Rattle.cb_report.specs.FaultSources.{fault_of_syntax, fault_of_types}
use Rattle.cb_outcome.specs.Judged.{nothing, parsed, Means, IsModelFault}
use Rattle.cb_outcome.specs.Grown.{MakesUp, HasMadeUpFault}
use Rattle.cb_file_kinds.specs.declared.output.Output.{Output}
use Rattle.cb_file_kinds.specs.Ending.{Comes}
use Rattle.cb_file_kinds.specs.Kinds.{IsWant}
use Rattle.cb_log_commands.specs.Summing.{AnswersFault}
use Rattle.cb_file_kinds.proofs.Chain.{of_all, reads_none}

-- ---- the model

pub tree_stops : (sites : ℕ) (text : List ℕ) (why : SyntaxFault) → text ≡ model_text → TellsFault text why
    → IsWant (fault_of_syntax why) ⊎ HasMadeUpFault sites (fault_of_syntax why)
tree_stops sites text why e (inl want) = inl (rw want refl)
tree_stops sites text why e (inr is) =
    inr (inl (subst (λ (t : List ℕ). IsModelFault t (fault_of_syntax why)) e (inl (record { why = why; has = is; is = refl }))))

pub tables_stop : (sites : ℕ) (text : List ℕ) (tree : Tree) (why : TypeFault) → text ≡ model_text → SpellsModel text tree
    → OnBroken {T = Tables} (Err why) (IsTypeFault tree) → IsWant (fault_of_types why) ⊎ HasMadeUpFault sites (fault_of_types why)
tables_stop sites text tree (types.Broken broken) e spelled is = inr (inl (inr (record {
  tree = tree;
  spells = subst (λ (t : List ℕ). SpellsModel t tree) e spelled;
  broken = broken;
  breaks = is;
  is = refl;
})))
tables_stop sites text tree types.NoMemory e spelled is = inl refl

module _ (sites : ℕ) (text second : List ℕ) (e : text ≡ model_text) (f : second ≡ topology_text sites) (tree : Tree) (tables : Tables)
    (spelled : SpellsModel text tree) (keeps : KeepsAll tree) (stands : Stands tree tables) where
  model_means : Means Role.model nothing model_text (parsed tree)
  model_means = (tree, record { spelled = subst (λ (t : List ℕ). SpellsModel t tree) e spelled; keeps = keeps }, refl)

  -- ---- and the topology after it

  pub network_made : (t : Topology) → MakesTopology tables second t → MakesUp sites t
  network_made t makes = (
    parsed tree,
    model_means,
    (t, record { tables = tables; stands = stands; makes = subst (λ (x : List ℕ). MakesTopology tables x t) f makes }, refl),
  )

  pub words_stop : (line : ℕ) → IsFirstWrong tables second line BadWords → HasMadeUpFault sites (faults.EditWords line)
  words_stop line first =
      inr (parsed tree, model_means, (tables, stands, subst (λ (x : List ℕ). IsFirstWrong tables x line BadWords) f first))

  pub edit_stops : (line : ℕ) (why : EditRefusal) → IsFirstWrong tables second line (Refused why) → HasMadeUpFault sites (faults.Edit line why)
  edit_stops line why first =
      inr (parsed tree, model_means, (tables, stands, subst (λ (x : List ℕ). IsFirstWrong tables x line (Refused why)) f first))

-- ---- a fault

pub refused_comes : (sites start : ℕ) (fault : Fault) (result : Result Output Fault) → AnswersFault fault result
    → IsWant fault ⊎ HasMadeUpFault sites fault → (files : FilesReport) → Comes (grow sites start) files files result
refused_comes sites start fault (Ok output) (empty, is, not) (inl want) files = absurd (not want)
refused_comes sites start fault (Ok output) (empty, is, not) (inr has) files = record {
  known = nothing;
  said = of_all files.left _ (λ left. refl);
  gives = λ left whole. inr (record { fault = fault; has = has; gives = λ i. record { out = empty i; fault = is i; whole = whole } });
  read = ReadsEach-nil files;
  alone = refl;
}
refused_comes sites start fault (Err other) (is, want) has files =
    inl (record { is = subst IsWant (sym is) want; whole = 0; read = reads_none files files (file_words (grow sites start)) refl })
