-- A file says one thing at most, is refused in one way at most, and never both.
use Rattle.std.proofs.Common.{◌≡◌, List, [], ◌∷◌, ℕ, refl, sym, ap, subst, ◌∙◌, inl, inr, Ok, Err, arith}
use Rattle.cb_model.specs.declared.node.NodeName.{NodeName}
use Rattle.cb_model.specs.declared.tables.Tables.{Tables}
use Rattle.cb_grammar.specs.declared.tree.Tree.{Tree}
use Rattle.cb_syntax.specs.declared.fault.SyntaxFault.{SyntaxFault}
use Rattle.cb_syntax.specs.Spells.{SpellsModel}
use Rattle.cb_syntax.specs.Laws.{IsTreeOrFault}
use Rattle.cb_syntax.proofs.One.{one_answer, names_fit}
use Rattle.cb_rules.specs.declared.rule.BrokenRule.{BrokenRule}
use Rattle.cb_rules.specs.Fault.{IsFirstBroken as IsTypeFault}
use Rattle.cb_rules.proofs.Order.{one_fault_is}
use Rattle.cb_check.specs.Stands.{Stands}
use Rattle.cb_check.proofs.One.{one_model}
use Rattle.cb_check.proofs.Typed.{stands_is_typed}
use Rattle.cb_network.specs.Regular.{IsRegular}
use Rattle.cb_network.specs.Topology.{Topology}
use Rattle.cb_line_files.specs.declared.topology.LineFault.{LineFault}
use Rattle.cb_line_files.specs.declared.topology.LineFault.TheVariants.{BadWords, Refused}
use Rattle.cb_line_files.specs.Topologies.{IsFirstWrong, MakesTopology}
use Rattle.cb_line_files.specs.Symptoms.{ListsNodes, IsFirstBad}
use Rattle.cb_line_files.specs.Scripts.{ReadsScript, IsFirstBadLine}
use Rattle.cb_history.specs.declared.script.ScriptLine.{ScriptLine}
use Rattle.cb_cert.specs.declared.certificate.Certificate.{Certificate}
use Rattle.cb_cert.specs.declared.fault.CertText.{CertText}
use Rattle.cb_cert.specs.Format.{SpellsCertificate}
use Rattle.cb_cert.specs.Prefixes.{IsReading}
use Rattle.cb_cert.proofs.Readings.{reading_is_one}
use Rattle.cb_validity.specs.Checks.{IsFirstFail}
use Rattle.cb_validity.proofs.Firsts.{first_fail_is_one}
use Rattle.cb_validity.proofs.Passing.{valid_is_not_rejected}
use Rattle.cb_levels.specs.declared.fault.LevelText.{LevelText}
use Rattle.cb_levels.specs.declared.levels.Levels.{Levels}
use Rattle.cb_levels.specs.Checks.{IsRejectedFor}
use Rattle.cb_levels.specs.Faults.{IsLevelFault}
use Rattle.cb_levels.specs.Format.{SpellsLevels}
use Rattle.cb_levels.proofs.Firsts.{first_fail_is_one as first_level_fail_is_one, valid_is_not_rejected as valid_levels_are_not_rejected}
use Rattle.cb_levels.proofs.OneReading.{level_reading_is_one}
use Rattle.cb_outcome.specs.Roles.{Wanted, Role}
use Rattle.cb_report.specs.declared.fault.Fault.{Fault}
use Rattle.cb_report.specs.declared.fault.Fault.TheVariants as faults
use Rattle.cb_report.specs.FaultSources.{fault_of_syntax, fault_of_text, fault_of_rejected, fault_of_level_text, fault_of_levels}
use Rattle.cb_outcome.specs.Texts.{IsTreeText, IsTopologyText, IsValidText, IsWantedKind, IsLevelText}
use Rattle.cb_outcome.specs.Judged.{File, Known, nothing, parsed, network, raised, certified, levelled, scripted, Means, Says, IsModelFault, IsWrongLine, IsTopologyFault, IsSymptomFault, IsScriptFault, IsCertificateFault, IsFaultFor, AreLevelsFaulty, HasFault, RefusesFile, PassFrom}
use Rattle.cb_outcome.proofs.FirstLines.{long_is_one, long_or_short, bad_is_one, bad_or_listed, nodes_are_one, topology_is_one, made_of, wrong_is_one, wrong_or_makes}
use Rattle.cb_outcome.proofs.ScriptLines.{script_is_one, bad_script_line_is_one, bad_or_script}
use Rattle.cb_network.proofs.Typed.{typed_is_regular}

-- ---- a model

-- a text spells one tree
same_tree : (text : List ℕ) (one other : Tree) → SpellsModel text one → SpellsModel text other → one ≡ other
same_tree text one other s s' = let e = one_answer text (Ok one) (Ok other) s s' in cc

-- a text doesn't both spell a tree and have a fault of its tokens
no_tree : (text : List ℕ) (tree : Tree) (fault : SyntaxFault) → SpellsModel text tree → IsTreeOrFault text (Err fault) → ⊥
no_tree text tree fault s f = let e = one_answer text (Ok tree) (Err fault) s f in cc

one_model_fault : (text : List ℕ) (one other : Fault) → IsModelFault text one → IsModelFault text other → one ≡ other
one_model_fault text one other (inl a) (inl b) =
    let e = one_answer text (Err a.why) (Err b.why) a.has b.has in
    let same : a.why ≡ b.why = cc in
    a.is ∙ (ap fault_of_syntax same ∙ sym b.is)
one_model_fault text one other (inl a) (inr b) = absurd (no_tree text b.tree a.why b.spells a.has)
one_model_fault text one other (inr a) (inl b) = absurd (no_tree text a.tree b.why a.spells b.has)
one_model_fault text one other (inr a) (inr b) =
    let trees = same_tree text a.tree b.tree a.spells b.spells in
    let breaks : IsTypeFault b.tree a.broken = subst (λ (t : Tree). IsTypeFault t a.broken) trees a.breaks in
    a.is ∙ (ap (λ (r : BrokenRule). faults.Kind r) (one_fault_is b.tree a.broken b.broken breaks b.breaks) ∙ sym b.is)

kept_or_broken : (text : List ℕ) (fault : Fault) (tree : Tree) → IsModelFault text fault → IsTreeText text tree → ⊥
kept_or_broken text fault tree (inl a) t = no_tree text tree a.why t.spelled a.has
kept_or_broken text fault tree (inr a) t =
    let trees = same_tree text a.tree tree a.spells t.spelled in
    let breaks : IsTypeFault tree a.broken = subst (λ (x : Tree). IsTypeFault x a.broken) trees a.breaks in
    t.keeps a.broken.rule a.broken.line breaks.broken

-- ---- a topology, after a tree that a text says

module _ (model_text : List ℕ) (tree : Tree) (is : IsTreeText model_text tree) where
  one_tables : (a b : Tables) → Stands tree a → Stands tree b → a ≡ b
  one_tables a b s s' = one_model tree a b is.keeps s s'

  pub regular : (tables : Tables) → Stands tree tables → IsRegular tables
  regular tables s = typed_is_regular tables (stands_is_typed tree tables is.keeps s (names_fit model_text (Ok tree) is.spelled))

  one_topology : (text : List ℕ) (t u : Topology) → IsTopologyText tree text t → IsTopologyText tree text u → t ≡ u
  one_topology text t u a b =
      let same : a.tables ≡ b.tables = one_tables a.tables b.tables a.stands b.stands in
      topology_is_one b.tables (regular b.tables b.stands) text t u (subst (λ (x : Tables). MakesTopology x text t) same a.makes) b.makes

  -- what is wrong on which line
  fault_at : ℕ → LineFault → Fault
  fault_at line BadWords = faults.EditWords line
  fault_at line (Refused why) = faults.Edit line why

  record OfLine (text : List ℕ) (fault : Fault) : Type 0 where
    line : ℕ
    why : LineFault
    wrong : IsWrongLine tree text line why
    at : fault ≡ fault_at line why

  line_of : (text : List ℕ) (fault : Fault) → IsTopologyFault tree text fault → OfLine text fault
  unfolding fault_at
  line_of text (faults.EditWords line) w = record { line = line; why = BadWords; wrong = w; at = refl }
  line_of text (faults.Edit line why) w = record { line = line; why = Refused why; wrong = w; at = refl }
  line_of text fault w = absurd w

  one_wrong_line : (text : List ℕ) (f g : Fault) → OfLine text f → OfLine text g → f ≡ g
  one_wrong_line text f g a b =
      let (tables, stands, first) = a.wrong in
      let (others, stands', first') = b.wrong in
      let same : others ≡ tables = one_tables others tables stands' stands in
      let one = wrong_is_one tables (regular tables stands) text a.line b.line a.why b.why first (subst (λ (x : Tables). IsFirstWrong x text b.line b.why) same first') in
      a.at ∙ ((λ i. fault_at (one.0 i) (one.1 i)) ∙ sym b.at)

  wrong_or_topology : (text : List ℕ) (f : Fault) (t : Topology) → OfLine text f → IsTopologyText tree text t → ⊥
  wrong_or_topology text f t a b =
      let (tables, stands, first) = a.wrong in
      let same : b.tables ≡ tables = one_tables b.tables tables b.stands stands in
      wrong_or_makes tables (regular tables stands) text a.line a.why t first (subst (λ (x : Tables). MakesTopology x text t) same b.makes)

  topology_regular : (text : List ℕ) (t : Topology) → IsTopologyText tree text t → IsRegular t.model
  topology_regular text t a = subst IsRegular (sym (made_of a.tables text t a.makes)) (regular a.tables a.stands)

-- ---- symptoms

bad_line : (text : List ℕ) (fault : Fault) → IsSymptomFault text fault → (line : ℕ) × IsFirstBad text line × (fault ≡ faults.SymptomLine line)
bad_line text (faults.SymptomLine line) f = (line, f, refl)
bad_line text fault f = absurd f

one_bad_line : (text : List ℕ) (f g : Fault) → IsSymptomFault text f → IsSymptomFault text g → f ≡ g
one_bad_line text f g a b =
    let (m, bad, e) = bad_line text f a in
    let (n, bad', h) = bad_line text g b in
    e ∙ (ap (λ (line : ℕ). faults.SymptomLine line) (bad_is_one text m n bad bad') ∙ sym h)

bad_or_nodes : (text : List ℕ) (fault : Fault) (nodes : List NodeName) → IsSymptomFault text fault → ListsNodes text nodes → ⊥
bad_or_nodes text fault nodes f lists = let (line, bad, e) = bad_line text fault f in bad_or_listed text line nodes bad lists

-- ---- a script

bad_script_line : (text : List ℕ) (fault : Fault) → IsScriptFault text fault → (line : ℕ) × IsFirstBadLine text line × (fault ≡ faults.ScriptWords line)
bad_script_line text (faults.ScriptWords line) f = (line, f, refl)
bad_script_line text fault f = absurd f

one_bad_script_line : (text : List ℕ) (f g : Fault) → IsScriptFault text f → IsScriptFault text g → f ≡ g
one_bad_script_line text f g a b =
    let (m, bad, e) = bad_script_line text f a in
    let (n, bad', h) = bad_script_line text g b in
    e ∙ (ap (λ (line : ℕ). faults.ScriptWords line) (bad_script_line_is_one text m n bad bad') ∙ sym h)

faulty_or_script : (text : List ℕ) (fault : Fault) (script : List ScriptLine) → IsScriptFault text fault → ReadsScript text script → ⊥
faulty_or_script text fault script f reads = let (line, bad, e) = bad_script_line text fault f in bad_or_script text line script bad reads

-- ---- a certificate

-- a text spells one certificate
same_certificate : (text : List ℕ) (c d : Certificate) → SpellsCertificate text c → SpellsCertificate text d → c ≡ d
same_certificate text c d s s' = let e = reading_is_one text (Ok c) (Ok d) s s' in cc

-- a text that spells a certificate has no fault
no_certificate : (text : List ℕ) (c : Certificate) (fault : CertText) → SpellsCertificate text c → IsReading text (Err fault) → ⊥
no_certificate text c fault s f = let e = reading_is_one text (Ok c) (Err fault) s f in cc

module _ (t : Topology) (text : List ℕ) where
  one_claim : (f g : Fault) → IsCertificateFault t text f → IsCertificateFault t text g → f ≡ g
  one_claim f g (inl a) (inl b) =
      let one = reading_is_one text (Err a.why) (Err b.why) a.has b.has in
      let same : a.why ≡ b.why = cc in
      a.is ∙ (ap fault_of_text same ∙ sym b.is)
  one_claim f g (inl a) (inr (c, spells, b)) = absurd (no_certificate text c a.why spells a.has)
  one_claim f g (inr (c, spells, a)) (inl b) = absurd (no_certificate text c b.why spells b.has)
  one_claim f g (inr (c, spells, a)) (inr (d, spells', b)) =
      let same = same_certificate text d c spells' spells in
      let one = first_fail_is_one t c a.why b.why a.fails (subst (λ (x : Certificate). IsFirstFail t x b.why) same b.fails) in
      a.is ∙ (ap fault_of_rejected one ∙ sym b.is)

  claim_or_valid : (f : Fault) (c : Certificate) → IsCertificateFault t text f → IsValidText t text c → ⊥
  claim_or_valid f c (inl a) valid = no_certificate text c a.why valid.spelled a.has
  claim_or_valid f c (inr (d, spells, a)) valid =
      valid_is_not_rejected t c a.why valid.valid
      (subst (λ (x : Certificate). IsFirstFail t x a.why) (same_certificate text d c spells valid.spelled) a.fails)

  one_for : (wanted : Wanted) (f g : Fault) → IsFaultFor wanted t text f → IsFaultFor wanted t text g → f ≡ g
  one_for wanted f g (inl a) (inl b) = one_claim f g a b
  one_for wanted f g (inl a) (inr b) = absurd (claim_or_valid f b.certificate a b.valid)
  one_for wanted f g (inr a) (inl b) = absurd (claim_or_valid g a.certificate b a.valid)
  one_for wanted f g (inr a) (inr b) = a.is ∙ sym b.is

  for_or_valid : (wanted : Wanted) (f : Fault) (c : Certificate) → IsFaultFor wanted t text f → IsValidText t text c → IsWantedKind wanted c → ⊥
  for_or_valid wanted f c (inl a) valid kind = claim_or_valid f c a valid
  for_or_valid wanted f c (inr a) valid kind =
      a.other (subst (IsWantedKind wanted) (same_certificate text c a.certificate valid.spelled a.valid.spelled) kind)

-- ---- levels

-- a text spells one list of levels
same_levels : (text : List ℕ) (a b : Levels) → SpellsLevels text a → SpellsLevels text b → a ≡ b
same_levels text a b s s' = let e = level_reading_is_one text (Ok a) (Ok b) s s' in cc

-- a text that spells levels has no fault
no_levels : (text : List ℕ) (levels : Levels) (fault : LevelText) → SpellsLevels text levels → IsLevelFault text fault → ⊥
no_levels text levels fault s f = let e = level_reading_is_one text (Ok levels) (Err fault) s f in cc

module _ (t : Topology) (text : List ℕ) where
  one_level_fault : (f g : Fault) → AreLevelsFaulty t text f → AreLevelsFaulty t text g → f ≡ g
  one_level_fault f g (inl a) (inl b) =
      let one = level_reading_is_one text (Err a.why) (Err b.why) a.has b.has in
      let same : a.why ≡ b.why = cc in
      a.is ∙ (ap fault_of_level_text same ∙ sym b.is)
  one_level_fault f g (inl a) (inr (levels, spells, b)) = absurd (no_levels text levels a.why spells a.has)
  one_level_fault f g (inr (levels, spells, a)) (inl b) = absurd (no_levels text levels b.why spells b.has)
  one_level_fault f g (inr (levels, spells, a)) (inr (others, spells', b)) =
      let same = same_levels text others levels spells' spells in
      let one = first_level_fail_is_one t levels a.why b.why a.fails (subst (λ (x : Levels). IsRejectedFor t x b.why) same b.fails) in
      a.is ∙ (ap fault_of_levels one ∙ sym b.is)

  faulty_or_valid : (f : Fault) (levels : Levels) → AreLevelsFaulty t text f → IsLevelText t text levels → ⊥
  faulty_or_valid f levels (inl a) valid = no_levels text levels a.why valid.spelled a.has
  faulty_or_valid f levels (inr (others, spells, a)) valid =
      valid_levels_are_not_rejected t levels a.why valid.valid
      (subst (λ (x : Levels). IsRejectedFor t x a.why) (same_levels text others levels spells valid.spelled) a.fails)

-- ---- a file

-- what is known came from texts: a tree from one that keeps the rules, and a topology is of a checked model
abbrev pub IsSound : Known → Type 0
IsSound nothing = Unit {0}
IsSound (parsed tree) = (text : List ℕ) × IsTreeText text tree
IsSound (network t) = IsRegular t.model
IsSound (raised t nodes) = IsRegular t.model
IsSound (certified t c) = IsRegular t.model
IsSound (levelled t levels) = IsRegular t.model
IsSound (scripted t script) = IsRegular t.model

pub means_one : (role : Role) (known : Known) (text : List ℕ) → IsSound known → (a b : Known) → Means role known text a → Means role known text b → a ≡ b
means_one Role.model nothing text sound a b (t, is, e) (u, is', h) = e ∙ (ap (λ (x : Tree). parsed x) (same_tree text t u is.spelled is'.spelled) ∙ sym h)
means_one Role.topology (parsed tree) text (from, says) a b (t, is, e) (u, is', h) =
    e ∙ (ap (λ (x : Topology). network x) (one_topology from tree says text t u is is') ∙ sym h)
means_one Role.symptoms (network t) text sound a b (xs, is, e) (ys, is', h) =
    e ∙ (ap (λ (x : List NodeName). raised t x) (nodes_are_one text xs ys is is') ∙ sym h)
means_one (Role.certificate wanted) (network t) text sound a b (c, is, kind, e) (d, is', kind', h) =
    e ∙ (ap (λ (x : Certificate). certified t x) (same_certificate text c d is.spelled is'.spelled) ∙ sym h)
means_one Role.levels (network t) text sound a b (xs, is, e) (ys, is', h) =
    e ∙ (ap (λ (x : Levels). levelled t x) (same_levels text xs ys is.spelled is'.spelled) ∙ sym h)
means_one Role.script (network t) text sound a b (xs, is, e) (ys, is', h) =
    e ∙ (ap (λ (x : List ScriptLine). scripted t x) (script_is_one text xs ys is is') ∙ sym h)
means_one role known text sound a b p q = absurd p

pub fault_one : (role : Role) (known : Known) (text : List ℕ) → IsSound known → (f g : Fault) → HasFault role known text f → HasFault role known text g → f ≡ g
fault_one Role.model nothing text sound f g a b = one_model_fault text f g a b
fault_one Role.topology (parsed tree) text (from, says) f g a b =
    one_wrong_line from tree says text f g (line_of from tree says text f a) (line_of from tree says text g b)
fault_one Role.symptoms (network t) text sound f g a b = one_bad_line text f g a b
fault_one (Role.certificate wanted) (network t) text sound f g a b = one_for t text wanted f g a b
fault_one Role.levels (network t) text sound f g a b = one_level_fault t text f g a b
fault_one Role.script (network t) text sound f g a b = one_bad_script_line text f g a b
fault_one role known text sound f g a b = absurd a

pub means_or_fault : (role : Role) (known : Known) (text : List ℕ) → IsSound known → (a : Known) (f : Fault) → Means role known text a → HasFault role known text f → ⊥
means_or_fault Role.model nothing text sound a f (t, is, e) h = kept_or_broken text f t h is
means_or_fault Role.topology (parsed tree) text (from, says) a f (t, is, e) h = wrong_or_topology from tree says text f t (line_of from tree says text f h) is
means_or_fault Role.symptoms (network t) text sound a f (xs, is, e) h = bad_or_nodes text f xs h is
means_or_fault (Role.certificate wanted) (network t) text sound a f (c, is, kind, e) h = for_or_valid t text wanted f c h is kind
means_or_fault Role.levels (network t) text sound a f (levels, is, e) h = faulty_or_valid t text f levels h is
means_or_fault Role.script (network t) text sound a f (script, is, e) h = faulty_or_script text f script h is
means_or_fault role known text sound a f p h = p

pub means_sound : (role : Role) (known : Known) (text : List ℕ) (next : Known) → IsSound known → Means role known text next → IsSound next
means_sound Role.model nothing text next sound (t, is, e) = subst IsSound (sym e) (text, is)
means_sound Role.topology (parsed tree) text next (from, says) (t, is, e) = subst IsSound (sym e) (topology_regular from tree says text t is)
means_sound Role.symptoms (network t) text next sound (xs, is, e) = subst IsSound (sym e) sound
means_sound (Role.certificate wanted) (network t) text next sound (c, is, kind, e) = subst IsSound (sym e) sound
means_sound Role.levels (network t) text next sound (levels, is, e) = subst IsSound (sym e) sound
means_sound Role.script (network t) text next sound (script, is, e) = subst IsSound (sym e) sound
means_sound role known text next sound p = absurd p

-- what a file says is sound
pub says_sound : (known : Known) (file : File) (next : Known) → IsSound known → Says known file next → IsSound next
says_sound known file next sound s = means_sound file.role known file.text next sound s.means

-- and what files say that pass
pub pass_sound : (known : Known) (files : List File) (last : Known) → IsSound known → PassFrom known files last → IsSound last
pass_sound known [] last sound same = subst IsSound same sound
pass_sound known (file ∷ files) last sound (next, says, pass) = pass_sound next files last (says_sound known file next sound says) pass

module _ (known : Known) (sound : IsSound known) (file : File) where
  pub says_one : (a b : Known) → Says known file a → Says known file b → a ≡ b
  says_one a b p q = means_one file.role known file.text sound a b p.means q.means

  pub refused_one : (a b : Fault) → RefusesFile known file a → RefusesFile known file b → a ≡ b
  refused_one a b (inl p) (inl q) = p.is ∙ sym q.is
  refused_one a b (inl p) (inr (inl q)) = let long = p.bytes in let short = q.bytes in absurd (omega (arith, long, short))
  refused_one a b (inl p) (inr (inr q)) = let long = p.bytes in let short = q.short.bytes in absurd (omega (arith, long, short))
  refused_one a b (inr (inl p)) (inl q) = let long = q.bytes in let short = p.bytes in absurd (omega (arith, long, short))
  refused_one a b (inr (inl p)) (inr (inl q)) =
      p.is ∙ (ap (λ (line : ℕ). faults.LimitLine file.name line) (long_is_one file.text p.line q.line p.first q.first) ∙ sym q.is)
  refused_one a b (inr (inl p)) (inr (inr q)) = absurd (long_or_short file.text p.line p.first (q.short.lines p.limited))
  refused_one a b (inr (inr p)) (inl q) = let long = q.bytes in let short = p.short.bytes in absurd (omega (arith, long, short))
  refused_one a b (inr (inr p)) (inr (inl q)) = absurd (long_or_short file.text q.line q.first (p.short.lines q.limited))
  refused_one a b (inr (inr p)) (inr (inr q)) = fault_one file.role known file.text sound a b p.has q.has

  pub not_both : (next : Known) (fault : Fault) → Says known file next → RefusesFile known file fault → ⊥
  not_both next fault s (inl p) = let long = p.bytes in let short = s.short.bytes in omega (arith, long, short)
  not_both next fault s (inr (inl p)) = long_or_short file.text p.line p.first (s.short.lines p.limited)
  not_both next fault s (inr (inr p)) = means_or_fault file.role known file.text sound next fault s.means p.has
