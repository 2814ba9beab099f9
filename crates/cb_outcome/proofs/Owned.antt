-- The fault of a text is determined by the words and the files alone, and names no file.
use Rattle.std.proofs.Common.{◌≡◌, ℕ, List, [], refl, sym, ap, subst, inl, inr}
use Rattle.cb_network.specs.Topology.{Topology}
use Rattle.cb_syntax.specs.declared.fault.SyntaxFault.{SyntaxFault}
use Rattle.cb_syntax.specs.declared.fault.SyntaxFault.TheVariants as syntax
use Rattle.cb_syntax.specs.Spells.{IsFirstSyntaxFault as IsSyntaxFault}
use Rattle.cb_cert.specs.declared.certificate.Certificate.{Certificate}
use Rattle.cb_cert.specs.declared.certificate.Certificate.TheVariants.{Book, Capped, Thin}
use Rattle.cb_cert.specs.declared.fault.CertText.{CertText}
use Rattle.cb_cert.specs.declared.fault.CertText.TheVariants as texts
use Rattle.cb_cert.specs.Prefixes.{IsFault as IsFormFault}
use Rattle.cb_validity.specs.declared.verdict.Rejected.{Rejected}
use Rattle.cb_validity.specs.declared.verdict.Rejected.TheVariants as rejected
use Rattle.cb_validity.specs.Checks.{Check, node_check, column_check, root_check, parent_check, edge_check, new_check, closed_check, no_more_problems, no_more_spans, claim_check, radius_check, ReportsCheck, IsFirstFail}
use Rattle.cb_levels.specs.declared.fault.LevelText.{LevelText}
use Rattle.cb_levels.specs.declared.fault.LevelText.TheVariants as level_texts
use Rattle.cb_levels.specs.declared.levels.Levels.{Levels}
use Rattle.cb_levels.specs.declared.verdict.LevelFault.{LevelFault}
use Rattle.cb_levels.specs.declared.verdict.LevelFault.TheVariants as level_faults
use Rattle.cb_levels.specs.Checks.{LevelCheck, ReportsLevelCheck, node_check as level_node_check, root_check as level_root_check, parent_check as level_parent_check, edge_check as level_edge_check, new_check as level_new_check, level_check, closed_check as level_closed_check, short_check, IsRejectedFor}
use Rattle.cb_levels.specs.Faults.{IsLevelFault}
use Rattle.cb_report.specs.declared.fault.Fault.{Fault}
use Rattle.cb_report.specs.declared.fault.Fault.TheVariants as faults
use Rattle.cb_report.specs.declared.status.Status.{Status}
use Rattle.cb_report.specs.declared.status.Status.TheVariants as statuses
use Rattle.cb_report.specs.Faults.{status_of}
use Rattle.cb_report.specs.FaultSources.{fault_of_syntax, fault_of_text, fault_of_rejected, fault_of_level_text, fault_of_levels}
use Rattle.cb_outcome.specs.Roles.{Wanted, Role}
use Rattle.cb_outcome.specs.Outcome.{Outcome, refused}
use Rattle.cb_outcome.specs.Judged.{Known, nothing, parsed, network, HasFault}
use Rattle.cb_outcome.proofs.Lawful.{NamesNoFile, IsOwnStatus, IsOwnFault, IsQuietAt}

-- no check tells out of memory
tells_no_want : (t : Topology) (c : Certificate) (check : Check) → ReportsCheck t c check rejected.NoMemory → ⊥
tells_no_want t c (node_check place) e = cc
tells_no_want t c (column_check place) e = cc
tells_no_want t c (root_check a) e = cc
tells_no_want t c (parent_check a place) e = cc
tells_no_want t c (edge_check a place) e = cc
tells_no_want t c (new_check a place) e = cc
tells_no_want t c (closed_check a place) (successor, least, e) = cc
tells_no_want t c (no_more_problems problems spans) (p, is, e) = cc
tells_no_want t c (no_more_spans problems spans) e = cc
tells_no_want t (Book distance nodes columns spans) claim_check none = none
tells_no_want t (Capped cap nodes columns radii spans) claim_check none = none
tells_no_want t (Thin wanted distance nodes first second) claim_check none = none
tells_no_want t (Book distance nodes columns spans) radius_check none = none
tells_no_want t (Capped cap nodes columns radii spans) radius_check (place, is, e) = cc
tells_no_want t (Thin wanted distance nodes first second) radius_check none = none

-- the status of a fault of a text, by its role
abbrev pub IsStatusFor : Role → Status → Type 0
IsStatusFor Role.model status = status ≡ statuses.Model
IsStatusFor Role.topology status = status ≡ statuses.Topology
IsStatusFor Role.symptoms status = status ≡ statuses.Topology
IsStatusFor (Role.certificate wanted) status = status ≡ statuses.Certificate
IsStatusFor Role.levels status = status ≡ statuses.Certificate
IsStatusFor Role.script status = status ≡ statuses.Topology

pub record IsTextFault (role : Role) (fault : Fault) : Type 0 where
  pub nameless : NamesNoFile fault
  pub status : IsStatusFor role (status_of fault)

of_tokens : (text : List ℕ) (why : SyntaxFault) → IsSyntaxFault text why → IsTextFault Role.model (fault_of_syntax why)
of_tokens text (syntax.BadByte line) has = record { nameless = tt; status = refl }
of_tokens text (syntax.Unexpected line column) has = record { nameless = tt; status = refl }
of_tokens text (syntax.LongName line) has = record { nameless = tt; status = refl }
of_tokens text syntax.Unfinished has = record { nameless = tt; status = refl }
of_tokens text syntax.NoMemory has = absurd has

of_form : (wanted : Wanted) (text : List ℕ) (why : CertText) → IsFormFault text why → IsTextFault (Role.certificate wanted) (fault_of_text why)
of_form wanted text texts.BadHeader has = record { nameless = tt; status = refl }
of_form wanted text (texts.BadLine line) has = record { nameless = tt; status = refl }
of_form wanted text texts.Truncated has = record { nameless = tt; status = refl }
of_form wanted text (texts.Extra line) has = record { nameless = tt; status = refl }
of_form wanted text (texts.TooManyEntries line) has = record { nameless = tt; status = refl }
of_form wanted text texts.NoMemory has = absurd has

of_check : (wanted : Wanted) (t : Topology) (c : Certificate) (why : Rejected) → IsFirstFail t c why → IsTextFault (Role.certificate wanted) (fault_of_rejected why)
of_check wanted t c (rejected.BadNode place) fails = record { nameless = tt; status = refl }
of_check wanted t c (rejected.BadColumn place) fails = record { nameless = tt; status = refl }
of_check wanted t c (rejected.NoSpan problem) fails = record { nameless = tt; status = refl }
of_check wanted t c (rejected.ExtraSpan place) fails = record { nameless = tt; status = refl }
of_check wanted t c (rejected.BadRoot entry) fails = record { nameless = tt; status = refl }
of_check wanted t c (rejected.BadParent entry) fails = record { nameless = tt; status = refl }
of_check wanted t c (rejected.NoEdge entry) fails = record { nameless = tt; status = refl }
of_check wanted t c (rejected.Repeated entry) fails = record { nameless = tt; status = refl }
of_check wanted t c (rejected.NotClosed entry successor) fails = record { nameless = tt; status = refl }
of_check wanted t c (rejected.TooClose first second distance) fails = record { nameless = tt; status = refl }
of_check wanted t c (rejected.NotThin distance) fails = record { nameless = tt; status = refl }
of_check wanted t c (rejected.BadRadius place) fails = record { nameless = tt; status = refl }
of_check wanted t c rejected.NoMemory (checks, are, fails) = absurd (tells_no_want t c fails.check fails.tells)

-- no check of levels reports that memory ran out
levels_tell_no_want : (t : Topology) (levels : Levels) (check : LevelCheck) → ReportsLevelCheck t levels check level_faults.NoMemory → ⊥
levels_tell_no_want t levels (level_node_check place) e = cc
levels_tell_no_want t levels level_root_check e = cc
levels_tell_no_want t levels (level_parent_check place) e = cc
levels_tell_no_want t levels (level_edge_check place) e = cc
levels_tell_no_want t levels (level_new_check place) e = cc
levels_tell_no_want t levels (level_check place) e = cc
levels_tell_no_want t levels (level_closed_check place) (successor, least, e) = cc
levels_tell_no_want t levels (short_check place) (successor, least, e) = cc

of_level_form : (text : List ℕ) (why : LevelText) → IsLevelFault text why → IsTextFault Role.levels (fault_of_level_text why)
of_level_form text level_texts.BadHeader has = record { nameless = tt; status = refl }
of_level_form text (level_texts.BadLine line) has = record { nameless = tt; status = refl }
of_level_form text level_texts.Truncated has = record { nameless = tt; status = refl }
of_level_form text (level_texts.Extra line) has = record { nameless = tt; status = refl }
of_level_form text level_texts.NoMemory has = absurd has

of_level_check : (t : Topology) (levels : Levels) (why : LevelFault) → IsRejectedFor t levels why → IsTextFault Role.levels (fault_of_levels why)
of_level_check t levels (level_faults.BadNode place) fails = record { nameless = tt; status = refl }
of_level_check t levels (level_faults.BadRoot entry) fails = record { nameless = tt; status = refl }
of_level_check t levels (level_faults.BadParent entry) fails = record { nameless = tt; status = refl }
of_level_check t levels (level_faults.NoEdge entry) fails = record { nameless = tt; status = refl }
of_level_check t levels (level_faults.Repeated entry) fails = record { nameless = tt; status = refl }
of_level_check t levels (level_faults.BadLevel entry) fails = record { nameless = tt; status = refl }
of_level_check t levels (level_faults.NotClosed entry successor) fails = record { nameless = tt; status = refl }
of_level_check t levels (level_faults.NotShort entry successor) fails = record { nameless = tt; status = refl }
of_level_check t levels level_faults.NoMemory fails = absurd (levels_tell_no_want t levels fails.check fails.tells)

same_fault : (role : Role) (fault other : Fault) → fault ≡ other → IsTextFault role other → IsTextFault role fault
same_fault role fault other e is = subst (IsTextFault role) (sym e) is

pub text_fault : (role : Role) (known : Known) (text : List ℕ) (fault : Fault) → HasFault role known text fault → IsTextFault role fault
text_fault Role.model nothing text fault (inl a) = same_fault Role.model fault (fault_of_syntax a.why) a.is (of_tokens text a.why a.has)
text_fault Role.model nothing text fault (inr a) = same_fault Role.model fault (faults.Kind a.broken) a.is (record { nameless = tt; status = refl })
text_fault Role.topology (parsed tree) text (faults.Edit line why) h = record { nameless = tt; status = refl }
text_fault Role.topology (parsed tree) text (faults.EditWords line) h = record { nameless = tt; status = refl }
text_fault Role.topology (parsed tree) text fault h = absurd h
text_fault Role.symptoms (network t) text (faults.SymptomLine line) h = record { nameless = tt; status = refl }
text_fault Role.symptoms (network t) text fault h = absurd h
text_fault (Role.certificate wanted) (network t) text fault (inl (inl a)) =
    same_fault (Role.certificate wanted) fault (fault_of_text a.why) a.is (of_form wanted text a.why a.has)
text_fault (Role.certificate wanted) (network t) text fault (inl (inr (c, spells, a))) =
    same_fault (Role.certificate wanted) fault (fault_of_rejected a.why) a.is (of_check wanted t c a.why a.fails)
text_fault (Role.certificate wanted) (network t) text fault (inr a) =
    same_fault (Role.certificate wanted) fault faults.NotBook a.is (record { nameless = tt; status = refl })
text_fault Role.levels (network t) text fault (inl a) = same_fault Role.levels fault (fault_of_level_text a.why) a.is (of_level_form text a.why a.has)
text_fault Role.levels (network t) text fault (inr (levels, spells, a)) =
    same_fault Role.levels fault (fault_of_levels a.why) a.is (of_level_check t levels a.why a.fails)
text_fault Role.script (network t) text (faults.ScriptWords line) h = record { nameless = tt; status = refl }
text_fault Role.script (network t) text fault h = absurd h
text_fault role known text fault h = absurd h

own_status : (role : Role) (status : Status) → IsStatusFor role status → IsOwnStatus status
own_status Role.model status e = subst IsOwnStatus (sym e) tt
own_status Role.topology status e = subst IsOwnStatus (sym e) tt
own_status Role.symptoms status e = subst IsOwnStatus (sym e) tt
own_status (Role.certificate wanted) status e = subst IsOwnStatus (sym e) tt
own_status Role.levels status e = subst IsOwnStatus (sym e) tt
own_status Role.script status e = subst IsOwnStatus (sym e) tt

pub has_own : (role : Role) (known : Known) (text : List ℕ) (fault : Fault) → HasFault role known text fault → IsOwnFault fault
has_own role known text fault has =
    let is = text_fault role known text fault has in
    record { nameless = is.nameless; status = own_status role (status_of fault) is.status }

quiet_at : (status : Status) (out : List ℕ) → out ≡ [] → IsQuietAt status out
quiet_at statuses.Distance out e = tt
quiet_at status out e = e

pub refused_quietly : (fault : Fault) (whole : ℕ) (a : Outcome) → a ≡ refused fault whole → IsQuietAt (status_of fault) a.out
refused_quietly fault whole a e = quiet_at (status_of fault) a.out (ap (λ (o : Outcome). o.out) e)
