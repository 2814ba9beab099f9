-- Each line of a log comes to an entry, so each log has events.
use Rattle.std.proofs.Common.{◌≡◌, ◌⊎◌, ◌<◌, ℕ, List, [], ◌∷◌, refl, subst, inl, inr, arith, Bool, true, false, Option, None, Some}
use Rattle.std.specs.Prelude.{codes, is_some}
use Rattle.std.specs.List.{Contains, count_by}
use Rattle.std.specs.Str.{is_utf8}
use Rattle.std.proofs.lemmas.Bool.{false_from_ne_true}
use Rattle.std.proofs.lemmas.Str.{IsUtf8-from_is_utf8, is_utf8-from_IsUtf8}
use Rattle.serde_json.specs.Data.{Data, null, boolean, number, string, array, object, Members}
use Rattle.serde_json.specs.Find.{get_member}
use Rattle.serde_json.specs.Read.{read}
use Rattle.cb_text.specs.Names.{IsInstance, IsNodeText}
use Rattle.cb_text.specs.Words.{words_of}
use Rattle.cb_model.specs.declared.node.NodeName.{NodeName}
use Rattle.cb_network.specs.declared.edit.Edit.{Edit}
use Rattle.cb_network.proofs.Decided.{Decision, decide_both, decide_same, decide_true, decide_number}
use Rattle.cb_change.proofs.Closure.{decide_or, decide_not}
use Rattle.cb_edits.specs.Spelled.{SpellsEdit}
use Rattle.cb_log.specs.declared.event.SkipKind.{SkipKind}
use Rattle.cb_log.specs.declared.event.SkipKind.TheVariants.{NotJson, NotObject, BadAt, BadSource, BadBody, BadName, BadEdit}
use Rattle.cb_log.specs.declared.event.SkipWhy.TheVariants.{Long, Bad}
use Rattle.cb_log.specs.declared.record.Body.{Body}
use Rattle.cb_log.specs.declared.record.Body.TheVariants.{Raise, Clear, Change, Tick}
use Rattle.cb_log.specs.declared.record.Record.{Record}
use Rattle.cb_log.specs.Entries.{LogEntry, said, skipped, blank}
use Rattle.cb_alarm.specs.Faults.{IsFirstFault, IsValueFault}
use Rattle.cb_alarm.specs.Lines.{NumberedLine, text, long, IsEntryOfText, ComesTo, ComeTo}
use Rattle.cb_alarm.specs.Skips.{skip_number, HasKey, HasNoText, HasNoNode, IsFaulty, IsSkipped}
use Rattle.cb_alarm.specs.Spelled.{ReadsJson, time_of, kinds_in, SaysText, IsSource, IsNodeUnder, SaysBody, SpellsRecord}
use Rattle.cb_alarm.proofs.FirstFaults.{value_skipped}
use Rattle.cb_alarm.proofs.OneRecord.{has, text_is_one}
use Rattle.cb_existence.proofs.EditWords.{decide_spells_edit}
use Rattle.cb_existence.proofs.Found.{decide_empty}
use Rattle.cb_existence.proofs.Least.{least_of}
use Rattle.cb_existence.proofs.Names.{decide_is_instance, decide_node_text}
use Rattle.cb_existence.proofs.SmallTimes.{read_small, time_small}

-- what a member says

decide_string : (o : Option Data) → Decision ((s : List ℕ) × (o ≡ Some (string s)))
decide_string None = inr (λ (s, e). absurd (cc))
decide_string (Some null) = inr (λ (s, e). absurd (cc))
decide_string (Some (boolean b)) = inr (λ (s, e). absurd (cc))
decide_string (Some (number n)) = inr (λ (s, e). absurd (cc))
decide_string (Some (string s)) = inl (s, refl)
decide_string (Some (array ds)) = inr (λ (s, e). absurd (cc))
decide_string (Some (object ms)) = inr (λ (s, e). absurd (cc))

decide_yes : (o : Option Data) → Decision (o ≡ Some (boolean true))
decide_yes None = inr (λ e. absurd (cc))
decide_yes (Some null) = inr (λ e. absurd (cc))
decide_yes (Some (boolean true)) = inl refl
decide_yes (Some (boolean false)) = inr (λ e. absurd (cc))
decide_yes (Some (number n)) = inr (λ e. absurd (cc))
decide_yes (Some (string s)) = inr (λ e. absurd (cc))
decide_yes (Some (array ds)) = inr (λ e. absurd (cc))
decide_yes (Some (object ms)) = inr (λ e. absurd (cc))

decide_absent : (o : Option ℕ) → Decision (o ≡ None)
decide_absent None = inl refl
decide_absent (Some n) = inr (λ e. absurd (cc))

-- that there is none such is that each is none such
none_such : {X : Type 0} (P : X → Type 0) → Decision ((x : X) × P x) → Decision ((x : X) → ¬ P x)
none_such {X = X} P found = decide_same (¬ ((x : X) × P x)) ((x : X) → ¬ P x) (λ none x p. none (x, p)) (λ each (x, p). each x p) (decide_not _ found)

module _ (ms : Members) where
  decide_key : (name : List ℕ) → Decision (HasKey ms name)
  decide_key name = decide_true (is_some (get_member name ms))

  decide_text : (name : List ℕ) → Decision ((s : List ℕ) × SaysText ms name s)
  decide_text name = decide_string (get_member name ms)

  decide_source : Decision ((source : List ℕ) × IsSource ms source)
  decide_source = elim (decide_text (codes "from")) [
    | inl (s, says) ↦
        decide_same (IsInstance s) ((source : List ℕ) × IsSource ms source) (λ good. (s, (says, good)))
        (λ (source, (also, good)). subst IsInstance (text_is_one ms (codes "from") source s also says) good) (decide_is_instance s)
    | inr none ↦ inr (λ (source, (says, good)). none (source, says))
  ]

  decide_node_under : (name : List ℕ) → Decision ((node : NodeName) × IsNodeUnder ms name node)
  decide_node_under name = elim (decide_text name) [
    | inl (s, says) ↦
        decide_same ((event : List ℕ) × (instance : List ℕ) × IsNodeText s event instance) ((node : NodeName) × IsNodeUnder ms name node)
        (λ (event, instance, is). (record { event = event; instance = instance }, (s, says, is)))
        (λ (node, (also, says_also, is)). (node.event, node.instance, subst (λ (u : List ℕ). IsNodeText u node.event node.instance) (text_is_one ms name also s says_also says) is))
        (decide_node_text s)
    | inr none ↦ inr (λ (node, (s, says, is)). none (s, says))
  ]

  decide_no_text : (name : List ℕ) → Decision (HasNoText ms name)
  decide_no_text name = decide_both _ _ (decide_key name) (none_such (SaysText ms name) (decide_text name))

  -- a string under the name, of which nothing is P
  decide_wrong_text : (name : List ℕ) (P : List ℕ → Type 0) → ((s : List ℕ) → Decision (P s)) → Decision ((s : List ℕ) × SaysText ms name s × P s)
  decide_wrong_text name P decide = elim (decide_text name) [
    | inl (s, says) ↦
        decide_same (P s) ((u : List ℕ) × SaysText ms name u × P u) (λ p. (s, says, p)) (λ (u, also, p). subst P (text_is_one ms name u s also says) p) (decide s)
    | inr none ↦ inr (λ (s, says, p). none (s, says))
  ]

  decide_no_node : (name : List ℕ) → Decision (HasNoNode ms name)
  decide_no_node name = decide_wrong_text name (λ s. (node : NodeName) → ¬ IsNodeUnder ms name node) (λ s. none_such (IsNodeUnder ms name) (decide_node_under name))

  decide_faulty : (kind : SkipKind) → Decision (IsFaulty ms kind)
  decide_faulty NotJson = inr (λ none. none)
  decide_faulty NotObject = inr (λ none. none)
  decide_faulty BadAt = decide_absent (time_of ms)
  decide_faulty BadSource = decide_both _ _ (decide_or _ _ (decide_key (codes "raise")) (decide_key (codes "clear"))) (none_such (IsSource ms) decide_source)
  decide_faulty BadBody =
      decide_or _ _ (decide_not _ (decide_number (kinds_in ms) 1))
      (decide_or _ _ (decide_no_text (codes "raise")) (decide_or _ _ (decide_no_text (codes "clear")) (decide_or _ _ (decide_no_text (codes "edit"))
      (decide_both _ _ (decide_key (codes "tick")) (decide_not _ (decide_yes (get_member (codes "tick") ms)))))))
  decide_faulty BadName = decide_or _ _ (decide_no_node (codes "raise")) (decide_no_node (codes "clear"))
  decide_faulty BadEdit = decide_wrong_text (codes "edit") (λ s. (edit : Edit) → ¬ SpellsEdit s edit) (λ s. none_such (SpellsEdit s) (decide_spells_edit s))

-- of four truth values of which one is true not all are false
not_all_false : (a b c d : Bool) → count_by (λ x. x) (a ∷ b ∷ c ∷ d ∷ []) ≡ 1 → a ≡ false → b ≡ false → c ≡ false → d ≡ false → ⊥
not_all_false true b c d e p q r s = absurd (cc)
not_all_false false true c d e p q r s = absurd (cc)
not_all_false false false true d e p q r s = absurd (cc)
not_all_false false false false true e p q r s = absurd (cc)
not_all_false false false false false e p q r s = absurd (omega arith)

-- an object without a fault says a record
module _ (ms : Members) (good : (kind : SkipKind) → ¬ IsFaulty ms kind) where
  one_kind : kinds_in ms ≡ 1
  one_kind = elim (decide_number (kinds_in ms) 1) [ inl one ↦ one | inr other ↦ absurd (good BadBody (inl other)) ]

  source_of : HasKey ms (codes "raise") ⊎ HasKey ms (codes "clear") → (source : List ℕ) × IsSource ms source
  source_of key = elim (decide_source ms) [ inl found ↦ found | inr none ↦ absurd (good BadSource (key, λ source is. none (source, is))) ]

  -- a string that is no bad one of its kind
  text_of : (name : List ℕ) → HasKey ms name → ¬ HasNoText ms name → (s : List ℕ) × SaysText ms name s
  text_of name key fine = elim (decide_text ms name) [ inl found ↦ found | inr none ↦ absurd (fine (key, λ s says. none (s, says))) ]

  node_of : (name : List ℕ) → HasKey ms name → ¬ HasNoText ms name → ¬ HasNoNode ms name → (node : NodeName) × IsNodeUnder ms name node
  node_of name key fine named = elim (decide_node_under ms name) [
    | inl found ↦ found
    | inr none ↦ let (s, says) = text_of name key fine in absurd (named (s, says, λ node is. none (node, is)))
  ]

  edit_of : HasKey ms (codes "edit") → (edit : Edit) × SaysBody ms (Change edit)
  edit_of key =
      let (s, says) = text_of (codes "edit") key (λ no. good BadBody (inr (inr (inr (inl no))))) in
      elim (decide_spells_edit s) [
        | inl (edit, is) ↦ (edit, (s, says, is))
        | inr none ↦ absurd (good BadEdit (s, says, λ edit is. none (edit, is)))
      ]

  body_of : (body : Body) × SaysBody ms body
  body_of = elim (decide_key ms (codes "raise")) [
    | inl key ↦
        let (node, is) = node_of (codes "raise") key (λ no. good BadBody (inr (inl no))) (λ no. good BadName (inl no)) in
        let (source, from) = source_of (inl key) in
        (Raise source node, (is, from))
    | inr no_raise ↦ elim (decide_key ms (codes "clear")) [
      | inl key ↦
          let (node, is) = node_of (codes "clear") key (λ no. good BadBody (inr (inr (inl no)))) (λ no. good BadName (inr no)) in
          let (source, from) = source_of (inr key) in
          (Clear source node, (is, from))
      | inr no_clear ↦ elim (decide_key ms (codes "edit")) [
        | inl key ↦ let (edit, is) = edit_of key in (Change edit, is)
        | inr no_edit ↦ elim (decide_key ms (codes "tick")) [
          | inl key ↦ elim (decide_yes (get_member (codes "tick") ms)) [
            | inl says ↦ (Tick, says)
            | inr other ↦ absurd (good BadBody (inr (inr (inr (inr (key, other))))))
          ]
          | inr no_tick ↦ absurd (not_all_false (has ms (codes "raise")) (has ms (codes "clear")) (has ms (codes "edit")) (has ms (codes "tick")) one_kind
              (false_from_ne_true _ no_raise) (false_from_ne_true _ no_clear) (false_from_ne_true _ no_edit) (false_from_ne_true _ no_tick))
        ]
      ]
    ]
  ]

  time_is : (at : ℕ) × (time_of ms ≡ Some at)
  time_is = elim (time_of ms) as (λ o. time_of ms ≡ o → (at : ℕ) × (time_of ms ≡ Some at)) [
    | None ↦ λ none. absurd (good BadAt none)
    | Some at ↦ λ is. (at, is)
  ] refl

-- a line's entry

all_kinds : List SkipKind
all_kinds = NotJson ∷ NotObject ∷ BadAt ∷ BadSource ∷ BadBody ∷ BadName ∷ BadEdit ∷ []

is_kind : (kind : SkipKind) → Contains all_kinds kind
unfolding all_kinds
is_kind NotJson = (0, omega arith, refl)
is_kind NotObject = (1, omega arith, refl)
is_kind BadAt = (2, omega arith, refl)
is_kind BadSource = (3, omega arith, refl)
is_kind BadBody = (4, omega arith, refl)
is_kind BadName = (5, omega arith, refl)
is_kind BadEdit = (6, omega arith, refl)

none_earlier : (kind : SkipKind) → skip_number kind < skip_number NotJson → ⊥
none_earlier NotJson lt = omega arith
none_earlier NotObject lt = omega arith
none_earlier BadAt lt = omega arith
none_earlier BadSource lt = omega arith
none_earlier BadBody lt = omega arith
none_earlier BadName lt = omega arith
none_earlier BadEdit lt = omega arith

-- a fault of an object is one of the value
object_fault : (ms : Members) (kind : SkipKind) → IsFirstFault ms kind → IsValueFault (object ms) kind
object_fault ms NotJson first = absurd first.0
object_fault ms NotObject first = absurd first.0
object_fault ms BadAt first = (ms, refl, first)
object_fault ms BadSource first = (ms, refl, first)
object_fault ms BadBody first = (ms, refl, first)
object_fault ms BadName first = (ms, refl, first)
object_fault ms BadEdit first = (ms, refl, first)

module _ (line_number : ℕ) (bytes : List ℕ) where
  abbrev HasEntry : Type 0
  HasEntry = (entry : LogEntry) × IsEntryOfText line_number bytes entry

  skipped_for : (kind : SkipKind) → IsSkipped bytes kind → HasEntry
  skipped_for kind is = (skipped line_number (Bad kind), inr (kind, is, refl))

  no_json : ((value : Data) → ¬ ReadsJson bytes value) → HasEntry
  no_json none = skipped_for NotJson (none, λ other lt fails. none_earlier other lt)

  of_object : (ms : Members) → ReadsJson bytes (object ms) → HasEntry
  of_object ms reads = elim (least_of skip_number (IsFaulty ms) (decide_faulty ms) all_kinds) [
    | inl (kind, is) ↦ skipped_for kind (value_skipped bytes (object ms) reads kind (object_fault ms kind (is.holds, λ other lt. is.least other (is_kind other) lt)))
    | inr none ↦
        let good : (kind : SkipKind) → ¬ IsFaulty ms kind = λ kind. none kind (is_kind kind) in
        let (at, at_is) = time_is ms good in
        let (body, says) = body_of ms good in
        let r : Record = record { at = at; body = body } in
        let spells : SpellsRecord bytes r = record {
          members = ms;
          reads = reads;
          at = at_is;
          small = time_small ms at (read_small bytes ms reads.is) at_is;
          one = one_kind ms good;
          body = says;
        } in
        (said line_number r, inl (r, spells, refl))
  ]

  of_value : (value : Data) → ReadsJson bytes value → HasEntry
  of_value null reads = skipped_for NotObject (value_skipped bytes null reads NotObject (λ ms e. absurd (cc)))
  of_value (boolean b) reads = skipped_for NotObject (value_skipped bytes (boolean b) reads NotObject (λ ms e. absurd (cc)))
  of_value (number n) reads = skipped_for NotObject (value_skipped bytes (number n) reads NotObject (λ ms e. absurd (cc)))
  of_value (string s) reads = skipped_for NotObject (value_skipped bytes (string s) reads NotObject (λ ms e. absurd (cc)))
  of_value (array ds) reads = skipped_for NotObject (value_skipped bytes (array ds) reads NotObject (λ ms e. absurd (cc)))
  of_value (object ms) reads = of_object ms reads

  of_text : HasEntry
  of_text = elim (decide_true (is_utf8 bytes)) [
    | inr other ↦ no_json (λ value reads. other (is_utf8-from_IsUtf8 bytes reads.text))
    | inl is ↦ elim (read bytes) as (λ o. read bytes ≡ o → HasEntry) [
      | None ↦ λ none. no_json (λ value reads. let e = reads.is in absurd (cc))
      | Some value ↦ λ found. of_value value (record { text = IsUtf8-from_is_utf8 bytes is; is = found })
    ] refl
  ]

pub line_comes : (line : NumberedLine) → (entry : LogEntry) × ComesTo line entry
line_comes (long n) = (skipped n Long, refl)
line_comes (text n bytes) = elim (decide_empty (words_of bytes)) [
  | inl none ↦ (blank, inl (none, refl))
  | inr some ↦ let (entry, is) = of_text n bytes in (entry, inr (some, is))
]

pub lines_come : (lines : List NumberedLine) → (entries : List LogEntry) × ComeTo lines entries
lines_come [] = ([], tt)
lines_come (line ∷ lines) =
    let first = line_comes line in
    let rest = lines_come lines in
    (first.0 ∷ rest.0, (first.1, rest.1))
