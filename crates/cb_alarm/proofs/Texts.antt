-- What is looked at under a name of an object.
use Rattle.std.proofs.Common.{◌≡◌, ℕ, List, sym, ap, subst, ◌∙◌, Option, Some, None}
use Rattle.std.specs.Prelude.{option_and_then}
use Rattle.serde_json.specs.Data.{Data, null, boolean, number, string, array, object, Members}
use Rattle.serde_json.specs.Find.{get, get_member, as_str}
use Rattle.cb_text.specs.Names.{IsNodeText}
use Rattle.cb_model.specs.declared.node.NodeName.{NodeName}
use Rattle.cb_alarm.specs.Spelled.{SaysText, IsNodeUnder}
use Rattle.cb_alarm.proofs.OneRecord.{text_is_one}

is_string : (o : Option Data) (text : List ℕ) → Some text ≡ option_and_then as_str o → o ≡ Some (string text)
is_string None text e = absurd (cc e)
is_string (Some null) text e = absurd (cc e)
is_string (Some (boolean b)) text e = absurd (cc e)
is_string (Some (number n)) text e = absurd (cc e)
is_string (Some (string s)) text e = let same : text ≡ s = cc e in ap (λ t. Some (string t)) (sym same)
is_string (Some (array ds)) text e = absurd (cc e)
is_string (Some (object ms)) text e = absurd (cc e)

module _ (value : Data) (ms : Members) (is : value ≡ object ms) (name : List ℕ) where
  there : get name value ≡ get_member name ms
  there = ap (get name) is

  -- the string that was found is said
  pub says_text : (text : List ℕ) → Some text ≡ option_and_then as_str (get name value) → SaysText ms name text
  says_text text e = is_string (get_member name ms) text (e ∙ ap (option_and_then as_str) there)

  -- where none was found, none is said
  pub says_no_text : None ≡ option_and_then as_str (get name value) → (text : List ℕ) → SaysText ms name text → ⊥
  says_no_text e text says =
      let none : None ≡ option_and_then as_str (get_member name ms) = e ∙ ap (option_and_then as_str) there in
      let some : option_and_then as_str (get_member name ms) ≡ Some text = ap (option_and_then as_str) says in
      absurd (cc (none ∙ some))

-- a string that is no node has no node under its name
pub no_node_under : (ms : Members) (name text : List ℕ) → SaysText ms name text
    → ((event instance : List ℕ) → IsNodeText text event instance → ⊥) → (node : NodeName) → IsNodeUnder ms name node → ⊥
no_node_under ms name text says none node (t, said, is) =
    none node.event node.instance (subst (λ (u : List ℕ). IsNodeText u node.event node.instance) (text_is_one ms name t text said says) is)
