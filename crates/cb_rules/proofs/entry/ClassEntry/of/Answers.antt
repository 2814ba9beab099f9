use Rattle.std.proofs.Common.{List, ap, subst, ◌∙◌, count_by}
use Rattle.cb_grammar.specs.declared.tree.Member.{Member}
use Rattle.cb_rules.specs.Places.{FindsFirst}
use Rattle.cb_rules.specs.Directory.{name_of_member, is_event, is_relation, is_rule}
use Rattle.cb_rules.proofs.entry.ClassEntry.of.Goals as goal

pub returns : goal.returns
returns c = record {
  parent = c.place_of.ensures;
  members = subst (λ (members : List Member). FindsFirst name_of_member members c.in_ok-first_places.field-0) c.as_slice-members.ensures c.in_ok-first_places.ensures;
  events = c.count_of_kind.ensures ∙ ap (count_by is_event) c.as_slice-members.ensures;
  relations = c.count_of_kind-2.ensures ∙ ap (count_by is_relation) c.as_slice-members.ensures;
  rules = c.count_of_kind-3.ensures ∙ ap (count_by is_rule) c.as_slice-members.ensures;
}
