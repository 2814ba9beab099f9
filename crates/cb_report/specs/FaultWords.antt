-- The words for what is wrong.
use Rattle.std.specs.Prelude.{ℕ, List, codes}
use Rattle.cb_rules.specs.declared.rule.TypeRule.{TypeRule}
use Rattle.cb_rules.specs.declared.rule.TypeRule.TheVariants.{TwoClasses, NoParent, Loop, Depth, TwoNames, NoTarget, BadInverse, NoCause, NoRelation, NoEffect, NoBlocked, NoHidden, TooManyClasses, TooManyMembers, NoRepeat}
use Rattle.cb_network.specs.declared.edit.EditRefusal.{EditRefusal}
use Rattle.cb_network.specs.declared.edit.EditRefusal.TheVariants as refusals

-- the line for out of memory
abbrev pub memory_text : List ℕ
memory_text = codes "error 10 memory\n"

-- the word of a type rule
abbrev pub rule_word : TypeRule → List ℕ
rule_word TwoClasses = codes "two-classes"
rule_word NoParent = codes "no-parent"
rule_word Loop = codes "loop"
rule_word Depth = codes "depth"
rule_word TwoNames = codes "two-names"
rule_word NoTarget = codes "no-target"
rule_word BadInverse = codes "bad-inverse"
rule_word NoCause = codes "no-cause"
rule_word NoRelation = codes "no-relation"
rule_word NoEffect = codes "no-effect"
rule_word NoBlocked = codes "no-blocked"
rule_word NoHidden = codes "no-hidden"
rule_word TooManyClasses = codes "too-many-classes"
rule_word TooManyMembers = codes "too-many-members"
rule_word NoRepeat = codes "no-repeat"

-- the word of a refusal
abbrev pub refusal_word : EditRefusal → List ℕ
refusal_word refusals.NoClass = codes "no-class"
refusal_word refusals.Exists = codes "exists"
refusal_word refusals.NoInstance = codes "no-instance"
refusal_word refusals.NoRelation = codes "no-relation"
refusal_word refusals.WrongKind = codes "wrong-kind"
refusal_word refusals.Linked = codes "linked"
refusal_word refusals.Occupied = codes "occupied"
refusal_word refusals.NotLinked = codes "not-linked"
refusal_word refusals.NoSymptom = codes "no-symptom"
refusal_word refusals.AlreadyMuted = codes "already-muted"
refusal_word refusals.NotMuted = codes "not-muted"
refusal_word refusals.InstanceLimit = codes "instance-limit"
refusal_word refusals.NodeLimit = codes "node-limit"
refusal_word refusals.ProblemLimit = codes "problem-limit"
refusal_word refusals.SymptomLimit = codes "symptom-limit"
