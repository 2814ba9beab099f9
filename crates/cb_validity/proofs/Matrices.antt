-- The groups that valid spans make are the topology's.
use Rattle.std.proofs.Common.{◌↔◌, List, [], ◌∷◌, map, subst, Bool}
use Rattle.std.specs.List.{All, AllZip}
use Rattle.std.proofs.lemmas.List.Elements.{All-nil, All-cons, All-head, All-tail}
use Rattle.cb_model.specs.declared.node.NodeName.{NodeName}
use Rattle.cb_coding.specs.declared.group.Group.{Group}
use Rattle.cb_coding.specs.declared.group.Problem.{Problem}
use Rattle.cb_network.specs.Topology.{Topology}
use Rattle.cb_network.specs.Nodes.{AreProblems}
use Rattle.cb_finding.specs.Matrix.{IsCode, AreCoded, IsMatrix}
use Rattle.cb_network.proofs.One.{problems_are_one}
use Rattle.cb_cert.specs.declared.certificate.Span.{Span}
use Rattle.cb_validity.specs.Spans.{IsSpanOf}
use Rattle.cb_validity.specs.Reading.{IsSpanCode, MakeGroups}
use Rattle.cb_validity.specs.Valid.{AreSpans}
use Rattle.cb_validity.proofs.SpanLaws.{span_lists_caused}

module _ (t : Topology) (nodes : List NodeName) where
  -- the code that is read off a root's span is the root's
  pub code_of_root : (root : NodeName) (span : Span) → IsSpanOf t nodes root span → (columns : List NodeName) (code : List Bool)
      → IsSpanCode nodes columns span code → IsCode t columns root code
  code_of_root root span is [] [] read = read
  code_of_root root span is [] (b ∷ code) read = absurd read
  code_of_root root span is (c ∷ columns) [] read = absurd read
  code_of_root root span is (c ∷ columns) (b ∷ code) read =
      let lists = span_lists_caused t nodes root span is c in
      (((λ yes. lists.0 (read.0.0 yes)), (λ causes. read.0.1 (lists.1 causes))), code_of_root root span is columns code read.1)

  -- the root's code is read off its span
  pub code_of_span : (root : NodeName) (span : Span) → IsSpanOf t nodes root span → (columns : List NodeName) (code : List Bool)
      → IsCode t columns root code → IsSpanCode nodes columns span code
  code_of_span root span is [] [] read = read
  code_of_span root span is [] (b ∷ code) read = absurd read
  code_of_span root span is (c ∷ columns) [] read = absurd read
  code_of_span root span is (c ∷ columns) (b ∷ code) read =
      let lists = span_lists_caused t nodes root span is c in
      (((λ yes. lists.1 (read.0.0 yes)), (λ listed. read.0.1 (lists.0 listed))), code_of_span root span is columns code read.1)

  module _ (columns : List NodeName) where
    codes_of_problems : (problems : List Problem) (spans : List Span) → AllZip (IsSpanOf t nodes) (map (λ (p : Problem). p.name) problems) spans
        → AllZip (λ span (p : Problem). IsSpanCode nodes columns span p.code) spans problems → All (λ (p : Problem). IsCode t columns p.name p.code) problems
    codes_of_problems [] spans are read = All-nil (λ (p : Problem). IsCode t columns p.name p.code)
    codes_of_problems (p ∷ problems) [] are read = absurd are
    codes_of_problems (p ∷ problems) (span ∷ spans) are read =
        All-cons (λ (q : Problem). IsCode t columns q.name q.code) p problems (code_of_root p.name span are.0 columns p.code read.0)
        (codes_of_problems problems spans are.1 read.1)

    codes_of_spans : (problems : List Problem) (spans : List Span) → AllZip (IsSpanOf t nodes) (map (λ (p : Problem). p.name) problems) spans
        → All (λ (p : Problem). IsCode t columns p.name p.code) problems → AllZip (λ span (p : Problem). IsSpanCode nodes columns span p.code) spans problems
    codes_of_spans [] [] are coded = tt
    codes_of_spans [] (span ∷ spans) are coded = absurd are
    codes_of_spans (p ∷ problems) [] are coded = absurd are
    codes_of_spans (p ∷ problems) (span ∷ spans) are coded =
        let C : Problem → Type 0 = λ q. IsCode t columns q.name q.code in
        (code_of_span p.name span are.0 columns p.code (All-head C p problems coded), codes_of_spans problems spans are.1 (All-tail C p problems coded))

pub spans_make_matrix : (t : Topology) (nodes : List NodeName) (spans : List Span) (columns : List NodeName) (groups : List Group)
    → AreSpans t nodes spans → MakeGroups t nodes spans columns groups ↔ IsMatrix t columns groups
spans_make_matrix t nodes spans columns groups are =
    let named : (names : List NodeName) → AreProblems t names → AllZip (IsSpanOf t nodes) names spans =
    λ names is. subst (λ ps. AllZip (IsSpanOf t nodes) ps spans) (problems_are_one t are.problems names are.problems_are is) are.each
    in (
      (λ made.
          let coded : AreCoded t columns made.problems = record {
            names = made.problems_are;
            codes = codes_of_problems t nodes columns made.problems spans (named _ made.problems_are) made.codes_are;
          } in
          record { problems = made.problems; columns_are = made.columns_are; problems_are = coded; groups_are = made.groups_are }),
      (λ matrix.
          record {
            problems = matrix.problems;
            columns_are = matrix.columns_are;
            problems_are = matrix.problems_are.names;
            codes_are = codes_of_spans t nodes columns matrix.problems spans (named _ matrix.problems_are.names) matrix.problems_are.codes;
            groups_are = matrix.groups_are;
          }),
    )
