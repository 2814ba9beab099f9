-- A span lists exactly what its root causes.
use Rattle.std.proofs.Common.{◌≡◌, ◌↔◌, ℕ, zero, suc, ◌-◌, ◌<◌, List, [], ◌∷◌, sym, subst, ◌∙◌, arith}
use Rattle.std.proofs.lemmas.Option.{same_Some}
use Rattle.cb_model.specs.declared.node.NodeName.{NodeName}
use Rattle.cb_network.specs.Topology.{Topology}
use Rattle.cb_network.specs.Causes.{Chain, Causes}
use Rattle.cb_network.proofs.Chains.{causes_itself, causes_further, edge_causes}
use Rattle.cb_cert.specs.declared.certificate.Entry.{Entry}
use Rattle.cb_cert.specs.declared.certificate.Span.{Span}
use Rattle.cb_validity.specs.Spans.{StandsFor, IsListedAt, ListsNode, IsSpanOf}

-- a number stands for one node
pub stands_for_one : (nodes : List NodeName) (i : ℕ) (m n : NodeName) → StandsFor nodes i m → StandsFor nodes i n → m ≡ n
stands_for_one nodes i m n a b = same_Some m n (sym a.is ∙ b.is)

-- an entry lists one node
pub listed_at_one : (nodes : List NodeName) (span : Span) (place : ℕ) (m n : NodeName) → IsListedAt nodes span place m
    → IsListedAt nodes span place n → m ≡ n
listed_at_one nodes span place m n a b =
    let entry : a.entry ≡ b.entry = same_Some a.entry b.entry (sym a.is ∙ b.is) in
    stands_for_one nodes a.entry.node m n a.names (subst (λ (e : Entry). StandsFor nodes e.node n) (sym entry) b.names)

module _ (t : Topology) (nodes : List NodeName) (root : NodeName) (span : Span) (is : IsSpanOf t nodes root span) where
  -- the root is listed first
  pub root_listed : IsListedAt nodes span 0 root
  root_listed = record { entry = is.begins.entry; is = is.begins.first; names = is.begins.names }

  -- what is listed is caused, by induction on its place
  caused_below : (bound place : ℕ) (n : NodeName) → place < bound → IsListedAt nodes span place n → Causes t root n
  caused_below zero place n low at = absurd (omega arith)
  caused_below (suc bound) zero n low at =
      subst (λ m. Causes t root m) (listed_at_one nodes span 0 root n root_listed at) (causes_itself t root)
  caused_below (suc bound) (suc k) n low at =
      let earlier = is.earlier (suc k) at.entry (omega arith) at.is in
      let has = is.edges (suc k) at.entry (omega arith) at.is in
      let there : has.to ≡ n = stands_for_one nodes at.entry.node has.to n has.to_is at.names in
      let from = caused_below bound (at.entry.parent - 1) has.from (omega arith) has.from_is in
      subst (λ m. Causes t root m) there (causes_further t root has.from has.to from (edge_causes t has.from has.to has.edge))

  -- along a chain of edges everything is listed
  along : (p : NodeName) (between : List NodeName) (s : NodeName) → ListsNode nodes span p → Chain t p between s → ListsNode nodes span s
  along p [] s here same = subst (λ m. ListsNode nodes span m) same here
  along p (q ∷ rest) s here chain = along q rest s (is.closed p q here chain.0) chain.1

  pub lists_caused : (n : NodeName) → ListsNode nodes span n ↔ Causes t root n
  lists_caused n = (
    (λ l. caused_below (suc l.0) l.0 n (omega arith) l.1),
    (λ causes. along root causes.0 n (0, root_listed) causes.1),
  )

pub span_lists_caused : (t : Topology) (nodes : List NodeName) (root : NodeName) (span : Span) → IsSpanOf t nodes root span
    → (n : NodeName) → ListsNode nodes span n ↔ Causes t root n
span_lists_caused t nodes root span is n = lists_caused t nodes root span is n
