-- `rewind` gives one outcome, and its matrix is that of the topology to which edits and undos lead.
use Rattle.std.proofs.Common.{◌≡◌, ◌∙◌, ℕ, List, length, map, sym, ap, subst, arith}
use Rattle.cb_model.proofs.Rising.{nothing_in_empty}
use Rattle.cb_coding.specs.declared.group.Group.{Group}
use Rattle.cb_coding.specs.declared.book.Pair.{Pair}
use Rattle.cb_coding.specs.Groups.{codes_of}
use Rattle.cb_coding.specs.Pairs.{IsClosestPair}
use Rattle.cb_coding.proofs.One.{least_is_one}
use Rattle.cb_finding.specs.Matrix.{IsMatrix}
use Rattle.cb_finding.proofs.One.{matrix_is_one}
use Rattle.cb_model.specs.declared.node.NodeName.{NodeName}
use Rattle.cb_network.specs.Regular.{IsRegular}
use Rattle.cb_network.specs.Topology.{Topology}
use Rattle.cb_history.specs.Histories.{History, new_history}
use Rattle.cb_history.specs.declared.script.ScriptLine.{ScriptLine}
use Rattle.cb_history.proofs.Rewound.{rewind_is_one, rewind_moves}
use Rattle.cb_history.proofs.Moved.{few_are_kept}
use Rattle.cb_io.specs.Outside.{SinkReport, WritesAll}
use Rattle.cb_report.specs.RewoundText.{rewound_text}
use Rattle.cb_outcome.specs.Outcome.{Outcome, done}
use Rattle.cb_outcome.specs.Jobs.{RewoundMatrix, text_of_rewound, RewindGives}
use Rattle.cb_outcome.specs.Prints.{PrintsRewound}

module _ (t : Topology) (script : List ScriptLine) (depth : ℕ) where
  -- what is printed is one
  rewound_text_is_one : IsRegular t.model → (p q : RewoundMatrix t script depth) → text_of_rewound p ≡ text_of_rewound q
  rewound_text_is_one regular p q =
      let rewound = rewind_is_one depth (new_history t) script p.reports q.reports p.last q.last regular (λ u none. absurd (nothing_in_empty u none)) p.rewinds q.rewinds in
      let there : IsMatrix p.last.now q.columns q.groups = subst (λ (h : History). IsMatrix h.now q.columns q.groups) (sym rewound.1) q.matrix in
      let same = matrix_is_one p.last.now p.columns q.columns p.groups q.groups p.matrix there in
      let over : IsClosestPair (length p.columns) (codes_of p.groups) q.least =
      subst (λ (cs : List NodeName). IsClosestPair (length cs) (codes_of p.groups) q.least) (sym same.0)
      (subst (λ (gs : List Group). IsClosestPair (length q.columns) (codes_of gs) q.least) (sym same.1) q.least_is)
      in
      let least = least_is_one (length p.columns) (codes_of p.groups) p.least q.least p.least_is over in
      λ i. rewound_text (rewound.0 i) (same.0 i) (same.1 i) (least i)

  pub rewind_one : IsRegular t.model → (whole : ℕ) (a b : Outcome) → RewindGives t script depth whole a → RewindGives t script depth whole b → a ≡ b
  rewind_one regular whole a b (p, gives) (q, gives') =
      gives ∙ (ap (λ (out : List ℕ). done out whole) (rewound_text_is_one regular p q) ∙ sym gives')

  -- and this is to be seen of it
  pub prints_rewound : (rewound : RewoundMatrix t script depth) (out out' : SinkReport) → WritesAll out out' (text_of_rewound rewound)
      → PrintsRewound t script depth out out'
  prints_rewound rewound out out' written = record {
    rewound = rewound;
    moves = rewind_moves depth (new_history t) script rewound.reports rewound.last rewound.rewinds;
    few = few_are_kept depth (new_history t) rewound.last (map (λ (line : ScriptLine). line.what) script) (omega arith) (rewind_moves depth (new_history t) script rewound.reports rewound.last rewound.rewinds);
    printed = written;
  }
