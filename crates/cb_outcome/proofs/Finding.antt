-- What is printed at status 0, or at 6, names the cause.
use Rattle.std.proofs.Common.{◌≡◌, ◌≤◌, ◌<◌, ℕ, List, [], ◌∷◌, ap, subst, arith, length}
use Rattle.std.specs.Prelude.{IsTrue, Option}
use Rattle.std.proofs.lemmas.List.{length-map}
use Rattle.cb_coding.specs.declared.book.Answer.{Answer}
use Rattle.cb_coding.specs.declared.group.Group.{Group}
use Rattle.cb_coding.specs.Distance.{all_columns}
use Rattle.cb_coding.specs.Groups.{codes_of}
use Rattle.cb_model.specs.declared.node.NodeName.{NodeName}
use Rattle.cb_io.specs.Outside.{WritesAll}
use Rattle.cb_finding.specs.declared.finding.Finding.{Finding}
use Rattle.cb_finding.specs.Finding.{IsBurst, IsFindingWhere, named_groups}
use Rattle.cb_finding.proofs.Nearest.{burst_finds_the_cause}
use Rattle.cb_network.specs.Topology.{Topology}
use Rattle.cb_cert.specs.Lines.{text_of}
use Rattle.cb_validity.proofs.Codebooks.{shortfall_is_valid}
use Rattle.cb_log.proofs.ThinEvents.{close_is_not_good, close_wants_more}
use Rattle.cb_report.specs.declared.fault.Fault.{Fault}
use Rattle.cb_outcome.specs.Outcome.{Outcome}
use Rattle.cb_outcome.specs.Jobs.{WritesThin}
use Rattle.cb_outcome.specs.Seen.{Seen, SaysFault}
use Rattle.cb_outcome.specs.Prints.{ListsTheNearest, far_from, RefusesDistance}
use Rattle.cb_outcome.proofs.Acceptable.{text_is_valid, text_fits}

-- what is found lists exactly the nearest groups, where it names a cause alone within its radius
pub lists_nearest : {Reported : Answer → ℕ → Type 0} {Sure : Answer → Type 0} (columns : List NodeName) (groups : List Group) (book : List ℕ)
    (nodes : List NodeName) (finding : Finding) → IsFindingWhere Reported Sure columns groups book nodes finding → (radius_of : ℕ → ℕ)
    → ((i : ℕ) → i < length groups → far_from book columns groups nodes i ≤ radius_of i
    → (finding.groups ≡ named_groups groups (i ∷ [])) × IsTrue finding.sure)
    → ListsTheNearest groups (far_from book columns groups nodes) radius_of finding
lists_nearest columns groups book nodes finding found radius_of alone =
    let answered = found.answered in
    let wide = length-map groups (λ (g : Group). g.code) in record {
      places = found.answer.groups;
      rise = answered.rise;
      nearest = λ i. (
        λ listed.
            let (within, is) = (answered.nearest i).0 listed in
            (omega (arith, within, wide), λ j lt. let least = answered.least j (omega (arith, wide)) in omega arith),
        λ (within, none_nearer).
            let (k, k_within, attained) = answered.attained in
            let near = none_nearer k (omega (arith, wide)) in
            let far = answered.least i (omega (arith, wide)) in
            (answered.nearest i).1 (omega (arith, wide), omega arith),
      );
      listed = found.groups_are;
      alone = alone;
    }

pub lists_the_nearest : (t : Topology) (nodes : List NodeName) (finding : Finding) (burst : IsBurst t nodes finding)
    → ListsTheNearest burst.groups (far_from (all_columns (length burst.columns)) burst.columns burst.groups nodes) (λ i. finding.radius) finding
lists_the_nearest t nodes finding burst =
    lists_nearest burst.columns burst.groups (all_columns (length burst.columns)) nodes finding burst.found (λ i. finding.radius)
    (λ i lt near. burst_finds_the_cause t nodes finding burst i lt near)

-- ---- a distance that is refused

module _ (t : Topology) (wanted whole : ℕ) (s : Seen) (outcome : Outcome) (written : WritesAll s.out s.out_after outcome.out)
    (says : SaysFault outcome.fault s.err s.err_after) where
  -- the line and the certificate are of the first two groups that are too close
  pub refuses_distance : WritesThin t wanted whole outcome → RefusesDistance t wanted s
  refuses_distance p =
      let valid = shortfall_is_valid t wanted p.first p.second p.distance p.certificate (record { close = p.close; canonical = p.canonical }) in
      record {
        first = p.first;
        second = p.second;
        distance = p.distance;
        close = p.close;
        says = subst (λ (f : Option Fault). SaysFault f s.err s.err_after) (ap (λ (o : Outcome). o.fault) p.gives) says;
        prints = record {
          text = text_of p.certificate;
          certificate = p.certificate;
          valid = text_is_valid t p.certificate p.of_format valid;
          short = text_fits p.certificate p.of_format;
          printed = subst (λ (l : List ℕ). WritesAll s.out s.out_after l) (ap (λ (o : Outcome). o.out) p.gives) written;
        };
        canonical = p.canonical;
        not_good = close_is_not_good (all_columns (length p.close.columns)) (codes_of p.close.groups) wanted p.close.pair p.close.is_first;
        more_than_one = close_wants_more t p.close.columns p.close.groups wanted p.close.pair p.close.matrix p.close.is_first;
      }
