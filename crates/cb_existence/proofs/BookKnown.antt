-- Whether a codebook is in use is known record by record.
use Rattle.std.proofs.Common.{◌≡◌, ◌⊎◌, ◌++◌, ℕ, List, [], ◌∷◌, length, take, refl, sym, ap, subst, ◌∙◌, inl, inr, arith, append_assoc, append-nil, Ok, Err}
use Rattle.std.proofs.Math.Seq.{take-append_seam}
use Rattle.cb_network.specs.declared.edit.Edit.{Edit}
use Rattle.cb_network.specs.declared.edit.EditRefusal.{EditRefusal}
use Rattle.cb_network.specs.Edits.{IsAfter, IsAfterAll}
use Rattle.cb_network.specs.Regular.{IsRegular}
use Rattle.cb_network.specs.Topology.{Topology}
use Rattle.cb_network.proofs.Accepted.{after_all_is_one}
use Rattle.cb_network.proofs.Decided.{Decision}
use Rattle.cb_log.specs.declared.record.Body.{Body}
use Rattle.cb_log.specs.declared.record.Body.TheVariants.{Raise, Clear, Change, Tick}
use Rattle.cb_log.specs.declared.record.Record.{Record}
use Rattle.cb_log.specs.Events.{HasBook}
use Rattle.cb_log.specs.Network.{then_edits, edits_of, IsNow, IsAcceptedAt}
use Rattle.cb_log.proofs.BookSteps.{book_steps}
use Rattle.cb_log.proofs.Longer.{longer, at_last, is_last}
use Rattle.cb_log.proofs.OneMore.{now_edited, now_stays}
use Rattle.cb_existence.proofs.Closings.{decide_closes}

module _ (t : Topology) (regular : IsRegular t.model) (w : ℕ) where
  -- whether the last record is an accepted edit
  module _ (records : List Record) (r : Record) where
    abbrev IsLastAccepted : Type 0
    IsLastAccepted = IsAcceptedAt t (longer records r) (length records)

    seam : take (length records) (longer records r) ≡ records
    seam = take-append_seam records (r ∷ [])

    no_edit : (b : Body) → r.body ≡ b → then_edits b [] ≡ [] → ¬ IsLastAccepted
    no_edit b is none a =
        let says : r.body ≡ Change a.edit = is_last records r (λ s. s.body ≡ Change a.edit) a.says in
        let edits : then_edits b [] ≡ a.edit ∷ [] = ap (λ (c : Body). then_edits c []) (sym is ∙ says) in
        let wrong : a.edit ∷ [] ≡ [] = sym edits ∙ none in
        absurd (cc)

    module _ (network : Topology) (now : IsNow t records network) (edit : Edit) (is : r.body ≡ Change edit) where
      accepted_edit : (u : Topology) → IsAfter network edit (Ok u) → IsLastAccepted
      accepted_edit u after = record {
        edit = edit;
        says = at_last records r (λ s. s.body ≡ Change edit) is;
        network = network;
        is_now = subst (λ (rs : List Record). IsNow t rs network) (sym seam) now;
        accepted = after.0;
      }

      refused_edit : (why : EditRefusal) → IsAfter network edit (Err why) → ¬ IsLastAccepted
      refused_edit why after a =
          let says : r.body ≡ Change a.edit = is_last records r (λ s. s.body ≡ Change a.edit) a.says in
          let same : edit ≡ a.edit = let e : Change edit ≡ Change a.edit = sym is ∙ says in cc in
          let now_too : IsNow t records a.network = subst (λ (rs : List Record). IsNow t rs a.network) seam a.is_now in
          let one : network ≡ a.network = after_all_is_one t (edits_of records) network a.network regular now now_too in
          let here : IsAfter a.network a.edit (Err why) =
          subst (λ (n : Topology). IsAfter n a.edit (Err why)) one (subst (λ (e : Edit). IsAfter network e (Err why)) same after) in
          a.accepted why here.0

    -- so whether a codebook is in use after it, if that is known before it
    one_more : Decision IsLastAccepted → Decision (HasBook t w records) → Decision (HasBook t w (longer records r))
    one_more (inl accepted) known = inr (λ has. ((book_steps t records r w).0 has).1 accepted)
    one_more (inr not_accepted) known = elim (decide_closes (longer records r) w (length records)) [
      | inl closes ↦ inl ((book_steps t records r w).1 (inr closes, not_accepted))
      | inr never ↦ elim known [
        | inl had ↦ inl ((book_steps t records r w).1 (inl had, not_accepted))
        | inr none ↦ inr (λ has. elim ((book_steps t records r w).0 has).0 [ inl had ↦ none had | inr closes ↦ never closes ])
      ]
    ]

    -- the record, and then the later ones
    by_body : (later : List Record) (network u : Topology) → IsNow t records network → Decision (HasBook t w records)
        → ((v : Topology) → IsNow t (longer records r) v → IsAfterAll v (edits_of later) u → Decision (HasBook t w (longer records r))
        → Decision (HasBook t w (longer records r ++ later)))
        → (b : Body) → r.body ≡ b → IsAfterAll network (then_edits b (edits_of later)) u → Decision (HasBook t w (longer records r ++ later))
    by_body later network u now known further (Raise source node) is rest =
        further network (now_stays t network records r now (ap (λ (b : Body). then_edits b []) is)) rest (one_more (inr (no_edit (Raise source node) is refl)) known)
    by_body later network u now known further (Clear source node) is rest =
        further network (now_stays t network records r now (ap (λ (b : Body). then_edits b []) is)) rest (one_more (inr (no_edit (Clear source node) is refl)) known)
    by_body later network u now known further Tick is rest =
        further network (now_stays t network records r now (ap (λ (b : Body). then_edits b []) is)) rest (one_more (inr (no_edit Tick is refl)) known)
    by_body later network u now known further (Change edit) is (Ok v, after, rest) =
        further v (now_edited t network records r edit (Ok v) now is after) rest (one_more (inl (accepted_edit network now edit is v after)) known)
    by_body later network u now known further (Change edit) is (Err why, after, rest) =
        further network (now_edited t network records r edit (Err why) now is after) rest (one_more (inr (refused_edit network now edit is why after)) known)

  known_on : (before later : List Record) (network u : Topology) → IsNow t before network → IsAfterAll network (edits_of later) u
      → Decision (HasBook t w before) → Decision (HasBook t w (before ++ later))
  known_on before [] network u now rest known = subst (λ (rs : List Record). Decision (HasBook t w rs)) (sym (append-nil before)) known
  known_on before (r ∷ later) network u now rest known =
      subst (λ (rs : List Record). Decision (HasBook t w rs)) (append_assoc before (r ∷ []) later)
      (by_body before r later network u now known (λ v. known_on (longer before r) later v u) r.body refl rest)

  pub book_is_known : (u : Topology) (records : List Record) → IsNow t records u → HasBook t w records ⊎ (¬ HasBook t w records)
  book_is_known u records now = known_on [] records t u refl now (inr (λ has. let lt = has.within in absurd (omega arith)))
