-- Records of edits stand for earlier topologies.
use Rattle.std.proofs.Common.{◌≡◌, ℕ, zero, suc, List, [], ◌∷◌, take, refl, sym, ap, subst, ◌∙◌, Ok}
use Rattle.cb_network.specs.declared.edit.Edit.{Edit}
use Rattle.cb_network.specs.Topology.{Topology}
use Rattle.cb_network.specs.Regular.{IsRegular}
use Rattle.cb_network.specs.Edits.{IsAfter, result_or}
use Rattle.cb_network.proofs.Accepted.{after_is_one, regular_stays}
use Rattle.cb_history.specs.Histories.{History, edited, undone, undone_to}
use Rattle.cb_history.specs.Inverse.{AllMake}
use Rattle.cb_history.specs.Records.{RecordsLeadTo, StandFor}

same_made : (t : Topology) (edit : Edit) (u v : Topology) → IsRegular t.model → IsAfter t edit (Ok u) → IsAfter t edit (Ok v) → u ≡ v
same_made t edit u v regular p q =
    ap (result_or u) (after_is_one t edit (Ok u) (Ok v) regular p q)

pub made_regular : (t : Topology) (edit : Edit) (u : Topology) → IsRegular t.model → IsAfter t edit (Ok u) → IsRegular u.model
made_regular t edit u regular after = regular_stays t edit (Ok u) regular after

pub all_make_one : (t : Topology) (edits : List Edit) (u v : Topology) → IsRegular t.model → AllMake t edits u → AllMake t edits v → u ≡ v
all_make_one t [] u v regular p q = sym p ∙ q
all_make_one t (edit ∷ edits) u v regular (x, is_x, rest) (y, is_y, rest') =
    let same : x ≡ y = same_made t edit x y regular is_x is_y in
    all_make_one x edits u v (made_regular t edit x regular is_x) rest (subst (λ z. AllMake z edits v) (sym same) rest')

pub all_made_regular : (t : Topology) (edits : List Edit) (u : Topology) → IsRegular t.model → AllMake t edits u → IsRegular u.model
all_made_regular t [] u regular same = subst (λ (z : Topology). IsRegular z.model) same regular
all_made_regular t (edit ∷ edits) u regular (x, is, rest) = all_made_regular x edits u (made_regular t edit x regular is) rest

-- the first of the records lead to the first of the topologies
fewer_lead : (n : ℕ) (t : Topology) (records : List (List Edit)) (before : List Topology) → RecordsLeadTo t records before
    → RecordsLeadTo t (take n records) (take n before)
fewer_lead zero t records before lead = tt
fewer_lead (suc n) t [] [] lead = tt
fewer_lead (suc n) t [] (u ∷ before) lead = absurd lead
fewer_lead (suc n) t (edits ∷ records) [] lead = absurd lead
fewer_lead (suc n) t (edits ∷ records) (u ∷ before) lead = (lead.0, fewer_lead n u records before lead.1)

pub edit_is_recorded : (t u : Topology) (records : List (List Edit)) (edits : List Edit) (h : History) (depth : ℕ) → StandFor t records h
    → AllMake u edits t → StandFor u (take depth (edits ∷ records)) (edited depth h u)
edit_is_recorded t u records edits h depth stand made =
    let here : AllMake u edits h.now = subst (λ z. AllMake u edits z) stand.now made in
    let back : RecordsLeadTo h.now records h.before = subst (λ z. RecordsLeadTo z records h.before) stand.now stand.back in
    record { now = refl; back = fewer_lead depth u (edits ∷ records) (h.now ∷ h.before) (here, back) }

last_taken : (t u : Topology) (edits : List Edit) (records : List (List Edit)) (now : Topology) (before : List Topology) → IsRegular t.model
    → RecordsLeadTo t (edits ∷ records) before → AllMake t edits u → StandFor u records (undone_to now before)
last_taken t u edits records now [] regular lead made = absurd lead
last_taken t u edits records now (w ∷ before) regular lead made =
    let same : w ≡ u = all_make_one t edits w u regular lead.0 made in
    record { now = sym same; back = subst (λ z. RecordsLeadTo z records before) same lead.1 }

pub last_is_taken : (t u : Topology) (edits : List Edit) (records : List (List Edit)) (h : History) → IsRegular t.model
    → StandFor t (edits ∷ records) h → AllMake t edits u → StandFor u records (undone h)
last_is_taken t u edits records h regular stand made = last_taken t u edits records h.now h.before regular stand.back made

one_lead : (t : Topology) (records : List (List Edit)) (x y : List Topology) → IsRegular t.model → RecordsLeadTo t records x → RecordsLeadTo t records y → x ≡ y
one_lead t [] [] [] regular p q = refl
one_lead t [] [] (y ∷ ys) regular p q = absurd q
one_lead t [] (x ∷ xs) y regular p q = absurd p
one_lead t (edits ∷ records) [] y regular p q = absurd p
one_lead t (edits ∷ records) (x ∷ xs) [] regular p q = absurd q
one_lead t (edits ∷ records) (x ∷ xs) (y ∷ ys) regular p q =
    let same : x ≡ y = all_make_one t edits x y regular p.0 q.0 in
    let rest : xs ≡ ys = one_lead x records xs ys (all_made_regular t edits x regular p.0) p.1 (subst (λ z. RecordsLeadTo z records ys) (sym same) q.1) in
    λ i. same i ∷ rest i

pub records_are_one : (t : Topology) (records : List (List Edit)) (x y : History) → IsRegular t.model → StandFor t records x
    → StandFor t records y → x ≡ y
records_are_one t records x y regular p q =
    let now : x.now ≡ y.now = sym p.now ∙ q.now in
    let before : x.before ≡ y.before = one_lead t records x.before y.before regular p.back q.back in
    λ i. record { now = now i; before = before i }
