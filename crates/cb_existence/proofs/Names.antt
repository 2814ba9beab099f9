-- Whether bytes are a name, and whether they are a node, can be decided.
use Rattle.std.proofs.Common.{◌≡◌, ◌≢◌, ◌<◌, ◌≤◌, ◌++◌, ℕ, suc, List, [], ◌∷◌, length, take, drop, refl, sym, ap, subst, ◌∙◌, inl, inr, arith, IsTrue, append_assoc}
use Rattle.std.specs.Prelude.{codes}
use Rattle.std.specs.List.{All, Contains}
use Rattle.std.proofs.Math.Seq.{take-append_seam, drop-append_seam}
use Rattle.std.proofs.lemmas.List.{length-append}
use Rattle.std.proofs.lemmas.List.Elements.{All-nil, All-cons, All-head, All-tail}
use Rattle.cb_text.specs.Names.{name_limit, is_letter, is_name_byte, is_instance_byte, reserved_words, IsRun, IsName, IsInstance, IsNodeText}
use Rattle.cb_change.proofs.Closure.{decide_any, decide_not}
use Rattle.cb_change.proofs.Deciding.{decide_name}
use Rattle.cb_log.proofs.Longer.{length_push}
use Rattle.cb_network.proofs.Decided.{Decision, decide_both, decide_same, decide_true, decide_below}
use Rattle.cb_existence.proofs.Found.{decide_at_most}

decide_all : {X : Type 0} (P : X → Type 0) → ((x : X) → Decision (P x)) → (xs : List X) → Decision (All P xs)
decide_all P decide [] = inl (All-nil P)
decide_all P decide (x ∷ xs) =
    decide_same (P x × All P xs) (All P (x ∷ xs)) (λ (here, later). All-cons P x xs here later) (λ all. (All-head P x xs all, All-tail P x xs all))
    (decide_both _ _ (decide x) (decide_all P decide xs))

pub decide_is_instance : (bytes : List ℕ) → Decision (IsInstance bytes)
decide_is_instance bytes =
    decide_same ((bytes ≢ []) × ((length bytes ≤ name_limit) × All (λ b. IsTrue (is_instance_byte b)) bytes)) (IsInstance bytes)
    (λ (some, (short, are)). record { some = some; short = short; bytes_are = are }) (λ i. (i.some, (i.short, i.bytes_are)))
    (decide_both _ _ (decide_not _ (decide_name bytes [])) (decide_both _ _ (decide_at_most (length bytes) name_limit) (decide_all _ (λ b. decide_true (is_instance_byte b)) bytes)))

decide_run : (bytes : List ℕ) → Decision (IsRun bytes)
decide_run [] = inr (λ none. none)
decide_run (b ∷ bytes) = decide_both _ _ (decide_true (is_letter b)) (decide_all _ (λ c. decide_true (is_name_byte c)) bytes)

decide_reserved : (bytes : List ℕ) → Decision (Contains reserved_words bytes)
decide_reserved bytes =
    decide_same ((word : List ℕ) × Contains reserved_words word × (word ≡ bytes)) (Contains reserved_words bytes)
    (λ (word, has, same). subst (Contains reserved_words) same has) (λ has. (bytes, has, refl))
    (decide_any (λ word. word ≡ bytes) (λ word. decide_name word bytes) reserved_words)

pub decide_is_name : (bytes : List ℕ) → Decision (IsName bytes)
decide_is_name bytes =
    decide_same (IsRun bytes × ((length bytes ≤ name_limit) × (¬ Contains reserved_words bytes))) (IsName bytes)
    (λ (run, (short, free)). record { run = run; short = short; free = free }) (λ n. (n.run, (n.short, n.free)))
    (decide_both _ _ (decide_run bytes) (decide_both _ _ (decide_at_most (length bytes) name_limit) (decide_not _ (decide_reserved bytes))))

-- whether the bytes are a node whose event has that many bytes
decide_cut : (bytes : List ℕ) (k : ℕ) → Decision (IsNodeText bytes (take k bytes) (drop (suc k) bytes))
decide_cut bytes k =
    decide_same ((bytes ≡ take k bytes ++ codes "@" ++ drop (suc k) bytes) × (IsName (take k bytes) × IsInstance (drop (suc k) bytes))) _
    (λ (written, (event, instance)). record { written = written; event_is = event; instance_is = instance })
    (λ n. (n.written, (n.event_is, n.instance_is)))
    (decide_both _ _ (decide_name bytes _) (decide_both _ _ (decide_is_name (take k bytes)) (decide_is_instance (drop (suc k) bytes))))

-- where the parts of a node are
cut_here : (bytes event instance : List ℕ) → IsNodeText bytes event instance
    → (length event < suc (length bytes)) × ((take (length event) bytes ≡ event) × (drop (suc (length event)) bytes ≡ instance))
cut_here bytes event instance is =
    let long : length (event ++ codes "@") ≡ suc (length event) = length_push event 64 in
    let all : length bytes ≡ length ((event ++ codes "@") ++ instance) = ap length is.written in
    let both = length-append (event ++ codes "@") instance in
    let whole : bytes ≡ event ++ (codes "@" ++ instance) = is.written ∙ append_assoc event (codes "@") instance in (
      omega arith,
      (
        ap (take (length event)) whole ∙ take-append_seam event (codes "@" ++ instance),
        ap (λ (k : ℕ). drop k bytes) (sym long) ∙ (ap (drop (length (event ++ codes "@"))) is.written ∙ drop-append_seam (event ++ codes "@") instance),
      ),
    )

pub decide_node_text : (bytes : List ℕ) → Decision ((event : List ℕ) × (instance : List ℕ) × IsNodeText bytes event instance)
decide_node_text bytes =
    decide_same ((k : ℕ) × (k < suc (length bytes)) × IsNodeText bytes (take k bytes) (drop (suc k) bytes)) _
    (λ (k, lt, is). (take k bytes, drop (suc k) bytes, is))
    (λ (event, instance, is).
    let (lt, (first, second)) = cut_here bytes event instance is in
    (length event, lt, subst (λ (i : List ℕ). IsNodeText bytes (take (length event) bytes) i) (sym second) (subst (λ (e : List ℕ). IsNodeText bytes e instance) (sym first) is)))
    (decide_below _ (decide_cut bytes) (suc (length bytes)))
