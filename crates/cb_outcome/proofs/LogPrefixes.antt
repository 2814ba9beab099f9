-- The events of the first bytes of a log are its first events.
use Rattle.std.proofs.Common.{◌≡◌, ℕ, ◌+◌, ◌==◌, Bool, true, false, cond, List, [], ◌∷◌, ◌++◌, append_assoc, map, refl, ap, ◌∙◌, subst, inl, inr}
use Rattle.std.specs.List.{slice_split, onto_first, enumerate_from}
use Rattle.cb_text.specs.Lines.{lines_of_parts}
use Rattle.cb_network.specs.Regular.{IsRegular}
use Rattle.cb_network.specs.Topology.{Topology}
use Rattle.cb_log.specs.declared.event.Event.{Event}
use Rattle.cb_log.specs.Basis.{Mode}
use Rattle.cb_log.specs.Entries.{LogEntry}
use Rattle.cb_log.specs.Events.{EntriesGive}
use Rattle.cb_log.proofs.EventsOne.{entries_give_one}
use Rattle.cb_alarm.proofs.OneSkip.{come_to_one}
use Rattle.cb_alarm.specs.Lines.{NumberedLine, numbered_line, ComeTo, ended_parts, ended_lines, log_lines}
use Rattle.cb_outcome.specs.Laws.{PrefixGivesPrefix}

abbrev Parts : Type 0
Parts = List (List ℕ)

-- parts that begin with these, and then with one more
abbrev GoesOn : Parts → Parts → Type 0
GoesOn parts before = (first : List ℕ) × (tail : Parts) × (parts ≡ before ++ first ∷ tail)

abbrev IsMore : Parts → Type 0
IsMore [] = ⊥
IsMore (part ∷ parts) = Unit {0}

more_onto : (x : ℕ) (parts : Parts) → IsMore parts → IsMore (onto_first x parts)
more_onto x [] m = absurd m
more_onto x (part ∷ parts) m = tt

module _ (p : ℕ → Bool) where
  more : (xs : List ℕ) → IsMore (slice_split p xs)
  more [] = tt
  more (x ∷ xs) = by_test (p x) (more xs)
    where
      by_test : (b : Bool) → IsMore (slice_split p xs) → IsMore (cond b ([] ∷ slice_split p xs) (onto_first x (slice_split p xs)))
      by_test true m = tt
      by_test false m = more_onto x (slice_split p xs) m

  goes : (parts : Parts) → IsMore parts → GoesOn parts []
  goes [] m = absurd m
  goes (part ∷ parts) m = (part, parts, refl)

  cut_there : (s u : Parts) → IsMore s → GoesOn u (ended_parts s) → GoesOn ([] ∷ u) (ended_parts ([] ∷ s))
  cut_there [] u m g = absurd m
  cut_there (part ∷ parts) u m (first, tail, e) = (first, tail, ap (λ (v : Parts). [] ∷ v) e)

  put_onto : (x : ℕ) (s u : Parts) → IsMore s → GoesOn u (ended_parts s) → GoesOn (onto_first x u) (ended_parts (onto_first x s))
  put_onto x [] u m g = absurd m
  put_onto x (part ∷ []) u m (first, tail, e) = (x ∷ first, tail, ap (onto_first x) e)
  put_onto x (part ∷ next ∷ parts) u m (first, tail, e) = (first, tail, ap (onto_first x) e)

  split_prefix : (prefix rest : List ℕ) → GoesOn (slice_split p (prefix ++ rest)) (ended_parts (slice_split p prefix))
  split_prefix [] rest = goes (slice_split p rest) (more rest)
  split_prefix (x ∷ xs) rest = by_test (p x) (split_prefix xs rest)
    where
      by_test : (b : Bool) → GoesOn (slice_split p (xs ++ rest)) (ended_parts (slice_split p xs)) → GoesOn (cond b ([] ∷ slice_split p (xs ++ rest)) (onto_first x (slice_split p (xs ++ rest))))
          (ended_parts (cond b ([] ∷ slice_split p xs) (onto_first x (slice_split p xs))))
      by_test true g = cut_there (slice_split p xs) (slice_split p (xs ++ rest)) (more xs) g
      by_test false g = put_onto x (slice_split p xs) (slice_split p (xs ++ rest)) (more xs) g

lines_go_on : (before : Parts) (first : List ℕ) (tail : Parts) → lines_of_parts (before ++ first ∷ tail) ≡ before ++ lines_of_parts (first ∷ tail)
lines_go_on [] first tail = refl
lines_go_on (y ∷ []) first tail = refl
lines_go_on (y ∷ z ∷ zs) first tail = ap (λ (v : Parts). y ∷ v) (lines_go_on (z ∷ zs) first tail)

ended_go_on : (before : Parts) (first : List ℕ) (tail : Parts) → ended_parts (before ++ first ∷ tail) ≡ before ++ ended_parts (first ∷ tail)
ended_go_on [] first tail = refl
ended_go_on (y ∷ []) first tail = refl
ended_go_on (y ∷ z ∷ zs) first tail = ap (λ (v : Parts). y ∷ v) (ended_go_on (z ∷ zs) first tail)

-- with their numbers, the first of some lines are the first
pub numbered : (n : ℕ) (xs ys : Parts) → (rest : List NumberedLine) × (map numbered_line (enumerate_from n (xs ++ ys)) ≡ map numbered_line (enumerate_from n xs) ++ rest)
numbered n [] ys = (map numbered_line (enumerate_from n ys), refl)
numbered n (x ∷ xs) ys = let later = numbered (n + 1) xs ys in (later.0, ap (λ (v : List NumberedLine). numbered_line (n, x) ∷ v) later.1)

abbrev lf : ℕ → Bool
lf b = b == 10

-- the lines that end within the first bytes of a log are its first
pub prefix_lines : (prefix rest : List ℕ) → (later : List NumberedLine) × (log_lines (prefix ++ rest) ≡ ended_lines prefix ++ later)
prefix_lines prefix rest =
    let (first, tail, e) = split_prefix lf prefix rest in
    let before = ended_parts (slice_split lf prefix) in
    let parts : lines_of_parts (slice_split lf (prefix ++ rest)) ≡ before ++ lines_of_parts (first ∷ tail) = ap lines_of_parts e ∙ lines_go_on before first tail in
    let (later, l) = numbered 1 before (lines_of_parts (first ∷ tail)) in
    (later, ap (λ (v : Parts). map numbered_line (enumerate_from 1 v)) parts ∙ l)

-- and of those that end within more bytes
pub prefix_ended : (prefix rest : List ℕ) → (later : List NumberedLine) × (ended_lines (prefix ++ rest) ≡ ended_lines prefix ++ later)
prefix_ended prefix rest =
    let (first, tail, e) = split_prefix lf prefix rest in
    let before = ended_parts (slice_split lf prefix) in
    let parts : ended_parts (slice_split lf (prefix ++ rest)) ≡ before ++ ended_parts (first ∷ tail) = ap ended_parts e ∙ ended_go_on before first tail in
    let (later, l) = numbered 1 before (ended_parts (first ∷ tail)) in
    (later, ap (λ (v : Parts). map numbered_line (enumerate_from 1 v)) parts ∙ l)

onward : (head tail first rest : List Event) → tail ≡ first ++ rest → head ++ tail ≡ (head ++ first) ++ rest
onward head tail first rest e = ap (λ (v : List Event). head ++ v) e ∙ simp append_assoc

onto_end : (body due rest ends : List Event) → body ≡ due ++ rest → body ++ ends ≡ due ++ (rest ++ ends)
onto_end body due rest ends e = ap (λ (v : List Event). v ++ ends) e ∙ simp append_assoc

-- what the first of some lines come to is the first of what they come to
pub first_come : (xs ys : List NumberedLine) (entries : List LogEntry) → ComeTo (xs ++ ys) entries
    → (before : List LogEntry) × (after : List LogEntry) × (entries ≡ before ++ after) × ComeTo xs before
first_come [] ys entries c = ([], entries, refl, tt)
first_come (x ∷ xs) ys [] c = absurd c
first_come (x ∷ xs) ys (entry ∷ entries) (d, c) =
    let (before, after, e, k) = first_come xs ys entries c in (entry ∷ before, after, ap (λ (v : List LogEntry). entry ∷ v) e, (d, k))

module _ (t : Topology) (mode : Mode) (w : ℕ) where
  first_give : (before xs ys : List LogEntry) (all : List Event) → EntriesGive t mode w before (xs ++ ys) all
      → (first : List Event) × (rest : List Event) × EntriesGive t mode w before xs first × (all ≡ first ++ rest)
  first_give before [] ys all g = ([], all, refl, refl)
  first_give before (x ∷ xs) ys all (head, tail, g, later, e) =
      let (first, rest, k, f) = first_give (before ++ x ∷ []) xs ys tail later in
      (head ++ first, rest, (head, first, g, k, refl), e ∙ onward head tail first rest f)

module _ (t : Topology) (mode : Mode) (w : ℕ) (regular : IsRegular t.model) where
  -- what results from the first of some lines is a prefix of what results from all
  of_lines : (xs ys : List NumberedLine) (some entries : List LogEntry) (due all : List Event) → ComeTo xs some → EntriesGive t mode w [] some due
      → ComeTo (xs ++ ys) entries → EntriesGive t mode w [] entries all → (rest : List Event) × (all ≡ due ++ rest)
  of_lines xs ys some entries due all c g d h =
      let (before, after, e, k) = first_come xs ys entries d in
      let (first, rest, f, is) = first_give t mode w [] before after all (subst (λ (v : List LogEntry). EntriesGive t mode w [] v all) e h) in
      let same : before ≡ some = come_to_one xs before some k c in
      let one : first ≡ due = entries_give_one t regular mode w [] some first due (subst (λ (v : List LogEntry). EntriesGive t mode w [] v first) same f) g in
      (rest, is ∙ ap (λ (v : List Event). v ++ rest) one)

pub prefix_gives_prefix : PrefixGivesPrefix
prefix_gives_prefix t mode w prefix others due all regular (some, c, g) (inl (entries, d, h)) =
    let (later, e) = prefix_ended prefix others in
    of_lines t mode w regular (ended_lines prefix) later some entries due all c g (subst (λ (v : List NumberedLine). ComeTo v entries) e d) h
prefix_gives_prefix t mode w prefix others due all regular (some, c, g) (inr log) =
    let (later, e) = prefix_lines prefix others in
    let (rest, is) = of_lines t mode w regular (ended_lines prefix) later some log.entries due log.body c g
    (subst (λ (v : List NumberedLine). ComeTo v log.entries) e log.come) log.body_is in
    (rest ++ log.ends, log.events_are ∙ onto_end log.body due rest log.ends is)
