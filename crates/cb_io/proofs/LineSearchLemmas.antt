-- The end of a line, as it is looked for.
use Rattle.std.proofs.Common.{◌≡◌, ◌⊎◌, ℕ, ◌+◌, ◌<◌, ◌≤◌, min, true, false, nat_eq, List, [], ◌∷◌, ◌++◌, length, get_or, take, drop, Some, None, Result, Ok, Err, refl, sym, ap, subst, ◌∙◌, inl, inr, arith, length-take, length-drop, length-append, append_assoc, append-nil}
use Rattle.std.proofs.KnownBytes.{Consumes-nil, Consumes-trans, Consumes-kept, Keeps-refl}
use Rattle.std.proofs.lemmas.Bool.{eqb-true, eq-eqb}
use Rattle.std.proofs.lemmas.List.{take-append-le, take-append-drop, length-take-le, take_all, take_at, drop_more, get_or-take, get_or-drop, get_or_default}
use Rattle.std.proofs.Math.Seq.{take-add}
use Rattle.memchr.specs.Find.{IsFirstByte, is_byte}
use Rattle.std.proofs.lemmas.List.Elements.{Contains-append_left, Contains-append_right, Contains-append_cases}
use Rattle.std.specs.Prelude.{IfOk, IfErr}
use Rattle.std.specs.List.{Contains}
use Rattle.std.specs.Io.KnownBytes.{Keeps, Consumes}
use Rattle.cb_io.specs.declared.line_end.LineEnd.{LineEnd}
use Rattle.cb_io.specs.declared.outside.FileStop.{FileStop}
use Rattle.cb_io.specs.declared.outside.FileStop.TheVariants.{Failed, NoMemory}
use Rattle.cb_io.specs.declared.whole.ReadStop.{ReadStop}
use Rattle.cb_io.specs.declared.whole.ReadStop.TheVariants.{TooMuch}
use Rattle.cb_io.specs.Hand.{Held, ReadsPiece}
use Rattle.cb_io.specs.LineReading.{IsOneLine, BeginWith}
use Rattle.cb_io.specs.LineSearch.{HasCome, IsLostWhole, ThrowsLong, FindsLineEnd, IsOverLimit, GivesUp}
use Rattle.cb_io.specs.Stops.{stop_of}
use Rattle.cb_io.specs.Outside.{FilesReport, left_of, KeepsOthers, NoCountFalls}
use Rattle.cb_io.specs.Pieces.{piece_limit}
use Rattle.cb_io.proofs.Reported.{NoCountFalls-trans, KeepsOthers-trans}

-- ---- what has come

pub come_none : (start : List ℕ) (files : FilesReport) (name : List ℕ) → HasCome start files files name start
come_none start files name = record {
  came = [];
  are = append-nil start;
  read = Consumes-nil (left_of files name);
  others = λ other ne. Keeps-refl (left_of files other);
  counts = λ other. omega arith;
}

-- more came
pub come_more : {start : List ℕ} {a b : FilesReport} (c : FilesReport) {name all : List ℕ} (more : List ℕ) → HasCome start a b name all →
    Consumes (left_of b name) (left_of c name) more → KeepsOthers b c name → NoCountFalls b c → HasCome start a c name (all ++ more)
come_more {start} {a} {b} c {name} {all} more come read others counts = record {
  came = come.came ++ more;
  are = sym (append_assoc start come.came more) ∙ ap (λ (l : List ℕ). l ++ more) come.are;
  read = Consumes-trans (left_of a name) (left_of b name) (left_of c name) come.came more come.read read;
  others = KeepsOthers-trans a b c name come.others others;
  counts = NoCountFalls-trans a b c come.counts counts;
}

-- a read gave nothing
pub come_kept : {start : List ℕ} {a b : FilesReport} (c : FilesReport) {name all : List ℕ} → HasCome start a b name all →
    Keeps (left_of b name) (left_of c name) → KeepsOthers b c name → NoCountFalls b c → HasCome start a c name all
come_kept {start} {a} {b} c {name} {all} come kept others counts = record {
  came = come.came;
  are = come.are;
  read = Consumes-kept (left_of a name) (left_of b name) (left_of c name) come.came come.read kept;
  others = KeepsOthers-trans a b c name come.others others;
  counts = NoCountFalls-trans a b c come.counts counts;
}

-- ---- bytes without a LF

pub one_prefix : (prefix back : List ℕ) → IsOneLine (prefix ++ back) → IsOneLine prefix
one_prefix prefix back one = λ has. one (Contains-append_left prefix back 10 has)

pub one_back : (prefix back : List ℕ) → IsOneLine (prefix ++ back) → IsOneLine back
one_back prefix back one = λ has. one (Contains-append_right prefix back 10 has)

pub one_both : (prefix back : List ℕ) → IsOneLine prefix → IsOneLine back → IsOneLine (prefix ++ back)
one_both prefix back first second = λ has. elim (Contains-append_cases prefix back 10 has) [
  | inl left ↦ first left
  | inr right ↦ second right
]

-- where a whole line was in hand, nothing was read
pub nothing_read : {F : Type 0} {now before : F} (start : List ℕ) → IsOneLine start ⊎ (now ≡ before) → ¬ IsOneLine start → now ≡ before
nothing_read start (inl one) whole = absurd (whole one)
nothing_read start (inr same) whole = same

-- more bytes than there is capacity for
pub over : (line rest : List ℕ) (capacity : ℕ) → IsOneLine line → capacity ≤ length line → capacity < length (line ++ rest) → IsOverLimit capacity (line ++ rest)
over line rest capacity one within more = record {
  prefix = take capacity (line ++ rest);
  beyond = drop capacity (line ++ rest);
  are = sym (take-append-drop capacity (line ++ rest));
  one = subst IsOneLine (sym (take-append-le capacity line rest within))
      (one_prefix (take capacity line) (drop capacity line) (subst IsOneLine (sym (take-append-drop capacity line)) one));
  full = length-take-le capacity (line ++ rest) (omega arith);
  more = λ none. let zero = ap length none in omega (arith, zero, length-drop capacity (line ++ rest), more);
}

-- ---- the search

-- how many bytes of the line were dropped, and how many of those in hand were searched, without a LF
pub record Sought (start : List ℕ) (before now : FilesReport) (name : List ℕ) (line_most capacity size : ℕ) (hand : Held) (lost searched : ℕ) : Type 0 where
  pub thrown : List ℕ
  pub lost_is : length thrown ≡ lost
  pub come : HasCome start before now name (thrown ++ hand.kept)
  pub one : IsOneLine (thrown ++ take searched hand.kept)
  pub long : IsLostWhole line_most lost
  pub within : lost + searched ≤ capacity
  pub in_hand : searched ≤ length hand.kept
  pub few : length hand.kept ≤ searched + piece_limit
  pub size_is : hand.size ≡ size

-- ---- a LF

-- where the search for a byte passed no place, the prefix has none
absent_before : (cut n : ℕ) (bytes : List ℕ) → ((k : ℕ) → k < n → k < length bytes → ¬ (nat_eq (get_or bytes k 0) cut ≡ true)) → ¬ Contains (take n bytes) cut
absent_before cut n bytes before (k, low, is) =
    let within : k < min n (length bytes) = omega (arith, low, length-take n bytes) in
    let same = get_or-take n bytes k cut (omega arith) ∙ get_or_default bytes k cut 0 (omega arith) in
    before k (omega arith) (omega arith) (eq-eqb (get_or bytes k 0) cut (sym same ∙ is))

module _ (bytes : List ℕ) (searched : ℕ) (within : searched ≤ length bytes) (one : IsOneLine (take searched bytes)) where
  -- a LF was found after the bytes that were searched before
  pub lf_at : (n : ℕ) → IsFirstByte (is_byte 10) (drop searched bytes) (Some n) → BeginWith bytes (take (searched + n) bytes) (drop (searched + n + 1) bytes)
  lf_at n found =
      let rest : List ℕ = drop searched bytes in
      let low : searched + n < length bytes = omega (arith, found.0.high, length-drop searched bytes) in
      let between : IsOneLine (take n rest) = absent_before 10 n rest (λ k below inside. found.0.before k (omega arith) (omega arith)) in
      let lf : get_or bytes (searched + n) 0 ≡ 10 = sym (get_or-drop searched bytes n 0) ∙ eqb-true (get_or rest n 0) 10 found.1 in
      let beyond : drop (searched + n) bytes ≡ 10 ∷ drop (searched + n + 1) bytes =
      drop_more bytes (searched + n) 0 low ∙ ap (λ b. b ∷ drop (searched + n + 1) bytes) lf in
      record {
        one = subst IsOneLine (sym (take-add searched n bytes)) (one_both (take searched bytes) (take n rest) one between);
        are = sym (take-append-drop (searched + n) bytes) ∙ ap (λ (l : List ℕ). take (searched + n) bytes ++ l) beyond;
      }

  -- there is none
  pub no_lf : IsFirstByte (is_byte 10) (drop searched bytes) None → IsOneLine bytes
  no_lf found =
      let rest : List ℕ = drop searched bytes in
      let beyond : IsOneLine (take (length rest) rest) = absent_before 10 (length rest) rest (λ k below inside. found k (omega arith) inside) in
      subst IsOneLine (take-append-drop searched bytes) (one_both (take searched bytes) rest one (subst IsOneLine (take_all (length rest) rest (omega arith)) beyond))

-- ---- the end of the line

module _ {start : List ℕ} {before now : FilesReport} {name : List ℕ} {line_most capacity size : ℕ} {hand : Held} {lost : ℕ} where
  -- what was searched of the bytes in hand has no LF
  pub searched_one : {searched : ℕ} → Sought start before now name line_most capacity size hand lost searched → IsOneLine (take searched hand.kept)
  searched_one {searched} sought = one_back sought.thrown (take searched hand.kept) sought.one

  -- a LF ends the line, and there is capacity for it
  pub found_lf : {searched : ℕ} (sought : Sought start before now name line_most capacity size hand lost searched) (at : ℕ) (end : Result LineEnd ReadStop) →
      BeginWith hand.kept (take at hand.kept) (drop (at + 1) hand.kept) → searched ≤ at → at < length hand.kept →
      IfOk end (λ e. e ≡ record { lost = lost; length = at; is_last = false }) → IfOk end (λ e. lost + at < capacity) →
      IfOk end (FindsLineEnd start before now name line_most capacity hand)
  found_lf sought at (Err stop) begin low high is within = tt
  found_lf {searched} sought at (Ok end) begin low high is within = rw is (record {
    thrown = sought.thrown;
    lost_is = sought.lost_is;
    come = sought.come;
    one = one_both sought.thrown (take at hand.kept) (one_prefix sought.thrown (take searched hand.kept) sought.one) begin.one;
    way = begin.are;
    in_hand = omega (arith, high);
    within = omega (arith, within);
    few = omega (arith, sought.few, low);
    long = sought.long;
  })

  -- a LF ends the line, and there is no capacity for it
  pub over_lf : {searched : ℕ} (sought : Sought start before now name line_most capacity size hand lost searched) (at : ℕ) (end : Result LineEnd ReadStop) →
      BeginWith hand.kept (take at hand.kept) (drop (at + 1) hand.kept) → at < length hand.kept →
      IfErr end (λ stop. (stop ≡ TooMuch) × (capacity ≤ lost + at)) → IfErr end (GivesUp start before now name capacity)
  over_lf sought at (Ok end) begin high over_it = tt
  over_lf {searched} sought at (Err stop) begin high over_it =
      let line : List ℕ = sought.thrown ++ take at hand.kept in
      let whole : line ++ drop at hand.kept ≡ sought.thrown ++ hand.kept =
      append_assoc sought.thrown (take at hand.kept) (drop at hand.kept) ∙ ap (λ (l : List ℕ). sought.thrown ++ l) (take-append-drop at hand.kept) in
      let one = one_both sought.thrown (take at hand.kept) (one_prefix sought.thrown (take searched hand.kept) sought.one) begin.one in
      let length_is = length-append sought.thrown (take at hand.kept) in
      let all_is = length-append sought.thrown hand.kept in
      let full : capacity ≤ length line = omega (arith, over_it.1, length_is, length-take-le at hand.kept (omega arith), sought.lost_is) in
      let more : capacity < length (line ++ drop at hand.kept) = rw whole (omega (arith, over_it.1, all_is, sought.lost_is, high)) in
      rw over_it.0 (record { all = sought.thrown ++ hand.kept; come = sought.come; why = subst (IsOverLimit capacity) whole (over line (drop at hand.kept) capacity one full more) })

  -- no LF is in hand, and there is no capacity for what is
  pub over_hand : {searched : ℕ} (sought : Sought start before now name line_most capacity size hand lost searched) (stop : ReadStop) →
      IsOneLine hand.kept → (stop ≡ TooMuch) × (capacity < lost + length hand.kept) → GivesUp start before now name capacity stop
  over_hand {searched} sought stop none over_it =
      let all : List ℕ = sought.thrown ++ hand.kept in
      let one = one_both sought.thrown hand.kept (one_prefix sought.thrown (take searched hand.kept) sought.one) none in
      let all_is = length-append sought.thrown hand.kept in
      let more : capacity < length (all ++ []) = rw append-nil (omega (arith, over_it.1, all_is, sought.lost_is)) in
      let full : capacity ≤ length all = omega (arith, over_it.1, all_is, sought.lost_is) in
      rw over_it.0 (record { all = all; come = sought.come; why = subst (IsOverLimit capacity) (append-nil all) (over all [] capacity one full more) })

  -- bytes of a line that is too long were thrown away, and all that is in hand was searched
  pub thrown_long : {searched : ℕ} (sought : Sought start before now name line_most capacity size hand lost searched) (new : Held) (now_lost : ℕ) →
      IsOneLine hand.kept → ThrowsLong line_most hand new lost now_lost → now_lost + length new.kept ≤ capacity → new.size ≡ hand.size →
      Sought start before now name line_most capacity size new now_lost (length new.kept)
  thrown_long {searched} sought new now_lost none throws within same =
      let none_there = one_prefix sought.thrown (take searched hand.kept) sought.one in
      let whole : sought.thrown ++ hand.kept ≡ sought.thrown ++ throws.thrown ++ new.kept =
      ap (λ (l : List ℕ). sought.thrown ++ l) throws.kept ∙ sym (append_assoc sought.thrown throws.thrown new.kept) in
      record {
        thrown = sought.thrown ++ throws.thrown;
        lost_is = omega (arith, length-append sought.thrown throws.thrown, sought.lost_is, throws.lost_is);
        come = subst (HasCome start before now name) whole sought.come;
        one = rw (take_all (length new.kept) new.kept (omega arith)) (subst IsOneLine whole (one_both sought.thrown hand.kept none_there none));
        long = throws.long;
        within = within;
        in_hand = omega arith;
        few = omega arith;
        size_is = same ∙ sought.size_is;
      }

module _ {start : List ℕ} {before now : FilesReport} {name : List ℕ} {line_most capacity size : ℕ} {hand : Held} {lost : ℕ}
    (sought : Sought start before now name line_most capacity size hand lost (length hand.kept)) where
  whole_one : IsOneLine (sought.thrown ++ hand.kept)
  whole_one = subst (λ (l : List ℕ). IsOneLine (sought.thrown ++ l)) (take_all (length hand.kept) hand.kept (omega arith)) sought.one

  -- so what was in hand at the start has no LF
  pub start_one : IsOneLine start
  start_one = one_prefix start sought.come.came (subst IsOneLine (sym sought.come.are) whole_one)

  -- a read failed
  pub read_failed : (after : FilesReport) (stop : FileStop) → Keeps (left_of now name) (left_of after name) → KeepsOthers now after name → NoCountFalls now after →
      GivesUp start before after name capacity (stop_of stop)
  read_failed after Failed kept others counts = record { all = sought.thrown ++ hand.kept; come = come_kept after sought.come kept others counts; why = whole_one }
  read_failed after NoMemory kept others counts = record { all = sought.thrown ++ hand.kept; come = come_kept after sought.come kept others counts; why = whole_one }

  module _ (after : FilesReport) (new : Held) (count : ℕ) (grows : ReadsPiece hand new now after name count) (others : KeepsOthers now after name) (counts : NoCountFalls now after) where
    come_on : HasCome start before after name (sought.thrown ++ new.kept)
    come_on =
        let whole : sought.thrown ++ hand.kept ++ grows.more ≡ sought.thrown ++ new.kept =
        append_assoc sought.thrown hand.kept grows.more ∙ ap (λ (l : List ℕ). sought.thrown ++ l) (sym grows.kept) in
        subst (HasCome start before after name) whole (come_more after grows.more sought.come grows.came others counts)

    new_length : length new.kept ≡ length hand.kept + count
    new_length = ap length grows.kept ∙ (length-append hand.kept grows.more ∙ ap (λ n. length hand.kept + n) grows.count_is)

    old_prefix : take (length hand.kept) new.kept ≡ hand.kept
    old_prefix = ap (take (length hand.kept)) grows.kept ∙ take_at hand.kept grows.more (length hand.kept) refl

    one_on : IsOneLine (sought.thrown ++ take (length hand.kept) new.kept)
    one_on = subst IsOneLine (ap (λ (l : List ℕ). sought.thrown ++ l) (sym old_prefix)) whole_one

    -- more bytes came
    pub searched_on : new.size ≡ hand.size → Sought start before after name line_most capacity size new lost (length hand.kept)
    searched_on same = record {
      thrown = sought.thrown;
      lost_is = sought.lost_is;
      come = come_on;
      one = one_on;
      long = sought.long;
      within = sought.within;
      in_hand = omega (arith, new_length);
      few = omega (arith, new_length, grows.few);
      size_is = same ∙ sought.size_is;
    }

    -- nothing came
    pub found_end : count ≡ 0 → FindsLineEnd start before after name line_most capacity new (record { lost = lost; length = length hand.kept; is_last = true })
    found_end none = record {
      thrown = sought.thrown;
      lost_is = sought.lost_is;
      come = come_on;
      one = one_on;
      way = (omega (arith, new_length, none), grows.end none);
      in_hand = omega (arith, new_length);
      within = omega (arith, sought.within);
      few = omega (arith, new_length, grows.few);
      long = sought.long;
    }
