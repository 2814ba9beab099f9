-- What the next answer of a reader of lines says, from what was found.
use Rattle.std.proofs.Common.{◌≡◌, ◌⊎◌, ℕ, ◌+◌, ◌-◌, ◌<◌, ◌≤◌, Bool, true, false, List, [], ◌∷◌, ◌++◌, length, take, drop, Some, None, Ok, Err, refl, sym, ap, ◌∙◌, inl, inr, arith, length-append, append_assoc, append-nil}
use Rattle.std.proofs.lemmas.List.{length-take-le, take_all, drop_all, nil_from_length}
use Rattle.std.specs.Prelude.{Option, IfSome}
use Rattle.std.specs.Option.{option_map}
use Rattle.std.specs.Io.KnownBytes.{Consumes, IsAtEnd}
use Rattle.cb_io.specs.declared.line_end.LineEnd.{LineEnd}
use Rattle.cb_io.specs.declared.line_reader.Line.{Line}
use Rattle.cb_io.specs.declared.line_reader.Line.TheVariants.{Text, Long, End}
use Rattle.cb_io.specs.declared.whole.ReadStop.{ReadStop}
use Rattle.cb_io.specs.declared.whole.ReadStop.TheVariants.{ReadFault, TooMuch, NoMemory}
use Rattle.cb_io.specs.Hand.{Held}
use Rattle.cb_io.specs.LineGiving.{IsGivenLine, beyond_line}
use Rattle.cb_io.specs.LineReading.{Reading, coming, IsOneLine, GivesEnded, GivesLast, GivesLine, AnswerSays, Advances}
use Rattle.cb_io.specs.LineSearch.{HasCome, FindsLineEnd, GivesUp, EndsBy, lf_count, length_with_lf, size_of}
use Rattle.cb_io.specs.Outside.{FilesReport, left_of, ReadsPrefix}

-- ---- what is left of the file

if_coming : (kept : List ℕ) (report : Option (List ℕ)) (P : List ℕ → Type 0) → ((left : List ℕ) → report ≡ Some left → P (kept ++ left)) →
    IfSome (option_map (λ left. kept ++ left) report) P
if_coming kept None P next = tt
if_coming kept (Some left) P next = next left refl

-- the bytes that are left after those that were read
record Leaves (report : Option (List ℕ)) (came left : List ℕ) : Type 0 where
  rest : List ℕ
  reported_is : report ≡ Some rest
  are : left ≡ came ++ rest

leaves : (a b : Option (List ℕ)) (came left : List ℕ) → Consumes a b came → a ≡ Some left → Leaves b came left
leaves None b came left read e = cc
leaves (Some xs) None came left read e = absurd read
leaves (Some xs) (Some ys) came left read e =
    let same : xs ≡ left = cc e in
    record { rest = ys; reported_is = refl; are = sym same ∙ read }

module _ {old_kept : List ℕ} {before after : FilesReport} {name all : List ℕ} (come : HasCome old_kept before after name all) (left : List ℕ)
    (report : left_of before name ≡ Some left) where
  beyond : Leaves (left_of after name) come.came left
  beyond = leaves (left_of before name) (left_of after name) come.came left come.read report

  -- the bytes that were to come are those that came and those that are left
  bytes_are : old_kept ++ left ≡ all ++ beyond.rest
  bytes_are =
      ap (λ (l : List ℕ). old_kept ++ l) beyond.are
      ∙ (sym (append_assoc old_kept come.came beyond.rest) ∙ ap (λ (l : List ℕ). l ++ beyond.rest) come.are)

-- in every case a prefix came, and no more
pub come_prefix : {start : List ℕ} {before after : FilesReport} {name all : List ℕ} → HasCome start before after name all → ReadsPrefix before after name
come_prefix come = (come.came, come.read)

-- ---- a line

-- a line without bytes is the last
last_none : (is_last : Bool) (lost n : ℕ) → lost + (n + lf_count is_last) ≡ 0 → is_last ≡ true
last_none true lost n zero = refl
last_none false lost n zero = absurd (omega (arith, zero))

-- the reader while a line is looked for
abbrev pub looking : Reading → Held → Reading
looking old hand = record old { text = hand.text; kept = hand.kept; refused = true }

-- a line that was given in one of two ways
abbrev Gives : Reading → Reading → List ℕ → List ℕ → List ℕ → Type 0
Gives old new bytes line rest = GivesEnded old new bytes line rest ⊎ GivesLast old new bytes line rest

module _ (kept thrown : List ℕ) (after : FilesReport) (name : List ℕ) (n : ℕ) (one : IsOneLine (thrown ++ take n kept)) (file bytes : List ℕ)
    (left : left_of after name ≡ Some file) (are : bytes ≡ thrown ++ kept ++ file) (old new : Reading) where
  abbrev line : List ℕ
  line = thrown ++ take n kept

  line_length : n ≤ length kept → length line ≡ length thrown + n
  line_length few = omega (arith, length-append thrown (take n kept), length-take-le n kept few)

  -- nothing is left after the end of the file
  at_end : IsAtEnd (left_of after name) → file ≡ []
  at_end end = rw left at end

  -- it is the next line of the bytes
  gives : (is_last : Bool) → EndsBy kept after name n is_last → n + lf_count is_last ≤ length kept → 0 < length thrown + (n + lf_count is_last) →
      new.given ≡ old.given + (length thrown + (n + lf_count is_last)) → new.ended ≡ is_last → Gives old new bytes line (drop (n + lf_count is_last) kept ++ file)
  gives false way few some given ended =
      let beyond : kept ++ file ≡ take n kept ++ 10 ∷ (drop (n + 1) kept ++ file) =
      ap (λ (l : List ℕ). l ++ file) way ∙ append_assoc (take n kept) (10 ∷ drop (n + 1) kept) file in
      let whole : bytes ≡ line ++ 10 ∷ (drop (n + 1) kept ++ file) =
      are ∙ (append_assoc thrown kept file ∙ (ap (λ (l : List ℕ). thrown ++ l) beyond ∙ sym (append_assoc thrown (take n kept) (10 ∷ (drop (n + 1) kept ++ file))))) in
      inl (record {
        begin = record { one = one; are = whole };
        given = omega (arith, given, line_length (omega (arith, few)));
        ended = ended;
      })
  gives true way few some given ended =
      let none = at_end way.1 in
      let all : take n kept ≡ kept = take_all n kept (omega (arith, way.0)) in
      let whole : bytes ≡ line =
      are ∙ (ap (λ (l : List ℕ). thrown ++ kept ++ l) none ∙ (append-nil (thrown ++ kept) ∙ ap (λ (l : List ℕ). thrown ++ l) (sym all))) in
      let length_is = line_length (omega (arith, few)) in
      inr (record {
        last = record {
          one = one;
          some = λ empty. let zero = ap length empty in omega (arith, zero, length_is, some);
          are = whole;
        };
        none = ap (λ (l : List ℕ). drop (n + 0) kept ++ l) none ∙ (append-nil (drop (n + 0) kept) ∙ drop_all (n + 0) kept (omega (arith, way.0)));
        given = omega (arith, given, length_is);
        ended = ended;
      })

  -- there is none, so the file has ended, and nothing is left
  none_left : (is_last : Bool) → EndsBy kept after name n is_last → length thrown + (n + lf_count is_last) ≡ 0 →
      (is_last ≡ true) × (thrown ≡ []) × (kept ≡ []) × (file ≡ [])
  none_left false way zero = absurd (omega (arith, zero))
  none_left true way zero = (refl, nil_from_length thrown (omega (arith, zero)), nil_from_length kept (omega (arith, way.0, zero)), at_end way.1)

  -- then no byte was to come
  no_bytes : thrown ≡ [] → kept ≡ [] → file ≡ [] → bytes ≡ []
  no_bytes no_thrown no_kept no_file =
      are ∙ (ap (λ (l : List ℕ). l ++ kept ++ file) no_thrown ∙ (ap (λ (l : List ℕ). l ++ file) no_kept ∙ no_file))

module _ (old : Reading) (hand : Held) (before after : FilesReport) (end : LineEnd)
    (found : FindsLineEnd old.kept before after old.name old.line_most (old.total_most - old.given) hand end) (capacity : old.given ≤ old.total_most) where
  module _ (left : List ℕ) (report : left_of before old.name ≡ Some left) where
    abbrev file : List ℕ
    file = (beyond found.come left report).rest

    -- what comes after the line
    comes : (number text : ℕ) → coming (beyond_line (looking old hand) end number text) after ≡ Some (drop (length_with_lf end) hand.kept ++ file)
    comes number text = ap (option_map (λ (l : List ℕ). drop (length_with_lf end) hand.kept ++ l)) (beyond found.come left report).reported_is

    gives_line : (text : ℕ) → 0 < size_of end →
        GivesLine old (beyond_line (looking old hand) end (old.number + 1) text) after (old.kept ++ left) (found.thrown ++ take end.length hand.kept)
    gives_line text some =
        let new : Reading = beyond_line (looking old hand) end (old.number + 1) text in
        record {
          rest = drop (length_with_lf end) hand.kept ++ file;
          way = gives hand.kept found.thrown after old.name end.length found.one file (old.kept ++ left) (beyond found.come left report).reported_is
              (bytes_are found.come left report) old new end.is_last found.way found.in_hand (omega (arith, some, found.lost_is)) (omega (arith, found.lost_is)) refl;
          comes = comes (old.number + 1) text;
          number = refl;
          within = omega (arith, found.within, capacity);
        }

    says_at : (new : Reading) (reported_line : Line) → IsGivenLine (looking old hand) end new reported_line → AnswerSays old new after (Ok reported_line) (old.kept ++ left)
    says_at new (Text number) tells =
        let none : found.thrown ≡ [] = nil_from_length found.thrown (omega (arith, found.lost_is, found.long, tells.1)) in
        rw tells.3 (record {
          line = rw none at (gives_line end.length tells.0);
          short = omega (arith, tells.1, length-take-le end.length hand.kept (omega (arith, found.in_hand)));
        })
    says_at new (Long number) tells = rw tells.3 (record {
      line = found.thrown ++ take end.length hand.kept;
      gives = gives_line 0 tells.0;
      long = omega (arith, tells.1, length-append found.thrown (take end.length hand.kept), found.lost_is, length-take-le end.length hand.kept (omega (arith, found.in_hand)));
      text = refl;
    })
    says_at new End tells =
        let zero = tells.0 in
        let reported_is = (beyond found.come left report).reported_is in
        let are = bytes_are found.come left report in
        let none = none_left hand.kept found.thrown after old.name end.length found.one file (old.kept ++ left) reported_is are old new end.is_last found.way
        (omega (arith, zero, found.lost_is)) in
        let nothing : drop (length_with_lf end) hand.kept ++ file ≡ [] =
        ap (λ (l : List ℕ). drop (length_with_lf end) l ++ file) none.2 ∙ (ap (λ (l : List ℕ). l ++ file) (drop_all (length_with_lf end) [] (omega arith)) ∙ none.3) in
        rw tells.1 (record {
          none = no_bytes hand.kept found.thrown after old.name end.length found.one file (old.kept ++ left) reported_is are old new none.1 none.2 none.3;
          comes = comes old.number 0 ∙ ap (λ (l : List ℕ). Some l) nothing;
          number = refl;
          given = omega (arith, zero);
          ended = none.0;
          text = refl;
        })

  -- what the answer says, where the files tell the bytes
  pub says_line : (new : Reading) (reported_line : Line) → IsGivenLine (looking old hand) end new reported_line → IfSome (coming old before) (AnswerSays old new after (Ok reported_line))
  says_line new reported_line tells = if_coming old.kept (left_of before old.name) (AnswerSays old new after (Ok reported_line)) (λ left report. says_at left report new reported_line tells)

  -- how far the answer goes on, whatever the files tell
  pub advances_line : (new : Reading) (reported_line : Line) → IsGivenLine (looking old hand) end new reported_line → Advances old new reported_line
  advances_line new (Text number) tells = rw tells.3 (refl, omega (arith, tells.0), omega (arith, found.within, capacity))
  advances_line new (Long number) tells = rw tells.3 (refl, omega (arith, tells.0), omega (arith, found.within, capacity))
  advances_line new End tells = rw tells.1 (last_none end.is_last end.lost end.length tells.0, refl, omega (arith, tells.0))

-- ---- no line

module _ (old new : Reading) (before after : FilesReport) (capacity : old.given ≤ old.total_most) where
  stops_at : (stop : ReadStop) → GivesUp old.kept before after old.name (old.total_most - old.given) stop → (left : List ℕ) → left_of before old.name ≡ Some left →
      AnswerSays old new after (Err stop) (old.kept ++ left)
  stops_at TooMuch up left report =
      let over = up.why in
      let file = (beyond up.come left report).rest in
      let are = bytes_are up.come left report in
      record {
        before = over.prefix;
        beyond = over.beyond ++ file;
        are = are ∙ (ap (λ (l : List ℕ). l ++ file) over.are ∙ append_assoc over.prefix over.beyond file);
        one = over.one;
        full = omega (arith, over.full, capacity);
        more = λ none. over.more (nil_from_length over.beyond (let zero = ap length none in omega (arith, zero, length-append over.beyond file)));
        prefix = up.all;
        rest = file;
        loses = record { are = are; left = (beyond up.come left report).reported_is };
      }
  stops_at ReadFault up left report = record {
    prefix = up.all;
    rest = (beyond up.come left report).rest;
    loses = record { are = bytes_are up.come left report; left = (beyond up.come left report).reported_is };
    one = up.why;
  }
  stops_at NoMemory up left report = record {
    prefix = up.all;
    rest = (beyond up.come left report).rest;
    loses = record { are = bytes_are up.come left report; left = (beyond up.come left report).reported_is };
    one = up.why;
  }

  pub says_stop : (stop : ReadStop) → GivesUp old.kept before after old.name (old.total_most - old.given) stop → IfSome (coming old before) (AnswerSays old new after (Err stop))
  says_stop stop up = if_coming old.kept (left_of before old.name) (AnswerSays old new after (Err stop)) (stops_at stop up)
