-- Tokens that are written one after the other, with gaps, are read again.
use Rattle.std.proofs.Common.{◌≡◌, refl, ap, sym, ◌∙◌, subst, ℕ, ◌+◌, ◌-◌, List, [], ◌∷◌, ◌++◌, length, drop, false, Some, arith, append-nil, append_assoc, length-append, take_at, drop_at}
use Rattle.std.specs.Prelude.{slice_range, IsSome}
use Rattle.std.specs.List.{flat_map, count_by}
use Rattle.std.proofs.Common.{take_all, ◌==◌, map}
use Rattle.cb_text.specs.Names.{IsName}
use Rattle.cb_grammar.specs.declared.lexeme.Lexeme.{Lexeme}
use Rattle.cb_grammar.specs.declared.lexeme.Lexeme.TheVariants as lexemes
use Rattle.cb_grammar.specs.Bare.{bare}
use Rattle.cb_lexer.specs.Places.{line_of}
use Rattle.cb_lexer.specs.Gaps.{gap, IsGap, IsLastGap}
use Rattle.cb_lexer.specs.Tokens.{TokenStands, ReadsTokens, EndsRun, IsTokenAt, bytes_of}
use Rattle.cb_lexer.proofs.Bytes.{gap-append}

-- a token with the gaps before and after it
pub record Piece : Type 0 where
  pub lead : List ℕ
  pub token : Lexeme
  pub trail : List ℕ

abbrev pub piece_text : Piece → List ℕ
piece_text p = p.lead ++ (bytes_of p.token ++ p.trail)

-- a token where it stands after these bytes
abbrev pub placed : List ℕ → Lexeme → Lexeme
placed before (lexemes.Name t) = lexemes.Name (record { name = t.name; line = line_of before (length before); start = length before })
placed before k = k

abbrev pub lay : List ℕ → List Piece → List Lexeme
lay before [] = []
lay before (p ∷ ps) = placed (before ++ p.lead) p.token ∷ lay (before ++ p.lead ++ bytes_of p.token ++ p.trail) ps

-- where the tokens after these bytes end; `at` if there are none
abbrev pub last_end : ℕ → List ℕ → List Piece → ℕ
last_end at before [] = at
last_end at before (p ∷ ps) = last_end (length (before ++ p.lead ++ bytes_of p.token)) (before ++ p.lead ++ bytes_of p.token ++ p.trail) ps

placed_bytes : (before : List ℕ) (k : Lexeme) → bytes_of (placed before k) ≡ bytes_of k
placed_bytes before (lexemes.Name t) = refl
placed_bytes before lexemes.Class = refl
placed_bytes before lexemes.Extends = refl
placed_bytes before lexemes.Problem = refl
placed_bytes before lexemes.Symptom = refl
placed_bytes before lexemes.Event = refl
placed_bytes before lexemes.Relation = refl
placed_bytes before lexemes.To = refl
placed_bytes before lexemes.One = refl
placed_bytes before lexemes.Many = refl
placed_bytes before lexemes.Inverse = refl
placed_bytes before lexemes.Rule = refl
placed_bytes before lexemes.Block = refl
placed_bytes before lexemes.Hide = refl
placed_bytes before lexemes.Open = refl
placed_bytes before lexemes.Close = refl
placed_bytes before lexemes.Semicolon = refl
placed_bytes before lexemes.Colon = refl
placed_bytes before lexemes.Dot = refl
placed_bytes before lexemes.Arrow = refl
placed_bytes before lexemes.Plus = refl

-- what a token asks of what stands after it
abbrev pub EndsToken : Lexeme → List ℕ → Type 0
EndsToken lexemes.Open rest = Unit {0}
EndsToken lexemes.Close rest = Unit {0}
EndsToken lexemes.Semicolon rest = Unit {0}
EndsToken lexemes.Colon rest = Unit {0}
EndsToken lexemes.Dot rest = Unit {0}
EndsToken lexemes.Arrow rest = Unit {0}
EndsToken lexemes.Plus rest = Unit {0}
EndsToken (lexemes.Name t) rest = EndsRun rest × IsName t.name
EndsToken k rest = EndsRun rest

line_ahead : (before rest : List ℕ) → line_of before (length before) ≡ line_of (before ++ rest) (length before)
line_ahead before rest = ap (λ l. 1 + count_by (λ b. b == 10) l) (take_all (length before) before (omega arith) ∙ sym (take_at before rest (length before) refl))

placed_token : (before rest beyond : List ℕ) (k : Lexeme) → EndsToken k beyond → IsTokenAt (before ++ rest) (length before) (placed before k) beyond
placed_token before rest beyond (lexemes.Name t) e = record { ends = e.0; name = e.1; line = line_ahead before rest; start_is = refl }
placed_token before rest beyond lexemes.Open e = tt
placed_token before rest beyond lexemes.Close e = tt
placed_token before rest beyond lexemes.Semicolon e = tt
placed_token before rest beyond lexemes.Colon e = tt
placed_token before rest beyond lexemes.Dot e = tt
placed_token before rest beyond lexemes.Arrow e = tt
placed_token before rest beyond lexemes.Plus e = tt
placed_token before rest beyond lexemes.Class e = e
placed_token before rest beyond lexemes.Extends e = e
placed_token before rest beyond lexemes.Problem e = e
placed_token before rest beyond lexemes.Symptom e = e
placed_token before rest beyond lexemes.Event e = e
placed_token before rest beyond lexemes.Relation e = e
placed_token before rest beyond lexemes.To e = e
placed_token before rest beyond lexemes.One e = e
placed_token before rest beyond lexemes.Many e = e
placed_token before rest beyond lexemes.Inverse e = e
placed_token before rest beyond lexemes.Rule e = e
placed_token before rest beyond lexemes.Block e = e
placed_token before rest beyond lexemes.Hide e = e

-- the range after some bytes
range_beyond : (before middle rest : List ℕ) → slice_range (before ++ (middle ++ rest)) (length before) (length (before ++ middle)) ≡ middle
range_beyond before middle rest =
    let size : length (before ++ middle) - length before ≡ length middle = omega (arith, length-append before middle) in
    rw (drop_at before (middle ++ rest) (length before) refl, size) (take_at middle rest (length middle) refl)

pub stands_at : (before space : List ℕ) (k : Lexeme) (beyond : List ℕ) → IsGap space → EndsToken k beyond →
    TokenStands (before ++ (space ++ (bytes_of k ++ beyond))) (length before) (length (before ++ space)) (placed (before ++ space) k) (length (before ++ space ++ bytes_of k))
stands_at before space k beyond space_is ends =
    let text = before ++ (space ++ (bytes_of k ++ beyond)) in
    let cut : before ++ space ++ (bytes_of k ++ beyond) ≡ text = append_assoc before space (bytes_of k ++ beyond) in
    let all : before ++ space ++ bytes_of k ++ beyond ≡ text = append_assoc (before ++ space) (bytes_of k) beyond ∙ cut in
    record {
      after = omega (arith, length-append before space);
      within = omega (arith, sym (ap length all), length-append (before ++ space ++ bytes_of k) beyond);
      gap = subst IsGap (sym (range_beyond before space (bytes_of k ++ beyond))) space_is;
      length = length-append (before ++ space) (bytes_of k) ∙ ap (λ n. length (before ++ space) + length n) (sym (placed_bytes (before ++ space) k));
      bytes = ap (λ t. slice_range t (length (before ++ space)) (length (before ++ space ++ bytes_of k))) (sym cut) ∙ range_beyond (before ++ space) (bytes_of k) beyond ∙ sym (placed_bytes (before ++ space) k);
      whole = subst (λ t. IsTokenAt t (length (before ++ space)) (placed (before ++ space) k) (drop (length (before ++ space ++ bytes_of k)) t)) cut
          (subst (λ d. IsTokenAt (before ++ space ++ (bytes_of k ++ beyond)) (length (before ++ space)) (placed (before ++ space) k) d)
          (sym (ap (drop (length (before ++ space ++ bytes_of k))) (cut ∙ sym all) ∙ drop_at (before ++ space ++ bytes_of k) beyond (length (before ++ space ++ bytes_of k)) refl))
          (placed_token (before ++ space) (bytes_of k ++ beyond) beyond k ends));
    }

stands_in : (text before space first : List ℕ) (k : Lexeme) (beyond : List ℕ) → text ≡ before ++ (space ++ (bytes_of k ++ beyond)) → first ≡ before ++ space → IsGap space → EndsToken k beyond →
    TokenStands text (length before) (length first) (placed first k) (length (first ++ bytes_of k))
stands_in text before space first k beyond text_is first_is gap ends =
    subst (λ t. TokenStands t (length before) (length first) (placed first k) (length (first ++ bytes_of k))) (sym text_is)
    (subst (λ f. TokenStands (before ++ (space ++ (bytes_of k ++ beyond))) (length before) (length f) (placed f k) (length (f ++ bytes_of k))) (sym first_is) (stands_at before space k beyond gap ends))

-- the gaps are gaps, and each token ends
abbrev pub Good : List Piece → List ℕ → Type 0
Good [] tail = Unit {0}
Good (p ∷ ps) tail = IsGap p.lead × IsGap p.trail × EndsToken p.token (p.trail ++ (flat_map piece_text ps ++ tail)) × Good ps tail

pub laid : (ps : List Piece) (text before pending tail : List ℕ) → text ≡ before ++ (pending ++ (flat_map piece_text ps ++ tail)) → IsGap pending → Good ps tail →
    ReadsTokens text (length before) (lay (before ++ pending) ps) (last_end (length before) (before ++ pending) ps)
laid [] text before pending tail is gap good = refl
laid (p ∷ ps) text before pending tail is pend good =
    let rest = flat_map piece_text ps ++ tail in
    let first = before ++ pending ++ p.lead in
    let inner : piece_text p ++ flat_map piece_text ps ++ tail ≡ p.lead ++ (bytes_of p.token ++ (p.trail ++ rest)) =
    append_assoc (piece_text p) (flat_map piece_text ps) tail ∙ append_assoc p.lead (bytes_of p.token ++ p.trail) rest ∙ ap (λ l. p.lead ++ l) (append_assoc (bytes_of p.token) p.trail rest) in
    let one : text ≡ before ++ ((pending ++ p.lead) ++ (bytes_of p.token ++ (p.trail ++ rest))) =
    is ∙ ap (λ l. before ++ (pending ++ l)) inner ∙ ap (λ l. before ++ l) (sym (append_assoc pending p.lead (bytes_of p.token ++ (p.trail ++ rest)))) in
    let first_is : first ≡ before ++ (pending ++ p.lead) = append_assoc before pending p.lead in
    let more : text ≡ (first ++ bytes_of p.token) ++ (p.trail ++ rest) =
    one ∙ sym (append_assoc before (pending ++ p.lead) (bytes_of p.token ++ (p.trail ++ rest))) ∙ ap (λ l. l ++ (bytes_of p.token ++ (p.trail ++ rest))) (sym first_is)
    ∙ sym (append_assoc first (bytes_of p.token) (p.trail ++ rest)) in (
      length first,
      length (first ++ bytes_of p.token),
      stands_in text before (pending ++ p.lead) first p.token (p.trail ++ rest) one first_is (gap-append pending p.lead (Some false) ∙ ap (λ o. gap o p.lead) pend ∙ good.0) good.2,
      laid ps text (first ++ bytes_of p.token) p.trail tail more good.1 good.3,
    )

bare_placed : (before : List ℕ) (k : Lexeme) → bare (placed before k) ≡ bare k
bare_placed before (lexemes.Name t) = refl
bare_placed before lexemes.Class = refl
bare_placed before lexemes.Extends = refl
bare_placed before lexemes.Problem = refl
bare_placed before lexemes.Symptom = refl
bare_placed before lexemes.Event = refl
bare_placed before lexemes.Relation = refl
bare_placed before lexemes.To = refl
bare_placed before lexemes.One = refl
bare_placed before lexemes.Many = refl
bare_placed before lexemes.Inverse = refl
bare_placed before lexemes.Rule = refl
bare_placed before lexemes.Block = refl
bare_placed before lexemes.Hide = refl
bare_placed before lexemes.Open = refl
bare_placed before lexemes.Close = refl
bare_placed before lexemes.Semicolon = refl
bare_placed before lexemes.Colon = refl
bare_placed before lexemes.Dot = refl
bare_placed before lexemes.Arrow = refl
bare_placed before lexemes.Plus = refl

pub same_bare : (ps : List Piece) (before : List ℕ) → map bare (lay before ps) ≡ map (λ p. bare p.token) ps
same_bare [] before = refl
same_bare (p ∷ ps) before = ap (λ k. k ∷ map bare (lay (before ++ p.lead ++ bytes_of p.token ++ p.trail) ps)) (bare_placed (before ++ p.lead) p.token)
    ∙ ap (λ l. bare p.token ∷ l) (same_bare ps (before ++ p.lead ++ bytes_of p.token ++ p.trail))

gap_last : (bs : List ℕ) → IsGap bs → IsLastGap bs
gap_last bs is = subst IsSome (sym is) refl

pub last_gap : (ps : List Piece) (text before pending : List ℕ) → text ≡ before ++ (pending ++ (flat_map piece_text ps ++ [])) → IsGap pending → Good ps [] →
    IsLastGap (drop (last_end (length before) (before ++ pending) ps) text)
last_gap [] text before pending is gap good =
    subst IsLastGap (sym (ap (drop (length before)) is ∙ drop_at before (pending ++ []) (length before) refl ∙ append-nil pending)) (gap_last pending gap)
last_gap (p ∷ ps) text before pending is pend good =
    let rest = flat_map piece_text ps ++ [] in
    let first = before ++ pending ++ p.lead in
    let inner : piece_text p ++ flat_map piece_text ps ++ [] ≡ p.lead ++ (bytes_of p.token ++ (p.trail ++ rest)) =
    append_assoc (piece_text p) (flat_map piece_text ps) [] ∙ append_assoc p.lead (bytes_of p.token ++ p.trail) rest ∙ ap (λ l. p.lead ++ l) (append_assoc (bytes_of p.token) p.trail rest) in
    let more : text ≡ (first ++ bytes_of p.token) ++ (p.trail ++ rest) =
    is ∙ ap (λ l. before ++ (pending ++ l)) inner ∙ sym (append_assoc before pending (p.lead ++ (bytes_of p.token ++ (p.trail ++ rest)))) ∙ sym (append_assoc (before ++ pending) p.lead (bytes_of p.token ++ (p.trail ++ rest)))
    ∙ sym (append_assoc first (bytes_of p.token) (p.trail ++ rest)) in
    last_gap ps text (first ++ bytes_of p.token) p.trail more good.1 good.3
