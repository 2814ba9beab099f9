-- Lists read item by item, and errors that are passed on.
use Rattle.std.proofs.Common.{◌≡◌, ℕ, suc, ◌+◌, ◌-◌, ◌<◌, List, [], ◌∷◌, ◌++◌, length, map, replicate, refl, sym, ap, subst, ◌∙◌, arith}
use Rattle.std.specs.Prelude.{Result, Ok, Err}
use Rattle.std.specs.Result.{IsErrAnd}
use Rattle.std.specs.List.{flat_map}
use Rattle.std.proofs.lemmas.List.{append_assoc, append-nil, map-append, length-append}
use Rattle.std.proofs.lemmas.List.Concat.{flat_map-append}
use Rattle.cb_cert.specs.declared.certificate.Span.{Span}
use Rattle.cb_cert.specs.declared.fault.CertText.{CertText}
use Rattle.cb_cert.specs.declared.line.CertificateLine.{CertificateLine}
use Rattle.cb_cert.specs.declared.reader.Reader.{Reader}
use Rattle.cb_cert.specs.Ahead.{TextPlace}
use Rattle.cb_cert.specs.Lines.{span_lines}
use Rattle.cb_cert.specs.Steps.{HasRead}

-- an error that is passed on is the one that came
pub exit : {X : Type 0} (P : Result X CertText → Type 0) (result : Result X CertText) (err : CertText) → IsErrAnd result (λ x. x ≡ err) → P (Err err) → P result
exit P (Ok x) err is p = absurd is
exit P (Err y) err is p = subst (λ e. P (Err e)) (sym is) p

-- how many items of a list are read
pub record Looped {X : Type 0} (Given : List ℕ → List CertificateLine → List TextPlace → Type 0) (lines : List X → List CertificateLine) (place : TextPlace) (n count i : ℕ)
    (now : Reader) (xs : List X) : Type 0 where
  pub many : length xs ≡ i
  pub read : (text : List ℕ) (before : List CertificateLine) (ahead : List TextPlace) → Given text before ahead
      → HasRead text now (before ++ lines xs) n (replicate (count - i) place ++ ahead)

module _ {X : Type 0} (Given : List ℕ → List CertificateLine → List TextPlace → Type 0) (lines : List X → List CertificateLine) (place : TextPlace) (n count : ℕ) where
  -- none is read yet
  pub looped_none : (now : Reader)
      → ((text : List ℕ) (before : List CertificateLine) (ahead : List TextPlace) → Given text before ahead
      → HasRead text now (before ++ lines []) n (replicate count place ++ ahead))
      → Looped Given lines place n count 0 now []
  looped_none now read = record {
    many = refl;
    read = λ text before ahead given.
        let k : count - 0 ≡ count = omega arith in
        subst (λ m. HasRead text now (before ++ lines []) n (replicate m place ++ ahead)) (sym k) (read text before ahead given);
  }

  module _ (i : ℕ) (now : Reader) (xs : List X) (looped : Looped Given lines place n count i now xs) where
    -- another one comes
    pub looped_at : i < count → (text : List ℕ) (before : List CertificateLine) (ahead : List TextPlace) → Given text before ahead
        → HasRead text now (before ++ lines xs) n (place ∷ (replicate (count - (i + 1)) place ++ ahead))
    looped_at low text before ahead given =
        let k : count - i ≡ suc (count - (i + 1)) = omega arith in
        subst (λ m. HasRead text now (before ++ lines xs) n (replicate m place ++ ahead)) k (looped.read text before ahead given)

    -- it is read
    pub looped_more : i < count → (new : Reader) (x : X) (more : List CertificateLine)
        → ((text : List ℕ) (before : List CertificateLine) (ahead : List TextPlace) → HasRead text now before n (place ∷ ahead) → HasRead text new (before ++ more) n ahead)
        → lines (xs ++ x ∷ []) ≡ lines xs ++ more → Looped Given lines place n count (i + 1) new (xs ++ x ∷ [])
    looped_more low new x more item grown = record {
      many = omega (arith, looped.many, length-append xs (x ∷ []));
      read = λ text before ahead given.
          let rest = replicate (count - (i + 1)) place ++ ahead in
          let next = item text (before ++ lines xs) rest (looped_at low text before ahead given) in
          subst (λ ls. HasRead text new ls n rest) (append_assoc before (lines xs) more ∙ ap (λ (ls : List CertificateLine). before ++ ls) (sym grown)) next;
    }

    -- all are read
    pub looped_all : i ≡ count → (text : List ℕ) (before : List CertificateLine) (ahead : List TextPlace) → Given text before ahead
        → HasRead text now (before ++ lines xs) n ahead
    looped_all all text before ahead given =
        let k : count - i ≡ 0 = omega arith in
        subst (λ m. HasRead text now (before ++ lines xs) n (replicate m place ++ ahead)) k (looped.read text before ahead given)

-- the lines of one item more
pub one_more : {X : Type 0} (f : X → CertificateLine) (first : CertificateLine) (xs : List X) (x : X) → first ∷ map f (xs ++ x ∷ []) ≡ (first ∷ map f xs) ++ f x ∷ []
one_more f first xs x = ap (λ (ls : List CertificateLine). first ∷ ls) (map-append f xs (x ∷ []))

pub one_span_more : (first : CertificateLine) (xs : List Span) (x : Span) → first ∷ flat_map span_lines (xs ++ x ∷ []) ≡ (first ∷ flat_map span_lines xs) ++ span_lines x
one_span_more first xs x =
    ap (λ (ls : List CertificateLine). first ∷ ls) (flat_map-append span_lines xs (x ∷ []) ∙ ap (λ (ls : List CertificateLine). flat_map span_lines xs ++ ls) (append-nil (span_lines x)))
