-- What words ask for is in the range of its command.
use Rattle.std.proofs.Common.{◌≡◌, ℕ, ◌<◌, ◌^◌, List, [], ◌∷◌, true, false, refl, subst, arith, Some}
use Rattle.std.specs.Prelude.{Option, None}
use Rattle.std.specs.Str.{bytes_eq}
use Rattle.std.specs.Option.{option_map, option_and_then}
use Rattle.cb_io.specs.Pairs.{look_up}
use Rattle.cb_model.specs.declared.wish.Wish.{Wish}
use Rattle.cb_model.specs.declared.wish.Wish.TheVariants.{Plain, Cap}
use Rattle.cb_request.specs.Commands.{burst_of, model_of, matrix_of, codebook_of, verify_of, decode_of, correlate_of, grow_of, pairs_of, explain_of, levels_of, prove_of, rewind_of, commands, request_of}
use Rattle.cb_request.specs.NodeWords.{node_in}
use Rattle.cb_request.specs.Numbers.{number_in, depth_in, window_in, sites_in, start_in, wish_in}
use Rattle.cb_request.specs.declared.request.Request.{Request}
use Rattle.cb_request.specs.declared.request.Request.TheVariants as requests
use Rattle.cb_request.proofs.NumberWords.{number_is_read}
use Rattle.cb_request.proofs.WishWords.{wish_is_read}
use Rattle.cb_outcome.specs.Command.{IsWithin, IsWishWithin}
use Rattle.cb_outcome.specs.Asked.{command_of, command_for}
use Rattle.cb_outcome.specs.Laws.{AskedIsInRange}

abbrev IsInRange : Request → Type 0
IsInRange request = (command_of request).range

-- what a command reads is in range
abbrev Keeps : (List (List ℕ) → Option Request) → Type 0
Keeps reads = (words : List (List ℕ)) (request : Request) → reads words ≡ Some request → IsInRange request

number_within : (least most : ℕ) (word : List ℕ) (n : ℕ) → most < 2 ^ 64 → number_in least most word ≡ Some n → IsWithin least most n
number_within least most word n small e = let (written, low, high) = (number_is_read least most word n small).0 e in (low, high)

wish_within : (word : List ℕ) (wish : Wish) → wish_in word ≡ Some wish → IsWishWithin 1 9999 wish
wish_within word (Plain d) e = let is = (wish_is_read word (Plain d)).0 e in (is.some, is.few)
wish_within word (Cap cap) e = let (number, begun, is) = (wish_is_read word (Cap cap)).0 e in (is.some, is.few)

-- of an option that is mapped
mapped : {X : Type 0} (f : X → Request) (P : X → Type 0) → ((x : X) → P x → IsInRange (f x)) → (found : Option X)
    → ((x : X) → found ≡ Some x → P x) → (request : Request) → option_map f found ≡ Some request → IsInRange request
mapped f P keeps None holds request e = cc
mapped f P keeps (Some x) holds request e = let same : f x ≡ request = cc in subst IsInRange same (keeps x (holds x refl))

-- what the words after each command ask for
burst_keeps : Keeps burst_of
burst_keeps [] request e = cc
burst_keeps (one ∷ []) request e = cc
burst_keeps (one ∷ two ∷ []) request e = cc
burst_keeps (one ∷ two ∷ three ∷ []) request e = let same : requests.Burst one two three ≡ request = cc in subst IsInRange same tt
burst_keeps (one ∷ two ∷ three ∷ more ∷ rest) request e = cc

model_keeps : Keeps model_of
model_keeps [] request e = cc
model_keeps (one ∷ []) request e = let same : requests.Model one ≡ request = cc in subst IsInRange same tt
model_keeps (one ∷ more ∷ rest) request e = cc

matrix_keeps : Keeps matrix_of
matrix_keeps [] request e = cc
matrix_keeps (one ∷ []) request e = cc
matrix_keeps (one ∷ two ∷ []) request e = let same : requests.Matrix one two ≡ request = cc in subst IsInRange same tt
matrix_keeps (one ∷ two ∷ more ∷ rest) request e = cc

codebook_keeps : Keeps codebook_of
codebook_keeps [] request e = cc
codebook_keeps (one ∷ []) request e = cc
codebook_keeps (one ∷ two ∷ []) request e = cc
codebook_keeps (one ∷ two ∷ three ∷ []) request e =
    mapped (requests.Codebook one two) (IsWishWithin 1 9999) (λ wish is. is) (wish_in three) (λ wish is. wish_within three wish is) request e
codebook_keeps (one ∷ two ∷ three ∷ more ∷ rest) request e = cc

verify_keeps : Keeps verify_of
verify_keeps [] request e = cc
verify_keeps (one ∷ []) request e = cc
verify_keeps (one ∷ two ∷ []) request e = cc
verify_keeps (one ∷ two ∷ three ∷ []) request e = let same : requests.Verify one two three ≡ request = cc in subst IsInRange same tt
verify_keeps (one ∷ two ∷ three ∷ more ∷ rest) request e = cc

decode_keeps : Keeps decode_of
decode_keeps [] request e = cc
decode_keeps (one ∷ []) request e = cc
decode_keeps (one ∷ two ∷ []) request e = cc
decode_keeps (one ∷ two ∷ three ∷ []) request e = cc
decode_keeps (one ∷ two ∷ three ∷ four ∷ []) request e = cc
decode_keeps (one ∷ two ∷ three ∷ four ∷ five ∷ []) request e =
    mapped (requests.Decode one two three four) (IsWithin 1 1000000000000) (λ w is. is) (window_in five)
    (λ w is. number_within 1 1000000000000 five w (omega arith) is) request e
decode_keeps (one ∷ two ∷ three ∷ four ∷ five ∷ more ∷ rest) request e = cc

-- the second number of two
then_mapped : {X Y : Type 0} (f : X → Y → Request) (P : X → Type 0) (Q : Y → Type 0) → ((x : X) (y : Y) → P x → Q y → IsInRange (f x y))
    → (first : Option X) → ((x : X) → first ≡ Some x → P x) → (second : Option Y) → ((y : Y) → second ≡ Some y → Q y) → (request : Request)
    → option_and_then (λ x. option_map (f x) second) first ≡ Some request → IsInRange request
then_mapped f P Q keeps None one second two request e = cc
then_mapped f P Q keeps (Some x) one second two request e = mapped (f x) Q (λ y is. keeps x y (one x refl) is) second two request e

correlate_keeps : Keeps correlate_of
correlate_keeps [] request e = cc
correlate_keeps (one ∷ []) request e = cc
correlate_keeps (one ∷ two ∷ []) request e = cc
correlate_keeps (one ∷ two ∷ three ∷ []) request e = cc
correlate_keeps (one ∷ two ∷ three ∷ four ∷ []) request e = cc
correlate_keeps (one ∷ two ∷ three ∷ four ∷ five ∷ []) request e =
    then_mapped (requests.Correlate one two three) (IsWishWithin 1 9999) (IsWithin 1 1000000000000) (λ wish w is also. (is, also)) (wish_in four)
    (λ wish is. wish_within four wish is) (window_in five) (λ w is. number_within 1 1000000000000 five w (omega arith) is) request e
correlate_keeps (one ∷ two ∷ three ∷ four ∷ five ∷ more ∷ rest) request e = cc

grow_keeps : Keeps grow_of
grow_keeps [] request e = cc
grow_keeps (one ∷ []) request e = cc
grow_keeps (one ∷ two ∷ []) request e =
    then_mapped requests.Grow (IsWithin 1 256) (λ (start : ℕ). Unit {0}) (λ n start is also. is) (sites_in one)
    (λ n is. number_within 1 256 one n (omega arith) is) (start_in two) (λ n is. tt) request e
grow_keeps (one ∷ two ∷ more ∷ rest) request e = cc

pairs_keeps : Keeps pairs_of
pairs_keeps [] request e = cc
pairs_keeps (one ∷ []) request e = cc
pairs_keeps (one ∷ two ∷ []) request e = cc
pairs_keeps (one ∷ two ∷ three ∷ []) request e = let same : requests.Pairs one two three ≡ request = cc in subst IsInRange same tt
pairs_keeps (one ∷ two ∷ three ∷ more ∷ rest) request e = cc

explain_keeps : Keeps explain_of
explain_keeps [] request e = cc
explain_keeps (one ∷ []) request e = cc
explain_keeps (one ∷ two ∷ []) request e = cc
explain_keeps (one ∷ two ∷ three ∷ []) request e = let same : requests.Explain one two three ≡ request = cc in subst IsInRange same tt
explain_keeps (one ∷ two ∷ three ∷ more ∷ rest) request e = cc

levels_keeps : Keeps levels_of
levels_keeps [] request e = cc
levels_keeps (one ∷ []) request e = cc
levels_keeps (one ∷ two ∷ []) request e = cc
levels_keeps (one ∷ two ∷ three ∷ []) request e = mapped (requests.Levels one two) (λ (word : List ℕ). Unit {0}) (λ word is. tt) (node_in three) (λ word is. tt) request e
levels_keeps (one ∷ two ∷ three ∷ more ∷ rest) request e = cc

prove_keeps : Keeps prove_of
prove_keeps [] request e = cc
prove_keeps (one ∷ []) request e = cc
prove_keeps (one ∷ two ∷ []) request e = cc
prove_keeps (one ∷ two ∷ three ∷ []) request e = let same : requests.Prove one two three ≡ request = cc in subst IsInRange same tt
prove_keeps (one ∷ two ∷ three ∷ more ∷ rest) request e = cc

rewind_keeps : Keeps rewind_of
rewind_keeps [] request e = cc
rewind_keeps (one ∷ []) request e = cc
rewind_keeps (one ∷ two ∷ []) request e = cc
rewind_keeps (one ∷ two ∷ three ∷ []) request e = cc
rewind_keeps (one ∷ two ∷ three ∷ four ∷ []) request e =
    mapped (requests.Rewind one two three) (IsWithin 1 1024) (λ depth is. is) (depth_in four)
    (λ depth is. number_within 1 1024 four depth (omega arith) is) request e
rewind_keeps (one ∷ two ∷ three ∷ four ∷ more ∷ rest) request e = cc

-- a command of a table whose commands all keep their ranges keeps them
abbrev KeepsAll : List (List ℕ × (List (List ℕ) → Option Request)) → Type 0
KeepsAll [] = Unit {0}
KeepsAll (entry ∷ table) = Keeps entry.1 × KeepsAll table

found_keeps : (table : List (List ℕ × (List (List ℕ) → Option Request))) → KeepsAll table → (command : List ℕ) (words : List (List ℕ))
    (request : Request) → option_and_then (λ reads. reads words) (look_up table command) ≡ Some request → IsInRange request
found_keeps [] keeps command words request e = cc
found_keeps (entry ∷ table) keeps command words request e =
    elim (bytes_eq entry.0 command) as (λ b. bytes_eq entry.0 command ≡ b → IsInRange request) [
      | true ↦ λ same. keeps.0 words request (rw same at e)
      | false ↦ λ other. found_keeps table keeps.1 command words request (rw other at e)
    ] refl

request_in_range : (words : List (List ℕ)) (request : Request) → request_of words ≡ Some request → IsInRange request
request_in_range [] request e = cc
request_in_range (command ∷ words) request e =
    found_keeps commands
    (burst_keeps, (model_keeps, (matrix_keeps, (codebook_keeps, (verify_keeps, (decode_keeps, (correlate_keeps, (grow_keeps, (pairs_keeps, (explain_keeps, (levels_keeps, (prove_keeps, (rewind_keeps, tt)))))))))))))
    command words request e

pub asked_is_in_range : AskedIsInRange
asked_is_in_range words = by_case (request_of words) refl
  where
    by_case : (asked : Option Request) → request_of words ≡ asked → (command_for asked).range
    by_case None e = tt
    by_case (Some request) e = request_in_range words request e
