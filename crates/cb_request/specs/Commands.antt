-- The table of commands: which words ask for what.
use Rattle.std.specs.Prelude.{ℕ, List, [], ◌∷◌, codes, map, Option, None, Some, String, string_bytes}
use Rattle.std.specs.declared.alloc.Global.{Global}
use Rattle.std.specs.Option.{option_map, option_and_then}
use Rattle.cb_io.specs.Pairs.{look_up}
use Rattle.cb_request.specs.NodeWords.{node_in}
use Rattle.cb_request.specs.Numbers.{depth_in, window_in, sites_in, start_in, wish_in}
use Rattle.cb_request.specs.declared.request.Request.{Request}
use Rattle.cb_request.specs.declared.request.Request.TheVariants as requests

-- the words of the command line, as bytes
abbrev pub texts : List (String Global) → List (List ℕ)
texts words = map string_bytes words

-- what the words after each command ask for
abbrev pub burst_of : List (List ℕ) → Option Request
burst_of (one ∷ two ∷ three ∷ []) = Some (requests.Burst one two three)
burst_of words = None

abbrev pub model_of : List (List ℕ) → Option Request
model_of (one ∷ []) = Some (requests.Model one)
model_of words = None

abbrev pub matrix_of : List (List ℕ) → Option Request
matrix_of (one ∷ two ∷ []) = Some (requests.Matrix one two)
matrix_of words = None

abbrev pub codebook_of : List (List ℕ) → Option Request
codebook_of (one ∷ two ∷ distance ∷ []) = option_map (requests.Codebook one two) (wish_in distance)
codebook_of words = None

abbrev pub verify_of : List (List ℕ) → Option Request
verify_of (one ∷ two ∷ three ∷ []) = Some (requests.Verify one two three)
verify_of words = None

abbrev pub decode_of : List (List ℕ) → Option Request
decode_of (one ∷ two ∷ three ∷ log ∷ window ∷ []) = option_map (requests.Decode one two three log) (window_in window)
decode_of words = None

abbrev pub correlate_of : List (List ℕ) → Option Request
correlate_of (one ∷ two ∷ log ∷ distance ∷ window ∷ []) =
    option_and_then (λ wish. option_map (requests.Correlate one two log wish) (window_in window)) (wish_in distance)
correlate_of words = None

abbrev pub grow_of : List (List ℕ) → Option Request
grow_of (sites ∷ start ∷ []) = option_and_then (λ n. option_map (requests.Grow n) (start_in start)) (sites_in sites)
grow_of words = None

abbrev pub pairs_of : List (List ℕ) → Option Request
pairs_of (one ∷ two ∷ three ∷ []) = Some (requests.Pairs one two three)
pairs_of words = None

abbrev pub explain_of : List (List ℕ) → Option Request
explain_of (one ∷ two ∷ three ∷ []) = Some (requests.Explain one two three)
explain_of words = None

abbrev pub levels_of : List (List ℕ) → Option Request
levels_of (one ∷ two ∷ node ∷ []) = option_map (requests.Levels one two) (node_in node)
levels_of words = None

abbrev pub prove_of : List (List ℕ) → Option Request
prove_of (one ∷ two ∷ three ∷ []) = Some (requests.Prove one two three)
prove_of words = None

abbrev pub rewind_of : List (List ℕ) → Option Request
rewind_of (one ∷ two ∷ three ∷ depth ∷ []) = option_map (requests.Rewind one two three) (depth_in depth)
rewind_of words = None

-- the commands, each with what the words after it ask for
abbrev pub commands : List (List ℕ × (List (List ℕ) → Option Request))
commands =
    (codes "burst", burst_of) ∷ (codes "model", model_of) ∷ (codes "matrix", matrix_of) ∷ (codes "codebook", codebook_of)
    ∷ (codes "verify", verify_of) ∷ (codes "decode", decode_of) ∷ (codes "correlate", correlate_of) ∷ (codes "grow", grow_of)
    ∷ (codes "pairs", pairs_of) ∷ (codes "explain", explain_of) ∷ (codes "levels", levels_of) ∷ (codes "prove", prove_of)
    ∷ (codes "rewind", rewind_of) ∷ []

-- what the words of the command line ask for, if they ask for something
abbrev pub request_of : List (List ℕ) → Option Request
request_of [] = None
request_of (command ∷ words) = option_and_then (λ reads. reads words) (look_up commands command)

-- what words ask for, as the program gets them
abbrev pub request_of_arguments : List (String Global) → Option Request
request_of_arguments words = request_of (texts words)
