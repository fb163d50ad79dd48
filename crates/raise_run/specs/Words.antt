-- The words of the command line: a snapshot's number and a kind of exceptions.
use Rattle.std.specs.Prelude.{ℕ, List, [], ◌∷◌, Option, None}
use Rattle.std.specs.Option.{option_map, option_and_then}
use Rattle.script_text.specs.Fields.{decimal_in, hex_in}
use Rattle.raise_run.specs.declared.words.RaiseRequest.{RaiseRequest}

-- what these two words ask for, each spelled as in a script
abbrev pub request_in : List ℕ → List ℕ → Option RaiseRequest
request_in snapshot kind =
    option_and_then
    (λ number. option_map (λ k. record { snapshot = number; kind = k }) (hex_in kind))
    (decimal_in snapshot)

-- what the words ask for, where they are two such
abbrev pub request_of : List (List ℕ) → Option RaiseRequest
request_of (snapshot ∷ kind ∷ []) = request_in snapshot kind
request_of _ = None
