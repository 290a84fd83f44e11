-- Why bytes are refused, in the words of the grammar.
use Rattle.std.specs.Prelude.{ℕ, ◌+◌, ◌-◌, ◌≤◌, ◌≡◌, ◌⊎◌, List, [], ◌∷◌, ◌++◌, length, Bool, true, false, Option, Some}
use Rattle.rdf_terms.specs.declared.terms.Code.{Code}
use Rattle.rdf_terms.specs.declared.terms.Code.TheVariants.{U1, G1, G2, G3, L2, L3}
use Rattle.turtle_grammar.specs.Tokens.{Token}
use Rattle.turtle_grammar.specs.Tokens.Token.{OpenSquare, CloseSquare, OpenRound, CloseRound}
use Rattle.turtle_grammar.specs.Grammar.{Document, document, Viable}
use Rattle.turtle_lexer.specs.Streams.{Stream, tokens}
use Rattle.turtle_lexer.specs.Streams.Stream.{Ends, NoToken, Overlong, Given}
use Rattle.turtle_lexer.specs.Streams.Ahead.{NotUtf8, Tokens}
use Rattle.turtle_environments.specs.Words.{token_by}
use Rattle.turtle_documents.specs.Documents.{DocumentState, stay_code, after_token, beginning}
use Rattle.turtle_reader.specs.Answers.{environment}
use Rattle.reading_laws.specs.Meaning.{document_says, no_graph}
use Rattle.reading_laws.specs.Spelling.{IsCut}

-- what is read where these tokens are taken
abbrev pub read_on : DocumentState → List Token → DocumentState
read_on d [] = d
read_on d (t ∷ ts) = read_on (after_token d t) ts

abbrev pub read_from : Option (List ℕ) → List Token → DocumentState
read_from base ts = read_on (beginning (environment base)) ts

abbrev pub is_opening : Token → Bool
is_opening (OpenSquare at) = true
is_opening (OpenRound at) = true
is_opening _ = false

-- how many brackets stand open behind tokens, where n stood open before them
abbrev pub open_behind : ℕ → List Token → ℕ
open_behind n [] = n
open_behind n (OpenSquare at ∷ ts) = open_behind (n + 1) ts
open_behind n (OpenRound at ∷ ts) = open_behind (n + 1) ts
open_behind n (CloseSquare ∷ ts) = open_behind (n - 1) ts
open_behind n (CloseRound at ∷ ts) = open_behind (n - 1) ts
open_behind n (t ∷ ts) = open_behind n ts

-- A token is refused behind others: no document begins with them; or it is the 129th bracket that stands open; or it is a name that is refused.
abbrev pub IsTokenFault : Option (List ℕ) → List Token → Token → Code → Type 0
IsTokenFault base ts t code = ((code ≡ G2) × (Viable (ts ++ t ∷ []) → ⊥))
    ⊎ (Viable (ts ++ t ∷ []) × (code ≡ L3) × (is_opening t ≡ true) × (128 ≤ open_behind 0 ts))
    ⊎ (Viable (ts ++ t ∷ []) × (stay_code (read_from base ts) t ≡ Some code))

-- The tokens of a text of n bytes end: they are no document, or a triple of it passed a limit.
abbrev pub IsEndFault : Option (List ℕ) → ℕ → List Token → Code → ℕ → Type 0
IsEndFault base n ts code at = ((code ≡ G3) × (at ≡ n) × ((d : Document) → ts ≡ document d → ⊥))
    ⊎ ((d : Document) × (ts ≡ document d) × ((document_says d (environment base) no_graph).store.limit ≡ Some (record { code = code; at = at })))

-- What stands behind these tokens is refused.
abbrev pub Fault : Option (List ℕ) → ℕ → List Token → Stream → Code → ℕ → Type 0
Fault base n ts (NoToken place) code at = (code ≡ G1) × (at ≡ place)
Fault base n ts (Overlong place) code at = (code ≡ L2) × (at ≡ place)
Fault base n ts (Given kind text cut from to s) code at = (at ≡ from) × IsTokenFault base ts (token_by kind text cut from) code
Fault base n ts (Ends place) code at = IsEndFault base n ts code at

-- none of these tokens is refused
abbrev pub AreTaken : Option (List ℕ) → List Token → Type 0
AreTaken base ts = (us vs : List Token) (t : Token) (code : Code) → ts ≡ us ++ t ∷ vs → IsTokenFault base us t code → ⊥

-- The bytes are no UTF-8; or their first tokens begin a document and are not refused, and what stands behind them is.
abbrev pub IsRefused : Option (List ℕ) → List ℕ → Code → ℕ → Type 0
IsRefused base bytes code at = ((code ≡ U1) × (tokens bytes ≡ NotUtf8 at))
    ⊎ ((s : Stream) × (ts : List Token) × (rest : Stream) × (tokens bytes ≡ Tokens s) × IsCut s ts rest × Viable ts × AreTaken base ts × Fault base (length bytes) ts rest code at)
