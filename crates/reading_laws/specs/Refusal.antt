-- Why a text is refused, and what it says where it is not.
use Rattle.std.specs.Prelude.{ℕ, ◌≤◌, ◌≡◌, ◌⊎◌, List, [], ◌∷◌, ◌++◌, length, true, Option, Some}
use Rattle.rdf_terms.specs.declared.terms.Code.{Code}
use Rattle.rdf_terms.specs.declared.terms.Code.TheVariants.{U1, G1, G2, G3, L2, L3}
use Rattle.rdf_terms.specs.declared.triples.Records.{Records}
use Rattle.turtle_grammar.specs.Tokens.{Token}
use Rattle.turtle_grammar.specs.Grammar.{Document, document, Viable}
use Rattle.turtle_lexer.specs.Streams.{Stream, tokens}
use Rattle.turtle_lexer.specs.Streams.Stream.{Ends, NoToken, Overlong, Given}
use Rattle.turtle_lexer.specs.Streams.Ahead.{NotUtf8, Tokens}
use Rattle.turtle_environments.specs.Words.{token_by}
use Rattle.turtle_reader.specs.Answers.{environment}
use Rattle.reading_laws.specs.Spelling.{IsCut, IsDocument}
use Rattle.reading_laws.specs.Refusals.{is_opening, open_behind}
use Rattle.reading_laws.specs.Directives.{outset, all_behind, name_fault}
use Rattle.reading_laws.specs.Telling.{Statement, statements}
use Rattle.reading_laws.specs.Counting.{records, IsSmall, IsLimit}

-- A token's fault behind others: with it no document begins; or it is the 129th bracket that stands open; or a name that the directives before it refuse.
abbrev pub IsFault : Option (List ℕ) → List Token → Token → Code → Type 0
IsFault base ts t code = ((code ≡ G2) × (Viable (ts ++ t ∷ []) → ⊥))
    ⊎ (Viable (ts ++ t ∷ []) × (code ≡ L3) × (is_opening t ≡ true) × (128 ≤ open_behind 0 ts))
    ⊎ (Viable (ts ++ t ∷ []) × (name_fault (all_behind (outset (environment base)) ts) t ≡ Some code))

-- none of the tokens has a fault
abbrev pub AreFine : Option (List ℕ) → List Token → Type 0
AreFine base ts = (us vs : List Token) (t : Token) (code : Code) → ts ≡ us ++ t ∷ vs → IsFault base us t code → ⊥

-- the triples of the document
abbrev pub told : Option (List ℕ) → Document → List Statement
told base d = statements d (environment base)

-- What stands behind tokens without fault in a text of n bytes: no token, one that is too long, one with a fault, or the end, where the tokens are no document or a triple passes a limit.
abbrev pub Stops : Option (List ℕ) → ℕ → List Token → Stream → Code → ℕ → Type 0
Stops base n ts (NoToken place) code at = (code ≡ G1) × (at ≡ place)
Stops base n ts (Overlong place) code at = (code ≡ L2) × (at ≡ place)
Stops base n ts (Given kind text cut from to s) code at = (at ≡ from) × IsFault base ts (token_by kind text cut from) code
Stops base n ts (Ends place) code at = ((code ≡ G3) × (at ≡ n) × ((d : Document) → ts ≡ document d → ⊥))
    ⊎ ((d : Document) × (ts ≡ document d) × IsLimit (told base d) code at)

-- The bytes are no UTF-8; or their first tokens have no fault, and the reading stops behind them.
abbrev pub Refusal : Option (List ℕ) → List ℕ → Code → ℕ → Type 0
Refusal base bytes code at = ((code ≡ U1) × (tokens bytes ≡ NotUtf8 at))
    ⊎ ((s : Stream) × (ts : List Token) × (rest : Stream) × (tokens bytes ≡ Tokens s) × IsCut s ts rest × AreFine base ts × Stops base (length bytes) ts rest code at)

-- The bytes are a document whose tokens have no fault and whose triples pass no limit, and these are its names and triples.
abbrev pub Says : Option (List ℕ) → List ℕ → Records → Type 0
Says base bytes r = (d : Document) × IsDocument bytes d × AreFine base (document d) × IsSmall (records (told base d)) × (r ≡ records (told base d))
