-- Why a text of N-Triples is refused, and what it says where it is not.
use Rattle.std.specs.Prelude.{ℕ, ◌≡◌, ◌⊎◌, List, [], ◌∷◌, ◌++◌, map, Some}
use Rattle.rdf_chars.specs.Steps as steps
use Rattle.rdf_chars.specs.Decoding.{decoded}
use Rattle.rdf_chars.specs.Decoding.Decoded.{Chars, BadAt}
use Rattle.rdf_terms.specs.declared.terms.Code.{Code}
use Rattle.rdf_terms.specs.declared.terms.Code.TheVariants.{U1, G1, G2, G3, L2}
use Rattle.rdf_terms.specs.declared.triples.Records.{Records}
use Rattle.ntriples_tokens.specs.declared.kinds.Kind.{Kind}
use Rattle.ntriples_tokens.specs.declared.kinds.Kind.TheVariants as kind
use Rattle.token_scanner.specs.declared.place.Place.TheVariants.{Beginning}
use Rattle.ntriples_tokens.specs.Scanning.{Items, items}
use Rattle.token_scanner.specs.Items.Items.{Stop, Bad, TooLong, Item}
use Rattle.ntriples_reader.specs.declared.line.Sort.{Sort}
use Rattle.ntriples_reader.specs.declared.line.Sort.TheVariants as sort
use Rattle.ntriples_reader.specs.Lines.{LineState, no_line, line_after, token_code}
use Rattle.ntriples_reader.specs.Storing.{label_number, with_label, literal_of}
use Rattle.ntriples_laws.specs.Grammar.{Document, document}
use Rattle.reading_laws.specs.Telling.{Thing, Statement}
use Rattle.reading_laws.specs.Telling.Thing.{Iri, Blank, Lit}
use Rattle.reading_laws.specs.Counting.{records, IsSmall, IsLimit}

-- a token with its characters and its place
pub record LineToken : Type 0 where
  pub kind : Kind
  pub chars : List ℕ
  pub at : ℕ

abbrev pub kinds : List LineToken → List Kind
kinds ts = map (λ t. t.kind) ts

-- these tokens come first, and then the rest
abbrev pub IsCut : Items → List LineToken → Items → Type 0
IsCut i [] rest = i ≡ rest
IsCut (Item k chars at i) (t ∷ ts) rest = (t ≡ record { kind = k; chars = chars; at = at }) × IsCut i ts rest
IsCut i (t ∷ ts) rest = ⊥

abbrev pub Viable : List Kind → Type 0
Viable ks = (more : List Kind) × (d : Document) × (ks ++ more ≡ document d)

-- A token's fault behind others: with it no document begins; or it is an IRI with an escape for a character that it may not have, or without scheme.
abbrev pub IsFault : List LineToken → LineToken → Code → Type 0
IsFault ts t code = ((code ≡ G2) × (Viable (kinds ts ++ t.kind ∷ []) → ⊥)) ⊎ (Viable (kinds ts ++ t.kind ∷ []) × (token_code t.kind t.chars ≡ Some code))

abbrev pub AreFine : List LineToken → Type 0
AreFine ts = (us vs : List LineToken) (t : LineToken) (code : Code) → ts ≡ us ++ t ∷ vs → IsFault us t code → ⊥

-- the lines with a triple, each as it stands at its full stop
abbrev pub behind : LineState → LineToken → LineState
behind l t = line_after l t.kind t.chars t.at

abbrev pub with_dot : Kind → LineState → List LineState → List LineState
with_dot kind.Dot l ls = l ∷ ls
with_dot _ l ls = ls

abbrev pub triple_lines : LineState → List LineToken → List LineState
triple_lines l [] = []
triple_lines l (t ∷ ts) = with_dot t.kind (behind l t) (triple_lines (behind l t) ts)

-- what they tell; labels are numbered by first coming
abbrev pub thing : List (List ℕ) → Sort → List ℕ → LineState → Thing
thing labels sort.Iri text l = Iri text
thing labels sort.Blank text l = Blank (label_number labels text)
thing labels sort.Literal text l = Lit (literal_of text l)

abbrev pub labels_by : List (List ℕ) → Sort → List ℕ → List (List ℕ)
labels_by labels sort.Blank text = with_label labels text
labels_by labels _ text = labels

abbrev pub line_labels : List (List ℕ) → LineState → List (List ℕ)
line_labels labels l = labels_by (labels_by labels l.subject_sort l.subject) l.object_sort l.object

abbrev pub statement : List (List ℕ) → LineState → Statement
statement labels l = record { s = thing labels l.subject_sort l.subject l; p = l.predicate; o = thing (labels_by labels l.subject_sort l.subject) l.object_sort l.object l; at = l.at }

abbrev pub lines_tell : List (List ℕ) → List LineState → List Statement
lines_tell labels [] = []
lines_tell labels (l ∷ ls) = statement labels l ∷ lines_tell (line_labels labels l) ls

abbrev pub told : List LineToken → List Statement
told ts = lines_tell [] (triple_lines no_line ts)

-- What stands behind tokens without fault.
abbrev pub Stops : List LineToken → Items → Code → ℕ → Type 0
Stops ts (Bad place) code at = (code ≡ G1) × (at ≡ place)
Stops ts (TooLong place) code at = (code ≡ L2) × (at ≡ place)
Stops ts (Item k chars place rest) code at = (at ≡ place) × IsFault ts (record { kind = k; chars = chars; at = place }) code
Stops ts (Stop end) code at = ((code ≡ G3) × (at ≡ end) × ((d : Document) → kinds ts ≡ document d → ⊥)) ⊎ ((d : Document) × (kinds ts ≡ document d) × IsLimit (told ts) code at)

-- The bytes are no UTF-8; or their first tokens have no fault, and the reading stops behind them.
abbrev pub LinesRefusal : List ℕ → Code → ℕ → Type 0
LinesRefusal bytes code at = ((code ≡ U1) × (decoded steps.start bytes ≡ BadAt at))
    ⊎ ((chars : List ℕ) × (ts : List LineToken) × (rest : Items) × (decoded steps.start bytes ≡ Chars chars) × IsCut (items Beginning 0 chars 0) ts rest × AreFine ts × Stops ts rest code at)

-- The bytes are a document whose tokens have no fault and whose triples pass no limit, and these are its names and triples.
abbrev pub LinesSay : List ℕ → Records → Type 0
LinesSay bytes r = (chars : List ℕ) × (ts : List LineToken) × (end : ℕ) × (d : Document) × (decoded steps.start bytes ≡ Chars chars) × IsCut (items Beginning 0 chars 0) ts (Stop end)
    × (kinds ts ≡ document d) × AreFine ts × IsSmall (records (told ts)) × (r ≡ records (told ts))
