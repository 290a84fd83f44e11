-- What a text says: its names and triples, or the first refusal.
use Rattle.std.specs.Prelude.{ℕ, ◌≡◌, List, cond, Option, None, Some}
use Rattle.ntriples_tokens.specs.declared.kinds.Kind.{Kind}
use Rattle.ntriples_tokens.specs.declared.kinds.Kind.TheVariants as kind
use Rattle.token_scanner.specs.declared.place.Place.TheVariants.{Beginning}
use Rattle.token_scanner.specs.declared.front.Front.TheVariants.{Token}
use Rattle.ntriples_tokens.specs.Scanning.{Items, items, items_of, front_items}
use Rattle.token_scanner.specs.Items.Items.{Stop, Bad, TooLong, Item}
use Rattle.rdf_terms.specs.declared.terms.Code.TheVariants.{G1, G3, L2}
use Rattle.rdf_terms.specs.declared.terms.Refusal.{Refusal}
use Rattle.rdf_terms.specs.declared.triples.Records.{Records}
use Rattle.rdf_reading.specs.Answers.{Answer, unless, by_code}
use Rattle.rdf_reading.specs.Answers.Answer.{Refuse, Read}
use Rattle.ntriples_reader.specs.Lines.{LineState, no_line, code_at, line_after, is_between}
use Rattle.ntriples_reader.specs.Storing.{held_after, nothing}
use Rattle.ntriples_reader.specs.declared.store.Held.{Held}
use Rattle.ntriples_reader.specs.declared.store.Store.{Store}
use Rattle.ntriples_reader.specs.declared.lines.LinesReader.{LinesReader}

abbrev pub records_of : Store → Records
records_of st = record { names = st.names; triples = st.triples }

abbrev pub if_dot : Kind → Held → Held → Held
if_dot kind.Dot h g = h
if_dot _ h g = g

-- the triple of a line is added at its full stop
abbrev pub held_behind : Kind → LineState → Held → Held
held_behind k l h = if_dot k (held_after h l) h

-- The answer where a line is read so far and these items follow: the first refusal of a token, else the first limit that was passed.
abbrev pub judge : LineState → Held → Items → Answer
judge l h (Stop end) = cond (is_between l.expect) (unless h.limit (Read (records_of h.store))) (Refuse G3 end)
judge l h (Bad at) = Refuse G1 at
judge l h (TooLong at) = Refuse L2 at
judge l h (Item k chars at rest) = by_code (code_at l k chars) at (judge (line_after l k chars at) (held_behind k (line_after l k chars at) h) rest)

-- the answer to the characters of a text
abbrev pub text_answer : List ℕ → Answer
text_answer chars = judge no_line nothing (items Beginning 0 chars 0)

-- the answer of a reader where these characters are still fed
abbrev pub answer_of : LinesReader → List ℕ → Answer
answer_of r more = unless r.refusal (judge r.line r.held (items_of r.cutter more))

abbrev pub token_items : Kind → ℕ → List ℕ → ℕ → Items
token_items k n chars at = front_items (Token k n) chars at

abbrev pub Judges : Option Refusal → Store → Answer → Type 0
Judges None st a = a ≡ Read (records_of st)
Judges (Some r) st a = a ≡ Refuse r.code r.at
