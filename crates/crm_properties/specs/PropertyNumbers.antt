-- The properties that rules speak of, by their numbers.
use Rattle.std.specs.Prelude.{ℕ, ◌==◌, ◌||◌, Bool}

-- P4 has time-span, P160 has temporal projection
abbrev pub p4 : ℕ
p4 = 8

abbrev pub p160 : ℕ
p160 = 9

-- P86 falls within
abbrev pub p86 : ℕ
p86 = 12

-- P82a begin of the begin, P81a end of the begin, P81b begin of the end, P82b end of the end
abbrev pub p82a : ℕ
p82a = 13

abbrev pub p81a : ℕ
p81a = 14

abbrev pub p81b : ℕ
p81b = 15

abbrev pub p82b : ℕ
p82b = 16

-- the typed stratigraphic relations
abbrev pub ap13_before : ℕ
ap13_before = 17

abbrev pub ap13_after : ℕ
ap13_after = 18

abbrev pub ap13_same : ℕ
ap13_same = 19

-- AP7 produced
abbrev pub ap7 : ℕ
ap7 = 40

-- the properties of a relation that is a node
abbrev pub relation_from : ℕ
relation_from = 41

abbrev pub relation_to : ℕ
relation_to = 42

abbrev pub relation_type : ℕ
relation_type = 43

abbrev pub is_typed_relation : ℕ → Bool
is_typed_relation code = code == ap13_before || code == ap13_after || code == ap13_same
