-- The classes that stand in the table of properties, by their numbers.
use Rattle.std.specs.Prelude.{ℕ}

abbrev pub e1 : ℕ
e1 = 0

abbrev pub e2 : ℕ
e2 = 1

abbrev pub e52 : ℕ
e52 = 2

abbrev pub e53 : ℕ
e53 = 3

abbrev pub e77 : ℕ
e77 = 5

abbrev pub e92 : ℕ
e92 = 6

abbrev pub e4 : ℕ
e4 = 9

abbrev pub e5 : ℕ
e5 = 11

abbrev pub e7 : ℕ
e7 = 12

abbrev pub e63 : ℕ
e63 = 13

abbrev pub e64 : ℕ
e64 = 14

abbrev pub e66 : ℕ
e66 = 36

abbrev pub e67 : ℕ
e67 = 37

abbrev pub e69 : ℕ
e69 = 41

abbrev pub e39 : ℕ
e39 = 44

abbrev pub e74 : ℕ
e74 = 46

abbrev pub e18 : ℕ
e18 = 49

abbrev pub e21 : ℕ
e21 = 56

abbrev pub e55 : ℕ
e55 = 62

abbrev pub e41 : ℕ
e41 = 66
