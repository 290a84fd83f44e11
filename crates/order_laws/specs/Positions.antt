-- Positions, compared by instant and then by rank.
use Rattle.std.specs.Prelude.{◌≡◌, ◌<◌, ◌≤◌, ◌<ℤ◌, ◌⊎◌, Bool, true, false}
use Rattle.order_laws.specs.declared.Position.{Position}

abbrev pub IsBefore : Position → Position → Type 0
IsBefore p q = (p.instant <ℤ q.instant) ⊎ ((p.instant ≡ q.instant) × (p.rank < q.rank))

abbrev pub IsAtOrBefore : Position → Position → Type 0
IsAtOrBefore p q = (p.instant <ℤ q.instant) ⊎ ((p.instant ≡ q.instant) × (p.rank ≤ q.rank))

-- how two positions stand, strictly where the flag is set
abbrev pub Stand : Bool → Position → Position → Type 0
Stand true p q = IsBefore p q
Stand false p q = IsAtOrBefore p q
