-- What the answers of a pool say.
use Rattle.std.specs.Prelude.{ℕ, ◌≡◌, ◌+◌, ◌++◌, [], ◌∷◌, true, false, Option, Some, None}
use Rattle.rdf_terms.specs.declared.terms.Triple.{Triple}
use Rattle.triple_pool.specs.declared.PoolFault.{PoolFault}
use Rattle.triple_pool.specs.declared.PoolFault.TheVariants.{Full, Memory}
use Rattle.triple_pool.specs.Pool.{Numbered, is_held}

-- the triple got the next unused number, or it is held already
abbrev pub Adds : Numbered → Numbered → Triple → Option ℕ → Type 0
Adds before after t None = (is_held t before.pairs ≡ true) × (after ≡ before)
Adds before after t (Some n) = (is_held t before.pairs ≡ false) × (n ≡ before.used)
    × (after ≡ record { pairs = before.pairs ++ (n, t) ∷ []; used = before.used + 1 })

-- all is as before; the pool is full only where the triple is new and all numbers are used
abbrev pub Fails : Numbered → Numbered → Triple → PoolFault → Type 0
Fails before after t Full = (is_held t before.pairs ≡ false) × (before.used ≡ 262144) × (after ≡ before)
Fails before after t Memory = after ≡ before
