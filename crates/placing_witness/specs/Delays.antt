-- The delaying placing of a boundary, from the floors and the ranks of the plain one.
use Rattle.std.specs.Prelude.{zero, suc, ℕ, ℤ, ◌+◌, Bool, cond, not, ◌&&◌, leb, ◌==◌, List, length}
use Rattle.order_laws.specs.declared.Point.{Point}
use Rattle.order_laws.specs.declared.Point.TheVariants.{Date}
use Rattle.order_laws.specs.declared.Position.{Position}
use Rattle.order_laws.specs.declared.Reach.{Reach}
use Rattle.order_laws.specs.Tables.{is_known, is_strict, all_points, floor_of, floor_instant, count_where, built_at}

-- the floor up to which x delays what it reaches: of the first `count` dates, one more than the number
-- of the greatest that x is not known to be before, or 0 where there is none
abbrev pub delay_of : (Point → Point → Reach) → ℕ → Point → ℕ
delay_of table zero x = 0
delay_of table (suc k) x = cond (is_strict (table x (Date k))) (delay_of table k x) (suc k)

-- x is not known to be at or before q, which has the floor
abbrev pub is_apart : (Point → Point → Reach) → ℕ → Point → ℕ → Point → Bool
is_apart table dates x floor q = not (is_known (table x q)) && (floor_of table dates q == floor)

-- x is known to be at or before q, and not before it
abbrev pub is_level : (Point → Point → Reach) → Point → Point → Bool
is_level table x q = is_known (table x q) && not (is_strict (table x q))

-- q is known to stand between x and p
abbrev pub is_between : (Point → Point → Reach) → Point → Point → Point → Bool
is_between table x p q = is_strict (table x q) && is_strict (table q p)

-- p is known to be at or after x, on a floor that is no higher than the one up to which x delays
abbrev pub is_delayed : (Point → Point → Reach) → ℕ → Point → Point → Bool
is_delayed table dates x p = is_known (table x p) && leb (floor_of table dates p) (delay_of table dates x)

-- the number of points below those that are level with x
abbrev pub level_rank : ℕ → ℕ → (Point → Point → Reach) → Point → ℕ
level_rank extents dates table x = count_where (is_apart table dates x (delay_of table dates x)) (all_points extents dates)

-- the number of points below p, which is delayed
abbrev pub delayed_rank : ℕ → ℕ → (Point → Point → Reach) → Point → Point → ℕ
delayed_rank extents dates table x p =
    level_rank extents dates table x
    + cond (is_strict (table x p)) (count_where (is_level table x) (all_points extents dates) + count_where (is_between table x p) (all_points extents dates)) 0

-- a delayed point stands on the floor up to which x delays, any other where the plain placing has it
abbrev pub delayed_at : ℕ → List ℤ → (Point → Point → Reach) → Point → Point → Position
delayed_at extents dates table x p =
    cond (is_delayed table (length dates) x p)
    (record {
      instant = floor_instant dates (delay_of table (length dates) x);
      rank = delayed_rank extents (length dates) table x p;
    })
    (built_at extents dates table p)
