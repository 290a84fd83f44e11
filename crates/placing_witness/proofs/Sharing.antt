-- What the code keeps is what the placings need.
use Rattle.std.proofs.Common.{zero, suc, ◌≡◌, ℕ, ℤ, List, [], ◌∷◌, ◌++◌, Bool, true, false, cond, not, leb, ◌+◌, ◌-◌, ◌*◌, ◌<◌, ◌≤◌, length, get_or, map, take, drop, add-one, arith, refl, subst, ap, sym, ◌∙◌}
use Rattle.std.specs.Prelude.{◌&&◌, ◌==◌, flat_map, slice_range, slice_index_or}
use Rattle.std.proofs.Math.Nat.{add-mul}
use Rattle.std.proofs.Math.Seq.{take-suc, take-append_seam, drop-append-add}
use Rattle.std.proofs.lemmas.Grind.{flat_map-append}
use Rattle.std.proofs.lemmas.List.{get_or-map, get_or-take, length-map, length-append, append-nil, map-append, length-take-le}
use Rattle.order_laws.specs.declared.Point.{Point}
use Rattle.order_laws.specs.declared.Point.TheVariants.{Start}
use Rattle.order_laws.specs.declared.Position.{Position}
use Rattle.order_laws.specs.declared.Reach.{Reach}
use Rattle.order_laws.specs.declared.Reach.TheVariants.{None as Nothing}
use Rattle.order_laws.specs.Placings.{no_position}
use Rattle.order_laws.specs.Tables.{is_known, is_strict, floor_of, floor_instant, count_where, counts, all_points, built_at}
use Rattle.order_laws.proofs.Built.{floor_below}
use Rattle.placing_witness.specs.declared.delays.Delay.{Delay}
use Rattle.placing_witness.specs.Bits.{entry_at, words_of, set_in_both, count_to}
use Rattle.placing_witness.specs.Delays.{delay_of, is_apart, is_level, is_between, is_delayed, level_rank, delayed_rank, delayed_at}
use Rattle.placing_witness.specs.Prepared.{lower_row, below_to, between_to, IsBehind, IsDelay, delayed_position, delayed_positions}
use Rattle.placing_witness.proofs.Words.{length-words, shared_so_far, count_same_to, count_end, count_listed}

past : (xs : List Reach) (n : ℕ) → length xs ≤ n → get_or xs n Nothing ≡ Nothing
past [] n h = refl
past (x ∷ xs) zero h = absurd (omega arith)
past (x ∷ xs) (suc n) h = past xs n (omega arith)

module _ (table : Point → Point → Reach) (dates : ℕ) (points : List Point) where
  row_entry : (f : Point → Reach) (n : ℕ) → n < length points → entry_at (map f points) n ≡ f (get_or points n (Start 0))
  row_entry f n h = get_or-map f points n (Start 0) Nothing h

  floor_entry : (n : ℕ) → n < length points → slice_index_or (map (floor_of table dates) points) n 0 ≡ floor_of table dates (get_or points n (Start 0))
  floor_entry n h = get_or-map (floor_of table dates) points n (Start 0) 0 h

  -- a count over entries is a count over points
  counted : (f : ℕ → Bool) (test : Point → Bool) (size : ℕ) → size ≡ length points → ((n : ℕ) → n < length points → f n ≡ test (get_or points n (Start 0))) →
      count_to f size ≡ count_where test points
  counted f test size same each =
      ap (count_to f) same ∙ count_same_to f (λ n. test (get_or points n (Start 0))) (length points) each ∙ count_listed test points (Start 0)

  pub below_is : (floors : List ℕ) (n : ℕ) → n < length points → floors ≡ map (floor_of table dates) points →
      below_to table points floors n (length points) ≡ count_where (counts table dates (get_or points n (Start 0))) points
  below_is floors n here is_floors =
      let p : Point = get_or points n (Start 0) in
      counted _ (counts table dates p) (length points) refl
      (λ k h.
      ap (λ z. is_strict (table (get_or points k (Start 0)) p) && (get_or z k 0 == get_or z n 0)) is_floors
      ∙ ap (λ z. is_strict (table (get_or points k (Start 0)) p) && (z == get_or (map (floor_of table dates) points) n 0)) (floor_entry k h)
      ∙ ap (λ z. is_strict (table (get_or points k (Start 0)) p) && (floor_of table dates (get_or points k (Start 0)) == z)) (floor_entry n here))

  pub apart_is : (x : Point) (row : List Reach) (floors : List ℕ) (floor : ℕ) → row ≡ map (λ q. table x q) points → floors ≡ map (floor_of table dates) points →
      floor ≡ delay_of table dates x →
      count_to (λ n. not (is_known (entry_at row n)) && (slice_index_or floors n 0 == floor)) (length row) ≡ count_where (is_apart table dates x (delay_of table dates x)) points
  apart_is x row floors floor is_row is_floors is_floor =
      counted _ (is_apart table dates x (delay_of table dates x)) (length row) (ap length is_row ∙ length-map points (λ q. table x q))
      (λ n h.
      ap (λ z. not (is_known (entry_at z n)) && (slice_index_or floors n 0 == floor)) is_row
      ∙ ap (λ z. not (is_known z) && (slice_index_or floors n 0 == floor)) (row_entry (λ q. table x q) n h)
      ∙ ap (λ z. not (is_known (table x (get_or points n (Start 0)))) && (slice_index_or z n 0 == floor)) is_floors
      ∙ ap (λ z. not (is_known (table x (get_or points n (Start 0)))) && (z == floor)) (floor_entry n h)
      ∙ ap (λ z. not (is_known (table x (get_or points n (Start 0)))) && (floor_of table dates (get_or points n (Start 0)) == z)) is_floor)

  pub level_is : (x : Point) (row : List Reach) → row ≡ map (λ q. table x q) points →
      count_to (λ n. is_known (entry_at row n) && not (is_strict (entry_at row n))) (length row) ≡ count_where (is_level table x) points
  level_is x row is_row =
      counted _ (is_level table x) (length row) (ap length is_row ∙ length-map points (λ q. table x q))
      (λ n h.
      ap (λ z. is_known (entry_at z n) && not (is_strict (entry_at z n))) is_row
      ∙ ap (λ z. is_known z && not (is_strict z)) (row_entry (λ q. table x q) n h))

  behind_end : (f : Point → Reach) (n : ℕ) → length points ≤ n → is_strict (entry_at (map f points) n) ≡ false
  behind_end f n h = ap is_strict (past (map f points) n (omega (arith, length-map points f)))

  pub between_is : (x p : Point) (words : ℕ) → length points ≤ 64 * words →
      set_in_both (words_of (map (λ q. table x q) points) words) (words_of (map (λ q. table q p) points) words) words ≡ count_where (is_between table x p) points
  between_is x p words h =
      let test : ℕ → Bool = λ n. is_strict (entry_at (map (λ q. table x q) points) n) && is_strict (entry_at (map (λ q. table q p) points) n) in
      let size : length points + (64 * words - length points) ≡ 64 * words = omega arith in
      let P : ℕ → Type 0 = λ n. count_to test n ≡ count_to test (length points) in
      shared_so_far (map (λ q. table x q) points) (map (λ q. table q p) points) words words (omega arith)
      ∙ subst P size (count_end test (length points) (64 * words - length points)
      (λ n l. ap (λ b. b && is_strict (entry_at (map (λ q. table q p) points) n)) (behind_end (λ q. table x q) n l)))
      ∙ counted test (is_between table x p) (length points) refl
      (λ n l.
      ap (λ z. is_strict z && is_strict (entry_at (map (λ q. table q p) points) n)) (row_entry (λ q. table x q) n l)
      ∙ ap (λ z. is_strict (table x (get_or points n (Start 0))) && is_strict z) (row_entry (λ q. table q p) n l))

  pub between_all : (x : Point) (n : ℕ) → between_to table points (map (λ q. table x q) points) n (length points) ≡ count_where (is_between table x (get_or points n (Start 0))) points
  between_all x n =
      counted _ (is_between table x (get_or points n (Start 0))) (length points) refl
      (λ k h. ap (λ z. is_strict z && is_strict (table (get_or points k (Start 0)) (get_or points n (Start 0)))) (row_entry (λ q. table x q) k h))

-- rows of one length, one behind another
row_of_all : (f : Point → List ℕ) (words : ℕ) → ((p : Point) → length (f p) ≡ words) → (xs : List Point) (n : ℕ) (d : Point) → n < length xs →
    take words (drop (n * words) (flat_map f xs)) ≡ f (get_or xs n d)
row_of_all f words long [] n d h = absurd (omega arith)
row_of_all f words long (x ∷ xs) zero d h =
    let none : 0 * words ≡ 0 = omega arith in
    ap (λ k. take words (drop k (flat_map f (x ∷ xs)))) none
    ∙ ap (λ k. take k (f x ++ flat_map f xs)) (sym (long x))
    ∙ take-append_seam (f x) (flat_map f xs)
row_of_all f words long (x ∷ xs) (suc n) d h =
    let place : suc n * words ≡ length (f x) + n * words = omega (arith, long x, add-mul 1 n words) in
    ap (λ k. take words (drop k (flat_map f (x ∷ xs)))) place
    ∙ ap (take words) (drop-append-add (f x) (flat_map f xs) (n * words))
    ∙ row_of_all f words long xs n d (omega arith)

row_in_slice : (f : Point → List ℕ) (words : ℕ) → ((p : Point) → length (f p) ≡ words) → (xs : List Point) (n : ℕ) (d : Point) → n < length xs →
    slice_range (flat_map f xs) (n * words) ((n + 1) * words) ≡ f (get_or xs n d)
row_in_slice f words long xs n d h =
    let size : (n + 1) * words - n * words ≡ words = omega (arith, add-mul n 1 words) in
    ap (λ k. take k (drop (n * words) (flat_map f xs))) size ∙ row_of_all f words long xs n d h

pub length-rows : (f : Point → List ℕ) (words : ℕ) → ((p : Point) → length (f p) ≡ words) → (xs : List Point) → length (flat_map f xs) ≡ length xs * words
length-rows f words long [] = omega arith
length-rows f words long (x ∷ xs) = omega (arith, length-append (f x) (flat_map f xs), long x, length-rows f words long xs, add-mul 1 (length xs) words)

pub length-lower : (table : Point → Point → Reach) (points : List Point) (words : ℕ) (p : Point) → length (lower_row table points words p) ≡ words
length-lower table points words p = length-words (map (λ q. table q p) points) words

-- the counts of shared bits are those of the points between
pub shared_behind : (table : Point → Point → Reach) (points : List Point) (words boundaries : ℕ) (x : Point) (row : List Reach) (lower counts : List ℕ) →
    length points ≤ 64 * words → boundaries ≤ length points → length counts ≡ boundaries → row ≡ map (λ q. table x q) points →
    lower ≡ flat_map (lower_row table points words) (take boundaries points) →
    ((n : ℕ) → n < boundaries → get_or counts n 0 ≡ cond (is_strict (entry_at row n)) (set_in_both (words_of row words) (slice_range lower (n * words) ((n + 1) * words)) words) 0) →
    IsBehind table points row counts
shared_behind table points words boundaries x row lower counts enough some size is_row is_lower each = λ n h strict.
    (let p : Point = get_or points n (Start 0) in
    let below : ℕ → List ℕ → List ℕ = λ m rows. slice_range rows (m * words) ((m + 1) * words) in
    let count : length (take boundaries points) ≡ boundaries = length-take-le boundaries points some in
    let own : below n lower ≡ lower_row table points words p =
    ap (below n) is_lower
    ∙ row_in_slice (lower_row table points words) words (length-lower table points words) (take boundaries points) n (Start 0) (omega (arith, h, size, count))
    ∙ ap (lower_row table points words) (get_or-take boundaries points n (Start 0) (omega (arith, h, size))) in
    each n (omega (arith, h, size))
    ∙ ap (λ b. cond b (set_in_both (words_of row words) (below n lower) words) 0) strict
    ∙ ap (λ ws. set_in_both (words_of row words) ws words) own
    ∙ ap (λ r. set_in_both (words_of r words) (lower_row table points words p) words) is_row
    ∙ between_is table 0 points x p words enough
    ∙ sym (between_all table 0 points x n)
    ∙ ap (λ r. between_to table points r n (length points)) (sym is_row))

same_if : (b : Bool) (m n : ℕ) → (b ≡ true → m ≡ n) → cond b m 0 ≡ cond b n 0
same_if true m n h = h refl
same_if false m n h = refl

module _ (dates : List ℤ) (extents : ℕ) (table : Point → Point → Reach) (points : List Point) (x : Point) (delay : Delay)
    (fits : IsDelay dates table points x delay) (listed : points ≡ all_points extents (length dates)) where
  over_all : (test : Point → Bool) → count_where test points ≡ count_where test (all_points extents (length dates))
  over_all test = ap (count_where test) listed

  position_is : (p : Point) (count : ℕ) → (is_strict (table x p) ≡ true → count ≡ count_where (is_between table x p) points) →
      delayed_position delay (table x p) (floor_of table (length dates) p) count (built_at extents dates table p) ≡ delayed_at extents dates table x p
  position_is p count between =
      let n : ℕ = length dates in
      let K : ℕ = delay_of table n x in
      let behind : cond (is_strict (table x p)) (delay.above + count) 0
      ≡ cond (is_strict (table x p)) (count_where (is_level table x) (all_points extents n) + count_where (is_between table x p) (all_points extents n)) 0 =
      same_if (is_strict (table x p)) (delay.above + count) (count_where (is_level table x) (all_points extents n) + count_where (is_between table x p) (all_points extents n))
      (λ s. omega (arith, fits.above, over_all (is_level table x), between s, over_all (is_between table x p))) in
      let rank : delay.level.rank + cond (is_strict (table x p)) (delay.above + count) 0 ≡ delayed_rank extents n table x p =
      ap (λ r. r + cond (is_strict (table x p)) (delay.above + count) 0) (fits.rank ∙ over_all (is_apart table n x K))
      ∙ ap (λ r. level_rank extents n table x + r) behind in
      let at : ℤ → ℕ → Position = λ i r. record { instant = i; rank = r } in
      ap (λ k. cond (is_known (table x p) && leb (floor_of table n p) k) (at delay.level.instant (delay.level.rank + cond (is_strict (table x p)) (delay.above + count) 0)) (built_at extents dates table p)) fits.floor
      ∙ ap (λ i. cond (is_delayed table n x p) (at i (delay.level.rank + cond (is_strict (table x p)) (delay.above + count) 0)) (built_at extents dates table p)) fits.instant
      ∙ ap (λ r. cond (is_delayed table n x p) (at (floor_instant dates K) r) (built_at extents dates table p)) rank

  pub list_is : (counts : List ℕ) (boundaries n : ℕ) → IsBehind table points (map (λ q. table x q) points) counts → boundaries ≤ length points → boundaries ≤ length counts → n ≤ boundaries →
      delayed_positions delay (map (λ q. table x q) points) (map (floor_of table (length dates)) points) counts (map (built_at extents dates table) (take boundaries points)) n
      ≡ map (delayed_at extents dates table x) (take n points)
  list_is counts boundaries zero behind some enough h = refl
  list_is counts boundaries (suc n) behind some enough h =
      let p : Point = get_or points n (Start 0) in
      let row : List Reach = map (λ q. table x q) points in
      let floors : List ℕ = map (floor_of table (length dates)) points in
      let plain : List Position = map (built_at extents dates table) (take boundaries points) in
      let size : length (take boundaries points) ≡ boundaries = length-take-le boundaries points some in
      let same : get_or (take boundaries points) n (Start 0) ≡ p = get_or-take boundaries points n (Start 0) (omega arith) in
      let entry : entry_at row n ≡ table x p = row_entry table (length dates) points (λ q. table x q) n (omega arith) in
      let floor : slice_index_or floors n 0 ≡ floor_of table (length dates) p = floor_entry table (length dates) points n (omega arith) in
      let position : slice_index_or plain n no_position ≡ built_at extents dates table p =
      get_or-map (built_at extents dates table) (take boundaries points) n (Start 0) no_position (omega (arith, size)) ∙ ap (built_at extents dates table) same in
      let between : is_strict (table x p) ≡ true → get_or counts n 0 ≡ count_where (is_between table x p) points =
      λ s. behind n (omega arith) (ap is_strict entry ∙ s) ∙ between_all table (length dates) points x n in
      let here : delayed_position delay (entry_at row n) (slice_index_or floors n 0) (slice_index_or counts n 0) (slice_index_or plain n no_position) ≡ delayed_at extents dates table x p =
      ap (λ r. delayed_position delay r (slice_index_or floors n 0) (slice_index_or counts n 0) (slice_index_or plain n no_position)) entry
      ∙ ap (λ f. delayed_position delay (table x p) f (slice_index_or counts n 0) (slice_index_or plain n no_position)) floor
      ∙ ap (λ q. delayed_position delay (table x p) (floor_of table (length dates) p) (slice_index_or counts n 0) q) position
      ∙ position_is p (get_or counts n 0) between in
      ap (λ ps. ps ++ delayed_position delay (entry_at row n) (slice_index_or floors n 0) (slice_index_or counts n 0) (slice_index_or plain n no_position) ∷ []) (list_is counts boundaries n behind some enough (omega arith))
      ∙ ap (λ q. map (delayed_at extents dates table x) (take n points) ++ q ∷ []) here
      ∙ sym (ap (map (delayed_at extents dates table x)) (take-suc points n (Start 0) (omega arith)) ∙ map-append (delayed_at extents dates table x) (take n points) (p ∷ []))

-- one boundary more
pub floor_low : (table : Point → Point → Reach) (dates : ℕ) (points : List Point) (floors : List ℕ) (n : ℕ) → floors ≡ map (floor_of table dates) points → n < length points →
    slice_index_or floors n 0 ≤ dates
floor_low table dates points floors n same h =
    omega (arith, ap (λ fs. get_or fs n 0) same, floor_entry table dates points n h, floor_below table dates (get_or points n (Start 0)))

pub position_built : (extents : ℕ) (dates : List ℤ) (table : Point → Point → Reach) (points : List Point) (floors : List ℕ) (n : ℕ) (instant : ℤ) (rank : ℕ) →
    points ≡ all_points extents (length dates) → n < length points → floors ≡ map (floor_of table (length dates)) points →
    instant ≡ floor_instant dates (slice_index_or floors n 0) → rank ≡ below_to table points floors n (length points) →
    record { instant = instant; rank = rank } ≡ built_at extents dates table (get_or points n (Start 0))
position_built extents dates table points floors n instant rank listed h is_floors is_instant is_rank =
    let p : Point = get_or points n (Start 0) in
    let own : slice_index_or floors n 0 ≡ floor_of table (length dates) p = ap (λ fs. get_or fs n 0) is_floors ∙ floor_entry table (length dates) points n h in
    let at : ℤ → ℕ → Position = λ i r. record { instant = i; rank = r } in
    ap (λ i. at i rank) (is_instant ∙ ap (floor_instant dates) own)
    ∙ ap (at (floor_instant dates (floor_of table (length dates) p)))
    (is_rank ∙ below_is table (length dates) points floors n h is_floors ∙ ap (count_where (counts table (length dates) p)) listed)

pub plain_next : (f : Point → Position) (points : List Point) (n : ℕ) (positions : List Position) (position : Position) → n < length points →
    positions ≡ map f (take n points) → position ≡ f (get_or points n (Start 0)) → positions ++ position ∷ [] ≡ map f (take (n + 1) points)
plain_next f points n positions position h so_far here =
    let P : ℕ → Type 0 = λ m. positions ++ position ∷ [] ≡ map f (take m points) in
    subst P (sym (add-one n))
    (ap (λ ps. ps ++ position ∷ []) so_far ∙ ap (λ q. map f (take n points) ++ q ∷ []) here
    ∙ sym (ap (map f) (take-suc points n (Start 0) h) ∙ map-append f (take n points) (get_or points n (Start 0) ∷ [])))

pub lower_next : (f : Point → List ℕ) (points : List Point) (n : ℕ) (lower row : List ℕ) → n < length points →
    lower ≡ flat_map f (take n points) → row ≡ f (get_or points n (Start 0)) → lower ++ row ≡ flat_map f (take (n + 1) points)
lower_next f points n lower row h so_far here =
    let p : Point = get_or points n (Start 0) in
    let P : ℕ → Type 0 = λ m. lower ++ row ≡ flat_map f (take m points) in
    subst P (sym (add-one n))
    (ap (λ ws. ws ++ row) so_far ∙ ap (λ ws. flat_map f (take n points) ++ ws) (here ∙ sym (append-nil (f p)))
    ∙ sym (ap (flat_map f) (take-suc points n (Start 0) h) ∙ flat_map-append f (take n points) (p ∷ [])))
