-- Counts over the first places, and the last of them that passes a test.
use Rattle.std.proofs.Common.{◌≡◌, ℕ, zero, suc, ◌+◌, ◌-◌, ◌≤◌, Bool, true, false, cond, refl, ap, sym, ◌∙◌, arith, add-one, List, min, length}
use Rattle.text_places.specs.declared.places.Place.{Place}
use Rattle.text_places.specs.Places.{count_below, behind_last, ends_line, is_counted, line_start, line_at, column_at, place_at, place_of}

count_more : (test : ℕ → Bool) (n : ℕ) → count_below test (n + 1) ≡ count_below test n + cond (test n) 1 0
unfolding count_below
count_more test n = rw add-one refl

last_more : (test : ℕ → Bool) (n : ℕ) → behind_last test (n + 1) ≡ cond (test n) (n + 1) (behind_last test n)
unfolding behind_last
last_more test n = rw add-one refl

pub at_most_one : (b : Bool) → cond b 1 0 ≤ 1
at_most_one true = omega arith
at_most_one false = omega arith

count_within : (test : ℕ → Bool) (n : ℕ) → count_below test n ≤ n
unfolding count_below
count_within test zero = omega arith
count_within test (suc n) = omega (arith, count_within test n, at_most_one (test n))

last_by : (n l : ℕ) (b : Bool) → l ≤ n → cond b (suc n) l ≤ suc n
last_by n l true h = omega arith
last_by n l false h = omega arith

last_within : (test : ℕ → Bool) (n : ℕ) → behind_last test n ≤ n
unfolding behind_last
last_within test zero = omega arith
last_within test (suc n) = last_by n (behind_last test n) (test n) (last_within test n)

count_grows : (test : ℕ → Bool) (m d : ℕ) → count_below test m ≤ count_below test (m + d)
unfolding count_below
count_grows test m zero = let e : m + 0 ≡ m = omega arith in rw e (omega arith)
count_grows test m (suc d) =
    let e : m + suc d ≡ suc (m + d) = omega arith in
    rw e (omega (arith, count_grows test m d))

-- counts grow with the places
count_ascends : (test : ℕ → Bool) (m n : ℕ) → m ≤ n → count_below test m ≤ count_below test n
count_ascends test m n h = let e : m + (n - m) ≡ n = omega arith in rw e at (count_grows test m (n - m))

last_kept : (n c x l k : ℕ) (b : Bool) → c ≤ x → (c ≡ x → l ≡ k) → c ≡ x + cond b 1 0 → l ≡ cond b (suc n) k
last_kept n c x l k true h same e = absurd (omega arith)
last_kept n c x l k false h same e = same (omega arith)

last_grows : (test : ℕ → Bool) (m d : ℕ) → count_below test m ≡ count_below test (m + d) → behind_last test m ≡ behind_last test (m + d)
unfolding count_below behind_last
last_grows test m zero h = let e : m + 0 ≡ m = omega arith in rw e refl
last_grows test m (suc d) h =
    let e : m + suc d ≡ suc (m + d) = omega arith in
    let h2 : count_below test m ≡ count_below test (m + d) + cond (test (m + d)) 1 0 = rw e at h in
    rw e (last_kept (m + d) (count_below test m) (count_below test (m + d)) (behind_last test m) (behind_last test (m + d)) (test (m + d))
    (count_grows test m d) (last_grows test m d) h2)

-- the last place that passes stays where the count does
last_stays : (test : ℕ → Bool) (m n : ℕ) → m ≤ n → count_below test m ≡ count_below test n → behind_last test m ≡ behind_last test n
last_stays test m n h same =
    let e : m + (n - m) ≡ n = omega arith in
    let s : count_below test m ≡ count_below test (m + (n - m)) = rw e same in
    rw e at (last_grows test m (n - m) s)

-- a line and a column are at most one more than the offset
pub line_within : (bytes : List ℕ) (k : ℕ) → line_at bytes k ≤ k + 1
line_within bytes k = omega (arith, count_within (ends_line bytes) k)

pub column_within : (bytes : List ℕ) (k : ℕ) → column_at bytes k ≤ k + 1
column_within bytes k = omega (arith, count_within (is_counted bytes) k)

placed : (l m c d : ℕ) → l ≡ m → c ≡ d → ◌≡◌ {A = Place} (record { line = l; column = c }) (record { line = m; column = d })
placed l m c d e f = rw (e, f) refl

-- behind the end of a line
pub place_ended : (bytes : List ℕ) (k : ℕ) (p : Place) → p ≡ place_at bytes k → ends_line bytes k ≡ true →
    ◌≡◌ {A = Place} (record { line = p.line + 1; column = 1 }) (place_at bytes (k + 1))
place_ended bytes k p here ended =
    let l : count_below (ends_line bytes) (k + 1) ≡ count_below (ends_line bytes) k + 1 =
    count_more (ends_line bytes) k ∙ ap (λ (b : Bool). count_below (ends_line bytes) k + cond b 1 0) ended in
    let s : line_start bytes (k + 1) ≡ k + 1 =
    last_more (ends_line bytes) k ∙ ap (λ (b : Bool). cond b (k + 1) (behind_last (ends_line bytes) k)) ended in
    let q : p.line ≡ line_at bytes k = ap (λ (q : Place). q.line) here in
    let line : p.line + 1 ≡ line_at bytes (k + 1) = omega (arith, l, q) in
    let c : count_below (is_counted bytes) (line_start bytes (k + 1)) ≡ count_below (is_counted bytes) (k + 1) = ap (count_below (is_counted bytes)) s in
    let column : 1 ≡ column_at bytes (k + 1) = omega (arith, c) in
    placed (p.line + 1) (line_at bytes (k + 1)) 1 (column_at bytes (k + 1)) line column

-- behind another byte
pub place_going : (bytes : List ℕ) (k w : ℕ) (p : Place) → p ≡ place_at bytes k → w ≡ cond (is_counted bytes k) 1 0 → ends_line bytes k ≡ false →
    ◌≡◌ {A = Place} (record { line = p.line; column = p.column + w }) (place_at bytes (k + 1))
place_going bytes k w p here wide going =
    let l : count_below (ends_line bytes) (k + 1) ≡ count_below (ends_line bytes) k + 0 =
    count_more (ends_line bytes) k ∙ ap (λ (b : Bool). count_below (ends_line bytes) k + cond b 1 0) going in
    let s : line_start bytes (k + 1) ≡ line_start bytes k =
    last_more (ends_line bytes) k ∙ ap (λ (b : Bool). cond b (k + 1) (behind_last (ends_line bytes) k)) going in
    let line : p.line ≡ line_at bytes (k + 1) = omega (arith, l, ap (λ (q : Place). q.line) here) in
    let c : count_below (is_counted bytes) (line_start bytes (k + 1)) ≡ count_below (is_counted bytes) (line_start bytes k) = ap (count_below (is_counted bytes)) s in
    let m : count_below (is_counted bytes) (k + 1) ≡ count_below (is_counted bytes) k + w =
    count_more (is_counted bytes) k ∙ ap (λ (n : ℕ). count_below (is_counted bytes) k + n) (sym wide) in
    let less : count_below (is_counted bytes) (line_start bytes k) ≤ count_below (is_counted bytes) k =
    count_ascends (is_counted bytes) (line_start bytes k) k (last_within (ends_line bytes) k) in
    let q : p.column ≡ column_at bytes k = ap (λ (q : Place). q.column) here in
    let column : p.column + w ≡ column_at bytes (k + 1) = omega (arith, c, m, less, q) in
    placed p.line (line_at bytes (k + 1)) (p.column + w) (column_at bytes (k + 1)) line column

pub place_begins : (bytes : List ℕ) → ◌≡◌ {A = Place} (record { line = 1; column = 1 }) (place_at bytes 0)
unfolding count_below behind_last
place_begins bytes = refl

pub lines_ascend : (bytes : List ℕ) (m n : ℕ) → m ≤ n → (place_of bytes m).line ≤ (place_of bytes n).line
lines_ascend bytes m n h = omega (arith, count_ascends (ends_line bytes) (min m (length bytes)) (min n (length bytes)) (omega arith))

pub columns_ascend : (bytes : List ℕ) (m n : ℕ) → m ≤ n → (place_of bytes m).line ≡ (place_of bytes n).line → (place_of bytes m).column ≤ (place_of bytes n).column
columns_ascend bytes m n h same =
    let le : min m (length bytes) ≤ min n (length bytes) = omega arith in
    let counts : count_below (ends_line bytes) (min m (length bytes)) ≡ count_below (ends_line bytes) (min n (length bytes)) = omega (arith, same) in
    let start : line_start bytes (min m (length bytes)) ≡ line_start bytes (min n (length bytes)) =
    last_stays (ends_line bytes) (min m (length bytes)) (min n (length bytes)) le counts in
    let c : count_below (is_counted bytes) (line_start bytes (min m (length bytes))) ≡ count_below (is_counted bytes) (line_start bytes (min n (length bytes))) =
    ap (count_below (is_counted bytes)) start in
    omega (arith, c, count_ascends (is_counted bytes) (min m (length bytes)) (min n (length bytes)) le)
