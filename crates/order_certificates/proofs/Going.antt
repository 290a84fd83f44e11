-- What is left of a certificate of consistent orders behind each piece.
use Rattle.std.proofs.Common.{◌≡◌, refl, ℕ, zero, suc, ◌+◌, List, [], ◌∷◌, ◌++◌, drop, Option, Some, None, slice_get, sym, ap, ◌∙◌, append_assoc, append-nil, codes}
use Rattle.std.specs.List.{flat_map}
use Rattle.crm_outside.proofs.Lists.{drop_one}
use Rattle.order_core.specs.Sets.{Orders}
use Rattle.order_certificates.specs.declared.orders.Stage.TheVariants.{Head, Plain, Delays, Rows, Pairs}
use Rattle.order_certificates.specs.declared.pairs.Row.{Row}
use Rattle.order_certificates.specs.Sharing.{LetSteps, no_lets, turned}
use Rattle.order_certificates.specs.OrderCertificates.{delay_places, pair_lines, pair_lets, row_lines, row_lets, rows_lines, placed_text}
use Rattle.order_certificates.specs.Stages.{rows_from, row_from, text_left}

-- nothing is left behind the last
drop_none : {X : Type 0} (xs : List X) (i : ℕ) → None ≡ slice_get xs i → drop i xs ≡ []
drop_none [] zero h = refl
drop_none [] (suc i) h = refl
drop_none (x ∷ xs) zero h = absurd (cc h)
drop_none (x ∷ xs) (suc i) h = drop_none xs i h

pub head_more : (set : Orders) (periods : List ℕ) (old new : List ℕ) → new ≡ old ++ codes "crmtime 2 orders\n"
    → new ++ text_left set periods no_lets Plain ≡ old ++ text_left set periods no_lets Head
head_more set periods old new e = rw e (append_assoc old (codes "crmtime 2 orders\n") (placed_text set periods))

pub delays_more : (set : Orders) (periods : List ℕ) (i k : ℕ) (old new : List ℕ) → Some k ≡ slice_get periods i → new ≡ old ++ delay_places set k
    → new ++ text_left set periods no_lets (Delays (i + 1)) ≡ old ++ text_left set periods no_lets (Delays i)
delays_more set periods i k old new here e =
    let rest = flat_map (delay_places set) (drop (i + 1) periods) in
    rw (e, drop_one periods i k here)
    (append_assoc old (delay_places set k) (rest ++ rows_from set periods 0 no_lets)
    ∙ ap (λ (l : List ℕ). old ++ l) (sym (append_assoc (delay_places set k) rest (rows_from set periods 0 no_lets))))

pub delays_over : (set : Orders) (periods : List ℕ) (i : ℕ) (line : List ℕ) → None ≡ slice_get periods i
    → line ++ text_left set periods no_lets (Rows 0) ≡ line ++ text_left set periods no_lets (Delays i)
delays_over set periods i line none = rw (drop_none periods i none) refl

rows_one : (set : Orders) (periods : List ℕ) (i a : ℕ) (lets : LetSteps) → Some a ≡ slice_get periods i
    → row_lines set i (turned lets) a periods ++ rows_from set periods (i + 1) (row_lets set (turned lets) a periods) ≡ rows_from set periods i lets
rows_one set periods i a lets here =
    rw (drop_one periods i a here)
    (sym (append_assoc (row_lines set i (turned lets) a periods)
    (rows_lines set periods (i + 1) (row_lets set (turned lets) a periods) (drop (i + 1) periods)) (codes "end\n")))

pub rows_more : (set : Orders) (periods : List ℕ) (i a : ℕ) (lets next : LetSteps) (r : Row) (line : List ℕ) → Some a ≡ slice_get periods i
    → r.period ≡ a → r.place ≡ i → r.next ≡ 0 → next ≡ turned lets
    → line ++ text_left set periods next (Pairs r) ≡ line ++ rows_from set periods i lets
rows_more set periods i a lets next r line here period place none turn =
    rw (turn, period, place, none) (ap (λ (l : List ℕ). line ++ l) (rows_one set periods i a lets here))

pub rows_over : (set : Orders) (periods : List ℕ) (i : ℕ) (lets : LetSteps) (old new : List ℕ) → None ≡ slice_get periods i → new ≡ old ++ codes "end\n"
    → new ++ [] ≡ old ++ rows_from set periods i lets
rows_over set periods i lets old new none e = rw (drop_none periods i none) (append-nil new ∙ e)

pub pairs_more : (set : Orders) (periods : List ℕ) (r s : Row) (b : ℕ) (lets next : LetSteps) (old new : List ℕ) → Some b ≡ slice_get periods r.next
    → s.period ≡ r.period → s.place ≡ r.place → s.next ≡ r.next + 1
    → next ≡ pair_lets set lets r.period b → new ≡ old ++ pair_lines set r.place lets r.period b
    → new ++ text_left set periods next (Pairs s) ≡ old ++ row_from set periods r lets
pairs_more set periods r s b lets next old new here period place after el en =
    let later = row_lines set r.place (pair_lets set lets r.period b) r.period (drop (r.next + 1) periods) in
    let rest = rows_from set periods (r.place + 1) (row_lets set (pair_lets set lets r.period b) r.period (drop (r.next + 1) periods)) in
    rw (en, el, period, place, after, drop_one periods r.next b here)
    (append_assoc old (pair_lines set r.place lets r.period b) (later ++ rest)
    ∙ ap (λ (l : List ℕ). old ++ l) (sym (append_assoc (pair_lines set r.place lets r.period b) later rest)))

pub pairs_over : (set : Orders) (periods : List ℕ) (r : Row) (lets : LetSteps) (line : List ℕ) → None ≡ slice_get periods r.next
    → line ++ text_left set periods lets (Rows (r.place + 1)) ≡ line ++ row_from set periods r lets
pairs_over set periods r lets line none = rw (drop_none periods r.next none) refl
