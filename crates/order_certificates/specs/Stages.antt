-- What is still to be printed of a certificate of consistent orders.
use Rattle.std.specs.Prelude.{ℕ, ◌+◌, ◌<◌, ◌^◌, ◌≡◌, ⊤, List, [], ◌++◌, drop, codes}
use Rattle.std.specs.List.{flat_map}
use Rattle.order_laws.specs.declared.Point.TheVariants.{Start, End}
use Rattle.order_core.specs.Sets.{Orders}
use Rattle.order_certificates.specs.declared.orders.Stage.{Stage}
use Rattle.order_certificates.specs.declared.orders.Stage.TheVariants.{Head, Plain, Delays, Rows, Pairs, Over}
use Rattle.order_certificates.specs.declared.pairs.Row.{Row}
use Rattle.order_certificates.specs.Sharing.{LetSteps, no_lets}
use Rattle.order_certificates.specs.Keeping.{IsSharing}
use Rattle.order_certificates.specs.OrderCertificates.{consistent_text, placed_text, delay_places, row_lines, row_lets, rows_lines}

abbrev pub rows_from : Orders → List ℕ → ℕ → LetSteps → List ℕ
rows_from set periods place lets = rows_lines set periods place lets (drop place periods) ++ codes "end\n"

abbrev pub row_from : Orders → List ℕ → Row → LetSteps → List ℕ
row_from set periods r lets =
    row_lines set r.place lets r.period (drop r.next periods)
    ++ rows_from set periods (r.place + 1) (row_lets set lets r.period (drop r.next periods))

abbrev pub text_left : Orders → List ℕ → LetSteps → Stage → List ℕ
text_left set periods lets Head = consistent_text set periods
text_left set periods lets Plain = placed_text set periods
text_left set periods lets (Delays i) = flat_map (delay_places set) (drop i periods) ++ rows_from set periods 0 no_lets
text_left set periods lets (Rows i) = rows_from set periods i lets
text_left set periods lets (Pairs r) = row_from set periods r lets
text_left set periods lets Over = []

-- the routes of a row lead from the boundaries of its period
pub record IsRowOf (set : Orders) (lets : LetSteps) (r : Row) : Type 0 where
  pub within : r.period < set.extents
  pub few : r.place < 2 ^ 20
  pub start : IsSharing set (Start r.period) lets r.from_start
  pub end : IsSharing set (End r.period) lets r.from_end

-- before the first row there are no lines
abbrev pub IsStageOf : Orders → LetSteps → Stage → Type 0
IsStageOf set lets Head = lets ≡ no_lets
IsStageOf set lets Plain = lets ≡ no_lets
IsStageOf set lets (Delays i) = lets ≡ no_lets
IsStageOf set lets (Rows i) = ⊤
IsStageOf set lets (Pairs r) = IsRowOf set lets r
IsStageOf set lets Over = ⊤
