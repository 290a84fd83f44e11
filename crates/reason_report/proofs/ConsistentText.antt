-- The five parts of the report of consistent orders, one after another.
use Rattle.std.proofs.Common.{◌≡◌, ℕ, List, ◌++◌, subst, codes}
use Rattle.std.specs.Prelude.{Option}
use Rattle.std.specs.List.{flat_map}
use Rattle.crm_outside.specs.declared.printing.PrintFault.{PrintFault}
use Rattle.crm_outside.specs.Printing.{Printed, Broken}
use Rattle.crm_outside.proofs.PrintedTexts.{printed_then, broken_later, broken_front}
use Rattle.order_core.specs.Sets.{Orders}
use Rattle.order_texts.specs.Texts.{count_line}
use Rattle.reason_report.specs.Relations.{relations_of, count_primitives}
use Rattle.reason_report.specs.Reason.{plain_line, row_text, relation_lines, delay_lines, consistent_text}
use Rattle.reason_report.proofs.Rows.{row_by_row}

module _ {S : Type 0} (written : S → Option (List ℕ)) (faults sure : S → ℕ) (set : Orders) (periods : List ℕ) where
  pub stop1 : (a b : S) (e : PrintFault) → Broken written faults sure a b (codes "consistent\n") e → Broken written faults sure a b (consistent_text set periods) e
  stop1 a b e p = broken_front written faults sure a b (codes "consistent\n") _ e p

  module _ (a b : S) (first : Printed written faults sure a b (codes "consistent\n")) (s : Orders) (same : s ≡ set) where
    after1 : (d : S) (rest : List ℕ) (e : PrintFault) → Broken written faults sure b d rest e → Broken written faults sure a d (codes "consistent\n" ++ rest) e
    after1 d rest e p = broken_later written faults sure a b d (codes "consistent\n") rest e first p

    pub stop2 : (c : S) (e : PrintFault) → Broken written faults sure b c (plain_line s) e → Broken written faults sure a c (consistent_text set periods) e
    stop2 c e p =
        after1 c _ e (broken_front written faults sure b c (plain_line set) _ e (subst (λ (x : Orders). Broken written faults sure b c (plain_line x) e) same p))

    module _ (c : S) (second : Printed written faults sure b c (plain_line s)) where
      placed : Printed written faults sure b c (plain_line set)
      placed = subst (λ (x : Orders). Printed written faults sure b c (plain_line x)) same second

      pub stop3 : (d : S) (e : PrintFault) → Broken written faults sure c d (flat_map (row_text set.list periods) periods) e
          → Broken written faults sure a d (consistent_text set periods) e
      stop3 d e p =
          after1 d _ e (broken_later written faults sure b c d (plain_line set) _ e placed
          (broken_front written faults sure c d (relation_lines set periods) _ e
          (subst (λ (t : List ℕ). Broken written faults sure c d t e) (row_by_row set.list periods) p)))

      module _ (d : S) (third : Printed written faults sure c d (flat_map (row_text set.list periods) periods)) where
        related : Printed written faults sure c d (relation_lines set periods)
        related = subst (Printed written faults sure c d) (row_by_row set.list periods) third

        pub stop4 : (f : S) (e : PrintFault) → Broken written faults sure d f (flat_map (delay_lines s) periods) e
            → Broken written faults sure a f (consistent_text set periods) e
        stop4 f e p =
            after1 f _ e (broken_later written faults sure b c f (plain_line set) _ e placed
            (broken_later written faults sure c d f (relation_lines set periods) _ e related
            (broken_front written faults sure d f (flat_map (delay_lines set) periods) _ e
            (subst (λ (x : Orders). Broken written faults sure d f (flat_map (delay_lines x) periods) e) same p))))

        module _ (f : S) (fourth : Printed written faults sure d f (flat_map (delay_lines s) periods))
            (n : ℕ) (count : n ≡ count_primitives (relations_of set.list periods)) where
          delayed : Printed written faults sure d f (flat_map (delay_lines set) periods)
          delayed = subst (λ (x : Orders). Printed written faults sure d f (flat_map (delay_lines x) periods)) same fourth

          pub stop5 : (h : S) (e : PrintFault) → Broken written faults sure f h (count_line (codes "relations") n) e
              → Broken written faults sure a h (consistent_text set periods) e
          stop5 h e p =
              after1 h _ e (broken_later written faults sure b c h (plain_line set) _ e placed
              (broken_later written faults sure c d h (relation_lines set periods) _ e related
              (broken_later written faults sure d f h (flat_map (delay_lines set) periods) _ e delayed
              (subst (λ (m : ℕ). Broken written faults sure f h (count_line (codes "relations") m) e) count p))))

          pub whole : (h : S) → Printed written faults sure f h (count_line (codes "relations") n)
              → Printed written faults sure a h (consistent_text set periods)
          whole h p =
              printed_then written faults sure a b h (codes "consistent\n") _ first
              (printed_then written faults sure b c h (plain_line set) _ placed
              (printed_then written faults sure c d h (relation_lines set periods) _ related
              (printed_then written faults sure d f h (flat_map (delay_lines set) periods) _ delayed
              (subst (λ (m : ℕ). Printed written faults sure f h (count_line (codes "relations") m)) count p))))
