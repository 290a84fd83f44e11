-- What is found in several files doesn't depend on the order of their names.
use Rattle.std.specs.Prelude.{ℕ, List, Option, Some, None, IfSome}
use Rattle.std.specs.List.{filter_map}
use Rattle.std.specs.List.Sorted.{IsPermutation}
use Rattle.rdf_terms.specs.declared.terms.Term.{Term}
use Rattle.crm_outside.specs.Shelves.{Files}
use Rattle.crm_core.specs.Contents.{Contents}
use Rattle.archive_join.specs.Archives.{joined}
use Rattle.join_laws.specs.Agreeing.{AgreeUpTo}
use Rattle.command_words.specs.declared.tasks.Task.{Task}
use Rattle.command_words.specs.declared.tasks.Task.TheVariants as task
use Rattle.crm_run.specs.Joins.{IsInAnyOrder, OrderIsFree}
use Rattle.crm_run.specs.Report.{part_of, parts_of}

module _
    (alike : (files others : List Contents) → IsPermutation files others → (m : Term → Term) × AgreeUpTo m (joined files).records (joined others).records)
    (parts : (part : List ℕ → Option Contents) (names others : List (List ℕ)) → IsPermutation names others →
    IsPermutation (filter_map part names) (filter_map part others)) where
  by_names : (base : Option (List ℕ)) (files : Files) (names : List (List ℕ)) → IsInAnyOrder base files names
  by_names base files names = λ others same. alike (parts_of base files names) (parts_of base files others) (parts (part_of base files) names others same)

  by_task : (files : Files) (t : Option Task) → OrderIsFree files t
  by_task files None = tt
  by_task files (Some (task.Join base k names)) = by_names base files names
  by_task files (Some (task.Report base file q)) = tt
  by_task files (Some (task.Verify base file cert)) = tt
  by_task files (Some (task.List base file l)) = tt
  by_task files (Some (task.Sample n)) = tt
  by_task files (Some (task.Help command)) = tt
  by_task files (Some task.Version) = tt

  pub order_is_free : (files : Option Files) (t : Option Task) → IfSome files (λ it. OrderIsFree it t)
  order_is_free None t = tt
  order_is_free (Some files) t = by_task files t
