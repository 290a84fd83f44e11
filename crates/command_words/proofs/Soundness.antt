-- The base of what words ask for has a scheme, and the nodes of a question are apart.
use Rattle.std.proofs.Common.{◌≡◌, ℕ, List, [], ◌∷◌, Option, Some, None, true, not, sym, ap, ◌∙◌}
use Rattle.std.specs.Prelude.{◌≢◌, ℤ, IfSome, ◌&&◌, ◌||◌, codes, length, nat_lt}
use Rattle.std.specs.Str.{bytes_eq}
use Rattle.std.specs.List.{list_all, list_any}
use Rattle.std.specs.Option.{option_map}
use Rattle.std.proofs.lemmas.Bool.{cond_both, and_parts, false≢true}
use Rattle.std.proofs.lemmas.Slice.Eq.{bytes_eq-Decides}
use Rattle.order_core.specs.declared.primitives.Primitive.{Primitive}
use Rattle.order_core.specs.Primitives.{primitive_named}
use Rattle.iri_resolve.specs.Splitting.{has_scheme}
use Rattle.inference_reports.specs.NodeNames.{is_iri, is_iri_byte, is_node_name}
use Rattle.crm_certify.specs.declared.kinds.CertKind.{CertKind}
use Rattle.command_words.specs.declared.commands.CommandName.{CommandName}
use Rattle.command_words.specs.declared.commands.CommandName.TheVariants as name
use Rattle.command_words.specs.declared.commands.JoinKind.{JoinKind}
use Rattle.command_words.specs.declared.commands.Command.{Command}
use Rattle.command_words.proofs.Instants.{IsWithin, instant_within}
use Rattle.command_words.specs.Tasks.{IsBase, IsSound, task_named, task_of}
use Rattle.command_words.specs.Words.{allen_pair, are_apart, at_instant, based_form, certify, command_named, command_of, explain, file_command, file_form, form, help_form, help_on, instant_named, is_option, join, join_kind_named, kind_named, named_form, pair_form, plain_form, question_form, sample, sample_number, with_base}

-- so it is with a command, where there is one
abbrev Sound : Option Command → Type 0
Sound command = IfSome command (λ c. IsSound (task_of c))

file_command_sound : (n : CommandName) (base : Option (List ℕ)) (file : List ℕ) → IsBase base → Sound (file_command n base file)
file_command_sound name.Orders base file h = (h, tt)
file_command_sound name.Check base file h = (h, tt)
file_command_sound name.Reason base file h = (h, tt)
file_command_sound name.Conflicts base file h = (h, tt)
file_command_sound name.Bounds base file h = (h, tt)
file_command_sound name.Dates base file h = (h, tt)
file_command_sound name.Allen base file h = (h, tt)
file_command_sound name.Legacy base file h = (h, tt)
file_command_sound name.Lines base file h = h
file_command_sound name.Matrix base file h = (h, tt)
file_command_sound name.Convert base file h = (h, tt)
file_command_sound other base file h = tt

file_sound : (n : CommandName) (base : Option (List ℕ)) (words : List (List ℕ)) → IsBase base → Sound (file_form n base words)
file_sound n base (file ∷ []) h = file_command_sound n base file h
file_sound n base words h = tt

-- the words of a question are not the same
apart : (a b : List ℕ) → are_apart a b ≡ true → a ≢ b
apart a b e = λ same.
    false≢true (sym (ap not ((bytes_eq-Decides a b).1 same)) ∙ (and_parts (is_node_name a && is_node_name b) (not (bytes_eq a b)) e).1)

explain_sound : (base : Option (List ℕ)) (file a : List ℕ) (p : Option Primitive) (b : List ℕ) → IsBase base → a ≢ b → Sound (explain base file a p b)
explain_sound base file a None b h e = tt
explain_sound base file a (Some p) b h e = (h, e)

question_sound : (base : Option (List ℕ)) (file a : List ℕ) (words : List (List ℕ)) → IsBase base → Sound (question_form base file a words)
question_sound base file a (code ∷ b ∷ []) h =
    cond_both (are_apart a b) _ _ Sound (λ e. explain_sound base file a (primitive_named code) b h (apart a b e)) (λ e. tt)
question_sound base file a words h = tt

allen_sound : (base : Option (List ℕ)) (file a b : List ℕ) → IsBase base → Sound (allen_pair base file a b)
allen_sound base file a b h = cond_both (are_apart a b) _ _ Sound (λ e. (h, apart a b e)) (λ e. tt)

pair_sound : (base : Option (List ℕ)) (file a : List ℕ) (words : List (List ℕ)) → IsBase base → Sound (pair_form base file a words)
pair_sound base file a (b ∷ []) h = allen_sound base file a b h
pair_sound base file a words h = tt

join_sound : (base : Option (List ℕ)) (k : Option JoinKind) (files : List (List ℕ)) → IsBase base → Sound (join base k files)
join_sound base None files h = tt
join_sound base (Some k) files h = cond_both (nat_lt (length files) 2 || nat_lt 16 (length files)) _ _ Sound (λ e. tt) (λ e. h)

certify_sound : (base : Option (List ℕ)) (k : Option CertKind) (file : List ℕ) → IsBase base → Sound (certify base k file)
certify_sound base None file h = tt
certify_sound base (Some k) file h = (h, tt)

at_instant_sound : (base : Option (List ℕ)) (file word : List ℕ) → IsBase base → Sound (at_instant base file (instant_named word))
at_instant_sound base file word h = by (instant_named word) (instant_within word)
  where
    by : (o : Option ℤ) → IfSome o IsWithin → Sound (at_instant base file o)
    by None within = tt
    by (Some t) within = (h, within)

help_sound : (n : Option CommandName) → Sound (help_on n)
help_sound None = tt
help_sound (Some n) = tt

help_form_sound : (words : List (List ℕ)) → Sound (help_form words)
help_form_sound [] = tt
help_form_sound (word ∷ []) = help_sound (command_named word)
help_form_sound (word ∷ more ∷ words) = tt

sample_sound : (n : Option ℕ) → Sound (sample n)
sample_sound None = tt
sample_sound (Some n) = tt

form_sound : (n : CommandName) (base : Option (List ℕ)) (words : List (List ℕ)) → IsBase base → Sound (form n base words)
form_sound name.Explain base (file ∷ a ∷ words) h = question_sound base file a words h
form_sound name.Certify base (kind ∷ file ∷ []) h = certify_sound base (kind_named kind) file h
form_sound name.Verify base (file ∷ cert ∷ []) h = h
form_sound name.When base (file ∷ date ∷ []) h = at_instant_sound base file date h
form_sound name.Allen base (file ∷ a ∷ words) h = pair_sound base file a words h
form_sound name.Join base (report ∷ files) h = join_sound base (join_kind_named report) files h
form_sound name.Sample None (number ∷ []) h = sample_sound (sample_number number)
form_sound name.Help None words h = help_form_sound words
form_sound name.Version None [] h = tt
form_sound n base words h = file_sound n base words h

plain_sound : (n : CommandName) (base : Option (List ℕ)) (words : List (List ℕ)) → IsBase base → Sound (plain_form n base words)
plain_sound n base words h = cond_both (list_any is_option words) _ _ Sound (λ e. tt) (λ e. form_sound n base words h)

with_base_sound : (n : CommandName) (base : List ℕ) (words : List (List ℕ)) → Sound (with_base n base words)
with_base_sound n base words =
    cond_both (is_iri base) _ _ Sound (λ is. plain_sound n (Some base) words (and_parts (list_all is_iri_byte base) (has_scheme base) is).1) (λ is. tt)

based_sound : (n : CommandName) (words : List (List ℕ)) → Sound (based_form n words)
based_sound n (word ∷ base ∷ words) =
    cond_both (bytes_eq word (codes "--base")) _ _ Sound (λ e. with_base_sound n base words) (λ e. plain_sound n None (word ∷ base ∷ words) tt)
based_sound n words = plain_sound n None words tt

named_sound : (n : Option CommandName) (words : List (List ℕ)) → Sound (named_form n words)
named_sound None words = tt
named_sound (Some n) words = based_sound n words

command_sound : (words : List (List ℕ)) → Sound (command_of words)
command_sound [] = tt
command_sound (n ∷ words) = named_sound (command_named n) words

mapped : (command : Option Command) → Sound command → IfSome (option_map task_of command) IsSound
mapped None h = tt
mapped (Some c) h = h

-- what words ask for is sound
pub task_sound : (words : List (List ℕ)) → IfSome (task_named words) IsSound
task_sound words = mapped (command_of words) (command_sound words)
