-- The commands that words name.
use Rattle.std.specs.Prelude.{ℕ, ℤ, ◌^◌, Bool, not, ◌&&◌, ◌||◌, nat_eq, nat_lt, List, [], ◌∷◌, length, Option, Some, None, Result, Ok, Err, if◌then◌else◌, codes}
use Rattle.std.specs.Fmt.{decimal}
use Rattle.std.specs.Str.{bytes_eq}
use Rattle.std.specs.Str.Parse.{digits_value}
use Rattle.std.specs.List.{starts_with, list_any}
use Rattle.rdf_vocabulary.specs.Iris.{xsd_string}
use Rattle.time_primitive.specs.declared.DateFault.{DateFault}
use Rattle.time_primitive.specs.declared.Side.TheVariants.{Lower}
use Rattle.time_primitive.specs.Dates.{date_of}
use Rattle.order_core.specs.declared.primitives.Primitive.{Primitive}
use Rattle.order_core.specs.Primitives.{primitive_named}
use Rattle.inference_reports.specs.NodeNames.{is_iri, is_node_name}
use Rattle.crm_certify.specs.declared.kinds.CertKind.{CertKind}
use Rattle.crm_certify.specs.declared.kinds.CertKind.TheVariants as kind
use Rattle.command_words.specs.declared.commands.CommandName.{CommandName}
use Rattle.command_words.specs.declared.commands.CommandName.TheVariants as name
use Rattle.command_words.specs.declared.commands.JoinKind.{JoinKind}
use Rattle.command_words.specs.declared.commands.JoinKind.TheVariants as joined
use Rattle.command_words.specs.declared.commands.Command.{Command}
use Rattle.command_words.specs.declared.commands.Command.TheVariants.{Orders, Check, Reason, Explain, Certify, Verify, Matrix, Convert, Bounds, Dates, When, Conflicts, Legacy, Allen, AllenPair, Join, Lines, Sample, Help, Version}

abbrev pub command_named : List ℕ → Option CommandName
command_named word =
    if bytes_eq word (codes "orders") then Some name.Orders else
    if bytes_eq word (codes "check") then Some name.Check else
    if bytes_eq word (codes "reason") then Some name.Reason else
    if bytes_eq word (codes "explain") then Some name.Explain else
    if bytes_eq word (codes "conflicts") then Some name.Conflicts else
    if bytes_eq word (codes "bounds") then Some name.Bounds else
    if bytes_eq word (codes "dates") then Some name.Dates else
    if bytes_eq word (codes "when") then Some name.When else
    if bytes_eq word (codes "allen") then Some name.Allen else
    if bytes_eq word (codes "legacy") then Some name.Legacy else
    if bytes_eq word (codes "join") then Some name.Join else
    if bytes_eq word (codes "lines") then Some name.Lines else
    if bytes_eq word (codes "matrix") then Some name.Matrix else
    if bytes_eq word (codes "certify") then Some name.Certify else
    if bytes_eq word (codes "verify") then Some name.Verify else
    if bytes_eq word (codes "convert") then Some name.Convert else
    if bytes_eq word (codes "sample") then Some name.Sample else
    if bytes_eq word (codes "help") then Some name.Help else
    if bytes_eq word (codes "version") then Some name.Version else None

abbrev pub kind_named : List ℕ → Option CertKind
kind_named word =
    if bytes_eq word (codes "orders") then Some kind.Orders else
    if bytes_eq word (codes "classes") then Some kind.Classes else
    if bytes_eq word (codes "matrix") then Some kind.Matrix else None

abbrev pub join_kind_named : List ℕ → Option JoinKind
join_kind_named word =
    if bytes_eq word (codes "check") then Some joined.Check else
    if bytes_eq word (codes "orders") then Some joined.Orders else
    if bytes_eq word (codes "reason") then Some joined.Reason else
    if bytes_eq word (codes "convert") then Some joined.Convert else None

abbrev pub is_option : List ℕ → Bool
is_option word = starts_with nat_eq word (codes "--")

-- two words for nodes that are not the same
abbrev pub are_apart : List ℕ → List ℕ → Bool
are_apart a b = is_node_name a && is_node_name b && not (bytes_eq a b)

-- the word writes the number, which is one of 1 to 999, without leading zero
abbrev pub writes_sample : ℕ → List ℕ → Bool
writes_sample n word = nat_lt 0 n && (nat_lt n 1000 && bytes_eq (decimal n) word)

abbrev pub is_sample_number : List ℕ → Bool
is_sample_number word = writes_sample (digits_value 10 word) word

abbrev pub sample_number : List ℕ → Option ℕ
sample_number word = if is_sample_number word then Some (digits_value 10 word) else None

abbrev pub instant_in : Result ℤ DateFault → Option ℤ
instant_in (Ok t) = Some t
instant_in (Err fault) = None

-- the first instant of the date that a word is, which has no datatype and is shorter than 4 GiB
abbrev pub instant_named : List ℕ → Option ℤ
instant_named word = if nat_lt (length word) (2 ^ 32) then instant_in (date_of word xsd_string Lower) else None

-- a command over one file
abbrev pub file_command : CommandName → Option (List ℕ) → List ℕ → Option Command
file_command name.Orders base file = Some (Orders base file)
file_command name.Check base file = Some (Check base file)
file_command name.Reason base file = Some (Reason base file)
file_command name.Conflicts base file = Some (Conflicts base file)
file_command name.Bounds base file = Some (Bounds base file)
file_command name.Dates base file = Some (Dates base file)
file_command name.Allen base file = Some (Allen base file)
file_command name.Legacy base file = Some (Legacy base file)
file_command name.Lines base file = Some (Lines base file)
file_command name.Matrix base file = Some (Matrix base file)
file_command name.Convert base file = Some (Convert base file)
file_command other base file = None

abbrev pub file_form : CommandName → Option (List ℕ) → List (List ℕ) → Option Command
file_form n base (file ∷ []) = file_command n base file
file_form n base words = None

abbrev pub explain : Option (List ℕ) → List ℕ → List ℕ → Option Primitive → List ℕ → Option Command
explain base file a None b = None
explain base file a (Some code) b = Some (Explain base file a code b)

-- `explain` asks of two words for nodes that are not the same
abbrev pub question : Option (List ℕ) → List ℕ → List ℕ → List ℕ → List ℕ → Option Command
question base file a code b = if are_apart a b then explain base file a (primitive_named code) b else None

abbrev pub question_form : Option (List ℕ) → List ℕ → List ℕ → List (List ℕ) → Option Command
question_form base file a (code ∷ b ∷ []) = question base file a code b
question_form base file a words = None

abbrev pub certify : Option (List ℕ) → Option CertKind → List ℕ → Option Command
certify base None file = None
certify base (Some k) file = Some (Certify base k file)

abbrev pub at_instant : Option (List ℕ) → List ℕ → Option ℤ → Option Command
at_instant base file None = None
at_instant base file (Some t) = Some (When base file t)

abbrev pub help_on : Option CommandName → Option Command
help_on None = None
help_on (Some n) = Some (Help (Some n))

-- of all commands, or of one
abbrev pub help_form : List (List ℕ) → Option Command
help_form [] = Some (Help None)
help_form (word ∷ []) = help_on (command_named word)
help_form words = None

abbrev pub sample : Option ℕ → Option Command
sample None = None
sample (Some n) = Some (Sample n)

-- `allen` asks of two words for nodes too
abbrev pub allen_pair : Option (List ℕ) → List ℕ → List ℕ → List ℕ → Option Command
allen_pair base file a b = if are_apart a b then Some (AllenPair base file a b) else None

abbrev pub pair_form : Option (List ℕ) → List ℕ → List ℕ → List (List ℕ) → Option Command
pair_form base file a (b ∷ []) = allen_pair base file a b
pair_form base file a words = None

-- a report on 2 to 16 files
abbrev pub files_form : Option (List ℕ) → JoinKind → List (List ℕ) → Option Command
files_form base report files = if nat_lt (length files) 2 || nat_lt 16 (length files) then None else Some (Join base report files)

abbrev pub join : Option (List ℕ) → Option JoinKind → List (List ℕ) → Option Command
join base None files = None
join base (Some report) files = files_form base report files

-- by the command's name and its base, with the words behind them; what reads no file has no base
abbrev pub form : CommandName → Option (List ℕ) → List (List ℕ) → Option Command
form name.Explain base (file ∷ a ∷ words) = question_form base file a words
form name.Certify base (word ∷ file ∷ []) = certify base (kind_named word) file
form name.Verify base (file ∷ cert ∷ []) = Some (Verify base file cert)
form name.When base (file ∷ date ∷ []) = at_instant base file (instant_named date)
form name.Allen base (file ∷ a ∷ words) = pair_form base file a words
form name.Join base (report ∷ files) = join base (join_kind_named report) files
form name.Sample None (number ∷ []) = sample (sample_number number)
form name.Help None words = help_form words
form name.Version None [] = Some Version
form n base words = file_form n base words

-- no other word begins with `--`
abbrev pub plain_form : CommandName → Option (List ℕ) → List (List ℕ) → Option Command
plain_form n base words = if list_any is_option words then None else form n base words

abbrev pub with_base : CommandName → List ℕ → List (List ℕ) → Option Command
with_base n base words = if is_iri base then plain_form n (Some base) words else None

-- behind the name may stand `--base` and an IRI
abbrev pub based_form : CommandName → List (List ℕ) → Option Command
based_form n (word ∷ base ∷ words) =
    if bytes_eq word (codes "--base") then with_base n base words else plain_form n None (word ∷ base ∷ words)
based_form n words = plain_form n None words

abbrev pub named_form : Option CommandName → List (List ℕ) → Option Command
named_form None words = None
named_form (Some n) words = based_form n words

abbrev pub command_of : List (List ℕ) → Option Command
command_of [] = None
command_of (word ∷ words) = named_form (command_named word) words
