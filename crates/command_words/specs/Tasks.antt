-- What commands do.
use Rattle.std.specs.Prelude.{◌≢◌, List, ℕ, pos, ◌^◌, ◌<ℤ◌, ◌-ℤ◌, Option, IfSome, IsTrue, ⊤}
use Rattle.std.specs.Option.{option_map}
use Rattle.iri_resolve.specs.Splitting.{has_scheme}
use Rattle.command_words.specs.declared.commands.Command.{Command}
use Rattle.command_words.specs.declared.commands.Command.TheVariants.{Orders, Check, Reason, Explain, Certify, Verify, Matrix, Convert, Bounds, Dates, When, Conflicts, Legacy, Allen, AllenPair, Join, Lines, Sample, Help, Version}
use Rattle.command_words.specs.declared.commands.JoinKind.{JoinKind}
use Rattle.command_words.specs.declared.commands.JoinKind.TheVariants as joined
use Rattle.command_words.specs.declared.tasks.Listing.TheVariants as listing
use Rattle.command_words.specs.declared.tasks.Query.{Query}
use Rattle.command_words.specs.declared.tasks.Query.TheVariants as query
use Rattle.command_words.specs.declared.tasks.Task.{Task}
use Rattle.command_words.specs.declared.tasks.Task.TheVariants as task
use Rattle.command_words.specs.Words.{command_of}

abbrev pub query_of : JoinKind → Query
query_of joined.Check = query.Check
query_of joined.Orders = query.Orders
query_of joined.Reason = query.Reason
query_of joined.Convert = query.Convert

-- the files that a command reads, and what it says of them
abbrev pub task_of : Command → Task
task_of (Orders base file) = task.Report base file query.Orders
task_of (Check base file) = task.Report base file query.Check
task_of (Reason base file) = task.Report base file query.Reason
task_of (Explain base file a code b) = task.Report base file (query.Explain a code b)
task_of (Certify base k file) = task.Report base file (query.Certify k)
task_of (Verify base file cert) = task.Verify base file cert
task_of (Matrix base file) = task.Report base file query.Matrix
task_of (Convert base file) = task.Report base file query.Convert
task_of (Bounds base file) = task.Report base file query.Bounds
task_of (Dates base file) = task.Report base file query.Dates
task_of (When base file t) = task.Report base file (query.When t)
task_of (Conflicts base file) = task.Report base file query.Conflicts
task_of (Legacy base file) = task.Report base file query.Legacy
task_of (Allen base file) = task.Report base file query.Allen
task_of (AllenPair base file a b) = task.Report base file (query.AllenPair a b)
task_of (Join base report files) = task.Join base report files
task_of (Lines base file) = task.List base file listing.Lines
task_of (Sample n) = task.Sample n
task_of (Help command) = task.Help command
task_of Version = task.Version

-- what the words ask for, where they have a form
abbrev pub task_named : List (List ℕ) → Option Task
task_named words = option_map task_of (command_of words)

-- a question asks of two words that are not the same, or of an instant within 2^100 nanoseconds of 1970
abbrev pub IsSoundQuery : Query → Type 0
IsSoundQuery (query.Explain a code b) = a ≢ b
IsSoundQuery (query.AllenPair a b) = a ≢ b
IsSoundQuery (query.When t) = ((pos 0 -ℤ pos (2 ^ 100)) <ℤ t) × (t <ℤ pos (2 ^ 100))
IsSoundQuery other = ⊤

-- a base has a scheme
abbrev pub IsBase : Option (List ℕ) → Type 0
IsBase base = IfSome base (λ b. IsTrue (has_scheme b))

abbrev pub IsSound : Task → Type 0
IsSound (task.Report base file q) = IsBase base × IsSoundQuery q
IsSound (task.Verify base file cert) = IsBase base
IsSound (task.Join base report files) = IsBase base
IsSound (task.List base file l) = IsBase base
IsSound (task.Sample n) = ⊤
IsSound (task.Help command) = ⊤
IsSound task.Version = ⊤
