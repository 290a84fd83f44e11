-- What the program says of itself. The texts are the constants of src/pages.rt.
use Rattle.std.specs.Prelude.{ℕ, List, Option, Some, None}
use Rattle.report_base.specs.declared.status.Status.TheVariants.{Done}
use Rattle.report_base.specs.Reports.{Report}
use Rattle.command_words.specs.declared.commands.CommandName.{CommandName}
use Rattle.command_words.specs.declared.commands.CommandName.TheVariants as name
use Rattle.command_help.specs.declared.pages.TheConstants as pages

-- the page of a command
abbrev pub page_of : CommandName → List ℕ
page_of name.Orders = pages.ORDERS.now
page_of name.Check = pages.CHECK.now
page_of name.Reason = pages.REASON.now
page_of name.Explain = pages.EXPLAIN.now
page_of name.Conflicts = pages.CONFLICTS.now
page_of name.Bounds = pages.BOUNDS.now
page_of name.Dates = pages.DATES.now
page_of name.When = pages.WHEN.now
page_of name.Allen = pages.ALLEN.now
page_of name.Legacy = pages.LEGACY.now
page_of name.Join = pages.JOIN.now
page_of name.Lines = pages.LINES.now
page_of name.Matrix = pages.MATRIX.now
page_of name.Certify = pages.CERTIFY.now
page_of name.Verify = pages.VERIFY.now
page_of name.Convert = pages.CONVERT.now
page_of name.Sample = pages.SAMPLE.now
page_of name.Help = pages.HELP.now
page_of name.Version = pages.VERSION.now

abbrev pub help_text : Option CommandName → List ℕ
help_text None = pages.FORMS.now
help_text (Some command) = page_of command

abbrev pub help_report : Option CommandName → Report
help_report command = record { status = Done; text = help_text command }

abbrev pub version_report : Report
version_report = record { status = Done; text = pages.VERSION_LINES.now }
