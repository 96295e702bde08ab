-- How the command is made, and that it is simple.
use Rattle.std.proofs.Common.{◌≡◌, ◌∙◌, refl, ap, ap₂, false, true}
use Rattle.clap.specs.Words.{AddsArg, App, Rule, Text, app_of, is_simple, is_simple_and_free, new_app, rule_of, with_rule}
use Rattle.clap.specs.Simple.{app_of_fields, on_top}
use Rattle.clap.specs.declared.builder.arg.Arg.{Arg}
use Rattle.clap.specs.declared.builder.command.Command.{Command}
use Rattle.clap.specs.declared.builder.command.Command.TheViews.{out-Command as fields_of}
use Rattle.dwz_words.specs.Command.{dwz_command}

-- `clap` says what it reads by a command that is simple, and where it fails by one that is free, too
pub command_is_simple : is_simple dwz_command ≡ true
command_is_simple = refl

pub command_is_free : is_simple_and_free dwz_command ≡ true
command_is_free = refl

-- the command before its arguments
abbrev pub bare : Text → App
bare name = on_top (λ s. record s { disable_version_flag = true })
    (on_top (λ s. record s { disable_help_flag = true })
    (on_top (λ s. record s { no_binary_name = true }) (new_app name)))

pub bare_app : (a b c d : Command) (name : Text) → app_of a ≡ new_app name
    → fields_of b ≡ record (fields_of a) { no_binary_name = true }
    → fields_of c ≡ record (fields_of b) { disable_help_flag = true }
    → fields_of d ≡ record (fields_of c) { disable_version_flag = true }
    → app_of d ≡ bare name
bare_app a b c d name e f g h =
    ap app_of_fields h ∙ ap (on_top (λ s. record s { disable_version_flag = true }))
    (ap app_of_fields g ∙ ap (on_top (λ s. record s { disable_help_flag = true }))
    (ap app_of_fields f ∙ ap (on_top (λ s. record s { no_binary_name = true })) e))

-- one more argument
pub added : (old new : Command) (a : Arg) (x : App) (r : Rule) → AddsArg old a new → a.global ≡ false → app_of old ≡ x → rule_of a ≡ r
    → app_of new ≡ with_rule x r
added old new a x r adds local e f = adds.shape local ∙ ap₂ with_rule e f
