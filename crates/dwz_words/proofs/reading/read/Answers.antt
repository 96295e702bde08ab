use Rattle.std.proofs.Common.{rules, ◌≡◌, ◌∙◌, ◌≤◌, ap, map, subst, sym, []}
use Rattle.std.specs.Prelude.{IfSome}
use Rattle.clap.specs.Kinds.{HasKind}
use Rattle.clap.specs.Values.{kind_of}
use Rattle.clap.specs.Words.{App, fault_of, is_simple, is_simple_and_free, matches_of}
use Rattle.clap.specs.declared.error.kind.ErrorKind.TheVariants.{OutOfMemory}
use Rattle.dwz_words.specs.Command.{dwz_command}
use Rattle.dwz_words.specs.Lawful.{options_of}
use Rattle.dwz_words.specs.declared.options.Options.{Options}
use Rattle.dwz_words.proofs.CommandLemmas.{command_is_free, command_is_simple}
use Rattle.dwz_words.proofs.MatchLemmas.{no_kind}
use Rattle.dwz_words.proofs.RangeLemmas.{demo_in_range, workers_in_range}
use Rattle.dwz_words.proofs.reading.read.Goals as goal

pub returns-in-Ok-clause-faultless : goal.returns-in-Ok-clause-faultless
returns-in-Ok-clause-faultless c =
    let made = c.in_ok-command.ensures in
    subst (λ (a : App). fault_of a (map (λ t. t.now) c.args.texts.now) ≡ []) made (c.in-Ok.ensures.kinds (ap is_simple_and_free made ∙ command_is_free))

pub returns-in-Ok-clause-values : goal.returns-in-Ok-clause-values
returns-in-Ok-clause-values c =
    let made = c.in_ok-command.ensures in
    c.in_ok-options_of-in-Ok.ensures
    ∙ ap options_of ((c.in-Ok.ensures.matches (ap is_simple made ∙ command_is_simple)).0 ∙ ap (λ (a : App). matches_of a (map (λ t. t.now) c.args.texts.now)) made)

pub returns-in-Ok-clause-workers : goal.returns-in-Ok-clause-workers
returns-in-Ok-clause-workers c =
    subst (λ (o : Options). (1 ≤ o.workers) × (o.workers ≤ 64)) (sym c.in_ok-options_of-in-Ok.ensures)
    (workers_in_range c.in_ok-command.command c.in-Ok.matches c.in-Ok.ensures.parsed c.in_ok-command.ensures)

pub returns-in-Ok-clause-demo : goal.returns-in-Ok-clause-demo
returns-in-Ok-clause-demo c =
    subst (λ (o : Options). IfSome o.demo (λ n. (2 ≤ n) × (n ≤ 10000))) (sym c.in_ok-options_of-in-Ok.ensures)
    (demo_in_range c.in_ok-command.command c.in-Ok.matches c.in-Ok.ensures.parsed c.in_ok-command.ensures)

pub returns-clause-usage : goal.returns-clause-usage
returns-clause-usage c =
    let made = c.in_ok-command.ensures in
    let kinds = subst (λ (a : App). HasKind (fault_of a (map (λ t. t.now) c.args.texts.now)) c.in-Err.error) made (c.in-Err.ensures.kinds (ap is_simple_and_free made ∙ command_is_free)) in
    let other : kind_of c.in-Err.error ≡ OutOfMemory → ⊥ = search (rules, c.kind.ensures, c.eq.ensures, c.if-eq.false) in
    λ _ none. no_kind (fault_of dwz_command (map (λ t. t.now) c.args.texts.now)) c.in-Err.error kinds other none
