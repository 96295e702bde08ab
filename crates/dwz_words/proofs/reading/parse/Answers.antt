use Rattle.std.proofs.Common.{rules, ◌≡◌, ◌∙◌, ap, map, subst, sym, List, [], true, false}
use Rattle.std.specs.Prelude.{IsErrOf}
use Rattle.std.proofs.lemmas.List.{length-map}
use Rattle.clap.specs.Words.{Text, fault_of, matches_of}
use Rattle.dwz_words.specs.Command.{dwz_command}
use Rattle.dwz_words.specs.Conditions.{FitTogether}
use Rattle.dwz_words.specs.Lawful.{options_of, word_bytes}
use Rattle.dwz_words.specs.declared.options.WordsErr.TheVariants.{Usage}
use Rattle.dwz_words.proofs.MatchLemmas.{unless_no_memory}
use Rattle.dwz_words.proofs.PlainLemmas.{plain_read}
use Rattle.dwz_words.proofs.PlainValues.{plain_said}
use Rattle.dwz_words.proofs.reading.parse.Goals as goal

pub returns-in_err-texts-clause-plain_read : goal.returns-in_err-texts-clause-plain_read
returns-in_err-texts-clause-plain_read c = plain_read _ (rw length-map c.texts.ensures.few)

pub returns-in_err-options-clause-plain_read : goal.returns-in_err-options-clause-plain_read
returns-in_err-options-clause-plain_read c = plain_read _ (rw length-map c.texts.ensures.few)

pub returns-in_err-options-clause-plain_taken : goal.returns-in_err-options-clause-plain_taken
returns-in_err-options-clause-plain_taken c = λ arguments plain utf8 fit.
    let same = ap (map (λ t. t.now)) c.as_slice.ensures.value ∙ c.in_ok-texts.ensures.same in
    let none : fault_of dwz_command (word_bytes c.args.words.now) ≡ [] = plain_read _ (rw length-map c.texts.ensures.few) arguments plain in
    let read_none = subst (λ (ws : List Text). fault_of dwz_command ws ≡ []) (sym same) none in
    let no_usage : IsErrOf c.from_residual-in_err-options.result Usage → ⊥ = search (rules, c.in_err-options.ensures.usage, read_none) in
    unless_no_memory c.from_residual-in_err-options.result no_usage

pub returns-then-fit_together-clause-lawful : goal.returns-then-fit_together-clause-lawful
returns-then-fit_together-clause-lawful c =
    let same = ap (map (λ t. t.now)) c.as_slice.ensures.value ∙ c.in_ok-texts.ensures.same in
    record {
      utf8 = c.in_ok-texts.ensures.utf8;
      faultless = subst (λ (ws : List Text). fault_of dwz_command ws ≡ []) same c.in_ok-options.ensures.faultless;
      values = c.in_ok-options.ensures.values ∙ ap (λ (ws : List Text). options_of (matches_of dwz_command ws)) same;
      fit = c.fit_together.ensures.0 c.if-fit_together.true;
    }

pub returns-then-fit_together-clause-plain_said : goal.returns-then-fit_together-clause-plain_said
returns-then-fit_together-clause-plain_said c = λ arguments plain.
    let same = ap (map (λ t. t.now)) c.as_slice.ensures.value ∙ c.in_ok-texts.ensures.same in
    c.in_ok-options.ensures.values ∙ (ap (λ (ws : List Text). options_of (matches_of dwz_command ws)) same
    ∙ plain_said _ (rw length-map c.texts.ensures.few) arguments plain)

pub returns-clause-usage : goal.returns-clause-usage
returns-clause-usage c = λ _ o lawful.
    let same = ap (map (λ t. t.now)) c.as_slice.ensures.value ∙ c.in_ok-texts.ensures.same in
    let read = c.in_ok-options.ensures.values ∙ ap (λ (ws : List Text). options_of (matches_of dwz_command ws)) same in
    let fits : c.fit_together.result ≡ true = c.fit_together.ensures.1 (subst FitTogether (lawful.values ∙ sym read) lawful.fit) in
    let bad : true ≡ false = sym fits ∙ c.if-fit_together.false in
    cc

pub returns-clause-plain_taken : goal.returns-clause-plain_taken
returns-clause-plain_taken c = λ arguments plain utf8 fit.
    let same = ap (map (λ t. t.now)) c.as_slice.ensures.value ∙ c.in_ok-texts.ensures.same in
    let read = c.in_ok-options.ensures.values ∙ (ap (λ (ws : List Text). options_of (matches_of dwz_command ws)) same
    ∙ plain_said _ (rw length-map c.texts.ensures.few) arguments plain) in
    let fits : c.fit_together.result ≡ true = c.fit_together.ensures.1 (subst FitTogether (sym read) fit) in
    let bad : true ≡ false = sym fits ∙ c.if-fit_together.false in
    cc
