use Rattle.std.proofs.Common.{◌≡◌, ◌<◌, ◌++◌, ℕ, List, [], ◌∷◌, get_or, length, ap, sym, refl, ◌∙◌, append_assoc, arith}
use Rattle.std.proofs.lemmas.List.{append-nil, length-append, nil_from_length}
use Rattle.dwz_batch.specs.declared.job.Outcome.{Outcome}
use Rattle.dwz_law_batch.specs.Jobs.{job_puts}
use Rattle.dwz_run.proofs.JobsDone.{no_puts, puts_in, puts_more}
use Rattle.dwz_run.proofs.batched.puts_of.Goals as goal

pub loop-outcome-init : goal.loop-outcome-init
loop-outcome-init c = ([], cc, refl, λ contents. c.new-puts.ensures.items ∙ sym (no_puts c.args.options.now contents))

pub loop-outcome-preserved : goal.loop-outcome-preserved
loop-outcome-preserved c =
    let o = c.args.options.now in
    let done = c.loop-outcome.invariant.0 in
    let outcome = c.in-Some.outcome in
    let left = c.next.new.self.rest.items in
    let is : c.loop-outcome.outcome-iterator.rest.items ≡ outcome ∷ left = c.in-Some.ensures.steps.0 in
    let all : done ++ outcome ∷ left ≡ c.args.outcomes = ap (λ (xs : List Outcome). done ++ xs) (sym is) ∙ c.loop-outcome.invariant.1 in
    let count : c.loop-outcome.number ≡ length done = c.loop-outcome.invariant.2 in
    let lt : length done < length o.files = omega (arith, ap (λ (xs : List Outcome). length xs) all, length-append done (outcome ∷ left), c.requires.many) in
    let named : c.name_at-name.result.now ≡ get_or o.files (length done) [] =
    c.name_at-name.ensures ∙ ap (λ (ns : List (List ℕ)). get_or ns c.loop-outcome.number []) c.as_slice.ensures ∙ ap (λ (k : ℕ). get_or o.files k []) count in
    let put = c.in_ok-add_put.ensures ∙ ap (λ (w : List ℕ). c.loop-outcome.puts.items ++ job_puts w outcome) named in (
      done ++ outcome ∷ [],
      append_assoc done (outcome ∷ []) left ∙ all,
      omega (arith, count, length-append done (outcome ∷ [])),
      λ contents. puts_more o contents done outcome c.loop-outcome.puts.items c.add_put.new.puts.items lt put (c.loop-outcome.invariant.3 contents),
    )

pub returns : goal.returns
returns c contents =
    let o = c.args.options.now in
    let done = c.loop-outcome.invariant.0 in
    let left = c.loop-outcome.outcome-iterator.rest in
    let none : left.items ≡ [] = nil_from_length left.items (omega (arith, c.in-None.ensures.steps.0, left.ok.0)) in
    let all : done ≡ c.args.outcomes = sym (append-nil done) ∙ ap (λ (xs : List Outcome). done ++ xs) (sym none) ∙ c.loop-outcome.invariant.1 in
    c.loop-outcome.invariant.3 contents ∙ ap (λ (xs : List Outcome). puts_in o contents xs) all
