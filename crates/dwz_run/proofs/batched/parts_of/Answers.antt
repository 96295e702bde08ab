use Rattle.std.proofs.Common.{◌≡◌, ℕ, List, [], suc, Vec, Global, get_or, map, ap, sym, refl, ◌∙◌, add-one}
use Rattle.dwz_law_batch.specs.Jobs.{file_at, job_part}
use Rattle.dwz_run.proofs.JobsDone.{no_parts, parts_more}
use Rattle.dwz_run.proofs.batched.parts_of.Goals as goal

abbrev contents : List (Vec ℕ Global) → List (List ℕ)
contents cs = map (λ (v : Vec ℕ Global). v.items) cs

pub loop-number-init : goal.loop-number-init
loop-number-init c = c.new-parts.ensures.items ∙ sym (no_parts c.args.options.now (contents c.args.contents.now))

pub loop-number-preserved : goal.loop-number-preserved
loop-number-preserved c =
    let o = c.args.options.now in
    let cs = contents c.args.contents.now in
    let i = c.loop-number.number in
    let outcome = c.index-outcomes-number.result in
    let name = c.name_at-name.result.now in
    let content = c.content_at-before.result.now in
    let named : name ≡ get_or o.files i [] = c.name_at-name.ensures ∙ ap (λ (ns : List (List ℕ)). get_or ns i []) c.as_slice.ensures in
    let got : content ≡ get_or cs (suc i) [] = c.content_at-before.ensures ∙ ap (λ (k : ℕ). get_or cs k []) (add-one i) in
    let said : c.in_ok-part_of.field-0 ≡ job_part (file_at o cs i) outcome =
    c.in_ok-part_of.ensures content refl
    ∙ ap (λ (w : List ℕ). job_part (record { name = w; content = content }) outcome) named
    ∙ ap (λ (w : List ℕ). job_part (record { name = get_or o.files i []; content = w }) outcome) got in
    c.in_ok-push.ensures.items
    ∙ parts_more o cs c.args.outcomes.now i outcome c.loop-number.parts.items c.in_ok-part_of.field-0 c.requires.many c.loop-number-test.true c.index-outcomes-number.is said
    c.loop-number.invariant
