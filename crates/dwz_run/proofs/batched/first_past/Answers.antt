use Rattle.std.proofs.Common.{◌≡◌, ◌+◌, ℕ, List, [], Vec, Global, get_or, length, map, take, suc, ap, subst, ◌∙◌, add-one, arith}
use Rattle.dwz_def_reading.specs.Files.{longest_files}
use Rattle.dwz_def_run.specs.Reuses.{common_got}
use Rattle.dwz_def_run.specs.Batches.{all_got, bytes_together}
use Rattle.dwz_run.proofs.JobsDone.{all_few, bytes_more, is_past}
use Rattle.dwz_run.proofs.batched.first_past.Goals as goal

abbrev contents : List (Vec ℕ Global) → List (List ℕ)
contents cs = map (λ (v : Vec ℕ Global). v.items) cs

-- the length of the content with the next number
next_length : (cs : List (List ℕ)) (number : ℕ) (content : List ℕ) → content ≡ get_or cs (number + 1) [] → length content ≡ length (get_or cs (suc number) [])
next_length cs number content is = ap (λ (w : List ℕ). length w) is ∙ ap (λ (k : ℕ). length (get_or cs k [])) (add-one number)

pub loop-number-init : goal.loop-number-init
unfolding longest_files
loop-number-init c o many =
    let same = ap (λ (w : List ℕ). length w) c.content_at.ensures in
    omega (arith, same, c.requires.common, c.saturating_sub-left.ensures)

pub returns-then-len-left-clause-some : goal.returns-then-len-left-clause-some
returns-then-len-left-clause-some c o many =
    let cs = contents c.args.contents.now in
    let all : length o.files ≡ c.args.count = many in
    let long = next_length cs c.loop-number.number c.content_at-len.result.now c.content_at-len.ensures in
    is_past (common_got cs) o cs c.loop-number.number c.loop-number.left (omega (arith, all, c.loop-number-test.true)) (c.loop-number.invariant o all)
    (omega (arith, long, c.if-len-left.true))

pub loop-number-preserved : goal.loop-number-preserved
loop-number-preserved c o many =
    let cs = contents c.args.contents.now in
    let long = next_length cs c.loop-number.number c.content_at-len.result.now c.content_at-len.ensures in
    let more = bytes_more (common_got cs) o cs c.loop-number.number (omega (arith, many, c.loop-number-test.true)) in
    omega (arith, long, more, c.loop-number.invariant o many, c.if-len-left.false)

pub returns-clause-none : goal.returns-clause-none
returns-clause-none c o many none =
    let cs = contents c.args.contents.now in
    let all : length o.files ≡ c.args.count = many in
    let end : c.loop-number.number ≡ c.args.count = omega (arith, c.loop-number-test.false, c.loop-number.auto.number-end) in
    all_few (common_got cs) o cs c.args.count c.loop-number.left all
    (subst (λ (k : ℕ). c.loop-number.left + bytes_together (common_got cs) (take k (all_got o cs)) ≡ longest_files) end (c.loop-number.invariant o all))
