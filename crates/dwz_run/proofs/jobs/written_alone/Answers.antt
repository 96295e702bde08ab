use Rattle.std.proofs.Common.{◌≡◌, ◌+◌, ◌-◌, ◌<◌, ◌≤◌, ℕ, suc, List, [], ◌∷◌, ◌++◌, Vec, Global, get_or, length, map, take, drop, sym, ap, ◌∙◌, add-one, arith}
use Rattle.std.proofs.lemmas.List.{get_or_past, length-map}
use Rattle.dwz_def_run.specs.Comes.{reusing}
use Rattle.dwz_def_run.specs.Reuses.{common_got}
use Rattle.dwz_def_run.specs.Batches.{options_alone}
use Rattle.dwz_def_run.specs.Yields.{batching}
use Rattle.dwz_law_batch.specs.Jobs.{file_at}
use Rattle.dwz_words.specs.declared.options.Options.{Options}
use Rattle.dwz_run.proofs.OneJob.{alone_got, one_between}
use Rattle.dwz_run.proofs.jobs.written_alone.Goals as goal

abbrev items : List (Vec ℕ Global) → List (List ℕ)
items cs = map (λ (v : Vec ℕ Global). v.items) cs

-- options that ask for the file of that number
asked : (o : Options) (number : ℕ) (names : List (List ℕ)) (name : List ℕ) (alone : Options) → names ≡ o.files → name ≡ get_or names number []
    → reusing alone ≡ options_alone (batching o) name → reusing alone ≡ options_alone (batching o) (get_or o.files number [])
asked o number names name alone are named is =
    is ∙ ap (λ (w : List ℕ). options_alone (batching o) w) (named ∙ ap (λ (ns : List (List ℕ)). get_or ns number []) are)

-- the content that was got of it
next_content : (contents : List (Vec ℕ Global)) (number : ℕ) → number + 1 < length contents
    → items (take (number + 1 + 1 - (number + 1)) (drop (number + 1) contents)) ≡ get_or (items contents) (suc number) [] ∷ []
next_content contents number lt =
    let one : number + 1 + 1 - (number + 1) ≡ 1 = omega (arith) in
    ap (λ (n : ℕ). items (take n (drop (number + 1) contents))) one
    ∙ one_between contents (number + 1) lt
    ∙ ap (λ (k : ℕ). get_or (items contents) k [] ∷ []) (add-one number)

-- and with nothing for what wasn't got
one_pushed : (contents : List (Vec ℕ Global)) (number : ℕ) (none files pushed : List (Vec ℕ Global)) (empty : Vec ℕ Global) → none ≡ [] → pushed ≡ none ++ empty ∷ []
    → files ≡ pushed → empty.items ≡ [] → length contents ≤ number + 1 → items files ≡ get_or (items contents) (suc number) [] ∷ []
one_pushed contents number none files pushed empty first put is has le =
    let past : get_or (items contents) (suc number) [] ≡ [] =
    get_or_past (items contents) (suc number) [] (omega (arith, le, length-map contents (λ (v : Vec ℕ Global). v.items))) in
    ap items (is ∙ put ∙ ap (λ (vs : List (Vec ℕ Global)). vs ++ empty ∷ []) first) ∙ ap (λ (w : List ℕ). w ∷ []) (has ∙ sym past)

pub returns-then-place-contents : goal.returns-then-place-contents
returns-then-place-contents g c =
    let o = c.args.options.now in
    let contents = items c.args.contents.now in
    let number = c.args.number in
    alone_got (batching o) (common_got contents) (file_at (batching o) contents number) (reusing c.in_ok-alone.alone) c.content_at-common.result.now _ c.written_over.result
    (asked o number c.as_slice.result.now c.name_at.result.now c.in_ok-alone.alone c.as_slice.ensures c.name_at.ensures c.in_ok-alone.ensures) c.content_at-common.ensures
    (next_content c.args.contents.now number c.if-place-contents.true) c.written_over.ensures

pub returns : goal.returns
returns g c =
    let o = c.args.options.now in
    let contents = items c.args.contents.now in
    let number = c.args.number in
    let one = one_pushed c.args.contents.now number c.new-files.result.items c.deref.result.now c.push.new.self.items c.new.result c.new-files.ensures.items c.in_ok-push.ensures.items
    c.deref.ensures.value c.new.ensures.items c.if-place-contents.false in
    alone_got (batching o) (common_got contents) (file_at (batching o) contents number) (reusing c.in_ok-alone.alone) c.content_at-common.result.now _ c.written_over-else-place-contents.result
    (asked o number c.as_slice.result.now c.name_at.result.now c.in_ok-alone.alone c.as_slice.ensures c.name_at.ensures c.in_ok-alone.ensures) c.content_at-common.ensures
    one c.written_over-else-place-contents.ensures
