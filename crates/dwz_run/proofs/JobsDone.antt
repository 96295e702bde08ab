-- Files by their numbers, and what is made of what came of those so far.
use Rattle.std.proofs.Common.{◌≡◌, ℕ, zero, suc, ◌+◌, ◌<◌, ◌≤◌, List, [], ◌∷◌, ◌++◌, length, map, get_or, take, refl, sym, ap, ◌∙◌, add-one, arith}
use Rattle.std.specs.List.{flat_map, zip}
use Rattle.std.proofs.lemmas.List.{append-nil, length-take-le, map_push, take_all, take_more}
use Rattle.std.proofs.lemmas.List.Concat.{flat_map-append}
use Rattle.std.proofs.lemmas.List.Sums.{sum_by_more}
use Rattle.dwz_def_reading.specs.Files.{longest_files}
use Rattle.dwz_outside.specs.declared.puts.Put.{Put}
use Rattle.dwz_words.specs.declared.options.Options.{Options}
use Rattle.dwz_run_course.specs.declared.output.TextPart.{TextPart}
use Rattle.dwz_batch.specs.declared.job.Outcome.{Outcome}
use Rattle.dwz_def_run.specs.Batches.{FileGot, IsPast, all_got, bytes_together, got_from}
use Rattle.dwz_law_batch.specs.Jobs.{file_at, job_part, job_puts}

-- ---- files by number

got_long : (n : ℕ) (names contents : List (List ℕ)) → length (got_from n names contents) ≡ length names
unfolding got_from
got_long n [] contents = refl
got_long n (name ∷ names) contents = ap suc (got_long (suc n) names contents)

abbrev at : ℕ → List (List ℕ) → List (List ℕ) → ℕ → FileGot
at n names contents i = record { name = get_or names i []; content = get_or contents (n + i) [] }

got_at : (n : ℕ) (names contents : List (List ℕ)) (i : ℕ) (d : FileGot) → i < length names → get_or (got_from n names contents) i d ≡ at n names contents i
unfolding got_from
got_at n [] contents i d lt = absurd (omega (arith, lt))
got_at n (name ∷ names) contents zero d lt =
    let same : n ≡ n + 0 = omega (arith) in ap (λ (k : ℕ). record { name = name; content = get_or contents k [] }) same
got_at n (name ∷ names) contents (suc i) d lt =
    let same : suc n + i ≡ n + suc i = omega (arith) in
    got_at (suc n) names contents i d (omega (arith, lt)) ∙ ap (λ (k : ℕ). record { name = get_or names i []; content = get_or contents k [] }) same

-- the file with that number
one_at : (o : Options) (contents : List (List ℕ)) (i : ℕ) (d : FileGot) → i < length o.files → get_or (all_got o contents) i d ≡ file_at o contents i
one_at o contents i d lt =
    let same : 1 + i ≡ suc i = omega (arith) in
    got_at 1 o.files contents i d lt ∙ ap (λ (k : ℕ). record { name = get_or o.files i []; content = get_or contents k [] }) same

-- ---- rows of files and of what came of them

no_rows : {A B : Type 0} (xs : List A) → zip {K = A} {X = B} xs [] ≡ []
no_rows [] = refl
no_rows (x ∷ xs) = refl

zip_more : {A B : Type 0} (xs : List A) (ys : List B) (y : B) (d : A) → length ys < length xs → zip xs (ys ++ y ∷ []) ≡ zip xs ys ++ (get_or xs (length ys) d, y) ∷ []
zip_more [] ys y d lt = absurd (omega (arith, lt))
zip_more {A} {B} (x ∷ xs) [] y d lt = ap (λ (w : List (A × B)). (x, y) ∷ w) (no_rows xs)
zip_more {A} {B} (x ∷ xs) (z ∷ ys) y d lt = ap (λ (w : List (A × B)). (x, z) ∷ w) (zip_more xs ys y d (omega (arith, lt)))

rows_more : (o : Options) (contents : List (List ℕ)) (done : List Outcome) (outcome : Outcome) → length done < length o.files
    → zip (all_got o contents) (done ++ outcome ∷ []) ≡ zip (all_got o contents) done ++ (file_at o contents (length done), outcome) ∷ []
rows_more o contents done outcome lt =
    let d : FileGot = file_at o contents (length done) in
    let long = got_long 1 o.files contents in
    zip_more (all_got o contents) done outcome d (omega (arith, long, lt))
    ∙ ap (λ (f : FileGot). zip (all_got o contents) done ++ (f, outcome) ∷ []) (one_at o contents (length done) d lt)

-- ---- what is said, and what is put, of one more

abbrev pub parts_in : Options → List (List ℕ) → List Outcome → List TextPart
parts_in o contents done = map (λ row. job_part row.0 row.1) (zip (all_got o contents) done)

abbrev pub puts_in : Options → List (List ℕ) → List Outcome → List Put
puts_in o contents done = flat_map (λ row. job_puts row.0.name row.1) (zip (all_got o contents) done)

pub no_parts : (o : Options) (contents : List (List ℕ)) → parts_in o contents [] ≡ []
no_parts o contents = ap (λ (rs : List (FileGot × Outcome)). map (λ row. job_part row.0 row.1) rs) (no_rows (all_got o contents))

pub no_puts : (o : Options) (contents : List (List ℕ)) → puts_in o contents [] ≡ []
no_puts o contents = ap (λ (rs : List (FileGot × Outcome)). flat_map (λ row. job_puts row.0.name row.1) rs) (no_rows (all_got o contents))

pub parts_more : (o : Options) (contents : List (List ℕ)) (outcomes : List Outcome) (i : ℕ) (outcome : Outcome) (parts : List TextPart) (part : TextPart)
    → length outcomes ≡ length o.files → i < length outcomes → outcome ≡ get_or outcomes i outcome → part ≡ job_part (file_at o contents i) outcome
    → parts ≡ parts_in o contents (take i outcomes) → parts ++ part ∷ [] ≡ parts_in o contents (take (i + 1) outcomes)
parts_more o contents outcomes i outcome parts part many lt is said so_far =
    let long : length (take i outcomes) ≡ i = length-take-le i outcomes (omega (arith, lt)) in
    let of : FileGot × Outcome → TextPart = λ row. job_part row.0 row.1 in
    let more : take (i + 1) outcomes ≡ take i outcomes ++ outcome ∷ [] = take_more outcomes i outcome lt ∙ ap (λ (x : Outcome). take i outcomes ++ x ∷ []) (sym is) in
    let rows = rows_more o contents (take i outcomes) outcome (omega (arith, long, lt, many)) in
    ap (λ (ps : List TextPart). ps ++ part ∷ []) so_far
    ∙ ap (λ (p : TextPart). parts_in o contents (take i outcomes) ++ p ∷ []) said
    ∙ ap (λ (k : ℕ). parts_in o contents (take i outcomes) ++ job_part (file_at o contents k) outcome ∷ []) (sym long)
    ∙ sym (map_push of (zip (all_got o contents) (take i outcomes)) (file_at o contents (length (take i outcomes)), outcome))
    ∙ ap (λ (rs : List (FileGot × Outcome)). map of rs) (sym rows)
    ∙ ap (λ (done : List Outcome). parts_in o contents done) (sym more)

pub puts_more : (o : Options) (contents : List (List ℕ)) (done : List Outcome) (outcome : Outcome) (puts new : List Put) → length done < length o.files
    → new ≡ puts ++ job_puts (get_or o.files (length done) []) outcome → puts ≡ puts_in o contents done → new ≡ puts_in o contents (done ++ outcome ∷ [])
puts_more o contents done outcome puts new lt is so_far =
    let of : FileGot × Outcome → List Put = λ row. job_puts row.0.name row.1 in
    let row : FileGot × Outcome = (file_at o contents (length done), outcome) in
    let rows = rows_more o contents done outcome lt in
    is
    ∙ ap (λ (ps : List Put). ps ++ of row) so_far
    ∙ ap (λ (ps : List Put). puts_in o contents done ++ ps) (sym (append-nil (of row)))
    ∙ sym (flat_map-append of (zip (all_got o contents) done) (row ∷ []))
    ∙ ap (λ (rs : List (FileGot × Outcome)). flat_map of rs) (sym rows)

-- ---- how many bytes there are together

abbrev size : FileGot → ℕ
size file = length file.content

pub bytes_more : (common : List ℕ) (o : Options) (contents : List (List ℕ)) (number : ℕ) → number < length o.files
    → bytes_together common (take (number + 1) (all_got o contents)) ≡ bytes_together common (take number (all_got o contents)) + length (get_or contents (suc number) [])
bytes_more common o contents number lt =
    let files = all_got o contents in
    let d : FileGot = file_at o contents number in
    let long = got_long 1 o.files contents in
    let more = sum_by_more size files number d (omega (arith, long, lt)) in
    let same : length (get_or files number d).content ≡ length (get_or contents (suc number) []) = ap (λ (f : FileGot). length f.content) (one_at o contents number d lt) in
    omega (arith, more, same)

pub is_past : (common : List ℕ) (o : Options) (contents : List (List ℕ)) (number left : ℕ) → number < length o.files
    → left + bytes_together common (take number (all_got o contents)) ≡ longest_files → left < length (get_or contents (suc number) []) → IsPast common (all_got o contents) number
is_past common o contents number left lt so_far many =
    let more = bytes_more common o contents number lt in
    let next : bytes_together common (take (number + 1) (all_got o contents)) ≡ bytes_together common (take (suc number) (all_got o contents)) =
    ap (λ (k : ℕ). bytes_together common (take k (all_got o contents))) (add-one number) in
    record { before = omega (arith, so_far); past = omega (arith, so_far, many, more, next) }

pub all_few : (common : List ℕ) (o : Options) (contents : List (List ℕ)) (count left : ℕ) → length o.files ≡ count
    → left + bytes_together common (take count (all_got o contents)) ≡ longest_files → bytes_together common (all_got o contents) ≤ longest_files
all_few common o contents count left many so_far =
    let long = got_long 1 o.files contents in
    let all : take count (all_got o contents) ≡ all_got o contents = take_all count (all_got o contents) (omega (arith, long, many)) in
    let same = ap (λ (files : List FileGot). bytes_together common files) all in
    omega (arith, so_far, same)
