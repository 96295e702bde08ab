-- What stays of a section of texts: the bytes of a range all stay, so a text that is used moves as a whole.
use Rattle.std.proofs.Common.{◌≡◌, ℕ, suc, ◌+◌, ◌<◌, ◌≤◌, Bool, true, false, cond, ◌&&◌, List, [], ◌∷◌, ◌++◌, length, take, Option, Some, None, IsSome, Contains, refl, sym, ap, ◌∙◌, arith}
use Rattle.std.proofs.Common.{length-append}
use Rattle.std.proofs.lemmas.Bool.{false≢true, le-leb, lt-ltb}
use Rattle.std.proofs.lemmas.List.Folds.{list_any-from_Any}
use Rattle.dwz_bytes.proofs.LebLemmas.{take-front}
use Rattle.dwz_def_reading.specs.Pruning.{bytes_kept, ended_length, is_in_range, is_kept, new_number, pruned, range_end}
use Rattle.dwz_def_reading.specs.Texts.{IsTextAt, text_at}
use Rattle.dwz_def_reading.proofs.TextLemmas.{here_text, text_here}

-- ---- bytes that are kept

pub kept-append : (keep : ℕ → Bool) (at : ℕ) (xs ys : List ℕ) → bytes_kept keep at (xs ++ ys) ≡ bytes_kept keep at xs ++ bytes_kept keep (at + length xs) ys
unfolding bytes_kept
kept-append keep at [] ys = ap (λ (n : ℕ). bytes_kept keep n ys) (omega arith)
kept-append keep at (x ∷ xs) ys = go (keep at) (kept-append keep (at + 1) xs ys ∙ ap (λ (n : ℕ). bytes_kept keep (at + 1) xs ++ bytes_kept keep n ys) (omega arith)) where
  go : (b : Bool) → bytes_kept keep (at + 1) (xs ++ ys) ≡ bytes_kept keep (at + 1) xs ++ bytes_kept keep (at + suc (length xs)) ys
      → cond b (x ∷ bytes_kept keep (at + 1) (xs ++ ys)) (bytes_kept keep (at + 1) (xs ++ ys)) ≡ cond b (x ∷ bytes_kept keep (at + 1) xs) (bytes_kept keep (at + 1) xs)
      ++ bytes_kept keep (at + suc (length xs)) ys
  go true rest = ap (λ (w : List ℕ). x ∷ w) rest
  go false rest = rest

pub all_kept : (keep : ℕ → Bool) (at : ℕ) (xs : List ℕ) → ((k : ℕ) → at ≤ k → k < at + length xs → keep k ≡ true) → bytes_kept keep at xs ≡ xs
unfolding bytes_kept
all_kept keep at [] each = refl
all_kept keep at (x ∷ xs) each =
    let rest = all_kept keep (at + 1) xs (λ k le lt. each k (omega (arith, le)) (omega (arith, lt))) in
    ap (λ (b : Bool). cond b (x ∷ bytes_kept keep (at + 1) xs) (bytes_kept keep (at + 1) xs)) (each at (omega arith) (omega arith)) ∙ ap (λ (w : List ℕ). x ∷ w) rest

pub none_kept : (keep : ℕ → Bool) (at : ℕ) (xs : List ℕ) → ((k : ℕ) → at ≤ k → k < at + length xs → keep k ≡ false) → bytes_kept keep at xs ≡ []
unfolding bytes_kept
none_kept keep at [] each = refl
none_kept keep at (x ∷ xs) each =
    let rest = none_kept keep (at + 1) xs (λ k le lt. each k (omega (arith, le)) (omega (arith, lt))) in
    ap (λ (b : Bool). cond b (x ∷ bytes_kept keep (at + 1) xs) (bytes_kept keep (at + 1) xs)) (each at (omega arith) (omega arith)) ∙ rest

pub length_kept : (keep : ℕ → Bool) (at : ℕ) (xs : List ℕ) → length (bytes_kept keep at xs) ≤ length xs
unfolding bytes_kept
length_kept keep at [] = omega arith
length_kept keep at (x ∷ xs) = go (keep at) (length_kept keep (at + 1) xs) where
  go : (b : Bool) → length (bytes_kept keep (at + 1) xs) ≤ length xs → length (cond b (x ∷ bytes_kept keep (at + 1) xs) (bytes_kept keep (at + 1) xs)) ≤ suc (length xs)
  go true rest = omega (arith, rest)
  go false rest = omega (arith, rest)

-- ---- places in ranges

pub in_range : (section : List ℕ) (at used : ℕ) → used ≤ at → at < range_end section used → is_in_range section at used ≡ true
in_range section at used le lt = (λ j. le-leb used at le j && lt-ltb at (range_end section used) lt j)

pub kept_in_range : (section uses : List ℕ) (at used : ℕ) → Contains uses used → used ≤ at → at < range_end section used → is_kept section uses at ≡ true
unfolding is_kept
kept_in_range section uses at used c le lt = list_any-from_Any (is_in_range section at) uses (c.0, used, c.1, c.2, in_range section at used le lt)

-- ---- a text that is used

pub end_of_text : (section text : List ℕ) (used : ℕ) → text_at section used ≡ Some text → range_end section used ≡ used + (length text + 1)
unfolding range_end
end_of_text section text used is = ap (λ (o : Option (List ℕ)). used + ended_length o) is

pub some_text : (o : Option (List ℕ)) → IsSome o → (text : List ℕ) × (o ≡ Some text)
some_text None is = absurd (false≢true is)
some_text (Some text) is = (text, refl)

pub text_stays : (section uses : List ℕ) (used : ℕ) → Contains uses used → IsSome (text_at section used) → text_at (pruned section uses) (new_number section uses used) ≡ text_at section used
text_stays section uses used c some =
    let t = some_text (text_at section used) some in
    let text = t.0 in
    let here = text_here section text used t.1 in
    let keep = is_kept section uses in
    let place : 0 + length here.before ≡ used = omega (arith, here.length_before) in
    let end = end_of_text section text used t.1 in
    let front_len : length here.front ≡ length text + 1 = ap length here.spelled.parts ∙ length-append text (0 ∷ []) in
    let whole : bytes_kept keep used here.front ≡ here.front = all_kept keep used here.front (λ k le lt. kept_in_range section uses k used c le (omega (arith, lt, end, front_len))) in
    let parts : pruned section uses ≡ bytes_kept keep 0 here.before ++ (here.front ++ bytes_kept keep (used + length here.front) here.after) =
    ap (bytes_kept keep 0) here.parts ∙ kept-append keep 0 here.before (here.front ++ here.after)
    ∙ ap (λ (n : ℕ). bytes_kept keep 0 here.before ++ bytes_kept keep n (here.front ++ here.after)) place
    ∙ ap (λ (w : List ℕ). bytes_kept keep 0 here.before ++ w) (kept-append keep used here.front here.after ∙ ap (λ (w : List ℕ). w ++ bytes_kept keep (used + length here.front) here.after) whole) in
    let front : take used section ≡ here.before = ap (λ (n : ℕ). take n section) (sym here.length_before) ∙ ap (take (length here.before)) here.parts
    ∙ take-front here.before (here.front ++ here.after) in
    let moved : IsTextAt (pruned section uses) (new_number section uses used) text = record {
      before = bytes_kept keep 0 here.before;
      front = here.front;
      after = bytes_kept keep (used + length here.front) here.after;
      spelled = here.spelled;
      length_before = ap (λ (w : List ℕ). length (bytes_kept keep 0 w)) (sym front);
      parts = parts;
    } in
    here_text (pruned section uses) text (new_number section uses used) moved ∙ sym t.1

pub same_kept : (keep other : ℕ → Bool) → ((k : ℕ) → keep k ≡ other k) → (at : ℕ) (bytes : List ℕ) → bytes_kept keep at bytes ≡ bytes_kept other at bytes
unfolding bytes_kept
same_kept keep other each at [] = refl
same_kept keep other each at (b ∷ bytes) =
    ap (λ (w : List ℕ). cond (keep at) (b ∷ w) w) (same_kept keep other each (at + 1) bytes) ∙ ap (λ (t : Bool). cond t (b ∷ bytes_kept other (at + 1) bytes) (bytes_kept other (at + 1) bytes))
    (each at)
