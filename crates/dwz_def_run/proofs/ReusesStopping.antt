-- After the first puts of files over a finished common file, however many, each FILE is as it was, or as it is made.
use Rattle.std.proofs.Common.{◌≡◌, ◌⊎◌, ℕ, zero, suc, Bool, true, false, List, [], ◌∷◌, ◌++◌, length, take, Option, Some, None, refl, sym, ap, subst, ◌∙◌, inl, inr, arith}
use Rattle.std.specs.Prelude.{not, if◌then◌else◌}
use Rattle.std.specs.Str.{bytes_eq}
use Rattle.std.proofs.lemmas.Bool.{and_parts, or_parts}
use Rattle.std.proofs.lemmas.Slice.Eq.{bytes_eq-Decides}
use Rattle.dwz_def_tops.specs.Lists.{Nth}
use Rattle.dwz_def_images.specs.Units.{changes}
use Rattle.dwz_def_readback.specs.Files.{Run, CommonFile}
use Rattle.dwz_outside.specs.declared.puts.Put.{Put}
use Rattle.dwz_outside.specs.Store.{Store, done, put_in}
use Rattle.dwz_words.specs.Conditions.{are_distinct, is_among}
use Rattle.dwz_words.specs.declared.options.Options.{Options}
use Rattle.dwz_run_course.specs.Puts.{AreApart, AreOthers}
use Rattle.dwz_run_course.proofs.StopLemmas.{prefixes, untouched}
use Rattle.dwz_def_run.specs.Out.{files_puts_by, put_of, puts_by, sup_name, file_puts_by}
use Rattle.dwz_def_output.specs.FilesAfter.{bytes_by, bytes_after_by, file_after_by}
use Rattle.dwz_def_run.proofs.Stopping.{not_named, other_way, put_other, put_own}

-- ---- names that differ

own_name : (a : List ℕ) → bytes_eq a a ≡ true
own_name a = (bytes_eq-Decides a a).1 refl

not_false : (b : Bool) → not b ≡ true → b ≡ false
not_false true e = absurd cc
not_false false e = refl

others_append : (x : List ℕ) (ps qs : List Put) → AreOthers x ps → AreOthers x qs → AreOthers x (ps ++ qs)
others_append x [] qs h k = k
others_append x (p ∷ ps) qs h k = (h.0, others_append x ps qs h.1 k)

-- ---- files in place

module _ (cf : CommonFile) (o : Options) (r : Run) (in_place : o.out ≡ None) where
  abbrev new : ℕ → List ℕ
  new file = bytes_after_by cf (sup_name o) r file

  one_put : (file : ℕ) (name : List ℕ) → file_puts_by cf o r file name ≡ puts_by (changes r.move r.units file) None name (new file)
  one_put file name = ap (λ (w : Option (List ℕ)). puts_by (changes r.move r.units file) w name (new file)) in_place

  pub others : (x : List ℕ) (s : ℕ) (names : List (List ℕ)) → is_among names x ≡ false → AreOthers x (files_puts_by cf o r s names)
  unfolding files_puts_by
  others x s [] e = tt
  others x s (n ∷ names) e =
      let both = or_parts (bytes_eq n x) (is_among names x) e in
      others_append x (file_puts_by cf o r s n) (files_puts_by cf o r (suc s) names) (subst (AreOthers x) (sym (one_put s n)) (by (changes r.move r.units s) (other_way n x both.0))) (others x
      (suc s) names both.1) where
        by : (b : Bool) → bytes_eq x n ≡ false → AreOthers x (puts_by b None n (new s))
        by true d = (d, tt)
        by false d = tt

  apart : (s : ℕ) (names : List (List ℕ)) → are_distinct names ≡ true → AreApart (files_puts_by cf o r s names)
  unfolding files_puts_by
  apart s [] e = tt
  apart s (n ∷ names) e =
      let both = and_parts (not (is_among names n)) (are_distinct names) e in
      subst (λ (ps : List Put). AreApart (ps ++ files_puts_by cf o r (suc s) names)) (sym (one_put s n))
      (by (changes r.move r.units s) (others n (suc s) names (not_false (is_among names n) both.0)) (apart (suc s) names both.1)) where
        by : (b : Bool) → AreOthers n (files_puts_by cf o r (suc s) names) → AreApart (files_puts_by cf o r (suc s) names) → AreApart (puts_by b None n (new s) ++ files_puts_by cf o r (suc s) names)
        by true d rest = (d, rest)
        by false d rest = rest

  -- what all puts leave at the name of a file
  abbrev Left : Store → Store → ℕ → List ℕ → Type 0
  Left after store file name = (after name ≡ store name) ⊎ ((changes r.move r.units file ≡ true) × (after name ≡ Some (file_after_by cf (sup_name o) r file)))

  left : (s : ℕ) (names : List (List ℕ)) → are_distinct names ≡ true → (store : Store) (file : ℕ) (name : List ℕ) → Nth s names file name → Left (done (files_puts_by cf o r s names) store) store file name
  unfolding files_puts_by
  left s [] e store file name nth = absurd nth
  left s (n ∷ names) e store file name nth =
      let both = and_parts (not (is_among names n)) (are_distinct names) e in
      let rest = files_puts_by cf o r (suc s) names in
      subst (λ (ps : List Put). Left (done (ps ++ rest) store) store file name) (sym (one_put s n))
      (by (changes r.move r.units s) refl (others n (suc s) names (not_false (is_among names n) both.0)) (not_named n names (not_false (is_among names n) both.0) (suc s) file name)
      (λ st later. left (suc s) names both.1 st file name later) nth) where
        by : (b : Bool) → changes r.move r.units s ≡ b → AreOthers n (files_puts_by cf o r (suc s) names) → (Nth (suc s) names file name → bytes_eq name n ≡ false)
            → ((st : Store) → Nth (suc s) names file name → Left (done (files_puts_by cf o r (suc s) names) st) st file name) → Nth s (n ∷ names) file name
            → Left (done (puts_by b None n (new s) ++ files_puts_by cf o r (suc s) names) store) store file name
        by true moves d other go (inl is) =
            let st = put_in n (new s) store in
            let bytes : new s ≡ file_after_by cf (sup_name o) r s = ap (λ (b : Bool). bytes_by b (r.input.bytes s) (file_after_by cf (sup_name o) r s)) moves in
            let here : done (files_puts_by cf o r (suc s) names) st n ≡ Some (file_after_by cf (sup_name o) r s) =
            untouched n (files_puts_by cf o r (suc s) names) st d ∙ put_own n (new s) store ∙ ap (λ (w : List ℕ). Some w) bytes in
            subst (λ (w : List ℕ). Left (done (files_puts_by cf o r (suc s) names) st) store file w) is.1
            (subst (λ (f : ℕ). Left (done (files_puts_by cf o r (suc s) names) st) store f n) is.0 (inr (moves, here)))
        by false moves d other go (inl is) = subst (λ (w : List ℕ). Left (done (files_puts_by cf o r (suc s) names) store) store file w) is.1 (inl (untouched n (files_puts_by cf o r (suc s) names) store d))
        by true moves d other go (inr later) =
            let st = put_in n (new s) store in
            elim (go st later) [ inl same ↦ inl (same ∙ put_other name n (new s) store (other later)) | inr made ↦ inr made ]
        by false moves d other go (inr later) = go store later

  -- ---- in place

  module _ (distinct : are_distinct o.files ≡ true) (store : Store) (held : (file : ℕ) (name : List ℕ) → Nth 0 o.files file name → store name ≡ Some (r.input.bytes file)) where
    abbrev puts : List Put
    puts = files_puts_by cf o r 0 o.files

    abbrev Is : Store → ℕ → List ℕ → Type 0
    Is now file name = (now name ≡ Some (r.input.bytes file)) ⊎ ((changes r.move r.units file ≡ true) × (now name ≡ Some (file_after_by cf (sup_name o) r file)))

    pub in_place_over : (k file : ℕ) (name : List ℕ) → Nth 0 o.files file name → Is (done (take k puts) store) file name
    in_place_over k file name nth = elim (prefixes puts store (apart 0 o.files distinct) k name) [
      | inl same ↦ inl (same ∙ held file name nth)
      | inr e ↦ elim (left 0 o.files distinct store file name nth) [
        | inl s ↦ inl (e ∙ s ∙ held file name nth)
        | inr made ↦ inr (made.0, e ∙ made.1)
      ]
    ]

-- ---- elsewhere: one file, without a common one

no_puts : (k : ℕ) (store : Store) → done (take k []) store ≡ store
no_puts zero store = refl
no_puts (suc k) store = refl

module _ (cf : CommonFile) (o : Options) (r : Run) (out : List ℕ) (elsewhere : o.out ≡ Some out) where
  abbrev one_put_bytes : List ℕ
  one_put_bytes = bytes_after_by cf (sup_name o) r 0

  one_put_is : (x : List ℕ) → file_puts_by cf o r 0 x ++ [] ≡ put_of out one_put_bytes ∷ []
  one_put_is x = ap (λ (w : Option (List ℕ)). puts_by (changes r.move r.units 0) w x one_put_bytes ++ []) elsewhere ∙ by (changes r.move r.units 0) where
    by : (b : Bool) → puts_by b (Some out) x one_put_bytes ++ [] ≡ put_of out one_put_bytes ∷ []
    by true = refl
    by false = refl

  pub others_elsewhere : (x : List ℕ) → bytes_eq x out ≡ false → length o.files ≡ 1 → AreOthers x (files_puts_by cf o r 0 o.files)
  unfolding files_puts_by
  others_elsewhere x other len = by o.files len where
    by : (names : List (List ℕ)) → length names ≡ 1 → AreOthers x (files_puts_by cf o r 0 names)
    by [] e = tt
    by (y ∷ z ∷ names) e = absurd (omega (arith, e))
    by (y ∷ []) e = subst (AreOthers x) (sym (one_put_is y)) (other, tt)

module _ (cf : CommonFile) (o : Options) (r : Run) (out : List ℕ) (elsewhere : o.out ≡ Some out) (store : Store)
    (held : (file : ℕ) (name : List ℕ) → Nth 0 o.files file name → store name ≡ Some (r.input.bytes file)) where
  abbrev Stays : Store → ℕ → List ℕ → Type 0
  Stays now file name = (now name ≡ Some (r.input.bytes file)) ⊎ ((changes r.move r.units file ≡ true) × (now name ≡ Some (file_after_by cf (sup_name o) r file)))

  abbrev bytes : List ℕ
  bytes = bytes_after_by cf (sup_name o) r 0

  -- the one put leaves the file as it was, or is of its name
  one_done : (x : List ℕ) → store x ≡ Some (r.input.bytes 0) → Stays (put_in out bytes store) 0 x
  one_done x there = by (bytes_eq x out) refl (changes r.move r.units 0) refl where
    by : (t : Bool) → bytes_eq x out ≡ t → (b : Bool) → changes r.move r.units 0 ≡ b → Stays (put_in out bytes store) 0 x
    by false e b moves = inl (put_other x out bytes store e ∙ there)
    by true e false moves =
        inl (ap (λ (t : Bool). if t then Some bytes else store x) e ∙ ap (λ (b : Bool). Some (bytes_by b (r.input.bytes 0) (file_after_by cf (sup_name o) r 0))) moves)
    by true e true moves = inr (
      moves,
      ap (λ (t : Bool). if t then Some bytes else store x) e ∙ ap (λ (b : Bool). Some (bytes_by b (r.input.bytes 0) (file_after_by cf (sup_name o) r 0))) moves,
    )

  one_prefix : (k : ℕ) (x : List ℕ) → store x ≡ Some (r.input.bytes 0) → Stays (done (take k (put_of out bytes ∷ [])) store) 0 x
  one_prefix zero x there = inl there
  one_prefix (suc k) x there = subst (λ (st : Store). Stays st 0 x) (sym (no_puts k (put_in out bytes store))) (one_done x there)

  one_file : (names : List (List ℕ)) → length names ≡ 1 → (k file : ℕ) (name : List ℕ) → Nth 0 names file name → ((f : ℕ) (n : List ℕ) → Nth 0 names f n → store n ≡ Some (r.input.bytes f))
      → Stays (done (take k (files_puts_by cf o r 0 names)) store) file name
  unfolding files_puts_by
  one_file [] len k file name nth there = absurd nth
  one_file (x ∷ y ∷ names) len k file name nth there = absurd (omega (arith, len))
  one_file (x ∷ []) len k file name (inr later) there = absurd later
  one_file (x ∷ []) len k file name (inl is) there =
      subst (λ (f : ℕ). Stays (done (take k (file_puts_by cf o r 0 x ++ [])) store) f name) is.0
      (subst (λ (n : List ℕ). Stays (done (take k (file_puts_by cf o r 0 x ++ [])) store) 0 n) is.1
      (subst (λ (ps : List Put). Stays (done (take k ps) store) 0 x) (sym (one_put_is cf o r out elsewhere x)) (one_prefix k x (there 0 x (inl (refl, refl))))))

  -- the one put
  pub elsewhere_over : length o.files ≡ 1 → (k file : ℕ) (name : List ℕ) → Nth 0 o.files file name → Stays (done (take k (files_puts_by cf o r 0 o.files)) store) file name
  elsewhere_over len k file name nth = one_file o.files len k file name nth held
