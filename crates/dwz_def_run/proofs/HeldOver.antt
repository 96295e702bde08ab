-- When all puts of files are done, each FILE, or the one output, holds what it has after: names differ, and FILEs held their bytes before.
use Rattle.std.proofs.Common.{◌≡◌, ℕ, suc, Bool, true, false, List, [], ◌∷◌, ◌++◌, length, Option, Some, None, refl, sym, ap, subst, ◌∙◌, inl, inr, arith}
use Rattle.std.specs.Prelude.{not}
use Rattle.std.specs.Str.{bytes_eq}
use Rattle.std.proofs.lemmas.Bool.{and_parts, or_parts}
use Rattle.dwz_def_tops.specs.Lists.{Nth}
use Rattle.dwz_def_images.specs.Units.{changes}
use Rattle.dwz_def_readback.specs.Files.{CommonFile, Run}
use Rattle.dwz_outside.specs.declared.puts.Put.{Put}
use Rattle.dwz_outside.specs.Store.{Store, done}
use Rattle.dwz_words.specs.Conditions.{are_distinct, is_among}
use Rattle.dwz_words.specs.declared.options.Options.{Options}
use Rattle.dwz_def_output.specs.FilesAfter.{bytes_after_by, bytes_by, file_after_by}
use Rattle.dwz_def_run.specs.Out.{file_puts_by, files_puts_by, puts_by, sup_name}
use Rattle.dwz_def_run.specs.ReusesStops.{goes_over}
use Rattle.dwz_def_run.proofs.Stopping.{done_append, not_named, other_way, put_other, put_own}

not_false : (b : Bool) → not b ≡ true → b ≡ false
not_false true e = absurd cc
not_false false e = refl

-- ---- FILEs in place

module _ (cf : CommonFile) (o : Options) (r : Run) (in_place : o.out ≡ None) where
  abbrev new : ℕ → List ℕ
  new file = bytes_after_by cf (sup_name o) r file

  one_put : (file : ℕ) (name : List ℕ) → file_puts_by cf o r file name ≡ puts_by (changes r.move r.units file) None name (new file)
  one_put file name = ap (λ (w : Option (List ℕ)). puts_by (changes r.move r.units file) w name (new file)) in_place

  -- the put of a file, if there is one, leaves its name with its bytes
  own : (file : ℕ) (name : List ℕ) (st : Store) → st name ≡ Some (r.input.bytes file) → done (file_puts_by cf o r file name) st name ≡ Some (new file)
  own file name st held = ap (λ (ps : List Put). done ps st name) (one_put file name) ∙ by (changes r.move r.units file) refl where
    by : (b : Bool) → changes r.move r.units file ≡ b → done (puts_by b None name (new file)) st name ≡ Some (new file)
    by true moves = put_own name (new file) st
    by false moves = held ∙ ap (λ (b : Bool). Some (bytes_by b (r.input.bytes file) (file_after_by cf (sup_name o) r file))) (sym moves)

  -- and other names as they were
  other : (x : List ℕ) (file : ℕ) (name : List ℕ) (st : Store) → bytes_eq x name ≡ false → done (file_puts_by cf o r file name) st x ≡ st x
  other x file name st e = ap (λ (ps : List Put). done ps st x) (one_put file name) ∙ by (changes r.move r.units file) where
    by : (b : Bool) → done (puts_by b None name (new file)) st x ≡ st x
    by true = put_other x name (new file) st e
    by false = refl

  leaves : (x : List ℕ) (s : ℕ) (names : List (List ℕ)) (st : Store) → is_among names x ≡ false → done (files_puts_by cf o r s names) st x ≡ st x
  unfolding files_puts_by
  leaves x s [] st e = refl
  leaves x s (n ∷ names) st e =
      let both = or_parts (bytes_eq n x) (is_among names x) e in
      let first = done (file_puts_by cf o r s n) st in
      ap (λ (now : Store). now x) (done_append (file_puts_by cf o r s n) (files_puts_by cf o r (suc s) names) st)
      ∙ (leaves x (suc s) names first both.1 ∙ other x s n st (other_way n x both.0))

  pub held_in_place : (s : ℕ) (names : List (List ℕ)) (st : Store) → are_distinct names ≡ true
      → ((file : ℕ) (name : List ℕ) → Nth s names file name → st name ≡ Some (r.input.bytes file))
      → (file : ℕ) (name : List ℕ) → Nth s names file name → done (files_puts_by cf o r s names) st name ≡ Some (new file)
  unfolding files_puts_by
  held_in_place s [] st e held file name nth = absurd nth
  held_in_place s (n ∷ names) st e held file name (inl is) =
      let both = and_parts (not (is_among names n)) (are_distinct names) e in
      let first = done (file_puts_by cf o r s n) st in
      let here : done (file_puts_by cf o r s n ++ files_puts_by cf o r (suc s) names) st n ≡ Some (new s) =
      ap (λ (now : Store). now n) (done_append (file_puts_by cf o r s n) (files_puts_by cf o r (suc s) names) st)
      ∙ (leaves n (suc s) names first (not_false (is_among names n) both.0) ∙ own s n st (held s n (inl (refl, refl)))) in
      subst (λ (w : List ℕ). done (file_puts_by cf o r s n ++ files_puts_by cf o r (suc s) names) st w ≡ Some (new file)) is.1
      (subst (λ (f : ℕ). done (file_puts_by cf o r s n ++ files_puts_by cf o r (suc s) names) st n ≡ Some (new f)) is.0 here)
  held_in_place s (n ∷ names) st e held file name (inr later) =
      let both = and_parts (not (is_among names n)) (are_distinct names) e in
      let first = done (file_puts_by cf o r s n) st in
      let free = not_false (is_among names n) both.0 in
      ap (λ (now : Store). now name) (done_append (file_puts_by cf o r s n) (files_puts_by cf o r (suc s) names) st)
      ∙ held_in_place (suc s) names first both.1 (λ f m at. other m s n st (not_named n names free (suc s) f m at) ∙ held f m (inr at)) file name later

-- ---- one file elsewhere

module _ (cf : CommonFile) (o : Options) (r : Run) (out : List ℕ) (elsewhere : o.out ≡ Some out) where
  abbrev bytes : ℕ → List ℕ
  bytes file = bytes_after_by cf (sup_name o) r file

  single : (st : Store) (x : List ℕ) → done (file_puts_by cf o r 0 x ++ []) st out ≡ Some (bytes 0)
  single st x = ap (λ (w : Option (List ℕ)). done (puts_by (changes r.move r.units 0) w x (bytes 0) ++ []) st out) elsewhere ∙ by (changes r.move r.units 0) where
    by : (b : Bool) → done (puts_by b (Some out) x (bytes 0) ++ []) st out ≡ Some (bytes 0)
    by true = put_own out (bytes 0) st
    by false = put_own out (bytes 0) st

  pub held_elsewhere : (names : List (List ℕ)) → length names ≡ 1 → (st : Store) (file : ℕ) (name : List ℕ) → Nth 0 names file name
      → done (files_puts_by cf o r 0 names) st out ≡ Some (bytes file)
  unfolding files_puts_by
  held_elsewhere [] len st file name nth = absurd nth
  held_elsewhere (x ∷ y ∷ names) len st file name nth = absurd (omega (arith, len))
  held_elsewhere (x ∷ []) len st file name (inr later) = absurd later
  held_elsewhere (x ∷ []) len st file name (inl is) = subst (λ (f : ℕ). done (file_puts_by cf o r 0 x ++ []) st out ≡ Some (bytes f)) is.0 (single st x)

-- ---- either way

pub held_over : (cf : CommonFile) (o : Options) (r : Run) → are_distinct o.files ≡ true → ((out : List ℕ) → o.out ≡ Some out → length o.files ≡ 1) → (store : Store)
    → ((file : ℕ) (name : List ℕ) → Nth 0 o.files file name → store name ≡ Some (r.input.bytes file))
    → (file : ℕ) (name : List ℕ) → Nth 0 o.files file name
    → done (files_puts_by cf o r 0 o.files) store (goes_over o.out name) ≡ Some (bytes_after_by cf (sup_name o) r file)
held_over cf o r distinct one store held file name nth = by o.out refl where
  by : (w : Option (List ℕ)) → o.out ≡ w → done (files_puts_by cf o r 0 o.files) store (goes_over w name) ≡ Some (bytes_after_by cf (sup_name o) r file)
  by None e = held_in_place cf o r e 0 o.files store distinct held file name nth
  by (Some out) e = held_elsewhere cf o r out e o.files (one out e) store file name nth
