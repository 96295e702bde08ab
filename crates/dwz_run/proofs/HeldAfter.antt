-- When all puts are done each FILE, or the one output, holds what it has after, and the common file is there: names differ, and FILEs held
-- their bytes before.
use Rattle.std.proofs.Common.{◌≡◌, ℕ, suc, Bool, true, false, List, [], ◌∷◌, ◌++◌, length, Option, Some, None, refl, sym, ap, subst, ◌∙◌, inl, inr, arith}
use Rattle.std.specs.Prelude.{not, if◌then◌else◌}
use Rattle.std.specs.Option.{option_map_or}
use Rattle.std.specs.Str.{bytes_eq}
use Rattle.std.proofs.lemmas.Bool.{and_parts, or_parts}
use Rattle.dwz_def_tops.specs.Lists.{Nth}
use Rattle.dwz_def_images.specs.Units.{changes}
use Rattle.dwz_def_readback.specs.Files.{Run}
use Rattle.dwz_outside.specs.declared.puts.Put.{Put}
use Rattle.dwz_outside.specs.Store.{Store, done, put_in}
use Rattle.dwz_words.specs.Conditions.{FitTogether, are_distinct, is_among}
use Rattle.dwz_words.proofs.Fits.{files_differ, with_out}
use Rattle.dwz_words.specs.declared.options.Options.{Options}
use Rattle.dwz_def_run.specs.Out.{files_puts_by}
use Rattle.dwz_def_output.specs.FilesAfter.{bytes_after, bytes_by, common_bytes, file_after, has_common}
use Rattle.dwz_def_run.specs.Out.{all_puts, common_puts, file_puts, files_puts, put_of, puts_by, sup_name}
use Rattle.dwz_def_run.proofs.Stopping.{done_append, not_named, other_way, put_other, put_own}
use Rattle.dwz_run.specs.Laws.{HoldAfter, goes_to}

-- ---- names that differ

not_false : (b : Bool) → not b ≡ true → b ≡ false
not_false true e = absurd cc
not_false false e = refl

-- ---- FILEs in place

module _ (o : Options) (r : Run) (in_place : o.out ≡ None) where
  abbrev new : ℕ → List ℕ
  new file = bytes_after (sup_name o) r file

  one_put : (file : ℕ) (name : List ℕ) → file_puts o r file name ≡ puts_by (changes r.move r.units file) None name (new file)
  one_put file name = ap (λ (w : Option (List ℕ)). puts_by (changes r.move r.units file) w name (new file)) in_place

  -- the put of a file, if there is one, leaves its name with its bytes
  own : (file : ℕ) (name : List ℕ) (st : Store) → st name ≡ Some (r.input.bytes file)
      → done (file_puts o r file name) st name ≡ Some (new file)
  own file name st held = ap (λ (ps : List Put). done ps st name) (one_put file name) ∙ by (changes r.move r.units file) refl where
    by : (b : Bool) → changes r.move r.units file ≡ b → done (puts_by b None name (new file)) st name ≡ Some (new file)
    by true moves = put_own name (new file) st
    by false moves = held ∙ ap (λ (b : Bool). Some (bytes_by b (r.input.bytes file) (file_after (sup_name o) r file))) (sym moves)

  -- and other names as they were
  other : (x : List ℕ) (file : ℕ) (name : List ℕ) (st : Store) → bytes_eq x name ≡ false → done (file_puts o r file name) st x ≡ st x
  other x file name st e = ap (λ (ps : List Put). done ps st x) (one_put file name) ∙ by (changes r.move r.units file) where
    by : (b : Bool) → done (puts_by b None name (new file)) st x ≡ st x
    by true = put_other x name (new file) st e
    by false = refl

  leaves : (x : List ℕ) (s : ℕ) (names : List (List ℕ)) (st : Store) → is_among names x ≡ false → done (files_puts o r s names) st x ≡ st x
  unfolding files_puts_by
  leaves x s [] st e = refl
  leaves x s (n ∷ names) st e =
      let both = or_parts (bytes_eq n x) (is_among names x) e in
      let first = done (file_puts o r s n) st in
      ap (λ (now : Store). now x) (done_append (file_puts o r s n) (files_puts o r (suc s) names) st)
      ∙ (leaves x (suc s) names first both.1 ∙ other x s n st (other_way n x both.0))

  all : (s : ℕ) (names : List (List ℕ)) (st : Store) → are_distinct names ≡ true
      → ((file : ℕ) (name : List ℕ) → Nth s names file name → st name ≡ Some (r.input.bytes file))
      → (file : ℕ) (name : List ℕ) → Nth s names file name → done (files_puts o r s names) st name ≡ Some (new file)
  unfolding files_puts_by
  all s [] st e held file name nth = absurd nth
  all s (n ∷ names) st e held file name (inl is) =
      let both = and_parts (not (is_among names n)) (are_distinct names) e in
      let first = done (file_puts o r s n) st in
      let here : done (file_puts o r s n ++ files_puts o r (suc s) names) st n ≡ Some (new s) =
      ap (λ (now : Store). now n) (done_append (file_puts o r s n) (files_puts o r (suc s) names) st)
      ∙ (leaves n (suc s) names first (not_false (is_among names n) both.0) ∙ own s n st (held s n (inl (refl, refl)))) in
      subst (λ (w : List ℕ). done (file_puts o r s n ++ files_puts o r (suc s) names) st w ≡ Some (new file)) is.1
      (subst (λ (f : ℕ). done (file_puts o r s n ++ files_puts o r (suc s) names) st n ≡ Some (new f)) is.0 here)
  all s (n ∷ names) st e held file name (inr later) =
      let both = and_parts (not (is_among names n)) (are_distinct names) e in
      let first = done (file_puts o r s n) st in
      let free = not_false (is_among names n) both.0 in
      ap (λ (now : Store). now name) (done_append (file_puts o r s n) (files_puts o r (suc s) names) st)
      ∙ all (suc s) names first both.1 (λ f m at. other m s n st (not_named n names free (suc s) f m at) ∙ held f m (inr at)) file name later

-- ---- one file elsewhere

module _ (o : Options) (r : Run) (out : List ℕ) (elsewhere : o.out ≡ Some out) where
  abbrev bytes : ℕ → List ℕ
  bytes file = bytes_after (sup_name o) r file

  single : (st : Store) (x : List ℕ) → done (file_puts o r 0 x ++ []) st out ≡ Some (bytes 0)
  single st x = ap (λ (w : Option (List ℕ)). done (puts_by (changes r.move r.units 0) w x (bytes 0) ++ []) st out) elsewhere ∙ by (changes r.move r.units 0) where
    by : (b : Bool) → done (puts_by b (Some out) x (bytes 0) ++ []) st out ≡ Some (bytes 0)
    by true = put_own out (bytes 0) st
    by false = put_own out (bytes 0) st

  one_file : (names : List (List ℕ)) → length names ≡ 1 → (st : Store) (file : ℕ) (name : List ℕ) → Nth 0 names file name
      → done (files_puts o r 0 names) st out ≡ Some (bytes file)
  unfolding files_puts_by
  one_file [] len st file name nth = absurd nth
  one_file (x ∷ y ∷ names) len st file name nth = absurd (omega (arith, len))
  one_file (x ∷ []) len st file name (inr later) = absurd later
  one_file (x ∷ []) len st file name (inl is) = subst (λ (f : ℕ). done (file_puts o r 0 x ++ []) st out ≡ Some (bytes f)) is.0 (single st x)

  no_common : FitTogether o → o.common ≡ None
  no_common fit = (with_out o fit out elsewhere).1

  elsewhere_held : FitTogether o → (store : Store) → HoldAfter o r (done (all_puts o r) store)
  elsewhere_held fit store = record {
    files = λ file name nth.
        subst (λ (w : Option (List ℕ)). done (all_puts o r) store (goes_to w name) ≡ Some (bytes file)) (sym elsewhere)
        (subst (λ (c : Option (List ℕ)). done (common_puts c r ++ files_puts o r 0 o.files) store out ≡ Some (bytes file)) (sym (no_common fit))
        (one_file o.files (with_out o fit out elsewhere).0 store file name nth));
    common = λ name is has. absurd (let z : None ≡ Some name = sym (no_common fit) ∙ is in cc);
  }

-- ---- in place, the common file first

module _ (o : Options) (r : Run) (in_place : o.out ≡ None) (fit : FitTogether o) (distinct : are_distinct o.files ≡ true) (store : Store)
    (held : (file : ℕ) (name : List ℕ) → Nth 0 o.files file name → store name ≡ Some (r.input.bytes file)) where
  abbrev puts : List Put
  puts = files_puts o r 0 o.files

  abbrev is_new : ℕ → List ℕ
  is_new file = bytes_after (sup_name o) r file

  -- these puts leave each FILE with what it has after, and the common file with its bytes
  record Leave (c : Option (List ℕ)) (has : Bool) (now : Store) : Type 0 where
    files : (file : ℕ) (name : List ℕ) → Nth 0 o.files file name → now name ≡ Some (is_new file)
    common : (name : List ℕ) → c ≡ Some name → has ≡ true → now name ≡ Some (common_bytes r)

  one_some : (a b : List ℕ) → Some a ≡ Some b → a ≡ b
  one_some a b e = cc

  files_alone : (file : ℕ) (name : List ℕ) → Nth 0 o.files file name → done puts store name ≡ Some (is_new file)
  files_alone file name nth = all o r in_place 0 o.files store distinct held file name nth

  -- the puts of the FILEs leave the common file, and that leaves the FILEs
  behind : (c : List ℕ) → is_among o.files c ≡ false → Leave (Some c) true (done (put_of c (common_bytes r) ∷ puts) store)
  behind c free =
      let first = put_in c (common_bytes r) store in
      let others = λ (f : ℕ) (n : List ℕ) (at : Nth 0 o.files f n). put_other n c (common_bytes r) store (not_named c o.files free 0 f n at) ∙ held f n at in
      record {
        files = λ file name nth. all o r in_place 0 o.files first distinct others file name nth;
        common = λ name is has.
            (let same : c ≡ name = one_some c name is in
            subst (λ (w : List ℕ). done puts first w ≡ Some (common_bytes r)) same
            (leaves o r in_place c 0 o.files first free ∙ put_own c (common_bytes r) store));
      }

  leave : Leave o.common (has_common r) (done (all_puts o r) store)
  leave = by o.common refl (has_common r) refl where
    by : (w : Option (List ℕ)) → o.common ≡ w → (b : Bool) → has_common r ≡ b → Leave w b (done (common_puts w r ++ puts) store)
    by None e b h = record { files = files_alone; common = λ name is has. absurd (let z : None ≡ Some name = is in cc) }
    by (Some c) e true h =
        let free : is_among o.files c ≡ false = not_false (is_among o.files c)
        (sym (ap (λ (w : Option (List ℕ)). option_map_or (λ common. not (is_among o.files common)) w true) e) ∙ fit.common_apart) in
        subst (λ (t : Bool). Leave (Some c) true (done ((if t then put_of c (common_bytes r) ∷ [] else []) ++ puts) store)) (sym h) (behind c free)
    by (Some c) e false h =
        subst (λ (t : Bool). Leave (Some c) false (done ((if t then put_of c (common_bytes r) ∷ [] else []) ++ puts) store)) (sym h)
        (record { files = files_alone; common = λ name is has. absurd (let z : false ≡ true = has in cc) })

  in_place_held : HoldAfter o r (done (all_puts o r) store)
  in_place_held =
      record {
        files = λ file name nth.
            subst (λ (w : Option (List ℕ)). done (all_puts o r) store (goes_to w name) ≡ Some (is_new file)) (sym in_place) (leave.files file name nth);
        common = leave.common;
      }

-- ---- either way

pub hold_after : (o : Options) (r : Run) → FitTogether o → o.explain ≡ false → (store : Store)
    → ((file : ℕ) (name : List ℕ) → Nth 0 o.files file name → store name ≡ Some (r.input.bytes file)) → HoldAfter o r (done (all_puts o r) store)
hold_after o r fit slims store held = by o.out refl where
  by : (w : Option (List ℕ)) → o.out ≡ w → HoldAfter o r (done (all_puts o r) store)
  by None e = in_place_held o r e fit (files_differ o fit slims) store held
  by (Some out) e = elsewhere_held o r out e fit store
