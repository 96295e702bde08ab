-- After the first puts, however many, each FILE is as it was, or as it is made.
use Rattle.std.proofs.Common.{◌≡◌, ◌⊎◌, ℕ, zero, suc, Bool, true, false, List, [], ◌∷◌, ◌++◌, length, take, get_or, Option, Some, None, refl, sym, ap, subst, ◌∙◌, inl, inr, arith}
use Rattle.std.specs.Prelude.{not, if◌then◌else◌}
use Rattle.std.specs.Option.{option_map_or}
use Rattle.std.specs.Str.{bytes_eq}
use Rattle.std.proofs.lemmas.Bool.{and_parts, or_parts}
use Rattle.std.proofs.lemmas.Slice.Eq.{bytes_eq-Decides}
use Rattle.dwz_def_reading.specs.Documents.{Doc}
use Rattle.dwz_def_tops.specs.Lists.{Nth}
use Rattle.dwz_def_images.specs.Units.{changes}
use Rattle.dwz_def_readback.specs.Files.{Run}
use Rattle.dwz_outside.specs.declared.puts.Put.{Put}
use Rattle.dwz_outside.specs.Store.{Store, done, put_in}
use Rattle.dwz_words.specs.Conditions.{FitTogether, are_distinct, is_among}
use Rattle.dwz_words.proofs.Fits.{files_differ, with_out}
use Rattle.dwz_words.specs.declared.options.Options.{Options}
use Rattle.dwz_run_course.specs.Gets.{gets}
use Rattle.dwz_run_course.specs.Puts.{AreApart, AreOthers, Prefixes}
use Rattle.dwz_run_course.proofs.StopLemmas.{first, prefixes, text_of_same, untouched}
use Rattle.dwz_def_run.specs.Out.{files_puts_by}
use Rattle.dwz_def_output.specs.FilesAfter.{bytes_after, bytes_by, common_bytes, file_after, has_common}
use Rattle.dwz_def_run.specs.Out.{IsWritten, all_puts, common_puts, file_puts, files_puts, put_of, puts_by, run_for, sup_name}
use Rattle.dwz_def_run.specs.Stops.{AreOldOrMade, IsMade}
use Rattle.dwz_def_run.proofs.Gotten.{are_held}

-- ---- names that differ

own_name : (a : List ℕ) → bytes_eq a a ≡ true
own_name a = (bytes_eq-Decides a a).1 refl

pub other_way : (a b : List ℕ) → bytes_eq a b ≡ false → bytes_eq b a ≡ false
other_way a b e = by (bytes_eq b a) refl where
  by : (t : Bool) → bytes_eq b a ≡ t → t ≡ false
  by false is = refl
  by true is = absurd (let yes = subst (λ (x : List ℕ). bytes_eq a x ≡ true) (sym (text_of_same b a is)) (own_name a) in let z : true ≡ false = sym yes ∙ e in cc)

not_false : (b : Bool) → not b ≡ true → b ≡ false
not_false true e = absurd cc
not_false false e = refl

-- a word that isn't among these is none of them
pub not_named : (x : List ℕ) (names : List (List ℕ)) → is_among names x ≡ false → (s n : ℕ) (name : List ℕ) → Nth s names n name → bytes_eq name x ≡ false
not_named x [] e s n name nth = absurd nth
not_named x (y ∷ names) e s n name (inl is) = subst (λ (w : List ℕ). bytes_eq w x ≡ false) is.1 (or_parts (bytes_eq y x) (is_among names x) e).0
not_named x (y ∷ names) e s n name (inr later) = not_named x names (or_parts (bytes_eq y x) (is_among names x) e).1 (suc s) n name later

others_append : (x : List ℕ) (ps qs : List Put) → AreOthers x ps → AreOthers x qs → AreOthers x (ps ++ qs)
others_append x [] qs h k = k
others_append x (p ∷ ps) qs h k = (h.0, others_append x ps qs h.1 k)

-- a put that leaves a name
pub put_other : (name x bytes : List ℕ) (store : Store) → bytes_eq name x ≡ false → put_in x bytes store name ≡ store name
put_other name x bytes store e = ap (λ (b : Bool). if b then Some bytes else store name) e

pub put_own : (name bytes : List ℕ) (store : Store) → put_in name bytes store name ≡ Some bytes
put_own name bytes store = ap (λ (b : Bool). if b then Some bytes else store name) (own_name name)

pub done_append : (ps qs : List Put) (store : Store) → done (ps ++ qs) store ≡ done qs (done ps store)
done_append [] qs store = refl
done_append (p ∷ ps) qs store = done_append ps qs (put_in p.name p.bytes store)

one_some : (a b : List ℕ) → Some a ≡ Some b → a ≡ b
one_some a b e = cc

-- ---- files in place

module _ (o : Options) (r : Run) (in_place : o.out ≡ None) where
  abbrev new : ℕ → List ℕ
  new file = bytes_after (sup_name o) r file

  one_put : (file : ℕ) (name : List ℕ) → file_puts o r file name ≡ puts_by (changes r.move r.units file) None name (new file)
  one_put file name = ap (λ (w : Option (List ℕ)). puts_by (changes r.move r.units file) w name (new file)) in_place

  others : (x : List ℕ) (s : ℕ) (names : List (List ℕ)) → is_among names x ≡ false → AreOthers x (files_puts o r s names)
  unfolding files_puts_by
  others x s [] e = tt
  others x s (n ∷ names) e =
      let both = or_parts (bytes_eq n x) (is_among names x) e in
      others_append x (file_puts o r s n) (files_puts o r (suc s) names) (subst (AreOthers x) (sym (one_put s n)) (by (changes r.move r.units s) (other_way n x both.0))) (others x
      (suc s) names both.1) where
        by : (b : Bool) → bytes_eq x n ≡ false → AreOthers x (puts_by b None n (new s))
        by true d = (d, tt)
        by false d = tt

  apart : (s : ℕ) (names : List (List ℕ)) → are_distinct names ≡ true → AreApart (files_puts o r s names)
  unfolding files_puts_by
  apart s [] e = tt
  apart s (n ∷ names) e =
      let both = and_parts (not (is_among names n)) (are_distinct names) e in
      subst (λ (ps : List Put). AreApart (ps ++ files_puts o r (suc s) names)) (sym (one_put s n))
      (by (changes r.move r.units s) (others n (suc s) names (not_false (is_among names n) both.0)) (apart (suc s) names both.1)) where
        by : (b : Bool) → AreOthers n (files_puts o r (suc s) names) → AreApart (files_puts o r (suc s) names) → AreApart (puts_by b None n (new s) ++ files_puts o r (suc s) names)
        by true d rest = (d, rest)
        by false d rest = rest

  -- what all puts leave at the name of a file
  abbrev Left : Store → Store → ℕ → List ℕ → Type 0
  Left after store file name = (after name ≡ store name) ⊎ ((changes r.move r.units file ≡ true) × (after name ≡ Some (file_after (sup_name o) r file)))

  left : (s : ℕ) (names : List (List ℕ)) → are_distinct names ≡ true → (store : Store) (file : ℕ) (name : List ℕ) → Nth s names file name → Left (done (files_puts o r s names) store) store file name
  unfolding files_puts_by
  left s [] e store file name nth = absurd nth
  left s (n ∷ names) e store file name nth =
      let both = and_parts (not (is_among names n)) (are_distinct names) e in
      let rest = files_puts o r (suc s) names in
      subst (λ (ps : List Put). Left (done (ps ++ rest) store) store file name) (sym (one_put s n))
      (by (changes r.move r.units s) refl (others n (suc s) names (not_false (is_among names n) both.0)) (not_named n names (not_false (is_among names n) both.0) (suc s) file name)
      (λ st later. left (suc s) names both.1 st file name later) nth) where
        by : (b : Bool) → changes r.move r.units s ≡ b → AreOthers n (files_puts o r (suc s) names) → (Nth (suc s) names file name → bytes_eq name n ≡ false)
            → ((st : Store) → Nth (suc s) names file name → Left (done (files_puts o r (suc s) names) st) st file name) → Nth s (n ∷ names) file name
            → Left (done (puts_by b None n (new s) ++ files_puts o r (suc s) names) store) store file name
        by true moves d other go (inl is) =
            let st = put_in n (new s) store in
            let bytes : new s ≡ file_after (sup_name o) r s = ap (λ (b : Bool). bytes_by b (r.input.bytes s) (file_after (sup_name o) r s)) moves in
            let here : done (files_puts o r (suc s) names) st n ≡ Some (file_after (sup_name o) r s) =
            untouched n (files_puts o r (suc s) names) st d ∙ put_own n (new s) store ∙ ap (λ (w : List ℕ). Some w) bytes in
            subst (λ (w : List ℕ). Left (done (files_puts o r (suc s) names) st) store file w) is.1
            (subst (λ (f : ℕ). Left (done (files_puts o r (suc s) names) st) store f n) is.0 (inr (moves, here)))
        by false moves d other go (inl is) = subst (λ (w : List ℕ). Left (done (files_puts o r (suc s) names) store) store file w) is.1 (inl (untouched n (files_puts o r (suc s) names) store d))
        by true moves d other go (inr later) =
            let st = put_in n (new s) store in
            elim (go st later) [ inl same ↦ inl (same ∙ put_other name n (new s) store (other later)) | inr made ↦ inr made ]
        by false moves d other go (inr later) = go store later

  -- ---- with the common file before them

  module _ (fit : FitTogether o) (distinct : are_distinct o.files ≡ true) (store : Store) (held : (file : ℕ) (name : List ℕ) → Nth 0 o.files file name → store name ≡ Some (r.input.bytes file)) where
    abbrev puts : List Put
    puts = files_puts o r 0 o.files

    abbrev Is : Store → ℕ → List ℕ → Type 0
    Is now file name = (now name ≡ Some (r.input.bytes file)) ⊎ IsMade o r now file name

    -- no common file is put
    without : ((common : List ℕ) → o.common ≡ Some common → has_common r ≡ true → ⊥) → (k file : ℕ) (name : List ℕ) → Nth 0 o.files file name → Is (done (take k puts) store) file name
    without none k file name nth = elim (prefixes puts store (apart 0 o.files distinct) k name) [
      | inl same ↦ inl (same ∙ held file name nth)
      | inr e ↦ elim (left 0 o.files distinct store file name nth) [
        | inl s ↦ inl (e ∙ s ∙ held file name nth)
        | inr made ↦ inr (record { changed = made.0; bytes = e ∙ made.1; common = λ c is has. absurd (none c is has) })
      ]
    ]

    -- it is put first
    behind : (c : List ℕ) → o.common ≡ Some c → is_among o.files c ≡ false → (k file : ℕ) (name : List ℕ) → Nth 0 o.files file name
        → Is (done (take k (put_of c (common_bytes r) ∷ puts)) store) file name
    behind c is free zero file name nth = inl (held file name nth)
    behind c is free (suc k) file name nth =
        let st = put_in c (common_bytes r) store in
        let other : st name ≡ store name = put_other name c (common_bytes r) store (not_named c o.files free 0 file name nth) in
        elim (prefixes puts st (apart 0 o.files distinct) k name) [
          | inl same ↦ inl (same ∙ other ∙ held file name nth)
          | inr e ↦ elim (left 0 o.files distinct st file name nth) [
            | inl s ↦ inl (e ∙ s ∙ other ∙ held file name nth)
            | inr made ↦ inr (record {
              changed = made.0;
              bytes = e ∙ made.1;
              common = λ d there has.
                  (let same : c ≡ d = one_some c d (sym is ∙ there) in
                  subst (λ (w : List ℕ). done (take k puts) st w ≡ Some (common_bytes r)) same (first (put_of c (common_bytes r)) puts store k (others c 0 o.files free)));
            })
          ]
        ]

    pub in_place_stops : Prefixes (all_puts o r) store (AreOldOrMade o r)
    in_place_stops k file name nth = by o.common refl (has_common r) refl where
      Goal : List Put → Type 0
      Goal ps = Is (done (take k ps) store) file name

      by : (w : Option (List ℕ)) → o.common ≡ w → (b : Bool) → has_common r ≡ b → Goal (common_puts w r ++ puts)
      by None e b h = without (λ c is has. absurd (let z : None ≡ Some c = sym e ∙ is in cc)) k file name nth
      by (Some c) e true h =
          let free : is_among o.files c ≡ false = not_false (is_among o.files c) (sym (ap (λ (w : Option (List ℕ)). option_map_or (λ common. not (is_among o.files common)) w true) e)
          ∙ fit.common_apart) in
          subst (λ (t : Bool). Goal ((if t then put_of c (common_bytes r) ∷ [] else []) ++ puts)) (sym h) (behind c e free k file name nth)
      by (Some c) e false h =
          subst (λ (t : Bool). Goal ((if t then put_of c (common_bytes r) ∷ [] else []) ++ puts)) (sym h)
          (without (λ d is has. absurd (let z : true ≡ false = sym has ∙ h in cc)) k file name nth)

-- ---- elsewhere: one file, without a common one

no_puts : (k : ℕ) (store : Store) → done (take k []) store ≡ store
no_puts zero store = refl
no_puts (suc k) store = refl

module _ (o : Options) (r : Run) (out : List ℕ) (elsewhere : o.out ≡ Some out) (fit : FitTogether o) (store : Store)
    (held : (file : ℕ) (name : List ℕ) → Nth 0 o.files file name → store name ≡ Some (r.input.bytes file)) where
  no_common : o.common ≡ None
  no_common = (with_out o fit out elsewhere).1

  abbrev Stays : Store → ℕ → List ℕ → Type 0
  Stays now file name = (now name ≡ Some (r.input.bytes file)) ⊎ IsMade o r now file name

  abbrev bytes : List ℕ
  bytes = bytes_after (sup_name o) r 0

  -- the one put leaves the file as it was, or is of its name
  one_done : (x : List ℕ) → store x ≡ Some (r.input.bytes 0) → Stays (put_in out bytes store) 0 x
  one_done x there = by (bytes_eq x out) refl (changes r.move r.units 0) refl where
    by : (t : Bool) → bytes_eq x out ≡ t → (b : Bool) → changes r.move r.units 0 ≡ b → Stays (put_in out bytes store) 0 x
    by false e b moves = inl (put_other x out bytes store e ∙ there)
    by true e false moves =
        inl (ap (λ (t : Bool). if t then Some bytes else store x) e ∙ ap (λ (b : Bool). Some (bytes_by b (r.input.bytes 0) (file_after (sup_name o) r 0))) moves)
    by true e true moves = inr (record {
      changed = moves;
      bytes = ap (λ (t : Bool). if t then Some bytes else store x) e ∙ ap (λ (b : Bool). Some (bytes_by b (r.input.bytes 0) (file_after (sup_name o) r 0))) moves;
      common = λ c is has. absurd (let z : None ≡ Some c = sym no_common ∙ is in cc);
    })

  single : (x : List ℕ) → file_puts o r 0 x ++ [] ≡ put_of out bytes ∷ []
  single x = ap (λ (w : Option (List ℕ)). puts_by (changes r.move r.units 0) w x bytes ++ []) elsewhere ∙ by (changes r.move r.units 0) where
    by : (b : Bool) → puts_by b (Some out) x bytes ++ [] ≡ put_of out bytes ∷ []
    by true = refl
    by false = refl

  one_prefix : (k : ℕ) (x : List ℕ) → store x ≡ Some (r.input.bytes 0) → Stays (done (take k (put_of out bytes ∷ [])) store) 0 x
  one_prefix zero x there = inl there
  one_prefix (suc k) x there = subst (λ (st : Store). Stays st 0 x) (sym (no_puts k (put_in out bytes store))) (one_done x there)

  one_file : (names : List (List ℕ)) → length names ≡ 1 → (k file : ℕ) (name : List ℕ) → Nth 0 names file name → ((f : ℕ) (n : List ℕ) → Nth 0 names f n → store n ≡ Some (r.input.bytes f))
      → Stays (done (take k (files_puts o r 0 names)) store) file name
  unfolding files_puts_by
  one_file [] len k file name nth there = absurd nth
  one_file (x ∷ y ∷ names) len k file name nth there = absurd (omega (arith, len))
  one_file (x ∷ []) len k file name (inr later) there = absurd later
  one_file (x ∷ []) len k file name (inl is) there =
      subst (λ (f : ℕ). Stays (done (take k (file_puts o r 0 x ++ [])) store) f name) is.0
      (subst (λ (n : List ℕ). Stays (done (take k (file_puts o r 0 x ++ [])) store) 0 n) is.1
      (subst (λ (ps : List Put). Stays (done (take k ps) store) 0 x) (sym (single x)) (one_prefix k x (there 0 x (inl (refl, refl))))))

  pub elsewhere_stops : Prefixes (all_puts o r) store (AreOldOrMade o r)
  elsewhere_stops k file name nth =
      subst (λ (w : Option (List ℕ)). Stays (done (take k (common_puts w r ++ files_puts o r 0 o.files)) store) file name) (sym no_common)
      (one_file o.files (with_out o fit out elsewhere).0 k file name nth held)

-- ---- either way

pub stops : (o : Options) → FitTogether o → o.explain ≡ false → (store : Store) (contents : List (List ℕ)) (docs : List (Doc ℕ)) (prunes : List Bool) → gets store 0 o.files ≡ Some contents
    → IsWritten o contents docs prunes → Prefixes (all_puts o (run_for o contents docs prunes)) store (AreOldOrMade o (run_for o contents docs prunes))
stops o fit slims store contents docs prunes is written = by o.out refl where
  held : (file : ℕ) (name : List ℕ) → Nth 0 o.files file name → store name ≡ Some (get_or contents file [])
  held = are_held store o.files contents docs is written.read.reads

  by : (w : Option (List ℕ)) → o.out ≡ w → Prefixes (all_puts o (run_for o contents docs prunes)) store (AreOldOrMade o (run_for o contents docs prunes))
  by None e = in_place_stops o (run_for o contents docs prunes) e fit (files_differ o fit slims) store held
  by (Some out) e = elsewhere_stops o (run_for o contents docs prunes) out e fit store held
