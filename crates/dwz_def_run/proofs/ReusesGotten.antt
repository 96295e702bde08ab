-- The contents of a finished common file and of FILEs that were got and read are whole.
use Rattle.std.proofs.Common.{◌≡◌, ℕ, suc, ◌+◌, ◌^◌, ◌≤◌, Bool, true, false, cond, List, [], ◌∷◌, length, map, take, get_or, Option, Some, None, refl, sym, ap, subst, ◌∙◌, inl, inr, arith}
use Rattle.std.specs.Prelude.{nat_lt, option_and_then, option_map, if◌then◌else◌}
use Rattle.std.proofs.lemmas.Bool.{ltb-true, or_cases}
use Rattle.std.proofs.lemmas.List.{length-take, take_all}
use Rattle.dwz_def_reading.specs.Units.{RawUnit}
use Rattle.dwz_def_reading.specs.Documents.{Doc}
use Rattle.dwz_def_reading.specs.Files.{Limits, ReadAll, limits_after, longest_file, longest_files, no_files_before, IsNotTooLong}
use Rattle.dwz_def_tops.specs.Lists.{Nth}
use Rattle.dwz_def_images.specs.Homes.{numbers_from}
use Rattle.dwz_outside.specs.Store.{Store, got, most_got}
use Rattle.dwz_run_course.specs.Gets.{content_is_too_long, gets}
use Rattle.dwz_def_over.specs.Over.{AreOverFiles, OverFiles, limits_over}

-- of the files before so many bytes were got, and so many may still come
abbrev Left : Limits → ℕ → Type 0
Left l before = l.bytes + before ≡ 2 ^ 29

left_first : Left no_files_before 0
unfolding longest_files
left_first = refl

-- what reads isn't too long
not_long : (l : Limits) (before : ℕ) (bytes : List ℕ) → Left l before → IsNotTooLong l bytes → content_is_too_long before bytes ≡ false
unfolding longest_file
not_long l before bytes left size = by (content_is_too_long before bytes) refl where
  by : (b : Bool) → content_is_too_long before bytes ≡ b → b ≡ false
  by false e = refl
  by true e =
      let file = size.file in
      let files = size.files in
      absurd (elim (or_cases (nat_lt (2 ^ 28) (length bytes)) (nat_lt (2 ^ 29) (before + length bytes)) e) [
        | inl a ↦ (let long = ltb-true (2 ^ 28) (length bytes) a in omega (arith, long, file))
        | inr b ↦ (let long = ltb-true (2 ^ 29) (before + length bytes) b in omega (arith, long, files, left))
      ])

left_after : (l : Limits) (before : ℕ) (bytes : List ℕ) (raw : List RawUnit) → Left l before → IsNotTooLong l bytes → Left (limits_after l bytes raw) (before + length bytes)
left_after l before bytes raw left size = let files = size.files in omega (arith, left, files)

pub short : {n : ℕ} → n ≤ longest_file → n ≤ 2 ^ 28
unfolding longest_file
short h = h

-- a content that reads is all that was held
pub all_got : (o : Option (List ℕ)) (content : List ℕ) → length content ≤ 2 ^ 28 → option_map (take most_got) o ≡ Some content → o ≡ Some content
unfolding most_got
all_got None content short e = absurd cc
all_got (Some held) content short e =
    let same : take (2 ^ 28 + 1) held ≡ content = cc in
    let few : length held ≤ 2 ^ 28 + 1 = omega (arith, short, ap length same, length-take (2 ^ 28 + 1) held) in
    let whole : take (2 ^ 28 + 1) held ≡ held = take_all (2 ^ 28 + 1) held few in
    ap (λ (w : List ℕ). Some w) (sym whole ∙ same)

record HeldAt (store : Store) (s n : ℕ) (contents : List (List ℕ)) (name : List ℕ) : Type 0 where
  index : ℕ
  is_index : n ≡ s + index
  held : store name ≡ Some (get_or contents index [])

-- what the first get gave
record Next (store : Store) (before : ℕ) (name : List ℕ) (names contents : List (List ℕ)) : Type 0 where
  first : List ℕ
  rest : List (List ℕ)
  got_is : got store name ≡ Some first
  contents_are : contents ≡ first ∷ rest
  later : content_is_too_long before first ≡ false → gets store (before + length first) names ≡ Some rest

next_by : (store : Store) (before : ℕ) (name : List ℕ) (names contents : List (List ℕ)) (o : Option (List ℕ)) → got store name ≡ o
    → option_and_then (λ content. if content_is_too_long before content then Some (content ∷ []) else option_map (λ rest. content ∷ rest) (gets store (before + length content) names)) o ≡ Some
    contents
    → Next store before name names contents
next_by store before name names contents None e is = absurd cc
next_by store before name names contents (Some c) e is = by (content_is_too_long before c) (gets store (before + length c) names) refl refl is where
  by : (b : Bool) (g : Option (List (List ℕ))) → content_is_too_long before c ≡ b → gets store (before + length c) names ≡ g → cond b (Some (c ∷ [])) (option_map (λ rest. c ∷ rest) g) ≡ Some contents
      → Next store before name names contents
  by true g long more same = record {
    first = c;
    rest = [];
    got_is = e;
    contents_are = let z : contents ≡ c ∷ [] = cc in z;
    later = λ short. absurd (let z : true ≡ false = sym long ∙ short in cc);
  }
  by false None long more same = absurd cc
  by false (Some rest) long more same = record {
    first = c;
    rest = rest;
    got_is = e;
    contents_are = let z : contents ≡ c ∷ rest = cc in z;
    later = λ short. more;
  }

held_at : (store : Store) (names : List (List ℕ)) (before : ℕ) (contents : List (List ℕ)) (l : Limits) (docs : List (Doc ℕ)) → gets store before names ≡ Some contents → Left l before
    → ReadAll l contents docs
    → (s n : ℕ) (name : List ℕ) → Nth s names n name → HeldAt store s n contents name
held_at store [] before contents l docs is left read s n name nth = absurd nth
held_at store (x ∷ names) before contents l docs is left read s n name nth =
    let next = next_by store before x names contents (got store x) refl is in
    subst (λ (cs : List (List ℕ)). HeldAt store s n cs name) (sym next.contents_are)
    (by next.first next.rest next.got_is next.later (λ more m d gs lf ra. held_at store names more next.rest m d gs lf ra (suc s) n name) docs (subst (λ (cs : List
    (List ℕ)). ReadAll l cs docs) next.contents_are read) nth) where
      by : (first : List ℕ) (rest : List (List ℕ)) → got store x ≡ Some first → (content_is_too_long before first ≡ false → gets store (before + length first) names ≡ Some rest)
          → ((more : ℕ) (m : Limits) (d : List (Doc ℕ)) → gets store more names ≡ Some rest → Left m more → ReadAll m rest d → Nth (suc s) names n name → HeldAt store (suc s) n rest name)
          → (docs : List (Doc ℕ)) → ReadAll l (first ∷ rest) docs → Nth s (x ∷ names) n name → HeldAt store s n (first ∷ rest) name
      by first rest got_is later go [] read nth = absurd read
      by first rest got_is later go (doc ∷ docs) read (inl e) =
          let file = read.1.size.file in
          record {
            index = 0;
            is_index = let same = e.0 in omega (arith, same);
            held = subst (λ (w : List ℕ). store w ≡ Some first) e.1 (all_got (store x) first (short file) got_is);
          }
      by first rest got_is later go (doc ∷ docs) read (inr r) =
          let o = go (before + length first) (limits_after l first read.0) docs (later (not_long l before first left read.1.size)) (left_after l before first read.0 left read.1.size) read.2 r in
          let at = o.is_index in
          record { index = suc o.index; is_index = omega (arith, at); held = o.held }

-- the common file and each FILE hold what was read of them, where they were got
module _ (store : Store) (name : List ℕ) (names : List (List ℕ)) (x : OverFiles) (are : AreOverFiles x) (is : gets store 0 (name ∷ names) ≡ Some (x.common ∷ x.contents)) where
  next : Next store 0 name names (x.common ∷ x.contents)
  next = next_by store 0 name names (x.common ∷ x.contents) (got store name) refl is

  first_is : next.first ≡ x.common
  first_is = let same = next.contents_are in let z : x.common ≡ next.first = cc in sym z

  rest_is : next.rest ≡ x.contents
  rest_is = let same = next.contents_are in let z : x.contents ≡ next.rest = cc in sym z

  size : IsNotTooLong no_files_before x.common
  size = are.common.size

  pub common_held : store name ≡ Some x.common
  common_held =
      let file = size.file in
      all_got (store name) x.common (short file) (next.got_is ∙ ap (λ (w : List ℕ). Some w) first_is)

  later : gets store (0 + length x.common) names ≡ Some x.contents
  later =
      let free : content_is_too_long 0 next.first ≡ false = ap (content_is_too_long 0) first_is ∙ not_long no_files_before 0 x.common left_first size in
      ap (λ (w : List ℕ). gets store (0 + length w) names) (sym first_is) ∙ next.later free ∙ ap (λ (w : List (List ℕ)). Some w) rest_is

  pub files_held : (n : ℕ) (file_name : List ℕ) → Nth 0 names n file_name → store file_name ≡ Some (get_or x.contents n [])
  files_held n file_name nth =
      let o = held_at store names (0 + length x.common) x.contents (limits_over x) x.said.docs later (left_after no_files_before 0 x.common x.raw left_first size) are.files 0 n file_name nth in
      let at = o.is_index in
      let index : o.index ≡ n = omega (arith, at) in
      subst (λ (k : ℕ). store file_name ≡ Some (get_or x.contents k [])) index o.held

-- ---- what reads was got, all of it

abbrev row : List (List ℕ) → List (List ℕ) → List (List ℕ)
row contents names = map (λ n. get_or contents n []) (numbers_from 0 names)

pub shifted : (c : List ℕ) (rest names : List (List ℕ)) (i : ℕ)
    → map (λ n. get_or (c ∷ rest) n []) (numbers_from (suc i) names) ≡ map (λ n. get_or rest n []) (numbers_from i names)
unfolding numbers_from
shifted c rest [] i = refl
shifted c rest (x ∷ names) i = ap (λ (w : List (List ℕ)). get_or rest i [] ∷ w) (shifted c rest names (suc i))

-- contents that read, one for each name, are all that were got
all_whole : (store : Store) (names : List (List ℕ)) (before : ℕ) (contents : List (List ℕ)) (l : Limits) (docs : List (Doc ℕ)) → gets store before names ≡ Some contents
    → Left l before → ReadAll l (row contents names) docs → row contents names ≡ contents
unfolding numbers_from
all_whole store [] before contents l docs is left read = let z : [] ≡ contents = cc in z
all_whole store (x ∷ names) before contents l docs is left read =
    let next = next_by store before x names contents (got store x) refl is in
    subst (λ (cs : List (List ℕ)). row cs (x ∷ names) ≡ cs) (sym next.contents_are)
    (by next.first next.rest next.later (λ more m d gs lf ra. all_whole store names more next.rest m d gs lf ra) docs
    (subst (λ (cs : List (List ℕ)). ReadAll l (row cs (x ∷ names)) docs) next.contents_are read)) where
      by : (first : List ℕ) (rest : List (List ℕ)) → (content_is_too_long before first ≡ false → gets store (before + length first) names ≡ Some rest)
          → ((more : ℕ) (m : Limits) (d : List (Doc ℕ)) → gets store more names ≡ Some rest → Left m more → ReadAll m (row rest names) d → row rest names ≡ rest)
          → (docs : List (Doc ℕ)) → ReadAll l (row (first ∷ rest) (x ∷ names)) docs → row (first ∷ rest) (x ∷ names) ≡ first ∷ rest
      by first rest _ go [] read = absurd read
      by first rest later go (doc ∷ docs) read =
          let tail = shifted first rest names 0 in
          let more = subst (λ (cs : List (List ℕ)). ReadAll (limits_after l first read.0) cs docs) tail read.2 in
          ap (λ (w : List (List ℕ)). first ∷ w) (tail
          ∙ go (before + length first) (limits_after l first read.0) docs (later (not_long l before first left read.1.size)) (left_after l before first read.0 left read.1.size) more)

-- so it is with those behind that of the common file
pub got_whole : (store : Store) (name : List ℕ) (names contents : List (List ℕ)) (x : OverFiles) → AreOverFiles x → gets store 0 (name ∷ names) ≡ Some contents
    → x.common ≡ get_or contents 0 [] → x.contents ≡ map (λ n. get_or contents (suc n) []) (numbers_from 0 names) → contents ≡ x.common ∷ x.contents
got_whole store name names contents x are is common files = by next.first next.rest next.contents_are next.later where
  next : Next store 0 name names contents
  next = next_by store 0 name names contents (got store name) refl is

  by : (first : List ℕ) (rest : List (List ℕ)) → contents ≡ first ∷ rest → (content_is_too_long 0 first ≡ false → gets store (0 + length first) names ≡ Some rest)
      → contents ≡ x.common ∷ x.contents
  by first rest same later =
      let head : x.common ≡ first = common ∙ ap (λ (cs : List (List ℕ)). get_or cs 0 []) same in
      let tail : x.contents ≡ row rest names = files ∙ ap (λ (cs : List (List ℕ)). map (λ n. get_or cs (suc n) []) (numbers_from 0 names)) same in
      let size = are.common.size in
      let free : content_is_too_long 0 first ≡ false = ap (content_is_too_long 0) (sym head) ∙ not_long no_files_before 0 x.common left_first size in
      let got_rest : gets store (0 + length x.common) names ≡ Some rest = ap (λ (w : List ℕ). gets store (0 + length w) names) head ∙ later free in
      let read = subst (λ (cs : List (List ℕ)). ReadAll (limits_over x) cs x.said.docs) tail are.files in
      let whole = all_whole store names (0 + length x.common) rest (limits_over x) x.said.docs got_rest (left_after no_files_before 0 x.common x.raw left_first size) read in
      same ∙ ap (λ (w : List ℕ). w ∷ rest) (sym head) ∙ ap (λ (cs : List (List ℕ)). x.common ∷ cs) (sym (tail ∙ whole))
