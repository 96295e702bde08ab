-- Contents that were got and read are whole; and which files are got that are slimmed.
use Rattle.std.proofs.Common.{◌≡◌, ℕ, suc, ◌+◌, ◌^◌, ◌≤◌, Bool, true, false, cond, List, [], ◌∷◌, length, take, get_or, Option, Some, None, refl, sym, ap, subst, ◌∙◌, inl, inr, arith}
use Rattle.std.specs.Prelude.{nat_lt, option_and_then, option_map, if◌then◌else◌}
use Rattle.std.proofs.lemmas.Bool.{ltb-true, or_cases}
use Rattle.std.proofs.lemmas.List.{length-take, take_all}
use Rattle.dwz_def_reading.specs.Units.{RawUnit}
use Rattle.dwz_def_reading.specs.Documents.{Doc}
use Rattle.dwz_def_reading.specs.Files.{Limits, ReadAll, Reads, limits_after, longest_file, longest_files, no_files_before}
use Rattle.dwz_def_tops.specs.Lists.{Nth}
use Rattle.dwz_outside.specs.Store.{Store, got, most_got}
use Rattle.dwz_words.specs.Asked.{behind, common_read, first_given, names_got, names_of_places}
use Rattle.dwz_words.specs.Conditions.{FitTogether}
use Rattle.dwz_words.proofs.Fits.{no_sup}
use Rattle.dwz_words.specs.declared.options.Options.{Options}
use Rattle.dwz_run_course.specs.Gets.{content_is_too_long, gets}

-- of the files before so many bytes were got, and so many may still come
abbrev Left : Limits → ℕ → Type 0
Left l before = l.bytes + before ≡ 2 ^ 29

left_first : Left no_files_before 0
unfolding longest_files
left_first = refl

-- what reads isn't too long
not_long : (l : Limits) (before : ℕ) (bytes : List ℕ) (raw : List RawUnit) (doc : Doc ℕ) → Left l before → Reads l bytes raw doc → content_is_too_long before bytes ≡ false
unfolding longest_file
not_long l before bytes raw doc left reads = by (content_is_too_long before bytes) refl where
  by : (b : Bool) → content_is_too_long before bytes ≡ b → b ≡ false
  by false e = refl
  by true e =
      let file = reads.size.file in
      let files = reads.size.files in
      absurd (elim (or_cases (nat_lt (2 ^ 28) (length bytes)) (nat_lt (2 ^ 29) (before + length bytes)) e) [
        | inl a ↦ (let long = ltb-true (2 ^ 28) (length bytes) a in omega (arith, long, file))
        | inr b ↦ (let long = ltb-true (2 ^ 29) (before + length bytes) b in omega (arith, long, files, left))
      ])

left_after : (l : Limits) (before : ℕ) (bytes : List ℕ) (raw : List RawUnit) (doc : Doc ℕ) → Left l before → Reads l bytes raw doc → Left (limits_after l bytes raw) (before + length bytes)
left_after l before bytes raw doc left reads = let files = reads.size.files in omega (arith, left, files)

short : {n : ℕ} → n ≤ longest_file → n ≤ 2 ^ 28
unfolding longest_file
short h = h

-- a content that reads is all that was held
all_got : (o : Option (List ℕ)) (content : List ℕ) → length content ≤ 2 ^ 28 → option_map (take most_got) o ≡ Some content → o ≡ Some content
unfolding most_got
all_got None content short e = absurd cc
all_got (Some held) content short e =
    let same : take (2 ^ 28 + 1) held ≡ content = cc in
    let few : length held ≤ 2 ^ 28 + 1 = omega (arith, short, ap length same, length-take (2 ^ 28 + 1) held) in
    let whole : take (2 ^ 28 + 1) held ≡ held = take_all (2 ^ 28 + 1) held few in
    ap (λ (w : List ℕ). Some w) (sym whole ∙ same)

record HeldAt (store : Store) (s n : ℕ) (contents : List (List ℕ)) (name : List ℕ) : Type 0 where
  index : ℕ
  is_index : n ≡ s + index
  held : store name ≡ Some (get_or contents index [])

-- what the first get gave
record Next (store : Store) (before : ℕ) (name : List ℕ) (names contents : List (List ℕ)) : Type 0 where
  first : List ℕ
  rest : List (List ℕ)
  got_is : got store name ≡ Some first
  contents_are : contents ≡ first ∷ rest
  later : content_is_too_long before first ≡ false → gets store (before + length first) names ≡ Some rest

next_by : (store : Store) (before : ℕ) (name : List ℕ) (names contents : List (List ℕ)) (o : Option (List ℕ)) → got store name ≡ o
    → option_and_then (λ content. if content_is_too_long before content then Some (content ∷ []) else option_map (λ rest. content ∷ rest) (gets store (before + length content) names)) o ≡ Some
    contents
    → Next store before name names contents
next_by store before name names contents None e is = absurd cc
next_by store before name names contents (Some c) e is = by (content_is_too_long before c) (gets store (before + length c) names) refl refl is where
  by : (b : Bool) (g : Option (List (List ℕ))) → content_is_too_long before c ≡ b → gets store (before + length c) names ≡ g → cond b (Some (c ∷ [])) (option_map (λ rest. c ∷ rest) g) ≡ Some contents
      → Next store before name names contents
  by true g long more same = record {
    first = c;
    rest = [];
    got_is = e;
    contents_are = let z : contents ≡ c ∷ [] = cc in z;
    later = λ short. absurd (let z : true ≡ false = sym long ∙ short in cc);
  }
  by false None long more same = absurd cc
  by false (Some rest) long more same = record {
    first = c;
    rest = rest;
    got_is = e;
    contents_are = let z : contents ≡ c ∷ rest = cc in z;
    later = λ short. more;
  }

held_at : (store : Store) (names : List (List ℕ)) (before : ℕ) (contents : List (List ℕ)) (l : Limits) (docs : List (Doc ℕ)) → gets store before names ≡ Some contents → Left l before
    → ReadAll l contents docs
    → (s n : ℕ) (name : List ℕ) → Nth s names n name → HeldAt store s n contents name
held_at store [] before contents l docs is left read s n name nth = absurd nth
held_at store (x ∷ names) before contents l docs is left read s n name nth =
    let next = next_by store before x names contents (got store x) refl is in
    subst (λ (cs : List (List ℕ)). HeldAt store s n cs name) (sym next.contents_are)
    (by next.first next.rest next.got_is next.later (λ more m d gs lf ra. held_at store names more next.rest m d gs lf ra (suc s) n name) docs (subst (λ (cs : List
    (List ℕ)). ReadAll l cs docs) next.contents_are read) nth) where
      by : (first : List ℕ) (rest : List (List ℕ)) → got store x ≡ Some first → (content_is_too_long before first ≡ false → gets store (before + length first) names ≡ Some rest)
          → ((more : ℕ) (m : Limits) (d : List (Doc ℕ)) → gets store more names ≡ Some rest → Left m more → ReadAll m rest d → Nth (suc s) names n name → HeldAt store (suc s) n rest name)
          → (docs : List (Doc ℕ)) → ReadAll l (first ∷ rest) docs → Nth s (x ∷ names) n name → HeldAt store s n (first ∷ rest) name
      by first rest got_is later go [] read nth = absurd read
      by first rest got_is later go (doc ∷ docs) read (inl e) =
          let file = read.1.size.file in
          record {
            index = 0;
            is_index = let same = e.0 in omega (arith, same);
            held = subst (λ (w : List ℕ). store w ≡ Some first) e.1 (all_got (store x) first (short file) got_is);
          }
      by first rest got_is later go (doc ∷ docs) read (inr r) =
          let o = go (before + length first) (limits_after l first read.0) docs (later (not_long l before first read.0 doc left read.1)) (left_after l before first read.0 doc left read.1) read.2 r in
          let at = o.is_index in
          record { index = suc o.index; is_index = omega (arith, at); held = o.held }

-- each FILE holds what was read of it
pub are_held : (store : Store) (names contents : List (List ℕ)) (docs : List (Doc ℕ)) → gets store 0 names ≡ Some contents → ReadAll no_files_before contents docs
    → (n : ℕ) (name : List ℕ) → Nth 0 names n name → store name ≡ Some (get_or contents n [])
are_held store names contents docs is read n name nth =
    let o = held_at store names 0 contents no_files_before docs is left_first read 0 n name nth in
    let at = o.is_index in
    let index : o.index ≡ n = omega (arith, at) in
    subst (λ (k : ℕ). store name ≡ Some (get_or contents k [])) index o.held

-- files that are slimmed are got by their names
pub got_files : (o : Options) → FitTogether o → o.explain ≡ false → o.check ≡ false → o.expand ≡ false → o.reuse ≡ None → o.batch ≡ None → names_got o ≡ o.files
got_files o fit slims no_check alone new none = ap (λ (b : Bool). behind (common_read o) (if b then names_of_places o.files else o.files)) slims
    ∙ ap (λ (sup : Option (List ℕ)). behind (first_given sup (first_given o.reuse o.batch)) o.files) (no_sup o fit no_check alone)
    ∙ ap (λ (reuse : Option (List ℕ)). behind (first_given reuse o.batch) o.files) new
    ∙ ap (λ (batch : Option (List ℕ)). behind batch o.files) none
