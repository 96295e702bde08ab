-- Where codes lead.
use Rattle.std.proofs.Common.{◌≡◌, ◌≢◌, ℕ, zero, suc, ◌+◌, ◌-◌, ◌<◌, ◌≤◌, List, [], ◌∷◌, ◌++◌, length, take, Option, Some, None, refl, sym, ap, subst, ◌∙◌, Bool, true, false, eqb, ltb, cond, ◌||◌, arith, inl, inr}
use Rattle.std.specs.List.{slice_get}
use Rattle.std.specs.Option.{option_and_then, option_map}
use Rattle.std.specs.Ordering.{is_eq, nat_cmp}
use Rattle.std.specs.BTreeMap.{BTreeMap, Updates, get}
use Rattle.std.proofs.lemmas.Option.{slice_get_within}
use Rattle.std.proofs.lemmas.List.{length-map, map_push, take-append-le, take_all}
use Rattle.std.proofs.lemmas.Bool.Decides.{nat_tests}
use Rattle.std.proofs.lemmas.Bool.{cases_eq, eq-eqb, eqb-true, le-ltb, lt-ltb, ltb-false, ltb-true, ne_eqb}
use Rattle.dwz_def_reading.specs.Abbrevs.{Declaration, find_decl}
use Rattle.dwz_def_reading.proofs.CaseFacts.{same_number}
use Rattle.dwz_abbrev.specs.declared.decl.Decl.{Decl}
use Rattle.dwz_abbrev.specs.Views.{decl_view, views}
use Rattle.dwz_abbrev.specs.declared.codes.Codes.{Codes}
use Rattle.dwz_abbrev.specs.Places.{Leads, codes_of, place_in, place_of}

pub slice_get_old : {X : Type 0} (xs : List X) (x : X) (i : ℕ) → (i ≡ length xs → ⊥) → slice_get (xs ++ x ∷ []) i ≡ slice_get xs i
slice_get_old [] x zero ne = absurd (ne refl)
slice_get_old [] x (suc i) ne = refl
slice_get_old (y ∷ xs) x zero ne = refl
slice_get_old (y ∷ xs) x (suc i) ne = slice_get_old xs x i (λ same. ne (omega (arith, same)))

-- ---- the place of a code among others and one more

pub none_suc : (o : Option ℕ) → option_map (λ n. suc n) o ≡ None → o ≡ None
none_suc None is = refl
none_suc (Some n) is = absurd cc

place_old : (codes : List ℕ) (c code : ℕ) → (c ≡ code → ⊥) → place_of (codes ++ c ∷ []) code ≡ place_of codes code
place_old [] c code ne = let no : eqb c code ≡ false = ne_eqb c code ne in ap (λ (b : Bool). cond b (Some 0) None) no
place_old (e ∷ codes) c code ne = ap (λ (o : Option ℕ). cond (eqb e code) (Some 0) (option_map (λ n. suc n) o)) (place_old codes c code ne)

place_last : (codes : List ℕ) (c : ℕ) → place_of codes c ≡ None → place_of (codes ++ c ∷ []) c ≡ Some (length codes)
place_last [] c none = let yes : eqb c c ≡ true = eq-eqb c c refl in ap (λ (b : Bool). cond b (Some 0) None) yes
place_last (e ∷ codes) c none = go (place_last codes c) (eqb e c) none where
  go : (place_of codes c ≡ None → place_of (codes ++ c ∷ []) c ≡ Some (length codes)) → (test : Bool) → cond test (Some 0) (option_map (λ n. suc n) (place_of codes c)) ≡ None
      → cond test (Some 0) (option_map (λ n. suc n) (place_of (codes ++ c ∷ []) c)) ≡ Some (suc (length codes))
  go below true is = absurd cc
  go below false is = ap (option_map (λ n. suc n)) (below (none_suc (place_of codes c) is))

-- ---- a place that is stored

pub got_new : (old new : BTreeMap ℕ ℕ) (code place : ℕ) → Updates nat_cmp old new code (Some place) → get nat_cmp new code ≡ Some place
got_new old new code place updates =
    let same : is_eq (nat_cmp code code) ≡ true = grind (arith, nat_tests) in
    updates.0 code ∙ ap (λ (b : Bool). cond b (Some place) (get nat_cmp old code)) same

pub got_old : (old new : BTreeMap ℕ ℕ) (code place q : ℕ) → Updates nat_cmp old new code (Some place) → q ≢ code → get nat_cmp new q ≡ get nat_cmp old q
got_old old new code place q updates other = updates.0 q ∙ go (is_eq (nat_cmp code q)) refl where
  go : (test : Bool) → is_eq (nat_cmp code q) ≡ test → cond test (Some place) (get nat_cmp old q) ≡ get nat_cmp old q
  go true is = absurd (other (sym (same_number code q is)))
  go false is = refl

-- ---- a code that is pushed

-- whether a code follows from its place
follows : (counted code : ℕ) → code ≢ 0 → code ≤ counted → (eqb code 0 || ltb counted code) ≡ false
follows counted code some le = let no = ne_eqb code 0 some in let within = le-ltb counted code le in rw (no, within) refl

stored : (counted code : ℕ) → counted < code → (eqb code 0 || ltb counted code) ≡ true
stored counted code lt = let no = ne_eqb code 0 (λ zero_code. omega (arith, zero_code, lt)) in let past = lt-ltb counted code lt in rw (no, past) refl

same_test : (counted code : ℕ) → (code ≡ counted + 1 → ⊥) → (eqb code 0 || ltb (counted + 1) code) ≡ (eqb code 0 || ltb counted code)
same_test counted code other = go (ltb counted code) refl where
  go : (past : Bool) → ltb counted code ≡ past → (eqb code 0 || ltb (counted + 1) code) ≡ (eqb code 0 || past)
  go true is =
      let above = ltb-true counted code is in
      let past : ltb (counted + 1) code ≡ true = elim (cases_eq code (counted + 1)) [ inl same ↦ absurd (other same) | inr ne ↦ lt-ltb (counted + 1) code (omega (arith, above, ne)) ] in
      ap (λ (b : Bool). eqb code 0 || b) past
  go false is =
      let within = ltb-false counted code is in
      let no : ltb (counted + 1) code ≡ false = le-ltb (counted + 1) code (omega (arith, within)) in
      ap (λ (b : Bool). eqb code 0 || b) no

module _ (old : Codes) (codes : List ℕ) (code place : ℕ) (leads : Leads old codes) (at : place ≡ length codes) (is_new : place_of codes code ≡ None) where
  here : place_of (codes ++ code ∷ []) code ≡ Some place
  here = place_last codes code is_new ∙ ap (λ (n : ℕ). Some n) (sym at)

  others : (q : ℕ) → (q ≡ code → ⊥) → place_of (codes ++ code ∷ []) q ≡ place_in old q
  others q other = place_old codes code q (λ same. other (sym same)) ∙ sym (leads.found q)

  -- one that follows from its place
  pub counted_more : (new : Codes) → old.counted ≡ place → code ≡ place + 1 → new.counted ≡ place + 1 → (others : (q : ℕ) → get nat_cmp new.others q ≡ get nat_cmp old.others q) → Leads new (codes ++ code ∷ [])
  counted_more new last next more same = record {
    found = λ q.
        elim (cases_eq q code) [
          | inl is ↦
              let test : (eqb q 0 || ltb new.counted q) ≡ false = follows new.counted q (λ none. omega (arith, none, is, next)) (omega (arith, is, next, more)) in
              let one : q - 1 ≡ place = omega (arith, is, next) in
              ap (λ (b : Bool). cond b (get nat_cmp new.others q) (Some (q - 1))) test
              ∙ ap (λ (n : ℕ). Some n) one
              ∙ sym (ap (place_of (codes ++ code ∷ [])) is ∙ here)
          | inr other ↦
              let test : (eqb q 0 || ltb new.counted q) ≡ (eqb q 0 || ltb old.counted q) =
              ap (λ (n : ℕ). eqb q 0 || ltb n q) (more ∙ ap (λ (n : ℕ). n + 1) (sym last))
              ∙ same_test old.counted q (λ is. other (is ∙ ap (λ (n : ℕ). n + 1) last ∙ sym next)) in
              ap (λ (b : Bool). cond b (get nat_cmp new.others q) (Some (q - 1))) test
              ∙ ap (λ (o : Option ℕ). cond (eqb q 0 || ltb old.counted q) o (Some (q - 1))) (same q)
              ∙ sym (others q other)
        ];
  }

  -- or whose place is stored
  pub stored_more : (new : Codes) → new.counted ≡ old.counted → get nat_cmp new.others code ≡ Some place → ((q : ℕ) → q ≢ code → get nat_cmp new.others q ≡ get nat_cmp old.others q) → Leads new (codes ++ code ∷ [])
  stored_more new same there rest = record {
    found = λ q.
        elim (cases_eq q code) [
          | inl is ↦ subst (λ (k : ℕ). place_in new k ≡ place_of (codes ++ code ∷ []) k) (sym is) (found ∙ sym here)
          | inr other ↦
              ap (λ (n : ℕ). cond (eqb q 0 || ltb n q) (get nat_cmp new.others q) (Some (q - 1))) same
              ∙ ap (λ (o : Option ℕ). cond (eqb q 0 || ltb old.counted q) o (Some (q - 1))) (rest q other)
              ∙ sym (others q other)
        ];
  } where
    nowhere : place_in old code ≡ None
    nowhere = leads.found code ∙ is_new

    found : place_in new code ≡ Some place
    found = ap (λ (n : ℕ). cond (eqb code 0 || ltb n code) (get nat_cmp new.others code) (Some (code - 1))) same ∙ go (eqb code 0 || ltb old.counted code) nowhere where
      go : (test : Bool) → cond test (get nat_cmp old.others code) (Some (code - 1)) ≡ None → cond test (get nat_cmp new.others code) (Some (code - 1)) ≡ Some place
      go true is = there
      go false is = absurd cc

-- the same codes lead to the same places
pub leads_same : (old new : Codes) (codes : List ℕ) → Leads old codes → new.counted ≡ old.counted → ((q : ℕ) → get nat_cmp new.others q ≡ get nat_cmp old.others q) → Leads new codes
leads_same old new codes leads count same = record {
  found = λ q.
      ap (λ (n : ℕ). cond (eqb q 0 || ltb n q) (get nat_cmp new.others q) (Some (q - 1))) count
      ∙ ap (λ (o : Option ℕ). cond (eqb q 0 || ltb old.counted q) o (Some (q - 1))) (same q)
      ∙ leads.found q;
}

-- ---- the declaration at the place

pub find_at : (table : List Declaration) (code : ℕ) → option_and_then (slice_get table) (place_of (codes_of table) code) ≡ find_decl table code
find_at [] code = refl
find_at (d ∷ table) code = go (eqb d.code code) (find_at table code) where
  behind : (o : Option ℕ) → option_and_then (slice_get (d ∷ table)) (option_map (λ n. suc n) o) ≡ option_and_then (slice_get table) o
  behind None = refl
  behind (Some n) = refl

  go : (test : Bool) → option_and_then (slice_get table) (place_of (codes_of table) code) ≡ find_decl table code
      → option_and_then (slice_get (d ∷ table)) (cond test (Some 0) (option_map (λ n. suc n) (place_of (codes_of table) code))) ≡ cond test (Some d) (find_decl table code)
  go true below = refl
  go false below = behind (place_of (codes_of table) code) ∙ below

-- a code is the one at its place
code_behind : (c : ℕ) (codes : List ℕ) (code place : ℕ) (o : Option ℕ) → ((n : ℕ) → o ≡ Some n → slice_get codes n ≡ Some code) → option_map (λ n. suc n) o ≡ Some place
    → slice_get (c ∷ codes) place ≡ Some code
code_behind c codes code place None below at = absurd cc
code_behind c codes code place (Some n) below at =
    let next : suc n ≡ place = cc in
    subst (λ (k : ℕ). slice_get (c ∷ codes) k ≡ Some code) next (below n refl)

pub code_at : (codes : List ℕ) (code place : ℕ) → place_of codes code ≡ Some place → slice_get codes place ≡ Some code
code_at [] code place is = absurd cc
code_at (c ∷ codes) code place is = go (code_at codes code) (eqb c code) refl is where
  go : ((n : ℕ) → place_of codes code ≡ Some n → slice_get codes n ≡ Some code) → (test : Bool) → eqb c code ≡ test → cond test (Some 0) (option_map (λ n. suc n) (place_of codes code)) ≡ Some place
      → slice_get (c ∷ codes) place ≡ Some code
  go below true has at =
      let first : 0 ≡ place = cc in
      subst (λ (n : ℕ). slice_get (c ∷ codes) n ≡ Some code) first (ap (λ (n : ℕ). Some n) (eqb-true c code has))
  go below false other at = code_behind c codes code place (place_of codes code) below at

-- a code that no declaration has
pub none_of : (table : List Declaration) (code : ℕ) → find_decl table code ≡ None → place_of (codes_of table) code ≡ None
none_of [] code none = refl
none_of (d ∷ table) code none = go (none_of table code) (eqb d.code code) none where
  go : (find_decl table code ≡ None → place_of (codes_of table) code ≡ None) → (test : Bool) → cond test (Some d) (find_decl table code) ≡ None
      → cond test (Some 0) (option_map (λ n. suc n) (place_of (codes_of table) code)) ≡ None
  go below true is = absurd cc
  go below false is = ap (option_map (λ n. suc n)) (below is)

pub place_found : (codes : Codes) (table : List Declaration) (code : ℕ) → Leads codes (codes_of table) → option_and_then (slice_get table) (place_in codes code) ≡ find_decl table code
place_found codes table code leads = ap (option_and_then (slice_get table)) (leads.found code) ∙ find_at table code

-- ---- a declaration that is pushed

pub codes_length : (rows : List Decl) → length (codes_of (views rows)) ≡ length rows
codes_length rows = length-map (views rows) (λ (d : Declaration). d.code) ∙ length-map rows decl_view

pub pushed : (rows new : List Decl) (d : Decl) (codes : Codes) → new ≡ rows ++ d ∷ [] → Leads codes (codes_of (views rows) ++ d.code ∷ []) → Leads codes (codes_of (views new))
pushed rows new d codes is leads =
    let same : codes_of (views rows) ++ d.code ∷ [] ≡ codes_of (views new) =
    sym (ap (λ (ds : List Decl). codes_of (views ds)) is ∙ ap codes_of (map_push decl_view rows d) ∙ map_push (λ (e : Declaration). e.code) (views rows) (decl_view d)) in
    subst (Leads codes) same leads

-- what was pushed is taken away again
pub taken_back : {X : Type 0} (rows more new : List X) (x : X) (n : ℕ) → n ≡ length rows → more ≡ rows ++ x ∷ [] → new ≡ take n more → new ≡ rows
taken_back rows more new x n at is cut =
    cut ∙ ap (take n) is ∙ take-append-le n rows (x ∷ []) (omega (arith, at)) ∙ take_all n rows (omega (arith, at))

pub row_within : (codes : Codes) (rows : List Decl) (code place : ℕ) → Leads codes (codes_of (views rows)) → place_in codes code ≡ Some place → place < length rows
row_within codes rows code place leads is =
    omega (arith, slice_get_within (codes_of (views rows)) place code (code_at (codes_of (views rows)) code place (sym (leads.found code) ∙ is)), codes_length rows)
