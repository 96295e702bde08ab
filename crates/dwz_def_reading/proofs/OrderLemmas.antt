-- The declarations of a table by ascending code.
use Rattle.std.proofs.Common.{◌≡◌, ◌≢◌, ℕ, zero, suc, ◌<◌, List, [], ◌∷◌, Option, Some, refl, sym, ap, ◌∙◌, Bool, true, false, eqb, ltb, cond, arith}
use Rattle.std.specs.Prelude.{All, AllPairs}
use Rattle.std.proofs.lemmas.Bool.{eqb-true, le-ltb, ltb-false, ltb-true}
use Rattle.std.proofs.lemmas.List.Elements.{All-cons, All-head, All-nil, All-tail, All-weaker}
use Rattle.std.proofs.lemmas.List.Kept.{AllPairs-cons}
use Rattle.dwz_def_reading.specs.Abbrevs.{Declaration, FitsDeclaration, FitsTable, by_code, find_decl, insert_decl}

abbrev Below : Declaration → Declaration → Type 0
Below d e = d.code < e.code

abbrev Differ : Declaration → Declaration → Type 0
Differ d e = d.code ≢ e.code

abbrev DiffersFrom : Declaration → Declaration → Type 0
DiffersFrom d e = e.code ≢ d.code

module _ {X : Type 0} (R : X → X → Type 0) where
  pub AllPairs-first : (x : X) (xs : List X) → AllPairs R (x ∷ xs) → All (R x) xs
  AllPairs-first x xs all = λ k d lt. all zero (suc k) d (omega arith) (omega (arith, lt))

  pub AllPairs-behind : (x : X) (xs : List X) → AllPairs R (x ∷ xs) → AllPairs R xs
  AllPairs-behind x xs all = λ i j d less lt. all (suc i) (suc j) d (omega (arith, less)) (omega (arith, lt))

  AllPairs-none : AllPairs R []
  AllPairs-none = λ i j d less lt. absurd (omega (arith, lt))

module _ (P : Declaration → Type 0) where
  All-insert : (table : List Declaration) (d : Declaration) → P d → All P table → All P (insert_decl d table)
  All-insert [] d here all = All-cons P d [] here all
  All-insert (e ∷ table) d here all = go (All-insert table d here (All-tail P e table all)) (ltb e.code d.code) where
    go : All P (insert_decl d table) → (test : Bool) → All P (cond test (e ∷ insert_decl d table) (d ∷ e ∷ table))
    go below true = All-cons P e (insert_decl d table) (All-head P e table all) below
    go below false = All-cons P d (e ∷ table) here all

  pub All-by_code : (table : List Declaration) → All P table → All P (by_code table)
  unfolding by_code
  All-by_code [] all = all
  All-by_code (d ∷ table) all = All-insert (by_code table) d (All-head P d table all) (All-by_code table (All-tail P d table all))

-- ---- codes ascend

insert-ascends : (table : List Declaration) (d : Declaration) → All (λ e. d.code ≢ e.code) table → AllPairs Below table → AllPairs Below (insert_decl d table)
insert-ascends [] d others all = AllPairs-cons Below d [] (All-nil (Below d)) (AllPairs-none Below)
insert-ascends (e ∷ table) d others all = go (insert-ascends table d (All-tail (Differ d) e table others) (AllPairs-behind Below e table all)) (ltb e.code d.code) refl where
  go : AllPairs Below (insert_decl d table) → (test : Bool) → ltb e.code d.code ≡ test → AllPairs Below (cond test (e ∷ insert_decl d table) (d ∷ e ∷ table))
  go below true less = AllPairs-cons Below e (insert_decl d table) (All-insert (Below e) table d (ltb-true e.code d.code less) (AllPairs-first Below e table all)) below
  go below false less =
      let here : d.code < e.code = omega (arith, ltb-false e.code d.code less, All-head (Differ d) e table others) in
      AllPairs-cons Below d (e ∷ table) (All-cons (Below d) e table here (All-weaker (Below e) (Below d) (λ f lt. omega (arith, here, lt)) table (AllPairs-first Below e table all))) all

ascends : (table : List Declaration) → AllPairs Differ table → AllPairs Below (by_code table)
unfolding by_code
ascends [] all = AllPairs-none Below
ascends (d ∷ table) all = insert-ascends (by_code table) d (All-by_code (λ e. d.code ≢ e.code) table (AllPairs-first Differ d table all)) (ascends table (AllPairs-behind Differ d table all))

pub by_code-ascends : (table : List Declaration) → FitsTable table → AllPairs Below (by_code table)
by_code-ascends table fits = ascends table fits.different

pub by_code-fits : (table : List Declaration) → FitsTable table → FitsTable (by_code table)
by_code-fits table fits =
    let up = by_code-ascends table fits in
    record {
      each = All-by_code FitsDeclaration table fits.each;
      different = λ i j d less lt same. omega (arith, up i j d less lt, same);
    }

-- ---- each code leads where it did

swapped : (d e : Declaration) (code : ℕ) (o : Option Declaration) → (e.code ≡ d.code → ⊥) → cond (eqb e.code code) (Some e) (cond (eqb d.code code) (Some d) o)
    ≡ cond (eqb d.code code) (Some d) (cond (eqb e.code code) (Some e) o)
swapped d e code o other = go (eqb e.code code) (eqb d.code code) refl refl where
  go : (p q : Bool) → eqb e.code code ≡ p → eqb d.code code ≡ q → cond p (Some e) (cond q (Some d) o) ≡ cond q (Some d) (cond p (Some e) o)
  go true true here there = absurd (other (eqb-true e.code code here ∙ sym (eqb-true d.code code there)))
  go true false here there = refl
  go false true here there = refl
  go false false here there = refl

insert-find : (table : List Declaration) (d : Declaration) (code : ℕ) → All (λ e. e.code ≢ d.code) table → find_decl (insert_decl d table) code ≡ find_decl (d ∷ table) code
insert-find [] d code others = refl
insert-find (e ∷ table) d code others = go (insert-find table d code (All-tail (DiffersFrom d) e table others)) (ltb e.code d.code) where
  go : find_decl (insert_decl d table) code ≡ find_decl (d ∷ table) code → (test : Bool) → find_decl (cond test (e ∷ insert_decl d table) (d ∷ e ∷ table)) code ≡ find_decl (d ∷ e ∷ table) code
  go below true = ap (cond (eqb e.code code) (Some e)) below ∙ swapped d e code (find_decl table code) (All-head (DiffersFrom d) e table others)
  go below false = refl

find-same : (table : List Declaration) (code : ℕ) → AllPairs Differ table → find_decl (by_code table) code ≡ find_decl table code
unfolding by_code
find-same [] code all = refl
find-same (d ∷ table) code all =
    let others = All-weaker (λ e. d.code ≢ e.code) (λ e. e.code ≢ d.code) (λ e ne same. ne (sym same)) table (AllPairs-first Differ d table all) in
    insert-find (by_code table) d code (All-by_code (λ e. e.code ≢ d.code) table others) ∙ ap (cond (eqb d.code code) (Some d)) (find-same table code (AllPairs-behind Differ d table all))

pub by_code-find : (table : List Declaration) (code : ℕ) → FitsTable table → find_decl (by_code table) code ≡ find_decl table code
by_code-find table code fits = find-same table code fits.different

-- ---- what ascends stays

insert-first : (table : List Declaration) (d : Declaration) → All (Below d) table → insert_decl d table ≡ d ∷ table
insert-first [] d all = refl
insert-first (e ∷ table) d all =
    let no : ltb e.code d.code ≡ false = le-ltb e.code d.code (omega (arith, All-head (Below d) e table all)) in
    ap (λ (b : Bool). cond b (e ∷ insert_decl d table) (d ∷ e ∷ table)) no

pub by_code-kept : (table : List Declaration) → AllPairs Below table → by_code table ≡ table
unfolding by_code
by_code-kept [] all = refl
by_code-kept (d ∷ table) all = ap (insert_decl d) (by_code-kept table (AllPairs-behind Below d table all)) ∙ insert-first table d (AllPairs-first Below d table all)
