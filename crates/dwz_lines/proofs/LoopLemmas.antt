-- One turn of a loop over so many items, or over the items of a list.
use Rattle.std.proofs.Common.{◌≡◌, ℕ, suc, ◌+◌, ◌-◌, ◌<◌, ◌≤◌, Bool, true, false, cond, eqb, List, [], ◌∷◌, ◌++◌, length, map, drop, get_or, Option, Some, None, Result, Ok, refl, sym, ap, ◌∙◌}
use Rattle.std.proofs.Common.{append_assoc, arith}
use Rattle.std.specs.Prelude.{◌||◌}
use Rattle.std.proofs.lemmas.List.{append-nil, at_drop_all, at_drop_more, map-append}
use Rattle.dwz_bytes.specs.declared.error.ByteErr.{ByteErr}
use Rattle.dwz_bytes.specs.Input.{Input}
use Rattle.dwz_bytes.specs.Reading.{fixed_at}
use Rattle.dwz_def_reading.specs.Rows.{has}
use Rattle.dwz_def_reading.specs.LineTables.{names_strs}
use Rattle.dwz_lines.specs.declared.formats.Format.{Format}
use Rattle.dwz_lines.specs.Reading.{after_one, bind, format_in, formats_in, sure, times_in, with_one}
use Rattle.dwz_lines.specs.Views.{format_view, format_views}

-- ---- a look through a list

pub found_has : (form : ℕ) (forms : List ℕ) (i : ℕ) → i < length forms → eqb (get_or forms i 0) form ≡ true → has form (drop i forms) ≡ true
unfolding has
found_has form forms i lt is = at_drop_more (has form) forms i 0 lt ∙ ap (λ (b : Bool). cond b true (has form (drop (i + 1) forms))) is

pub other_has : (form : ℕ) (forms : List ℕ) (i : ℕ) → i < length forms → eqb (get_or forms i 0) form ≡ false → has form (drop i forms) ≡ has form (drop (i + 1) forms)
unfolding has
other_has form forms i lt is = at_drop_more (has form) forms i 0 lt ∙ ap (λ (b : Bool). cond b true (has form (drop (i + 1) forms))) is

pub none_has : (form : ℕ) (forms : List ℕ) (i : ℕ) → length forms ≤ i → has form (drop i forms) ≡ false
unfolding has
none_has form forms i le = at_drop_all (has form) forms i le

abbrev strs_in : List Format → Bool
strs_in formats = names_strs (format_views formats)

pub found_strs : (formats : List Format) (i : ℕ) (f : Format) → i < length formats → f ≡ get_or formats i f → eqb f.form 0x0e ≡ true → names_strs (format_views (drop i formats)) ≡ true
found_strs formats i f lt same is =
    at_drop_more strs_in formats i f lt
    ∙ ap (λ (g : Format). eqb g.form 0x0e || strs_in (drop (i + 1) formats)) (sym same)
    ∙ ap (λ (b : Bool). b || strs_in (drop (i + 1) formats)) is

pub other_strs : (formats : List Format) (i : ℕ) (f : Format) → i < length formats → f ≡ get_or formats i f → eqb f.form 0x0e ≡ false
    → names_strs (format_views (drop i formats)) ≡ names_strs (format_views (drop (i + 1) formats))
other_strs formats i f lt same is =
    at_drop_more strs_in formats i f lt
    ∙ ap (λ (g : Format). eqb g.form 0x0e || strs_in (drop (i + 1) formats)) (sym same)
    ∙ ap (λ (b : Bool). b || strs_in (drop (i + 1) formats)) is

-- ---- so many items

abbrev pub with_those : {X Y : Type 0} → (X → Y) → List Y → List X × Input → Option (List Y × Input)
with_those f ys r = Some (ys ++ map f r.0, r.1)

-- these, and what so many from an input give
abbrev pub times_into : {X Y : Type 0} → (X → Y) → (Input → Option (X × Input)) → List Y → ℕ → Input → Option (List Y × Input)
times_into f item ys n i = bind (times_in item n i) (with_those f ys)

map_same : {X : Type 0} (xs : List X) → map (λ x. x) xs ≡ xs
map_same [] = refl
map_same {X} (x ∷ xs) = ap (λ (w : List X). x ∷ w) (map_same xs)

pub as_they_are : {X : Type 0} (item : Input → Option (X × Input)) (n : ℕ) (i : Input) → times_into (λ x. x) item [] n i ≡ times_in item n i
as_they_are {X} item n i = by (times_in item n i) where
  by : (o : Option (List X × Input)) → bind o (with_those (λ x. x) []) ≡ o
  by None = refl
  by (Some y) = ap (λ (w : List X). Some (w, y.1)) (map_same y.0)

pub counted_down : (n k : ℕ) → k < n → n - k ≡ suc (n - (k + 1))
counted_down n k lt = omega (arith, lt)

module _ {X Y : Type 0} (f : X → Y) (item : Input → Option (X × Input)) (ys : List Y) (n k : ℕ) (i : Input) (lt : k < n) where
  begins : times_into f item ys (n - k) i ≡ bind (bind (item i) (after_one (times_in item (n - (k + 1))))) (with_those f ys)
  unfolding times_in
  begins = ap (λ (m : ℕ). times_into f item ys m i) (counted_down n k lt)

  pub one_read : (x : X) (j : Input) → item i ≡ Some (x, j) → times_into f item ys (n - k) i ≡ times_into f item (ys ++ f x ∷ []) (n - (k + 1)) j
  one_read x j is = begins ∙ ap (λ (o : Option (X × Input)). bind (bind o (after_one (times_in item (n - (k + 1))))) (with_those f ys)) is ∙ by (times_in item (n - (k + 1)) j) where
    by : (o : Option (List X × Input)) → bind (bind o (with_one x)) (with_those f ys) ≡ bind o (with_those f (ys ++ f x ∷ []))
    by None = refl
    by (Some r) = ap (λ (w : List Y). Some (w, r.1)) (sym (append_assoc ys (f x ∷ []) (map f r.0)))

  pub none_read : item i ≡ None → times_into f item ys (n - k) i ≡ None
  none_read is = begins ∙ ap (λ (o : Option (X × Input)). bind (bind o (after_one (times_in item (n - (k + 1))))) (with_those f ys)) is

pub all_read : {X Y : Type 0} (f : X → Y) (item : Input → Option (X × Input)) (ys : List Y) (n k : ℕ) (i : Input) → n ≤ k → times_into f item ys (n - k) i ≡ Some (ys, i)
unfolding times_in
all_read {X} {Y} f item ys n k i le = let none : n - k ≡ 0 = omega (arith, le) in ap (λ (m : ℕ). times_into f item ys m i) none ∙ ap (λ (w : List Y). Some (w, i)) (append-nil ys)

-- ---- formats

pub formats_counted : (i j : Input) (n : ℕ) → fixed_at 1 i ≡ Ok (n, j) → formats_in i ≡ times_into (λ x. x) format_in [] n j
unfolding formats_in
formats_counted i j n is = ap (λ (r : Result (ℕ × Input) ByteErr). bind (sure r) (λ n. times_in format_in n.0 n.1)) is ∙ sym (as_they_are format_in n j)

pub views_more : (formats : List Format) (f : Format) → format_views (formats ++ f ∷ []) ≡ format_views formats ++ format_view f ∷ []
views_more formats f = map-append format_view formats (f ∷ [])
