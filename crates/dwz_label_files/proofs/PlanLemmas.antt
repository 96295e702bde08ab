-- Rows with least numbers join just where the tops that they show have one least alike top.
use Rattle.std.proofs.Common.{◌≡◌, ℕ, suc, ◌-◌, ◌≤◌, Bool, false, List, [], ◌∷◌, length, map, get_or, refl, sym, ap, ◌∙◌, inl, inr, arith}
use Rattle.std.proofs.lemmas.List.{length-map}
use Rattle.dwz_def_reading.specs.Lists.{In}
use Rattle.dwz_groups.specs.declared.tops.TopRow.{TopRow}
use Rattle.dwz_groups.specs.declared.tops.Tops.{Tops}
use Rattle.dwz_def_tops.specs.Alike.{Apart, Together}
use Rattle.dwz_def_tops.specs.Deciding.{AreMovable, alike_test, is_movable}
use Rattle.dwz_def_tops.specs.Spots.{EntryName, FileUnit, Top, tops_of}
use Rattle.dwz_def_tops.proofs.TopNumbers.{Numbered, tops_numbers}
use Rattle.dwz_label.specs.Nodes.{AreLeast}
use Rattle.dwz_label.proofs.LeastAlike.{alike_joined}
use Rattle.dwz_def_plan.proofs.HomeLemmas.{file_of_top}
use Rattle.dwz_plan.specs.declared.plan.Scope.TheVariants.{Each, Together as AllTogether}
use Rattle.dwz_plan.specs.Rows.{TopFacts, rows_from}
use Rattle.dwz_plan.specs.Shows.{HaveLeast, ShowsRows, ShowsTops}
use Rattle.dwz_plan.proofs.BridgeLemmas.{file_is}

abbrev flags_of : List TopRow → List Bool
flags_of rows = map (λ (row : TopRow). row.movable) rows

-- what a row says of a top, where the first row has that number
record IsRow (s : ℕ) (files : List ℕ) (flags : List Bool) (least : List ℕ) (tops : List Top) (a : TopFacts) : Type 0 where
  top : Top
  is_top : In top tops
  number : top.number ≡ a.number
  from : s ≤ a.number
  movable : a.movable ≡ get_or flags (a.number - s) false
  least_is : a.least ≡ get_or least (a.number - s) 0
  file : a.file ≡ get_or files top.unit 0

row_is : (units : List (FileUnit EntryName)) (files : List ℕ) (s : ℕ) (rows : List TopRow) (least : List ℕ) (tops : List Top) (a : TopFacts) → ShowsRows units rows tops → Numbered s tops
    → In a (rows_from files s rows least) → IsRow s files (flags_of rows) least tops a
unfolding rows_from
row_is units files s [] least tops a h c is = absurd is
row_is units files s (r ∷ rows) [] tops a h c is = absurd is
row_is units files s (r ∷ rows) (l ∷ least) [] a h c is = absurd h
row_is units files s (r ∷ rows) (l ∷ least) (t ∷ tops) a h c (inl e) =
    let here : a.number ≡ s = ap (λ (x : TopFacts). x.number) (sym e) in
    let none : a.number - s ≡ 0 = omega (arith, here) in
    record {
      top = t;
      is_top = inl refl;
      number = c.0 ∙ sym here;
      from = omega (arith, here);
      movable = ap (λ (x : TopFacts). x.movable) (sym e) ∙ ap (λ (k : ℕ). get_or (flags_of (r ∷ rows)) k false) (sym none);
      least_is = ap (λ (x : TopFacts). x.least) (sym e) ∙ ap (λ (k : ℕ). get_or (l ∷ least) k 0) (sym none);
      file = ap (λ (x : TopFacts). x.file) (sym e) ∙ ap (λ (u : ℕ). get_or files u 0) h.0.unit;
    }
row_is units files s (r ∷ rows) (l ∷ least) (t ∷ tops) a h c (inr more) =
    let w = row_is units files (suc s) rows least tops a h.1 c.1 more in
    let one : a.number - s ≡ suc (a.number - suc s) = omega (arith, w.from) in
    record {
      top = w.top;
      is_top = inr w.is_top;
      number = w.number;
      from = omega (arith, w.from);
      movable = w.movable ∙ ap (λ (k : ℕ). get_or (flags_of (r ∷ rows)) k false) (sym one);
      least_is = w.least_is ∙ ap (λ (k : ℕ). get_or (l ∷ least) k 0) (sym one);
      file = w.file;
    }

module _ (units : List (FileUnit EntryName)) (tops : Tops) (least : List ℕ) (shows : ShowsTops units tops) (flags : AreMovable units (flags_of tops.rows)) (are : AreLeast units least) where
  -- the top of a row, and what the row says of it
  record Of (a : TopFacts) : Type 0 where
    top : Top
    is_top : In top (tops_of units)
    number : top.number ≡ a.number
    movable : a.movable ≡ is_movable units top
    least_is : a.least ≡ get_or least top.number 0
    file : a.file ≡ top.file

  top_of : (a : TopFacts) → In a (rows_from tops.files_of_units 0 tops.rows least) → Of a
  top_of a is =
      let r = row_is units tops.files_of_units 0 tops.rows least (tops_of units) a shows.rows (tops_numbers units) is in
      let same : a.number - 0 ≡ r.top.number = (let e : a.number - 0 ≡ a.number = omega arith in e ∙ sym r.number) in
      record {
        top = r.top;
        is_top = r.is_top;
        number = r.number;
        movable = r.movable ∙ ap (λ (k : ℕ). get_or (flags_of tops.rows) k false) same ∙ flags.each r.top r.is_top;
        least_is = r.least_is ∙ ap (λ (k : ℕ). get_or least k 0) same;
        file = r.file ∙ ap (λ (fs : List ℕ). get_or fs r.top.unit 0) shows.files_of_units ∙ sym (file_is units r.top.unit) ∙ file_of_top units r.top r.is_top;
      }

  many : length least ≡ length tops.rows
  many = are.len ∙ sym flags.len ∙ length-map tops.rows (λ (row : TopRow). row.movable)

  pub decides_together : HaveLeast AllTogether tops least (alike_test Together units)
  decides_together = record {
    len = many;
    decides = λ a b i j. (
        let p = top_of a i in
        let q = top_of b j in
        let d = alike_joined units least are Together p.top q.top p.is_top q.is_top in
        let test : alike_test Together units p.top.number q.top.number ≡ alike_test Together units a.number b.number = (λ k. alike_test Together units (p.number k) (q.number k)) in (
          (λ e. let x = d.0 (test ∙ e) in record { first = p.movable ∙ x.first; second = q.movable ∙ x.second; scoped = tt; least = p.least_is ∙ x.same ∙ sym q.least_is }),
          (λ x. sym test ∙ d.1 (record { first = sym p.movable ∙ x.first; second = sym q.movable ∙ x.second; scoped = tt; same = sym p.least_is ∙ x.least ∙ q.least_is })),
        ));
  }

  pub decides_apart : HaveLeast Each tops least (alike_test Apart units)
  decides_apart = record {
    len = many;
    decides = λ a b i j. (
        let p = top_of a i in
        let q = top_of b j in
        let d = alike_joined units least are Apart p.top q.top p.is_top q.is_top in
        let test : alike_test Apart units p.top.number q.top.number ≡ alike_test Apart units a.number b.number = (λ k. alike_test Apart units (p.number k) (q.number k)) in (
          (λ e. let x = d.0 (test ∙ e) in record { first = p.movable ∙ x.first; second = q.movable ∙ x.second; scoped = p.file ∙ x.scoped ∙ sym q.file; least = p.least_is ∙ x.same ∙ sym q.least_is }),
          (λ x. sym test ∙ d.1 (record { first = sym p.movable ∙ x.first; second = sym q.movable ∙ x.second; scoped = sym p.file ∙ x.scoped ∙ q.file; same = sym p.least_is ∙ x.least ∙ q.least_is })),
        ));
  }
