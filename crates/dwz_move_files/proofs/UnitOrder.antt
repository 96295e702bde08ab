-- The tops of all files are in order of their units, and those of a file are of units of their own.
use Rattle.std.proofs.Common.{◌≡◌, ℕ, zero, suc, ◌+◌, ◌<◌, ◌≤◌, List, [], ◌∷◌, ◌++◌, length, Some, slice_get, sym, ap, subst, ◌∙◌, ⊎_elim, arith}
use Rattle.std.proofs.lemmas.Bool.{cases_lt}
use Rattle.std.proofs.lemmas.List.{length-append}
use Rattle.dwz_def_tops.specs.Spots.{Top, tops_of, units_of}
use Rattle.dwz_def_tops.proofs.TopNumbers.{tops_numbers}
use Rattle.dwz_def_tops.proofs.TopOrder.{InOrder, later_unit, units_rise}
use Rattle.dwz_def_reading.proofs.ListFacts.{got_below, got_in, same_got}
use Rattle.dwz_graph.specs.declared.file.File.{File}
use Rattle.dwz_graph.specs.Files.{docs_of}
use Rattle.dwz_graph.specs.declared.index.TopEntry.{TopEntry}
use Rattle.dwz_graph.specs.Index.{Index}
use Rattle.dwz_graph.proofs.TopLemmas.{get_cases, many}
use Rattle.dwz_graph.proofs.TopUnits.{numbered_at}
use Rattle.dwz_def_reading.specs.Documents.{Doc}
use Rattle.dwz_def_tops.specs.Lists.{EachPair}
use Rattle.dwz_def_reading.specs.Lists.{Each}
use Rattle.dwz_graph.specs.Across.{IsFileAmong, file_tops, file_units}
use Rattle.dwz_graph.proofs.FileEntries.{gives_top}
use Rattle.dwz_graph.proofs.TopRows.{file_many, unit_high, units_long}
use Rattle.dwz_move_files.specs.Ranges.{HaveUnits}

each_got : (P : Top → Type 0) (tops : List Top) → Each P tops → (k : ℕ) (t : Top) → slice_get tops k ≡ Some t → P t
each_got P [] h k t e = absurd cc
each_got P (x ∷ tops) h zero t e = subst P (let same : x ≡ t = cc in same) h.0
each_got P (x ∷ tops) h (suc k) t e = each_got P tops h.1 k t e

pair_got : (tops : List Top) → EachPair InOrder tops → (m n : ℕ) (s t : Top) → m < n → slice_get tops m ≡ Some s → slice_get tops n ≡ Some t → s.unit ≤ t.unit
pair_got [] h m n s t lt e f = absurd cc
pair_got (x ∷ tops) h m zero s t lt e f = absurd (omega arith)
pair_got (x ∷ tops) h zero (suc n) s t lt e f = subst (λ (w : Top). w.unit ≤ t.unit) (let same : x ≡ s = cc in same) (each_got (InOrder x) tops h.0 n t f)
pair_got (x ∷ tops) h (suc m) (suc n) s t lt e f = pair_got tops h.1 m n s t (omega arith) e f

module _ (contents : List (List ℕ)) (file : ℕ) (bytes : List ℕ) (f : File) (x : Index) (is : IsFileAmong contents file bytes f x) where
  abbrev all : List Top
  all = tops_of (units_of (docs_of contents))

  abbrev doc : Doc ℕ
  doc = is.kept.read.doc

  abbrev part : List Top
  part = file_tops x.starts file doc

  long : length x.tops ≡ length part
  long = ap (λ (w : List TopEntry). length w) is.index.tops.tops_are ∙ many x.starts 0 doc.units ∙ sym (file_many x.starts file doc)

  whole : x.starts.top + length x.tops ≤ length all
  whole =
      let len = ap (λ (w : List Top). length w) is.tops.all_are in
      let before = is.tops.many in
      let same = long in
      omega (arith, length-append is.tops.front (part ++ is.tops.back), length-append part is.tops.back)

  -- the unit of one of them
  unit_in : (k : ℕ) (e : TopEntry) → slice_get x.tops k ≡ Some e → (x.starts.unit ≤ e.unit) × (e.unit < x.starts.unit + length doc.units)
  unit_in k e got =
      let g = gives_top contents file bytes f x is k e got in
      let there = got_in part k g.top g.top_is.of_file in
      let low = later_unit x.starts.unit x.starts.top (file_units x.starts file doc) g.top there in
      let high = unit_high x.starts.unit x.starts.top (file_units x.starts file doc) g.top there in
      let len = units_long x.starts file doc in
      let same = g.top_is.unit in
      (omega arith, omega arith)

  -- a top before them or behind them
  front_top : (n : ℕ) (s : Top) → n < x.starts.top → slice_get all n ≡ Some s → s.unit < x.starts.unit
  front_top n s lt e = ⊎_elim
      (λ a. is.earlier s (got_in is.tops.front n s a))
      (λ b. absurd (let at = b.1 in let before = is.tops.many in omega arith))
      (get_cases is.tops.front (part ++ is.tops.back) n s (sym (ap (λ (w : List Top). slice_get w n) is.tops.all_are) ∙ e))

  back_top : (n : ℕ) (s : Top) → x.starts.top + length x.tops ≤ n → slice_get all n ≡ Some s → x.starts.unit + length doc.units ≤ s.unit
  back_top n s le e = ⊎_elim
      (λ a. absurd (let lt = got_below is.tops.front n s a in let before = is.tops.many in omega arith))
      (λ b. ⊎_elim
      (λ c. absurd (let lt = got_below part b.0 s c in let at = b.1 in let before = is.tops.many in let same = long in omega arith))
      (λ c. is.later s (got_in is.tops.back c.0 s c.2))
      (get_cases part is.tops.back b.0 s b.2))
      (get_cases is.tops.front (part ++ is.tops.back) n s (sym (ap (λ (w : List Top). slice_get w n) is.tops.all_are) ∙ e))

  pub have_units : HaveUnits all x.starts.top x.tops
  have_units = record {
    numbered = λ n t e. (let z = numbered_at 0 all (tops_numbers (units_of (docs_of contents))) n t e in omega arith);
    rise = λ m n s t le e q. ⊎_elim
        (λ lt. pair_got all (units_rise 0 0 (units_of (docs_of contents))) m n s t lt e q)
        (λ ge. (let same : m ≡ n = omega arith in let one : s ≡ t = same_got all n s t (subst (λ (k : ℕ). slice_get all k ≡ Some s) same e) q in subst (λ (w : Top). s.unit ≤ w.unit) one
        (omega arith)))
        (cases_lt m n);
    within = whole;
    there = λ k e t got q. (let g = gives_top contents file bytes f x is k e got in let same : g.top ≡ t = same_got all (x.starts.top + k) g.top t g.top_is.there q in ap (λ (w : Top). w.unit)
        (sym same) ∙ g.top_is.unit);
    before = λ n k s e lt q got same. (let low = (unit_in k e got).0 in let high = front_top n s lt q in omega arith);
    behind = λ n k s e le q got same. (let high = (unit_in k e got).1 in let low = back_top n s le q in omega arith);
  }
