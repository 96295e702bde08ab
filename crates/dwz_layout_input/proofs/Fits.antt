-- What files that were read give.
use Rattle.std.proofs.Common.{◌≡◌, ℕ, zero, suc, ◌<◌, ◌^◌, All, List, [], ◌∷◌, length, get_or, Ok, refl, sym, subst, ◌∙◌, arith}
use Rattle.dwz_def_reading.specs.Units.{entries_in}
use Rattle.dwz_def_reading.specs.Documents.{Doc}
use Rattle.dwz_def_reading.specs.Files.{Limits, files_meaning, limits_after, no_files_before}
use Rattle.dwz_def_reading.proofs.UnitMeans.{no_files}
use Rattle.dwz_def_tops.specs.Seen.{IsPartial}
use Rattle.dwz_def_reading.specs.Lists.{Each}
use Rattle.dwz_graph.specs.declared.file.File.{File}
use Rattle.dwz_graph.specs.Files.{AreKept, AreRead, docs_of}
use Rattle.dwz_graph.proofs.GraphLemmas.{as_many, files_read}
use Rattle.dwz_graph.specs.Index.{Index}
use Rattle.dwz_graph.proofs.TopNameLemmas.{read_whole}
use Rattle.dwz_graph.specs.Indexed.{AreIndexes}
use Rattle.dwz_graph.proofs.FileCounts.{are_many}
use Rattle.dwz_graph.proofs.FileEntries.{all_entries}
use Rattle.dwz_graph.proofs.FileWalk.{first_doc, is_among}
use Rattle.dwz_graph.proofs.FilesFew.{all_small}
use Rattle.dwz_graph.specs.EntryCounts.{tops_from}
use Rattle.dwz_layout_numbers.specs.Whole.{AreWhole}
use Rattle.dwz_layout_numbers.proofs.WholeLemmas.{all_inside, top_entries}
use Rattle.dwz_plan.specs.Planned.{Planned}
use Rattle.dwz_unit.specs.Rows.{units_of as raw_units}
use Rattle.dwz_layout_input.specs.ListedLaws.{FitLaw, MadeLaw}
use Rattle.dwz_layout_input.specs.Needs.{IsFit}

are_whole : (l : Limits) (n : ℕ) (contents : List (List ℕ)) (files : List File) (end : Limits) (ds : List (Doc ℕ)) → AreRead l n contents files end → files_meaning l n contents ≡ Ok ds → AreWhole ds
are_whole l n [] [] end ds h m = subst AreWhole (no_files l n ds m) tt
are_whole l n [] (y ∷ files) end ds h m = absurd h
are_whole l n (b ∷ contents) [] end ds h m = absurd h
are_whole l n (b ∷ contents) (y ∷ files) end ds h m =
    let r = first_doc l n b contents y ds h.0 m in
    let own : Each (λ u. IsPartial u.kind → ⊥) h.0.doc.units = read_whole l b (raw_units y.units) h.0.doc h.0.means in
    let more : AreWhole r.0 = are_whole (limits_after l b (raw_units y.units)) (suc n) contents files end r.0 h.1 r.1 in
    let all : AreWhole (h.0.doc ∷ r.0) = (own, more) in
    subst AreWhole r.2 all

pub whole : (contents : List (List ℕ)) (files : List File) → AreKept contents files → AreWhole (docs_of contents)
whole contents files kept = are_whole no_files_before 0 contents files kept.end (docs_of contents) kept.are (files_read contents files kept.end kept.are)

below_one : (n x : ℕ) (xs : List ℕ) → x < n → All (λ i. i < n) xs → (k d : ℕ) → k < length (x ∷ xs) → get_or (x ∷ xs) k d < n
below_one n x xs first rest zero d lt = first
below_one n x xs first rest (suc k) d lt = rest k d (omega arith)

below_all : (n : ℕ) (xs : List ℕ) → Each (λ i. i < n) xs → All (λ i. i < n) xs
below_all n [] h = λ k d lt. absurd (omega arith)
below_all n (x ∷ xs) h = below_one n x xs h.0 (below_all n xs h.1)

-- for a plan of so many tops
pub fit_by : (contents : List (List ℕ)) (files : List File) (indexes : List Index) (plan : Planned) (count : ℕ) → AreKept contents files → AreIndexes (docs_of contents) indexes
    → length contents < 2 ^ 32 → length plan.homes ≡ count → length plan.stand_ins ≡ count → IsFit files indexes plan count
fit_by contents files indexes plan count kept is few homes stands =
    let many = are_many contents files indexes kept is in
    let long = as_many no_files_before 0 contents files kept.end kept.are in
    let small = all_small contents files indexes kept is in
    let none = whole contents files kept in
    let few_entries = small.entries in
    record {
      many = many.1 ∙ sym many.0;
      few_files = omega arith;
      few = omega arith;
      each = λ n x index got there. (
          let a = is_among contents files indexes n x index kept is got there in
          let len = all_entries contents n a.bytes x index a.is in
          record {
            len = len;
            inside = subst (λ (m : ℕ). All (λ i. i < m) x.resolved.refs.items) (sym len) (below_all (entries_in (raw_units x.units)) x.resolved.refs.items a.is.kept.read.within);
          });
      tops = all_inside (docs_of contents) indexes is none;
      homes = homes;
      stand_ins = stands;
    }

pub fit : FitLaw
fit contents files indexes plan kept is few homes stands =
    let tops = top_entries (docs_of contents) indexes is (whole contents files kept) in
    fit_by contents files indexes plan (length (tops_from 0 indexes)) kept is few (homes ∙ sym tops.many) (stands ∙ sym tops.many)

pub made : MadeLaw
made beside f numbers h parts olds commons = record {
  files_are = refl;
  indexes_are = refl;
  plan_is = refl;
  parts_are = parts;
  olds_are = olds;
  commons_are = commons;
  indexed = h.indexed;
  whole = whole f.contents f.files h.kept;
  images = h.images;
}
