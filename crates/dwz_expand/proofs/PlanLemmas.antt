-- Plans of the new units of files that say this.
use Rattle.std.proofs.Common.{◌≡◌, ℕ, suc, ◌^◌, ◌<◌, ◌≤◌, List, [], ◌∷◌, length, Some, None, Ok, refl, sym, ap, ◌∙◌, arith}
use Rattle.dwz_model.specs.Lists.{Each, NoneTwice}
use Rattle.dwz_model.proofs.ListFacts.{got_below}
use Rattle.dwz_def_reading.specs.Documents.{DwUnit}
use Rattle.dwz_def_reading.specs.Meanings.{Around, Common, MeanUnits}
use Rattle.dwz_def_reading.specs.Meant.{units_meaning}
use Rattle.dwz_def_reading.specs.Units.{RawUnit}
use Rattle.dwz_def_cross.specs.CrossSame.{EachTwo}
use Rattle.dwz_def_cross.specs.Tops.{WithCommon, units_with_common, whole_units}
use Rattle.dwz_graph.specs.Surroundings.{behind_own}
use Rattle.dwz_expand_sources.specs.declared.sources.NewUnit.{NewUnit}
use Rattle.dwz_expand_sources.specs.declared.sources.SourceRange.{SourceRange}
use Rattle.dwz_expand_sources.specs.Sources.{AreSources, IsNewUnit, Sources, all_entries}
use Rattle.dwz_expand_passes.specs.Files.{raw_in}
use Rattle.dwz_expand_passes.specs.Numbered.{key_in}
use Rattle.dwz_expand_passes.proofs.NumberLemmas.{numbers_law}
use Rattle.dwz_expand_sources.proofs.SourceLemmas.{have_ranges}
use Rattle.dwz_def_tops.specs.Shown.{units_keys}
use Rattle.dwz_expand.proofs.CopyBounds.{copies_few}
use Rattle.dwz_expand.specs.OneKnown.{HasUnits, KeysLaw}
use Rattle.dwz_expand.specs.declared.files.SourceFiles.{SourceFiles}

pub keys_known : KeysLaw
keys_known w u p n is = ap (key_in w) is.counts ∙ numbers_law w u p is.before is.stands

-- as many units are said as there are
pub mean_many : (around : Around ℕ) (raw : List RawUnit) (units : List (DwUnit ℕ)) → MeanUnits around raw units → length units ≡ length raw
mean_many around [] [] h = refl
mean_many around [] (v ∷ units) h = absurd h
mean_many around (u ∷ raw) [] h = absurd h
mean_many around (u ∷ raw) (v ∷ units) h = ap suc (mean_many around raw units h.1)

module _ (w : WithCommon ℕ) (ranges : List SourceRange) (n : ℕ) (many : length w.own ≡ n) where
  new_units : (xs : List NewUnit) (us : List (DwUnit ℕ)) → EachTwo (IsNewUnit w ranges) xs us → Each (λ x. x.unit < n) xs
  new_units [] [] h = tt
  new_units [] (u ∷ us) h = absurd h
  new_units (x ∷ xs) [] h = absurd h
  new_units (x ∷ xs) (u ∷ us) h = (let lt : x.unit < length w.own = got_below w.own x.unit u h.0.unit in (omega (arith, lt, many), new_units xs us h.1))

pub has_units : (s : SourceFiles) (w : WithCommon ℕ) → length w.own ≡ length (raw_in s.own) → NoneTwice (units_keys (units_with_common w)) → length (all_entries w) ≤ 2 ^ 29 → length w.own ≤ 2 ^ 29
    → (x : Sources) → AreSources w x → HasUnits s x
has_units s w many apart few own x are = record {
  units = new_units w x.ranges (length (raw_in s.own)) many x.units (whole_units w.own) are.units;
  ranges = have_ranges w x.ranges x.units (whole_units w.own) are.units;
  few = copies_few w x are apart few own;
}

-- no units mean none
pub none_mean : (around : Around ℕ) → units_meaning around [] ≡ Ok []
unfolding units_meaning
none_mean around = refl

pub some_place : (x c : Common ℕ) → Some x ≡ Some c → x.place ≡ behind_own → c.place ≡ behind_own
some_place x c e place = (let same : x ≡ c = cc in ap (λ (z : Common ℕ). z.place) (sym same) ∙ place)

pub none_place : (c : Common ℕ) → None ≡ Some c → c.place ≡ behind_own
none_place c e = absurd cc
