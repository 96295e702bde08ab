-- The indexes of two files and of their common one, by the numbers that they begin with.
use Rattle.std.proofs.Common.{◌≡◌, ℕ, ◌+◌, List, [], length, Option, Some, None, Ok, sym, ap, subst, ◌∙◌}
use Rattle.dwz_def_reading.specs.Documents.{DwUnit}
use Rattle.dwz_def_reading.specs.Meanings.{Around}
use Rattle.dwz_def_reading.specs.Meant.{units_meaning}
use Rattle.dwz_def_reading.specs.Units.{RawUnit}
use Rattle.dwz_def_check.specs.CrossNames.{cross_tops}
use Rattle.dwz_def_check.specs.CrossNodes.{tops_before, tops_together}
use Rattle.dwz_check_index.specs.declared.both.CrossIndexes.{CrossIndexes}
use Rattle.dwz_check_index.specs.Both.{AreCrossIndexes, IsBeside, from_top, tops_beside, with_common}
use Rattle.dwz_check_index.specs.Index.{CrossIndex, IsCrossIndex}

pub none_said : (around : Around ℕ) (raw : List RawUnit) (said : List (DwUnit ℕ)) → raw ≡ [] → units_meaning around raw ≡ Ok said → said ≡ []
unfolding units_meaning
none_said around raw said none means = let e : units_meaning around [] ≡ Ok said = ap (units_meaning around) (sym none) ∙ means in let same : [] ≡ said = cc in sym same

beside_tops : (top : ℕ) (said : List (DwUnit ℕ)) (x : Option CrossIndex) → IsBeside top said x → tops_beside x ≡ length (cross_tops said)
unfolding cross_tops
beside_tops top said None h = ap (λ (w : List (DwUnit ℕ)). length (cross_tops w)) (sym h)
beside_tops top said (Some x) h = h.tops.len

pub both_are : (a b c : List (DwUnit ℕ)) (x : CrossIndexes) (n m : ℕ) → IsCrossIndex (from_top 0) a x.old → n ≡ length x.old.tops → IsCrossIndex (from_top n) b x.new → m ≡ length x.new.tops
    → IsBeside (n + m) c x.common → x.old_lone ≡ n + m + tops_beside x.common → x.new_lone ≡ n + m + tops_beside x.common + length x.old.lone → AreCrossIndexes a b c x
both_are a b c x n m old n_is new m_is common old_lone new_lone =
    let first : n ≡ length (cross_tops a) = n_is ∙ old.tops.len in
    let second : m ≡ length (cross_tops b) = m_is ∙ new.tops.len in
    let both : n + m ≡ tops_before (with_common a c) (with_common b c) = (λ j. first j + second j) in
    let third = beside_tops (n + m) c x.common common in
    let all : n + m + tops_beside x.common ≡ tops_together (with_common a c) (with_common b c) = (λ j. both j + third j) in
    record {
      old_is = old;
      new_is = subst (λ (k : ℕ). IsCrossIndex (from_top k) b x.new) first new;
      common_is = subst (λ (k : ℕ). IsBeside k c x.common) both common;
      old_lone = old_lone ∙ all;
      new_lone = new_lone ∙ (λ j. all j + old.lone.len j);
    }
