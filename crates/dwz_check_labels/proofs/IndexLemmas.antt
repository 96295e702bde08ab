-- Files beside a common one with an index, or without one.
use Rattle.std.proofs.Common.{◌≡◌, ℕ, List, [], Option, Some, None, Result, Ok, Err, sym, subst, ◌∙◌}
use Rattle.std.specs.Prelude.{IfOk}
use Rattle.dwz_def_reading.specs.Documents.{DwUnit}
use Rattle.dwz_def_reading.specs.Lists.{In}
use Rattle.dwz_def_reading.specs.Meanings.{Around}
use Rattle.dwz_def_reading.specs.Meant.{units_meaning}
use Rattle.dwz_def_check.specs.CrossNames.{CrossName, cross_names_from}
use Rattle.dwz_graph.specs.declared.file.File.{File}
use Rattle.dwz_unit.specs.Rows.{units_of}
use Rattle.dwz_check_index.specs.Both.{IsBeside, from_top}
use Rattle.dwz_check_index.specs.declared.both.CrossIndexes.{CrossIndexes}
use Rattle.dwz_check_index.specs.Index.{CrossIndex, IsCrossIndex}
use Rattle.dwz_check_labels.specs.FilesSaid.{AreFilesSaid, AreLabelsFor, with_index}

pub if_ok : {X E : Type 0} (P Q : X → Type 0) (r : Result X E) → ((x : X) → P x → Q x) → IfOk r P → IfOk r Q
if_ok P Q (Ok x) f h = f x h
if_ok P Q (Err e) f h = tt

-- the index is there already
pub with_same : (x : CrossIndexes) (index : CrossIndex) → x.common ≡ Some index → x ≡ with_index x index
with_same x index is = λ i. record { old = x.old; new = x.new; common = is i; old_lone = x.old_lone; new_lone = x.new_lone }

-- ---- where there is none, the common file says nothing

abbrev pub IsIndexOf : File → CrossIndex → Type 0
IsIndexOf f index = (around : Around ℕ) (said : List (DwUnit ℕ)) → units_meaning around (units_of f.units) ≡ Ok said → IsCrossIndex (from_top 0) said index

nothing_said : (top : ℕ) (said : List (DwUnit ℕ)) (o : Option CrossIndex) → o ≡ None → IsBeside top said o → said ≡ []
nothing_said top said None is h = h
nothing_said top said (Some x) is h = absurd cc

none_named : (top p : ℕ) (y : CrossName) (said : List (DwUnit ℕ)) → said ≡ [] → In (p, y) (cross_names_from 0 top said) → ⊥
unfolding cross_names_from
none_named top p y said none h = subst (λ (us : List (DwUnit ℕ)). In (p, y) (cross_names_from 0 top us)) none h

module _ (old new common : File) (x : CrossIndexes) (index : CrossIndex) (is : IsIndexOf common index) where
  abbrev pub with_said : AreFilesSaid old new (Some common) x → AreFilesSaid old new (Some common) (with_index x index)
  with_said s = record {
    old_top = s.old_top;
    new_top = s.new_top;
    common_top = 0;
    old_said = s.old_said;
    new_said = s.new_said;
    common_said = s.common_said;
    old_is = s.old_is;
    new_is = s.new_is;
    common_is = s.common_is;
    old_index = s.old_index;
    new_index = s.new_index;
    common_index = is _ s.common_said s.common_is.means;
  }

  pub without_index : x.common ≡ None → (labels targets : List (List ℕ)) → AreLabelsFor old new (Some common) (with_index x index) labels targets → AreLabelsFor old new (Some common) x labels targets
  without_index none labels targets h s a b c n =
      let nothing : c.said ≡ [] = sym n.common_said ∙ nothing_said s.common_top s.common_said x.common none s.common_index in
      h (with_said s) a b c (record {
        old_said = n.old_said;
        new_said = n.new_said;
        common_said = n.common_said;
        old_own = n.old_own;
        new_own = n.new_own;
        common_own = λ p y there. absurd (none_named 0 p y c.said nothing there);
        old_common = λ p y there. absurd (none_named 0 p y c.said nothing there);
        new_common = λ p y there. absurd (none_named 0 p y c.said nothing there);
      })
