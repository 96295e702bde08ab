-- The paths of the common file have no zero byte.
use Rattle.std.proofs.Common.{◌≡◌, ℕ, ℤ, pos, negsuc, true, false, Bool, List, [], ◌∷◌, Option, Some, None, sym, ap, subst, inl, inr}
use Rattle.dwz_def_reading.specs.Entries.{RawAttr}
use Rattle.dwz_def_reading.specs.Texts.{NoZero}
use Rattle.dwz_def_reading.specs.Documents.{Attr, DwUnit, Sec, Value, only}
use Rattle.dwz_def_reading.specs.LineTables.{FileTable}
use Rattle.dwz_def_reading.specs.LinesWritten.{AreTexts}
use Rattle.dwz_def_reading.specs.Meanings.{IfSo, IsFileBy, IsFileNumber, IsLocList, MeansAs}
use Rattle.dwz_def_reading.specs.Classes.{OfAddress, OfBlock, OfCommonEntry, OfCommonText, OfConstant, OfExpression, OfFlag, OfIndex}
use Rattle.dwz_def_reading.specs.Classes.{Class}
use Rattle.dwz_def_reading.specs.Meanings.{MeaningContext, constant_value}
use Rattle.dwz_def_reading.specs.Classes.{OfInfoEntry, OfListIndex, OfOffset, OfSignature, OfText, OfTextBySlot, OfTextInLineStr, OfTextInStr, OfUnitEntry, Unread}
use Rattle.dwz_def_reading.specs.Classes.{class_of}
use Rattle.dwz_def_reading.specs.Meanings.{number_of, offset_of, path_by, stmt_list}
use Rattle.dwz_def_reading.specs.Classes.{names_file, names_list}
use Rattle.dwz_def_reading.proofs.PathTexts.{nth_text, table_paths}
use Rattle.dwz_def_reading.specs.Lists.{Each}
use Rattle.dwz_def_encoding.specs.Bases.{Bases}
use Rattle.dwz_def_encoding.specs.Carried.{CarriedAttr, CarriedUnit, From}
use Rattle.dwz_def_encoding.specs.Fitting.{EachAttr}
use Rattle.dwz_def_encoding.proofs.PoolLemmas.{PathText}
use Rattle.dwz_def_readback.proofs.FreeOperands.{carried_attrs, entries_more}
use Rattle.dwz_def_tops.proofs.Members.{each_more}

number_text : (t : FileTable) (number : ℤ) (path : List ℕ) → AreTexts t.paths → path_by t number ≡ Some path → NoZero path
number_text t (pos n) path are e = nth_text t.paths n path are e
number_text t (negsuc n) path are e = absurd cc

module _ {P : Type 0} where
  as_is : (v w : Value P) → v ≡ w → PathText w.plain → PathText v.plain
  as_is v w e h = subst (λ (x : Value P). PathText x.plain) (sym e) h

  file_path : (s : MeaningContext P) (o : Option ℕ) (number : ℤ) (v : Value P) → IsFileBy o s number v → PathText v.plain
  file_path s None number v h = as_is v _ h.1 tt
  file_path s (Some place) number v h = as_is v _ h.value (number_text h.table number h.path (table_paths _ _ place h.table h.stands) h.is_path)

  constant_path : (s : MeaningContext P) (a : RawAttr) (v : Value P) (b : Bool) → IfSo b (IsFileNumber s a v) (v ≡ constant_value a) → PathText v.plain
  constant_path s a v true h = file_path s (stmt_list s) (number_of a.raw) v h
  constant_path s a v false h = as_is v _ h tt

  offset_path : (s : MeaningContext P) (a : RawAttr) (v : Value P) (b : Bool) → IfSo b (IsLocList s (offset_of a) v) (v ≡ only (Sec (offset_of a))) → PathText v.plain
  offset_path s a v true h = as_is v _ h.value tt
  offset_path s a v false h = as_is v _ h tt

  class_path : (c : Class) (s : MeaningContext P) (a : RawAttr) (v : Value P) → MeansAs c s a v → PathText v.plain
  class_path OfAddress s a v h = as_is v _ h tt
  class_path OfBlock s a v h = as_is v _ h tt
  class_path OfConstant s a v h = constant_path s a v (names_file a.pair.name) h
  class_path OfFlag s a v h = as_is v _ h tt
  class_path OfText s a v h = as_is v _ h tt
  class_path OfTextInStr s a v h = as_is v _ h.value tt
  class_path OfTextInLineStr s a v h = as_is v _ h.value tt
  class_path OfTextBySlot s a v h = as_is v _ h.text.value tt
  class_path OfUnitEntry s a v h = as_is v _ h.1 tt
  class_path OfInfoEntry s a v h = as_is v _ h.1 tt
  class_path OfSignature s a v h = as_is v _ h tt
  class_path OfOffset s a v h = offset_path s a v (names_list a.pair.name) h
  class_path OfExpression s a v h = as_is v _ h.value tt
  class_path OfListIndex s a v h = as_is v _ h.list.value tt
  class_path OfIndex s a v h = as_is v _ h tt
  class_path OfCommonEntry s a v h = as_is v _ h.2.1 tt
  class_path OfCommonText s a v h = as_is v _ h.2.value tt
  class_path Unread s a v h = absurd h

module _ {K : Type 0} (from : From) (origin : Bases) where
  attr_path : (a : Attr K) → CarriedAttr from origin a → PathText a.value.plain
  attr_path a (inl came) =
      let w = came.was_read in
      subst PathText (sym (ap (λ (b : Attr K). b.value.plain) w.same)) (class_path (class_of w.old.pair.form) w.scope w.old w.read.value w.means.value)
  attr_path a (inr (inl i)) = as_is a.value _ i.value tt
  attr_path a (inr (inr l)) = as_is a.value _ l.value tt

  unit_paths : (u : DwUnit K) → CarriedUnit from origin u → Each (λ a. PathText a.value.plain) u.root.attrs × EachAttr (λ a. PathText a.value.plain) u.below
  unit_paths u is = (
    each_more (CarriedAttr from origin) (λ a. PathText a.value.plain) u.root.attrs attr_path is.root.attrs,
    entries_more (CarriedAttr from origin) (λ a. PathText a.value.plain) attr_path u.below (carried_attrs from origin u.below is.below),
  )

pub paths_carried : {K : Type 0} (from : From) (origin : K → Bases) (units : List (DwUnit K)) → Each (λ u. CarriedUnit from (origin u.at) u) units
    → Each (λ u. Each (λ a. PathText a.value.plain) u.root.attrs × EachAttr (λ a. PathText a.value.plain) u.below) units
paths_carried from origin [] are = tt
paths_carried from origin (u ∷ units) are = (unit_paths from (origin u.at) u are.0, paths_carried from origin units are.1)
