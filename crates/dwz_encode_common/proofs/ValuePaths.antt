-- The path of a value that numbers a file is the one that it means; and no other value means a path.
use Rattle.std.proofs.Common.{◌≡◌, ℕ, Bool, true, false, List, [], ◌&&◌, cond, Ok, Err, Result, Option, None, Some, refl, sym, ap, ◌∙◌}
use Rattle.std.specs.Option.{option_and_then, option_to_list}
use Rattle.dwz_def_reading.specs.Entries.{RawAttr}
use Rattle.dwz_def_reading.specs.Faults.{info_fault}
use Rattle.dwz_model.specs.declared.fault.Fault.{Fault}
use Rattle.dwz_model.specs.declared.fault.Reason.TheVariants.{BadFile}
use Rattle.dwz_def_reading.specs.Documents.{File, Sec, Value, only}
use Rattle.dwz_def_reading.specs.LineTables.{FileTable}
use Rattle.dwz_def_reading.specs.Meanings.{IfSo, IsLocList, MeansAs}
use Rattle.dwz_def_reading.specs.Classes.{OfAddress, OfBlock, OfCommonEntry, OfCommonText, OfConstant, OfExpression, OfFlag, OfIndex, OfInfoEntry, OfListIndex, OfOffset}
use Rattle.dwz_def_reading.specs.Classes.{Class}
use Rattle.dwz_def_reading.specs.Meanings.{MeaningContext, constant_value}
use Rattle.dwz_def_reading.specs.Classes.{OfSignature, OfText, OfTextBySlot, OfTextInLineStr, OfTextInStr, OfUnitEntry, Unread}
use Rattle.dwz_def_reading.specs.Classes.{class_of}
use Rattle.dwz_def_reading.specs.Meant.{file_by, is_zero, meaning}
use Rattle.dwz_def_reading.specs.Meanings.{number_of, offset_of, stmt_list}
use Rattle.dwz_def_reading.specs.Classes.{names_file, names_list}
use Rattle.dwz_def_reading.specs.Meant.{path_or, row_of_table}
use Rattle.dwz_def_reading.specs.Meanings as meanings
use Rattle.dwz_def_reading.specs.Meant as meant
use Rattle.dwz_def_reading.proofs.MeaningLemmas.{value_agrees}
use Rattle.dwz_bytes.specs.Reading.{◌>>=◌}
use Rattle.dwz_graph.specs.Parts.{numbers_file}
use Rattle.dwz_label_entries.specs.Plain.{KnowsLine}
use Rattle.dwz_label_entries.proofs.PlainLemmas.{file_means, numbers}
use Rattle.dwz_layout_numbers.specs.Befores.{is_constant, is_pair_file}
use Rattle.dwz_encode_common.specs.Gathered.{path_by}
use Rattle.dwz_encode_common.specs.Paths.{path_in, path_read}

-- ---- values that number no file

module _ (s : MeaningContext ℕ) (a : RawAttr) (v : Value ℕ) where
  none_said : (w : Value ℕ) → v ≡ w → path_by w.plain ≡ [] → [] ≡ path_by v.plain
  none_said w e none = sym none ∙ sym (ap (λ (x : Value ℕ). path_by x.plain) e)

  of_offset : (n : Bool) → IfSo n (IsLocList s (offset_of a) v) (v ≡ only (Sec (offset_of a))) → [] ≡ path_by v.plain
  of_offset true m = none_said _ m.value refl
  of_offset false m = none_said _ m refl

  of_constant : (n : Bool) → names_file a.pair.name ≡ n → n ≡ false → meant.as_class OfConstant s a ≡ Ok v → [] ≡ path_by v.plain
  of_constant true e f means = absurd cc
  of_constant false e f means =
      let other : Ok (constant_value a) ≡ Ok v =
      sym (ap (λ (b : Bool). cond b (file_by (stmt_list s) s a) (Ok (constant_value a))) e) ∙ means in
      let is : constant_value a ≡ v = cc in
      none_said (constant_value a) (sym is) refl

  no_path : (c : Class) → class_of a.pair.form ≡ c → (is_constant c && names_file a.pair.name) ≡ false → meaning s a ≡ Ok v
      → MeansAs c s a v
      → [] ≡ path_by v.plain
  unfolding meaning
  no_path OfAddress e f means m = none_said _ m refl
  no_path OfBlock e f means m = none_said _ m refl
  no_path OfConstant e f means m =
      of_constant (names_file a.pair.name) refl f (ap (λ (c : Class). meant.as_class c s a) (sym e) ∙ means)
  no_path OfFlag e f means m = none_said _ m refl
  no_path OfText e f means m = none_said _ m refl
  no_path OfTextInStr e f means m = none_said _ m.value refl
  no_path OfTextInLineStr e f means m = none_said _ m.value refl
  no_path OfTextBySlot e f means m = none_said _ m.text.value refl
  no_path OfUnitEntry e f means m = none_said _ m.1 refl
  no_path OfInfoEntry e f means m = none_said _ m.1 refl
  no_path OfSignature e f means m = none_said _ m refl
  no_path OfOffset e f means m = of_offset (names_list a.pair.name) m
  no_path OfExpression e f means m = none_said _ m.value refl
  no_path OfListIndex e f means m = none_said _ m.list.value refl
  no_path OfIndex e f means m = none_said _ m refl
  no_path OfCommonEntry e f means m = none_said _ m.2.1 refl
  no_path OfCommonText e f means m = none_said _ m.2.value refl
  no_path Unread e f means m = absurd m

  -- ---- the number of a file

  path_ok : (o : Option (List ℕ)) → path_or {P = ℕ} a o ≡ Ok v → option_to_list o ≡ path_by v.plain
  path_ok None e = absurd cc
  path_ok (Some path) e =
      let is : only (File (Some path)) ≡ v = cc in
      ap (λ (w : Value ℕ). path_by w.plain) is

  none_ok : (b : Bool) → cond b (Ok (only {P = ℕ} (File None))) (Err (info_fault a.at BadFile)) ≡ Ok v → [] ≡ path_by v.plain
  none_ok true e =
      let is : only (File None) ≡ v = cc in
      none_said (only (File None)) (sym is) refl
  none_ok false e = absurd cc

  module _ (tables : List FileTable) where
    by_line : (line : Option ℕ) → KnowsLine s a tables line → numbers_file a ≡ true → file_by (stmt_list s) s a ≡ Ok v
        → option_to_list (path_in tables line (number_of a.raw)) ≡ path_by v.plain
    by_line None knows file e = none_ok (is_zero (number_of a.raw)) (ap (λ (o : Option ℕ). file_by o s a) (sym (knows file)) ∙ e)
    by_line (Some line) knows file e =
        let has = knows.2 in
        let at : file_by (Some knows.0) s a ≡ Ok v = ap (λ (o : Option ℕ). file_by o s a) (sym knows.1) ∙ e in
        let row : row_of_table a has.table ≡ Ok v = ap (λ (r : Result FileTable Fault). r >>= row_of_table a) (sym has.read) ∙ at in
        ap (λ (o : Option FileTable). option_to_list (option_and_then (λ (t : FileTable). meanings.path_by t (number_of a.raw)) o))
        has.there
        ∙ path_ok (meanings.path_by has.table (number_of a.raw)) row

    -- ---- a value

    constant : (c : Class) (n : Bool) → (is_constant c && n) ≡ true → (c ≡ OfConstant) × (n ≡ true)
    constant OfConstant n e = (refl, e)
    constant _ n e = absurd cc

    pub path_given : (line : Option ℕ) → KnowsLine s a tables line → meaning s a ≡ Ok v → path_read tables line a ≡ path_by v.plain
    unfolding meaning
    path_given line knows means = go (is_pair_file a.pair) refl where
      go : (b : Bool) → is_pair_file a.pair ≡ b → cond b (option_to_list (path_in tables line (number_of a.raw))) [] ≡ path_by v.plain
      go true e =
          (let two = constant (class_of a.pair.form) (names_file a.pair.name) e in
          by_line line knows (numbers a two.1 two.0)
          (file_means s a v two.1 (ap (λ (c : Class). meant.as_class c s a) (sym two.0) ∙ means)))
      go false e = no_path (class_of a.pair.form) refl e means (((value_agrees s a).ok v).0 means)

-- DW_AT_sibling numbers none
pub sibling_none : (tables : List FileTable) (line : Option ℕ) (a : RawAttr) → a.pair.name ≡ 0x01 → path_read tables line a ≡ []
sibling_none tables line a is =
    ap (λ (n : ℕ). cond (is_constant (class_of a.pair.form) && names_file n) (option_to_list (path_in tables line (number_of a.raw))) []) is
    ∙ go (is_constant (class_of a.pair.form)) where
      go : (b : Bool) → cond (b && names_file 0x01) (option_to_list (path_in tables line (number_of a.raw))) [] ≡ []
      go true = refl
      go false = refl
