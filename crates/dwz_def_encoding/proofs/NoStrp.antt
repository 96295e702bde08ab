-- A line table none of whose formats has the form strp is the same whatever stands in `.debug_str`.
use Rattle.std.proofs.Common.{◌≡◌, ℕ, Bool, true, false, List, [], ◌∷◌, cond, eqb, refl, sym, ap, subst, ◌∙◌, inl, inr}
use Rattle.std.proofs.lemmas.Bool.{or_parts}
use Rattle.dwz_def_reading.specs.Pair.{Pair}
use Rattle.dwz_def_reading.specs.Spelling.{reach}
use Rattle.dwz_def_reading.specs.Lists.{In}
use Rattle.dwz_def_reading.specs.Texts.{IsTextAt}
use Rattle.dwz_def_reading.specs.Values.{Bytes, Number, Raw}
use Rattle.dwz_def_reading.specs.LineTables.{FileTable, HaveTheirTexts, IsFileTable, IsValueText, PathRow, SayRows, SaysRow, SaysTable, Tables, TextSections, names_strs, with_content}

-- a value has one of the formats
has_format : (content : ℕ) (formats : List Pair) (raws : List Raw) (x : Pair × Raw) → names_strs formats ≡ false → In x (with_content content formats raws) → eqb x.0.form 0x0e ≡ false
has_format content [] raws x none there = absurd there
has_format content (pair ∷ pairs) [] x none there = absurd there
has_format content (pair ∷ pairs) (raw ∷ raws) x none there = go (or_parts (eqb pair.form 0x0e) (names_strs pairs) none) (λ n r. has_format content pairs raws x n r) (eqb pair.name content)
    there where
      go : (eqb pair.form 0x0e ≡ false) × (names_strs pairs ≡ false) → (names_strs pairs ≡ false → In x (with_content content pairs raws) → eqb x.0.form 0x0e ≡ false)
          → (b : Bool) → In x (cond b ((pair, raw) ∷ with_content content pairs raws) (with_content content pairs raws)) → eqb x.0.form 0x0e ≡ false
      go not rest true (inl e) = ap (λ (y : Pair × Raw). eqb y.0.form 0x0e) (sym e) ∙ not.0
      go not rest true (inr r) = rest not.1 r
      go not rest false r = rest not.1 r

module _ (s : TextSections) (strs : List ℕ) where
  abbrev other : TextSections
  other = record { strs = strs; line_strs = s.line_strs }

  text_other : (form : ℕ) (raw : Raw) (text : List ℕ) → eqb form 0x0e ≡ false → IsValueText s form raw text → IsValueText other form raw text
  text_other form (Bytes bytes) text none is = is
  text_other form (Number z) text none is =
      subst (λ (b : Bool). IsTextAt (cond b strs s.line_strs) (reach z) text) (sym none) (subst (λ (b : Bool). IsTextAt (cond b s.strs s.line_strs) (reach z) text) none is)

  texts_other : (formats : List Pair) (raws : List Raw) → names_strs formats ≡ false → HaveTheirTexts s formats raws → HaveTheirTexts other formats raws
  texts_other [] raws none have = tt
  texts_other (pair ∷ pairs) [] none have = tt
  texts_other (pair ∷ pairs) (raw ∷ raws) none have =
      let not = or_parts (eqb pair.form 0x0e) (names_strs pairs) none in
      ((λ is. let h = have.0 is in (h.0, text_other pair.form raw h.0 not.0 h.1)), texts_other pairs raws not.1 have.1)

  row_other : (dirs : ℕ) (formats : List Pair) (raws : List Raw) (row : PathRow) → names_strs formats ≡ false → SaysRow s dirs formats raws row → SaysRow other dirs formats raws row
  row_other dirs formats raws row none is = record {
    texts = texts_other formats raws none is.texts;
    named = is.named;
    one_path = is.one_path;
    path = text_other is.named.0.form is.named.1 row.path (has_format 1 formats raws is.named none (subst (In is.named) (sym is.one_path) (inl refl))) is.path;
    indexes = is.indexes;
    dir = is.dir;
  }

  rows_other : (dirs : ℕ) (formats : List Pair) (table : List (List Raw)) (rows : List PathRow) → names_strs formats ≡ false → SayRows s dirs formats table rows → SayRows other dirs formats table rows
  rows_other dirs formats [] [] none is = tt
  rows_other dirs formats [] (row ∷ rows) none is = absurd is
  rows_other dirs formats (raws ∷ table) [] none is = absurd is
  rows_other dirs formats (raws ∷ table) (row ∷ rows) none is = (row_other dirs formats raws row none is.0, rows_other dirs formats table rows none is.1)

  table_other : (t : Tables) (f : FileTable) → SaysTable s t f → f.has_strp ≡ false → SaysTable other t f
  table_other t f is none =
      let not = or_parts (names_strs t.dirs.formats) (names_strs t.files.formats) (sym (ap (λ (x : FileTable). x.has_strp) is.made) ∙ none) in
      record {
        formats = is.formats;
        dirs = is.dirs;
        dirs_say = rows_other _ t.dirs.formats t.dirs.rows is.dirs not.0 is.dirs_say;
        files = is.files;
        files_say = rows_other _ t.files.formats t.files.rows is.files not.1 is.files_say;
        made = is.made;
      }

  pub table_stays : (line : List ℕ) (place : ℕ) (f : FileTable) → IsFileTable s line place f → f.has_strp ≡ false → IsFileTable other line place f
  table_stays line place f is none = record { header = is.header; tables = is.tables; stand = is.stand; says = table_other is.tables f is.says none }
