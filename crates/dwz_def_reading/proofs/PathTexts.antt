-- The paths of a line table have no zero byte.
use Rattle.std.proofs.Common.{◌≡◌, ℕ, ℤ, zero, suc, ◌+◌, ◌||◌, Bool, true, false, List, [], ◌∷◌, ◌++◌, length, map, drop, Some, cond, eqb, eqb-true, refl, sym, ap, subst}
use Rattle.std.proofs.Common.{◌∙◌, arith, inl, inr}
use Rattle.std.specs.List.{list_all}
use Rattle.dwz_codes.specs.Forms.{form_rows}
use Rattle.dwz_model.specs.Lists.{In}
use Rattle.dwz_codes.specs.Rows.{has}
use Rattle.dwz_def_reading.specs.Texts.{NoZero}
use Rattle.dwz_def_reading.specs.Values.{Bytes, Number, Raw, SpellsShape, SpellsValue, constant_of, shape_of}
use Rattle.dwz_def_reading.proofs.AbbrevLemmas.{and_true}
use Rattle.dwz_model.specs.declared.place.Pair.{Pair}
use Rattle.dwz_def_reading.specs.LineTables.{FileTable, IsFileTable, IsValueText, PathRow, SayRows, SaysRow, SpellsPathTable, SpellsValues, Table, Tables, TextSections, begins_with_slash}
use Rattle.dwz_def_reading.specs.LineTables.{dir_path, forms_for, full_path, is_format, is_no_path, join, nth_path, tables_begin, with_content}
use Rattle.dwz_def_reading.specs.Sequences.{SpellsAll}
use Rattle.dwz_def_reading.specs.LinesWritten.{AreTexts}
use Rattle.dwz_def_reading.proofs.MeaningLemmas.{has_in}

-- ---- the value that is a path

-- a value of a format for its content, and bytes that spell it
record IsSpelled (x : Pair × Raw) : Type 0 where
  content : x.0.name ≡ 1
  format : is_format x.0 ≡ true
  bytes : List ℕ
  spelled : SpellsValue form_rows x.0 bytes x.1

abbrev AllSpelled : List (Pair × Raw) → Type 0
AllSpelled [] = Unit {0}
AllSpelled (x ∷ xs) = IsSpelled x × AllSpelled xs

content_spelled : (formats : List Pair) (raws : List Raw) (start : ℕ) (bytes : List ℕ) → list_all is_format formats ≡ true → SpellsValues formats raws start bytes
    → AllSpelled (with_content 1 formats raws)
content_spelled [] raws start bytes all h = tt
content_spelled (pair ∷ pairs) [] start bytes all h = tt
content_spelled (pair ∷ pairs) (raw ∷ raws) start bytes all h =
    let both = and_true (is_format pair) (list_all is_format pairs) all in
    let first : raw ≡ h.x = (let e = h.made in cc) in
    let rest : raws ≡ h.y = (let e = h.made in cc) in
    let later = content_spelled pairs raws (start + length h.both.first_bytes) h.both.second_bytes both.1
    (subst (λ (w : List Raw). SpellsValues pairs w (start + length h.both.first_bytes) h.both.second_bytes) (sym rest) h.both.second) in
    by later both.0 (subst (λ (w : Raw). SpellsValue form_rows pair h.both.first_bytes w) (sym first) h.both.first) (eqb pair.name 1) refl
  where
    by : AllSpelled (with_content 1 pairs raws) → is_format pair ≡ true → SpellsValue form_rows pair h.both.first_bytes raw → (b : Bool) → eqb pair.name 1 ≡ b
        → AllSpelled (cond b ((pair, raw) ∷ with_content 1 pairs raws) (with_content 1 pairs raws))
    by later format spelled true e = (record { content = eqb-true pair.name 1 e; format = format; bytes = h.both.first_bytes; spelled = spelled }, later)
    by later format spelled false e = later

forms_are : forms_for 1 ≡ 0x08 ∷ 0x0e ∷ 0x1f ∷ []
forms_are = refl

-- its text has no zero byte, if it stands there
string_text : (form : ℕ) (number : ℤ) (bytes content : List ℕ) → In form (0x08 ∷ 0x0e ∷ 0x1f ∷ []) → SpellsShape (shape_of form_rows form) number bytes (Bytes content) → NoZero content
unfolding form_rows
string_text form number bytes content (inl e) h =
    let h' = subst (λ (f : ℕ). SpellsShape (shape_of form_rows f) number bytes (Bytes content)) (sym e) h in
    let same : content ≡ h'.content = (let v = h'.value in cc) in
    subst NoZero (sym same) h'.spelled.no_zero
string_text form number bytes content (inr (inl e)) h =
    (let h' = subst (λ (f : ℕ). SpellsShape (shape_of form_rows f) number bytes (Bytes content)) (sym e) h in absurd (let v = h'.value in cc))
string_text form number bytes content (inr (inr (inl e))) h =
    (let h' = subst (λ (f : ℕ). SpellsShape (shape_of form_rows f) number bytes (Bytes content)) (sym e) h in absurd (let v = h'.value in cc))
string_text form number bytes content (inr (inr (inr x))) h = absurd x

path_text : (s : TextSections) (x : Pair × Raw) → IsSpelled x → (path : List ℕ) → IsValueText s x.0.form x.1 path → NoZero path
path_text s x is path h = by x.1 refl h where
  form : In x.0.form (0x08 ∷ 0x0e ∷ 0x1f ∷ [])
  form = has_in x.0.form (0x08 ∷ 0x0e ∷ 0x1f ∷ []) (sym (ap (λ (n : ℕ). has x.0.form (forms_for n)) is.content) ∙ is.format)

  by : (raw : Raw) → x.1 ≡ raw → IsValueText s x.0.form raw path → NoZero path
  by (Bytes content) e h =
      let spelled = subst (λ (w : Raw). SpellsShape (shape_of form_rows x.0.form) (constant_of x.0) is.bytes w) e is.spelled in
      subst NoZero (sym h) (string_text x.0.form (constant_of x.0) is.bytes content form spelled)
  by (Number z) e h = h.spelled.no_zero

-- ---- rows

abbrev RowTexts : List PathRow → Type 0
RowTexts [] = Unit {0}
RowTexts (row ∷ rows) = NoZero row.path × RowTexts rows

row_text : (s : TextSections) (dirs : ℕ) (formats : List Pair) (raws : List Raw) (row : PathRow) → SaysRow s dirs formats raws row → AllSpelled (with_content 1 formats raws) → NoZero row.path
row_text s dirs formats raws row says all = path_text s says.named (subst AllSpelled says.one_path all).0 row.path says.path

rows_text : (s : TextSections) (dirs : ℕ) (formats : List Pair) → list_all is_format formats ≡ true → (table : List (List Raw)) (rows : List PathRow) (start : ℕ) (bytes : List ℕ)
    → SpellsAll (SpellsValues formats) table start bytes → SayRows s dirs formats table rows → RowTexts rows
rows_text s dirs formats all [] [] start bytes h says = tt
rows_text s dirs formats all (raws ∷ table) (row ∷ rows) start bytes h says =
    (row_text s dirs formats raws row says.0 (content_spelled formats raws start h.first_bytes all h.first), rows_text s dirs formats all table rows _ h.second_bytes h.second says.1)
rows_text s dirs formats all _ _ start bytes h says = absurd says

-- ---- paths

text_append : (a b : List ℕ) → NoZero a → NoZero b → NoZero (a ++ b)
text_append [] b h k = k
text_append (x ∷ a) b h k = (h.0, text_append a b h.1 k)

join_text : (dir path : List ℕ) → NoZero dir → NoZero path → NoZero (join dir path)
join_text dir path h k = by (begins_with_slash path || is_no_path dir) where
  by : (b : Bool) → NoZero (cond b path (dir ++ 0x2f ∷ path))
  by true = k
  by false = text_append dir (0x2f ∷ path) h ((λ e. omega (arith, e)), k)

dir_text : (rows : List PathRow) → RowTexts rows → (n : ℕ) → NoZero (dir_path rows n)
dir_text [] h n = tt
dir_text (row ∷ rows) h zero = h.0
dir_text (row ∷ rows) h (suc n) = dir_text rows h.1 n

full_text : (dirs : List PathRow) → RowTexts dirs → (row : PathRow) → NoZero row.path → NoZero (full_path dirs row)
full_text dirs h row k = by (eqb row.dir 0) where
  by : (b : Bool) → NoZero (cond b (join (dir_path dirs 0) row.path) (join (join (dir_path dirs 0) (dir_path dirs row.dir)) row.path))
  by true = join_text (dir_path dirs 0) row.path (dir_text dirs h 0) k
  by false = join_text (join (dir_path dirs 0) (dir_path dirs row.dir)) row.path (join_text (dir_path dirs 0) (dir_path dirs row.dir) (dir_text dirs h 0) (dir_text dirs h row.dir)) k

full_texts : (dirs : List PathRow) → RowTexts dirs → (rows : List PathRow) → RowTexts rows → AreTexts (map (full_path dirs) rows)
full_texts dirs h [] k = tt
full_texts dirs h (row ∷ rows) k = (full_text dirs h row k.0, full_texts dirs h rows k.1)

table_texts : (s : TextSections) (dirs : ℕ) (t : Table) (rows : List PathRow) (start : ℕ) (bytes : List ℕ) → SpellsPathTable t start bytes → list_all is_format t.formats ≡ true
    → SayRows s dirs t.formats t.rows rows → RowTexts rows
table_texts s dirs t rows start bytes h all says =
    let formats : t.formats ≡ h.x = ap (λ (w : Table). w.formats) h.made in
    let table : t.rows ≡ h.both.second.y = ap (λ (w : Table). w.rows) h.made ∙ h.both.second.made in
    let at = start + length h.both.first_bytes + length h.both.second.both.first_bytes in
    let rest = h.both.second.both.second_bytes in
    let one = subst (λ (f : List Pair). SpellsAll (SpellsValues f) h.both.second.y at rest) (sym formats) h.both.second.both.second.1 in
    rows_text s dirs t.formats all t.rows rows at rest (subst (λ (w : List (List Raw)). SpellsAll (SpellsValues t.formats) w at rest) (sym table) one) says

pub table_paths : (s : TextSections) (line : List ℕ) (place : ℕ) (t : FileTable) → IsFileTable s line place t → AreTexts t.paths
table_paths s line place t is =
    let h = is.stand.spelled in
    let at = tables_begin (drop place line) in
    let says = is.says in
    let all = and_true (list_all is_format is.tables.dirs.formats) _ says.formats in
    let more = and_true (list_all is_format is.tables.files.formats) _ all.1 in
    let first = subst (λ (w : Tables). SpellsPathTable w.dirs at h.both.first_bytes) (sym h.made) h.both.first in
    let second = subst (λ (w : Tables). SpellsPathTable w.files (at + length h.both.first_bytes) h.both.second_bytes) (sym h.made) h.both.second in
    let dirs = table_texts s (length is.tables.dirs.rows) is.tables.dirs says.dirs _ _ first all.0 says.dirs_say in
    let files = table_texts s (length is.tables.dirs.rows) is.tables.files says.files _ _ second more.0 says.files_say in
    subst AreTexts (sym (ap (λ (w : FileTable). w.paths) says.made)) (full_texts says.dirs dirs says.files files)

-- the path with a number
pub nth_text : (paths : List (List ℕ)) (n : ℕ) (path : List ℕ) → AreTexts paths → nth_path paths n ≡ Some path → NoZero path
unfolding nth_path
nth_text [] n path are e = absurd cc
nth_text (p ∷ paths) zero path are e = (let same : p ≡ path = cc in subst NoZero same are.0)
nth_text (p ∷ paths) (suc n) path are e = nth_text paths n path are.1 e
