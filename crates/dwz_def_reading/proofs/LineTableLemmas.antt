-- Line tables are read as they are spelled, and none is read exactly where none stands.
use Rattle.std.proofs.Common.{◌≡◌, ◌↔◌, ℕ, ◌+◌, Bool, true, false, cond, eqb, List, [], ◌∷◌, length, map, drop, Option, Some, None, Result, Ok, Err, refl, sym, ap, subst, ◌∙◌}
use Rattle.std.specs.Prelude.{◌&&◌, ◌||◌, is_some, not}
use Rattle.std.proofs.lemmas.Bool.{and_from}
use Rattle.dwz_model.specs.declared.fault.Fault.{Fault}
use Rattle.dwz_model.specs.declared.place.Pair.{Pair}
use Rattle.dwz_bytes.specs.declared.error.ByteErr.{ByteErr}
use Rattle.dwz_bytes.specs.Input.{Input}
use Rattle.dwz_bytes.specs.Reading.{◌>>=◌}
use Rattle.dwz_bytes.specs.Spelling.{SpellsFixed, SpellsUleb, reach}
use Rattle.dwz_codes.specs.Forms.{form_rows}
use Rattle.dwz_def_reading.specs.Entries.{unless_so}
use Rattle.dwz_def_reading.specs.Exprs.{or_fault}
use Rattle.dwz_def_reading.specs.LineTables.{BeginsWith, FileTable, IsFileTable, IsNoFileTable, IsValueText, HasItsText, HaveTheirTexts, PathRow, SayRows, SaysRow, SaysTable, SpellsFormat, SpellsFormats}
use Rattle.dwz_def_reading.specs.LineTables.{SpellsPathTable}
use Rattle.dwz_def_reading.specs.LineTables.{SpellsRows}
use Rattle.dwz_def_reading.specs.LineTables.{SpellsTables, SpellsValues, Tables, TextSections, any_table, are_formats, are_indexes, bad_line_table, byte_or, dirs_after, file_table_at, files_after}
use Rattle.dwz_def_reading.specs.LineTables.{first_index, format_at, format_of, formats_at, full_path, is_header, names_strs, one_fault, or_bad, row_after, row_path, row_said, rows_at, rows_said, second}
use Rattle.dwz_def_reading.specs.LineTables.{has_its_text, have_their_texts, is_text_offset, value_text}
use Rattle.dwz_def_reading.specs.LineTables.{path_table_at, table_said, table_with, tables_after, tables_at, tables_begin, tables_bytes, tables_with, uleb_or, values_at, with_content, with_row}
use Rattle.dwz_def_reading.specs.Sequences.{SpellsTimes, times_at, value_only}
use Rattle.dwz_def_reading.specs.Texts.{IsTextAt, text_at}
use Rattle.dwz_def_reading.specs.Values.{Bytes, Number, Raw, SpellsValue, shape_of, value_at}
use Rattle.dwz_def_reading.proofs.AbbrevLemmas.{and_true}
use Rattle.dwz_def_reading.proofs.AgreeLemmas.{Agrees, Made, Next, agrees_ok, and_with, then_made}
use Rattle.dwz_def_reading.proofs.FieldLemmas.{bytes_agree}
use Rattle.dwz_def_reading.proofs.ReadLemmas.{Reads, fixed_reads, uleb_reads}
use Rattle.dwz_def_reading.proofs.SequenceLemmas.{input_of}
use Rattle.dwz_def_reading.proofs.SequenceReads.{ReadsSome, both_some, none_some, times_read}
use Rattle.dwz_def_reading.proofs.TextLemmas.{here_text, text_here}
use Rattle.dwz_def_reading.proofs.ValueLemmas.{shape_laws}

-- ---- parts of the tables

-- a number, whichever its fault
some_number : {X : Type 0} {Spells : List ℕ → X → Type 0} {IsCut IsBig : List ℕ → Type 0} {read : Input → Result (X × Input) ByteErr} → Reads Spells IsCut IsBig read → (bad : Fault)
    → ReadsSome (λ i. or_fault bad (read i)) (λ x start bytes. Spells bytes x)
some_number r bad = record {
  agrees = λ i y. (
    λ e. let t = ((bytes_agree r bad i).ok y).0 e in record { front = t.front; spelled = t.spelled; parts = t.parts; place = t.place },
    λ t. ((bytes_agree r bad i).ok y).1 (record { front = t.front; spelled = t.spelled; parts = t.parts; place = t.place }),
  );
}

some_value : (pair : Pair) → ReadsSome (value_at form_rows pair) (λ raw start bytes. SpellsValue form_rows pair bytes raw)
some_value pair = record {
  agrees = λ i y. (
    λ e. let t = (shape_laws (shape_of form_rows pair.form) pair).found i y.1 y.0 e in record { front = t.front; spelled = t.spelled; parts = t.parts; place = t.place },
    λ t.
        ap (λ (w : List ℕ). value_at form_rows pair (input_of i.at w)) t.parts
        ∙ (shape_laws (shape_of form_rows pair.form) pair).again i.at y.0 t.front y.1.rest t.spelled
        ∙ ap (λ (n : ℕ). Ok (y.0, input_of n y.1.rest)) (sym t.place),
  );
}

some_values : (pairs : List Pair) → ReadsSome (values_at pairs) (SpellsValues pairs)
unfolding values_at
some_values [] = none_some
some_values (pair ∷ pairs) =
    both_some (value_at form_rows pair) (λ _. values_at pairs) (λ raw start bytes. SpellsValue form_rows pair bytes raw) (λ _. SpellsValues pairs) (λ raw raws. raw ∷ raws) (some_value pair)
    (λ _. some_values pairs)

some_uleb : (bad : Fault) → ReadsSome (uleb_or bad) (λ n start bytes. SpellsUleb bytes n)
some_uleb bad = some_number uleb_reads bad

some_byte : (bad : Fault) → ReadsSome (byte_or bad) (λ n start bytes. SpellsFixed 1 bytes n)
some_byte bad = some_number (fixed_reads 1) bad

some_format : (bad : Fault) → ReadsSome (format_at bad) SpellsFormat
some_format bad = both_some (uleb_or bad) (λ _. uleb_or bad) (λ n start bytes. SpellsUleb bytes n) (λ _ n start bytes. SpellsUleb bytes n) format_of (some_uleb bad) (λ _. some_uleb bad)

some_formats : (bad : Fault) → ReadsSome (formats_at bad) SpellsFormats
some_formats bad = both_some (byte_or bad) (λ n. times_at (format_at bad) n) (λ n start bytes. SpellsFixed 1 bytes n) (λ n. SpellsTimes SpellsFormat n) second (some_byte bad)
    (λ n. times_read (format_at bad) SpellsFormat (some_format bad) n)

some_rows : (bad : Fault) (formats : List Pair) → ReadsSome (rows_at bad formats) (SpellsRows formats)
some_rows bad formats = both_some (uleb_or bad) (λ n. times_at (values_at formats) n) (λ n start bytes. SpellsUleb bytes n) (λ n. SpellsTimes (SpellsValues formats) n) second (some_uleb bad)
    (λ n. times_read (values_at formats) (SpellsValues formats) (some_values formats) n)

some_table : (bad : Fault) → ReadsSome (path_table_at bad) SpellsPathTable
some_table bad = both_some (formats_at bad) (rows_at bad) SpellsFormats SpellsRows table_with (some_formats bad) (some_rows bad)

some_tables : (bad : Fault) → ReadsSome (tables_at bad) SpellsTables
unfolding tables_at
some_tables bad = both_some (path_table_at bad) (λ _. path_table_at bad) SpellsPathTable (λ _. SpellsPathTable) tables_with (some_table bad) (λ _. some_table bad)

-- ---- what the rows say: an answer is given exactly where a relation holds

record Says {X : Type 0} (r : Result X Fault) (Means : X → Type 0) : Type 0 where
  ok : (x : X) → (r ≡ Ok x) ↔ Means x

itself : {X : Type 0} {r : Result X Fault} {M : X → Type 0} → Says r M → Agrees r M (λ f. r ≡ Err f)
itself s = record { ok = s.ok; err = λ f. (λ e. e, λ e. e) }

says : {X : Type 0} {r : Result X Fault} {M N : X → Type 0} {F : Fault → Type 0} → Agrees r M F → ((x : X) → M x ↔ N x) → Says r N
says a means = record { ok = λ x. (λ e. (means x).0 ((a.ok x).0 e), λ n. (a.ok x).1 ((means x).1 n)) }

-- a test, and then the others
tested : {X : Type 0} (b : Bool) (bad : Fault) (f : Unit {0} → Result X Fault) {M : X → Type 0} → Says (f tt) M → Says (unless_so (not b) bad >>= f) (λ x. (b ≡ true) × M x)
tested true bad f s = record { ok = λ x. (λ e. (refl, (s.ok x).0 e), λ h. (s.ok x).1 h.1) }
tested false bad f s = record { ok = λ x. (λ e. absurd cc, λ h. absurd (let no = h.0 in cc)) }

path_says : (s : TextSections) (bad : Fault) (xs : List (Pair × Raw)) → Says (or_bad bad (row_path s xs)) (λ path. (named : Pair × Raw) × (xs ≡ named ∷ []) × IsValueText s named.0.form named.1 path)
path_says s bad [] = record { ok = λ path. (λ e. absurd cc, λ h. absurd (let no = h.1 in cc)) }
path_says s bad (x ∷ y ∷ xs) = record { ok = λ path. (λ e. absurd cc, λ h. absurd (let no = h.1 in cc)) }
path_says s bad ((pair, Bytes bytes) ∷ []) = record {
  ok = λ path. (
    λ e. ((pair, Bytes bytes), refl, let same : Ok bytes ≡ Ok path = e in let is : bytes ≡ path = cc in sym is),
    λ h.
        let same : (pair, Bytes bytes) ≡ h.0 = cc-head (pair, Bytes bytes) h.0 h.1 in
        let is : IsValueText s pair.form (Bytes bytes) path = subst (λ (x : Pair × Raw). IsValueText s x.0.form x.1 path) (sym same) h.2 in
        ap (λ (w : List ℕ). Ok w) (sym is),
  );
} where
  cc-head : (x y : Pair × Raw) → x ∷ [] ≡ y ∷ [] → x ≡ y
  cc-head x y e = cc
path_says s bad ((pair, Number z) ∷ []) = by (text_at section (reach z)) refl where
  section : List ℕ
  section = cond (eqb pair.form 0x0e) s.strs s.line_strs

  head : (x y : Pair × Raw) → x ∷ [] ≡ y ∷ [] → x ≡ y
  head x y e = cc

  by : (o : Option (List ℕ)) → text_at section (reach z) ≡ o → Says (or_bad bad o) (λ path. (named : Pair × Raw) × ((pair, Number z) ∷ [] ≡ named ∷ []) × IsValueText s named.0.form named.1 path)
  by None none = record {
    ok = λ path. (
      λ e. absurd cc,
      λ h. absurd (
          let is : IsTextAt section (reach z) path = subst (λ (x : Pair × Raw). IsValueText s x.0.form x.1 path) (sym (head (pair, Number z) h.0 h.1)) h.2 in
          let some = here_text section path (reach z) is in
          cc),
    );
  }
  by (Some text) some = record {
    ok = λ path. (
      λ e. ((pair, Number z), refl, let same : Ok text ≡ Ok path = e in let is : text ≡ path = cc in subst (IsTextAt section (reach z)) is (text_here section text (reach z) some)),
      λ h.
          let is : IsTextAt section (reach z) path = subst (λ (x : Pair × Raw). IsValueText s x.0.form x.1 path) (sym (head (pair, Number z) h.0 h.1)) h.2 in
          let found = here_text section path (reach z) is in
          let same : text ≡ path = let both : Some text ≡ Some path = sym some ∙ found in cc in
          ap (λ (w : List ℕ). Ok w) same,
    );
  }

-- a value that names a text
text_stands : (s : TextSections) (form : ℕ) (raw : Raw) → (is_some (value_text s form raw) ≡ true) ↔ ((text : List ℕ) × IsValueText s form raw text)
text_stands s form (Bytes bytes) = (λ e. (bytes, refl), λ h. refl)
text_stands s form (Number z) = by (text_at section (reach z)) refl where
  section : List ℕ
  section = cond (eqb form 0x0e) s.strs s.line_strs

  by : (o : Option (List ℕ)) → text_at section (reach z) ≡ o → (is_some o ≡ true) ↔ ((text : List ℕ) × IsTextAt section (reach z) text)
  by None none = (λ e. absurd cc, λ h. absurd (let some = here_text section h.0 (reach z) h.1 in cc))
  by (Some text) some = (λ e. (text, text_here section text (reach z) some), λ h. refl)

has_text : (s : TextSections) (pair : Pair) (raw : Raw) → (has_its_text s pair raw ≡ true) ↔ HasItsText s pair raw
has_text s pair raw = by (is_text_offset pair.form) where
  by : (b : Bool) → ((not b || is_some (value_text s pair.form raw)) ≡ true) ↔ (b ≡ true → (text : List ℕ) × IsValueText s pair.form raw text)
  by true = (λ e _. (text_stands s pair.form raw).0 e, λ h. (text_stands s pair.form raw).1 (h refl))
  by false = (λ e no. absurd cc, λ h. refl)

have_texts : (s : TextSections) (pairs : List Pair) (raws : List Raw) → (have_their_texts s pairs raws ≡ true) ↔ HaveTheirTexts s pairs raws
have_texts s [] raws = (λ e. tt, λ h. refl)
have_texts s (pair ∷ pairs) [] = (λ e. tt, λ h. refl)
have_texts s (pair ∷ pairs) (raw ∷ raws) = (
  λ e. let both = and_true (has_its_text s pair raw) (have_their_texts s pairs raws) e in ((has_text s pair raw).0 both.0, (have_texts s pairs raws).0 both.1),
  λ h. and_from (has_its_text s pair raw) (have_their_texts s pairs raws) ((has_text s pair raw).1 h.0) ((have_texts s pairs raws).1 h.1),
)

-- a row with its path and its directory
row_says : (s : TextSections) (bad : Fault) (dirs : ℕ) (formats : List Pair) (raws : List Raw) → Says (row_said s bad dirs formats raws) (SaysRow s dirs formats raws)
row_says s bad dirs formats raws = says (itself (tested (have_their_texts s formats raws && are_indexes dirs (with_content 2 formats raws)) bad (row_after s bad formats raws) inner)) words where
  dir : ℕ
  dir = first_index (with_content 2 formats raws)

  Path : List ℕ → Type 0
  Path path = (named : Pair × Raw) × (with_content 1 formats raws ≡ named ∷ []) × IsValueText s named.0.form named.1 path

  with_dir : List ℕ → PathRow
  with_dir path = record { path = path; dir = first_index (with_content 2 formats raws) }

  inner : Says (row_after s bad formats raws tt) (Made (λ path. (named : Pair × Raw) × (with_content 1 formats raws ≡ named ∷ []) × IsValueText s named.0.form named.1 path)
      (λ path. record { path = path; dir = first_index (with_content 2 formats raws) }))
  inner = says (then_made (itself (path_says s bad (with_content 1 formats raws))) (λ path. record { path = path; dir = first_index (with_content 2 formats raws) })) (λ row. (λ h. h, λ h. h))

  words : (row : PathRow)
      → (((have_their_texts s formats raws && are_indexes dirs (with_content 2 formats raws)) ≡ true) × Made (λ path. (named : Pair × Raw) × (with_content 1 formats raws ≡ named ∷ []) × IsValueText s named.0.form named.1 path)
      (λ path. record { path = path; dir = first_index (with_content 2 formats raws) }) row)
      ↔ SaysRow s dirs formats raws row
  words row = (
    λ h.
        let made = h.1.2 in
        let p = h.1.1 in
        let both = and_true (have_their_texts s formats raws) (are_indexes dirs (with_content 2 formats raws)) h.0 in
        record {
          texts = (have_texts s formats raws).0 both.0;
          named = p.0;
          one_path = p.1;
          path = subst (IsValueText s p.0.0.form p.0.1) (sym (ap (λ (r : PathRow). r.path) made)) p.2;
          indexes = both.1;
          dir = ap (λ (r : PathRow). r.dir) made;
        },
    λ r. (and_from (have_their_texts s formats raws) (are_indexes dirs (with_content 2 formats raws)) ((have_texts s formats raws).1 r.texts) r.indexes, (row.path, (r.named, r.one_path, r.path), λ i. record { path = row.path; dir = r.dir i })),
  )

rows_say : (s : TextSections) (bad : Fault) (dirs : ℕ) (formats : List Pair) (table : List (List Raw)) → Says (rows_said s bad dirs formats table) (SayRows s dirs formats table)
unfolding rows_said
rows_say s bad dirs formats [] = says (agrees_ok []) words where
  words : (rows : List PathRow) → (rows ≡ []) ↔ SayRows s dirs formats [] rows
  words [] = (λ same. tt, λ is. refl)
  words (row ∷ rows) = (λ same. absurd cc, λ none. absurd none)
rows_say s bad dirs formats (raws ∷ table) =
    says (and_with (itself (row_says s bad dirs formats raws)) (λ row. rows_said s bad dirs formats table >>= with_row row)
    (λ row. then_made (itself (rows_say s bad dirs formats table)) (λ rows. row ∷ rows))) words where
      words : (rows : List PathRow) → Next (SaysRow s dirs formats raws) (λ row. Made (SayRows s dirs formats table) (λ rest. row ∷ rest)) rows ↔ SayRows s dirs formats (raws ∷ table) rows
      words [] = (λ h. absurd (let no = h.2.2 in cc), λ none. absurd none)
      words (row ∷ rows) = (
        λ h.
            let head : row ≡ h.0 = let same = h.2.2 in cc in
            let tail : rows ≡ h.2.0 = let same = h.2.2 in cc in
            (subst (SaysRow s dirs formats raws) (sym head) h.1, subst (SayRows s dirs formats table) (sym tail) h.2.1),
        λ h. (row, h.0, (rows, h.1, refl)),
      )

abbrev made_table : Tables → List PathRow → List PathRow → FileTable
made_table t dirs files = record { paths = map (full_path dirs) files; has_strp = names_strs t.dirs.formats || names_strs t.files.formats }

table_says : (s : TextSections) (bad : Fault) (t : Tables) → Says (table_said s bad t) (SaysTable s t)
table_says s bad t = says (itself (tested (are_formats t) bad (dirs_after s bad t) inner)) words where
  inner : Says (dirs_after s bad t tt) (Next (SayRows s (length t.dirs.rows) t.dirs.formats t.dirs.rows)
      (λ dirs. Made (SayRows s (length t.dirs.rows) t.files.formats t.files.rows) (made_table t dirs)))
  inner = says (and_with (itself (rows_say s bad (length t.dirs.rows) t.dirs.formats t.dirs.rows)) (files_after s bad t)
      (λ dirs. then_made (itself (rows_say s bad (length t.dirs.rows) t.files.formats t.files.rows)) (made_table t dirs)))
      (λ f. (λ h. h, λ h. h))

  words : (f : FileTable)
      → ((are_formats t ≡ true) × Next (SayRows s (length t.dirs.rows) t.dirs.formats t.dirs.rows) (λ dirs. Made (SayRows s (length t.dirs.rows) t.files.formats t.files.rows) (made_table t dirs)) f)
      ↔ SaysTable s t f
  words f = (
    λ h. record { formats = h.0; dirs = h.1.0; dirs_say = h.1.1; files = h.1.2.0; files_say = h.1.2.1; made = h.1.2.2 },
    λ r. (r.formats, (r.dirs, r.dirs_say, (r.files, r.files_say, r.made))),
  )

-- ---- the table of a unit

any_says : (s : TextSections) (bad : Fault) (line : List ℕ) (place : ℕ) → Says (any_table s bad (drop place line)) (IsFileTable s line place)
any_says s bad line place = says (itself (tested (is_header (drop place line)) bad (tables_after s bad (drop place line)) inner)) words where
  bytes : List ℕ
  bytes = drop place line

  Stand : Tables → Type 0
  Stand = BeginsWith SpellsTables (tables_begin (drop place line)) (tables_bytes (drop place line))

  front : Says (tables_at bad (input_of (tables_begin (drop place line)) (tables_bytes (drop place line))) >>= value_only)
      (BeginsWith SpellsTables (tables_begin (drop place line)) (tables_bytes (drop place line)))
  front = says (then_made (record { ok = (some_tables bad).agrees (input_of (tables_begin (drop place line)) (tables_bytes (drop place line))); err = λ f. (λ e. e, λ e. e) })
      (λ (x : Tables × Input). x.0)) (λ t. (
        λ h. subst (BeginsWith SpellsTables (tables_begin (drop place line)) (tables_bytes (drop place line))) (sym h.2)
            (record { front = h.1.front; rest = h.0.1.rest; spelled = h.1.spelled; parts = h.1.parts }),
        λ b. ((t, input_of (tables_begin (drop place line) + length b.front) b.rest), record { front = b.front; spelled = b.spelled; parts = b.parts; place = refl }, refl),
      ))

  inner : Says (tables_after s bad (drop place line) tt) (Next (BeginsWith SpellsTables (tables_begin (drop place line)) (tables_bytes (drop place line))) (λ t. SaysTable s t))
  inner = says (and_with (itself front) (table_said s bad) (λ t. itself (table_says s bad t))) (λ f. (λ h. h, λ h. h))

  words : (f : FileTable) → ((is_header (drop place line) ≡ true) × Next (BeginsWith SpellsTables (tables_begin (drop place line)) (tables_bytes (drop place line))) (λ t. SaysTable s t) f) ↔
      IsFileTable s line place f
  words f = (λ h. record { header = h.0; tables = h.1.0; stand = h.1.1; says = h.1.2 }, λ r. (r.header, (r.tables, r.stand, r.says)))

-- there is one fault, exactly where no table stands
pub file_table_agrees : (s : TextSections) (line : List ℕ) (place : ℕ) → Agrees (file_table_at s line place) (IsFileTable s line place) (λ f. (f ≡ bad_line_table place) × IsNoFileTable s line place)
unfolding file_table_at
file_table_agrees s line place = by (any_table s (bad_line_table place) (drop place line)) (any_says s (bad_line_table place) line place) where
  by : (r : Result FileTable Fault) → Says r (IsFileTable s line place)
      → Agrees (one_fault (bad_line_table place) r) (IsFileTable s line place) (λ f. (f ≡ bad_line_table place) × IsNoFileTable s line place)
  by (Ok t) a = record { ok = a.ok; err = λ f. (λ e. absurd cc, λ h. absurd (h.1 t ((a.ok t).0 refl))) }
  by (Err e) a = record {
    ok = λ t. (λ is. absurd cc, λ is. absurd (let ok = (a.ok t).1 is in cc));
    err = λ f. (λ is. (let same : bad_line_table place ≡ f = cc in sym same, λ t is. let ok = (a.ok t).1 is in absurd cc), λ h. ap (λ (g : Fault). Err g) (sym h.0));
  }
