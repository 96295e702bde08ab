-- Abbreviation tables (DWARF 5, 7.5.3).
use Rattle.std.specs.Prelude.{◌≡◌, ◌≢◌, ℕ, ℤ, pos, ◌<◌, ◌≤◌, ◌^◌, All, AllPairs, Bool, true, false, ◌+◌, drop, length, List}
use Rattle.std.specs.Prelude.{[], ◌∷◌, ◌++◌, Option, Some, None, Result, Ok, Err, ◌==◌, ◌&&◌, ◌||◌, nat_lt, if◌then◌else◌, MatchBool}
use Rattle.dwz_model.specs.declared.fault.Fault.{Fault}
use Rattle.dwz_model.specs.declared.place.Pair.{Pair}
use Rattle.dwz_bytes.specs.declared.error.ByteErr.{ByteErr}
use Rattle.dwz_bytes.specs.Input.{Input, input}
use Rattle.dwz_bytes.specs.Reading.{◌>>=◌, fixed_at, sleb_at, uleb_at}
use Rattle.dwz_bytes.specs.Spelling.{SpellsSleb, SpellsUleb, fits_i64, sleb, uleb}
use Rattle.dwz_def_reading.specs.Faults.{bad_abbrev}
use Rattle.dwz_def_reading.specs.Items.{BreaksOff, SpellsItems, items_at}
use Rattle.dwz_def_reading.specs.Parts.{Then}

-- a declaration: its code, and of the entries that have it the tag, whether they have children, and the names and forms of
-- their attributes
pub record Declaration : Type 0 where
  pub code : ℕ
  pub tag : ℕ
  pub children : Bool
  pub pairs : List Pair

-- the declaration with a code
abbrev pub find_decl : List Declaration → ℕ → Option Declaration
find_decl [] code = None
find_decl (d ∷ table) code = if d.code == code then Some d else find_decl table code

-- ---- how a table is spelled

-- what follows a form: a signed number where it is `DW_FORM_implicit_const`, and else nothing
abbrev pub SpellsConstant : ℕ → List ℕ → ℤ → Type 0
SpellsConstant form bytes constant = MatchBool (form == 0x21) (SpellsSleb bytes constant) ((bytes ≡ []) × (constant ≡ pos 0))

-- a name and a form, neither of them 0, and what follows the form
pub record SpellsPair (bytes : List ℕ) (pair : Pair) : Type 0 where
  pub name_bytes : List ℕ
  pub name : SpellsUleb name_bytes pair.name
  pub some_name : 0 < pair.name
  pub name_fits : pair.name ≤ 0xffff
  pub form_bytes : List ℕ
  pub form : SpellsUleb form_bytes pair.form
  pub some_form : 0 < pair.form
  pub constant_bytes : List ℕ
  pub constant : SpellsConstant pair.form constant_bytes pair.constant
  pub parts : bytes ≡ name_bytes ++ (form_bytes ++ constant_bytes)

abbrev pub IsPair : List Pair → List ℕ → Pair → Type 0
IsPair earlier = SpellsPair

-- a name and a form that are both 0
abbrev pub EndsPairs : List ℕ → Type 0
EndsPairs = Then (λ bytes. SpellsUleb bytes 0) (λ bytes. SpellsUleb bytes 0)

-- the pairs in order, and their end
abbrev pub SpellsPairs : List ℕ → List Pair → Type 0
SpellsPairs bytes pairs = SpellsItems IsPair EndsPairs [] pairs bytes

abbrev pub children_byte : Bool → ℕ
children_byte true = 1
children_byte false = 0

-- a code other than 0, a tag, a byte that says whether there are children, and the pairs
pub record SpellsDeclaration (bytes : List ℕ) (d : Declaration) : Type 0 where
  pub code_bytes : List ℕ
  pub code : SpellsUleb code_bytes d.code
  pub some_code : 0 < d.code
  pub tag_bytes : List ℕ
  pub tag : SpellsUleb tag_bytes d.tag
  pub some_tag : 0 < d.tag
  pub tag_fits : d.tag ≤ 0xffff
  pub pairs_bytes : List ℕ
  pub pairs : SpellsPairs pairs_bytes d.pairs
  pub parts : bytes ≡ code_bytes ++ (tag_bytes ++ (children_byte d.children ∷ pairs_bytes))

-- a declaration whose code none before it has
pub record IsDeclared (earlier : List Declaration) (bytes : List ℕ) (d : Declaration) : Type 0 where
  pub spelled : SpellsDeclaration bytes d
  pub is_new : find_decl earlier d.code ≡ None

-- the code 0
abbrev pub EndsTable : List ℕ → Type 0
EndsTable bytes = SpellsUleb bytes 0

-- declarations with different codes, and the code 0
abbrev pub SpellsTable : List ℕ → List Declaration → Type 0
SpellsTable bytes table = SpellsItems IsDeclared EndsTable [] table bytes

-- ---- reading a table; each fault is placed at the declaration

abbrev pub whole : {X : Type 0} → ℕ → Result X ByteErr → Result X Fault
whole start (Ok x) = Ok x
whole start (Err e) = Err (bad_abbrev start)

-- goes on unless a test fails
abbrev pub unless : Bool → ℕ → Result (Unit {0}) Fault
unless true start = Err (bad_abbrev start)
unless false start = Ok tt

abbrev pub constant_at : ℕ → ℕ → Input → Result (ℤ × Input) Fault
constant_at start form i = if form == 0x21 then whole start (sleb_at i) else Ok (pos 0, i)

abbrev pub named_pair : ℕ → ℕ → ℤ × Input → Result (Option Pair × Input) Fault
named_pair name form constant = Ok (Some (record { name = name; form = form; constant = constant.0 }), constant.1)

-- one of name and form is 0, or the name is too great
abbrev pub is_bad_pair : ℕ → ℕ → Bool
is_bad_pair name form = name == 0 || (form == 0 || nat_lt 0xffff name)

abbrev pub after_test : ℕ → ℕ → ℕ × Input → Unit {0} → Result (Option Pair × Input) Fault
after_test start name form good = constant_at start form.0 form.1 >>= named_pair name form.0

abbrev pub after_form : ℕ → ℕ → ℕ × Input → Result (Option Pair × Input) Fault
after_form start name form =
    if name == 0 && form.0 == 0 then Ok (None, form.1) else (unless (is_bad_pair name form.0) start >>= after_test start name form)

abbrev pub after_name : ℕ → ℕ × Input → Result (Option Pair × Input) Fault
after_name start name = whole start (uleb_at name.1) >>= after_form start name.0

-- a pair, or their end
unfoldable pub pair_at : ℕ → Input → Result (Option Pair × Input) Fault
pair_at start i = whole start (uleb_at i) >>= after_name start

abbrev pub pair_item : ℕ → List Pair → Input → Result (Option Pair × Input) Fault
pair_item start earlier = pair_at start

abbrev pub pairs_at : ℕ → List Pair → Input → Result (List Pair × Input) Fault
pairs_at start = items_at (pair_item start) (bad_abbrev start)

abbrev pub declared : ℕ → ℕ → ℕ → List Pair × Input → Result (Option Declaration × Input) Fault
declared code tag children pairs = Ok (Some (record { code = code; tag = tag; children = children == 1; pairs = pairs.0 }), pairs.1)

abbrev pub is_some_decl : Option Declaration → Bool
is_some_decl None = false
is_some_decl (Some d) = true

-- the tag is 0 or too great, the byte for children is neither 0 nor 1, or the code is known
abbrev pub is_bad_decl : List Declaration → ℕ → ℕ → ℕ → Bool
is_bad_decl earlier code tag children = tag == 0 || (nat_lt 0xffff tag || (nat_lt 1 children || is_some_decl (find_decl earlier code)))

abbrev pub with_pairs : ℕ → ℕ → ℕ → ℕ × Input → Unit {0} → Result (Option Declaration × Input) Fault
with_pairs start code tag children good = pairs_at start [] children.1 >>= declared code tag children.0

abbrev pub after_children_flag : List Declaration → ℕ → ℕ → ℕ → ℕ × Input → Result (Option Declaration × Input) Fault
after_children_flag earlier start code tag children =
    unless (is_bad_decl earlier code tag children.0) start >>= with_pairs start code tag children

abbrev pub after_tag : List Declaration → ℕ → ℕ → ℕ × Input → Result (Option Declaration × Input) Fault
after_tag earlier start code tag = whole start (fixed_at 1 tag.1) >>= after_children_flag earlier start code tag.0

abbrev pub after_declaration_code : List Declaration → ℕ → ℕ × Input → Result (Option Declaration × Input) Fault
after_declaration_code earlier start code = if code.0 == 0 then Ok (None, code.1) else (whole start (uleb_at code.1) >>= after_tag earlier
    start code.0)

-- a declaration behind those before it, or the end of the table
unfoldable pub declaration_at : List Declaration → Input → Result (Option Declaration × Input) Fault
declaration_at earlier i = whole i.at (uleb_at i) >>= after_declaration_code earlier i.at

abbrev pub declarations_read : List Declaration × Input → Result (List Declaration) Fault
declarations_read table = Ok table.0

-- the declarations from an input on, those before it among them; the last argument of items_at is never answered
abbrev pub declarations_at : List Declaration → Input → Result (List Declaration × Input) Fault
declarations_at = items_at declaration_at (bad_abbrev 0)

-- the table at an offset of the section
unfoldable pub table_at : List ℕ → ℕ → Result (List Declaration) Fault
table_at section at = declarations_at [] (input section at) >>= declarations_read

-- ---- where no table is read

-- From the table's offset on declarations stand up to this place, and there neither a declaration with a new code nor the end
-- stands. Where the offset is past the end of the section, it is the place.
pub record IsBadTable (section : List ℕ) (at place : ℕ) : Type 0 where
  pub behind : ℕ
  pub breaks_off : BreaksOff IsDeclared EndsTable (drop at section) behind
  pub here : place ≡ at + behind

-- ---- what is written of a table: numbers in their shortest spelling

abbrev pub constant_bytes : Pair → List ℕ
constant_bytes pair = if pair.form == 0x21 then sleb pair.constant else []

abbrev pub pair_bytes : Pair → List ℕ
pair_bytes pair = uleb pair.name ++ (uleb pair.form ++ constant_bytes pair)

unfoldable pub pairs_bytes : List Pair → List ℕ
pairs_bytes [] = 0 ∷ 0 ∷ []
pairs_bytes (pair ∷ pairs) = pair_bytes pair ++ pairs_bytes pairs

abbrev pub declaration_bytes : Declaration → List ℕ
declaration_bytes d = uleb d.code ++ (uleb d.tag ++ (children_byte d.children ∷ pairs_bytes d.pairs))

unfoldable pub table_bytes : List Declaration → List ℕ
table_bytes [] = 0 ∷ []
table_bytes (d ∷ table) = declaration_bytes d ++ table_bytes table

-- ---- which tables can be spelled

-- neither the name nor the form is 0, and a constant stands only with the form `DW_FORM_implicit_const`
pub record IsPlainPair (pair : Pair) : Type 0 where
  pub some_name : 0 < pair.name
  pub some_form : 0 < pair.form
  pub no_constant : pair.form ≢ 0x21 → pair.constant ≡ pos 0

-- the same, and its numbers are not too great
pub record FitsPair (pair : Pair) : Type 0 where
  pub plain : IsPlainPair pair
  pub name_fits : pair.name ≤ 0xffff
  pub form_fits : pair.form < 2 ^ 64
  pub constant_fits : fits_i64 pair.constant ≡ true

pub record FitsDeclaration (d : Declaration) : Type 0 where
  pub some_code : 0 < d.code
  pub code_fits : d.code < 2 ^ 64
  pub some_tag : 0 < d.tag
  pub tag_fits : d.tag ≤ 0xffff
  pub pairs : All FitsPair d.pairs

-- each declaration can be spelled, and their codes differ
pub record FitsTable (table : List Declaration) : Type 0 where
  pub each : All FitsDeclaration table
  pub different : AllPairs (λ d e. d.code ≢ e.code) table

-- ---- tables that are made

-- a declaration but for its code
pub record EntryShape : Type 0 where
  pub tag : ℕ
  pub children : Bool
  pub pairs : List Pair

-- the declaration of a shape under a code
abbrev pub with_code : EntryShape → ℕ → Declaration
with_code shape code = record { code = code; tag = shape.tag; children = shape.children; pairs = shape.pairs }

-- No code is above the number of declarations. Where codes differ and none is 0, they are then 1 to that number.
abbrev pub IsCounted : List Declaration → Type 0
IsCounted table = All (λ d. d.code ≤ length table) table

-- a declaration among others by ascending code
abbrev pub insert_decl : Declaration → List Declaration → List Declaration
insert_decl d [] = d ∷ []
insert_decl d (e ∷ table) = if nat_lt e.code d.code then e ∷ insert_decl d table else d ∷ e ∷ table

-- the declarations by ascending code
unfoldable pub by_code : List Declaration → List Declaration
by_code [] = []
by_code (d ∷ table) = insert_decl d (by_code table)
