-- Headers of units: the tests are passed exactly where a header is spelled, and what a header says is said by its bytes alone.
-- And the zero bytes behind a tree.
use Rattle.std.proofs.Common.{◌≡◌, ◌≢◌, ℕ, suc, ◌+◌, ◌<◌, ◌≤◌, Bool, true, false, cond, eqb, ltb, List, [], ◌∷◌, ◌++◌, length, take, drop, Option, Some, None, refl, sym, ap, subst, ◌∙◌}
use Rattle.std.proofs.Common.{append_assoc, arith}
use Rattle.std.specs.Prelude.{◌&&◌, ◌||◌, not}
use Rattle.std.proofs.lemmas.Bool.{eq-eqb, eqb-false, eqb-true, le-ltb, lt-ltb, ltb-false, ltb-true, ne_eqb, not-false, or_parts}
use Rattle.std.proofs.lemmas.List.{drop-append-le, length-append, length-drop, length-take, take-append-drop, take-append-le}
use Rattle.dwz_model.specs.declared.fault.Reason.{Reason}
use Rattle.dwz_bytes.specs.Input.{Input}
use Rattle.dwz_bytes.specs.Spelling.{le_value}
use Rattle.dwz_bytes.proofs.LebLemmas.{drop-front, take-front}
use Rattle.dwz_def_reading.specs.Entries.{Mode}
use Rattle.dwz_def_reading.specs.Units.{AreZeros, CompileUnit, HeaderTest, IsOtherByte, PartialUnit, RawKind, SpellsHeader, TypeUnit, address_size, behind_header, debug_abbrev_offset, field}
use Rattle.dwz_def_reading.specs.FirstOf.{◌or◌, of_first}
use Rattle.dwz_def_reading.specs.Units.{reason_if_failed}
use Rattle.dwz_def_reading.specs.Units.{header_reason, header_size, header_tests, is_read, kind_by, kind_of, unit_length, unit_size, unit_type, version, zero_count}
use Rattle.dwz_def_reading.proofs.EntryLemmas.{second_false}

-- ---- tests

-- no test fails
abbrev ArePassed : List HeaderTest → Type 0
ArePassed [] = Unit {0}
ArePassed (t ∷ tests) = (t.fails ≡ false) × ArePassed tests

abbrev first_reason : HeaderTest → List HeaderTest → Bool → Option Reason
first_reason t tests fails = cond fails (Some t.reason) None or of_first reason_if_failed tests

head_passed : (t : HeaderTest) (tests : List HeaderTest) (b : Bool) → first_reason t tests b ≡ None
    → (b ≡ false) × (of_first reason_if_failed tests ≡ None)
head_passed t tests true e = absurd (cc)
head_passed t tests false e = (refl, e)

none_failed : (tests : List HeaderTest) → of_first reason_if_failed tests ≡ None → ArePassed tests
none_failed [] e = tt
none_failed (t ∷ tests) e = let p = head_passed t tests t.fails e in (p.0, none_failed tests p.1)

all_passed : (tests : List HeaderTest) → ArePassed tests → of_first reason_if_failed tests ≡ None
all_passed [] are = refl
all_passed (t ∷ tests) are = ap (first_reason t tests) are.0 ∙ all_passed tests are.1

false_or : (a b : Bool) → a ≡ false → b ≡ false → (a || b) ≡ false
false_or a b p q = ap (λ (x : Bool). x || b) p ∙ q

-- ---- what the tests say

-- the bytes begin with a header that passes all tests
pub record HasHeader (mode : Mode) (bytes : List ℕ) : Type 0 where
  pub is_32_bit : unit_length bytes < 0xfffffff0
  pub within : unit_size bytes ≤ length bytes
  pub some : 12 ≤ unit_size bytes
  pub right_version : version bytes ≡ 5
  pub known_type : is_read mode (unit_type bytes) ≡ true
  pub wide : address_size bytes ≡ 8
  pub all : unit_type bytes ≡ 2 → 24 ≤ unit_size bytes

type_room : (n size : ℕ) → (eqb n 2 && ltb size 24) ≡ false → n ≡ 2 → 24 ≤ size
type_room n size e is = ltb-false size 24 (second_false (eqb n 2) (ltb size 24) e (eq-eqb n 2 is))

room_type : (n size : ℕ) → (n ≡ 2 → 24 ≤ size) → (eqb n 2 && ltb size 24) ≡ false
room_type n size room = by (eqb n 2) refl where
  by : (b : Bool) → eqb n 2 ≡ b → (b && ltb size 24) ≡ false
  by false e = refl
  by true e = le-ltb size 24 (room (eqb-true n 2 e))

not_less : (a b : ℕ) → not (ltb a b) ≡ false → a < b
not_less a b e = ltb-true a b (not-false (ltb a b) e)

less_not : (a b : ℕ) → a < b → not (ltb a b) ≡ false
less_not a b lt = ap not (lt-ltb a b lt)

pub header_passed : (mode : Mode) (bytes : List ℕ) → header_reason mode bytes ≡ None → HasHeader mode bytes
unfolding header_reason
header_passed mode bytes e =
    let p = none_failed (header_tests mode bytes) e in
    let size = or_parts (ltb (length bytes) (unit_size bytes)) (ltb (unit_size bytes) 12) p.1.1.0 in
    record {
      is_32_bit = not_less (unit_length bytes) 0xfffffff0 p.1.0;
      within = ltb-false (length bytes) (unit_size bytes) size.0;
      some = ltb-false (unit_size bytes) 12 size.1;
      right_version = eqb-true (version bytes) 5 (not-false (eqb (version bytes) 5) p.1.1.1.0);
      known_type = not-false (is_read mode (unit_type bytes)) p.1.1.1.1.0;
      wide = eqb-true (address_size bytes) 8 (not-false (eqb (address_size bytes) 8) p.1.1.1.1.1.0);
      all = type_room (unit_type bytes) (unit_size bytes) p.1.1.1.1.1.1.0;
    }

pub header_passes : (mode : Mode) (bytes : List ℕ) → HasHeader mode bytes → header_reason mode bytes ≡ None
unfolding header_reason
header_passes mode bytes h =
    let long : 4 ≤ length bytes = omega (arith, h.within, h.some) in
    all_passed (header_tests mode bytes) (
      le-ltb (length bytes) 4 long,
      (
        less_not (unit_length bytes) 0xfffffff0 h.is_32_bit,
        (
          false_or (ltb (length bytes) (unit_size bytes)) (ltb (unit_size bytes) 12) (le-ltb (length bytes) (unit_size bytes) h.within) (le-ltb (unit_size bytes) 12 h.some),
          (
            ap not (eq-eqb (version bytes) 5 h.right_version),
            (
              ap not h.known_type,
              (
                ap not (eq-eqb (address_size bytes) 8 h.wide),
                (room_type (unit_type bytes) (unit_size bytes) h.all, tt),
              ),
            ),
          ),
        ),
      ),
    )

-- ---- what follows a header doesn't change what it says

pub field-append : (at width : ℕ) (front rest : List ℕ) → at + width ≤ length front → field at width (front ++ rest) ≡ field at width front
field-append at width front rest le =
    let dropped : drop at (front ++ rest) ≡ drop at front ++ rest = drop-append-le at front rest (omega (arith, le)) in
    let taken : take width (drop at front ++ rest) ≡ take width (drop at front) = take-append-le width (drop at front) rest (omega (arith, length-drop at front, le)) in
    ap (λ (w : List ℕ). le_value (take width w)) dropped ∙ ap le_value taken

pub header_some : (kind : RawKind) → 12 ≤ header_size kind
header_some CompileUnit = omega arith
header_some (TypeUnit signature type_offset) = omega arith
header_some PartialUnit = omega arith

-- how long a header is depends on the type alone
size_by : (b d : Bool) (x y : List ℕ) → header_size (kind_by b d x) ≡ header_size (kind_by b d y)
size_by true d x y = refl
size_by false true x y = refl
size_by false false x y = refl

kind_by-append : (b d : Bool) (front rest : List ℕ) → header_size (kind_by b d front) ≤ length front → kind_by b d (front ++ rest) ≡ kind_by b d front
kind_by-append true d front rest le =
    let signature : field 12 8 (front ++ rest) ≡ field 12 8 front = field-append 12 8 front rest (omega (arith, le)) in
    let type_offset : field 20 4 (front ++ rest) ≡ field 20 4 front = field-append 20 4 front rest (omega (arith, le)) in
    ap (λ (n : ℕ). TypeUnit n (field 20 4 (front ++ rest))) signature ∙ ap (λ (n : ℕ). TypeUnit (field 12 8 front) n) type_offset
kind_by-append false true front rest le = refl
kind_by-append false false front rest le = refl

type-append : (front rest : List ℕ) → 12 ≤ length front → unit_type (front ++ rest) ≡ unit_type front
type-append front rest le = field-append 6 1 front rest (omega (arith, le))

kind-append : (front rest : List ℕ) → 12 ≤ length front → header_size (kind_of front) ≤ length front → kind_of (front ++ rest) ≡ kind_of front
kind-append front rest le all =
    ap (λ (n : ℕ). kind_by (eqb n 2) (eqb n 3) (front ++ rest)) (type-append front rest le) ∙ kind_by-append (eqb (unit_type front) 2) (eqb (unit_type front) 3) front rest all

-- the header's size, from all bytes or from the header alone
size-append : (front rest : List ℕ) → 12 ≤ length front → header_size (kind_of (front ++ rest)) ≡ header_size (kind_of front)
size-append front rest le =
    ap (λ (n : ℕ). header_size (kind_by (eqb n 2) (eqb n 3) (front ++ rest))) (type-append front rest le) ∙ size_by (eqb (unit_type front) 2) (eqb (unit_type front) 3) (front ++ rest) front

-- the header fits into the unit
size_within : (mode : Mode) (bytes : List ℕ) → HasHeader mode bytes → header_size (kind_of bytes) ≤ unit_size bytes
size_within mode bytes h = by (eqb (unit_type bytes) 2) (eqb (unit_type bytes) 3) refl where
  by : (b d : Bool) → eqb (unit_type bytes) 2 ≡ b → header_size (kind_by b d bytes) ≤ unit_size bytes
  by true d e = h.all (eqb-true (unit_type bytes) 2 e)
  by false true e = h.some
  by false false e = h.some

-- ---- a header that passes is spelled

-- the bytes of a unit, as its header says: the header, and what is behind it
pub record Headed (mode : Mode) (i : Input) : Type 0 where
  pub bytes : List ℕ
  pub is_unit : take (unit_size i.rest) i.rest ≡ bytes
  pub len : length bytes ≡ unit_size i.rest
  pub header : List ℕ
  pub size : length header ≡ header_size (kind_of i.rest)
  pub is_header : SpellsHeader mode (kind_of i.rest) (unit_size i.rest) (debug_abbrev_offset i.rest) header
  pub parts : bytes ≡ header ++ (behind_header i).rest

-- what all bytes say the header alone says
header_says : (mode : Mode) (header rest : List ℕ) → length header ≡ header_size (kind_of (header ++ rest)) → HasHeader mode (header ++ rest)
    → SpellsHeader mode (kind_of (header ++ rest)) (unit_size (header ++ rest)) (debug_abbrev_offset (header ++ rest)) header
header_says mode header rest len h =
    let some : 12 ≤ length header = omega (arith, len, header_some (kind_of (header ++ rest))) in
    let of_len = field-append 0 4 header rest (omega (arith, some)) in
    let of_type = type-append header rest some in
    let size = size-append header rest some in
    record {
      size = len;
      unit_length = ap (λ (n : ℕ). n + 4) (sym of_len);
      is_32_bit = subst (λ (n : ℕ). n < 0xfffffff0) of_len h.is_32_bit;
      version = sym (field-append 4 2 header rest (omega (arith, some))) ∙ h.right_version;
      unit_type = ap (is_read mode) (sym of_type) ∙ h.known_type;
      of_kind = kind-append header rest some (omega (arith, len, size));
      address_size = sym (field-append 7 1 header rest (omega (arith, some))) ∙ h.wide;
      names_table = sym (field-append 8 4 header rest (omega (arith, some)));
    }

pub header_found : (mode : Mode) (i : Input) → HasHeader mode i.rest → Headed mode i
header_found mode i h =
    let size = unit_size i.rest in
    let skip = header_size (kind_of i.rest) in
    let bytes = take size i.rest in
    let header = take skip bytes in
    let len : length bytes ≡ size = omega (arith, length-take size i.rest, h.within) in
    let head : length header ≡ skip = omega (arith, length-take skip bytes, len, size_within mode i.rest h) in
    let parts : header ++ drop skip bytes ≡ bytes = take-append-drop skip bytes in
    let whole : i.rest ≡ header ++ (drop skip bytes ++ drop size i.rest) =
    sym (take-append-drop size i.rest) ∙ ap (λ (w : List ℕ). w ++ drop size i.rest) (sym parts) ∙ append_assoc header (drop skip bytes) (drop size i.rest) in
    let says = header_says mode header (drop skip bytes ++ drop size i.rest) (head ∙ ap (λ (w : List ℕ). header_size (kind_of w)) whole) (subst (HasHeader mode) whole h) in
    record {
      bytes = bytes;
      is_unit = refl;
      len = len;
      header = header;
      size = head;
      is_header = subst (λ (w : List ℕ). SpellsHeader mode (kind_of w) (unit_size w) (debug_abbrev_offset w) header) (sym whole) says;
      parts = sym parts;
    }

-- ---- a header that is spelled passes

-- what the bytes of a unit say, whatever follows
pub record Says (mode : Mode) (kind : RawKind) (offset : ℕ) (bytes header behind rest : List ℕ) : Type 0 where
  pub passes : header_reason mode (bytes ++ rest) ≡ None
  pub size : unit_size (bytes ++ rest) ≡ length bytes
  pub kind_is : kind_of (bytes ++ rest) ≡ kind
  pub table : debug_abbrev_offset (bytes ++ rest) ≡ offset
  pub is_unit : take (unit_size (bytes ++ rest)) (bytes ++ rest) ≡ bytes
  pub is_behind : drop (header_size (kind_of (bytes ++ rest))) (take (unit_size (bytes ++ rest)) (bytes ++ rest)) ≡ behind

pub header_again : (mode : Mode) (kind : RawKind) (offset : ℕ) (bytes header behind rest : List ℕ) → SpellsHeader mode kind (length bytes) offset header → bytes ≡ header ++ behind
    → Says mode kind offset bytes header behind rest
header_again mode kind offset bytes header behind rest is parts =
    let some : 12 ≤ length header = omega (arith, is.size, header_some kind) in
    let all : header_size (kind_of header) ≤ length header = omega (arith, is.size, ap header_size is.of_kind) in
    let whole : bytes ++ rest ≡ header ++ (behind ++ rest) = ap (λ (w : List ℕ). w ++ rest) parts ∙ append_assoc header behind rest in
    let said : (at width : ℕ) → at + width ≤ 12 → field at width (bytes ++ rest) ≡ field at width header =
    λ at width le. ap (field at width) whole ∙ field-append at width header (behind ++ rest) (omega (arith, le, some)) in
    let of_len = said 0 4 (omega arith) in
    let size : unit_size (bytes ++ rest) ≡ length bytes = ap (λ (n : ℕ). n + 4) of_len ∙ is.unit_length in
    let kind_is : kind_of (bytes ++ rest) ≡ kind = ap kind_of whole ∙ kind-append header (behind ++ rest) some all ∙ sym is.of_kind in
    let long : length header ≤ length bytes = omega (arith, ap length parts, length-append header behind) in
    let is_unit : take (unit_size (bytes ++ rest)) (bytes ++ rest) ≡ bytes = ap (λ (n : ℕ). take n (bytes ++ rest)) size ∙ take-front bytes rest in
    let type_is = said 6 1 (omega arith) in
    let has : HasHeader mode (bytes ++ rest) = record {
      is_32_bit = subst (λ (n : ℕ). n < 0xfffffff0) (sym of_len) is.is_32_bit;
      within = omega (arith, size, length-append bytes rest);
      some = omega (arith, size, some, long);
      right_version = said 4 2 (omega arith) ∙ is.version;
      known_type = ap (is_read mode) type_is ∙ is.unit_type;
      wide = said 7 1 (omega arith) ∙ is.address_size;
      all = λ two.
          let of_type : header_size (kind_of (bytes ++ rest)) ≡ 24 = ap (λ (b : Bool). header_size (kind_by b (eqb (unit_type (bytes ++ rest)) 3) (bytes ++ rest)))
          (eq-eqb (unit_type (bytes ++ rest)) 2 two) in
          omega (arith, of_type, ap header_size kind_is, is.size, long, size);
    } in
    record {
      passes = header_passes mode (bytes ++ rest) has;
      size = size;
      kind_is = kind_is;
      table = said 8 4 (omega arith) ∙ is.names_table;
      is_unit = is_unit;
      is_behind =
          ap (λ (n : ℕ). drop n (take (unit_size (bytes ++ rest)) (bytes ++ rest))) (ap header_size kind_is ∙ sym is.size)
          ∙ ap (drop (length header)) (is_unit ∙ parts) ∙ drop-front header behind;
    }

-- ---- zero bytes

pub zeros_found : (bytes : List ℕ) → length bytes ≤ zero_count bytes → AreZeros bytes
unfolding zero_count
zeros_found [] le = tt
zeros_found (b ∷ bytes) le = by (zeros_found bytes) (eqb b 0) refl le where
  by : (length bytes ≤ zero_count bytes → AreZeros bytes) → (t : Bool) → eqb b 0 ≡ t → length (b ∷ bytes) ≤ cond t (suc (zero_count bytes)) 0 → AreZeros (b ∷ bytes)
  by others true e more = (eqb-true b 0 e, others (omega (arith, more)))
  by others false e more = absurd (omega (arith, more))

pub zeros_again : (bytes : List ℕ) → AreZeros bytes → zero_count bytes ≡ length bytes
unfolding zero_count
zeros_again [] are = refl
zeros_again (b ∷ bytes) are = ap (λ (t : Bool). cond t (suc (zero_count bytes)) 0) (eq-eqb b 0 are.0) ∙ ap suc (zeros_again bytes are.1)

pub other_found : (bytes : List ℕ) → zero_count bytes < length bytes → IsOtherByte bytes (zero_count bytes)
unfolding zero_count
other_found [] lt = absurd (omega (arith, lt))
other_found (b ∷ bytes) lt = by (other_found bytes) (eqb b 0) refl lt where
  by : (zero_count bytes < length bytes → IsOtherByte bytes (zero_count bytes)) → (t : Bool) → eqb b 0 ≡ t → cond t (suc (zero_count bytes)) 0 < length (b ∷ bytes)
      → IsOtherByte (b ∷ bytes) (cond t (suc (zero_count bytes)) 0)
  by others true e less =
      let more = others (omega (arith, less)) in
      record {
        front = b ∷ more.front;
        zeros = (eqb-true b 0 e, more.zeros);
        byte = more.byte;
        other = more.other;
        rest = more.rest;
        parts = ap (λ (w : List ℕ). b ∷ w) more.parts;
        place = ap suc more.place;
      }
  by others false e less = record { front = []; zeros = tt; byte = b; other = eqb-false b 0 e; rest = bytes; parts = refl; place = refl }

count_up_to : (front : List ℕ) (byte : ℕ) (rest : List ℕ) → AreZeros front → byte ≢ 0 → zero_count (front ++ byte ∷ rest) ≡ length front
unfolding zero_count
count_up_to [] byte rest are other = ap (λ (t : Bool). cond t (suc (zero_count rest)) 0) (ne_eqb byte 0 other)
count_up_to (b ∷ front) byte rest are other = ap (λ (t : Bool). cond t (suc (zero_count (front ++ byte ∷ rest))) 0) (eq-eqb b 0 are.0) ∙ ap suc (count_up_to front byte rest are.1 other)

pub other_again : (bytes : List ℕ) (behind : ℕ) → IsOtherByte bytes behind → (zero_count bytes ≡ behind) × (behind < length bytes)
other_again bytes behind is = (
  ap zero_count is.parts ∙ count_up_to is.front is.byte is.rest is.zeros is.other ∙ sym is.place,
  omega (arith, is.place, ap length is.parts, length-append is.front (is.byte ∷ is.rest)),
)
