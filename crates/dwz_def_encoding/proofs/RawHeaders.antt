-- The bytes of headers spell them.
use Rattle.std.proofs.Common.{◌≡◌, ℕ, ◌-◌, ◌<◌, ◌≤◌, ◌^◌, Bool, true, List, [], ◌∷◌, ◌++◌, length, refl, sym, ap, ◌∙◌, append_assoc, arith, ◌&&◌, ◌||◌, false}
use Rattle.std.proofs.lemmas.List.{length-append}
use Rattle.dwz_def_reading.specs.Spelling.{le_bytes, le_value}
use Rattle.dwz_def_reading.proofs.FixedLemmas.{fixed_written}
use Rattle.dwz_def_reading.specs.Documents.{Compile, DwUnit, Kind, OfType, Partial}
use Rattle.dwz_def_reading.specs.Entries.{Mode}
use Rattle.dwz_def_reading.specs.Units.{CompileUnit, PartialUnit, SpellsHeader, TypeUnit}
use Rattle.dwz_def_encoding.specs.Fitting.{KindFits}
use Rattle.dwz_def_encoding.specs.Sound.{SoundKind}
use Rattle.dwz_def_encoding.specs.Writing.{Numbering, written_header_size, kind_bytes, type_of, tree_bytes, unit_bytes, written_unit_size}
use Rattle.dwz_def_encoding.proofs.RawUnits.{raw_kind}
use Rattle.dwz_def_encoding.proofs.WriteLengths.{le_len}

-- a header by what stands in it
abbrev pub header_bytes : {K : Type 0} → Numbering K → ℕ → ℕ → ℕ → Kind K → List ℕ
header_bytes n unit offset size kind = le_bytes 4 (size - 4) ++ (le_bytes 2 5 ++ (type_of kind ∷ 8 ∷ [] ++ (le_bytes 4 offset ++ kind_bytes n unit kind)))

four_value : (x : ℕ) → x < 2 ^ 32 → le_value (le_bytes 4 x) ≡ x
four_value x lt = sym (fixed_written 4 x (omega (arith, lt))).value

eight_value : (x : ℕ) → x < 2 ^ 64 → le_value (le_bytes 8 x) ≡ x
eight_value x lt = sym (fixed_written 8 x (omega (arith, lt))).value

compile_spelled : (mode : Mode) (size offset : ℕ) → mode.whole ≡ true → 4 ≤ size → size < 2 ^ 32 - 16 → offset < 2 ^ 32
    → SpellsHeader mode CompileUnit size offset (le_bytes 4 (size - 4) ++ (le_bytes 2 5 ++ (1 ∷ 8 ∷ [] ++ (le_bytes 4 offset ++ []))))
unfolding le_bytes
compile_spelled mode size offset whole some lt small =
    let len = four_value (size - 4) (omega (arith, lt)) in
    let at = four_value offset small in
    record {
      size = refl;
      unit_length = omega (arith, len, some);
      is_32_bit = omega (arith, len, lt);
      version = refl;
      unit_type = ap (λ (b : Bool). (b && true) || (mode.partial && false)) whole;
      of_kind = refl;
      address_size = refl;
      names_table = at;
    }

partial_spelled : (mode : Mode) (size offset : ℕ) → mode.whole ≡ true → mode.partial ≡ true → 4 ≤ size → size < 2 ^ 32 - 16 → offset < 2 ^ 32
    → SpellsHeader mode PartialUnit size offset (le_bytes 4 (size - 4) ++ (le_bytes 2 5 ++ (3 ∷ 8 ∷ [] ++ (le_bytes 4 offset ++ []))))
unfolding le_bytes
partial_spelled mode size offset whole partial some lt small =
    let len = four_value (size - 4) (omega (arith, lt)) in
    let at = four_value offset small in
    record {
      size = refl;
      unit_length = omega (arith, len, some);
      is_32_bit = omega (arith, len, lt);
      version = refl;
      unit_type = ap (λ (b : Bool). (b && false) || (mode.partial && true)) whole ∙ ap (λ (b : Bool). b && true) partial;
      of_kind = refl;
      address_size = refl;
      names_table = at;
    }

type_spelled : (mode : Mode) (signature main size offset : ℕ) → mode.whole ≡ true → signature < 2 ^ 64 → main < 2 ^ 32 → 4 ≤ size → size < 2 ^ 32 - 16 → offset < 2 ^ 32
    → SpellsHeader mode (TypeUnit signature main) size offset (le_bytes 4 (size - 4) ++ (le_bytes 2 5 ++ (2 ∷ 8 ∷ [] ++ (le_bytes 4 offset ++ (le_bytes 8 signature ++ le_bytes 4 main)))))
unfolding le_bytes
type_spelled mode signature main size offset whole sig_fits main_fits some lt small =
    let len = four_value (size - 4) (omega (arith, lt)) in
    let at = four_value offset small in
    let sig = eight_value signature sig_fits in
    let type = four_value main main_fits in
    record {
      size = refl;
      unit_length = omega (arith, len, some);
      is_32_bit = omega (arith, len, lt);
      version = refl;
      unit_type = ap (λ (b : Bool). (b && true) || (mode.partial && false)) whole;
      of_kind = ap (λ (x : ℕ). TypeUnit x main) (sym sig) ∙ ap (λ (x : ℕ). TypeUnit (le_value (le_bytes 8 signature)) x) (sym type);
      address_size = refl;
      names_table = at;
    }

module _ {K : Type 0} (n : Numbering K) (unit : ℕ) where
  pub header_spelled : (kind : Kind K) (tag : ℕ) (mode : Mode) (size offset : ℕ) → SoundKind kind tag → KindFits n unit kind → mode.whole ≡ true → mode.partial ≡ true → 4 ≤ size → size < 2 ^ 32 - 16
      → offset < 2 ^ 32
      → SpellsHeader mode (raw_kind n unit kind) size offset (header_bytes n unit offset size kind)
  header_spelled Compile tag mode size offset s fits whole partial some lt small = compile_spelled mode size offset whole some lt small
  header_spelled (OfType signature main) tag mode size offset s fits whole partial some lt small = type_spelled mode signature (n.place main - unit) size offset whole s.1 fits.1 some lt small
  header_spelled Partial tag mode size offset s fits whole partial some lt small = partial_spelled mode size offset whole partial some lt small

  pub header_len : (kind : Kind K) (offset size : ℕ) → length (header_bytes n unit offset size kind) ≡ written_header_size kind
  header_len Compile offset size = simp (length-append, le_len) refl
  header_len (OfType signature main) offset size = simp (length-append, le_len) refl
  header_len Partial offset size = simp (length-append, le_len) refl

  pub unit_parts : (offset : ℕ) (u : DwUnit K) → unit_bytes n offset unit u ≡ header_bytes n unit offset (written_unit_size n unit u) u.kind ++ tree_bytes n unit u
  unfolding unit_bytes
  unit_parts offset u = simp append_assoc refl

  pub unit_len : (offset : ℕ) (u : DwUnit K) → length (unit_bytes n offset unit u) ≡ written_unit_size n unit u
  unit_len offset u =
      let header = header_len u.kind offset (written_unit_size n unit u) in
      ap length (unit_parts offset u) ∙ length-append (header_bytes n unit offset (written_unit_size n unit u) u.kind) (tree_bytes n unit u) ∙ omega (arith, header)
