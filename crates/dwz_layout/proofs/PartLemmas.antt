-- The parts of an expression: as many operands as are read, and with whichever numbers they are as long as what was read.
use Rattle.std.proofs.Common.{◌≡◌, ℕ, zero, suc, ◌+◌, ◌-◌, List, [], ◌∷◌, length, drop, Result, Ok, Err, refl, sym, ap, subst, ◌∙◌, append-nil, arith}
use Rattle.dwz_model.specs.declared.fault.Fault.{Fault}
use Rattle.dwz_model.specs.declared.fault.ReadErr.{ReadErr}
use Rattle.dwz_model.specs.declared.fault.ReadErr.TheVariants.{Refused}
use Rattle.dwz_def_reading.specs.Entries.{RawAttr}
use Rattle.dwz_expr.specs.FirstFault.{ReadsInto}
use Rattle.dwz_def_reading.specs.declared.exprs.Operand.{Operand}
use Rattle.dwz_def_reading.specs.Documents.{Part, Same}
use Rattle.dwz_def_reading.specs.Documents as document
use Rattle.dwz_def_reading.specs.Exprs.{Expression, any_operands, expr_at, parts_from}
use Rattle.dwz_def_reading.specs.Meanings.{block_begins, bytes_of}
use Rattle.dwz_def_reading.specs.Patching.{filled}
use Rattle.dwz_def_reading.proofs.ExprLemmas.{expr_agrees}
use Rattle.dwz_def_reading.proofs.PatchedLemmas.{patched_length}
use Rattle.dwz_layout.specs.declared.known.EntryTable.{EntryTable}
use Rattle.dwz_layout.specs.Attributes.{Numbers, expr_parts, operand_count, operand_numbers, parts_or, references_from}

pub count_from : (at : ℕ) (bytes : List ℕ) (os : List Operand) → operand_count (parts_from at bytes os) ≡ length os
unfolding operand_count parts_from
count_from at bytes [] = refl
count_from at bytes (o ∷ os) = ap suc (count_from (o.at + o.width) (drop (o.at + o.width - at) bytes) os)

pub none_from : (at : ℕ) (bytes : List ℕ) → parts_from at bytes [] ≡ Same bytes ∷ []
unfolding parts_from
none_from at bytes = refl

pub references_many : (k : EntryTable) (file n count : ℕ) → length (references_from k file n count) ≡ count
unfolding references_from
references_many k file n zero = refl
references_many k file n (suc count) = ap suc (references_many k file (n + 1) count)

pub numbers_many : (n : Numbers) (parts : List Part) (numbers : List ℕ) → length numbers ≡ operand_count parts → length (operand_numbers n parts numbers) ≡ operand_count parts
unfolding operand_numbers operand_count
numbers_many n [] numbers many = refl
numbers_many n (Same bytes ∷ parts) numbers many = numbers_many n parts numbers many
numbers_many n (document.Operand width uleb base ∷ parts) [] many = absurd (omega (arith, many))
numbers_many n (document.Operand width uleb base ∷ parts) (x ∷ numbers) many = ap suc (numbers_many n parts numbers (omega (arith, many)))

same_len : (bytes numbers : List ℕ) → length (filled (Same bytes ∷ []) numbers) ≡ length bytes
unfolding filled
same_len bytes numbers = ap (λ (w : List ℕ). length w) (append-nil bytes)

pub parts_len : (at : ℕ) (bytes numbers : List ℕ) (r : Result Expression Fault) → expr_at (any_operands 1) (record { at = at; rest = bytes }) ≡ r → length numbers ≡ operand_count (parts_or bytes r)
    → length (filled (parts_or bytes r) numbers) ≡ length bytes
unfolding operand_count
parts_len at bytes numbers (Ok e) is many =
    patched_length (any_operands 1) e at bytes numbers (((expr_agrees (any_operands 1) (record { at = at; rest = bytes })).ok e).0 is) (many ∙ count_from e.at e.bytes e.operands)
parts_len at bytes numbers (Err f) is many = same_len bytes numbers

-- the expression that an attribute stores, with the numbers of what it names
pub expr_len : (k : EntryTable) (file next : ℕ) (n : Numbers) (a : RawAttr)
    → length (filled (expr_parts a) (operand_numbers n (expr_parts a) (references_from k file next (operand_count (expr_parts a)))))
    ≡ length (bytes_of a.raw)
expr_len k file next n a =
    let parts = expr_parts a in
    parts_len (block_begins a) (bytes_of a.raw) (operand_numbers n parts (references_from k file next (operand_count parts)))
    (expr_at (any_operands 1) (record { at = block_begins a; rest = bytes_of a.raw })) refl
    (numbers_many n parts (references_from k file next (operand_count parts)) (references_many k file next (operand_count parts)))

-- bytes that are no expression are one part
pub refused_parts : (at : ℕ) (bytes : List ℕ) (start : ℕ) → start ≡ at → (f : Fault) (e : ReadErr) → e ≡ Refused f → (found : List Operand)
    → ReadsInto 1 (record { at = start; rest = bytes }) found (Err e) → (os : List Operand) → os ≡ []
    → parts_from at bytes os ≡ parts_or bytes (expr_at (any_operands 1) (record { at = at; rest = bytes }))
refused_parts at bytes start same f e is found reads os none =
    let fault = (subst (λ (x : ReadErr). ReadsInto 1 (record { at = start; rest = bytes }) found (Err x)) is reads).0 in
    ap (parts_from at bytes) none
    ∙ none_from at bytes
    ∙ sym (ap (λ (s : ℕ). parts_or bytes (expr_at (any_operands 1) (record { at = s; rest = bytes }))) (sym same) ∙ ap (parts_or bytes) fault)
