-- No length depends on the numbers that are written.
use Rattle.std.proofs.Common.{◌≡◌, ℕ, ℤ, zero, suc, ◌/◌, List, [], ◌∷◌, length, refl, sym, ap, ◌∙◌, arith, ◌<◌}
use Rattle.std.proofs.lemmas.List.{length-append}
use Rattle.dwz_def_reading.specs.Spelling.{group_count, le_bytes, reach, uleb}
use Rattle.dwz_def_reading.proofs.PaddedLemmas.{padded_len}
use Rattle.dwz_def_reading.specs.Shape.{Shape}
use Rattle.dwz_def_reading.specs.Shape.TheVariants.{Fixed16, ZeroEnded, Block1, Block2, Block4, BlockUleb}
use Rattle.dwz_def_reading.specs.Forms.{form_rows}
use Rattle.dwz_def_reading.specs.Documents.{Attr, Compile, DwUnit, Entries, Expr, Kind, Node, OfType, Operand, Part, Partial, Plain, Same}
use Rattle.dwz_def_reading.specs.Classes.{OfCommonEntry, OfExpression, OfInfoEntry, OfUnitEntry}
use Rattle.dwz_def_reading.specs.Classes.{Class, class_of}
use Rattle.dwz_def_reading.specs.Trees.{End, Entry}
use Rattle.dwz_def_reading.specs.Values.{Bytes, Number, run_bytes, shape_of, value_bytes, written_rows}
use Rattle.dwz_def_reading.specs.ElfLayout.{too_large}
use Rattle.dwz_def_reading.specs.Lists.{Each}
use Rattle.dwz_def_encoding.specs.Sound.{SoundAttr, SoundEntries, SoundUnit, StoresAs}
use Rattle.dwz_def_reading.proofs.CutLemmas.{number_len}
use Rattle.dwz_def_tops.specs.Spots.{EntryName}
use Rattle.dwz_def_encoding.specs.Writing.{DeclarationShape as TableShape, Numbering, attrs_bytes, expr_bytes, if_any, kind_bytes, node_bytes, parts_bytes, spelled, stored, stored_as, table_of}
use Rattle.dwz_def_encoding.specs.Writing.{tree_bytes, written_unit_size}
use Rattle.dwz_def_encoding.specs.Placing.{lines_bytes, paths_of, units_with}

pub le_len : (k n : ℕ) → length (le_bytes k n) ≡ k
unfolding le_bytes
le_len zero n = refl
le_len (suc k) n = let o = le_len k (n / 256) in omega (arith, o)

-- ---- expressions

module _ {K : Type 0} (m n : Numbering K) (p q : ℕ) where
  parts_len : (parts : List Part) (refs : List K) → length (parts_bytes m p parts refs) ≡ length (parts_bytes n q parts refs)
  unfolding parts_bytes
  parts_len [] refs = refl
  parts_len (Same bytes ∷ parts) refs = (let o = parts_len parts refs in simp length-append (omega (arith, o)))
  parts_len (Operand width uleb base ∷ parts) [] = refl
  parts_len (Operand width uleb base ∷ parts) (k ∷ refs) =
      let o = parts_len parts refs in
      simp (length-append, number_len) (omega (arith, o))

  pub expr_len : (plain : Plain) (refs : List K) → length (expr_bytes m p plain refs) ≡ length (expr_bytes n q plain refs)
  expr_len (Expr parts) refs = parts_len parts refs
  expr_len _ refs = refl

-- ---- values

pub run_len : (shape : Shape) (xs ys : List ℕ) → length xs ≡ length ys → length (run_bytes shape xs) ≡ length (run_bytes shape ys)
run_len Fixed16 xs ys e = e
run_len ZeroEnded xs ys e = simp length-append (omega (arith, e))
run_len Block1 xs ys e = simp (length-append, le_len) (omega (arith, e))
run_len Block2 xs ys e = simp (length-append, le_len) (omega (arith, e))
run_len Block4 xs ys e = simp (length-append, le_len) (omega (arith, e))
run_len BlockUleb xs ys e = simp (length-append, padded_len) (let o = ap (λ (k : ℕ). group_count k) e in omega (arith, e, o))
run_len _ xs ys e = refl

-- a reference has one of the three forms that are written
abbrev pub FixedAs : {K : Type 0} → Class → Attr K → Type 0
FixedAs OfUnitEntry a = a.form ≡ 0x13
FixedAs OfInfoEntry a = a.form ≡ 0x10
FixedAs OfCommonEntry a = a.form ≡ 0x1c
FixedAs _ a = Unit {0}

abbrev pub Fixed : {K : Type 0} → Attr K → Type 0
Fixed a = FixedAs (class_of a.form) a

abbrev pub FixedNode : {K : Type 0} → Node K → Type 0
FixedNode e = Each Fixed e.attrs

abbrev pub FixedEntries : {K : Type 0} → Entries K → Type 0
FixedEntries End = Unit {0}
FixedEntries (Entry e children next) = FixedNode e × FixedEntries children × FixedEntries next

abbrev pub FixedUnit : {K : Type 0} → DwUnit K → Type 0
FixedUnit u = FixedNode u.root × FixedEntries u.below

-- four bytes each
four_unit : (x y : ℤ) → length (value_bytes 0x13 (Number x)) ≡ length (value_bytes 0x13 (Number y))
unfolding value_bytes form_rows
four_unit x y = le_len 4 (reach x) ∙ sym (le_len 4 (reach y))

four_info : (x y : ℤ) → length (value_bytes 0x10 (Number x)) ≡ length (value_bytes 0x10 (Number y))
unfolding value_bytes form_rows
four_info x y = le_len 4 (reach x) ∙ sym (le_len 4 (reach y))

four_common : (x y : ℤ) → length (value_bytes 0x1c (Number x)) ≡ length (value_bytes 0x1c (Number y))
unfolding value_bytes form_rows
four_common x y = le_len 4 (reach x) ∙ sym (le_len 4 (reach y))

expression_len : (form : ℕ) (xs ys : List ℕ) → length xs ≡ length ys → length (value_bytes form (Bytes xs)) ≡ length (value_bytes form (Bytes ys))
unfolding value_bytes
expression_len form xs ys e = run_len (shape_of written_rows form) xs ys e

module _ {K : Type 0} (m n : Numbering K) (p q : ℕ) where
  as_len : (c : Class) (a : Attr K) → FixedAs c a → length (value_bytes a.form (stored_as c m p a)) ≡ length (value_bytes a.form (stored_as c n q a))
  as_len OfUnitEntry a f = rw f (four_unit _ _)
  as_len OfInfoEntry a f = rw f (four_info _ _)
  as_len OfCommonEntry a f = rw f (four_common _ _)
  as_len OfExpression a f = expression_len a.form _ _ (expr_len m n p q a.value.plain a.value.refs)
  as_len _ a f = refl

  value_len : (a : Attr K) → Fixed a → length (value_bytes a.form (stored m p a)) ≡ length (value_bytes a.form (stored n q a))
  value_len a f = as_len (class_of a.form) a f

  pub attrs_len : (attrs : List (Attr K)) → Each Fixed attrs → length (attrs_bytes m p attrs) ≡ length (attrs_bytes n q attrs)
  unfolding attrs_bytes
  attrs_len [] f = refl
  attrs_len (a ∷ attrs) f = (let one = value_len a f.0 in let others = attrs_len attrs f.1 in simp length-append (omega (arith, one, others)))

  pub node_len : (table : List TableShape) (e : Node K) (children : Entries K) → FixedNode e → length (node_bytes m p table e children) ≡ length (node_bytes n q table e children)
  unfolding node_bytes
  node_len table e children f = (let o = attrs_len e.attrs f in simp length-append (omega (arith, o)))

pub if_len : {K : Type 0} (children : Entries K) (x y : List ℕ) → length x ≡ length y → length (if_any children x) ≡ length (if_any children y)
if_len End x y e = refl
if_len (Entry d c n) x y e = e

module _ {K : Type 0} (m n : Numbering K) (p q : ℕ) (table : List TableShape) where
  pub spelled_len : (f : Entries K) → FixedEntries f → length (spelled m p table f) ≡ length (spelled n q table f)
  unfolding spelled
  spelled_len End f = refl
  spelled_len (Entry e children next) f =
      let front = node_len m n p q table e children f.0 in
      let inner = if_len children _ _ (spelled_len children f.1) in
      let rest = spelled_len next f.2 in
      simp length-append (omega (arith, front, inner, rest))

module _ {K : Type 0} (m n : Numbering K) (p q : ℕ) where
  pub tree_len : (u : DwUnit K) → FixedUnit u → length (tree_bytes m p u) ≡ length (tree_bytes n q u)
  unfolding tree_bytes
  tree_len u f =
      let front = node_len m n p q (table_of u) u.root u.below f.0 in
      let inner = if_len u.below _ _ (spelled_len m n p q (table_of u) u.below f.1) in
      simp length-append (omega (arith, front, inner))

  pub kind_len : (k : Kind K) → length (kind_bytes m p k) ≡ length (kind_bytes n q k)
  kind_len Compile = refl
  kind_len Partial = refl
  kind_len (OfType signature main) = simp (length-append, le_len) refl

  pub size_len : (u : DwUnit K) → FixedUnit u → written_unit_size m p u ≡ written_unit_size n q u
  size_len u f = (let o = tree_len u f in omega (arith, o))

-- ---- what is sound is so

sound_fixed_as : {K : Type 0} (c : Class) (a : Attr K) → StoresAs c a → FixedAs c a
sound_fixed_as OfUnitEntry a s = s.form
sound_fixed_as OfInfoEntry a s = s.form
sound_fixed_as OfCommonEntry a s = s.form
sound_fixed_as _ a s = tt

pub sound_fixed : {K : Type 0} (attrs : List (Attr K)) → Each SoundAttr attrs → Each Fixed attrs
sound_fixed [] s = tt
sound_fixed (a ∷ attrs) s = (sound_fixed_as (class_of a.form) a s.0.value, sound_fixed attrs s.1)

pub sound_entries : {K : Type 0} (f : Entries K) → SoundEntries f → FixedEntries f
sound_entries End s = tt
sound_entries (Entry e children next) s = (sound_fixed e.attrs s.0.attrs, sound_entries children s.1, sound_entries next s.2)

pub sound_unit : {K : Type 0} (u : DwUnit K) → SoundUnit u → FixedUnit u
sound_unit u s = (sound_fixed u.root.attrs s.root.attrs, sound_entries u.below s.below)

pub sound_units : {K : Type 0} (units : List (DwUnit K)) → Each SoundUnit units → Each FixedUnit units
sound_units [] s = tt
sound_units (u ∷ units) s = (sound_unit u s.0, sound_units units s.1)

pub no_lines : length (lines_bytes (paths_of {K = EntryName} [] [])) < too_large
unfolding units_with
no_lines = omega arith
