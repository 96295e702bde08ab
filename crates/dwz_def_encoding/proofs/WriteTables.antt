-- Tables by first use: each is spelled, and stands where it is looked for.
use Rattle.std.proofs.Common.{◌≡◌, ◌≢◌, ℕ, ℤ, pos, suc, ◌+◌, ◌<◌, ◌≤◌, ◌^◌, ◌⊎◌, Bool, true, false, List, [], ◌∷◌, ◌++◌, length, map, Option, Some, None, refl, sym, ap, ◌∙◌, append_assoc, arith, cond}
use Rattle.std.proofs.Common.{eqb, eqb-true, ltb, ne_eqb}
use Rattle.std.specs.Prelude.{MatchBool}
use Rattle.std.proofs.Math.Logic.{inl, inr}
use Rattle.std.proofs.lemmas.Bool.{ltb-true}
use Rattle.std.proofs.lemmas.List.{length-append}
use Rattle.dwz_def_reading.specs.Pair.{Pair}
use Rattle.dwz_def_reading.specs.Spelling.{SpellsSleb, SpellsUleb, fits_i64, sleb, uleb}
use Rattle.dwz_def_reading.proofs.PaddedLemmas.{uleb_spells}
use Rattle.dwz_def_reading.proofs.SignedLemmas.{sleb_spells}
use Rattle.dwz_def_reading.specs.Abbrevs.{Declaration, EndsPairs, EndsTable, IsDeclared, IsPair, SpellsDeclaration, SpellsPair, SpellsTable, constant_bytes, declaration_bytes, find_decl, pair_bytes}
use Rattle.dwz_def_reading.specs.Abbrevs.{pairs_bytes, table_bytes}
use Rattle.dwz_def_reading.specs.Documents.{Attr, DwUnit, Entries, Node}
use Rattle.dwz_def_reading.specs.Lists.{Each}
use Rattle.dwz_def_reading.specs.Items.{SpellsItems}
use Rattle.dwz_def_reading.proofs.FindLemmas.{found_behind}
use Rattle.dwz_def_reading.specs.Classes.{Unread, ClassRow, class_in, class_of, class_rows}
use Rattle.dwz_def_reading.specs.Parts.{StandsAt}
use Rattle.dwz_def_reading.specs.Trees.{End, Entry, size}
use Rattle.dwz_def_encoding.specs.Sound.{SoundAttr, SoundEntries, SoundNode, SoundUnit}
use Rattle.dwz_def_tops.specs.Spots.{same_numbers}
use Rattle.dwz_def_encoding.specs.Writing.{DeclarationShape, abbrevs_of, add_table, coded, declaration_of, declaration_shape, joined, pair_of, table_in, table_of, tables_of, with_table}
use Rattle.dwz_def_tops.proofs.SpotLemmas.{numbers_same, numbers_true}
use Rattle.dwz_def_encoding.proofs.WriteCodes.{EachShape, Grown, Grown-same, Grown-then, each_of_table, is_table, picked}

-- ---- a table is spelled

-- a pair that can stand in a declaration
pub record GoodPair (p : Pair) : Type 0 where
  pub some_name : 0 < p.name
  pub name_fits : p.name ≤ 0xffff
  pub some_form : 0 < p.form
  pub form_fits : p.form ≤ 0xffff
  pub constant : MatchBool (eqb p.form 0x21) (fits_i64 p.constant ≡ true) (p.constant ≡ pos 0)

pub record GoodShape (s : DeclarationShape) : Type 0 where
  pub some_tag : 0 < s.tag
  pub tag_fits : s.tag ≤ 0xffff
  pub pairs : Each GoodPair s.pairs

small : (n : ℕ) → n ≤ 0xffff → n < 2 ^ 64
small n le = omega (arith, le)

constant_written : (c : ℤ) (test : Bool) → MatchBool test (fits_i64 c ≡ true) (c ≡ pos 0) → MatchBool test (SpellsSleb (cond test (sleb c) []) c) ((cond test (sleb c) [] ≡ []) × (c ≡ pos 0))
constant_written c true fits = sleb_spells c fits
constant_written c false none = (refl, none)

pair_written : (p : Pair) → GoodPair p → SpellsPair (pair_bytes p) p
pair_written p good = record {
  name_bytes = uleb p.name;
  name = uleb_spells p.name (small p.name good.name_fits);
  some_name = good.some_name;
  name_fits = good.name_fits;
  form_bytes = uleb p.form;
  form = uleb_spells p.form (small p.form good.form_fits);
  some_form = good.some_form;
  constant_bytes = constant_bytes p;
  constant = constant_written p.constant (eqb p.form 0x21) good.constant;
  parts = refl;
}

zero_spelled : SpellsUleb (0 ∷ []) 0
zero_spelled = record { groups = omega arith; len = omega arith; value = refl; in_range = refl }

pairs_written : (pairs earlier : List Pair) → Each GoodPair pairs → SpellsItems IsPair EndsPairs earlier pairs (pairs_bytes pairs)
unfolding pairs_bytes
pairs_written [] earlier good = record { front = 0 ∷ []; first = zero_spelled; back = 0 ∷ []; second = zero_spelled; parts = refl }
pairs_written (p ∷ pairs) earlier good = record {
  front = pair_bytes p;
  first = pair_written p good.0;
  back = pairs_bytes pairs;
  second = pairs_written pairs (earlier ++ p ∷ []) good.1;
  parts = refl;
}

decl_written : (n : ℕ) (s : DeclarationShape) → 0 < n → n < 2 ^ 64 → GoodShape s → SpellsDeclaration (declaration_bytes (declaration_of n s)) (declaration_of n s)
decl_written n s some fits good = record {
  code_bytes = uleb n;
  code = uleb_spells n fits;
  some_code = some;
  tag_bytes = uleb s.tag;
  tag = uleb_spells s.tag (small s.tag good.tag_fits);
  some_tag = good.some_tag;
  tag_fits = good.tag_fits;
  pairs_bytes = pairs_bytes s.pairs;
  pairs = pairs_written s.pairs [] good.pairs;
  parts = refl;
}

-- codes from n on are new
abbrev New : ℕ → List Declaration → Type 0
New n earlier = (c : ℕ) → n ≤ c → find_decl earlier c ≡ None

new_next : (n : ℕ) (s : DeclarationShape) (earlier : List Declaration) → New n earlier → New (suc n) (earlier ++ declaration_of n s ∷ [])
new_next n s earlier new c le =
    let test : eqb n c ≡ false = ne_eqb n c (λ h. omega (arith, h, le)) in
    found_behind earlier (declaration_of n s ∷ []) c (new c (omega (arith, le))) ∙ ap (λ (b : Bool). cond b (Some (declaration_of n s)) None) test

shapes_written : (table : List DeclarationShape) (n : ℕ) (earlier : List Declaration) → 0 < n → n + length table < 2 ^ 64 → New n earlier → Each GoodShape table
    → SpellsItems IsDeclared EndsTable earlier (coded n table) (table_bytes (coded n table))
unfolding coded table_bytes
shapes_written [] n earlier some fits new good = zero_spelled
shapes_written (s ∷ table) n earlier some fits new good = record {
  front = declaration_bytes (declaration_of n s);
  first = record { spelled = decl_written n s some (omega (arith, fits)) good.0; is_new = new n (omega arith) };
  back = table_bytes (coded (suc n) table);
  second = shapes_written table (suc n) (earlier ++ declaration_of n s ∷ []) (omega arith) (omega (arith, fits)) (new_next n s earlier new) good.1;
  parts = refl;
}

pub table_written : (table : List DeclarationShape) → 1 + length table < 2 ^ 64 → Each GoodShape table → SpellsTable (table_bytes (coded 1 table)) (coded 1 table)
table_written table fits good = shapes_written table 1 [] (omega arith) fits (λ c le. refl) good

-- ---- the tables, one after another

-- bytes stand at an offset
pub record BytesAt (all : List ℕ) (offset : ℕ) (bytes : List ℕ) : Type 0 where
  pub before : List ℕ
  pub after : List ℕ
  pub place : length before ≡ offset
  pub parts : all ≡ before ++ (bytes ++ after)

-- they do so many bytes behind a place
abbrev Behind : List ℕ → (offset at : ℕ) → List ℕ → Type 0
Behind all offset at t = (n : ℕ) × (offset ≡ at + n) × BytesAt all n t

table_found : (tables : List (List ℕ)) (at : ℕ) (t : List ℕ) (o : ℕ) → table_in at tables t ≡ Some o → Behind (joined tables) o at t
unfolding table_in joined
table_found [] at t o e = absurd cc
table_found (u ∷ tables) at t o e =
    elim (picked (same_numbers u t) at o (table_in (at + length u) tables t) e) [
      | inl p ↦ (0, omega (arith, p.1), record { before = []; after = joined tables; place = refl; parts = ap (λ (w : List ℕ). w ++ joined tables) (numbers_true u t p.0) })
      | inr p ↦
          let r = table_found tables (at + length u) t o p.1 in
          let is = r.2 in (
            length u + r.0,
            omega (arith, r.1),
            record {
              before = u ++ is.before;
              after = is.after;
              place = omega (arith, length-append u is.before, is.place);
              parts = ap (λ (w : List ℕ). u ++ w) is.parts ∙ sym (append_assoc u is.before (t ++ is.after));
            },
          )
    ]

pub table_grows : (at : ℕ) (tables more : List (List ℕ)) (t : List ℕ) (o : ℕ) → table_in at tables t ≡ Some o → table_in at (tables ++ more) t ≡ Some o
unfolding table_in
table_grows at [] more t o e = absurd cc
table_grows at (u ∷ tables) more t o e =
    elim (picked (same_numbers u t) at o (table_in (at + length u) tables t) e) [
      | inl p ↦ rw (p.0, table_in) (ap Some p.1)
      | inr p ↦ rw (p.0, table_in) (table_grows (at + length u) tables more t o p.1)
    ]

-- the table is among them
pub record HasTable (tables : List (List ℕ)) (t : List ℕ) : Type 0 where
  pub offset : ℕ
  pub is : table_in 0 tables t ≡ Some offset

table_last : (tables : List (List ℕ)) (at : ℕ) (t : List ℕ) → (o : ℕ) × (table_in at (tables ++ t ∷ []) t ≡ Some o)
unfolding table_in
table_last [] at t = (at, rw (numbers_same t, table_in) refl)
table_last (u ∷ tables) at t = go (same_numbers u t) (table_last tables (at + length u) t) where
  go : (b : Bool) → ((o : ℕ) × (table_in (at + length u) (tables ++ t ∷ []) t ≡ Some o))
      → (o : ℕ) × ((elim b as (λ _. Option ℕ) [ true ↦ Some at | false ↦ table_in (at + length u) (tables ++ t ∷ []) t ]) ≡ Some o)
  go true r = (at, refl)
  go false r = r

with_has : (tables : List (List ℕ)) (t : List ℕ) (o : Option ℕ) → table_in 0 tables t ≡ o → HasTable (add_table o tables t) t × Grown tables (add_table o tables t)
with_has tables t (Some n) e = (record { offset = n; is = e }, Grown-same tables)
with_has tables t None e = (let o = table_last tables 0 t in (record { offset = o.0; is = o.1 }, record { more = t ∷ []; is = refl }))

pub with_table-has : (tables : List (List ℕ)) (t : List ℕ) → HasTable (with_table tables t) t × Grown tables (with_table tables t)
unfolding with_table
with_table-has tables t = with_has tables t (table_in 0 tables t) refl

abbrev pub HasTables : {K : Type 0} → List (List ℕ) → List (DwUnit K) → Type 0
HasTables tables units = Each (λ u. HasTable tables (abbrevs_of u)) units

pub tables_have : {K : Type 0} (units : List (DwUnit K)) (tables : List (List ℕ)) → HasTables (tables_of tables units) units × Grown tables (tables_of tables units)
unfolding tables_of
tables_have [] tables = (tt, Grown-same tables)
tables_have (u ∷ units) tables =
    let t = abbrevs_of u in
    let first = with_table-has tables t in
    let others = tables_have units (with_table tables t) in
    let here : HasTable (tables_of (with_table tables t) units) t =
    record { offset = first.0.offset; is = ap (λ (x : List (List ℕ)). table_in 0 x t) others.1.is ∙ table_grows 0 (with_table tables t) others.1.more t first.0.offset first.0.is } in
    ((here, others.0), Grown-then _ _ _ first.1 others.1)

-- each unit's table is among those that are written
pub tables_there : {K : Type 0} (units : List (DwUnit K)) → HasTables (tables_of [] units) units
tables_there units = (tables_have units []).0

-- and stands where it is looked for
pub table_stands : (tables : List (List ℕ)) (t : List ℕ) (h : HasTable tables t) → BytesAt (joined tables) h.offset t
table_stands tables t h =
    let f = table_found tables 0 t h.offset h.is in
    let at = f.2 in
    record { before = at.before; after = at.after; place = omega (arith, at.place, f.1); parts = at.parts }

pub table_inside : (tables : List (List ℕ)) (t : List ℕ) (h : HasTable tables t) → h.offset ≤ length (joined tables)
table_inside tables t h =
    let at = table_stands tables t h in
    omega (arith, at.place, ap length at.parts, length-append at.before (t ++ at.after))

-- ---- what is sound has such shapes

abbrev in_range : List ClassRow → Bool
in_range [] = true
in_range (r ∷ rows) = cond (ltb 0 r.form) (cond (ltb r.form 0x10000) (in_range rows) false) false

rows_in_range : in_range class_rows ≡ true
unfolding class_rows
rows_in_range = refl

two_tests : (a b c : Bool) → cond a (cond b c false) false ≡ true → (a ≡ true) × (b ≡ true) × (c ≡ true)
two_tests true true c e = (refl, refl, e)
two_tests true false c e = absurd cc
two_tests false b c e = absurd cc

-- a form that has a class is neither 0 nor great
class_range : (rows : List ClassRow) (form : ℕ) → in_range rows ≡ true → (class_in rows form ≡ Unread) ⊎ ((0 < form) × (form ≤ 0xffff))
unfolding class_in
class_range [] form e = inl refl
class_range (r ∷ rows) form e =
    let t = two_tests (ltb 0 r.form) (ltb r.form 0x10000) (in_range rows) e in
    go t (class_range rows form t.2) (eqb r.form form) refl where
      go : (ltb 0 r.form ≡ true) × (ltb r.form 0x10000 ≡ true) × (in_range rows ≡ true) → (class_in rows form ≡ Unread) ⊎ ((0 < form) × (form ≤ 0xffff)) → (b : Bool) → eqb r.form form ≡ b
          → (cond b r.class (class_in rows form) ≡ Unread) ⊎ ((0 < form) × (form ≤ 0xffff))
      go t rest true e = let same = eqb-true r.form form e in inr (omega (arith, ltb-true 0 r.form t.0), omega (arith, ltb-true r.form 0x10000 t.1))
      go t rest false e = rest

pub form_range : (form : ℕ) → class_of form ≢ Unread → (0 < form) × (form ≤ 0xffff)
form_range form known = elim (class_range class_rows form rows_in_range) [
  | inl e ↦ absurd (known e)
  | inr h ↦ h
]

module _ {K : Type 0} where
  good_constant : (a : Attr K) → SoundAttr a → (t : Bool) → eqb a.form 0x21 ≡ t → MatchBool t (fits_i64 (cond t a.raw (pos 0)) ≡ true) (cond t a.raw (pos 0) ≡ pos 0)
  good_constant a s true e = s.constant (eqb-true a.form 0x21 e)
  good_constant a s false e = refl

  good_pair : (a : Attr K) → SoundAttr a → GoodPair (pair_of a)
  good_pair a s =
      let r = form_range a.form s.known in
      record { some_name = s.some_name; name_fits = s.name_fits; some_form = r.0; form_fits = r.1; constant = good_constant a s (eqb a.form 0x21) refl }

  good_pairs : (attrs : List (Attr K)) → Each SoundAttr attrs → Each GoodPair (map pair_of attrs)
  good_pairs [] s = tt
  good_pairs (a ∷ attrs) s = (good_pair a s.0, good_pairs attrs s.1)

  good_shape : (e : Node K) (children : Entries K) → SoundNode e → GoodShape (declaration_shape e children)
  good_shape e children s = record { some_tag = s.some_tag; tag_fits = s.tag_fits; pairs = good_pairs e.attrs s.attrs }

  good_shapes : (f : Entries K) → SoundEntries f → EachShape GoodShape f
  good_shapes End s = tt
  good_shapes (Entry e children next) s = (good_shape e children s.0, good_shapes children s.1, good_shapes next s.2)

  pub good_table : (u : DwUnit K) → SoundUnit u → Each GoodShape (table_of u)
  good_table u s = each_of_table GoodShape u (good_shape u.root u.below s.root) (good_shapes u.below s.below)

  -- where few entries are in the unit, its table stands at the offset that the unit names
  pub unit_table : (tables : List (List ℕ)) (u : DwUnit K) (h : HasTable tables (abbrevs_of u)) → SoundUnit u → size u.below < 2 ^ 63
      → StandsAt SpellsTable (joined tables) h.offset (coded 1 (table_of u))
  unit_table tables u h s few =
      let at = table_stands tables (abbrevs_of u) h in
      let len = (is_table u).len in
      record {
        before = at.before;
        front = abbrevs_of u;
        after = at.after;
        spelled = table_written (table_of u) (omega (arith, len, few)) (good_table u s);
        length_before = at.place;
        parts = at.parts;
      }
