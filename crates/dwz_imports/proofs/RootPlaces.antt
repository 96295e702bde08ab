-- The places of units and of their roots rise with their numbers, and all are below the end of the bytes.
use Rattle.std.proofs.Common.{◌≡◌, ◌↔◌, ℕ, ◌+◌, ◌<◌, ◌≤◌, Bool, true, false, List, [], ◌∷◌, ◌++◌, map, length, get_or, Option, Some, None, Ok, Err, Result, slice_get, refl, sym, ap, subst}
use Rattle.std.proofs.Common.{◌∙◌, inl, inr, arith}
use Rattle.std.specs.Prelude.{◌==◌, ◌&&◌}
use Rattle.std.proofs.Common.{eq-eqb, eqb-true, if◌then◌else◌}
use Rattle.std.proofs.lemmas.Bool.{and_parts, cases_Bool, cases_lt, false≢true}
use Rattle.std.proofs.lemmas.List.{length-map}
use Rattle.dwz_codes.specs.Rows.{has}
use Rattle.dwz_model.specs.Lists.{In}
use Rattle.dwz_model.proofs.ListFacts.{got_below, got_index_or, got_map}
use Rattle.dwz_model.specs.declared.fault.Fault.{Fault}
use Rattle.dwz_def_reading.specs.Input.{input}
use Rattle.dwz_def_reading.specs.Meanings.{places_in, places_of}
use Rattle.dwz_def_reading.specs.Units.{CompileUnit, PartialUnit, RawKind, RawUnit, TypeUnit, entries_in, units_at}
use Rattle.dwz_def_reading.proofs.UnitListLemmas.{units_found}
use Rattle.dwz_unit.specs.Modes.{mode_of}
use Rattle.dwz_unit.specs.declared.rows.RawEntry.{RawEntry as EntryOfCode}
use Rattle.dwz_unit.specs.declared.rows.RawUnit.{RawUnit as UnitOfCode}
use Rattle.dwz_unit.specs.Rows.{Source, kind_number, or_none, shown_entries, shown_units, units_of}
use Rattle.dwz_graph.proofs.PlaceLemmas.{Ascend, ascend_at, ascend_lower, unit_and_entries, units_and_entries_ascend}
use Rattle.dwz_unit.proofs.RowsFound.{row_is}
use Rattle.dwz_graph.proofs.SearchLemmas.{Rise}
use Rattle.dwz_unit.proofs.UnitThere.{root_found, unit_ends, unit_there}
use Rattle.dwz_imports.specs.Stored.{IsPartNumber, is_partial_kind, roots}

-- where units begin
abbrev pub begins : List RawUnit → List ℕ
begins raw = map (λ u. u.at) raw

-- of units that are read: what stands in them
pub read_ascends : (s : Source) → Ascend 0 (unit_and_entries (units_of s)) (length s.info)
unfolding units_of unit_and_entries
read_ascends s = by (units_at s.abbrevs (mode_of s.kind s.room) 0 (input s.info 0)) refl where
  by : (r : Result (List RawUnit) Fault) → units_at s.abbrevs (mode_of s.kind s.room) 0 (input s.info 0) ≡ r → Ascend 0 (unit_and_entries (or_none r)) (length s.info)
  by (Err f) e = omega arith
  by (Ok raw) e =
      let up = units_and_entries_ascend s.abbrevs (mode_of s.kind s.room) raw 0 0 s.info (units_found s.abbrevs (mode_of s.kind s.room) 0 (input s.info 0) raw e) in
      let same : 0 + length s.info ≡ length s.info = omega arith in
      subst (λ (n : ℕ). Ascend 0 (unit_and_entries raw) n) same up

ascend_rest : (xs ys : List ℕ) (a b : ℕ) → Ascend a (xs ++ ys) b → Ascend a ys b
ascend_rest [] ys a b h = h
ascend_rest (x ∷ xs) ys a b h = ascend_lower ys (x + 1) b a (let le = h.0 in omega (arith, le)) (ascend_rest xs ys (x + 1) b h.1)

roots_ascend : (raw : List RawUnit) (a b : ℕ) → Ascend a (unit_and_entries raw) b → Ascend a (roots raw) b
unfolding unit_and_entries
roots_ascend [] a b h = h
roots_ascend (u ∷ raw) a b h =
    let low : a ≤ u.root.at = (let one = h.0 in let two = h.1.0 in omega (arith, one, two)) in
    (low, roots_ascend raw (u.root.at + 1) b (ascend_rest (places_in u.below) (unit_and_entries raw) (u.root.at + 1) b h.1.1))

begins_ascend : (raw : List RawUnit) (a b : ℕ) → Ascend a (unit_and_entries raw) b → Ascend a (begins raw) b
unfolding unit_and_entries
begins_ascend [] a b h = h
begins_ascend (u ∷ raw) a b h = (h.0, begins_ascend raw (u.at + 1) b (ascend_rest (places_of u) (unit_and_entries raw) (u.at + 1) b h.1))

pub roots_rise : (s : Source) → Rise (roots (units_of s))
roots_rise s i j l m = ascend_at (roots (units_of s)) 0 (length s.info) i j (roots_ascend (units_of s) 0 (length s.info) (read_ascends s)) l m

pub begins_rise : (s : Source) → Rise (begins (units_of s))
begins_rise s i j l m = ascend_at (begins (units_of s)) 0 (length s.info) i j (begins_ascend (units_of s) 0 (length s.info) (read_ascends s)) l m

ascend_ends : (ns : List ℕ) (a b : ℕ) → Ascend a ns b → a ≤ b
ascend_ends [] a b h = h
ascend_ends (n ∷ ns) a b h = let le = h.0 in let more = ascend_ends ns (n + 1) b h.1 in omega (arith, le, more)

ascend_below : (ns : List ℕ) (a b n : ℕ) → Ascend a ns b → In n ns → n < b
ascend_below [] a b n h is = absurd is
ascend_below (m ∷ ns) a b n h (inl e) = let le = ascend_ends ns (m + 1) b h.1 in omega (arith, le, e)
ascend_below (m ∷ ns) a b n h (inr r) = ascend_below ns (m + 1) b n h.1 r

-- below the end
pub all_below : (s : Source) (n : ℕ) → In n (unit_and_entries (units_of s)) → n < length s.info
all_below s n is = ascend_below (unit_and_entries (units_of s)) 0 (length s.info) n (read_ascends s) is

-- one of them begins at most at a place
pub rise_one : (ps : List ℕ) (i j : ℕ) → Rise ps → i < length ps → j < length ps → get_or ps i 0 ≡ get_or ps j 0 → i ≡ j
rise_one ps i j rise l m e = elim (cases_lt i j) [
  | inl lt ↦ absurd (let a = rise i j lt m in omega (arith, a, e))
  | inr ge ↦ elim (cases_lt j i) [ inl lt ↦ absurd (let b = rise j i lt l in omega (arith, b, e)) | inr le ↦ omega (arith, ge, le) ]
]

-- ---- the roots of units that are shown

pub root_there : (raw : List RawUnit) (n : ℕ) (x : UnitOfCode) → slice_get (shown_units raw) n ≡ Some x → x.first < entries_in raw
root_there raw n x e = let t = unit_there raw n x e in let ends = unit_ends raw n x t in omega (arith, ends)

pub root_shown : (raw : List RawUnit) (n : ℕ) (x : UnitOfCode) (e : EntryOfCode) → slice_get (shown_units raw) n ≡ Some x → slice_get (shown_entries raw) x.first ≡ Some e → e.at ≡ get_or
    (roots raw) n 0
root_shown raw n x e of_unit is =
    let t = unit_there raw n x of_unit in
    let shown = row_is raw x.first e _ is (root_found raw n x t) in
    ap (λ (w : EntryOfCode). w.at) (sym shown) ∙ sym (got_index_or (roots raw) n t.u.root.at 0 (got_map (λ (u : RawUnit). u.root.at) raw n t.u t.is_unit))

pub roots_many : (raw : List RawUnit) → length (roots raw) ≡ length raw
roots_many raw = length-map raw (λ (u : RawUnit). u.root.at)

-- ---- the partial unit whose root begins at a place

kind_told : (k : RawKind) → is_partial_kind k ≡ (kind_number k == 3)
kind_told CompileUnit = refl
kind_told (TypeUnit signature type_offset) = refl
kind_told PartialUnit = refl

has_place : (p q : ℕ) → p ≡ q → has p (q ∷ []) ≡ true
unfolding has
has_place p q e = ap (λ (b : Bool). if b then true else false) (eq-eqb q p (sym e))

place_has : (p q : ℕ) → has p (q ∷ []) ≡ true → p ≡ q
unfolding has
place_has p q e = elim (cases_Bool (q == p)) [
  | inl t ↦ sym (eqb-true q p t)
  | inr f ↦ absurd (let no : false ≡ true = ap (λ (b : Bool). if b then true else false) (sym f) ∙ e in cc)
]

root_got : (raw : List RawUnit) (n : ℕ) (u : RawUnit) → slice_get raw n ≡ Some u → get_or (roots raw) n 0 ≡ u.root.at
root_got raw n u e = got_index_or (roots raw) n u.root.at 0 (got_map (λ (w : RawUnit). w.root.at) raw n u e)

module _ (raw : List RawUnit) (place : ℕ) where
  pub part_none : ((n : ℕ) → n < length raw → get_or (roots raw) n 0 ≡ place → ⊥) → (n : ℕ) → (None ≡ Some n) ↔ IsPartNumber raw (place ∷ []) n
  part_none none n = (
    λ e. absurd cc,
    λ h. absurd (none n (got_below raw n h.0 h.1) (root_got raw n h.0 h.1 ∙ place_has h.0.root.at place (and_parts (is_partial_kind h.0.kind) (has h.0.root.at (place ∷ [])) h.2).1)),
  )

  pub part_is : (m : ℕ) (x : UnitOfCode) (r : Option ℕ) → Rise (roots raw) → slice_get (shown_units raw) m ≡ Some x → get_or (roots raw) m 0 ≡ place → m < length raw
      → (x.kind ≡ 3 → r ≡ Some m) → ((x.kind ≡ 3 → ⊥) → r ≡ None) → (n : ℕ) → (r ≡ Some n) ↔ IsPartNumber raw (place ∷ []) n
  part_is m x r rise shown at low told untold n =
      let t = unit_there raw m x shown in
      let kind : kind_number t.u.kind ≡ x.kind = ap (λ (w : UnitOfCode). w.kind) t.shown in
      let root = root_got raw m t.u t.is_unit in (
        λ e. elim (cases_Bool (x.kind == 3)) [
          | inl three ↦ (
              let is3 = eqb-true x.kind 3 three in
              let same : Some m ≡ Some n = sym (told is3) ∙ e in
              let one : m ≡ n = cc in
              let partial : is_partial_kind t.u.kind ≡ true = kind_told t.u.kind ∙ ap (λ (k : ℕ). k == 3) (kind ∙ is3) in
              (t.u, ap (slice_get raw) (sym one) ∙ t.is_unit, (λ i. partial i && has_place t.u.root.at place (sym root ∙ at) i)))
          | inr other ↦ absurd (let none : None ≡ Some n = sym (untold (λ is3. false≢true (sym other ∙ eq-eqb x.kind 3 is3))) ∙ e in cc)
        ],
        λ h.
            let parts = and_parts (is_partial_kind h.0.kind) (has h.0.root.at (place ∷ [])) h.2 in
            let place_is = place_has h.0.root.at place parts.1 in
            let many = roots_many raw in
            let n_low = got_below raw n h.0 h.1 in
            let one : n ≡ m = rise_one (roots raw) n m rise (omega (arith, many, n_low)) (omega (arith, many, low)) (root_got raw n h.0 h.1 ∙ place_is ∙ sym at) in
            let both : Some h.0 ≡ Some t.u = sym h.1 ∙ ap (slice_get raw) one ∙ t.is_unit in
            let unit : h.0 ≡ t.u = cc in
            let three : (x.kind == 3) ≡ true = ap (λ (k : ℕ). k == 3) (sym kind) ∙ sym (kind_told t.u.kind) ∙ ap (λ (u : RawUnit). is_partial_kind u.kind) (sym unit) ∙ parts.0 in
            told (eqb-true x.kind 3 three) ∙ ap (λ (k : ℕ). Some k) (sym one),
      )
