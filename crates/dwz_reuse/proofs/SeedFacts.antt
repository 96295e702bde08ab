-- Which tops of a common file are bound without a reference, from what its entries and operands say.
use Rattle.std.proofs.Common.{◌≡◌, ℕ, zero, suc, ◌+◌, ◌-◌, ◌<◌, ◌≤◌, ◌||◌, ◌&&◌, Bool, true, false, List, [], ◌∷◌, ◌++◌, length, map, get_or, Option, Some, None, refl, sym, ap, ◌∙◌, inr, ⊎_elim, eqb-true, eq-eqb, arith}
use Rattle.std.specs.Prelude.{nat_lt, not, replicate}
use Rattle.std.proofs.Math.ListN.{get_or-append}
use Rattle.std.proofs.Math.Seq.{get_or-append_right}
use Rattle.std.proofs.lemmas.Bool.{and_from, and_parts, cases_lt, false≢true, lt-ltb, ltb-true}
use Rattle.dwz_model.proofs.ListFacts.{got_index_or, got_map, replicate_long}
use Rattle.dwz_def_reading.proofs.CaseFacts.{same_test}
use Rattle.dwz_def_reading.specs.Documents.{Doc}
use Rattle.dwz_def_reading.specs.Lists.{In}
use Rattle.dwz_def_cross.specs.Tops.{CrossTop}
use Rattle.dwz_def_check.specs.CrossLabels.{cross_top_map}
use Rattle.dwz_def_check.specs.CrossNames.{cross_tops}
use Rattle.dwz_def_taken.specs.Beside.{Reused, look_units, own_tops, reused_of, together}
use Rattle.dwz_def_taken.specs.Laws.{ArePlacedOver, IsReused}
use Rattle.dwz_def_taken.proofs.NamesOver.{named_over}
use Rattle.dwz_def_taken.proofs.PlaceLemmas.{units_in, whole}
use Rattle.dwz_def_tops.specs.Alike.{any_entry, any_in, entry_binds, is_named, is_number, unit_in}
use Rattle.dwz_def_tops.specs.Spots.{EntryName, FileUnit, Top, tops_of}
use Rattle.dwz_def_tops.proofs.TopNumbers.{number_below, top_at, tops_numbers, unit_found}
use Rattle.dwz_graph.specs.declared.file.File.{File}
use Rattle.dwz_match.specs.Partial.{ArePartial}
use Rattle.dwz_match.proofs.CommonTops.{all_tops, common_tops, spot_of}
use Rattle.dwz_match.proofs.BareTops.{cross_of, units_cross}
use Rattle.dwz_match.proofs.LookCount.{look_many}
use Rattle.dwz_reuse.specs.Read.{IsCommonRead}
use Rattle.dwz_move.specs.Bound.{HasTops}
use Rattle.dwz_move.specs.Marked.{MarksIf}
use Rattle.dwz_move.specs.declared.bind.TopRange.{TopRange}
use Rattle.dwz_move_files.specs.Lists.{entries_of}
use Rattle.dwz_unit.specs.Rows.{units_of as raw_units}
use Rattle.std.proofs.lemmas.List.{length-append, length-map}
use Rattle.dwz_reuse.specs.Binding.{AreBinding, tree_binds}
use Rattle.dwz_reuse.specs.Into.{common_name}
use Rattle.dwz_reuse.specs.Naming.{Names}
use Rattle.dwz_reuse.specs.Operands.{HasOperandRows}
use Rattle.dwz_reuse.specs.Spread.{AreCommonSeeds}
use Rattle.dwz_reuse.proofs.CommonNamed.{named_by, names_are}
use Rattle.dwz_reuse.proofs.CommonTop.{common_top, unit_numbers}

-- one more flag
pub seeds_next : (binding named : List Bool) (first k : ℕ) (old new : List Bool) (b : Bool) → length old ≡ k → new ≡ old ++ b ∷ [] → b ≡ (get_or binding k false || get_or named (first + k) false)
    → ((j : ℕ) → j < k → get_or old j false ≡ (get_or binding j false || get_or named (first + j) false))
    → (j : ℕ) → j < k + 1 → get_or new j false ≡ (get_or binding j false || get_or named (first + j) false)
seeds_next binding named first k old new b len are is before j l = ap (λ (w : List Bool). get_or w j false) are ∙ ⊎_elim
    (λ (less : j < k). get_or-append old (b ∷ []) false j (omega (arith, less, len)) ∙ before j less)
    (λ (same : j ≡ k).
    get_or-append_right old (b ∷ []) j false (omega (arith, same, len))
    ∙ (let z : j - length old ≡ 0 = omega (arith, same, len) in ap (λ (n : ℕ). get_or (b ∷ []) n false) z)
    ∙ is ∙ ap (λ (n : ℕ). get_or binding n false || get_or named (first + n) false) (sym same))
    (grind (arith, l))

none_marked : (count n : ℕ) → get_or (replicate count false) n false ≡ true → ⊥
none_marked zero n e = false≢true e
none_marked (suc count) zero e = false≢true e
none_marked (suc count) (suc n) e = none_marked count n e

module _ (docs : List (Doc ℕ)) (common : Doc ℕ) (placed : ArePlacedOver docs common) (partial : ArePartial common.units) where
  abbrev r : Reused
  r = reused_of docs common

  abbrev low : ℕ
  low = own_tops (reused_of docs common)

  abbrev world : List (FileUnit EntryName)
  world = look_units (reused_of docs common)

  re : IsReused r
  re = named_over docs common placed

  -- as many tops of the common file as looks across files have
  pub many_tops : length (tops_of (together r)) ≡ low + length (cross_tops common.units)
  many_tops =
      let tops = common_tops docs common in
      let name = spot_of docs common in
      let cross = ap (λ (w : List (CrossTop EntryName)). length w) (units_cross name (length docs) (length r.units) low common.units partial) in
      let a = length-map tops cross_of in
      let b = length-map (cross_tops common.units) (λ x. cross_top_map name x) in
      ap (λ (w : List Top). length w) (all_tops docs common) ∙ length-append (tops_of r.units) tops ∙ (let e : low + length tops ≡ low + length (cross_tops common.units) = omega (arith, cross, a, b) in e)

  many_looks : length (tops_of world) ≡ low + length (cross_tops common.units)
  many_looks = look_many r (whole r re) ∙ many_tops

  -- ---- the tops of the unit that the common file is

  is_there : (t i : ℕ) (o : Option ℕ) → unit_in (tops_of world) t ≡ o → is_number o i ≡ true → (u : Top) × In u (tops_of world) × (u.number ≡ t) × (u.unit ≡ i)
  is_there t i None e h = absurd cc
  is_there t i (Some n) e h = (let o = unit_found (tops_of world) t n e in (o.0, o.1, o.2, o.3 ∙ eqb-true n i h))

  in_unit : (u : Top) → In u (tops_of world) → (t i : ℕ) → u.number ≡ t → u.unit ≡ i → is_number (unit_in (tops_of world) t) i ≡ true
  in_unit u there t i number unit =
      ap (λ (n : ℕ). is_number (unit_in (tops_of world) n) i) (sym number) ∙ ap (λ (o : Option ℕ). is_number o i) (units_in 0 (tops_of world) u (tops_numbers world) there) ∙ eq-eqb u.unit i unit

  pub has_tops : (own : TopRange) → own.first ≡ low → own.end ≡ low + length (cross_tops common.units) → HasTops (tops_of world) (length r.units) own
  has_tops own first end t = same_test (is_number (unit_in (tops_of world) t) (length r.units)) (not (nat_lt t own.first) && nat_lt t own.end)
      (λ e. (
      let o = is_there t (length r.units) (unit_in (tops_of world) t) refl e in
      let number = o.2 in
      let unit = o.3 in
      let below = number_below 0 (tops_of world) o.0 (tops_numbers world) o.1 in
      let many = many_looks in
      let high : low ≤ t = ⊎_elim
      (λ (a : (o.0.number < low) × (o.0.unit < length r.units)). absurd (let l = a.1 in omega (arith, l, unit)))
      (λ (b : (low ≤ o.0.number) × (o.0.unit ≡ length r.units)). let l = b.0 in omega (arith, l, number))
      (unit_numbers docs common placed partial o.0 o.1) in
      and_from (not (nat_lt t own.first)) (nat_lt t own.end) (not_less t own.first (omega (arith, high, first))) (lt-ltb t own.end (omega (arith, below, number, many, end)))))
      (λ e. (
      let parts = and_parts (not (nat_lt t own.first)) (nat_lt t own.end) e in
      let le = less_not t own.first parts.0 in
      let lt = ltb-true t own.end parts.1 in
      let many = many_looks in
      let o = top_at 0 (tops_of world) t (tops_numbers world) (omega arith) (omega (arith, lt, end, many)) in
      let number = o.2 in
      ⊎_elim
      (λ (a : (o.0.number < low) × (o.0.unit < length r.units)). absurd (let l = a.0 in omega (arith, l, number, le, first)))
      (λ (b : (low ≤ o.0.number) × (o.0.unit ≡ length r.units)). in_unit o.0 o.1 t (length r.units) number b.1)
      (unit_numbers docs common placed partial o.0 o.1)))
    where
      not_less : (m n : ℕ) → n ≤ m → not (nat_lt m n) ≡ true
      not_less m n le = go (nat_lt m n) refl where
        go : (b : Bool) → nat_lt m n ≡ b → not b ≡ true
        go true q = absurd (let l = ltb-true m n q in omega (arith, l, le))
        go false q = refl

      less_not : (m n : ℕ) → not (nat_lt m n) ≡ true → n ≤ m
      less_not m n e = ⊎_elim
          (λ (lt : m < n). absurd (let q = lt-ltb m n lt in let z : not true ≡ true = ap not (sym q) ∙ e in false≢true z))
          (λ (le : n ≤ m). le)
          (cases_lt m n)

  -- ---- flags

  abbrev bound_in : CrossTop EntryName → Bool
  bound_in x = entry_binds (tops_of world) (length r.units) x.node || any_entry (entry_binds (tops_of world) (length r.units)) x.below

  binding_at : (flags : List Bool) → AreBinding (tops_of world) (length r.units) (spot_of docs common) common.units flags → (t : Top) → (i : In t (tops_of world)) → (high : low ≤ t.number)
      → get_or flags (t.number - low) false ≡ any_in (entry_binds (tops_of world) t.unit) t
  binding_at flags are t i high =
      let o = common_top docs common placed partial t i high in
      let number = o.number in
      let k : t.number - low ≡ o.k = omega (arith, number) in
      ap (λ (w : List Bool). get_or w (t.number - low) false) are
      ∙ ap (λ (n : ℕ). get_or (map (tree_binds (tops_of world) (length r.units) (spot_of docs common)) (cross_tops common.units)) n false) k
      ∙ got_index_or (map (tree_binds (tops_of world) (length r.units) (spot_of docs common)) (cross_tops common.units)) o.k _ false
      (got_map (tree_binds (tops_of world) (length r.units) (spot_of docs common)) (cross_tops common.units) o.k o.cross o.got)
      ∙ ap bound_in o.same
      ∙ ap (λ (n : ℕ). any_in (entry_binds (tops_of world) n) t) (sym o.unit)

  module _ (f : File) (s : IsCommonRead f common) (h : HasOperandRows f) where
    named_at : (count : ℕ) (marks : List Bool) → MarksIf (Names (common_name docs common) (raw_units f.units) common.units (entries_of f.resolved.operands.items)) (replicate count false) marks
        → (n : ℕ) → low ≤ n → n < count → get_or marks n false ≡ is_named world n
    named_at count marks m n above less =
        let long : n < length (replicate count false) = (let l = replicate_long count in omega (arith, l, less)) in
        let e = named_by docs common n above in
        let names = names_are f common s h (common_name docs common) n in
        same_test (get_or marks n false) (is_named world n)
        (λ is. e ∙ names.1 (⊎_elim (λ old. absurd (none_marked count n old)) (λ x. x) ((m.each n long).0 is)))
        (λ is. (m.each n long).1 (inr (names.0 (sym e ∙ is))))

    -- those that their entries bind, and those that operands name
    pub are_seeds : (first count : ℕ) → low ≡ first → count ≡ low + length (cross_tops common.units) → (binding named seeds : List Bool)
        → AreBinding (tops_of world) (length r.units) (spot_of docs common) common.units binding
        → MarksIf (Names (common_name docs common) (raw_units f.units) common.units (entries_of f.resolved.operands.items)) (replicate count false) named → length seeds ≡ length binding
        → ((k : ℕ) → k < length binding → get_or seeds k false ≡ (get_or binding k false || get_or named (first + k) false)) → AreCommonSeeds r seeds
    are_seeds first count same many binding named seeds binds names len each =
        let long : length binding ≡ length (cross_tops common.units) =
        ap (λ (w : List Bool). length w) binds ∙ length-map (cross_tops common.units) (tree_binds (tops_of world) (length r.units) (spot_of docs common)) in
        record {
          len = (let t = many_tops in let e : low + length seeds ≡ length (tops_of (together r)) = omega (arith, t, long, len) in e);
          each = λ t i high. (
              let below = number_below 0 (tops_of world) t (tops_numbers world) i in
              let all = many_looks in
              let back : first + (t.number - low) ≡ t.number = omega (arith, same, high) in
              each (t.number - low) (omega (arith, high, below, all, long))
              ∙ (λ j. binding_at binding binds t i high j || get_or named (back j) false)
              ∙ ap (λ (b : Bool). any_in (entry_binds (tops_of world) t.unit) t || b) (named_at count named names t.number high (omega (arith, below, all, many))));
        }
