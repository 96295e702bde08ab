-- What marks that spread from tops to those that refer into them say: just the bound tops are marked.
use Rattle.std.proofs.Common.{◌≡◌, ◌↔◌, ℕ, zero, suc, ◌<◌, Bool, true, false, List, length, map, get_or, refl, sym, ap, subst, ◌∙◌, inl, inr, ⊎_elim, arith}
use Rattle.std.specs.Prelude.{not}
use Rattle.std.proofs.lemmas.Bool.{cases_Bool, false≢true}
use Rattle.std.proofs.lemmas.List.{get_or-map, length-map}
use Rattle.dwz_def_reading.specs.Lists.{In}
use Rattle.dwz_def_tops.specs.Alike.{Bound, Movable, binds_itself}
use Rattle.dwz_def_tops.specs.Deciding.{AreMovable, is_movable}
use Rattle.dwz_def_tops.specs.Spots.{EntryName, FileUnit, Top, tops_of}
use Rattle.dwz_def_tops.proofs.AlikeBound.{movable_decides}
use Rattle.dwz_def_tops.proofs.TopNumbers.{number_below, top_at, tops_numbers}
use Rattle.dwz_groups.specs.Spreading.{IsMarked, IsSpread, Leads, sources_of}
use Rattle.dwz_groups.proofs.MarkLemmas.{grouped_length, inside_at}
use Rattle.dwz_move.specs.BoundTops.{AreSeeds, ShowTargets}
use Rattle.dwz_move.specs.Sources.{sources_from}
use Rattle.dwz_move.proofs.SourceLemmas.{source_target, sources_by, target_source}

module _ (units : List (FileUnit EntryName)) (targets : List (List ℕ)) (seeds marks : List Bool) (shown : ShowTargets units targets) (begin : AreSeeds units seeds) where
  bound_inside : (k n : ℕ) → Bound units k n → n < length (tops_of units)
  unfolding Bound
  bound_inside zero n b = let low = number_below 0 (tops_of units) b.0 (tops_numbers units) b.1 in let e = b.2 in omega arith
  bound_inside (suc k) n (inl b) = bound_inside k n b
  bound_inside (suc k) n (inr b) = let low = number_below 0 (tops_of units) b.0 (tops_numbers units) b.2 in let e = b.3 in omega arith

  bound_at : (t : Top) → In t (tops_of units) → binds_itself units t ≡ true → (k : ℕ) → Bound units k t.number
  unfolding Bound
  bound_at t i e zero = (t, i, refl, e)
  bound_at t i e (suc k) = inl (bound_at t i e k)

  leads_at : (n : ℕ) → IsMarked seeds n → (k : ℕ) → Leads (sources_by targets) seeds k n
  leads_at n h zero = h
  leads_at n h (suc k) = inl (leads_at n h k)

  leads_bound : (k n : ℕ) → n < length (tops_of units) → Leads (sources_by targets) seeds k n → Bound units k n
  unfolding Bound
  leads_bound zero n l h =
      let r = top_at 0 (tops_of units) n (tops_numbers units) (omega arith) (omega arith) in
      (r.0, r.1, r.2, sym (begin.each r.0 r.1) ∙ ap (λ (i : ℕ). get_or seeds i false) r.2 ∙ h)
  leads_bound (suc k) n l (inl h) = inl (leads_bound k n l h)
  leads_bound (suc k) n l (inr h) =
      let m = h.0 in
      let r = top_at 0 (tops_of units) n (tops_numbers units) (omega arith) (omega arith) in
      let into : In m (sources_of targets r.0.number) = subst (λ (i : ℕ). In m (sources_of targets i)) (sym r.2) (source_target targets m n h.1) in
      let inside = inside_at (sources_by targets) m n h.1 in
      let many = grouped_length (length targets) (sources_from 0 targets) in
      let len = shown.len in
      let more = leads_bound k m (omega arith) h.2 in
      ⊎_elim
      (λ (e : binds_itself units r.0 ≡ true). subst (λ (i : ℕ). Bound units (suc k) i) r.2 (bound_at r.0 r.1 e (suc k)))
      (λ (e : binds_itself units r.0 ≡ false). inr (r.0, m, r.1, r.2, (shown.each r.0 r.1 e m).0 into, more))
      (cases_Bool (binds_itself units r.0))

  bound_leads : (k n : ℕ) → Bound units k n → Leads (sources_by targets) seeds k n
  unfolding Bound
  bound_leads zero n b = sym (ap (λ (i : ℕ). get_or seeds i false) b.2) ∙ begin.each b.0 b.1 ∙ b.3
  bound_leads (suc k) n (inl b) = inl (bound_leads k n b)
  bound_leads (suc k) n (inr b) =
      let low = bound_inside k b.1 b.5 in
      let len = shown.len in
      let more = bound_leads k b.1 b.5 in
      ⊎_elim
      (λ (e : binds_itself units b.0 ≡ true). leads_at n (sym (ap (λ (i : ℕ). get_or seeds i false) b.3) ∙ begin.each b.0 b.2 ∙ e) (suc k))
      (λ (e : binds_itself units b.0 ≡ false). inr (
        b.1,
        subst (λ (i : ℕ). In i (sources_of (sources_by targets) b.1)) b.3
            (target_source targets b.1 b.0.number (omega arith) ((shown.each b.0 b.2 e b.1).1 b.4)),
        more,
      ))
      (cases_Bool (binds_itself units b.0))

  pub marked_bound : IsSpread (sources_by targets) seeds marks → (t : Top) → In t (tops_of units) → IsMarked marks t.number ↔ ((k : ℕ) × Bound units k t.number)
  marked_bound spread t i =
      let low = number_below 0 (tops_of units) t (tops_numbers units) i in (
        λ h. (let r = (spread.each t.number).0 h in (r.0, leads_bound r.0 t.number (omega arith) r.1)),
        λ r. (spread.each t.number).1 (r.0, bound_leads r.0 t.number r.1),
      )

  movable_unmarked : IsSpread (sources_by targets) seeds marks → (t : Top) → In t (tops_of units) → (is_movable units t ≡ true → IsMarked marks t.number → ⊥)
      × ((IsMarked marks t.number → ⊥) → is_movable units t ≡ true)
  movable_unmarked spread t i = (
    λ e h. (let m = (movable_decides units t i).0 e in let r = (marked_bound spread t i).0 h in m.free r.0 r.1),
    λ f. (movable_decides units t i).1 (record { top = t; is_top = i; number = refl; free = λ k b. f ((marked_bound spread t i).1 (k, b)) }),
  )

  pub movable_flags : IsSpread (sources_by targets) seeds marks → AreMovable units (map not marks)
  movable_flags spread =
      let len : length marks ≡ length (tops_of units) = spread.len ∙ begin.len in record {
        len = length-map marks not ∙ len;
        each = λ t i. (
            let low = number_below 0 (tops_of units) t (tops_numbers units) i in
            get_or-map not marks t.number false false (omega arith) ∙ same_flag (get_or marks t.number false) (is_movable units t) (movable_unmarked spread t i));
      }
    where
      same_flag : (b c : Bool) → ((c ≡ true → b ≡ true → ⊥) × ((b ≡ true → ⊥) → c ≡ true)) → not b ≡ c
      same_flag true true h = absurd (h.0 refl refl)
      same_flag true false h = refl
      same_flag false true h = refl
      same_flag false false h = sym (h.1 (λ e. false≢true e))

pub flags_by : (units : List (FileUnit EntryName)) (targets : List (List ℕ)) (seeds marks : List Bool) (sources : List (List ℕ)) (flags : List Bool) → sources ≡ sources_by targets
    → IsSpread sources seeds marks → flags ≡ map not marks → ShowTargets units targets → AreSeeds units seeds → AreMovable units flags
flags_by units targets seeds marks sources flags made spread turned shown begin =
    subst (λ (w : List Bool). AreMovable units w) (sym turned) (movable_flags units targets seeds marks shown begin (subst (λ (w : List (List ℕ)). IsSpread w seeds marks) made spread))

pub flag_movable : (units : List (FileUnit EntryName)) (flags : List Bool) → AreMovable units flags → (t : Top) → In t (tops_of units) → (get_or flags t.number false ≡ true) ↔ Movable units t.number
flag_movable units flags are t i = (λ e. (movable_decides units t i).0 (sym (are.each t i) ∙ e), λ m. are.each t i ∙ (movable_decides units t i).1 m)
