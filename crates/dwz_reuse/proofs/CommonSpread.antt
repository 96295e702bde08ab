-- What marks that spread among the tops of a common file say: just the bound ones are marked.
use Rattle.std.proofs.Common.{◌≡◌, ◌↔◌, ℕ, zero, suc, ◌+◌, ◌-◌, ◌<◌, ◌≤◌, Bool, true, false, List, [], length, map, get_or, refl, sym, ap, subst, ◌∙◌, inl, inr, ⊎_elim, arith}
use Rattle.std.specs.Prelude.{not}
use Rattle.std.proofs.lemmas.Bool.{cases_Bool, false≢true}
use Rattle.std.proofs.lemmas.List.{get_or-map, length-map}
use Rattle.dwz_def_reading.specs.Documents.{Doc}
use Rattle.dwz_def_reading.specs.Lists.{In}
use Rattle.dwz_def_taken.specs.Beside.{Reused, look_units, own_tops, reused_of}
use Rattle.dwz_def_taken.specs.Laws.{ArePlacedOver, IsReused}
use Rattle.dwz_def_taken.proofs.NamesOver.{named_over}
use Rattle.dwz_def_taken.proofs.PlaceLemmas.{whole}
use Rattle.dwz_def_tops.specs.Alike.{Bound, Movable, binds_itself}
use Rattle.dwz_def_tops.specs.Deciding.{is_movable}
use Rattle.dwz_def_tops.specs.Spots.{EntryName, FileUnit, Top, tops_of}
use Rattle.dwz_def_tops.proofs.AlikeBound.{movable_decides}
use Rattle.dwz_def_tops.proofs.TopNumbers.{number_below, top_at, tops_numbers}
use Rattle.dwz_groups.specs.declared.groups.Edge.{Edge}
use Rattle.dwz_groups.specs.Groups.{grouped}
use Rattle.dwz_groups.specs.Spreading.{IsMarked, IsSpread, Leads}
use Rattle.dwz_groups.proofs.MarkLemmas.{grouped_length, inside_at}
use Rattle.dwz_match.specs.ClassLaws.{AreCommonFlags}
use Rattle.dwz_match.specs.Partial.{ArePartial}
use Rattle.dwz_match.proofs.LookCount.{look_many}
use Rattle.dwz_reuse.specs.Spread.{AreCommonSeeds, AreSources, ShowCommonTargets}
use Rattle.dwz_reuse.proofs.CommonTop.{refers_on}
use Rattle.dwz_reuse.proofs.SpreadSteps.{is_source, source_is}

module _ (docs : List (Doc ℕ)) (common : Doc ℕ) (placed : ArePlacedOver docs common) (partial : ArePartial common.units) (targets : List (List ℕ)) (seeds : List Bool) (edges : List Edge)
    (begin : AreCommonSeeds (reused_of docs common) seeds) (shown : ShowCommonTargets (reused_of docs common) targets) (are : AreSources (own_tops (reused_of docs common)) targets edges) where
  abbrev r : Reused
  r = reused_of docs common

  abbrev low : ℕ
  low = own_tops (reused_of docs common)

  abbrev world : List (FileUnit EntryName)
  world = look_units (reused_of docs common)

  re : IsReused r
  re = named_over docs common placed

  abbrev sources : List (List ℕ)
  sources = grouped (length seeds) edges

  many : low + length seeds ≡ length (tops_of world)
  many = begin.len ∙ sym (look_many r (whole r re))

  record TopAt (n : ℕ) : Type 0 where
    top : Top
    there : In top (tops_of world)
    number : top.number ≡ low + n
    high : low ≤ top.number

  top_of : (n : ℕ) → n < length seeds → TopAt n
  top_of n l =
      let long = many in
      let o = top_at 0 (tops_of world) (low + n) (tops_numbers world) (omega arith) (omega (arith, l, long)) in
      let e = o.2 in
      record { top = o.0; there = o.1; number = o.2; high = omega (arith, e) }

  seed_at : (t : Top) → In t (tops_of world) → (n : ℕ) → t.number ≡ low + n → get_or seeds n false ≡ binds_itself world t
  seed_at t i n e =
      let back : n ≡ t.number - low = omega (arith, e) in
      ap (λ (k : ℕ). get_or seeds k false) back ∙ begin.each t i (omega (arith, e))

  bound_inside : (k n : ℕ) → Bound world k n → n < length (tops_of world)
  unfolding Bound
  bound_inside zero n b = let l = number_below 0 (tops_of world) b.0 (tops_numbers world) b.1 in let e = b.2 in omega (arith, l, e)
  bound_inside (suc k) n (inl b) = bound_inside k n b
  bound_inside (suc k) n (inr b) = let l = number_below 0 (tops_of world) b.0 (tops_numbers world) b.2 in let e = b.3 in omega (arith, l, e)

  bound_at : (t : Top) → In t (tops_of world) → (n : ℕ) → t.number ≡ n → binds_itself world t ≡ true → (k : ℕ) → Bound world k n
  unfolding Bound
  bound_at t i n same e zero = (t, i, same, e)
  bound_at t i n same e (suc k) = inl (bound_at t i n same e k)

  leads_at : (n : ℕ) → IsMarked seeds n → (k : ℕ) → Leads sources seeds k n
  leads_at n h zero = h
  leads_at n h (suc k) = inl (leads_at n h k)

  leads_bound : (k n : ℕ) → n < length seeds → Leads sources seeds k n → Bound world k (low + n)
  unfolding Bound
  leads_bound zero n l h = let o = top_of n l in (o.top, o.there, o.number, sym (seed_at o.top o.there n o.number) ∙ h)
  leads_bound (suc k) n l (inl h) = inl (leads_bound k n l h)
  leads_bound (suc k) n l (inr h) =
      let m = h.0 in
      let o = top_of n l in
      let into : In (low + m) (get_or targets o.top.number []) = subst (λ (j : ℕ). In (low + m) (get_or targets j [])) (sym o.number) (source_is low (length seeds) targets edges are m n h.1) in
      let inside = inside_at sources m n h.1 in
      let long = grouped_length (length seeds) edges in
      let more = leads_bound k m (omega (arith, inside, long)) h.2 in
      ⊎_elim
      (λ (e : binds_itself world o.top ≡ true). bound_at o.top o.there (low + n) o.number e (suc k))
      (λ (e : binds_itself world o.top ≡ false). inr (o.top, low + m, o.there, o.number, (shown o.top o.there o.high e (low + m)).0 into, more))
      (cases_Bool (binds_itself world o.top))

  bound_leads : (k n : ℕ) → Bound world k (low + n) → Leads sources seeds k n
  unfolding Bound
  bound_leads zero n b = seed_at b.0 b.1 n b.2 ∙ b.3
  bound_leads (suc k) n (inl b) = inl (bound_leads k n b)
  bound_leads (suc k) n (inr b) =
      let t = b.0 in
      let m = b.1 in
      let number = b.3 in
      let high : low ≤ t.number = omega (arith, number) in
      let on = refers_on docs common placed partial t b.2 high m b.4 in
      let same : low + (m - low) ≡ m = omega (arith, on) in
      let inside = bound_inside k m b.5 in
      let long = many in
      let more = bound_leads k (m - low) (subst (λ (j : ℕ). Bound world k j) (sym same) b.5) in
      ⊎_elim
      (λ (e : binds_itself world t ≡ true). leads_at n (seed_at t b.2 n number ∙ e) (suc k))
      (λ (e : binds_itself world t ≡ false). inr (
        m - low,
        is_source low (length seeds) targets edges are (m - low) n (omega (arith, on, inside, long))
            (subst (λ (j : ℕ). In j (get_or targets (low + n) [])) (sym same)
            (subst (λ (j : ℕ). In m (get_or targets j [])) number ((shown t b.2 high e m).1 b.4))),
        more,
      ))
      (cases_Bool (binds_itself world t))

  module _ (marks : List Bool) (spread : IsSpread sources seeds marks) where
    marked_bound : (t : Top) → In t (tops_of world) → low ≤ t.number → IsMarked marks (t.number - low) ↔ ((k : ℕ) × Bound world k t.number)
    marked_bound t i high =
        let same : low + (t.number - low) ≡ t.number = omega (arith, high) in
        let below = number_below 0 (tops_of world) t (tops_numbers world) i in
        let long = many in (
          λ h. (let o = (spread.each (t.number - low)).0 h in
              (o.0, subst (λ (j : ℕ). Bound world o.0 j) same (leads_bound o.0 (t.number - low) (omega (arith, high, below, long)) o.1))),
          λ o. (spread.each (t.number - low)).1 (o.0, bound_leads o.0 (t.number - low) (subst (λ (j : ℕ). Bound world o.0 j) (sym same) o.1)),
        )

    same_flag : (b c : Bool) → (c ≡ true → b ≡ true → ⊥) → ((b ≡ true → ⊥) → c ≡ true) → not b ≡ c
    same_flag true true f g = absurd (f refl refl)
    same_flag true false f g = refl
    same_flag false true f g = refl
    same_flag false false f g = sym (g (λ e. false≢true e))

    pub common_flags : AreCommonFlags r (map not marks)
    common_flags = record {
      len = ap (λ (n : ℕ). low + n) (length-map marks not ∙ spread.len) ∙ begin.len;
      each = λ t i high. (
          let below = number_below 0 (tops_of world) t (tops_numbers world) i in
          let long = many in
          let len = spread.len in
          let law = marked_bound t i high in
          get_or-map not marks (t.number - low) false false (omega (arith, high, below, long, len))
          ∙ same_flag (get_or marks (t.number - low) false) (is_movable world t)
          (λ e h. (let m : Movable world t.number = (movable_decides world t i).0 e in let o = law.0 h in m.free o.0 o.1))
          (λ f. (movable_decides world t i).1 (record { top = t; is_top = i; number = refl; free = λ k b. f (law.1 (k, b)) })));
    }

pub flags_by : (docs : List (Doc ℕ)) (common : Doc ℕ) → ArePlacedOver docs common → ArePartial common.units → (first : ℕ) → own_tops (reused_of docs common) ≡ first → (targets : List (List ℕ))
    (seeds marks flags : List Bool) (edges : List Edge) (sources : List (List ℕ)) → AreSources first targets edges → sources ≡ grouped (length seeds) edges → IsSpread sources seeds marks
    → flags ≡ map not marks → AreCommonSeeds (reused_of docs common) seeds → ShowCommonTargets (reused_of docs common) targets → AreCommonFlags (reused_of docs common) flags
flags_by docs common placed partial first same targets seeds marks flags edges lists are made spread turned begin shown =
    subst (λ (w : List Bool). AreCommonFlags (reused_of docs common) w) (sym turned)
    (common_flags docs common placed partial targets seeds edges begin shown (subst (λ (n : ℕ). AreSources n targets edges) (sym same) are) marks
    (subst (λ (w : List (List ℕ)). IsSpread w seeds marks) made spread))
