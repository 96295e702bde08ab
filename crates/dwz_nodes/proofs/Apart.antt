-- Rooms stay apart: what is written behind one span lies outside all others.
use Rattle.std.proofs.Common.{◌≡◌, ℕ, suc, ◌+◌, ◌-◌, ◌<◌, ◌≤◌, List, [], ◌∷◌, ◌++◌, length, set, take, drop, sym, ap, subst, ◌∙◌, arith, length-set, ◌⊎◌, inl, inr}
use Rattle.std.specs.Prelude.{slice_range}
use Rattle.std.proofs.lemmas.Bool.{cases_eq, cases_lt}
use Rattle.std.proofs.lemmas.List.{take_more_set, take-set-le, drop-set-lt, drop-append-le, length-take-le, get_or-set_same, get_or-set_other}
use Rattle.std.proofs.lemmas.Slice.{between_is}
use Rattle.dwz_nodes.specs.declared.back.Span.{Span}
use Rattle.dwz_nodes.specs.Rooms.{AreRooms, count_at, count_below, span, span_at}
use Rattle.dwz_nodes.proofs.Counts.{count_at-append, count_at-one, count_below-le, count_below-rise, count_below-suc}

pub range-other : {X : Type 0} (ns : List X) (s e at : ℕ) (v : X) → (at < s) ⊎ (e ≤ at) → slice_range (set ns at v) s e ≡ slice_range ns s e
range-other ns s e at v (inl l) = ap (take (e - s)) (drop-set-lt s ns at v l)
range-other ns s e at v (inr l) = between_is (set ns at v) s e ∙ (ap (drop s) (take-set-le e ns at v l) ∙ sym (between_is ns s e))

pub range-here : {X : Type 0} (ns : List X) (s at : ℕ) (v : X) → s ≤ at → at < length ns → slice_range (set ns at v) s (at + 1) ≡ slice_range ns s at ++ v ∷ []
range-here {X} ns s at v l in' =
    let len : length (take at ns) ≡ at = length-take-le at ns (omega arith) in
    between_is (set ns at v) s (at + 1) ∙ (ap (drop s) (take_more_set ns at v in')
    ∙ (drop-append-le s (take at ns) (v ∷ []) (omega (arith, len)) ∙ ap (λ (xs : List X). xs ++ v ∷ []) (sym (between_is ns s at))))

module _ (ts : List ℕ) where
  pub rooms-none : (spans : List Span) → ((a : ℕ) → a < length spans → span_at spans a ≡ span (count_below ts a) (count_below ts a)) → AreRooms ts [] spans
  rooms-none spans is = record {
    starts = λ a l. ap (λ (s : Span). s.start) (is a l);
    rising = λ a l. let s = ap (λ (s : Span). s.start) (is a l) in let e = ap (λ (s : Span). s.end) (is a l) in omega arith;
    ends = λ a l. let e = ap (λ (s : Span). s.end) (is a l) in omega arith;
  }

  module _ (seen : List ℕ) (spans : List Span) (r : AreRooms ts seen spans) where
    -- a target that has no span
    pub rooms-skip : (t : ℕ) → AreRooms ts (seen ++ t ∷ []) spans
    rooms-skip t = record {
      starts = r.starts;
      rising = r.rising;
      ends = λ a l. omega (arith, r.ends a l, count_at-append seen (t ∷ []) a);
    }

    -- a target whose span stays, or grows by a place
    pub rooms-set : (t : ℕ) (s : Span) → t < length spans → s.start ≡ (span_at spans t).start → (span_at spans t).end ≤ s.end → s.end ≤ (span_at spans t).end + 1
        → AreRooms ts (seen ++ t ∷ []) (set spans t s)
    rooms-set t s l start more most = record {
      starts = λ a in'. by_starts a (omega (arith, in', length-set spans t s)) (cases_eq a t);
      rising = λ a in'. by_rising a (omega (arith, in', length-set spans t s)) (cases_eq a t);
      ends = λ a in'. by_ends a (omega (arith, in', length-set spans t s)) (cases_eq a t);
    } where
      here : span_at (set spans t s) t ≡ s
      here = get_or-set_same spans t s (span 0 0) l

      other : (a : ℕ) → (a ≡ t → ⊥) → span_at (set spans t s) a ≡ span_at spans a
      other a ne = get_or-set_other spans t a s (span 0 0) ne

      by_starts : (a : ℕ) → a < length spans → (a ≡ t) ⊎ (a ≡ t → ⊥) → (span_at (set spans t s) a).start ≡ count_below ts a
      by_starts a in' (inl e) = subst (λ b. (span_at (set spans t s) b).start ≡ count_below ts b) (sym e) (ap (λ (q : Span). q.start) here ∙ (start ∙ r.starts t l))
      by_starts a in' (inr ne) = ap (λ (q : Span). q.start) (other a ne) ∙ r.starts a in'

      by_rising : (a : ℕ) → a < length spans → (a ≡ t) ⊎ (a ≡ t → ⊥) → (span_at (set spans t s) a).start ≤ (span_at (set spans t s) a).end
      by_rising a in' (inl e) = subst (λ b. (span_at (set spans t s) b).start ≤ (span_at (set spans t s) b).end) (sym e)
          (subst (λ (q : Span). q.start ≤ q.end) (sym here) (omega (arith, r.rising t l)))
      by_rising a in' (inr ne) = subst (λ (q : Span). q.start ≤ q.end) (sym (other a ne)) (r.rising a in')

      by_ends : (a : ℕ) → a < length spans → (a ≡ t) ⊎ (a ≡ t → ⊥) → (span_at (set spans t s) a).end ≤ count_below ts a + count_at (seen ++ t ∷ []) a
      by_ends a in' (inl e) = subst (λ b. (span_at (set spans t s) b).end ≤ count_below ts b + count_at (seen ++ t ∷ []) b) (sym e)
          (subst (λ (q : Span). q.end ≤ count_below ts t + count_at (seen ++ t ∷ []) t) (sym here) (omega (arith, r.ends t l, count_at-append seen (t ∷ []) t, count_at-one t)))
      by_ends a in' (inr ne) = subst (λ (q : Span). q.end ≤ count_below ts a + count_at (seen ++ t ∷ []) a) (sym (other a ne)) (omega (arith, r.ends a in', count_at-append seen (t ∷ []) a))

    -- all spans end in the row
    pub rooms-within : (rest : List ℕ) → ts ≡ seen ++ rest → (a : ℕ) → a < length spans → (span_at spans a).end ≤ count_below ts (suc a)
    rooms-within rest all a l =
        let part = ap (λ (us : List ℕ). count_at us a) all in
        omega (arith, part, r.ends a l, count_at-append seen rest a, count_below-suc ts a)

    module _ (t : ℕ) (rest : List ℕ) (all : ts ≡ (seen ++ t ∷ []) ++ rest) (l : t < length spans) where
      -- the room of a target has a place for it
      room_left : (span_at spans t).end < count_below ts (suc t)
      room_left =
          let part = ap (λ (us : List ℕ). count_at us t) all in
          omega (arith, part, r.ends t l, count_at-append (seen ++ t ∷ []) rest t, count_at-append seen (t ∷ []) t, count_at-one t, count_below-suc ts t)

      pub rooms-place : (span_at spans t).end < length ts
      rooms-place = omega (arith, room_left, count_below-le ts (suc t))

      -- that place lies outside all other spans
      pub apart : (a : ℕ) → a < length spans → (a ≡ t → ⊥) → ((span_at spans t).end < (span_at spans a).start) ⊎ ((span_at spans a).end ≤ (span_at spans t).end)
      apart a in' ne = by (cases_lt t a) where
        end_of : (span_at spans a).end ≤ count_below ts (suc a)
        end_of =
            let part = ap (λ (us : List ℕ). count_at us a) all in
            omega (arith, part, r.ends a in', count_at-append (seen ++ t ∷ []) rest a, count_at-append seen (t ∷ []) a, count_below-suc ts a)

        by : (t < a) ⊎ (a ≤ t) → ((span_at spans t).end < (span_at spans a).start) ⊎ ((span_at spans a).end ≤ (span_at spans t).end)
        by (inl lt) = inl (omega (arith, room_left, count_below-rise ts (suc t) a (omega arith), r.starts a in'))
        by (inr le) = inr (let n : a ≡ t → ⊥ = ne in omega (arith, end_of, count_below-rise ts (suc a) t (omega arith), r.starts t l, r.rising t l))
