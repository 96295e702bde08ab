-- Noting one more place keeps every list what it is to be.
use Rattle.std.proofs.Common.{◌≡◌, ◌≢◌, ℕ, suc, ◌+◌, ◌-◌, ◌<◌, ◌≤◌, ◌⊎◌, List, [], ◌∷◌, ◌++◌, length, get_or, set, take, drop, inl, inr, refl, sym, ap, subst, ◌∙◌, arith, length-append, length-drop}
use Rattle.std.proofs.Common.{length-set, get_or-set_other, get_or-set_same}
use Rattle.std.specs.Prelude.{slice_index, slice_range}
use Rattle.std.proofs.lemmas.Bool.{cases_eq}
use Rattle.std.proofs.lemmas.List.{get_or_default, get_or-map, length-map, take_all}
use Rattle.dwz_nodes.specs.declared.back.Span.{Span}
use Rattle.dwz_nodes.specs.declared.uses.Use.{Use}
use Rattle.dwz_nodes.specs.Graph.{Node, targets_at}
use Rattle.dwz_nodes.specs.Rooms.{AreRooms, all_targets, span, span_at}
use Rattle.dwz_nodes.specs.Spans.{AreWithin, lists_of}
use Rattle.dwz_nodes.specs.Uses.{AreUses, AreUsesOf, uses_at}
use Rattle.dwz_nodes.specs.UseRooms.{AreEarlyUses, AreNoted, grown, part_at}
use Rattle.dwz_nodes.proofs.Apart.{apart, range-here, range-other, rooms-place, rooms-set, rooms-skip, rooms-within}
use Rattle.dwz_nodes.proofs.Counts.{count_at-none, count_below-le}
use Rattle.dwz_nodes.proofs.Flat.{all_targets-none, all_targets-split, all_targets-suc, seen_at, seen-more, seen-none, seen-rest}
use Rattle.dwz_nodes.proofs.UseLists.{early-none, early-all, early-next, early-here, early-other, place}

pub noted-none : (g : List Node) (spans : List Span) (row : List Use) → length spans ≡ length g → length row ≡ length (all_targets g) → AreRooms (all_targets g) [] spans → AreNoted g 0 0 spans row
noted-none g spans row len room rooms = record {
  len = len;
  room = room;
  rooms = subst (λ (xs : List ℕ). AreRooms (all_targets g) xs spans) (sym (all_targets-none g) ∙ seen-none g 0) rooms;
  listed = λ a l.
      let in' : a < length spans = omega arith in
      let no_place : (span_at spans a).end - (span_at spans a).start ≡ 0 = omega (arith, rooms.starts a in', rooms.ends a in', count_at-none a) in
      let empty : part_at spans row a ≡ [] = ap (λ n. take n (drop (span_at spans a).start row)) no_place in
      subst (λ (xs : List Use). AreEarlyUses g 0 0 a xs) (sym empty) (early-none g a);
}

pub noted-within : (g : List Node) (n : ℕ) (spans : List Span) (row : List Use) → AreNoted g n 0 spans row → AreWithin spans (length row)
noted-within g n spans row f k d l =
    let same : get_or spans k d ≡ span_at spans k = get_or_default spans k d (span 0 0) l in
    let rooms : AreRooms (all_targets g) (all_targets (take n g)) spans = subst (λ (xs : List ℕ). AreRooms (all_targets g) xs spans) (sym (seen-none g n)) f.rooms in
    let rising = rooms.rising k l in
    let end = rooms-within (all_targets g) (all_targets (take n g)) spans rooms (all_targets (drop n g)) (all_targets-split g n) k l in
    subst (λ (s : Span). (s.start ≤ s.end) × (s.end ≤ length row)) (sym same) (rising, omega (arith, end, f.room, count_below-le (all_targets g) (suc k)))

pub noted-all : (g : List Node) (spans : List Span) (row : List Use) → AreNoted g (length g) 0 spans row → AreUses g (lists_of spans row)
noted-all g spans row f = record {
  len = length-map spans (λ (s : Span). slice_range row s.start s.end) ∙ f.len;
  each = λ a l.
      let is : uses_at (lists_of spans row) a ≡ part_at spans row a = get_or-map (λ (s : Span). slice_range row s.start s.end) spans a (span 0 0) [] (omega (arith, l, f.len)) in
      subst (λ (xs : List Use). AreUsesOf g a xs) (sym is) (early-all g a (part_at spans row a) (f.listed a l));
}

module _ (g : List Node) (n : ℕ) (l : n < length g) where
  abbrev ts : List ℕ
  ts = targets_at g n

  -- a node has no more targets than all together
  pub targets-few : length ts ≤ length (all_targets g)
  targets-few =
      let whole = ap (λ (xs : List ℕ). length xs) (seen-rest g n 0 l) in
      omega (arith, whole, length-append (seen_at g n 0) (drop 0 ts ++ all_targets (drop (n + 1) g)), length-append (drop 0 ts) (all_targets (drop (n + 1) g)), length-drop 0 ts)

  pub noted-end : (j : ℕ) (spans : List Span) (row : List Use) → length ts ≤ j → AreNoted g n j spans row → AreNoted g (n + 1) 0 spans row
  noted-end j spans row long f = record {
    len = f.len;
    room = f.room;
    rooms = subst (λ (xs : List ℕ). AreRooms (all_targets g) xs spans)
        (ap (λ (xs : List ℕ). all_targets (take n g) ++ xs) (take_all j ts long) ∙ (sym (all_targets-suc g n l) ∙ seen-none g (n + 1))) f.rooms;
    listed = λ a in'. early-next g n j a (part_at spans row a) long (f.listed a in');
  }

  module _ (j : ℕ) (inside : j < length ts) (spans : List Span) (row : List Use) (f : AreNoted g n j spans row) where
    abbrev t : ℕ
    t = slice_index ts j

    abbrev rest : List ℕ
    rest = drop (j + 1) ts ++ all_targets (drop (n + 1) g)

    all : all_targets g ≡ (seen_at g n j ++ t ∷ []) ++ rest
    all = seen-rest g n (j + 1) l ∙ ap (λ (xs : List ℕ). xs ++ rest) (seen-more g n j inside)

    -- a target that is no node
    pub noted-skip : length g ≤ t → AreNoted g n (j + 1) spans row
    noted-skip out = record {
      len = f.len;
      room = f.room;
      rooms = subst (λ (xs : List ℕ). AreRooms (all_targets g) xs spans) (sym (seen-more g n j inside)) (rooms-skip (all_targets g) (seen_at g n j) spans f.rooms t);
      listed = λ a in'. (let ne : a ≢ t = omega arith in early-other g n j inside a (part_at spans row a) ne (f.listed a in'));
    }

    module _ (node' : t < length g) where
      there : t < length spans
      there = omega (arith, f.len)

      rising : (span_at spans t).start ≤ (span_at spans t).end
      rising = f.rooms.rising t there

      pub noted-place : (span_at spans t).end < length row
      noted-place = omega (arith, f.room, rooms-place (all_targets g) (seen_at g n j) spans f.rooms t rest all there)

      abbrev new_span : Span
      new_span = grown (span_at spans t)

      abbrev new_row : List Use
      new_row = set row (span_at spans t).end (place g n j inside)

      -- the target's list has the place at its end
      here : part_at (set spans t new_span) new_row t ≡ part_at spans row t ++ place g n j inside ∷ []
      here = ap (λ (q : Span). slice_range new_row q.start q.end) (get_or-set_same spans t new_span (span 0 0) there)
          ∙ range-here row (span_at spans t).start (span_at spans t).end (place g n j inside) rising noted-place

      -- all other lists stay
      other : (a : ℕ) → a < length g → (a ≡ t → ⊥) → part_at (set spans t new_span) new_row a ≡ part_at spans row a
      other a in' ne =
          ap (λ (q : Span). slice_range new_row q.start q.end) (get_or-set_other spans t a new_span (span 0 0) ne)
          ∙ range-other row (span_at spans a).start (span_at spans a).end (span_at spans t).end (place g n j inside)
          (apart (all_targets g) (seen_at g n j) spans f.rooms t rest all there a (omega (arith, f.len)) ne)

      by : (a : ℕ) → a < length g → (a ≡ t) ⊎ (a ≡ t → ⊥) → AreEarlyUses g n (j + 1) a (part_at (set spans t new_span) new_row a)
      by a in' (inl e) = subst (λ b. AreEarlyUses g n (j + 1) b (part_at (set spans t new_span) new_row b)) (sym e)
          (subst (λ (xs : List Use). AreEarlyUses g n (j + 1) t xs) (sym here) (early-here g n j inside (part_at spans row t) (f.listed t node')))
      by a in' (inr ne) = subst (λ (xs : List Use). AreEarlyUses g n (j + 1) a xs) (sym (other a in' ne)) (early-other g n j inside a (part_at spans row a) ne (f.listed a in'))

      pub noted-more : AreNoted g n (j + 1) (set spans t new_span) new_row
      noted-more = record {
        len = length-set spans t new_span ∙ f.len;
        room = length-set row (span_at spans t).end (place g n j inside) ∙ f.room;
        rooms = subst (λ (xs : List ℕ). AreRooms (all_targets g) xs (set spans t new_span)) (sym (seen-more g n j inside))
            (rooms-set (all_targets g) (seen_at g n j) spans f.rooms t new_span there refl (omega arith) (omega arith));
        listed = λ a in'. by a in' (cases_eq a t);
      }
