-- Before the first node is noted all lists are empty; once all are, the lists are what `back` answers.
use Rattle.std.proofs.Common.{◌≡◌, ℕ, suc, ◌-◌, ◌<◌, ◌≤◌, List, [], length, get_or, take, drop, sym, ap, subst, ◌∙◌, arith}
use Rattle.std.specs.Prelude.{slice_range}
use Rattle.std.proofs.lemmas.List.{get_or_default, get_or-map, length-map}
use Rattle.dwz_nodes.specs.declared.back.Span.{Span}
use Rattle.dwz_nodes.specs.Graph.{Node}
use Rattle.dwz_nodes.specs.Back.{AreBack, AreListed, IsSource, sources_at}
use Rattle.dwz_nodes.specs.Rooms.{AreRooms, IsFilled, all_targets, list_at, span, span_at}
use Rattle.dwz_nodes.specs.Spans.{AreWithin, lists_of}
use Rattle.dwz_nodes.proofs.Apart.{rooms-within}
use Rattle.dwz_nodes.proofs.Counts.{count_at-none, count_below-le}
use Rattle.dwz_nodes.proofs.Flat.{all_targets-none, all_targets-split}
use Rattle.dwz_nodes.proofs.Sources.{listed_none}

pub filled-none : (g : List Node) (spans : List Span) (row : List ℕ) → length spans ≡ length g → length row ≡ length (all_targets g) → AreRooms (all_targets g) [] spans → IsFilled g 0 spans row
filled-none g spans row len room rooms = record {
  len = len;
  room = room;
  rooms = subst (λ (xs : List ℕ). AreRooms (all_targets g) xs spans) (sym (all_targets-none g)) rooms;
  listed = λ a l.
      let in' : a < length spans = omega arith in
      let no_place : (span_at spans a).end - (span_at spans a).start ≡ 0 = omega (arith, rooms.starts a in', rooms.ends a in', count_at-none a) in
      let empty : list_at spans row a ≡ [] = ap (λ n. take n (drop (span_at spans a).start row)) no_place in
      subst (λ (xs : List ℕ). AreListed (IsSource g 0 a) xs) (sym empty) (listed_none g a);
}

pub filled-within : (g : List Node) (n : ℕ) (spans : List Span) (row : List ℕ) → IsFilled g n spans row → AreWithin spans (length row)
filled-within g n spans row f k d l =
    let same : get_or spans k d ≡ span_at spans k = get_or_default spans k d (span 0 0) l in
    let rising = f.rooms.rising k l in
    let end = rooms-within (all_targets g) (all_targets (take n g)) spans f.rooms (all_targets (drop n g)) (all_targets-split g n) k l in
    subst (λ (s : Span). (s.start ≤ s.end) × (s.end ≤ length row)) (sym same) (rising, omega (arith, end, f.room, count_below-le (all_targets g) (suc k)))

pub filled-all : (g : List Node) (spans : List Span) (row : List ℕ) → IsFilled g (length g) spans row → AreBack g (lists_of spans row)
filled-all g spans row f = record {
  len = length-map spans (λ (s : Span). slice_range row s.start s.end) ∙ f.len;
  each = λ a l.
      let is : sources_at (lists_of spans row) a ≡ list_at spans row a = get_or-map (λ (s : Span). slice_range row s.start s.end) spans a (span 0 0) [] (omega (arith, l, f.len)) in
      subst (λ (xs : List ℕ). AreListed (IsSource g (length g) a) xs) (sym is) (f.listed a l);
}
