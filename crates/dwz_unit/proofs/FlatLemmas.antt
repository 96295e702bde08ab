-- Lists that lie in one row.
use Rattle.std.proofs.Common.{◌≡◌, ℕ, zero, suc, ◌+◌, ◌-◌, ◌<◌, ◌≤◌, List, [], ◌∷◌, ◌++◌, length, map, take, drop, Option, Some, refl, sym, ap, ◌∙◌, append_assoc, arith}
use Rattle.std.proofs.Math.ListN.{set}
use Rattle.std.specs.List.{All, slice_get}
use Rattle.std.specs.Option.{option_map}
use Rattle.std.proofs.lemmas.List.{append-nil, drop-append-le, drop_at, length-drop, map_more, map_push, take-append-le, take_all}
use Rattle.std.proofs.lemmas.List.Elements.{All-head, All-tail}
use Rattle.std.proofs.lemmas.Option.{get_or_from_slice_get, slice_get-map, slice_get_within}
use Rattle.dwz_model.specs.declared.place.Pair.{Pair}
use Rattle.dwz_unit.specs.declared.flat_rows.Span.{Span}
use Rattle.dwz_unit.specs.declared.rows.Row.{Row}
use Rattle.dwz_unit.specs.Known.{KnownRow, row_view}
use Rattle.dwz_unit.specs.Spans.{IsWithin, part_of}

-- one answer more
pub map_got : {A B : Type 0} (f : A → B) (xs : List A) (i : ℕ) (x : A) → slice_get xs i ≡ Some x → map f (take (i + 1) xs) ≡ map f (take i xs) ++ f x ∷ []
map_got f xs i x there =
    map_more f xs i x (slice_get_within xs i x there) ∙ ap (λ y. map f (take i xs) ++ f y ∷ []) (get_or_from_slice_get xs i x x there)

-- ---- where items are added

part_more : {A : Type 0} (items more : List A) (s : Span) → IsWithin (length items) s → part_of (items ++ more) s ≡ part_of items s
part_more items more s within =
    ap (λ w. take (s.first + s.count - s.first) w) (drop-append-le s.first items more (omega (arith, within)))
    ∙ take-append-le (s.first + s.count - s.first) (drop s.first items) more (omega (arith, within, length-drop s.first items))

-- the parts stay
pub parts_more : {A : Type 0} (items more : List A) (spans : List Span) → All (IsWithin (length items)) spans → map (part_of (items ++ more)) spans ≡ map (part_of items) spans
parts_more items more [] all = refl
parts_more items more (s ∷ spans) all =
    ap (λ w. w ∷ map (part_of (items ++ more)) spans) (part_more items more s (All-head (IsWithin (length items)) s spans all))
    ∙ ap (λ w. part_of items s ∷ w) (parts_more items more spans (All-tail (IsWithin (length items)) s spans all))

-- what is added is a part
part_last : {A : Type 0} (items list : List A) (first count : ℕ) → first ≡ length items → count ≡ length list → part_of (items ++ list) (record { first = first; count = count }) ≡ list
part_last items list first count at many =
    ap (λ w. take (first + count - first) w) (drop_at items list first (sym at)) ∙ take_all (first + count - first) list (omega (arith, many))

pub parts_pushed : {A : Type 0} (items list all : List A) (spans more : List Span) (first count : ℕ) → All (IsWithin (length items)) spans → first ≡ length items → count ≡ length list → all ≡ items ++ list
    → more ≡ spans ++ record { first = first; count = count } ∷ [] → map (part_of all) more ≡ map (part_of items) spans ++ list ∷ []
parts_pushed items list all spans more first count within at many added pushed =
    let last : Span = record { first = first; count = count } in
    ap (map (part_of all)) pushed ∙ ap (λ w. map (part_of w) (spans ++ last ∷ [])) added ∙ map_push (part_of (items ++ list)) spans last
    ∙ ap (λ w. w ++ part_of (items ++ list) last ∷ []) (parts_more items list spans within)
    ∙ ap (λ w. map (part_of items) spans ++ w ∷ []) (part_last items list first count at many)

-- ---- parts that are kept

-- a part that is written again stays
pub kept_still : (new old : List Span) (m n : ℕ) (s : Span) → slice_get old m ≡ Some s → slice_get new n ≡ slice_get old n → slice_get (set new m s) n ≡ slice_get old n
kept_still [] old m n s there same = same
kept_still (x ∷ new) [] m n s there same = absurd cc
kept_still (x ∷ new) (y ∷ old) zero zero s there same = sym there
kept_still (x ∷ new) (y ∷ old) zero (suc n) s there same = same
kept_still (x ∷ new) (y ∷ old) (suc m) zero s there same = same
kept_still (x ∷ new) (y ∷ old) (suc m) (suc n) s there same = kept_still new old m n s there same

pub kept_here : (new old : List Span) (m : ℕ) (s : Span) → m < length new → slice_get old m ≡ Some s → slice_get (set new m s) m ≡ slice_get old m
kept_here [] old m s lt there = absurd (omega (arith, lt))
kept_here (x ∷ new) [] m s lt there = absurd cc
kept_here (x ∷ new) (y ∷ old) zero s lt there = sym there
kept_here (x ∷ new) (y ∷ old) (suc m) s lt there = kept_here new old m s (omega (arith, lt)) there

-- rows say the same where the parts of their declarations are the same
pub used_rows : (pairs : List Pair) (new old : List Span) (entries : List Row) → All (λ row. slice_get new row.decl ≡ slice_get old row.decl) entries
    → map (row_view (map (part_of pairs) new)) entries ≡ map (row_view (map (part_of pairs) old)) entries
used_rows pairs new old [] all = refl
used_rows pairs new old (row ∷ entries) all =
    let P : Row → Type 0 = λ r. slice_get new r.decl ≡ slice_get old r.decl in
    let part = part_of pairs in
    let same : slice_get (map part new) row.decl ≡ slice_get (map part old) row.decl =
    slice_get-map part new row.decl ∙ ap (option_map part) (All-head P row entries all) ∙ sym (slice_get-map part old row.decl) in
    ap (λ (o : Option (List Pair)). record (row_view (map part old) row) { pairs = o } ∷ map (row_view (map part new)) entries) same
    ∙ ap (λ (w : List KnownRow). row_view (map part old) row ∷ w) (used_rows pairs new old entries (All-tail P row entries all))

-- ---- what is appended, one by one

pub none_added : {X Y : Type 0} (f : X → Y) (xs : List X) (ys : List Y) → ys ≡ ys ++ map f (take 0 xs)
none_added f xs ys = sym (append-nil ys)

pub one_added : {X Y : Type 0} (f : X → Y) (xs : List X) (k : ℕ) (x : X) (y : Y) (before old new : List Y) → slice_get xs k ≡ Some x → y ≡ f x → new ≡ old ++ y ∷ [] → old ≡ before ++ map f (take k xs)
    → new ≡ before ++ map f (take (k + 1) xs)
one_added {X} {Y} f xs k x y before old new there is e h =
    e ∙ (λ i. h i ++ is i ∷ []) ∙ append_assoc before (map f (take k xs)) (f x ∷ []) ∙ ap (λ (w : List Y). before ++ w) (sym (map_got f xs k x there))

pub all_added : {X Y : Type 0} (f : X → Y) (xs : List X) (k : ℕ) (before new : List Y) → length xs ≤ k → new ≡ before ++ map f (take k xs) → new ≡ before ++ map f xs
all_added {X} {Y} f xs k before new le h = h ∙ ap (λ (w : List X). before ++ map f w) (take_all k xs le)
