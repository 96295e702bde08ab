-- What rows say: of one that is closed, and of how many there are.
use Rattle.std.proofs.Common.{◌≡◌, ℕ, zero, suc, ◌+◌, ◌≤◌, List, [], ◌∷◌, ◌++◌, length, map, get_or, refl, sym, ap, ◌∙◌, arith}
use Rattle.std.proofs.lemmas.List.{length-append, length-map}
use Rattle.std.proofs.Math.ListN.{set}
use Rattle.std.proofs.Math.Seq.{get_or-append_seam, set-append_seam}
use Rattle.dwz_model.specs.declared.place.Pair.{Pair}
use Rattle.dwz_unit.specs.declared.context.Context.{Context}
use Rattle.dwz_unit.specs.declared.rows.Row.{Row}
use Rattle.dwz_unit.specs.Appending.{Closes}
use Rattle.dwz_unit.specs.Contexts.{decls_of, known_rows}
use Rattle.dwz_unit.specs.Known.{KnownRow, row_view}

-- ---- the row of an entry is closed

closed_row : (items : List KnownRow) (x : KnownRow) (number n : ℕ) → x ≡ get_or items number x → n ≡ length items → (before below : List KnownRow) (row : KnownRow) → items ≡ before ++ row ∷ below → number ≡ length before
    → set items number (record x { end = n }) ≡ before ++ record row { end = number + 1 + length below } ∷ below
closed_row items x number n is len before below row parts at =
    let there : x ≡ row = is ∙ ap (λ (w : List KnownRow). get_or w number x) parts ∙ rw at (get_or-append_seam before row below x) in
    let end : n ≡ number + 1 + length below = omega (arith, len, at, ap length parts, length-append before (row ∷ below)) in
    let closed : record x { end = n } ≡ record row { end = number + 1 + length below } = rw end (ap (λ (w : KnownRow). record w { end = number + 1 + length below }) there) in
    ap (λ (w : List KnownRow). set w number (record x { end = n })) parts ∙ rw at (set-append_seam before row below (record x { end = n })) ∙ ap (λ (w : KnownRow). before ++ w ∷ below) closed

map-set : (decls : List (List Pair)) (items : List Row) (number n : ℕ) (x : Row) → map (row_view decls) (set items number (record x { end = n })) ≡ set (map (row_view decls) items) number (record (row_view decls x) { end = n })
map-set decls [] number n x = refl
map-set decls (row ∷ items) zero n x = refl
map-set decls (row ∷ items) (suc number) n x = ap (λ (w : List KnownRow). row_view decls row ∷ w) (map-set decls items number n x)

pub map-get : (decls : List (List Pair)) (items : List Row) (number : ℕ) (x : Row) → get_or (map (row_view decls) items) number (row_view decls x) ≡ row_view decls (get_or items number x)
map-get decls [] number x = refl
map-get decls (row ∷ items) zero x = refl
map-get decls (row ∷ items) (suc number) x = map-get decls items number x

pub closes : (decls : List (List Pair)) (items : List Row) (x : Row) (number n : ℕ) → x ≡ get_or items number x → n ≡ length items
    → Closes number (map (row_view decls) items) (map (row_view decls) (set items number (record x { end = n })))
closes decls items x number n is len = λ before below row parts at.
    map-set decls items number n x
    ∙ closed_row (map (row_view decls) items) (row_view decls x) number n (ap (row_view decls) is ∙ sym (map-get decls items number x)) (len ∙ sym (length-map items (row_view decls))) before below row parts at

-- ---- as many rows say as much

pub known_count : (c : Context) (rows : List Row) (n : ℕ) → n ≡ length rows → n ≡ length (known_rows c rows)
known_count c rows n is = is ∙ sym (length-map rows (row_view (decls_of c)))

pub known_room : (c : Context) (rows : List Row) (n : ℕ) → length rows ≤ n → length (known_rows c rows) ≤ n
known_room c rows n le = omega (arith, le, length-map rows (row_view (decls_of c)))

pub room_known : (c : Context) (rows : List Row) (n : ℕ) → length (known_rows c rows) ≤ n → length rows ≤ n
room_known c rows n le = omega (arith, le, length-map rows (row_view (decls_of c)))
