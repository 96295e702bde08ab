-- The old units of a file, one after the other: what was appended, and what is left.
use Rattle.std.proofs.Common.{◌≡◌, ℕ, zero, suc, ◌+◌, ◌<◌, ◌≤◌, List, [], ◌∷◌, ◌++◌, length, drop, Some, slice_get, refl, sym, ap, subst, ◌∙◌, arith}
use Rattle.std.proofs.lemmas.List.{append-nil, append_assoc, drop_all}
use Rattle.dwz_def_reading.specs.Units.{CompileUnit, PartialUnit, RawKind, RawUnit, TypeUnit, entries_in, entry_count}
use Rattle.dwz_def_reading.proofs.ListFacts.{drop_here}
use Rattle.dwz_graph.specs.Spaces.{stored_space}
use Rattle.dwz_layout.specs.declared.order.UnitItems.{UnitItems}
use Rattle.dwz_unit.proofs.UnitThere.{unit_there}
use Rattle.dwz_unit.specs.declared.rows.RawUnit.{RawUnit as UnitOfCode}
use Rattle.dwz_unit.specs.Rows.{shown_from, shown_units, unit_shown}
use Rattle.dwz_layout_order.specs.declared.marks.Marks.{Marks}
use Rattle.dwz_layout_order.specs.declared.outline.Next.{Next}
use Rattle.dwz_layout_order.specs.Kept.{AreKept, From, PutsKept, UnitKept, behind_from, behind_kind, behind_unit}
use Rattle.dwz_layout_order.specs.Outline.{HasRoom}
use Rattle.dwz_layout_order.proofs.OutlineLemmas.{few}

abbrev pub from_at : From → (n first : ℕ) → From
from_at f n first = record { file = f.file; start = f.start; unit = f.unit + n; first = first }

-- n units were appended, and whatever is right of the others makes all right
pub record Going (raw : List RawUnit) (m : Marks) (imports : ℕ → List ℕ) (from : From) (begin : Next) (old : List UnitItems) (n : ℕ) (next : Next) (new : List UnitItems) : Type 0 where
  pub first : ℕ
  pub more : List UnitItems
  pub order : new ≡ old ++ more
  pub shown : drop n (shown_units raw) ≡ shown_from (drop n raw) first
  pub room : HasRoom next first (entries_in raw)
  pub all : (rest : List UnitItems) → AreKept raw m imports (from_at from n first) next (drop n raw) rest → AreKept raw m imports from begin raw (more ++ rest)

module _ (raw : List RawUnit) (m : Marks) (imports : ℕ → List ℕ) (from : From) (begin : Next) (old : List UnitItems) where
  pub going_begins : from.first ≡ 0 → HasRoom begin 0 (entries_in raw) → Going raw m imports from begin old 0 begin old
  going_begins zero_is room =
      let none : from.unit + 0 ≡ from.unit = omega arith in
      let same : from_at from 0 0 ≡ from = (λ i. record { file = from.file; start = from.start; unit = none i; first = sym zero_is i }) in
      record {
        first = 0;
        more = [];
        order = sym (append-nil old);
        shown = refl;
        room = room;
        all = λ rest h. subst (λ (f : From). AreKept raw m imports f begin raw rest) same h;
      }

  module _ (n : ℕ) (next : Next) (new : List UnitItems) (g : Going raw m imports from begin old n next new) where
    pub next_first : (x : UnitOfCode) → slice_get (shown_units raw) n ≡ Some x → (u : RawUnit) × (slice_get raw n ≡ Some u) × (x.first ≡ g.first)
        × (drop (n + 1) (shown_units raw) ≡ shown_from (drop (n + 1) raw) (g.first + entry_count u))
    unfolding shown_from
    next_first x shown =
        let t = unit_there raw n x shown in
        let first = g.first in
        let here = drop_here raw n t.u t.is_unit in
        let there = drop_here (shown_units raw) n x shown in
        let both : x ∷ drop (n + 1) (shown_units raw) ≡ unit_shown first t.u ∷ shown_from (drop (n + 1) raw) (first + entry_count t.u) = sym there ∙ g.shown
        ∙ ap (λ (w : List RawUnit). shown_from w first) here in
        let one : x ≡ unit_shown first t.u = cc in
        (t.u, t.is_unit, ap (λ (w : UnitOfCode). w.first) one, cc)

    pub room_there : (x : UnitOfCode) → slice_get (shown_units raw) n ≡ Some x → HasRoom next x.first (entries_in raw)
    room_there x shown = (let r = next_first x shown in subst (λ (k : ℕ). HasRoom next k (entries_in raw)) (sym r.2) g.room)

    room_behind : (u : RawUnit) → HasRoom (behind_unit u next) (g.first + entry_count u) (entries_in raw)
    room_behind u = by u.kind where
      by : (k : RawKind) → HasRoom (behind_kind k u.below next) (g.first + entry_count u) (entries_in raw)
      by CompileUnit =
          let less = few stored_space u.below in
          let tops = g.room.tops in
          let spaces = g.room.spaces in
          record { tops = omega arith; spaces = omega arith }
      by (TypeUnit signature type_offset) = (let tops = g.room.tops in let spaces = g.room.spaces in record { tops = omega arith; spaces = omega arith })
      by PartialUnit = (let tops = g.room.tops in let spaces = g.room.spaces in record { tops = omega arith; spaces = omega arith })

    pub going_on : (x : UnitOfCode) (after : Next) (put : List UnitItems) (o : UnitItems) → slice_get (shown_units raw) n ≡ Some x
        → ((u : RawUnit) → slice_get raw n ≡ Some u → after ≡ behind_unit u next)
        → ((u : RawUnit) → slice_get raw n ≡ Some u → UnitKept raw m imports (from_at from n x.first) next u o) → put ≡ new ++ o ∷ [] → Going raw m imports from begin old (n + 1) after put
    going_on x after put o shown behind kept put_is =
        let r = next_first x shown in
        let u = r.0 in
        let first = g.first in
        let after_is = behind u r.1 in
        let here = drop_here raw n u r.1 in
        let one : suc (from.unit + n) ≡ from.unit + (n + 1) = omega arith in
        let next_from : behind_from (from_at from n first) u ≡ from_at from (n + 1) (first + entry_count u) =
        (λ i. record { file = from.file; start = from.start; unit = one i; first = first + entry_count u }) in
        let mine : UnitKept raw m imports (from_at from n first) next u o = subst (λ (k : ℕ). UnitKept raw m imports (from_at from n k) next u o) r.2 (kept u r.1) in
        record {
          first = first + entry_count u;
          more = g.more ++ o ∷ [];
          order = put_is ∙ ap (λ (w : List UnitItems). w ++ o ∷ []) g.order ∙ append_assoc old g.more (o ∷ []);
          shown = r.3;
          room = subst (λ (w : Next). HasRoom w (first + entry_count u) (entries_in raw)) (sym after_is) (room_behind u);
          all = λ rest h. (
              let rest_kept : AreKept raw m imports (behind_from (from_at from n first) u) (behind_unit u next) (drop (n + 1) raw) rest =
              subst (λ (f : From). AreKept raw m imports f (behind_unit u next) (drop (n + 1) raw) rest) (sym next_from)
              (subst (λ (w : Next). AreKept raw m imports (from_at from (n + 1) (first + entry_count u)) w (drop (n + 1) raw) rest) after_is h) in
              let both : AreKept raw m imports (from_at from n first) next (u ∷ drop (n + 1) raw) (o ∷ rest) = (mine, rest_kept) in
              subst (AreKept raw m imports from begin raw) (sym (append_assoc g.more (o ∷ []) rest))
              (g.all (o ∷ rest) (subst (λ (w : List RawUnit). AreKept raw m imports (from_at from n first) next w (o ∷ rest)) (sym here) both))
              );
        }

    pub going_ends : length raw ≤ n → PutsKept raw m imports from begin old new
    going_ends le =
        let none = drop_all n raw le in
        let nothing : AreKept raw m imports (from_at from n g.first) next (drop n raw) [] = subst (λ (w : List RawUnit). AreKept raw m imports (from_at from n g.first) next w []) (sym none) tt in
        record { more = g.more; order = g.order; kept = subst (AreKept raw m imports from begin raw) (append-nil g.more) (g.all [] nothing) }

-- each unit is shown
pub shown_there : (raw : List RawUnit) (n : ℕ) → n < length raw → (x : UnitOfCode) × (slice_get (shown_units raw) n ≡ Some x)
unfolding shown_from
shown_there raw n lt = by raw 0 n lt where
  by : (us : List RawUnit) (first k : ℕ) → k < length us → (x : UnitOfCode) × (slice_get (shown_from us first) k ≡ Some x)
  by [] first k less = absurd (omega arith)
  by (u ∷ us) first zero less = (unit_shown first u, refl)
  by (u ∷ us) first (suc k) less = by us (first + entry_count u) k (omega arith)
