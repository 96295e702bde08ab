-- In the rows that are written, too, tops are no spaces, and spaces are.
use Rattle.std.proofs.Common.{◌≡◌, ℕ, suc, ◌||◌, not, Bool, true, false, List, [], ◌∷◌, None, refl, inl, inr}
use Rattle.std.specs.List.{filter}
use Rattle.dwz_def_reading.specs.Documents.{language}
use Rattle.dwz_def_reading.specs.Lists.{In}
use Rattle.dwz_def_tops.specs.Spaces.{space_text}
use Rattle.dwz_def_tops.proofs.Members.{in_filter_from}
use Rattle.dwz_def_tops.specs.Deciding.{same_bool}
use Rattle.dwz_def_tops.specs.Spots.{ASpace, ATop, EntryName, FileUnit, Nothing, Row, SpaceName, Top, rows_of_root, tops_of}
use Rattle.dwz_def_tops.proofs.RowLemmas.{unit_row}
use Rattle.dwz_def_tops.proofs.Tops.{unit_of}
use Rattle.dwz_def_plan.specs.IsPlan.{OfTop}
use Rattle.dwz_def_plan.specs.Plan.{PartialUnit, Pinned, beside, chain_down, chains, in_root, kept_row, leading, part_row, pinned_of, row_part, row_pinned, row_staying, same_names, top_row}
use Rattle.dwz_def_plan.proofs.PartRows.{entry_text}
use Rattle.dwz_def_images.proofs.OldRows.{kind_in, row_kinded, tops_somewhere}
use Rattle.dwz_def_images.specs.Held.{Kinded}

pub top_plain : (units : List (FileUnit EntryName)) (t : Top) → In t (tops_of units) → space_text t.node ≡ None
top_plain units t is =
    let o = unit_of units t is in
    let r = unit_row units t.unit o.unit o.nth o.compile in
    let k = row_kinded o.unit.file t.unit (language o.unit.unit) [] r.first (rows_of_root units t.unit) o.unit.unit.below r.is in
    let s = tops_somewhere (rows_of_root units t.unit) k t o.in_row in
    kind_in (rows_of_root units t.unit) k s.names (OfTop t) s.has

staying_kinded : (moving : ℕ → Bool) (row : Row) → Kinded row → Kinded (row_staying moving row)
unfolding row_staying
staying_kinded moving Nothing k = tt
staying_kinded moving (ATop t next) k = go (staying_kinded moving next k.1) (moving t.number) where
  go : Kinded (row_staying moving next) → (b : Bool) → Kinded (elim b as (λ _. Row) [ true ↦ row_staying moving next | false ↦ ATop t (row_staying moving next) ])
  go more true = more
  go more false = (k.0, more)
staying_kinded moving (ASpace e inner next) k = (k.0, staying_kinded moving inner k.1, staying_kinded moving next k.2)

part_kinded : (p : Pinned) (want : Bool) (row last : Row) → Kinded row → Kinded last → Kinded (row_part p want row last)
unfolding row_part
part_kinded p want Nothing last k l = l
part_kinded p want (ATop t next) last k l = go (part_kinded p want next last k.1 l) (same_bool (p.top t.number) want) where
  go : Kinded (row_part p want next last) → (b : Bool) → Kinded (elim b as (λ _. Row) [ true ↦ ATop t (row_part p want next last) | false ↦ row_part p want next last ])
  go more true = (k.0, more)
  go more false = more
part_kinded p want (ASpace e inner next) last k l = go (part_kinded p want next last k.2 l) (part_kinded p true inner (row_part p false inner Nothing) k.1 (part_kinded p false inner Nothing k.1 tt))
    (same_bool (p.space e.at || row_pinned p inner) want) where
      go : Kinded (row_part p want next last) → Kinded (row_part p true inner (row_part p false inner Nothing)) → (b : Bool)
          → Kinded (elim b as (λ _. Row) [ true ↦ ASpace e (row_part p true inner (row_part p false inner Nothing)) (row_part p want next last) | false ↦ row_part p want next last ])
      go more inside true = (k.0, inside, more)
      go more inside false = more

pub kept_kinded : (gone : ℕ → Bool) (units : List (FileUnit EntryName)) (i : ℕ) → Kinded (rows_of_root units i) → Kinded (kept_row gone units i)
kept_kinded gone units i k =
    let p = pinned_of units in
    let s = staying_kinded gone (rows_of_root units i) k in
    part_kinded p true (row_staying gone (rows_of_root units i)) (row_part p false (row_staying gone (rows_of_root units i)) Nothing) s (part_kinded p false (row_staying gone (rows_of_root units i))
    Nothing s tt)

top_row_kinded : (tops : List Top) (last : Row) → ((t : Top) → In t tops → space_text t.node ≡ None) → Kinded last → Kinded (top_row tops last)
unfolding top_row
top_row_kinded [] last h k = k
top_row_kinded (t ∷ tops) last h k = (h t (inl refl), top_row_kinded tops last (λ u is. h u (inr is)) k)

beside_kinded : (a b : Row) → Kinded a → Kinded b → Kinded (beside a b)
unfolding beside
beside_kinded Nothing b k l = l
beside_kinded (ATop t a) b k l = (k.0, beside_kinded a b k.1 l)
beside_kinded (ASpace e i a) b k l = (k.0, k.1, beside_kinded a b k.2 l)

down_kinded : (part chain depth : ℕ) (spaces : List SpaceName) (inner : Row) → Kinded inner → Kinded (chain_down part chain depth spaces inner)
unfolding chain_down
down_kinded part chain depth [] inner k = k
down_kinded part chain depth (s ∷ spaces) inner k = ((s.text, entry_text part chain depth s), down_kinded part chain (suc depth) spaces inner k, tt)

chains_kinded : (part : ℕ) (tops : List Top) (chain : ℕ) (leads : List Top) → ((t : Top) → In t tops → space_text t.node ≡ None) → Kinded (chains part tops chain leads)
unfolding chains
chains_kinded part tops chain [] h = tt
chains_kinded part tops chain (t ∷ leads) h =
    beside_kinded (chain_down part chain 0 t.spaces (top_row (filter (same_names t) tops) Nothing)) (chains part tops (suc chain) leads)
    (down_kinded part chain 0 t.spaces (top_row (filter (same_names t) tops) Nothing)
    (top_row_kinded (filter (same_names t) tops) Nothing (λ u is. h u (in_filter_from (same_names t) u tops is).0) tt))
    (chains_kinded part tops (suc chain) leads h)

pub part_row_kinded : (n : ℕ) (part : PartialUnit) → ((t : Top) → In t part.tops → space_text t.node ≡ None) → Kinded (part_row n part)
part_row_kinded n part h =
    top_row_kinded (filter in_root part.tops) (chains n part.tops 0 (leading (filter (λ t. not (in_root t)) part.tops))) (λ t is. h t (in_filter_from in_root t part.tops is).0)
    (chains_kinded n part.tops 0 (leading (filter (λ t. not (in_root t)) part.tops)) h)
