-- Names other than DW_AT_sibling.
use Rattle.std.proofs.Common.{◌≡◌, ℕ, suc, ◌+◌, ◌<◌, ◌≤◌, Bool, true, false, List, [], ◌∷◌, length, drop, get_or, refl, sym, ap, ◌∙◌, Ok}
use Rattle.std.specs.Prelude.{◌==◌, ◌≢◌, if◌then◌else◌}
use Rattle.std.proofs.lemmas.Bool.{cond-false, cond-true, eq-eqb, ne_eqb}
use Rattle.std.proofs.lemmas.List.{drop_all}
use Rattle.dwz_def_reading.specs.Input.{Input}
use Rattle.dwz_def_reading.specs.Reading.{◌>>=◌}
use Rattle.dwz_def_reading.specs.Entries.{RawAttr, attrs_at, in_entry, with_value}
use Rattle.dwz_def_reading.specs.Meanings.{without_siblings}
use Rattle.dwz_def_reading.specs.Values.{value_at, written_rows}
use Rattle.dwz_def_reading.proofs.PartLemmas.{bind_ok, same_value}
use Rattle.dwz_def_reading.proofs.ListFacts.{drop_pairs}
use Rattle.dwz_label_entries.specs.Words.{kept}
use Rattle.dwz_model.specs.declared.place.Pair.{Pair}
use Rattle.dwz_unit.specs.Values.{Reads}

pub kept_one : (pairs : List Pair) (j : ℕ) (d : Pair) → j < length pairs → (get_or pairs j d).name ≢ 0x01 → kept (drop j pairs) ≡ suc (kept (drop (j + 1) pairs))
unfolding kept
kept_one pairs j d lt ne = ap kept (drop_pairs pairs j d lt) ∙ cond-false ((get_or pairs j d).name == 0x01) _ _ (ne_eqb (get_or pairs j d).name 0x01 ne)

pub kept_other : (pairs : List Pair) (j : ℕ) (d : Pair) → j < length pairs → (get_or pairs j d).name ≡ 0x01 → kept (drop j pairs) ≡ kept (drop (j + 1) pairs)
unfolding kept
kept_other pairs j d lt e = ap kept (drop_pairs pairs j d lt) ∙ cond-true ((get_or pairs j d).name == 0x01) _ _ (eq-eqb (get_or pairs j d).name 0x01 e)

pub kept_done : (pairs : List Pair) (j : ℕ) → length pairs ≤ j → kept (drop j pairs) ≡ 0
unfolding kept
kept_done pairs j l = ap kept (drop_all j pairs l)

-- ---- of the values that are read

kept_step : (a : RawAttr) (pairs : List Pair) (attrs : List RawAttr) (b : Bool) → kept pairs ≡ length (without_siblings attrs)
    → (if b then kept pairs else suc (kept pairs)) ≡ length (if b then without_siblings attrs else (a ∷ without_siblings attrs))
kept_step a pairs attrs true e = e
kept_step a pairs attrs false e = ap suc e

read_kept : (entry : ℕ) (pairs : List Pair) (at behind : Input) (attrs : List RawAttr) → attrs_at written_rows entry pairs at ≡ Ok (attrs, behind) → kept pairs ≡ length (without_siblings attrs)
unfolding attrs_at kept without_siblings
read_kept entry [] at behind attrs e =
    let is : attrs ≡ [] = sym (same_value [] attrs at behind (Ok ([], at)) refl e) in
    ap (λ (w : List RawAttr). length (without_siblings w)) (sym is)
read_kept entry (pair ∷ pairs) at behind attrs e =
    let a = bind_ok (in_entry entry (value_at written_rows pair at)) (λ x. attrs_at written_rows entry pairs x.1 >>= with_value at.at x.1.at pair x.0) (attrs, behind) e in
    let b = bind_ok (attrs_at written_rows entry pairs a.0.1) (with_value at.at a.0.1.at pair a.0.0) (attrs, behind) a.2 in
    let first : RawAttr = record { at = at.at; end = a.0.1.at; pair = pair; raw = a.0.0 } in
    let same = same_value (first ∷ b.0.0) attrs b.0.1 behind (with_value at.at a.0.1.at pair a.0.0 b.0) refl b.2 in
    let rest = read_kept entry pairs a.0.1 b.0.1 b.0.0 b.1 in
    kept_step first pairs b.0.0 (pair.name == 0x01) rest ∙ ap (λ (w : List RawAttr). length (without_siblings w)) same

pub kept_reads : (entry : ℕ) (pairs : List Pair) (at : Input) (attrs : List RawAttr) → Reads entry pairs at attrs → kept pairs ≡ length (without_siblings attrs)
kept_reads entry pairs at attrs reads = read_kept entry pairs at reads.behind attrs reads.read
