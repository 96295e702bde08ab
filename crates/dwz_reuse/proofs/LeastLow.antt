-- Least alike tops are tops.
use Rattle.std.proofs.Common.{◌≡◌, ℕ, ◌<◌, true, false, List, length, get_or, slice_get, sym, ap, subst, ◌∙◌, ⊎_elim, arith}
use Rattle.std.proofs.lemmas.Bool.{cases_Bool}
use Rattle.dwz_model.specs.Lists.{In}
use Rattle.dwz_model.proofs.ListFacts.{got_below, got_index_or}
use Rattle.dwz_model.proofs.Members.{in_nth, nth_get}
use Rattle.dwz_def_reading.proofs.DecideLemmas.{if_true, if_false}
use Rattle.dwz_def_tops.specs.Deciding.{is_movable}
use Rattle.dwz_def_tops.specs.Spots.{EntryName, FileUnit, tops_of}
use Rattle.dwz_def_tops.proofs.TopNumbers.{number_below, top_at, tops_numbers}
use Rattle.dwz_label.specs.Nodes.{AreLeast}

pub least_low : (units : List (FileUnit EntryName)) (least : List ℕ) → AreLeast units least → (n : ℕ) → In n least → n < length least
least_low units least are n i =
    let f = in_nth 0 least n i in
    let got = nth_get 0 least f.number f.number n f.nth (omega arith) in
    let at : get_or least f.number 0 ≡ n = got_index_or least f.number n 0 got in
    let low = got_below least f.number n got in
    let len = are.len in
    let o = top_at 0 (tops_of units) f.number (tops_numbers units) (omega arith) (omega (arith, low, len)) in
    let t = o.0 in
    let here : get_or least t.number 0 ≡ n = ap (λ (k : ℕ). get_or least k 0) o.2 ∙ at in
    ⊎_elim
    (λ (m : is_movable units t ≡ true).
    let own = if_true (is_movable units t) _ _ m (are.each t o.1) in
    let inside : get_or least t.number 0 < length (tops_of units) = own.inside in omega (arith, inside, here, len))
    (λ (m : is_movable units t ≡ false).
    let own : get_or least t.number 0 ≡ t.number = if_false (is_movable units t) _ _ m (are.each t o.1) in
    let number = o.2 in
    omega (arith, own, here, number, low))
    (cases_Bool (is_movable units t))
