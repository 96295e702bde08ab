-- The tops of references, one after the other.
use Rattle.std.proofs.Common.{◌≡◌, ℕ, zero, suc, ◌+◌, ◌<◌, List, [], ◌∷◌, ◌++◌, Option, length, take, get_or, refl, sym, ap, ◌∙◌, arith}
use Rattle.dwz_def_tops.specs.Spots.{EntryName}
use Rattle.dwz_def_reading.specs.Units.{RawUnit, entries_in}
use Rattle.dwz_graph.specs.Names.{top_in}
use Rattle.dwz_graph.specs.Resolved.{AreEntries, place_at}
use Rattle.dwz_move.specs.Known.{tops_of_refs}

pub entry_at : (raw : List RawUnit) (refs : List ℕ) (k : ℕ) → AreEntries raw refs → k < length refs → get_or refs k 0 < entries_in raw
entry_at raw [] k h l = absurd (omega arith)
entry_at raw (i ∷ refs) zero h l = h.0
entry_at raw (i ∷ refs) (suc k) h l = entry_at raw refs k h.1 (omega arith)

refs_more : (name : ℕ → EntryName) (raw : List RawUnit) (refs : List ℕ) (k : ℕ) → k < length refs → tops_of_refs name raw (take (suc k) refs) ≡ tops_of_refs name raw (take k refs)
    ++ top_in (name (place_at raw (get_or refs k 0))) ∷ []
refs_more name raw [] k l = absurd (omega arith)
refs_more name raw (i ∷ refs) zero l = refl
refs_more name raw (i ∷ refs) (suc k) l = ap (λ (ts : List (Option ℕ)). top_in (name (place_at raw i)) ∷ ts) (refs_more name raw refs k (omega arith))

pub refs_next : (name : ℕ → EntryName) (raw : List RawUnit) (refs : List ℕ) (k : ℕ) (now new : List (Option ℕ)) (top : Option ℕ) → k < length refs → now ≡ tops_of_refs name raw (take k refs)
    → top ≡ top_in (name (place_at raw (get_or refs k 0))) → new ≡ now ++ top ∷ [] → new ≡ tops_of_refs name raw (take (k + 1) refs)
refs_next name raw refs k now new top l e f g =
    let one : suc k ≡ k + 1 = omega arith in
    g ∙ (λ i. e i ++ f i ∷ []) ∙ sym (refs_more name raw refs k l) ∙ ap (λ (j : ℕ). tops_of_refs name raw (take j refs)) one
