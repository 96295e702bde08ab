-- The numbers of a file's references, by the places that its entries name.
use Rattle.std.proofs.Common.{◌≡◌, ℕ, zero, suc, ◌+◌, ◌<◌, List, [], ◌∷◌, drop, Some, slice_get, refl, sym, ap, subst, ◌∙◌, arith}
use Rattle.std.specs.Prelude.{slice_index}
use Rattle.dwz_def_reading.specs.Units.{RawUnit, entries_in}
use Rattle.dwz_def_reading.specs.Documents.{Doc}
use Rattle.dwz_graph.specs.Resolved.{place_at}
use Rattle.dwz_graph.specs.Rows.{AreTargets}
use Rattle.dwz_def_tops.specs.Spots.{EntryName}
use Rattle.dwz_def_images.specs.Moves.{Move, image_in}
use Rattle.dwz_layout_numbers.specs.Images.{AreImages, IsImage}
use Rattle.dwz_graph.specs.AllNames.{all_names}
use Rattle.dwz_layout_numbers.proofs.OwnerSteps.{got_or}

target_at : (raw : List RawUnit) (refs places : List ℕ) → AreTargets raw refs places → (j p : ℕ) → slice_get places j ≡ Some p
    → (e : ℕ) × (slice_get refs j ≡ Some e) × (e < entries_in raw) × (place_at raw e ≡ p)
target_at raw refs [] h j p e = absurd cc
target_at raw [] (q ∷ places) h j p e = absurd h
target_at raw (i ∷ refs) (q ∷ places) h zero p e = (i, refl, h.0, (let same : q ≡ p = cc in h.1 ∙ same))
target_at raw (i ∷ refs) (q ∷ places) h (suc j) p e = target_at raw refs places h.2 j p e

got_drop : (xs : List ℕ) (n j x : ℕ) → slice_get (drop n xs) j ≡ Some x → slice_get xs (n + j) ≡ Some x
got_drop xs zero j x e = let z : 0 + j ≡ j = omega arith in ap (slice_get xs) z ∙ e
got_drop [] (suc n) j x e = absurd cc
got_drop (y ∷ xs) (suc n) j x e = let z : suc n + j ≡ suc (n + j) = omega arith in ap (slice_get (y ∷ xs)) z ∙ got_drop xs n j x e

image_at : (docs : List (Doc ℕ)) (m : Move) (names : List EntryName) (refs numbers : List ℕ) → AreImages docs m names refs numbers → (k e : ℕ) → slice_get refs k ≡ Some e
    → (n : ℕ) × (slice_get numbers k ≡ Some n) × IsImage docs m names e n
image_at docs m names [] [] h k e g = absurd cc
image_at docs m names [] (n ∷ numbers) h k e g = absurd h
image_at docs m names (r ∷ refs) [] h k e g = absurd h
image_at docs m names (r ∷ refs) (n ∷ numbers) h zero e g = (n, refl, (let same : r ≡ e = cc in subst (λ (w : ℕ). IsImage docs m names w n) same h.0))
image_at docs m names (r ∷ refs) (n ∷ numbers) h (suc k) e g = image_at docs m names refs numbers h.1 k e g

pub reference_named : (docs : List (Doc ℕ)) (m : Move) (names : List EntryName) (name : ℕ → EntryName) (raw : List RawUnit) (refs numbers places : List ℕ) (n : ℕ)
    → AreImages docs m names refs numbers
    → ((i : ℕ) → i < entries_in raw → slice_get names i ≡ Some (name (place_at raw i))) → AreTargets raw (drop n refs) places → (j p : ℕ) → slice_get places j ≡ Some p
    → slice_get (all_names docs) (slice_index numbers (n + j)) ≡ Some (image_in m (name p))
reference_named docs m names name raw refs numbers places n h named targets j p e =
    let t = target_at raw (drop n refs) places targets j p e in
    let i = image_at docs m names refs numbers h (n + j) t.0 (got_drop refs n j t.0 t.1) in
    let at : slice_index numbers (n + j) ≡ i.0 = got_or numbers (n + j) i.0 0 i.1 in
    let both : Some i.2.name ≡ Some (name (place_at raw t.0)) = sym i.2.is ∙ named t.0 t.2 in
    let same : i.2.name ≡ name (place_at raw t.0) = cc in
    ap (slice_get (all_names docs)) at ∙ i.2.there ∙ (λ k. Some (image_in m ((same ∙ ap name t.3) k)))
