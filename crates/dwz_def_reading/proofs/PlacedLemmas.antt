-- Sections that are placed one behind the other end no lower than they begin.
use Rattle.std.proofs.Common.{ℕ, ◌≤◌, arith, ◌+◌, List, [], ◌∷◌, length}
use Rattle.std.specs.Int.{next_multiple_of}
use Rattle.dwz_def_reading.specs.ElfLayout.{align_at, placed_end, placed_from}
use Rattle.dwz_def_reading.specs.ElfReading.{ElfView}

pub up_le : (start align : ℕ) → start ≤ next_multiple_of start align
up_le start align = omega arith

pub placed_end-least : (e : ElfView) (contents : ℕ → List ℕ) (start : ℕ) (order : List (ℕ × ℕ)) → start ≤ placed_end start (placed_from e contents start order)
unfolding placed_from
placed_end-least e contents start [] = omega arith
placed_end-least e contents start (key ∷ order) =
    let at = next_multiple_of start (align_at e key.1) in
    let next = at + length (contents key.1) in
    let here : start ≤ at = up_le start (align_at e key.1) in
    let more : next ≤ placed_end next (placed_from e contents next order) = placed_end-least e contents next order in
    omega (arith, here, more)
