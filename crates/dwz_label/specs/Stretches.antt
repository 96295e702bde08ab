-- Inner: labels in stretches, which workers take in turn. No public clause cites it.
use Rattle.std.specs.Prelude.{◌≡◌, ℕ, ◌+◌, ◌-◌, ◌*◌, ◌<◌, List, [], length, map, min, slice_index_or}
use Rattle.std.specs.Global.{Vec}
use Rattle.std.specs.List.{range_with_len}

-- how many stand before the stretch with that number, where each has so many but for the last ones
abbrev pub before : ℕ → ℕ → ℕ → ℕ
before count len number = min count (number * len)

-- the labels of the stretch with that number
abbrev pub stretch_of : (ℕ → List ℕ) → ℕ → ℕ → ℕ → List (List ℕ)
stretch_of label count len number =
    map label (range_with_len (before count len number) (before count len (number + 1) - before count len number))

-- the labels of all stretches before the one with that number
abbrev pub front : (ℕ → List ℕ) → ℕ → ℕ → ℕ → List (List ℕ)
front label count len number = map label (range_with_len 0 (before count len number))

-- of one of so many workers the labels of its stretches: of the one with the worker's number, and of each so many further on
pub record AreStretchesOf (label : ℕ → List ℕ) (count len workers worker : ℕ) (parts : List (List (List ℕ))) : Type 0 where
  pub many : length parts ≡ 16
  pub each : (turn : ℕ) → turn < 16 → slice_index_or parts turn [] ≡ stretch_of label count len (turn * workers + worker)

-- those of each worker
abbrev pub AreStretches : (ℕ → List ℕ) → ℕ → ℕ → List (Vec (List (List ℕ))) → Type 0
AreStretches label count len parts =
    (worker : ℕ) (d : Vec (List (List ℕ))) → worker < length parts
    → AreStretchesOf label count len (length parts) worker (slice_index_or parts worker d).items
