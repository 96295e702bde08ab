-- Contents whose elements are numbers below 256 are contents of bytes.
use Rattle.std.proofs.Common.{ℕ, suc, ◌^◌, ◌<◌, List, [], ◌∷◌, arith}
use Rattle.std.specs.Prelude.{All}
use Rattle.dwz_def_reading.specs.Values.{AreBytes}
use Rattle.dwz_def_reading.specs.Lists.{Each}
use Rattle.dwz_run_course.specs.Gets.{AreOfBytes}

are_bytes : (content : List ℕ) → All (λ byte. byte < 2 ^ 8) content → AreBytes content
are_bytes [] all = tt
are_bytes (b ∷ content) all = (all 0 0 (omega arith), are_bytes content (λ k d less. all (suc k) d (omega (arith, less))))

pub each_bytes : (contents : List (List ℕ)) → AreOfBytes contents → Each AreBytes contents
each_bytes [] all = tt
each_bytes (c ∷ contents) all = (are_bytes c (all 0 [] (omega arith)), each_bytes contents (λ k d less. all (suc k) d (omega (arith, less))))
