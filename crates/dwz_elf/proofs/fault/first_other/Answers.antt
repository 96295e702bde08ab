use Rattle.std.proofs.Common.{◌≡◌, ℕ, ◌<◌, ◌≤◌, ◌+◌, List, [], ◌∷◌, length, get_or, drop, Some, refl, sym, ◌∙◌}
use Rattle.std.proofs.lemmas.List.{drop_all, drop_more}
use Rattle.dwz_def_reading.specs.ElfReading.{first_other}
use Rattle.dwz_elf.proofs.fault.first_other.Goals as goal

-- a byte is wanted where the bytes have ended
missing : (at : ℕ) (wanted bytes : List ℕ) → at < length wanted → length bytes ≤ at → first_other at (drop at wanted) (drop at bytes) ≡ Some at
unfolding first_other
missing at wanted bytes more ended =
    let none : drop at bytes ≡ [] = drop_all at bytes ended in
    let some : drop at wanted ≡ get_or wanted at 0 ∷ drop (at + 1) wanted = drop_more wanted at 0 more in
    rw (none, some) refl

pub returns-then-at-bytes : goal.returns-then-at-bytes
returns-then-at-bytes c = sym (missing c.loop-at.at c.args.wanted.now c.args.bytes.now c.loop-at-test.true c.if-at-bytes.true) ∙ c.loop-at.invariant
